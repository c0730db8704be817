-- Laws of runs of digits.
-- Assumes nothing.
use Rattle.std.specs.Prelude.{◌≡◌, refl, Bool, true, false, cond, List, [], ◌∷◌, ℕ, zero, suc, ◌+◌, ◌*◌, ◌-◌, ◌^◌, ◌≤◌, ◌<◌, leb, length, take, drop, get_or}
use Rattle.std.specs.List.{prefix_len}
use Rattle.std.proofs.Common.{one-add, not-suc-le-zero, le_of_suc-le-suc, pow-suc, add-one, arith, leb-true, drop_of_length-le, get_or-take, length-take-le}
use Rattle.laws.specs.laws.Front.{front_le}
use Rattle.laws.specs.laws.Lists.{drop_at}
use Rattle.laws.specs.laws.Tests.{both}
use Rattle.text.specs.Reading.{value_in}
use Rattle.context_line.specs.Shape.{digit, digits, digits_most}
use Rattle.laws.specs.Lists.{front}
use Rattle.context_line.specs.inner.Line.{Run}

module _ {b : ℕ} (d : digit b ≡ true) where
  pub digit_from : 48 ≤ b
  digit_from = leb-true 48 b (both (leb 48 b) (leb b 57) d).0

  pub digit_to : b ≤ 57
  digit_to = leb-true b 57 (both (leb 48 b) (leb b 57) d).1

-- a front is the library's prefix
pub front_prefix : (f : ℕ → Bool) (text : List ℕ) → prefix_len f text ≡ front f text
front_prefix f [] = refl
front_prefix f (b ∷ text) = rw (front_prefix f text, one-add)

-- each element of a front passes the test
front_each : (f : ℕ → Bool) (text : List ℕ) (i : ℕ) → i < front f text → f (get_or text i 0) ≡ true
front_each f [] i h = absurd (not-suc-le-zero h)
front_each f (b ∷ text) i h = by (f b) refl (front_each f text) i h
  where
    by : (g : Bool) → f b ≡ g → ((j : ℕ) → j < front f text → f (get_or text j 0) ≡ true)
        → (j : ℕ) → j < cond g (suc (front f text)) 0 → f (get_or (b ∷ text) j 0) ≡ true
    by true e later zero k = e
    by true e later (suc j) k = later j (le_of_suc-le-suc k)
    by false e later j k = absurd (not-suc-le-zero k)

-- the digits that a text starts with are a run, where they are not too many
pub run_front : (text : List ℕ) → digits text ≤ digits_most → Run (take (digits text) text)
run_front text h =
    let l : length (take (digits text) text) ≡ digits text = length-take-le (digits text) text (front_le digit text) in
    record {
      few = omega arith;
      each = λ i k. let less : i < digits text = omega arith in rw get_or-take (front_each digit text i less);
    }

-- digits read after a value
abbrev pub value_after : ℕ → List ℕ → ℕ
value_after value text = value_in 10 (λ b. b - 48) value text

-- a walk over a run, at place i: a digit more, no digit left
module _ (text : List ℕ) {i : ℕ} (value : ℕ) where
  pub value_on : i < length text → value_after value (drop i text) ≡ value_after (value * 10 + (get_or text i 0 - 48)) (drop (i + 1) text)
  value_on h = rw (drop_at text i h)

  pub value_end : length text ≤ i → value_after value (drop i text) ≡ value
  value_end h = rw (drop_of_length-le text h)

pub value_below : (i : ℕ) {value d : ℕ} → value < 10 ^ i → d ≤ 9 → value * 10 + d < 10 ^ (i + 1)
value_below i v d = rw add-one (omega (arith, pow-suc 10 i))
