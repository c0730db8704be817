-- Laws of the ten bytes that hold a number in decimal.
-- Assumes nothing.
use mathlib.Core.Path.{◌≡◌, sym, ap, subst, ◌∙◌}
use mathlib.Core.List.{List, ◌∷◌, ◌++◌}
use Prim.Native.Nat.{ℕ, zero, suc, ◌+◌, ◌-◌, ◌/◌, ◌^◌, ◌≤◌, ◌<◌, min}
use native.Mathlib.Nat.{pow-suc, suc-add, zero-add}
use native.Mathlib.Omega.{arith}
use lib.IntN.{ℤ, pos, negsuc, nat_abs}
use lib.ListN.{length, take, drop, replicate, length-append, length-replicate, length-drop}
use lib.Seq.{take_all}
use Rattle.text.specs.Decimal.{decimal_of, signed_of, right_of}
use Rattle.text.specs.inner.Spelled.{Spelled, held_of}
use Rattle.text.specs.declared.decimal.Digits.{Digits}

-- where a number has another digit, the rest of it has one place less
pub fewer : (i : ℕ) {rest : ℕ} → 10 ≤ rest → rest < 10 ^ i → (0 < i - 1) × (rest / 10 < 10 ^ (i - 1))
fewer zero h f = absurd (omega arith)
fewer (suc zero) h f = absurd (omega arith)
fewer (suc (suc j)) h f = let e : suc (suc j) - 1 ≡ suc j = omega arith in (omega arith, rw e (omega (arith, pow-suc 10 (suc j))))

drop_spaces : (k m : ℕ) (text : List ℕ) → drop k (replicate (k + m) 32 ++ text) ≡ replicate m 32 ++ text
drop_spaces zero m text = simp zero-add
drop_spaces (suc k) m text = simp suc-add (drop_spaces k m text)

module _ {text : List ℕ} {d : Digits} (s : Spelled text d) where
  pub spelled_count : d.from + length text ≡ 10
  spelled_count = sym (ap length s.same ∙ simp (length-append, length-replicate)) ∙ s.ten

  -- without k of the spaces before it
  spelled_drop : (k m : ℕ) → d.from ≡ k + m → drop k d.bytes ≡ replicate m 32 ++ text
  spelled_drop k m e = rw (s.same, e) (drop_spaces k m text)

  pub spelled_held : held_of d ≡ text
  spelled_held = spelled_drop d.from 0 (omega arith)

  pub spelled_self : Spelled (held_of d) d
  spelled_self = subst (λ (t : List ℕ). Spelled t d) (sym spelled_held) s

  -- from the lesser of its start and the width's on it is the text right-aligned
  pub spelled_right : (w : ℕ) {start : ℕ} → w ≤ 10 → start ≡ min d.from (10 - w) → take (length d.bytes - start) (drop start d.bytes) ≡ right_of w text
  unfolding right_of
  spelled_right w {start} h e =
      take_all (length d.bytes - start) (drop start d.bytes) (simp length-drop (omega arith))
      ∙ spelled_drop start (w - length text) (omega (arith, spelled_count))

-- the texts of a negative number and of another, m the number without its sign
pub signed_negative : {z : ℤ} {k m : ℕ} → z ≡ negsuc k → m ≡ nat_abs z → 45 ∷ decimal_of m ≡ signed_of z
unfolding signed_of
signed_negative e h = rw (h, e)

pub signed_plain : {z : ℤ} {n m : ℕ} → z ≡ pos n → m ≡ nat_abs z → decimal_of m ≡ signed_of z
unfolding signed_of
signed_plain e h = rw (h, e)
