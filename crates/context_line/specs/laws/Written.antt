-- Theorem: fifteen numbers, written as a line and read again, are these numbers.
-- Assumes nothing.
use Rattle.std.specs.Prelude.{◌≡◌, refl, true, List, [], ◌∷◌, ◌++◌, ℕ, suc, ◌+◌, ◌^◌, ◌<◌, eqb, length, take, drop, get_or}
use Rattle.std.proofs.Common.{ap, ◌∙◌, append-nil, arith, le-leb, length-append}
use Rattle.std.proofs.Math.Seq.{take-append_seam, drop-append-add, get_or-append_seam}
use Rattle.laws.specs.laws.Tests.{and_both}
use Rattle.text.specs.Decimal.{decimal_of}
use Rattle.text.specs.laws.Lengths.{decimal_length, decimal_some}
use Rattle.text.specs.Reading.{value_of, Each, DecimalDigit}
use Rattle.text.specs.laws.Value.{decimal_value, decimal_digits}
use Rattle.context_line.specs.Shape.{digits, digits_most, wide, shaped, values_of, fields, others, line_shaped, numbers_of}

-- ---- the line

-- n and the numbers after it in decimal, with one space between two
unfoldable pub written_from : ℕ → List ℕ → List ℕ
written_from n [] = decimal_of n
written_from n (m ∷ rest) = decimal_of n ++ 32 ∷ written_from m rest

abbrev pub written_of : List ℕ → List ℕ
written_of [] = []
written_of (n ∷ rest) = written_from n rest

-- what can be written in ten digits
abbrev pub Brief : ℕ → Type 0
Brief n = n < 10 ^ digits_most

-- ---- a number at the front of a text

-- digits before a text that starts with none
digits_through : (a b : List ℕ) → Each DecimalDigit a → digits b ≡ 0 → digits (a ++ b) ≡ length a
digits_through [] b e z = z
digits_through (x ∷ a) b e z = rw (le-leb 48 x e.0.0, le-leb x 57 e.0.1) (ap suc (digits_through a b e.1 z))

module _ (n : ℕ) (h : Brief n) (b : List ℕ) (z : digits b ≡ 0) where
  count : digits (decimal_of n ++ b) ≡ length (decimal_of n)
  count = digits_through (decimal_of n) b (decimal_digits n) z

  broad : wide (digits (decimal_of n ++ b)) ≡ true
  broad =
      ap wide count
      ∙ and_both (le-leb 1 (length (decimal_of n)) (decimal_some n)) (le-leb (length (decimal_of n)) digits_most (decimal_length digits_most n (omega arith) h))

  value : value_of (take (digits (decimal_of n ++ b)) (decimal_of n ++ b)) ≡ n
  value = ap (λ (k : ℕ). value_of (take k (decimal_of n ++ b))) count ∙ ap value_of (take-append_seam (decimal_of n) b) ∙ decimal_value n h

-- ---- the theorem

record Reads (more : ℕ) (text numbers : List ℕ) : Type 0 where
  shape : shaped more text ≡ true
  values : values_of more text ≡ numbers

-- a number alone
last_reads : (n : ℕ) → Brief n → Reads 0 (decimal_of n) (n ∷ [])
unfolding shaped values_of
last_reads n h =
    let text = decimal_of n ++ [] in
    let whole = le-leb (length text) (digits text) (omega (arith, count n h [] refl, length-append (decimal_of n) [])) in
    let r : Reads 0 text (n ∷ []) = record { shape = and_both (broad n h [] refl) whole; values = ap (λ (v : ℕ). v ∷ []) (value n h [] refl) } in
    rw append-nil at r

-- a number before others
next_reads : (n : ℕ) → Brief n → {more : ℕ} {rest numbers : List ℕ} → Reads more rest numbers
    → Reads (suc more) (decimal_of n ++ 32 ∷ rest) (n ∷ numbers)
unfolding shaped values_of
next_reads n h {more} {rest} r =
    let text = decimal_of n ++ 32 ∷ rest in
    let w : suc (digits text) ≡ length (decimal_of n) + 1 = omega (arith, count n h (32 ∷ rest) refl) in
    let space : eqb (get_or text (digits text) 0) 32 ≡ true =
    ap (λ (k : ℕ). eqb (get_or text k 0) 32) (count n h (32 ∷ rest) refl)
    ∙ ap (λ (b : ℕ). eqb b 32) (get_or-append_seam (decimal_of n) 32 rest 0)
    in
    let past : drop (suc (digits text)) text ≡ rest = ap (λ (k : ℕ). drop k text) w ∙ drop-append-add (decimal_of n) (32 ∷ rest) 1 in
    record {
      shape = and_both (broad n h (32 ∷ rest) refl) (and_both space (ap (shaped more) past ∙ r.shape));
      values = rw (value n h (32 ∷ rest) refl, past, r.values);
    }

from_reads : (n : ℕ) (rest : List ℕ) → Brief n → Each Brief rest → Reads (length rest) (written_from n rest) (n ∷ rest)
unfolding written_from
from_reads n [] h e = last_reads n h
from_reads n (m ∷ rest) h e = next_reads n h (from_reads m rest e.0 e.1)

pub line_reads : (numbers : List ℕ) → length numbers ≡ fields → Each Brief numbers
    → (line_shaped (written_of numbers) ≡ true) × (numbers_of (written_of numbers) ≡ numbers)
line_reads [] c e = absurd (omega arith)
line_reads (n ∷ rest) c e =
    let r = from_reads n rest e.0 e.1 in
    let count : length rest ≡ others = omega arith in
    (rw count at r.shape, rw count at r.values)
