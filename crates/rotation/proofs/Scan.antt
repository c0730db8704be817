-- The first byte that fails a test ends the front that passes it.
-- Assumes nothing.
use Rattle.std.proofs.Common.{◌≡◌, sym, refl, arith, ℕ, suc, ◌+◌, ◌≤◌, ◌<◌, List, [], ◌∷◌, length, Bool, true, false, Option, Some, None}
use Rattle.std.specs.Prelude.{cond, not, position, unwrap_or, nat_lt}
use Rattle.std.specs.List.{position_or_len}
use Rattle.std.proofs.lemmas.List.Sums.{prefix_len-le-length}
use Rattle.std.proofs.lemmas.Bool.Decides.{nat_tests}
use Rattle.laws.specs.Lists.{front}

module _ (f g : ℕ → Bool) (other : (b : ℕ) → g b ≡ not (f b)) where
  front_is : (xs : List ℕ) → position_or_len g xs ≡ front f xs
  front_is [] = refl
  front_is (b ∷ xs) = rw (other b) (by (f b) (front_is xs))
    where
      by : (t : Bool) → position_or_len g xs ≡ front f xs → cond (not (not t)) (1 + position_or_len g xs) 0 ≡ cond t (suc (front f xs)) 0
      by true e = omega arith
      by false e = refl

  pub first_is : (xs : List ℕ) {r : Option ℕ} → r ≡ position g xs → unwrap_or r (length xs) ≡ front f xs
  first_is xs {r} e = rw (sym (front_is xs), e) (by (position_or_len g xs) (length xs) (prefix_len-le-length (λ (b : ℕ). not (g b)) xs))
    where
      by : (n m : ℕ) → n ≤ m → unwrap_or (cond (nat_lt n m) (Some n) None) m ≡ n
      by n m h = grind (arith, nat_tests)

  pub first_below : (xs : List ℕ) {n : ℕ} → Some n ≡ position g xs → n < length xs
  first_below xs {n} e = by (position_or_len g xs) e
    where
      by : (k : ℕ) → Some n ≡ cond (nat_lt k (length xs)) (Some k) None → n < length xs
      by k e = grind (arith, nat_tests)
