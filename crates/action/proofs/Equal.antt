-- What the library's comparisons of bytes say: a byte is in a list where one is equal, and two lists are the same where each byte is.
-- Assumes nothing.
use Rattle.std.specs.Prelude.{◌≡◌, Bool, true, false, List, [], ◌∷◌, ℕ, ◌==◌, eqb}
use Rattle.std.specs.List.{list_any}
use Rattle.std.proofs.Common.{refl, sym, eqb-true, ne_eqb}
use Rattle.std.proofs.lemmas.Bool.{eqb-false}
use Rattle.laws.specs.Lists.{elem, same}
use borrow.Author.Tests.{eq-eqb}
use lib.Pointwise.{pointwise}

turned : (n m : ℕ) → (n == m) ≡ eqb m n
turned n m = by (n == m) refl
  where
    by : (b : Bool) → (n == m) ≡ b → b ≡ eqb m n
    by true e = sym (eq-eqb m n (sym (eqb-true n m e)))
    by false e = sym (ne_eqb m n (λ f. eqb-false n m e (sym f)))

pub any_is_elem : (list : List ℕ) (m : ℕ) → list_any (λ y. y == m) list ≡ elem list m
unfolding elem
any_is_elem [] m = refl
any_is_elem (n ∷ rest) m = rw (turned n m, any_is_elem rest m)

pub each_is_same : (xs ys : List ℕ) → pointwise eqb xs ys ≡ same ys xs
each_is_same [] [] = refl
each_is_same [] (y ∷ ys) = refl
each_is_same (x ∷ xs) [] = refl
each_is_same (x ∷ xs) (y ∷ ys) = rw (turned x y, each_is_same xs ys)
