-- A test of two lists, known by what it answers: what rests on `same→eq`.
-- Assumes nothing.
use Rattle.std.specs.Prelude.{◌≡◌, refl, Bool, true, false, List, ℕ, T}
use Rattle.std.proofs.Common.{sym, subst, ◌∙◌}
use Rattle.laws.specs.Lists.{same}
use Rattle.laws.specs.laws.Same.{same→eq, same_refl}

-- an answer that is true exactly where two lists are equal is the test's
pub same_is : (r : Bool) (xs ys : List ℕ) → (r ≡ true → xs ≡ ys) → (xs ≡ ys → r ≡ true) → r ≡ same ys xs
same_is true xs ys f g = rw (f refl) (sym (same_refl ys))
same_is false xs ys f g = by (same ys xs) refl
  where
    by : (b : Bool) → same ys xs ≡ b → false ≡ same ys xs
    by true e = g (sym (same→eq ys xs (subst (λ (x : Bool). T x) (sym e) tt))) ∙ sym e
    by false e = sym e
