-- Tests that compare: two lists are the same, and a rule holds of each number below a bound.
-- Assumes nothing.
use Rattle.std.specs.Prelude.{◌≡◌, refl, Bool, true, false, not, ◌&&◌, List, [], ◌∷◌, ℕ, zero, suc, ◌<◌, T, eqb}
use Rattle.std.proofs.Common.{sym, subst, ⊎_elim, eq-or-lt_of_le, le_of_suc-le-suc, not-suc-le-zero, eqb→eq, eq-eqb}
use Rattle.laws.specs.laws.Tests.{and_left, and_right}
use Rattle.laws.specs.Lists.{same}

abbrev pub same_bool : Bool → Bool → Bool
same_bool true b = b
same_bool false b = not b

pub same_bool_lem : (x y : Bool) → T (same_bool x y) → x ≡ y
same_bool_lem true true t = refl
same_bool_lem true false t = absurd t
same_bool_lem false true t = absurd t
same_bool_lem false false t = refl

pub same→eq : (xs ys : List ℕ) → T (same xs ys) → xs ≡ ys
same→eq [] [] t = refl
same→eq [] (y ∷ ys) t = absurd t
same→eq (x ∷ xs) [] t = absurd t
same→eq (x ∷ xs) (y ∷ ys) t =
    let p : x ≡ y = eqb→eq x y (and_left (eqb x y) (same xs ys) t) in
    let q : xs ≡ ys = same→eq xs ys (and_right (eqb x y) (same xs ys) t) in
    cc

pub same_refl : (xs : List ℕ) → same xs xs ≡ true
same_refl [] = refl
same_refl (x ∷ xs) = rw (eq-eqb x x refl, same_refl xs)

-- a test that holds of each number below m
abbrev pub below : (ℕ → Bool) → ℕ → Bool
below f zero = true
below f (suc m) = f m && below f m

pub below_at : (f : ℕ → Bool) (m n : ℕ) → n < m → T (below f m) → T (f n)
below_at f zero n h t = absurd (not-suc-le-zero h)
below_at f (suc m) n h t =
    ⊎_elim (λ (p : n ≡ m). subst (λ (x : ℕ). T (f x)) (sym p) (and_left (f m) (below f m) t))
    (λ (p : n < m). below_at f m n p (and_right (f m) (below f m) t)) (eq-or-lt_of_le (le_of_suc-le-suc h))
