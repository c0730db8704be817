-- Laws of a `match` on a number n that answers by a table f: what an arm of single numbers and an arm of ranges know.
-- Assumes nothing.
use Rattle.std.specs.Prelude.{◌≡◌, Bool, true, false, ◌&&◌, ◌||◌, ◌⊎◌, List, [], ◌∷◌, ℕ, zero, suc, ◌+◌, ◌≤◌, ◌<◌, T}
use Rattle.std.proofs.Common.{sym, ap, subst, ⊎_elim, eq-or-lt_of_le, arith}
use Rattle.laws.specs.laws.Tests.{and_left, and_right, or_cases}
use mir.Val.{has_key}
use types.Run.{OneOf, hit}

-- An arm of single numbers, `4 =>`: the answer is the table's at 4. Of `4 | 5 | 7` it is `⊎_elim (at f) (⊎_elim (at f) (at f))`
pub at : {A : Type 0} (f : ℕ → A) {n k : ℕ} → n ≡ k → f k ≡ f n
at f e = sym (ap f e)

-- Where an arm of ranges is reached, `c.match.rest` says that n is none of the arms' single numbers, which are listed last arm first
abbrev pub NoneOf : List (List ℕ) → ℕ → Type 0
NoneOf [] n = Unit {0}
NoneOf (ks ∷ arms) n = NoneOf arms n × (OneOf ks n → ⊥)

abbrev named : List (List ℕ) → ℕ → Bool
named [] n = false
named (ks ∷ arms) n = has_key ks n || named arms n

spare : (arms : List (List ℕ)) (n : ℕ) → NoneOf arms n → T (named arms n) → ⊥
spare [] n r t = t
spare (ks ∷ arms) n r t = ⊎_elim (λ h. r.1 (hit ks n h)) (λ h. spare arms n r.0 h) (or_cases (has_key ks n) (named arms n) t)

-- An arm of ranges, or `_`, is reached where n is none of the single numbers and lies from lo to below lo + k, by the tests on the way.
-- The test that antt computes: v is the table's answer at each of those numbers that no arm names. `same` compares two answers
module _ {A : Type 0} (same : A → A → Bool) (sound : (x y : A) → T (same x y) → x ≡ y) (f : ℕ → A) where
  abbrev pub clear : A → List (List ℕ) → ℕ → ℕ → Bool
  clear v arms lo zero = true
  clear v arms lo (suc k) = (named arms lo || same v (f lo)) && clear v arms (suc lo) k

  pub sift : {v : A} (arms : List (List ℕ)) (lo k : ℕ) {n : ℕ} → T (clear v arms lo k) → NoneOf arms n → lo ≤ n → n < lo + k → v ≡ f n
  sift {v} arms lo zero t r l h = absurd (omega arith)
  sift {v} arms lo (suc k) {n} t r l h =
      ⊎_elim
      (λ (p : lo ≡ n). here p (or_cases (named arms lo) (same v (f lo)) (and_left (named arms lo || same v (f lo)) (clear v arms (suc lo) k) t)))
      (λ (p : lo < n). sift arms (suc lo) k (and_right (named arms lo || same v (f lo)) (clear v arms (suc lo) k) t) r p (omega arith))
      (eq-or-lt_of_le l)
    where
      here : lo ≡ n → T (named arms lo) ⊎ T (same v (f lo)) → v ≡ f n
      here p = ⊎_elim (λ h. absurd (spare arms n r (subst (λ (x : ℕ). T (named arms x)) p h))) (λ h. subst (λ (x : ℕ). v ≡ f x) p (sound v (f lo) h))
