-- Laws of a way that is followed from record to record by a rule, where the numbers rise and stay below a bound: more steps than are needed change nothing,
-- how a loop goes along it, that it has fewer records than the bound, and that two rules which say the same go the same way.
-- Assumes nothing.
use Rattle.std.specs.Prelude.{◌≡◌, ℕ, zero, suc, ◌+◌, ◌<◌, ◌≤◌, List, [], ◌∷◌, length}
use Rattle.std.proofs.Math.Path.{refl, ap}
use Rattle.std.proofs.Common.{◌∙◌}
use native.Mathlib.Omega.{arith}
use Rattle.tree.specs.Tree.{onward}
use Rattle.tree.specs.inner.Few.{follow_in, Rises}

module _ (next : ℕ → ℕ) (bound : ℕ) (rises : Rises next bound) where
  pub follow_steps : (f g k : ℕ) → bound ≤ f + k → bound ≤ g + k → follow_in next f k ≡ follow_in next g k
  unfolding follow_in
  follow_steps zero zero k p q = refl
  follow_steps zero (suc g) k p q = go (next k) refl
    where
      go : (b : ℕ) → next k ≡ b → [] ≡ onward b (follow_in next g)
      go zero e = refl
      go (suc b) e = absurd (omega (arith, rises.up k (omega (arith, e)), rises.below k (omega (arith, e))))
  follow_steps (suc f) zero k p q = go (next k) refl
    where
      go : (b : ℕ) → next k ≡ b → onward b (follow_in next f) ≡ []
      go zero e = refl
      go (suc b) e = absurd (omega (arith, rises.up k (omega (arith, e)), rises.below k (omega (arith, e))))
  follow_steps (suc f) (suc g) k p q = go (next k) refl (λ b r. follow_steps f g b (omega arith) (omega arith))
    where
      go : (b : ℕ) → next k ≡ b → ((b : ℕ) → k < b → follow_in next f b ≡ follow_in next g b)
          → onward b (follow_in next f) ≡ onward b (follow_in next g)
      go zero e rest = refl
      go (suc b) e rest = ap (λ (l : List ℕ). suc b ∷ l) (rest (suc b) (omega (arith, e, rises.up k (omega (arith, e)))))

  -- step by step, for the loops
  pub follow_next : (k : ℕ) → follow_in next bound k ≡ onward (next k) (follow_in next bound)
  unfolding follow_in
  follow_next k = follow_steps bound (suc bound) k (omega arith) (omega arith)

  pub follow_length : (steps k : ℕ) → k < bound → length (follow_in next steps k) + k < bound
  unfolding follow_in
  follow_length zero k h = omega arith
  follow_length (suc steps) k h = go (next k) refl (follow_length steps)
    where
      go : (b : ℕ) → next k ≡ b → ((b : ℕ) → b < bound → length (follow_in next steps b) + b < bound)
          → length (onward b (follow_in next steps)) + k < bound
      go zero e rest = omega arith
      go (suc b) e rest =
          omega (arith, rest (suc b) (omega (arith, e, rises.below k (omega (arith, e)))), rises.up k (omega (arith, e)), e)

  -- a second rule, which says the same below the bound
  pub follow_same : (other : ℕ → ℕ) → ((k : ℕ) → k < bound → next k ≡ other k) → (steps k : ℕ) → k < bound → follow_in next steps k ≡ follow_in other steps k
  unfolding follow_in
  follow_same other same zero k h = refl
  follow_same other same (suc steps) k h = ap (λ (b : ℕ). onward b (follow_in next steps)) (same k h) ∙ go (other k) (same k h) (follow_same other same steps)
    where
      go : (b : ℕ) → next k ≡ b → ((b : ℕ) → b < bound → follow_in next steps b ≡ follow_in other steps b)
          → onward b (follow_in next steps) ≡ onward b (follow_in other steps)
      go zero e rest = refl
      go (suc b) e rest = ap (λ (l : List ℕ). suc b ∷ l) (rest (suc b) (omega (arith, e, rises.below k (omega (arith, e)))))
