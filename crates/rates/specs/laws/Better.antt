-- `better_of` by the tests that the code makes, and what is known of the best child then.
-- Assumes nothing.
use Rattle.std.specs.Prelude.{◌≡◌, refl, Bool, true, false, cond, ◌&&◌, ℕ, T, Float, Option, Some, None}
use Rattle.std.proofs.Common.{sym, subst, ◌∙◌}
use Rattle.std.specs.Float.Ieee.{le, lt}
use Rattle.laws.specs.laws.Tests.{both}
use Rattle.ucb1.proofs.Dominated.{dominated_not_above}
use Rattle.rates.specs.declared.Best.{Best}
use Rattle.rates.specs.declared.Weights.{Weights}
use Rattle.rates.specs.Best.{gained_of, rate_of, rated, child_of, better_of}
use Rattle.rates.specs.inner.Holds.{Kept, Asks}

module _ (k : ℕ) (visits sum maximum : Float) (weights : Weights) where
  -- what the answer r has to be
  abbrev Answers : Option Best → Best → Type 0
  Answers best r = (r ≡ better_of best k visits sum maximum weights) × Kept weights r

  module _ (gained : Float) (gained_is : gained ≡ gained_of visits sum maximum weights) where
    module _ (child : Best) (child_is : child ≡ rated k visits gained weights) where
      same : child ≡ child_of k visits sum maximum weights
      same = rw (← gained_is) child_is

      child_kept : {best : Option Best} → Asks best visits sum maximum weights → Kept weights child
      child_kept asks = rw same (record { sum = sum; maximum = maximum; fair = asks.fair; rate_is = refl; gained_is = refl })

      pub first : Asks None visits sum maximum weights → Answers None child
      unfolding better_of
      first asks = (same, child_kept asks)

    module _ (best : Best) (asks : Asks (Some best) visits sum maximum weights) where
      answer_is : (e : Bool) → lt best.rate (rate_of visits sum maximum weights) ≡ e
          → cond e (child_of k visits sum maximum weights) best ≡ better_of (Some best) k visits sum maximum weights
      unfolding better_of
      answer_is e h = rw h

      not_above : Kept weights best → T (le best.visits visits) → T (le gained best.gained) → lt best.rate (rate_of visits sum maximum weights) ≡ false
      not_above kept more no_better =
          rw kept.rate_is (dominated_not_above kept.fair asks.fair more (rw (← gained_is, ← kept.gained_is) no_better))

      pub passed_over : le best.visits visits && le gained best.gained ≡ true → Answers (Some best) best
      passed_over h =
          let v = both (le best.visits visits) (le gained best.gained) h in
          (answer_is false (not_above asks.holds (subst T (sym v.0) tt) (subst T (sym v.1) tt)), asks.holds)

      module _ (child : Best) (child_is : child ≡ rated k visits gained weights) where
        pub taken : lt best.rate child.rate ≡ true → Answers (Some best) child
        taken h = (same child child_is ∙ answer_is true (rw (same child child_is) at h), child_kept child child_is asks)

        pub left : lt best.rate child.rate ≡ false → Answers (Some best) best
        left h = (answer_is false (rw (same child child_is) at h), asks.holds)
