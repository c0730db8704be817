-- A child that was visited no less than another, and did no better, has no greater ucb1: so no root has to be worked out to know it.
-- Assumes nothing.
use Rattle.std.specs.Prelude.{◌≡◌, false, not, T, Float}
use Rattle.std.proofs.Common.{◌∙◌, ap}
use Rattle.std.specs.Float.{binary32}
use Rattle.std.specs.Float.Ieee.{mul, div, le, lt}
use Rattle.std.specs.Float.Ieee.Bits.{is_true}
use Rattle.std.specs.Float.Ieee.Fits.{div-fits}
use Rattle.laws.specs.laws.Order.{lt_or_ge}
use Rattle.laws.specs.laws.Small.{small_finite}
use Rattle.laws.specs.laws.Monotone.{add_up, over_down}
use Rattle.laws.proofs.Within.{within_finite}
use Rattle.sqrt.specs.laws.Order.{sqrt_up}
use Rattle.ucb1.specs.Ucb1.{exploitation_of, exploration_of, ucb1_of}
use Rattle.ucb1.specs.Fair.{Fair}
use Rattle.ucb1.proofs.Bounds.{product_small, product_least, quotient_small, quotient_least, exploitation_within, exploration_within, ucb1_finite}

module _ {w c ln visits sum maximum visits' sum' maximum' : Float} (fair : Fair w c ln visits sum maximum) (fair' : Fair w c ln visits' sum' maximum')
    (more : T (le visits visits')) where
  pub exploration_down : T (le (exploration_of c ln visits') (exploration_of c ln visits))
  exploration_down =
      let p = mul binary32 c ln in
      sqrt_up (div binary32 p visits') (div binary32 p visits) (div-fits binary32 p visits') (div-fits binary32 p visits) (quotient_least fair')
      (small_finite (div binary32 p visits') 272 (quotient_small fair')) (small_finite (div binary32 p visits) 272 (quotient_small fair))
      (over_down binary32 p visits visits' (product_least fair) (small_finite p 272 (product_small fair)) fair.visited fair.counted fair'.counted more)

  pub ucb1_dominated : T (le (exploitation_of w visits' sum' maximum') (exploitation_of w visits sum maximum))
      → T (le (ucb1_of w c ln visits' sum' maximum') (ucb1_of w c ln visits sum maximum))
  ucb1_dominated no_better =
      add_up binary32 (exploitation_of w visits' sum' maximum') (exploitation_of w visits sum maximum) (exploration_of c ln visits') (exploration_of c ln visits)
      (within_finite (exploitation_within fair')) (within_finite (exploitation_within fair)) (within_finite (exploration_within fair'))
      (within_finite (exploration_within fair)) no_better exploration_down

  -- so it does not take the other's place
  pub dominated_not_above : T (le (exploitation_of w visits' sum' maximum') (exploitation_of w visits sum maximum))
      → lt (ucb1_of w c ln visits sum maximum) (ucb1_of w c ln visits' sum' maximum') ≡ false
  dominated_not_above no_better =
      lt_or_ge (ucb1_of w c ln visits sum maximum) (ucb1_of w c ln visits' sum' maximum') (ucb1_finite fair) (ucb1_finite fair')
      ∙ ap not (is_true (le (ucb1_of w c ln visits' sum' maximum') (ucb1_of w c ln visits sum maximum)) (ucb1_dominated no_better))
