-- `search::plan::score_in` meets its contract: the source's 0.0 is that whole number.
-- Assumes nothing.
use Rattle.std.proofs.Common.{◌≡◌, refl}
use lib.Ieee.{Float, of_int, of_bits}
use Rattle.score.specs.declared.result.CraftResult.{CraftResult}
use Rattle.score.specs.declared.result.CraftResult.TheVariants as R
use Rattle.tree.specs.Node.{plus_zero}
use Rattle.search.specs.Iterate.{score_in}
use Rattle.search.proofs.plan.score_in.Goals as goal

unfinished : (result : CraftResult) → ((score : Float) → result ≡ R.Finished score → ⊥) → plus_zero ≡ score_in result
unfinished (R.Finished score) apart = absurd (apart score refl)
unfinished R.DurabilityFailure apart = refl
unfinished R.MaxStepsFailure apart = refl
unfinished R.InvalidActionFailure apart = refl
unfinished R.Continuing apart = refl

pub returns-in_default : goal.returns-in_default
unfolding of_int of_bits
returns-in_default c = unfinished c.args.res c.in_default.not-Finished
