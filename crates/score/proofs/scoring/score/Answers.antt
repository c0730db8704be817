-- `score::scoring::score` meets its contract.
-- Assumes nothing.
use Rattle.std.proofs.Common.{◌≡◌, not, T, arith, eq-eqb, ne_eqb}
use lib.Ieee.{Float, is_nan}
use Rattle.score.specs.Score.{score_of}
use Rattle.score.specs.laws.Score.{score_no_nan}
use Rattle.score.proofs.scoring.score.Goals as goal
use Rattle.score.proofs.scoring.score.Goals.{Start}

-- an answer that is the score is no NaN: the steps are at most 255 by their type
told : (c : Start) {r : Float} → r ≡ score_of c.args.craft.context c.args.craft.state → (r ≡ score_of c.args.craft.context c.args.craft.state) × T (not (is_nan r))
told c e = (e, rw e (score_no_nan c.args.craft.context c.args.craft.state c.args.craft.inside (omega arith) (omega arith)))

pub returns-then-craft-eq0 : goal.returns-then-craft-eq0
unfolding score_of
returns-then-craft-eq0 c = told (goal.at.returns-then-craft-eq0 c).Start (simp (eq-eqb _ _ c.if-craft-eq0.true, c.fewer_steps.ensures))

pub returns : goal.returns
unfolding score_of
returns c = told (goal.at.returns c).Start (simp (ne_eqb _ _ c.if-craft-eq0.false, c.weighed.ensures))
