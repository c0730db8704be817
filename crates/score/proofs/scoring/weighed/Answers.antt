-- `score::scoring::weighed` meets its contract.
-- Assumes nothing.
use Rattle.std.proofs.Common.{w8, SFits, rules}
use mir.ValLaws.{to_z-of_z}
use Rattle.laws.specs.laws.Floats.{fifth_bits, sixty_five_bits, twentieth_bits}
use Rattle.score.specs.Score.{weighed_of}
use Rattle.score.proofs.scoring.weighed.Goals as goal
use Rattle.score.proofs.scoring.weighed.Goals.{Start}

-- the signed fields fit their byte, so they are what was passed on
level : (c : Start) → SFits w8 c.args.state.durability
level c = search rules

most : (c : Start) → SFits w8 c.args.context.durability_max
most c = search rules

pub returns : goal.returns
unfolding weighed_of
returns c =
    let at_start = (goal.at.returns c).Start in
    simp (
      fifth_bits,
      sixty_five_bits,
      twentieth_bits,
      to_z-of_z w8 _ (level at_start),
      to_z-of_z w8 _ (most at_start),
      c.fewer_steps-fewer.ensures,
      c.whole_part-cp.ensures,
      c.part-durability.ensures,
      c.whole_part-quality.ensures,
      c.whole_part-progress.ensures,
    )
