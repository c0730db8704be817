-- `moves::at_once::strict_part` meets its contract.
-- Assumes nothing.
use mathlib.Core.Path.{sym, ◌∙◌}
use Rattle.laws.specs.Bits.{collect}
use Rattle.action.specs.Table.{action_of, attributes_of}
use Rattle.moves.specs.laws.AtOnce.{eye_leaves, beyond_leaves}
use Rattle.moves.proofs.at_once.strict_part.Goals as goal

-- TrainedEye alone
pub returns-then-is_eye_alone : goal.returns-then-is_eye_alone
unfolding collect
returns-then-is_eye_alone c =
    let eye = sym c.is_eye_alone.ensures ∙ c.if-is_eye_alone.true in
    c.within.ensures ∙ eye_leaves c.args.craft.context c.args.craft.state eye attributes_of c.args.set.bits

-- those that finish
pub progress_moves-requires : goal.progress_moves-requires
unfolding collect action_of
progress_moves-requires c = simp (c.keep_finishing-finish.ensures, c.within-2.ensures)

-- the rules one after the other
pub returns : goal.returns
returns c =
    let eye = sym c.is_eye_alone.ensures ∙ c.if-is_eye_alone.false in
    simp (c.progress_moves.ensures, c.kind_moves-kind.ensures, c.strict_moves-strict.ensures)
    (beyond_leaves c.args.craft.context c.args.craft.state eye attributes_of c.args.set.bits)
