-- `moves::at_once::moves_at_once` meets its contract.
-- Assumes nothing.
use mathlib.Core.Path.{◌≡◌, sym, ◌∙◌}
use Rattle.laws.specs.Bits.{collect}
use Rattle.action.specs.Table.{action_of, attributes_of}
use Rattle.action.specs.laws.Bounds.{rows_bounded}
use Rattle.moves.specs.laws.Moves.{moves_ended, moves_on}
use Rattle.moves.specs.laws.AtOnce.{either_of, plain_at_once, strict_at_once}
use Rattle.moves.proofs.at_once.moves_at_once.Goals as goal
use Rattle.moves.proofs.at_once.moves_at_once.Goals.{After-own_moves-own}

-- what either mode leaves
left : (c : After-own_moves-own)
    → c.own_moves-own.result.bits ≡ either_of c.args.craft.context c.args.craft.state attributes_of rows_bounded c.args.craft.context.action_pool.0
unfolding collect action_of
left c = simp (c.own_moves-own.ensures, c.unless-set.ensures)

pub returns-then-has_ended : goal.returns-then-has_ended
returns-then-has_ended c = sym (moves_ended attributes_of c.args.craft.context c.args.craft.state c.args.mode (sym c.has_ended.ensures ∙ c.if-has_ended.true))

pub returns-then-mode : goal.returns-then-mode
returns-then-mode c =
    let going = sym c.has_ended.ensures ∙ c.if-has_ended.false in
    let all = strict_at_once c.args.craft.context c.args.craft.state attributes_of rows_bounded c.args.craft.context.action_pool.0 c.args.mode c.if-mode.true in
    simp (c.keep_payable.ensures, c.strict_part.ensures, left (goal.at.returns-then-mode c).After-own_moves-own)
    (all ∙ sym (moves_on attributes_of c.args.craft.context c.args.craft.state c.args.mode going))

pub returns : goal.returns
returns c =
    let going = sym c.has_ended.ensures ∙ c.if-has_ended.false in
    let all = plain_at_once c.args.craft.context c.args.craft.state attributes_of rows_bounded c.args.craft.context.action_pool.0 c.args.mode c.if-mode.false in
    simp (c.keep_payable-2.ensures, left (goal.at.returns c).After-own_moves-own)
    (all ∙ sym (moves_on attributes_of c.args.craft.context c.args.craft.state c.args.mode going))
