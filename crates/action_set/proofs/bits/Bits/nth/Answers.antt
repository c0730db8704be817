-- `Bits::nth` meets its contract: what is still to be taken off what remains names the same member.
-- Assumes nothing.
use mathlib.Core.Path.{◌≡◌, sym, ap, ◌∙◌}
use Prim.Native.Nat.{suc, ◌+◌, ◌-◌}
use native.Mathlib.Omega.{arith}
use Rattle.laws.specs.laws.Bits.{top_member, without_old}
use Rattle.action.specs.Known.{actions}
use Rattle.action_set.specs.Sets.{nth_of}
use Rattle.action_set.specs.laws.Nth.{some_left, first_is_top, next_of_rest, size_of_rest}
use Rattle.action_set.proofs.bits.Bits.nth.Goals as goal

pub top-requires : goal.top-requires
top-requires c = some_left _ c.loop.invariant.1

pub remove-remaining-requires : goal.remove-remaining-requires
remove-remaining-requires c = (top_member actions _ _ c.loop.remaining.inside c.top.ensures).known

-- the highest member is taken off
pub loop-preserved : goal.loop-preserved
loop-preserved c =
    let rest = next_of_rest _ _ c.loop.remaining.inside c.top.ensures (c.args.n - (c.loop.counter + 1)) in
    let size = size_of_rest _ _ c.loop.remaining.inside c.top.ensures in
    let one : suc (c.args.n - (c.loop.counter + 1)) ≡ c.args.n - c.loop.counter = omega (arith, c.loop-test.true) in
    let member = top_member actions _ _ c.loop.remaining.inside c.top.ensures in
    let off = c.remove-remaining.ensures ∙ without_old actions _ _ c.loop.remaining.inside member.known member.is in
    rw off (sym rest ∙ ap (nth_of _) one ∙ c.loop.invariant.0, omega (arith, size, one, c.loop.invariant.1))

pub top-requires-2 : goal.top-requires-2
top-requires-2 c = some_left _ c.loop.invariant.1

pub returns : goal.returns
returns c =
    let l = c.loop in
    let none : 0 ≡ c.args.n - l.counter = omega (arith, c.loop-test.false) in
    sym (first_is_top _ _ l.remaining.inside c.top-2.ensures) ∙ ap (nth_of _) none ∙ l.invariant.0
