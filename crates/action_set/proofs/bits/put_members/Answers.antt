-- `action_set::bits::put_members` meets its contract.
-- Assumes nothing.
use mathlib.Core.Path.{sym, ◌∙◌}
use native.Mathlib.Omega.{arith}
use Rattle.action_set.proofs.Rising.{rising_start, rising_room, rising_with, rising_without, rising_end}
use Rattle.action_set.proofs.bits.put_members.Goals as goal
use Rattle.action_set.proofs.bits.put_members.Goals.{then-holds, else-holds}

pub loop-m-init : goal.loop-m-init
loop-m-init c = rising_start _ _

pub bounds-out-at : goal.bounds-out-at
bounds-out-at c = omega (arith, rising_room c.loop-m.invariant c.loop-m-test.true (sym c.holds.ensures ∙ c.if-holds.true))

pub loop-m-preserved : goal.loop-m-preserved
loop-m-preserved c =
    elim c.if-holds.branch [
      | then-holds w ↦ rw (w.out-is, w.at-is) (rising_with c.loop-m.invariant c.loop-m-test.true (sym c.holds.ensures ∙ w.if-holds.true))
      | else-holds w ↦ rw (w.out-is, w.at-is) (rising_without c.loop-m.invariant c.loop-m-test.true (sym c.holds.ensures ∙ w.if-holds.false))
    ]

pub returns : goal.returns
returns c = rising_end c.loop-m.invariant c.loop-m-test.false
