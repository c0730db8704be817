-- `action_set::bits::put_members` meets its contract.
-- Assumes nothing.
use Rattle.action_set.proofs.Rising.{Rising}
use Rattle.action_set.proofs.bits.put_members.Given as goal

abbrev pub invariant-loop-m : goal.invariant-loop-m
invariant-loop-m l = Rising l.s l.initial.out l.out l.at l.m
