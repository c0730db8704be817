-- `Bits::keep` meets its contract: the walk's laws, at each rule that the test's answers follow. The measure is what remains.
-- Assumes nothing.
use Rattle.std.proofs.Common.{sym, ◌∙◌, arith}
use Rattle.laws.specs.laws.Bits.{has_low}
use Rattle.laws.specs.laws.Walk.{done, stays, goes}
use Rattle.action_set.proofs.bits.Bits.keep.Goals as goal

pub overflow_sub-remaining : goal.overflow_sub-remaining
overflow_sub-remaining g c = omega (arith, has_low _ _ c.next-n.ensures.is)

pub overflow_sub-kept : goal.overflow_sub-kept
overflow_sub-kept g c = omega (arith, has_low _ _ c.next-n.ensures.is)

-- the member fails the test
pub loop-remaining-preserved-then-not-test : goal.loop-remaining-preserved-then-not-test
loop-remaining-preserved-then-not-test g c =
    let l = c.loop-remaining.invariant in
    record {
      part = omega arith;
      less = omega arith;
      walk = λ p follows.
          goes (l.walk p follows) c.args.self.inside c.next-n.ensures c.bit-b.ensures
          (sym (follows _ _ c.next-n.ensures.known c.test.ensures) ∙ c.if-not-test.true);
    }

-- the member passes it
pub loop-remaining-preserved : goal.loop-remaining-preserved
loop-remaining-preserved g c =
    let l = c.loop-remaining.invariant in
    record {
      part = omega arith;
      less = omega arith;
      walk = λ p follows.
          stays (l.walk p follows) c.args.self.inside c.next-n.ensures c.bit-b.ensures
          (sym (follows _ _ c.next-n.ensures.known c.test.ensures) ∙ c.if-not-test.false);
    }

pub returns : goal.returns
returns g c = λ p follows. done (c.loop-remaining.invariant.walk p follows) c.loop-remaining-test.false
