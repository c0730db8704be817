-- `decimal::U32Decimal::spell` meets its contract: each turn spells the last digit of what is left.
-- Assumes nothing.
use mathlib.Core.Path.{refl}
use native.Mathlib.Omega.{arith}
use borrow.Author.Tests.{lt-ltb, le-ltb}
use lib.ListN.{length-set}
use Rattle.text.proofs.Spelling.{unspelled, turn, last}
use Rattle.text.proofs.SpelledLaws.{fewer}
use Rattle.text.specs.Decimal.{decimal, decimal_of}
use Rattle.text.proofs.decimal.U32Decimal.spell.Goals as goal

pub loop-rest-init : goal.loop-rest-init
unfolding decimal_of
loop-rest-init c = (unspelled decimal 10 c.args.self, omega arith, omega arith, omega arith, refl)

pub returns-then-rest-lt10 : goal.returns-then-rest-lt10
returns-then-rest-lt10 c =
    let l = c.loop-rest in
    record { same = last l.invariant.2 l.invariant.0 (lt-ltb l.rest 10 c.if-rest-lt10.true); ten = simp length-set l.invariant.4 }

pub loop-rest-preserved : goal.loop-rest-preserved
loop-rest-preserved c =
    let l = c.loop-rest in
    let f = fewer l.from c.if-rest-lt10.false l.invariant.1 in
    (turn l.invariant.2 l.invariant.0 (le-ltb l.rest 10 c.if-rest-lt10.false), f.1, f.0, omega arith, simp length-set l.invariant.4)
