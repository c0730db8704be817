-- `rotation::lines::put_list` meets its contract: the rest of the text, stored where the next line goes, is the whole text stored at the start.
-- Assumes nothing.
use Rattle.std.proofs.Common.{arith, ap, sym, ◌∙◌, length}
use Rattle.action.specs.laws.Known.{known_each}
use Rattle.rotation.specs.laws.Lines.{lines_length, lines_turn, lines_end}
use Rattle.text.specs.Over.{over}
use Rattle.text.specs.laws.Over.{over_none}
use Rattle.rotation.proofs.lines.put_list.Goals as goal

pub put_line-at-requires : goal.put_line-at-requires
put_line-at-requires c =
    (known_each _ c.requires.0 c.loop-n.n-index c.loop-n-test.true, omega (arith, lines_length c.args.list.now c.loop-n.n-index c.loop-n-test.true, c.requires.1))

pub loop-n-preserved : goal.loop-n-preserved
loop-n-preserved c =
    let l = c.loop-n in (
      omega (arith, lines_length c.args.list.now l.n-index c.loop-n-test.true, c.put_line-at.ensures.next),
      lines_turn _ l.n-index c.loop-n-test.true c.put_line-at.ensures ∙ l.invariant.1,
      c.put_line-at.auto.out ∙ l.invariant.2,
    )

pub returns : goal.returns
returns c =
    let l = c.loop-n in
    let none = lines_end c.args.list.now c.loop-n-test.false in
    record { next = omega (arith, ap length none); same = sym (over_none l.out l.at) ∙ sym (ap (over l.out l.at) none) ∙ l.invariant.1 }
