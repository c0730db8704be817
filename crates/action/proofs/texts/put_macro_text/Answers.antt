-- `action::texts::put_macro_text` meets its contract.
-- Assumes nothing.
use native.Mathlib.Omega.{arith}
use Rattle.text.specs.laws.Over.{then}
use Rattle.action.specs.Names.{macro_of}
use Rattle.action.specs.laws.Names.{macro_length}
use Rattle.action.proofs.texts.put_macro_text.Goals as goal

pub put-label-requires : goal.put-label-requires
unfolding macro_of
put-label-requires c = omega (arith, c.requires.1, macro_length c.args.n)

pub put_quoted_label-end-requires : goal.put_quoted_label-end-requires
unfolding macro_of
put_quoted_label-end-requires c = (c.requires.0, omega (arith, c.requires.1, macro_length c.args.n, c.put-label.ensures.next, c.put-label.auto))

pub put_wait-requires : goal.put_wait-requires
unfolding macro_of
put_wait-requires c = omega (arith, c.requires.1, macro_length c.args.n, c.put_quoted_label-end.ensures.next, c.put_quoted_label-end.auto, c.put-label.ensures.next, c.put-label.auto)

pub returns : goal.returns
unfolding macro_of
returns c = then c.put-label.ensures (then c.put_quoted_label-end.ensures c.put_wait.ensures)
