-- `append::put` meets its contract: what is copied over a range is what `over` stores there.
-- Assumes nothing.
use Rattle.std.proofs.Common.{refl, arith, append_assoc, ◌+◌, length}
use borrow.Rule.Slice.PartMut.{Post-is}
use Rattle.text.specs.laws.Over.{over_is}
use Rattle.text.proofs.append.put.Goals as goal

pub returns : goal.returns
returns c =
    let out = c.args.out.now in
    let text = c.args.text.now in
    let at = c.args.at in
    record {
      next = refl;
      same = rw (c.copy_from_slice.ensures.after, Post-is at (at + length text) out (omega arith), over_is text out at c.requires, append_assoc);
    }
