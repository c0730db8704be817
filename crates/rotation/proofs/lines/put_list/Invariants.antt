-- `rotation::lines::put_list` meets its contract: the rest of the text, stored where the next line goes, is the whole text stored at the start.
-- Assumes nothing.
use Rattle.std.proofs.Common.{◌≡◌, ◌+◌, length, drop}
use Rattle.text.specs.Over.{over}
use Rattle.rotation.specs.Lines.{list_text_of}
use Rattle.rotation.proofs.lines.put_list.Given as goal

abbrev pub invariant-loop-n : goal.invariant-loop-n
invariant-loop-n l =
    (l.at + length (list_text_of (drop l.n-index l.list)) ≡ length (list_text_of l.list))
    × (over l.out l.at (list_text_of (drop l.n-index l.list)) ≡ over l.initial.out 0 (list_text_of l.list))
    × (length l.out ≡ length l.initial.out)
