-- `transcript::rows::put_rows` meets its contract.
-- Assumes nothing.
use mathlib.Core.Path.{◌≡◌}
use Prim.Native.Nat.{◌+◌, ◌*◌, ◌≤◌}
use lib.ListN.{length, drop}
use Rattle.text.specs.Over.{over}
use Rattle.craft_state.specs.Inside.{CraftIn}
use Rattle.transcript.specs.Transcript.{row_most, rows_of}
use Rattle.transcript.specs.inner.Played.{Played}
use Rattle.transcript.proofs.rows.put_rows.Given as goal

abbrev pub invariant-loop-n : goal.invariant-loop-n
invariant-loop-n l =
    CraftIn l.context l.state
    × Played l.context l.state (drop l.n-index l.part)
    × (over l.out l.end (rows_of l.context l.state (drop l.n-index l.part)) ≡ over l.initial.out l.initial.end (rows_of l.context l.initial.state l.part))
    × (l.end + length (rows_of l.context l.state (drop l.n-index l.part)) ≡ l.initial.end + length (rows_of l.context l.initial.state l.part))
    × (l.end ≤ l.initial.end + row_most * l.n-index)
    × (length l.out ≡ length l.initial.out)
