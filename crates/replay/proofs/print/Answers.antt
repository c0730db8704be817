-- `replay::print` is safe and ends: what it writes is within its room.
-- Assumes nothing.
use Rattle.std.proofs.Common.{◌≤◌, length, arith, sym, length-take-le}
use Rattle.crafty.specs.laws.Program.{printed_within}
use Rattle.replay.proofs.print.Goals as goal

pub slice_bounds-out-end : goal.slice_bounds-out-end
slice_bounds-out-end g c = omega (arith, printed_within _ c.replay_output.ensures (omega arith) c.in-Ok.is, c.replay_output.auto.out)

pub slice_bounds-write_all-end : goal.slice_bounds-write_all-end
slice_bounds-write_all-end g c =
    let within : c.in-Ok.k ≤ length c.replay_output.new.out = omega (arith, printed_within _ c.replay_output.ensures (omega arith) c.in-Ok.is, c.replay_output.auto.out) in
    sym (length-take-le _ _ within)
