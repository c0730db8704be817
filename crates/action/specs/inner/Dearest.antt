-- For proofs of inner functions: the dearest price of our table. `dearest_most` (laws/Bounds.antt) says that no row's is above it.
-- Assumes nothing.
use Rattle.std.specs.Prelude.{ℕ}

abbrev pub dearest : ℕ
dearest = 250
