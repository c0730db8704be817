-- Document 02, E7: "Port `search_oneshot` with `select`, `ucb1` and `expand_and_rollout`"; "in place of `ln` a table of f32". The number that a child of
-- the search is picked by, as simulator.rs works it out: every operation is rounded to binary32, in the order of the Rust.
-- Assumes nothing.
use Rattle.std.specs.Prelude.{Float}
use Rattle.std.specs.Float.{binary32}
use Rattle.std.specs.Float.Ieee.{add, sub, mul, div}
use Rattle.laws.specs.Floats.{one}
use Rattle.sqrt.specs.Sqrt.{sqrt_of}

-- (1 - w) × (score_sum / visits) + w × max_score
abbrev pub exploitation_of : Float → Float → Float → Float → Float
exploitation_of w visits sum maximum = add binary32 (mul binary32 (sub binary32 one w) (div binary32 sum visits)) (mul binary32 w maximum)

-- √(c × ln / visits), where ln is of the parent's visits
abbrev pub exploration_of : Float → Float → Float → Float
exploration_of c ln visits = sqrt_of (div binary32 (mul binary32 c ln) visits)

abbrev pub ucb1_of : Float → Float → Float → Float → Float → Float → Float
ucb1_of w c ln visits sum maximum = add binary32 (exploitation_of w visits sum maximum) (exploration_of c ln visits)
