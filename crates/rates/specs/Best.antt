-- Document 02, E7: "Port `search_oneshot` with `select`, `ucb1` ..". Of a record's children `select` of simulator.rs takes the one of the greatest ucb1, and of
-- equals the last. In a walk from the newest on, that is the first that no other is above.
-- Assumes nothing.
use Rattle.std.specs.Prelude.{cond, ℕ, Float, Option, Some, None}
use Rattle.std.specs.Float.{binary32}
use Rattle.std.specs.Float.Ieee.{add, lt}
use Rattle.ucb1.specs.Ucb1.{exploitation_of, exploration_of, ucb1_of}
use Rattle.rates.specs.declared.Best.{Best}
use Rattle.rates.specs.declared.Weights.{Weights}

abbrev pub gained_of : Float → Float → Float → Weights → Float
gained_of visits sum maximum weights = exploitation_of weights.w visits sum maximum

abbrev pub rate_of : Float → Float → Float → Weights → Float
rate_of visits sum maximum weights = ucb1_of weights.w weights.c weights.ln visits sum maximum

-- child k, from what it gained
abbrev pub rated : ℕ → Float → Float → Weights → Best
rated k visits gained weights = record { at = k; rate = add binary32 gained (exploration_of weights.c weights.ln visits); visits = visits; gained = gained }

abbrev pub child_of : ℕ → Float → Float → Float → Weights → Best
child_of k visits sum maximum weights =
    record { at = k; rate = rate_of visits sum maximum weights; visits = visits; gained = gained_of visits sum maximum weights }

-- the best so far, if there is one, when child k comes after those that it was found among
unfoldable pub better_of : Option Best → ℕ → Float → Float → Float → Weights → Best
better_of None k visits sum maximum weights = child_of k visits sum maximum weights
better_of (Some best) k visits sum maximum weights = cond (lt best.rate (rate_of visits sum maximum weights)) (child_of k visits sum maximum weights) best
