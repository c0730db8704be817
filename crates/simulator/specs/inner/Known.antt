-- For the contracts of inner functions: known actions, as a fact of each.
-- Assumes nothing.
use Rattle.std.specs.Prelude.{List, [], ◌∷◌, ℕ, ◌<◌}
use Rattle.action.specs.Known.{actions}

abbrev pub AllKnown : List ℕ → Type 0
AllKnown [] = Unit {0}
AllKnown (n ∷ rest) = (n < actions) × AllKnown rest
