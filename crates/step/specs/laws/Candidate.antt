-- That a number is an action's and a row is inside its bounds has at most one proof.
-- Assumes nothing.
use Rattle.std.specs.Prelude.{ℕ, ◌<◌, Option, Some, None}
use Rattle.std.specs.Coded.{Unit-prop, le_prop}
use Rattle.std.proofs.Props.{props}
use Rattle.action.specs.Known.{actions}
use Rattle.action.specs.Amount.{AtMost, AtLeast}
use Rattle.action.specs.Bounds.{RowBounds}
use Rattle.action.specs.declared.table.Attributes.{Attributes}

at_most_prop : (most : ℕ) (amount : Option ℕ) → IsProp (AtMost most amount)
at_most_prop most (Some amount) = le_prop
at_most_prop most None = Unit-prop

at_least_prop : (least : ℕ) (amount : Option ℕ) → IsProp (AtLeast least amount)
at_least_prop least (Some amount) = le_prop
at_least_prop least None = Unit-prop

pub bounds_prop : (n : ℕ) (row : Attributes) → IsProp ((n < actions) × RowBounds n row)
bounds_prop n row = hlevel (props, at_most_prop, at_least_prop)
