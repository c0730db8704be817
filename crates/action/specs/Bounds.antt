-- Document 02's bounds of a row, of which document 01's table is one: what the engine above the table uses of any row, and never its numbers.
-- Assumes nothing.
use Rattle.std.specs.Prelude.{◌≡◌, ℕ, ◌<◌}
use Rattle.action.specs.Actions.{StandardTouch, AdvancedTouch}
use Rattle.action.specs.Limits.{progress_most, quality_most, wear_most, price_most, discount_price}
use Rattle.action.specs.Known.{actions}
use Rattle.action.specs.Amount.{present, AtMost, AtLeast}
use Rattle.action.specs.Table.{attributes_of}
use Rattle.action.specs.declared.table.Attributes.{Attributes}

-- the attributes that are none are those of the table
pub record SameShape (row ours : Attributes) : Type 0 where
  pub progress : present row.progress_efficiency ≡ present ours.progress_efficiency
  pub quality : present row.quality_efficiency ≡ present ours.quality_efficiency
  pub durability : present row.durability_cost ≡ present ours.durability_cost
  pub price : present row.cp_cost ≡ present ours.cp_cost

pub record RowBounds (n : ℕ) (row : Attributes) : Type 0 where
  pub progress : AtMost progress_most row.progress_efficiency
  pub quality : AtMost quality_most row.quality_efficiency
  pub durability : AtMost wear_most row.durability_cost
  pub price : AtMost price_most row.cp_cost
  -- so that a discount is never a surcharge
  pub standard : n ≡ StandardTouch → AtLeast discount_price row.cp_cost
  pub advanced : n ≡ AdvancedTouch → AtLeast discount_price row.cp_cost
  pub shape : SameShape row (attributes_of n)

-- ---- a table: a row for each action's number

abbrev pub Rows : Type 0
Rows = ℕ → Attributes

abbrev pub RowsIn : Rows → Type 0
RowsIn rows = (n : ℕ) → n < actions → RowBounds n (rows n)
