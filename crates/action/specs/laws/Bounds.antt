-- Every row of ours is inside the bounds, and what they give; and the most that any row waits.
-- Assumes nothing.
use Rattle.std.specs.Prelude.{◌≡◌, refl, Bool, true, false, cond, ◌||◌, ℕ, ◌≤◌, ◌<◌, T, leb, eqb, Option, Some, None}
use Rattle.std.proofs.Common.{sym, subst, le_refl, leb→le, lit≤, eqb-true}
use Rattle.laws.specs.laws.Tests.{cond_le}
use Rattle.laws.specs.laws.Same.{below, below_at}
use Rattle.action.specs.Actions as A
use Rattle.action.specs.Limits.{progress_most, quality_most, wear_most, price_most, discount_price}
use Rattle.action.specs.inner.Dearest.{dearest}
use Rattle.action.specs.Known.{actions}
use Rattle.action.specs.Amount.{present, AtMost, AtLeast}
use Rattle.action.specs.Table.{action_of, attributes_of}
use Rattle.action.specs.Bounds.{RowBounds, RowsIn}
use Rattle.action.specs.Price.{price_of}
use Rattle.action.specs.Wait.{wait_of}
use Rattle.action.specs.declared.table.Attributes.{Attributes}
use Rattle.action.specs.declared.price.Combo.{Combo}
use Rattle.action.specs.declared.price.Combo.TheVariants as C

abbrev within : ℕ → Option ℕ → Bool
within most (Some amount) = leb amount most
within most None = true

within_at_most : (most : ℕ) (a : Option ℕ) → T (within most a) → AtMost most a
within_at_most most (Some amount) t = leb→le amount most t
within_at_most most None t = tt

-- one attribute over the whole table, by a test that computes
each : (most : ℕ) (field : Attributes → Option ℕ) → T (below (λ n. within most (field (attributes_of n))) actions)
    → (n : ℕ) → n < actions → AtMost most (field (attributes_of n))
each most field t n h = within_at_most most (field (attributes_of n)) (below_at (λ n. within most (field (attributes_of n))) actions n h t)

-- THE theorem of the table: each row of ours has the bounds
pub rows_bounded : RowsIn attributes_of
unfolding action_of
rows_bounded n h =
    record {
      progress = each progress_most (λ a. a.progress_efficiency) tt n h;
      quality = each quality_most (λ a. a.quality_efficiency) tt n h;
      durability = each wear_most (λ a. a.durability_cost) tt n h;
      price = each price_most (λ a. a.cp_cost) tt n h;
      standard = λ e. subst (λ (k : ℕ). AtLeast discount_price (attributes_of k).cp_cost) (sym e) (lit≤ tt);
      advanced = λ e. subst (λ (k : ℕ). AtLeast discount_price (attributes_of k).cp_cost) (sym e) (lit≤ tt);
      shape = record { progress = refl; quality = refl; durability = refl; price = refl };
    }

-- no price of ours is above the dearest
pub dearest_most : (n : ℕ) → n < actions → AtMost dearest (attributes_of n).cp_cost
unfolding action_of
dearest_most = each dearest (λ a. a.cp_cost) tt

-- a discount is never a surcharge
module _ {n : ℕ} {row : Attributes} (bounds : RowBounds n row) {base : ℕ} (cost : row.cp_cost ≡ Some base) where
  by_test : (b : Bool) → (b ≡ true → discount_price ≤ base) → cond b discount_price base ≤ base
  by_test true h = h refl
  by_test false h = le_refl base

  standard : eqb n A.StandardTouch ≡ true → discount_price ≤ base
  standard t = subst (AtLeast discount_price) cost (bounds.standard (eqb-true n A.StandardTouch t))

  advanced : eqb n A.AdvancedTouch ≡ true → discount_price ≤ base
  advanced t = subst (AtLeast discount_price) cost (bounds.advanced (eqb-true n A.AdvancedTouch t))

  pub price_at_most : (combo : Option Combo) → price_of n combo base ≤ base
  price_at_most None = le_refl base
  price_at_most (Some C.BasicTouch) = by_test (eqb n A.StandardTouch) standard
  price_at_most (Some C.StandardTouch) = by_test (eqb n A.AdvancedTouch) advanced
  price_at_most (Some C.RefinedTouch) = le_refl base
  price_at_most (Some C.Observe) = by_test (eqb n A.AdvancedTouch) advanced

-- no wait is above 3 seconds
pub wait_most : (row : Attributes) → wait_of row ≤ 3
wait_most row = cond_le (present row.progress_efficiency || (present row.quality_efficiency || present row.durability_cost)) (lit≤ tt) (lit≤ tt)
