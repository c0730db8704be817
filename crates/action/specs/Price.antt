-- Document 01, 'One action', 6: the price of an action in points, by the combo that it continues; and 'Context': 'no cost counts 0'.
-- Assumes nothing.
use Rattle.std.specs.Prelude.{Bool, true, false, cond, ℕ, eqb, leb, Option, Some, None}
use Rattle.action.specs.Actions as A
use Rattle.action.specs.Limits.{discount_price}
use Rattle.action.specs.declared.price.Combo.{Combo}
use Rattle.action.specs.declared.price.Combo.TheVariants as C

-- StandardTouch on combo BasicTouch, AdvancedTouch on combo StandardTouch or Observe
abbrev pub discounted_by : ℕ → Option Combo → Bool
discounted_by n None = false
discounted_by n (Some C.BasicTouch) = eqb n A.StandardTouch
discounted_by n (Some C.StandardTouch) = eqb n A.AdvancedTouch
discounted_by n (Some C.RefinedTouch) = false
discounted_by n (Some C.Observe) = eqb n A.AdvancedTouch

-- the discount price, or the base
abbrev pub at_discount : Bool → ℕ → ℕ
at_discount discounted base = cond discounted discount_price base

abbrev pub price_of : ℕ → Option Combo → ℕ → ℕ
price_of n combo base = at_discount (discounted_by n combo) base

-- no cost is none under every combo
abbrev pub charged_of : ℕ → Option Combo → Option ℕ → Option ℕ
charged_of n combo (Some base) = Some (price_of n combo base)
charged_of n combo None = None

-- in points: no cost counts 0
abbrev pub points_of : Bool → Option ℕ → ℕ
points_of discounted (Some base) = at_discount discounted base
points_of discounted None = 0

abbrev pub charge_of : ℕ → Option Combo → Option ℕ → ℕ
charge_of n combo cost = points_of (discounted_by n combo) cost

-- so many points are enough for a price; where there is none, any are
abbrev pub affordable : ℕ → Option ℕ → Bool
affordable points (Some cost) = leb cost points
affordable points None = true

-- ---- a combo as a number, as hosts and the comparison tell it: the order of document 01's limits

abbrev pub combo_number : Option Combo → ℕ
combo_number None = 0
combo_number (Some C.BasicTouch) = 1
combo_number (Some C.StandardTouch) = 2
combo_number (Some C.RefinedTouch) = 3
combo_number (Some C.Observe) = 4
