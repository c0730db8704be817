-- Document 01, 'One action', "Seen from the list alone": the price of each action of a list, with no state in it; and which of them are steps.
-- Assumes nothing.
use Rattle.std.specs.Prelude.{Bool, cond, ◌&&◌, ◌||◌, List, [], ◌∷◌, ℕ, ◌+◌, eqb, Option, Some, None}
use Rattle.action.specs.Actions as A
use Rattle.action.specs.Bounds.{Rows}
use Rattle.action.specs.Price.{points_of}
use Rattle.craft_state.specs.Limits.{was_of}

-- an action after `last`, which itself stands after `older`:
-- StandardTouch directly after BasicTouch; AdvancedTouch directly after Observe, or after a StandardTouch itself directly after BasicTouch
abbrev pub discounted_after : Option ℕ → Option ℕ → ℕ → Bool
discounted_after older last n =
    eqb n A.StandardTouch && was_of last A.BasicTouch
    || eqb n A.AdvancedTouch && (was_of last A.Observe || was_of last A.StandardTouch && was_of older A.BasicTouch)

-- by any table
abbrev pub price_after : Rows → Option ℕ → Option ℕ → ℕ → ℕ
price_after rows older last n = points_of (discounted_after older last n) (rows n).cp_cost

unfoldable pub prices_after : Rows → Option ℕ → Option ℕ → List ℕ → ℕ
prices_after rows older last [] = 0
prices_after rows older last (n ∷ rest) = price_after rows older last n + prices_after rows last (Some n) rest

-- of a whole list
abbrev pub prices_by : Rows → List ℕ → ℕ
prices_by rows list = prices_after rows None None list

-- the actions other than QuickInnovation
unfoldable pub steps_in : List ℕ → ℕ
steps_in [] = 0
steps_in (n ∷ rest) = cond (eqb n A.QuickInnovation) 0 1 + steps_in rest
