-- The price read from the list alone is the price charged by the state's combo: the combo is told by the last two actions.
-- Assumes nothing.
use Rattle.std.specs.Prelude.{◌≡◌, Bool, true, false, cond, ◌&&◌, ◌||◌, ℕ, eqb, Option, Some, None}
use Rattle.std.proofs.Math.Path.{refl, ap}
use Rattle.std.proofs.Common.{sym, ◌∙◌, subst, eqb-true}
use mathlib.Core.List.{List, [], ◌∷◌}
use Rattle.action.specs.Actions as A
use Rattle.action.specs.Bounds.{Rows}
use Rattle.action.specs.Price.{discounted_by, points_of, charge_of}
use Rattle.action.specs.declared.price.Combo.{Combo}
use Rattle.action.specs.declared.price.Combo.TheVariants as C
use Rattle.craft_context.specs.declared.context.CraftContext.{CraftContext}
use Rattle.craft_state.specs.declared.state.CraftState.{CraftState}
use Rattle.craft_state.specs.Limits.{was_of}
use Rattle.step.specs.Parts.{on_basic_touch, combo_after}
use Rattle.step.specs.Step.{execute_by}
use Rattle.step.specs.laws.Step.{execute_combo}
use Rattle.simulator.specs.Alone.{discounted_after, price_after, prices_after}
use Rattle.simulator.specs.Promise.{charges_by}

-- a combo that stands for whether the action before was BasicTouch
abbrev opened : Bool → Option Combo
opened true = Some C.BasicTouch
opened false = None

-- the combo that two actions leave
abbrev pub combo_from : Option ℕ → Option ℕ → Option Combo
combo_from older None = None
combo_from older (Some m) = combo_after (opened (was_of older A.BasicTouch)) m

-- ---- the next combo

on_opened : (b : Bool) → on_basic_touch (opened b) ≡ b
on_opened true = refl
on_opened false = refl

-- a combo is BasicTouch's exactly if that was the last action
on_basic : (combo : Option Combo) (m : ℕ) → on_basic_touch (combo_after combo m) ≡ eqb m A.BasicTouch
on_basic combo m = by (eqb m A.BasicTouch) (eqb m A.Observe) (eqb m A.StandardTouch && on_basic_touch combo) (eqb m A.RefinedTouch && on_basic_touch combo)
  where
    by : (a b x y : Bool) → on_basic_touch (cond a (Some C.BasicTouch) (cond b (Some C.Observe) (cond x (Some C.StandardTouch) (cond y (Some C.RefinedTouch) None)))) ≡ a
    by true b x y = refl
    by false true x y = refl
    by false false true y = refl
    by false false false true = refl
    by false false false false = refl

on_from : (older last : Option ℕ) → on_basic_touch (combo_from older last) ≡ was_of last A.BasicTouch
on_from older None = refl
on_from older (Some m) = on_basic (opened (was_of older A.BasicTouch)) m

next_combo : (older last : Option ℕ) (n : ℕ) → combo_after (combo_from older last) n ≡ combo_from last (Some n)
next_combo older last n = rw (on_from older last, on_opened (was_of last A.BasicTouch))

-- ---- the discount

-- by what the last action was, with x for StandardTouch, y for AdvancedTouch, and b for a BasicTouch before the last
after_none : (x y b : Bool) → false ≡ x && false || y && (false || false && b)
after_none true true b = refl
after_none true false b = refl
after_none false true b = refl
after_none false false b = refl

after_basic : (x y b : Bool) → x ≡ x && true || y && (false || false && b)
after_basic true y b = refl
after_basic false true b = refl
after_basic false false b = refl

after_observe_lem : (x y b : Bool) → y ≡ x && false || y && (true || false && b)
after_observe_lem true true b = refl
after_observe_lem true false b = refl
after_observe_lem false true b = refl
after_observe_lem false false b = refl

after_standard : (x y : Bool) → y ≡ x && false || y && (false || true && true)
after_standard true true = refl
after_standard true false = refl
after_standard false true = refl
after_standard false false = refl

module _ (older : Option ℕ) (n : ℕ) where
  abbrev Same : ℕ → Type 0
  Same m = discounted_by n (combo_from older (Some m)) ≡ discounted_after older (Some m) n

  same_standard : (b : Bool)
      → discounted_by n (cond b (Some C.StandardTouch) None) ≡ eqb n A.StandardTouch && false || eqb n A.AdvancedTouch && (false || true && b)
  same_standard true = after_standard (eqb n A.StandardTouch) (eqb n A.AdvancedTouch)
  same_standard false = after_none (eqb n A.StandardTouch) (eqb n A.AdvancedTouch) true

  same_other : (m : ℕ) → eqb m A.BasicTouch ≡ false → eqb m A.Observe ≡ false → eqb m A.StandardTouch ≡ false → Same m
  same_other m p q r = rw (p, q, r) (by (eqb m A.RefinedTouch && on_basic_touch (opened (was_of older A.BasicTouch))))
    where
      by : (y : Bool)
          → discounted_by n (cond y (Some C.RefinedTouch) None) ≡ eqb n A.StandardTouch && false || eqb n A.AdvancedTouch && (false || false && was_of older A.BasicTouch)
      by true = after_none (eqb n A.StandardTouch) (eqb n A.AdvancedTouch) (was_of older A.BasicTouch)
      by false = after_none (eqb n A.StandardTouch) (eqb n A.AdvancedTouch) (was_of older A.BasicTouch)

  same_at : (m : ℕ) → Same m
  same_at m = by (eqb m A.BasicTouch) refl (eqb m A.Observe) refl (eqb m A.StandardTouch) refl
    where
      at : (k : ℕ) → eqb m k ≡ true → Same k → Same m
      at k e h = subst Same (sym (eqb-true m k e)) h

      by : (p : Bool) → eqb m A.BasicTouch ≡ p → (q : Bool) → eqb m A.Observe ≡ q → (r : Bool) → eqb m A.StandardTouch ≡ r → Same m
      by true e q f r g = at A.BasicTouch e (after_basic (eqb n A.StandardTouch) (eqb n A.AdvancedTouch) (was_of older A.BasicTouch))
      by false e true f r g = at A.Observe f (after_observe_lem (eqb n A.StandardTouch) (eqb n A.AdvancedTouch) (was_of older A.BasicTouch))
      by false e false f true g = at A.StandardTouch g (rw (on_opened (was_of older A.BasicTouch)) (same_standard (was_of older A.BasicTouch)))
      by false e false f false g = same_other m e f g

discount_same : (older last : Option ℕ) (n : ℕ) → discounted_by n (combo_from older last) ≡ discounted_after older last n
discount_same older None n = after_none (eqb n A.StandardTouch) (eqb n A.AdvancedTouch) (was_of older A.BasicTouch)
discount_same older (Some m) n = same_at older n m

module _ (rows : Rows) where
  price_same : (older last : Option ℕ) (n : ℕ) → price_after rows older last n ≡ charge_of n (combo_from older last) (rows n).cp_cost
  price_same older last n = ap (λ (discounted : Bool). points_of discounted (rows n).cp_cost) (sym (discount_same older last n))

  -- ---- the whole list, from a state whose combo is that of the last two actions

  pub prices_charged : (c : CraftContext) (s : CraftState) (older last : Option ℕ) (list : List ℕ) → s.previous_combo_action ≡ combo_from older last
      → prices_after rows older last list ≡ charges_by rows c s list
  unfolding prices_after charges_by
  prices_charged c s older last [] e = refl
  prices_charged c s older last (n ∷ rest) e =
      let first : price_after rows older last n ≡ charge_of n s.previous_combo_action (rows n).cp_cost = rw e (price_same older last n) in
      let next : (execute_by rows c s n).previous_combo_action ≡ combo_from last (Some n) =
      execute_combo c s n (rows n) ∙ ap (λ (combo : Option Combo). combo_after combo n) e ∙ next_combo older last n in
      rw (first, prices_charged c (execute_by rows c s n) last (Some n) rest next)
