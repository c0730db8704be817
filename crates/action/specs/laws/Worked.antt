-- Examples of document 01, worked out from the definitions.
-- Assumes nothing.
use Rattle.std.specs.Prelude.{◌≡◌, refl, eqb, true, false, Some}
use Rattle.laws.specs.Bits.{count}
use Rattle.action.specs.Actions as A
use Rattle.action.specs.Known.{actions}
use Rattle.action.specs.Table.{action_of, attributes_of}
use Rattle.action.specs.Wait.{wait_of}
use Rattle.action.specs.Price.{price_of}
use Rattle.action.specs.Gain.{quality_gain_of, progress_gain_of}
use Rattle.action.specs.Wear.{wear_of}
use Rattle.action.specs.declared.price.Combo.TheVariants.{BasicTouch, RefinedTouch, Observe}

-- six actions have wait 2, MastersMend has 3
six_buffs : count actions (λ n. eqb (wait_of (attributes_of n)) 2) ≡ 6
unfolding action_of count
six_buffs = refl

masters_mend : wait_of (attributes_of A.MastersMend) ≡ 3
unfolding action_of
masters_mend = refl

-- StandardTouch after BasicTouch, AdvancedTouch after Observe and after RefinedTouch
standard_touch : price_of A.StandardTouch (Some BasicTouch) 32 ≡ 18
standard_touch = refl

advanced_touch : price_of A.AdvancedTouch (Some Observe) 46 ≡ 18
advanced_touch = refl

no_discount : price_of A.AdvancedTouch (Some RefinedTouch) 46 ≡ 46
no_discount = refl

-- Reflect under innovation; ByregotsBlessing on one inner quiet; BasicSynthesis under veneration
reflect : quality_gain_of A.Reflect 1000 100 300 0 1 0 ≡ 450
reflect = refl

byregot : quality_gain_of A.ByregotsBlessing 1000 100 0 1 0 0 ≡ 132
byregot = refl

synthesis : progress_gain_of 100 100 4 0 ≡ 150
synthesis = refl

-- half of 5 rounded down
half : wear_of 5 false 0 1 ≡ 2
half = refl

free : wear_of 20 true 0 1 ≡ 0
free = refl
