-- Document 01, 'Results and scores': the score of a state, in the logic's account of IEEE 754, where every operation is rounded to binary32.
-- Assumes nothing.
use Rattle.std.specs.Prelude.{ℕ, cond, ◌==◌, Float}
use Rattle.std.specs.Float.{binary32}
use Rattle.std.specs.Float.Ieee.{of_int, add, sub, mul, div, lt}
use Rattle.laws.specs.Floats.{float, hundredths, one}
use Rattle.craft_context.specs.declared.context.CraftContext.{CraftContext}
use Rattle.craft_state.specs.declared.state.CraftState.{CraftState}

-- ---- the bonuses: 0.20, 0.65, 0.05, 0.05, 0.05

abbrev pub progress_bonus : Float
progress_bonus = hundredths 20

abbrev pub quality_bonus : Float
quality_bonus = hundredths 65

abbrev pub durability_bonus : Float
durability_bonus = hundredths 5

abbrev pub cp_bonus : Float
cp_bonus = hundredths 5

abbrev pub fewer_steps_bonus : Float
fewer_steps_bonus = hundredths 5

-- ---- the parts

-- min(1, quotient): 1 unless the quotient is below it, so 1 where it is a NaN
abbrev pub capped_of : Float → Float
capped_of quotient = cond (lt quotient one) quotient one

-- min(1, value / target)
abbrev pub portion_of : Float → Float → Float
portion_of value target = capped_of (div binary32 value target)

-- a portion times its bonus: a summand of what follows
abbrev pub part_of : Float → Float → Float → Float
part_of bonus value target = mul binary32 bonus (portion_of value target)

-- 1 - step / step_max
abbrev pub fewer_of : ℕ → ℕ → Float
fewer_of step most = sub binary32 one (div binary32 (float step) (float most))

-- portions times their bonuses, added from left to right
abbrev pub weigh_four : Float → Float → Float → Float → Float
weigh_four progress quality durability cp =
    add binary32
    (add binary32
    (add binary32 (mul binary32 progress_bonus progress) (mul binary32 quality_bonus quality))
    (mul binary32 durability_bonus durability))
    (mul binary32 cp_bonus cp)

-- and last the share of the steps that is left
abbrev pub weigh : Float → Float → Float
weigh four fewer = add binary32 four (mul binary32 fewer_steps_bonus fewer)

unfoldable pub weighed_of : CraftContext → CraftState → Float
weighed_of context state =
    weigh
    (weigh_four
    (portion_of (float state.progress) (float context.progress_target))
    (portion_of (float state.quality) (float context.quality_target))
    (portion_of (of_int binary32 state.durability) (of_int binary32 context.durability_max))
    (portion_of (float state.cp) (float context.cp_max)))
    (fewer_of state.step context.step_max)

-- without a quality target the steps alone count; past step_max either goes far below -1 (`late_weighed` and `late_alone` in laws/Worked.antt)
unfoldable pub score_of : CraftContext → CraftState → Float
score_of context state =
    cond (context.quality_target == 0) (fewer_of state.step context.step_max) (weighed_of context state)
