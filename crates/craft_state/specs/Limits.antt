-- Document 01's "Limits", of a state, field by field in order, and refusal 2.
-- Assumes nothing.
use Rattle.std.specs.Prelude.{Bool, true, false, ◌&&◌, List, [], ◌∷◌, ◌++◌, ℕ, leb, ltb, eqb, ℤ, negsuc, Option, Some, None}
use Rattle.std.specs.Int.Signed.{le_z}
use Rattle.refusal.specs.Judge.{Test, Checked, Checks}
use Rattle.refusal.specs.declared.Refusal.TheVariants.{StateOutOfRange}
use Rattle.action.specs.Actions as A
use Rattle.action.specs.Known.{actions}
use Rattle.action.specs.Limits.{amount_most, quiet_most}
use Rattle.action.specs.declared.price.Combo.{Combo}
use Rattle.action.specs.declared.price.Combo.TheVariants as C
use Rattle.craft_context.specs.declared.context.CraftContext.{CraftContext}
use Rattle.craft_context.specs.Limits.{context_tests}
use Rattle.craft_state.specs.declared.buffs.Buffs.{Buffs}
use Rattle.craft_state.specs.declared.state.CraftState.{CraftState}

abbrev pub step_least : ℕ
step_least = 1

-- the most of step and step_max, as of every byte
abbrev pub step_most : ℕ
step_most = 255

-- -19
abbrev pub durability_least : ℤ
durability_least = negsuc 18

-- ---- the timers: what an effect sets one to is the most that it can be

abbrev pub waste_not_most : ℕ
waste_not_most = 4

abbrev pub waste_not_ii_most : ℕ
waste_not_ii_most = 8

abbrev pub manipulation_most : ℕ
manipulation_most = 8

abbrev pub great_strides_most : ℕ
great_strides_most = 3

abbrev pub innovation_most : ℕ
innovation_most = 4

abbrev pub veneration_most : ℕ
veneration_most = 4

abbrev pub muscle_memory_most : ℕ
muscle_memory_most = 5

abbrev pub buffs_inside : Buffs → Bool
buffs_inside b =
    leb b.inner_quiet quiet_most
    && leb b.waste_not waste_not_most
    && leb b.waste_not_ii waste_not_ii_most
    && leb b.manipulation manipulation_most
    && leb b.great_strides great_strides_most
    && leb b.innovation innovation_most
    && leb b.veneration veneration_most
    && leb b.muscle_memory muscle_memory_most

-- ---- the last action, and the combo, which is none or the last action

abbrev pub was_of : Option ℕ → ℕ → Bool
was_of None n = false
was_of (Some m) n = eqb m n

abbrev pub last_known : Option ℕ → Bool
last_known None = true
last_known (Some n) = ltb n actions

abbrev pub combo_agrees : Option Combo → Option ℕ → Bool
combo_agrees None last = true
combo_agrees (Some C.BasicTouch) last = was_of last A.BasicTouch
combo_agrees (Some C.StandardTouch) last = was_of last A.StandardTouch
combo_agrees (Some C.RefinedTouch) last = was_of last A.RefinedTouch
combo_agrees (Some C.Observe) last = was_of last A.Observe

-- ---- a state in a context; flags and perfection are any

abbrev pub state_inside : CraftContext → CraftState → Bool
state_inside context state =
    leb step_least state.step
    && leb state.progress amount_most
    && leb state.quality amount_most
    && le_z durability_least state.durability
    && le_z state.durability context.durability_max
    && leb state.cp context.cp_max
    && combo_agrees state.previous_combo_action state.action
    && buffs_inside state.buffs
    && last_known state.action

abbrev pub state_test : CraftContext → CraftState → Test
state_test context state = record { passed = state_inside context state; otherwise = StateOutOfRange }

-- what every entry that is given a state tests first
abbrev pub given_tests : CraftContext → CraftState → List Test
given_tests context state = context_tests context ++ (state_test context state ∷ [])

abbrev pub ChecksState : CraftContext → CraftState → Checked → Type 0
ChecksState context state r = Checks (given_tests context state) r
