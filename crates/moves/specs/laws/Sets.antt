-- Laws of the rules that are read from a state alone, each over the set of its actions: an action's own rule, what strict mode asks beyond it, and
-- the rules by which attributes a candidate has. Over any table of rows inside the bounds.
-- Assumes nothing.
use Rattle.std.specs.Prelude.{◌≡◌, Bool, true, false, cond, not, ◌&&◌, ◌||◌, List, [], ◌∷◌, ℕ, ◌/◌, ◌<◌, eqb, leb, ltb, pos, ◌-ℤ◌, Option, Some, None}
use Rattle.std.proofs.Math.Path.{refl}
use Rattle.std.proofs.Common.{sym, ap, ◌∙◌, eqb-true}
use Rattle.std.specs.Int.Signed.{le_z, lt_z}
use Rattle.laws.specs.laws.Tests.{and_true, and_assoc, or_true, or_false}
use Rattle.laws.specs.laws.Bits.{keep_same}
use Rattle.action.specs.Actions as A
use Rattle.action.specs.Known.{actions}
use Rattle.action.specs.Limits.{quiet_most}
use Rattle.action.specs.Amount.{present}
use Rattle.action.specs.Table.{attributes_of}
use Rattle.action.specs.Bounds.{Rows, RowsIn}
use Rattle.action_set.specs.Sets.{SetIn, keep_of}
use Rattle.craft_context.specs.declared.context.CraftContext.{CraftContext}
use Rattle.craft_state.specs.declared.state.CraftState.{CraftState}
use Rattle.craft_state.specs.Limits.{step_least}
use Rattle.step.specs.Parts.{on_basic_touch}
use Rattle.moves.specs.Rules.{outside_memory, outside_veneration, is_unused, no_waste_not, on_observe, withstands, own_rule, strict_rule}
use Rattle.moves.specs.inner.Sets.{kind_rule}
use Rattle.moves.specs.laws.Leaves.{Rule, rule, leaves, every, chain, leaves_every, leaves_chain}

-- ---- each action's own rule

abbrev pub only : ℕ → ℕ → Bool
only a n = eqb n a

abbrev two : ℕ → ℕ → ℕ → Bool
two a b n = eqb n a || eqb n b

module _ (c : CraftContext) (s : CraftState) (rows : Rows) where
  abbrev pub own_rules : List Rule
  own_rules =
      rule (two A.MuscleMemory A.Reflect) (eqb s.step step_least)
      ∷ rule (only A.TrainedEye) (eqb s.step step_least && not c.is_expert)
      ∷ rule (only A.ByregotsBlessing) (ltb 0 s.buffs.inner_quiet)
      ∷ rule (only A.TrainedFinesse) (eqb s.buffs.inner_quiet quiet_most)
      ∷ rule (only A.TrainedPerfection) (is_unused s.trained_perfection_active)
      ∷ rule (two A.PrudentSynthesis A.PrudentTouch) (no_waste_not s)
      ∷ rule (only A.Observe) (not (on_observe s.previous_combo_action))
      ∷ rule (only A.Groundwork) (withstands s (rows A.Groundwork).durability_cost)
      ∷ rule (only A.GroundworkTraited) (withstands s (rows A.GroundworkTraited).durability_cost)
      ∷ rule (only A.RefinedTouch) (on_basic_touch s.previous_combo_action)
      ∷ rule (only A.Manipulation) c.use_manipulation
      ∷ rule (only A.QuickInnovation) (s.quick_innovation_available && eqb s.buffs.innovation 0)
      ∷ []

  -- an arm over two actions that asks for the row of each
  each_row : (f : ℕ → Bool) (a b n : ℕ) (rest : Bool) → cond (two a b n) (f n) rest ≡ cond (only a n) (f a) (cond (only b n) (f b) rest)
  each_row f a b n rest = by (eqb n a) (eqb n b) (eqb-true n a) (eqb-true n b)
    where
      by : (x y : Bool) → (x ≡ true → n ≡ a) → (y ≡ true → n ≡ b) → cond (x || y) (f n) rest ≡ cond x (f a) (cond y (f b) rest)
      by true y p q = ap f (p refl)
      by false true p q = ap f (q refl)
      by false false p q = refl

  own_chain : (n : ℕ) → chain own_rules n ≡ own_rule c s n (rows n)
  unfolding own_rule
  own_chain n = simp (each_row (λ k. withstands s (rows k).durability_cost) A.Groundwork A.GroundworkTraited n)

  pub own_leaves : (set : ℕ) → SetIn set → leaves own_rules set ≡ keep_of (λ n. own_rule c s n (rows n)) set
  own_leaves = leaves_chain own_rules (λ n. own_rule c s n (rows n)) tt (λ n l. own_chain n)

-- ---- what strict mode asks beyond it

module _ (c : CraftContext) (s : CraftState) where
  abbrev pub strict_rules : List Rule
  strict_rules =
      rule (only A.ByregotsBlessing) (ltb 1 s.buffs.inner_quiet)
      ∷ rule (two A.WasteNot A.WasteNotII) (no_waste_not s)
      ∷ rule (only A.Observe) (leb 25 s.cp)
      ∷ rule (only A.ImmaculateMend) (lt_z (pos 45) (c.durability_max -ℤ s.durability) && eqb s.buffs.manipulation 0)
      ∷ rule (only A.MastersMend) (le_z (pos 25) (c.durability_max -ℤ s.durability))
      ∷ rule (only A.Manipulation) (eqb s.buffs.manipulation 0)
      ∷ rule (only A.GreatStrides) (eqb s.buffs.great_strides 0)
      ∷ rule (two A.Veneration A.Innovation) (leb s.buffs.veneration 1 && leb s.buffs.innovation 1)
      ∷ rule (only A.QuickInnovation) (ltb (c.quality_target / 3) s.quality)
      ∷ []

  strict_chain : (n : ℕ) → chain strict_rules n ≡ strict_rule c s n
  unfolding strict_rule
  strict_chain n = refl

  pub strict_leaves : (set : ℕ) → SetIn set → leaves strict_rules set ≡ keep_of (strict_rule c s) set
  strict_leaves = leaves_chain strict_rules (strict_rule c s) tt (λ n l. strict_chain n)

-- ---- the rules by which attributes a candidate has: those of the table are those of any row

abbrev pub touches : ℕ → Bool
touches n = present (attributes_of n).quality_efficiency

abbrev pub works : ℕ → Bool
works n = present (attributes_of n).progress_efficiency

abbrev pub only_touches : ℕ → Bool
only_touches n = touches n && not (works n)

abbrev pub only_works : ℕ → Bool
only_works n = works n && not (touches n)

module _ (c : CraftContext) (s : CraftState) where
  abbrev pub kind_rules : List Rule
  kind_rules =
      rule touches (not (eqb c.recipe_job_level c.player_job_level && ltb 0 s.buffs.muscle_memory))
      ∷ rule only_touches (eqb s.buffs.veneration 0)
      ∷ rule (λ n. not (eqb n A.AdvancedTouch)) (not (on_observe s.previous_combo_action))
      ∷ []

  memory_by : (quality : Option ℕ)
      → not (present quality) || not (eqb c.recipe_job_level c.player_job_level && ltb 0 s.buffs.muscle_memory)
      ≡ outside_memory c s quality
  memory_by (Some q) = refl
  memory_by None = refl

  veneration_by : (progress quality : Option ℕ)
      → not (present quality && not (present progress)) || eqb s.buffs.veneration 0 ≡ outside_veneration s progress quality
  veneration_by (Some p) (Some q) = refl
  veneration_by (Some p) None = refl
  veneration_by None (Some q) = refl
  veneration_by None None = refl

  follow_by : (one follows : Bool) → not (not one) || follows ≡ follows || one
  follow_by true follows = sym (or_true follows)
  follow_by false follows = sym (or_false follows)

  module _ (rows : Rows) (bounded : RowsIn rows) where
    kind_every : (n : ℕ) → n < actions → every kind_rules n ≡ kind_rule c s n (rows n)
    kind_every n l =
        let shape = (bounded n l).shape in
        rw (← shape.quality, ← shape.progress)
        (simp (memory_by, veneration_by, follow_by, and_true, and_assoc))

    pub kind_leaves : (set : ℕ) → SetIn set → leaves kind_rules set ≡ keep_of (λ n. kind_rule c s n (rows n)) set
    kind_leaves set h =
        leaves_every kind_rules set h ∙ keep_same actions set (every kind_rules) (λ n. kind_rule c s n (rows n)) (λ n l t. kind_every n l)
