-- Document 01, 'Legal moves': the test of one candidate in a mode, and the set of those of the pool that pass; none once the craft is over.
-- Assumes nothing.
use Rattle.std.specs.Prelude.{Bool, cond, ◌&&◌, ◌||◌, ℕ, eqb, leb, pos}
use Rattle.std.specs.Int.Signed.{le_z}
use Rattle.action.specs.Actions as A
use Rattle.action.specs.Bounds.{Rows}
use Rattle.action.specs.Table.{attributes_of}
use Rattle.action.specs.declared.table.Attributes.{Attributes}
use Rattle.action_set.specs.Sets.{keep_of}
use Rattle.craft_context.specs.declared.context.CraftContext.{CraftContext}
use Rattle.craft_state.specs.declared.state.CraftState.{CraftState}
use Rattle.moves.specs.Rules.{affords, may_improve, eye_alone, outside_memory, outside_veneration, after_observe, may_progress, own_rule, strict_rule}
use Rattle.moves.specs.declared.mode.Mode.{Mode}

-- the strict rules in the order of the source, then the action's own in that mode; TrainedEye's rule at step 1 is the whole answer
unfoldable pub strictly_of : CraftContext → CraftState → ℕ → Attributes → Bool
strictly_of c s n row =
    cond (eye_alone c s) (eqb n A.TrainedEye)
    (outside_memory c s row.quality_efficiency
    && outside_veneration s row.progress_efficiency row.quality_efficiency
    && after_observe s n
    && may_progress c s row.progress_efficiency row.quality_efficiency
    && own_rule c s n row
    && strict_rule c s n)

-- one candidate by a row
unfoldable pub allowed_of : CraftContext → CraftState → Mode → ℕ → Attributes → Bool
allowed_of c s mode n row =
    affords s n row.cp_cost
    && may_improve c s row.quality_efficiency
    && cond mode.strict (strictly_of c s n row) (own_rule c s n row)

-- the craft is over: progress at its target, no step left, or no durability
abbrev pub ended : CraftContext → CraftState → Bool
ended c s = leb c.progress_target s.progress || leb c.step_max s.step || le_z s.durability (pos 0)

-- ---- by any table

-- one candidate by its row
abbrev pub allows_by : Rows → CraftContext → CraftState → Mode → ℕ → Bool
allows_by rows c s mode n = allowed_of c s mode n (rows n)

unfoldable pub moves_by : Rows → CraftContext → CraftState → Mode → ℕ
moves_by rows c s mode = cond (ended c s) 0 (keep_of (allows_by rows c s mode) c.action_pool.0)

-- ---- by the table of action.rs

abbrev pub allows_of : CraftContext → CraftState → Mode → ℕ → Bool
allows_of = allows_by attributes_of

abbrev pub moves_of : CraftContext → CraftState → Mode → ℕ
moves_of = moves_by attributes_of
