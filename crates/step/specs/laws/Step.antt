-- What stands from part to part of one action, and what the whole keeps: shown of any row in the bounds.
-- Assumes nothing.
use Rattle.std.specs.Prelude.{◌≡◌, Bool, ℕ, ◌+◌, ◌≤◌, eqb, pos}
use Rattle.std.proofs.Math.Path.{refl}
use Rattle.std.proofs.Math.Bool.{true, false, cond}
use Rattle.std.proofs.Math.Nat.{le_trans}
use Rattle.std.proofs.Common.{le_of_lt}
use native.Mathlib.Omega.{arith}
use borrow.Author.Tests.{lt-ltb}
use Rattle.std.specs.Int.Signed.{le_z}
use Rattle.action.specs.Actions as A
use Rattle.action.specs.Bounds.{RowBounds}
use Rattle.action.specs.Price.{charge_of}
use Rattle.action.specs.declared.table.Attributes.{Attributes}
use Rattle.craft_context.specs.declared.context.CraftContext.{CraftContext}
use Rattle.craft_state.specs.declared.state.CraftState.{CraftState}
use Rattle.craft_state.specs.Limits.{step_least}
use Rattle.craft_state.specs.Inside.{DurabilityIn, BuffsIn, StateIn, CraftIn}
use Rattle.step.specs.laws.Durability.{refreshed_in}
use Rattle.step.specs.Parts.{step_after, combo_after, ticked_of, quick_after}
use Rattle.step.specs.laws.Parts.{progress_at_most, progress_rises, quality_at_most, quality_rises, used_up_at_most, quiet_at_most}
use Rattle.step.specs.laws.Parts.{worn_in, mend_in, points_at_most, points_paid, combo_agrees_lem, ticked_in, effect_in}
use Rattle.step.specs.Step.{begun_of, progressed_of, improved_of, worn_of, refreshed_of, paid_of, combined_of, timed_of, affected_of, executed_of}
use Rattle.step.specs.inner.Asked.{Payable, Playable, Progressing, Touching}

module _ (c : CraftContext) (s : CraftState) (n : ℕ) (row : Attributes) where
  -- ---- the state after each part

  abbrev begun : CraftState
  begun = begun_of s n

  abbrev progressed : CraftState
  progressed = progressed_of c begun row.progress_efficiency

  abbrev improved : CraftState
  improved = improved_of c progressed n row.quality_efficiency

  abbrev worn : CraftState
  worn = worn_of improved row.durability_cost

  abbrev refreshed : CraftState
  refreshed = refreshed_of c worn

  abbrev paid : CraftState
  paid = paid_of refreshed n row.cp_cost

  abbrev timed : CraftState
  timed = timed_of (combined_of paid n) n

  module _ (bounds : RowBounds n row) (p : Playable c s n row) where
    -- ---- what the next part asks

    pub progressing : Progressing c begun row.progress_efficiency
    unfolding begun_of
    progressing = record { row = bounds.progress; factor = p.given.context.base_progress; progress = p.given.state.progress }

    pub touching : Touching c progressed
    unfolding begun_of progressed_of
    touching =
        record {
          factor = p.given.context.base_quality;
          target = p.given.context.quality_target;
          quality = p.given.state.quality;
          quiet = p.given.state.buffs.quiet;
        }

    pub improved_durability : DurabilityIn improved.durability c.durability_max
    unfolding begun_of progressed_of improved_of
    improved_durability = p.given.state.durability

    improved_alive : le_z improved.durability (pos 0) ≡ false
    unfolding begun_of progressed_of improved_of
    improved_alive = p.alive

    pub worn_durability : DurabilityIn worn.durability c.durability_max
    unfolding worn_of
    worn_durability =
        worn_in improved c.durability_max row.durability_cost improved_durability improved_alive bounds.durability

    pub refreshed_payable : Payable refreshed.cp refreshed.previous_combo_action n row.cp_cost
    unfolding begun_of progressed_of improved_of worn_of refreshed_of
    refreshed_payable = p.payable

    pub timed_durability : DurabilityIn timed.durability c.durability_max
    unfolding refreshed_of paid_of combined_of timed_of
    timed_durability = refreshed_in worn.durability worn.buffs.manipulation c.durability_max worn_durability

    -- ---- what the whole keeps

    improved_buffs : BuffsIn improved.buffs
    unfolding begun_of progressed_of improved_of
    improved_buffs =
        let b = p.given.state.buffs in
        record {
          quiet = quiet_at_most c progressed n row.quality_efficiency b.quiet;
          waste_not = b.waste_not;
          waste_not_ii = b.waste_not_ii;
          manipulation = b.manipulation;
          great_strides = used_up_at_most row.quality_efficiency b.great_strides;
          innovation = b.innovation;
          veneration = b.veneration;
          muscle_memory = used_up_at_most row.progress_efficiency b.muscle_memory;
        }

    timed_buffs : BuffsIn timed.buffs
    unfolding worn_of refreshed_of paid_of combined_of timed_of
    timed_buffs = by (eqb n A.QuickInnovation)
      where
        by : (t : Bool) → BuffsIn (cond t improved.buffs (ticked_of improved.buffs))
        by true = improved_buffs
        by false = ticked_in improved.buffs improved_buffs

    -- THE law of one action: from a state inside the limits it leads to one inside them
    pub execute_keeps : StateIn c (executed_of c s n row)
    unfolding executed_of begun_of progressed_of improved_of worn_of refreshed_of paid_of combined_of timed_of affected_of
    execute_keeps =
        let x = p.given in
        record {
          step = step_least_lem (eqb n A.QuickInnovation);
          progress = progress_at_most c begun row.progress_efficiency progressing (le_trans (le_of_lt p.below) x.context.progress_target);
          quality = quality_at_most c progressed n row.quality_efficiency touching bounds.quality p.quality;
          durability = mend_in n timed.durability c.durability_max timed_durability;
          cp = le_trans (points_at_most s.cp s.previous_combo_action n row.cp_cost) x.state.cp;
          combo = combo_agrees_lem s.previous_combo_action n;
          buffs = effect_in n timed.buffs timed_buffs;
          last = lt-ltb _ _ p.known;
        }
      where
        step_least_lem : (t : Bool) → step_least ≤ cond t s.step (s.step + 1)
        step_least_lem true = p.given.state.step
        step_least_lem false = omega arith

    pub execute_in : CraftIn c (executed_of c s n row)
    execute_in = record { context = p.given.context; state = execute_keeps }

    -- points fall by exactly the price
    pub execute_pays : (executed_of c s n row).cp + charge_of n s.previous_combo_action row.cp_cost ≡ s.cp
    unfolding executed_of begun_of progressed_of improved_of worn_of refreshed_of paid_of combined_of timed_of affected_of
    execute_pays = points_paid s.cp s.previous_combo_action n row.cp_cost p.payable

  -- ---- of any state

  pub execute_step : (executed_of c s n row).step ≡ step_after n s.step
  unfolding executed_of begun_of progressed_of improved_of worn_of refreshed_of paid_of combined_of timed_of affected_of
  execute_step = refl

  pub execute_combo : (executed_of c s n row).previous_combo_action ≡ combo_after s.previous_combo_action n
  unfolding executed_of begun_of progressed_of improved_of worn_of refreshed_of paid_of combined_of timed_of affected_of
  execute_combo = refl

  pub execute_quick : (executed_of c s n row).quick_innovation_available ≡ quick_after n s.quick_innovation_available
  unfolding executed_of begun_of progressed_of improved_of worn_of refreshed_of paid_of combined_of timed_of affected_of
  execute_quick = refl

  pub progress_never_falls : s.progress ≤ (executed_of c s n row).progress
  unfolding executed_of begun_of progressed_of improved_of worn_of refreshed_of paid_of combined_of timed_of affected_of
  progress_never_falls = progress_rises c begun row.progress_efficiency

  pub quality_never_falls : s.quality ≤ (executed_of c s n row).quality
  unfolding executed_of begun_of progressed_of improved_of worn_of refreshed_of paid_of combined_of timed_of affected_of
  quality_never_falls = quality_rises c progressed n row.quality_efficiency
