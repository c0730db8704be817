-- Bounds of what one action does to each field, by any row in the bounds.
-- Assumes nothing.
use Rattle.std.specs.Prelude.{◌≡◌, refl, Bool, true, false, cond, ◌&&◌, ◌||◌, ℕ, ◌+◌, ◌-◌, ◌/◌, ◌≤◌, ◌<◌, eqb, ltb, ℤ, pos, Option, Some, None}
use Rattle.std.proofs.Common.{le_refl, le_trans, sub-le, sub-add_cancel, arith}
use Rattle.std.specs.Int.Signed.{le_z}
use Rattle.laws.specs.laws.Tests.{both, cond_le}
use Rattle.action.specs.Actions as A
use Rattle.action.specs.Limits.{wear_most, quality_most, target_most, amount_most, quiet_most}
use Rattle.action.specs.Amount.{AtMost}
use Rattle.action.specs.Gain.{Touchable}
use Rattle.action.specs.laws.Gain.{progress_gain_at_most, quality_gain_at_most}
use Rattle.action.specs.Price.{charge_of}
use Rattle.action.specs.Wear.{wear_of}
use Rattle.action.specs.declared.price.Combo.{Combo}
use Rattle.action.specs.declared.price.Combo.TheVariants as C
use Rattle.craft_context.specs.declared.context.CraftContext.{CraftContext}
use Rattle.craft_state.specs.declared.buffs.Buffs.{Buffs}
use Rattle.craft_state.specs.declared.state.CraftState.{CraftState}
use Rattle.craft_state.specs.Limits.{combo_agrees}
use Rattle.craft_state.specs.Inside.{DurabilityIn, BuffsIn}
use Rattle.craft_state.specs.laws.Inside.{full_in}
use Rattle.step.specs.Durability.{mended_of, masters_mends}
use Rattle.step.specs.laws.Durability.{mended_in, hurt_in}
use Rattle.step.specs.Parts.{progress_after, quality_after, quiet_after, quiet_level, doubles_quiet, used_up, is_active, durability_after, cp_after}
use Rattle.step.specs.Parts.{on_basic_touch, combo_after, ticked_of, effect_of, mend_after}
use Rattle.step.specs.inner.Asked.{Where, Payable, Progressing, Touching}

-- ---- progress and quality

pub progress_at_most : (c : CraftContext) (s : CraftState) (e : Option ℕ)
    → Progressing c s e → s.progress ≤ target_most → progress_after c s e ≤ amount_most
progress_at_most c s (Some efficiency) p h =
    omega (arith, progress_gain_at_most s.buffs.veneration s.buffs.muscle_memory p.factor p.row)
progress_at_most c s None p h = p.progress

pub progress_rises : (c : CraftContext) (s : CraftState) (e : Option ℕ) → s.progress ≤ progress_after c s e
progress_rises c s (Some efficiency) = omega arith
progress_rises c s None = le_refl _

touchable : (c : CraftContext) (s : CraftState) {efficiency : ℕ} → Touching c s → efficiency ≤ quality_most
    → Touchable (c.quality_target - s.quality) c.base_quality_factor efficiency s.buffs.inner_quiet
touchable c s t e = record { target = omega (arith, t.target); factor = t.factor; row = e; quiet = t.quiet }

pub quality_at_most : (c : CraftContext) (s : CraftState) (n : ℕ) (e : Option ℕ)
    → Touching c s → AtMost quality_most e → Where e (s.quality < c.quality_target) → quality_after c s n e ≤ amount_most
quality_at_most c s n (Some efficiency) t h w =
    omega (arith, quality_gain_at_most n s.buffs.innovation s.buffs.great_strides (touchable c s t h), t.target)
quality_at_most c s n None t h w = t.quality

pub quality_rises : (c : CraftContext) (s : CraftState) (n : ℕ) (e : Option ℕ) → s.quality ≤ quality_after c s n e
quality_rises c s n (Some efficiency) = omega arith
quality_rises c s n None = le_refl _

pub used_up_at_most : (e : Option ℕ) {buff most : ℕ} → buff ≤ most → used_up e buff ≤ most
used_up_at_most (Some efficiency) h = omega arith
used_up_at_most None h = h

pub quiet_at_most : (c : CraftContext) (s : CraftState) (n : ℕ) (e : Option ℕ) → s.buffs.inner_quiet ≤ quiet_most → quiet_after c s n e ≤ quiet_most
quiet_at_most c s n (Some efficiency) h =
    cond_le (ltb c.player_job_level quiet_level) h
    (cond_le (eqb n A.ByregotsBlessing) (omega arith)
    (cond_le (doubles_quiet n s.previous_combo_action) (omega arith) (omega arith)))
quiet_at_most c s n None h = h

-- ---- durability

pub wear_at_most : (cost : ℕ) (perfection : Bool) (waste_not waste_not_ii : ℕ) → wear_of cost perfection waste_not waste_not_ii ≤ cost
wear_at_most cost perfection waste_not waste_not_ii = go perfection (ltb 0 waste_not || ltb 0 waste_not_ii)
  where
    go : (t u : Bool) → cond t 0 (cond u (cost / 2) cost) ≤ cost
    go true u = omega arith
    go false true = omega arith
    go false false = le_refl cost

pub worn_in : (s : CraftState) (most : ℤ) (cost : Option ℕ)
    → DurabilityIn s.durability most → le_z s.durability (pos 0) ≡ false → AtMost wear_most cost → DurabilityIn (durability_after s cost) most
worn_in s most (Some cost) r alive h =
    let less = wear_at_most cost (is_active s.trained_perfection_active) s.buffs.waste_not s.buffs.waste_not_ii in
    hurt_in s.durability _ most r alive (le_trans less h)
worn_in s most None r alive h = r

pub mend_in : (n : ℕ) (d most : ℤ) → DurabilityIn d most → DurabilityIn (mend_after n d most) most
mend_in n d most r = go (eqb n A.MastersMend) (eqb n A.ImmaculateMend)
  where
    go : (t u : Bool) → DurabilityIn (cond t (mended_of d masters_mends most) (cond u most d)) most
    go true u = mended_in d masters_mends most r (le_refl _)
    go false true = full_in r.top
    go false false = r

-- ---- points and combo

pub points_at_most : (cp : ℕ) (combo : Option Combo) (n : ℕ) (cost : Option ℕ) → cp_after cp combo n cost ≤ cp
points_at_most cp combo n cost = sub-le cp _

-- the points left and the price are the points before
pub points_paid : (cp : ℕ) (combo : Option Combo) (n : ℕ) (cost : Option ℕ) → Payable cp combo n cost → cp_after cp combo n cost + charge_of n combo cost ≡ cp
points_paid cp combo n cost h = sub-add_cancel h

pub combo_agrees_lem : (combo : Option Combo) (n : ℕ) → combo_agrees (combo_after combo n) (Some n) ≡ true
combo_agrees_lem combo n =
    go (eqb n A.BasicTouch) refl (eqb n A.Observe) refl
    (eqb n A.StandardTouch && on_basic_touch combo) (both _ _) (eqb n A.RefinedTouch && on_basic_touch combo) (both _ _)
  where
    go : (a : Bool) → eqb n A.BasicTouch ≡ a → (b : Bool) → eqb n A.Observe ≡ b
        → (x : Bool) → (x ≡ true → (eqb n A.StandardTouch ≡ true) × (on_basic_touch combo ≡ true))
        → (y : Bool) → (y ≡ true → (eqb n A.RefinedTouch ≡ true) × (on_basic_touch combo ≡ true))
        → combo_agrees (cond a (Some C.BasicTouch) (cond b (Some C.Observe) (cond x (Some C.StandardTouch) (cond y (Some C.RefinedTouch) None)))) (Some n) ≡ true
    go true p b q x f y g = p
    go false p true q x f y g = q
    go false p false q true f y g = (f refl).0
    go false p false q false f true g = (g refl).0
    go false p false q false f false g = refl

-- ---- buffs

pub ticked_in : (b : Buffs) → BuffsIn b → BuffsIn (ticked_of b)
unfolding ticked_of
ticked_in b h =
    record {
      quiet = h.quiet;
      waste_not = le_trans (sub-le _ 1) h.waste_not;
      waste_not_ii = le_trans (sub-le _ 1) h.waste_not_ii;
      manipulation = le_trans (sub-le _ 1) h.manipulation;
      great_strides = le_trans (sub-le _ 1) h.great_strides;
      innovation = le_trans (sub-le _ 1) h.innovation;
      veneration = le_trans (sub-le _ 1) h.veneration;
      muscle_memory = le_trans (sub-le _ 1) h.muscle_memory;
    }

pub effect_in : (n : ℕ) (b : Buffs) → BuffsIn b → BuffsIn (effect_of n b)
unfolding effect_of
effect_in n b h =
    record {
      quiet = h.quiet;
      waste_not = cond_le (eqb n A.WasteNot) (le_refl _) (cond_le (eqb n A.WasteNotII) (omega arith) h.waste_not);
      waste_not_ii = cond_le (eqb n A.WasteNot) (omega arith) (cond_le (eqb n A.WasteNotII) (le_refl _) h.waste_not_ii);
      manipulation = cond_le (eqb n A.Manipulation) (le_refl _) h.manipulation;
      great_strides = cond_le (eqb n A.GreatStrides) (le_refl _) h.great_strides;
      innovation = cond_le (eqb n A.Innovation) (le_refl _) (cond_le (eqb n A.QuickInnovation) (omega arith) h.innovation);
      veneration = cond_le (eqb n A.Veneration) (le_refl _) h.veneration;
      muscle_memory = cond_le (eqb n A.MuscleMemory) (le_refl _) h.muscle_memory;
    }
