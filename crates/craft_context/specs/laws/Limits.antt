-- Laws of the limits.
-- Assumes nothing.
use Rattle.std.specs.Prelude.{◌≡◌, ◌<◌, ◌≤◌, true, [], ℤ, pos, negsuc, nat_le, refl}
use Rattle.std.proofs.Common.{sym, ◌∙◌, arith, le-leb, lt-ltb, leb-true, ltb-true}
use Rattle.laws.specs.laws.Tests.{true_false, both}
use Rattle.laws.specs.laws.Raise.{raise}
use Rattle.refusal.specs.Judge.{judged, Checked, pass, checks_of, answering}
use Rattle.refusal.specs.Demands.{TellsFirst}
use Rattle.refusal.specs.laws.Limits.{all_inside, tells_first}
use Rattle.craft_context.specs.Limits.{durable, durability_most, context_limits, context_tests, ChecksContext, ContextIn}
use Rattle.craft_context.specs.declared.context.CraftContext.{CraftContext}

-- 1..=97, raised
pub durable_raised : (z : ℤ) → durable z ≡ true → (raise (pos 0) < raise z) × (raise z ≤ raise (pos durability_most))
durable_raised (pos n) e =
    let h = both (nat_le 1 n) (nat_le n durability_most) e in
    (omega (arith, leb-true 1 n h.0), omega (arith, leb-true n durability_most h.1))
durable_raised (negsuc k) e = absurd (true_false (sym e))

-- a context is inside its limits exactly where each of its tests passes
pub context_in_lem : (c : CraftContext) {checked : Checked} → checked ≡ checks_of (context_tests c) → checked ≡ pass → ContextIn c
context_in_lem c e p =
    let inside = all_inside (context_limits c) (sym p ∙ e) in
    record {
      base_progress = leb-true _ _ (inside 2);
      base_quality = leb-true _ _ (inside 3);
      progress_target = leb-true _ _ (inside 5);
      starting_quality = leb-true _ _ (inside 6);
      quality_target = leb-true _ _ (inside 7);
      durability = inside 8;
      cp_max = leb-true _ _ (inside 9);
      pool = ltb-true _ _ (inside 11);
    }

pub context_passes : (c : CraftContext) → ContextIn c → checks_of (context_tests c) ≡ pass
unfolding judged
context_passes c i =
    simp (
      le-leb _ _ i.base_progress,
      le-leb _ _ i.base_quality,
      le-leb _ _ i.progress_target,
      le-leb _ _ i.starting_quality,
      le-leb _ _ i.quality_target,
      i.durability,
      le-leb _ _ i.cp_max,
      lt-ltb _ _ i.pool,
    )

-- its refusal tells the first field outside
pub context_first_lem : (c : CraftContext) → TellsFirst answering.told (context_limits c) (ChecksContext c)
context_first_lem c = tells_first [] (context_limits c) [] refl refl
