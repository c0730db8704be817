-- The ranges of a state, as tests and as facts: the one gives the other.
-- Assumes nothing.
use Rattle.std.specs.Prelude.{◌≡◌, refl, true, [], ◌∷◌, ◌≤◌, ◌<◌, ℤ, pos}
use Rattle.std.proofs.Common.{zero-le, le_refl, le_trans, arith, leb-true, le-leb, lit≤, to_z, of_z}
use Rattle.std.specs.Int.{w8}
use Rattle.std.proofs.lemmas.Int.{to_z-of_z}
use Rattle.laws.specs.laws.Tests.{both}
use Rattle.laws.specs.laws.Raise.{raise, le_raise, raise_le, fits8}
use Rattle.refusal.specs.Judge.{Checked, pass, checks_of}
use Rattle.refusal.specs.laws.Judge.{shown, shown_by}
use Rattle.craft_context.specs.declared.context.CraftContext.{CraftContext}
use Rattle.craft_context.specs.Limits.{durable, durability_most, ContextIn, context_tests}
use Rattle.craft_context.specs.laws.Limits.{context_in_lem, durable_raised}
use Rattle.craft_state.specs.Limits.{durability_least, buffs_inside, state_inside, state_test, given_tests}
use Rattle.craft_state.specs.Start.{no_buffs, start_of}
use Rattle.craft_state.specs.Inside.{DurabilityIn, BuffsIn, StateIn, CraftIn}
use Rattle.craft_state.specs.declared.buffs.Buffs.{Buffs}
use Rattle.craft_state.specs.declared.state.CraftState.{CraftState}

buffs_in : (b : Buffs) → buffs_inside b ≡ true → BuffsIn b
buffs_in b e =
    let t7 = both _ _ e in
    let t6 = both _ _ t7.0 in
    let t5 = both _ _ t6.0 in
    let t4 = both _ _ t5.0 in
    let t3 = both _ _ t4.0 in
    let t2 = both _ _ t3.0 in
    let t1 = both _ _ t2.0 in
    record {
      quiet = leb-true _ _ t1.0;
      waste_not = leb-true _ _ t1.1;
      waste_not_ii = leb-true _ _ t2.1;
      manipulation = leb-true _ _ t3.1;
      great_strides = leb-true _ _ t4.1;
      innovation = leb-true _ _ t5.1;
      veneration = leb-true _ _ t6.1;
      muscle_memory = leb-true _ _ t7.1;
    }

in_buffs : (b : Buffs) → BuffsIn b → buffs_inside b ≡ true
in_buffs b h =
    rw (
      le-leb _ _ h.quiet,
      le-leb _ _ h.waste_not,
      le-leb _ _ h.waste_not_ii,
      le-leb _ _ h.manipulation,
      le-leb _ _ h.great_strides,
      le-leb _ _ h.innovation,
      le-leb _ _ h.veneration,
      le-leb _ _ h.muscle_memory,
    )

pub state_in_lem : (context : CraftContext) (state : CraftState) → ContextIn context → state_inside context state ≡ true → StateIn context state
state_in_lem context state inside e =
    let t8 = both _ _ e in
    let t7 = both _ _ t8.0 in
    let t6 = both _ _ t7.0 in
    let t5 = both _ _ t6.0 in
    let t4 = both _ _ t5.0 in
    let t3 = both _ _ t4.0 in
    let t2 = both _ _ t3.0 in
    let t1 = both _ _ t2.0 in
    record {
      step = leb-true _ _ t1.0;
      progress = leb-true _ _ t1.1;
      quality = leb-true _ _ t2.1;
      durability = record { from = t3.1; to = t4.1; top = inside.durability };
      cp = leb-true _ _ t5.1;
      combo = t6.1;
      buffs = buffs_in state.buffs t7.1;
      last = t8.1;
    }

pub in_state : (context : CraftContext) (state : CraftState) → StateIn context state → state_inside context state ≡ true
in_state context state h =
    rw (
      le-leb _ _ h.step,
      le-leb _ _ h.progress,
      le-leb _ _ h.quality,
      h.durability.from,
      h.durability.to,
      le-leb _ _ h.cp,
      h.combo,
      in_buffs _ h.buffs,
      h.last,
    )

-- the tests that an entry makes first
pub craft_in : (context : CraftContext) (state : CraftState) {checked : Checked}
    → checked ≡ checks_of (given_tests context state) → checked ≡ pass → CraftIn context state
craft_in context state e p =
    let parts = shown_by (context_tests context) (state_test context state ∷ []) e p in
    let inside = context_in_lem context parts.0 p in
    record { context = inside; state = state_in_lem context state inside (shown (state_test context state) [] parts.1 p).0 }

-- ---- durability, for `omega`, which reads no sign

-- the same of the numbers raised by 1000
pub record Raised (d most : ℤ) : Type 0 where
  pub from : raise durability_least ≤ raise d
  pub to : raise d ≤ raise most
  pub above : raise (pos 0) < raise most
  pub top : raise most ≤ raise (pos durability_most)

pub raised : {d most : ℤ} → DurabilityIn d most → Raised d most
raised {d} {most} h =
    let limits = durable_raised most h.top in
    record { from = le_raise durability_least d h.from; to = le_raise d most h.to; above = limits.0; top = limits.1 }

-- and back, of another durability below the same most
pub lowered : {d most : ℤ} (z : ℤ) → DurabilityIn d most → raise durability_least ≤ raise z → raise z ≤ raise most → DurabilityIn z most
lowered {d} {most} z h from to =
    let r = raised h in
    record { from = raise_le durability_least z (omega arith) from; to = raise_le z most (omega arith) to; top = h.top }

-- the most itself
pub full_in : {most : ℤ} → durable most ≡ true → DurabilityIn most most
full_in {most} h =
    let limits = durable_raised most h in
    record {
      from = raise_le durability_least most (omega (arith, limits.0)) (omega (arith, limits.0));
      to = raise_le most most (omega (arith, limits.0)) (le_refl _);
      top = h;
    }

-- a byte that is read back from its bits is itself
pub durability_read : {d most : ℤ} → DurabilityIn d most → (to_z w8 (of_z w8 d) ≡ d) × (to_z w8 (of_z w8 most) ≡ most)
durability_read {d} {most} h =
    let r = raised h in
    (to_z-of_z w8 d (fits8 d (omega arith) (omega arith)), to_z-of_z w8 most (fits8 most (omega arith) (omega arith)))

-- ---- the start

pub start_in : (c : CraftContext) → ContextIn c → CraftIn c (start_of c)
unfolding start_of
start_in c h =
    record {
      context = h;
      state =
          record {
            step = le_refl _;
            progress = zero-le;
            quality = le_trans h.starting_quality (lit≤ tt);
            durability = full_in h.durability;
            cp = le_refl _;
            combo = refl;
            buffs = buffs_in no_buffs refl;
            last = refl;
          };
    }
