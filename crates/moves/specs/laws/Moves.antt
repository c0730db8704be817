-- Laws of the moves: which candidates are among them, what that gives to the step, and that strict moves are a part of the plain ones.
-- Assumes nothing.
use Rattle.std.specs.Prelude.{◌≡◌, refl, ◌&&◌, ℕ, ◌+◌, ◌≤◌, ◌<◌, eqb, leb, pos, Option, Some, None}
use Rattle.std.proofs.Common.{sym, ◌∙◌, subst, zero-le, le_trans, lt_of_lt_of_le, lt_of_not-le, leb-true, leb-false, ltb-true, eqb-true, pow_mono}
use Rattle.std.proofs.Math.Bool.{Bool, true, false, cond, not}
use Rattle.std.proofs.lemmas.Bool.{not-true}
use Rattle.std.proofs.Math.Dec.{ltb}
use Rattle.std.proofs.Math.Pow.{pow_pos}
use Rattle.std.specs.Int.Signed.{le_z}
use Rattle.laws.specs.laws.Tests.{true_false, both, and_both, neither}
use Rattle.laws.specs.Bits.{has}
use Rattle.laws.specs.laws.Bits.{has_high, has_keep}
use Rattle.action.specs.Actions as A
use Rattle.action.specs.Known.{actions}
use Rattle.action.specs.Bounds.{RowBounds, Rows, RowsIn}
use Rattle.action.specs.laws.Bounds.{price_at_most}
use Rattle.action.specs.Price.{charge_of}
use Rattle.action.specs.declared.table.Attributes.{Attributes}
use Rattle.action_set.specs.Sets.{SetIn, keep_of}
use Rattle.action_set.specs.laws.Sets.{set_inside}
use Rattle.craft_context.specs.declared.context.CraftContext.{CraftContext}
use Rattle.craft_state.specs.declared.state.CraftState.{CraftState}
use Rattle.craft_state.specs.Limits.{step_least, state_inside}
use Rattle.craft_state.specs.Inside.{CraftIn}
use Rattle.craft_state.specs.laws.Inside.{in_state}
use Rattle.step.specs.inner.Asked.{Where, Payable, Playable}
use Rattle.step.specs.Step.{execute_by}
use Rattle.step.specs.laws.Step.{execute_in, execute_pays}
use Rattle.moves.specs.Modes.{plain, strict}
use Rattle.moves.specs.Rules.{affords, may_improve, eye_alone, outside_memory, outside_veneration, after_observe, may_progress, own_rule, strict_rule}
use Rattle.moves.specs.Moves.{strictly_of, allowed_of, ended, allows_by, moves_by}
use Rattle.moves.specs.inner.Legal.{passes_by}
use Rattle.moves.specs.declared.mode.Mode.{Mode}

-- ---- the set

module _ (rows : Rows) (c : CraftContext) (s : CraftState) (mode : Mode) where
  pub moves_ended : ended c s ≡ true → moves_by rows c s mode ≡ 0
  unfolding moves_by
  moves_ended e = rw e

  pub moves_on : ended c s ≡ false → moves_by rows c s mode ≡ keep_of (allows_by rows c s mode) c.action_pool.0
  unfolding moves_by
  moves_on e = rw e

  -- THE law of membership: the state has not ended, the pool has the candidate, and it passes the test
  pub has_moves : (n : ℕ) → n < actions
      → has (moves_by rows c s mode) n ≡ not (ended c s) && (has c.action_pool.0 n && allows_by rows c s mode n)
  unfolding moves_by
  has_moves n h = by (ended c s)
    where
      by : (t : Bool)
          → has (cond t 0 (keep_of (allows_by rows c s mode) c.action_pool.0)) n ≡ not t && (has c.action_pool.0 n && allows_by rows c s mode n)
      by true = has_high 0 n (pow_pos n)
      by false = has_keep actions c.action_pool.0 (allows_by rows c s mode) n h

  -- the moves are a set of known actions
  pub moves_inside : SetIn (moves_by rows c s mode)
  unfolding moves_by
  moves_inside = by (ended c s)
    where
      by : (t : Bool) → SetIn (cond t 0 (keep_of (allows_by rows c s mode) c.action_pool.0))
      by true = pow_pos actions
      by false = set_inside (λ m. has c.action_pool.0 m && allows_by rows c s mode m)

  pub legal_known : (n : ℕ) → has (moves_by rows c s mode) n ≡ true → n < actions
  legal_known n t = lt_of_not-le (λ h. true_false (sym t ∙ has_high (moves_by rows c s mode) n (lt_of_lt_of_le moves_inside (pow_mono h))))

-- ---- strict mode asks for all that an action's own rule asks

module _ (c : CraftContext) (s : CraftState) (n : ℕ) (row : Attributes) where
  -- TrainedEye alone, at the first step of a craft that is not expert: its own rule holds
  pub eye_own : eye_alone c s ≡ true → n ≡ A.TrainedEye → own_rule c s n row ≡ true
  unfolding own_rule
  eye_own e k =
      let first = (both (eqb s.step step_least && ltb 0 c.quality_target && not c.is_expert) (has c.action_pool.0 A.TrainedEye) e).0 in
      let second = both (eqb s.step step_least && ltb 0 c.quality_target) (not c.is_expert) first in
      simp (k, (both (eqb s.step step_least) (ltb 0 c.quality_target) second.0).0, second.1)

  strictly_own : strictly_of c s n row ≡ true → own_rule c s n row ≡ true
  unfolding strictly_of
  strictly_own = by (eye_alone c s) (λ e t. eye_own e (eqb-true n A.TrainedEye t))
    where
      rules : Bool
      rules =
          outside_memory c s row.quality_efficiency
          && outside_veneration s row.progress_efficiency row.quality_efficiency
          && after_observe s n
          && may_progress c s row.progress_efficiency row.quality_efficiency

      by : (b : Bool) → (b ≡ true → eqb n A.TrainedEye ≡ true → own_rule c s n row ≡ true)
          → cond b (eqb n A.TrainedEye) (rules && own_rule c s n row && strict_rule c s n) ≡ true
          → own_rule c s n row ≡ true
      by true f t = f refl t
      by false f t = (both rules (own_rule c s n row) (both (rules && own_rule c s n row) (strict_rule c s n) t).0).1

-- ---- what a legal candidate rests on, by any row

affords_payable : (s : CraftState) (n : ℕ) (row : Attributes) → RowBounds n row → affords s n row.cp_cost ≡ true
    → Payable s.cp s.previous_combo_action n row.cp_cost
affords_payable s n row bounds = by row.cp_cost refl
  where
    by : (cost : Option ℕ) → row.cp_cost ≡ cost → affords s n cost ≡ true → Payable s.cp s.previous_combo_action n cost
    by (Some cost) e t = le_trans (price_at_most bounds e s.previous_combo_action) (leb-true cost s.cp t)
    by None e t = zero-le

improve_where : (c : CraftContext) (s : CraftState) (quality : Option ℕ) → may_improve c s quality ≡ true
    → Where quality (s.quality < c.quality_target)
improve_where c s (Some efficiency) t = ltb-true s.quality c.quality_target t
improve_where c s None t = tt

-- a state that has not ended
pub record Going (c : CraftContext) (s : CraftState) : Type 0 where
  pub below : s.progress < c.progress_target
  pub early : s.step < c.step_max
  pub alive : le_z s.durability (pos 0) ≡ false

pub going : (c : CraftContext) (s : CraftState) → ended c s ≡ false → Going c s
going c s e =
    let last = neither _ (le_z s.durability (pos 0)) e in
    let first = neither (leb c.progress_target s.progress) (leb c.step_max s.step) last.0 in
    record { below = leb-false _ _ first.0; early = leb-false _ _ first.1; alive = last.1 }

module _ (c : CraftContext) (s : CraftState) (mode : Mode) (n : ℕ) (row : Attributes) where
  abbrev before : Bool
  before = affords s n row.cp_cost && may_improve c s row.quality_efficiency

  abbrev in_mode : Bool
  in_mode = cond mode.strict (strictly_of c s n row) (own_rule c s n row)

  -- the price test and the test of quality stand before all others
  allowed_parts : allowed_of c s mode n row ≡ true → (affords s n row.cp_cost ≡ true) × (may_improve c s row.quality_efficiency ≡ true)
  unfolding allowed_of
  allowed_parts t = both (affords s n row.cp_cost) (may_improve c s row.quality_efficiency) (both before in_mode t).0

  pub allowed_playable : RowBounds n row → CraftIn c s → n < actions → Going c s → allowed_of c s mode n row ≡ true → Playable c s n row
  allowed_playable bounds g h k t =
      let parts = allowed_parts t in
      record {
        given = g;
        known = h;
        below = k.below;
        early = k.early;
        alive = k.alive;
        quality = improve_where c s row.quality_efficiency parts.1;
        payable = affords_payable s n row bounds parts.0;
      }

  -- ---- each passes its own rule, in either mode

  pub allowed_own : allowed_of c s mode n row ≡ true → own_rule c s n row ≡ true
  unfolding allowed_of
  allowed_own t = by mode.strict (both before in_mode t).1
    where
      by : (b : Bool) → cond b (strictly_of c s n row) (own_rule c s n row) ≡ true → own_rule c s n row ≡ true
      by true t = strictly_own c s n row t
      by false t = t

-- ---- what is among the moves may be executed, and its price is at most the points: by any table in the bounds

module _
    (rows : Rows) (bounded : RowsIn rows)
    (c : CraftContext) (s : CraftState) (mode : Mode) (n : ℕ) (g : CraftIn c s) (h : n < actions) (t : has (moves_by rows c s mode) n ≡ true)
  where
    legal_allowed : (ended c s ≡ false) × (allows_by rows c s mode n ≡ true)
    legal_allowed =
        let parts = both (not (ended c s)) (passes_by rows c s mode n) (sym (has_moves rows c s mode n h) ∙ t) in
        (not-true (ended c s) parts.0, (both (has c.action_pool.0 n) (allows_by rows c s mode n) parts.1).1)

    pub legal_playable : Playable c s n (rows n)
    legal_playable = allowed_playable c s mode n (rows n) (bounded n h) g h (going c s legal_allowed.0) legal_allowed.1

    pub legal_affordable : charge_of n s.previous_combo_action (rows n).cp_cost ≤ s.cp
    legal_affordable = legal_playable.payable

    -- QuickInnovation while it is left
    pub legal_quick : n ≡ A.QuickInnovation → s.quick_innovation_available ≡ true
    unfolding own_rule
    legal_quick e =
        let own = allowed_own c s mode n (rows n) legal_allowed.1 in
        (both s.quick_innovation_available (eqb s.buffs.innovation 0) (subst (λ (m : ℕ). own_rule c s m (rows n) ≡ true) e own)).0

    pub legal_keeps : CraftIn c (execute_by rows c s n)
    legal_keeps = execute_in c s n (rows n) (bounded n h) legal_playable

    -- so the next state passes the tests of refusal 2
    pub legal_inside : state_inside c (execute_by rows c s n) ≡ true
    legal_inside = in_state c (execute_by rows c s n) legal_keeps.state

    pub legal_pays : (execute_by rows c s n).cp + charge_of n s.previous_combo_action (rows n).cp_cost ≡ s.cp
    legal_pays = execute_pays c s n (rows n) (bounded n h) legal_playable

-- ---- strict moves are a part of the plain ones

module _ (c : CraftContext) (s : CraftState) (n : ℕ) (row : Attributes) where
  pub strict_allowed : allowed_of c s strict n row ≡ true → allowed_of c s plain n row ≡ true
  unfolding allowed_of
  strict_allowed t =
      let parts = both (affords s n row.cp_cost && may_improve c s row.quality_efficiency) (strictly_of c s n row) t in
      and_both parts.0 (strictly_own c s n row parts.1)

pub strict_part : (rows : Rows) (c : CraftContext) (s : CraftState) (n : ℕ) → n < actions → has (moves_by rows c s strict) n ≡ true
    → has (moves_by rows c s plain) n ≡ true
strict_part rows c s n h t =
    let parts = both (not (ended c s)) (passes_by rows c s strict n) (sym (has_moves rows c s strict n h) ∙ t) in
    let tests = both (has c.action_pool.0 n) (allows_by rows c s strict n) parts.1 in
    has_moves rows c s plain n h ∙ and_both parts.0 (and_both tests.0 (strict_allowed c s n (rows n) tests.1))
