-- E10: a score is below 1, and in time at least -1, since each part is at most its bonus, and what the parts add up to at their bounds is worked out
-- once. And each legal action leaves a state in time.
-- Assumes nothing.
use Rattle.std.specs.Prelude.{◌≡◌, ℕ, ◌+◌, ◌<◌, ◌≤◌, Bool, true, false, cond, T, negsuc, ◌==◌, refl, Float}
use Rattle.std.proofs.Common.{arith, lit≤}
use Rattle.std.specs.Float.{inf, binary32}
use Rattle.std.specs.Float.Ieee.{of_int, to_bits, neg, add, sub, mul, div, lt, le}
use Rattle.std.specs.Float.Ieee.Scale.{finite}
use Rattle.laws.specs.Bits.{has}
use Rattle.laws.specs.Floats.{hundredths, one, minus_one}
use Rattle.laws.specs.laws.Order.{le_through}
use Rattle.laws.proofs.Within.{low_finite, high_finite, within_finite}
use Rattle.action.specs.Actions as A
use Rattle.action.specs.Bounds.{Rows, RowsIn}
use Rattle.craft_context.specs.declared.context.CraftContext.{CraftContext}
use Rattle.craft_context.specs.Limits.{ContextIn}
use Rattle.craft_state.specs.declared.state.CraftState.{CraftState}
use Rattle.craft_state.specs.Limits.{step_most}
use Rattle.craft_state.specs.Inside.{CraftIn}
use Rattle.craft_state.specs.laws.Inside.{start_in}
use Rattle.craft_state.specs.Start.{start_of}
use Rattle.step.specs.Step.{execute_by}
use Rattle.step.specs.laws.Step.{execute_step}
use Rattle.moves.specs.declared.mode.Mode.{Mode}
use Rattle.moves.specs.Moves.{moves_by}
use Rattle.moves.specs.laws.Moves.{legal_known, legal_playable, legal_keeps}
use Rattle.score.specs.Score.{weigh, score_of}
use Rattle.score.specs.Bounds.{full_steps, greatest_score}
use Rattle.score.specs.laws.Score.{least_four, least_steps, of_either, steps_within, weighed_within, by_steps, Scorable}

-- ---- the bounds, worked out

pub greatest_bits : to_bits binary32 greatest_score ≡ 0x3f7f_f326
unfolding to_bits of_int add sub mul div lt
greatest_bits = refl

pub greatest_finite : T (finite greatest_score)
unfolding of_int add sub mul div lt
greatest_finite = tt

-- THE number of the theorem: what the bonuses come to is below 1
pub greatest_below_one : T (lt greatest_score one)
unfolding of_int add sub mul div lt
greatest_below_one = tt

steps_below_greatest : T (le full_steps greatest_score)
unfolding of_int add sub mul div lt le
steps_below_greatest = tt

inf_below_greatest : T (le (inf true) greatest_score)
unfolding of_int add sub mul div lt le
inf_below_greatest = tt

pub inf_below_one : T (lt (inf true) one)
unfolding of_int lt
inf_below_one = tt

-- at most both, the steps alone and the parts weighed, at their least
abbrev pub Floor : Float → Bool → Bool → Type 0
Floor lo finished timely = T (finite lo) × T (le lo (least_steps timely)) × T (le lo (weigh (least_four finished) (least_steps timely)))

pub floor_one : Floor minus_one false true
unfolding of_int add sub mul div le
floor_one = (tt, tt, tt)

pub floor_three_quarters : Floor (neg (hundredths 75)) true true
unfolding of_int neg add sub mul div le
floor_three_quarters = (tt, tt, tt)

floor_254 : Floor (of_int binary32 (negsuc 253)) false false
unfolding of_int add sub mul div le
floor_254 = (tt, tt, tt)

pub floor_weighed : T (finite (neg (hundredths 1365))) × T (le (neg (hundredths 1365)) (weigh (least_four false) (least_steps false)))
unfolding of_int neg add sub mul div le
floor_weighed = (tt, tt)

-- ---- THE theorems, of a single state

module _ (context : CraftContext) (state : CraftState) (given : Scorable context state) (top : context.step_max ≤ step_most) where
  pub score_most : T (le (score_of context state) greatest_score)
  score_most = by_steps context state given given.started (λ x. T (le x greatest_score)) inf_below_greatest finite_most
    where
      finite_most : 0 < context.step_max → T (le (score_of context state) greatest_score)
      finite_most some =
          let steps = steps_within context state given top some false absurd in
          of_either context state (λ x. T (le x greatest_score))
          (le_through _ full_steps greatest_score (within_finite steps) (high_finite steps) greatest_finite steps.to steps_below_greatest)
          (weighed_within context state given top some false absurd false absurd).to

  module _ (some : 0 < context.step_max) where
    pub score_from : (lo : Float) (finished timely : Bool) → (T finished → context.progress_target ≤ state.progress)
        → (T timely → state.step ≤ context.step_max) → Floor lo finished timely → T (le lo (score_of context state))
    score_from lo finished timely done early floor =
        let steps = steps_within context state given top some timely early in
        let weighed = weighed_within context state given top some timely early finished done in
        of_either context state (λ x. T (le lo x))
        (le_through lo _ _ floor.0 (low_finite steps) (within_finite steps) floor.1 steps.from)
        (le_through lo _ _ floor.0 (low_finite weighed) (within_finite weighed) floor.2 weighed.from)

    -- past step_max at least -254
    pub score_lowest : T (le (of_int binary32 (negsuc 253)) (score_of context state))
    score_lowest = score_from (of_int binary32 (negsuc 253)) false false absurd absurd floor_254

-- ---- a state that a craft came to: what the bounds rest on, and every legal action keeps

pub record Timely (c : CraftContext) (s : CraftState) : Type 0 where
  pub inside : CraftIn c s
  pub byte : s.step ≤ step_most
  -- where step_max is 0, a craft has ended at its start
  pub early : 0 < c.step_max → s.step ≤ c.step_max

pub start_timely : (c : CraftContext) → ContextIn c → Timely c (start_of c)
unfolding start_of
start_timely c h = record { inside = start_in c h; byte = lit≤ tt; early = λ some. some }

module _ (c : CraftContext) (top : c.step_max ≤ step_most) (s : CraftState) (t : Timely c s) where
  -- by any table in the bounds, and in any mode
  pub legal_timely : (rows : Rows) → RowsIn rows → (mode : Mode) (n : ℕ) → has (moves_by rows c s mode) n ≡ true → Timely c (execute_by rows c s n)
  legal_timely rows bounded mode n legal =
      let known = legal_known rows c s mode n legal in
      let next = at_most (n == A.QuickInnovation) (legal_playable rows bounded c s mode n t.inside known legal).early in
      record {
        inside = legal_keeps rows bounded c s mode n t.inside known legal;
        byte = rw (execute_step c s n (rows n)) (omega arith);
        early = λ some. rw (execute_step c s n (rows n)) next;
      }
    where
      at_most : (quick : Bool) → s.step < c.step_max → cond quick s.step (s.step + 1) ≤ c.step_max
      at_most true early = omega arith
      at_most false early = omega arith
