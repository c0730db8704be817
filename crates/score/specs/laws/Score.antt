-- The score between what its parts can come to. So none is a NaN: it is finite, but for step_max 0, which gives minus infinity. And zero of zero earns
-- the full bonus.
-- Assumes nothing.
use Rattle.std.specs.Prelude.{◌≡◌, ℕ, zero, suc, ◌<◌, ◌≤◌, Bool, true, false, cond, not, T, ◌==◌, refl, Float}
use Rattle.std.proofs.Common.{ap, subst, le_trans, zero-lt-suc, lit≤}
use Rattle.std.specs.Float.Ieee.{inf, binary32, of_bits, of_int, sub, mul, div, lt, is_nan}
use Rattle.std.specs.Float.Ieee.Scale.{finite}
use Rattle.laws.specs.Floats.{float, hundredths, one}
use Rattle.laws.specs.laws.Floats.{fifth_bits, sixty_five_bits, twentieth_bits}
use Rattle.laws.specs.laws.Small.{of_nat_value}
use Rattle.laws.specs.laws.NoNan.{finite_no_nan, add_minus_inf, over_zero}
use Rattle.laws.proofs.Within.{Within, within_finite}
use Rattle.action.specs.Limits.{amount_most}
use Rattle.craft_context.specs.declared.context.CraftContext.{CraftContext}
use Rattle.craft_state.specs.declared.state.CraftState.{CraftState}
use Rattle.craft_state.specs.Limits.{step_most}
use Rattle.craft_state.specs.Inside.{DurabilityIn, CraftIn}
use Rattle.score.specs.Score.{progress_bonus, quality_bonus, durability_bonus, cp_bonus, fewer_steps_bonus, portion_of, part_of, fewer_of, weigh_four, weigh, weighed_of, score_of}
use Rattle.score.specs.Bounds.{first_step, full_steps, greatest_score}
use Rattle.score.specs.laws.Shares.{latest, least_portion}
use Rattle.score.specs.laws.Shares.{fewer_within, whole_within, full_within, durability_within, four_within, weigh_within}

-- ---- zero of zero earns the full bonus

abbrev Full : Float → Type 0
Full bonus = part_of bonus (float 0) (float 0) ≡ bonus

pub progress_full : Full progress_bonus
unfolding of_int of_bits mul div lt
progress_full = subst Full fifth_bits refl

pub quality_full : Full quality_bonus
unfolding of_int of_bits mul div lt
quality_full = subst Full sixty_five_bits refl

twentieth_full : Full (hundredths 5)
unfolding of_int of_bits mul div lt
twentieth_full = subst Full twentieth_bits refl

pub durability_full : Full durability_bonus
durability_full = twentieth_full

pub cp_full : Full cp_bonus
cp_full = twentieth_full

-- ---- what the bounds of a score rest on, of all that a state inside the limits has

pub record Scorable (context : CraftContext) (state : CraftState) : Type 0 where
  pub started : first_step ≤ state.step
  pub byte : state.step ≤ step_most
  pub progress : state.progress ≤ amount_most
  pub durability : DurabilityIn state.durability context.durability_max

pub scorable : (context : CraftContext) (state : CraftState) → CraftIn context state → state.step ≤ step_most → Scorable context state
scorable context state given byte =
    record { started = le_trans (lit≤ tt) given.state.step; byte = byte; progress = given.state.progress; durability = given.state.durability }

-- ---- the parts at their least

-- progress full where the craft is finished, all else none, and durability -19 of 1; the steps as late as they can be
abbrev pub least_four : Bool → Float
least_four finished = weigh_four (cond finished one (float 0)) (float 0) least_portion (float 0)

abbrev pub least_steps : Bool → Float
least_steps timely = fewer_of (latest timely) 1

bonus_minus_inf : mul binary32 fewer_steps_bonus (inf true) ≡ inf true
unfolding of_int mul div
bonus_minus_inf = refl

module _ (context : CraftContext) (state : CraftState) where
  -- the share of the steps that is left
  abbrev pub steps_left : Float
  steps_left = fewer_of state.step context.step_max

  -- the score is that alone or, with a quality target, the parts weighed
  pub of_either : (P : Float → Type 0) → P steps_left → P (weighed_of context state) → P (score_of context state)
  unfolding score_of
  of_either P a b = go (context.quality_target == 0)
    where
      go : (t : Bool) → P (cond t steps_left (weighed_of context state))
      go true = a
      go false = b

  module _ (given : Scorable context state) where
    -- the parts that the steps do not touch
    abbrev others : Float
    others =
        weigh_four
        (portion_of (float state.progress) (float context.progress_target))
        (portion_of (float state.quality) (float context.quality_target))
        (portion_of (of_int binary32 state.durability) (of_int binary32 context.durability_max))
        (portion_of (float state.cp) (float context.cp_max))

    others_within : (finished : Bool) → (T finished → context.progress_target ≤ state.progress) → Within 22 (least_four finished) others (weigh_four one one one one)
    others_within finished done =
        four_within (progress finished done)
        (whole_within state.quality context.quality_target)
        (durability_within state.durability context.durability_max given.durability)
        (whole_within state.cp context.cp_max)
      where
        progress : (t : Bool) → (T t → context.progress_target ≤ state.progress)
            → Within 1 (cond t one (float 0)) (portion_of (float state.progress) (float context.progress_target)) one
        progress true h = full_within state.progress context.progress_target given.progress (h tt)
        progress false h = whole_within state.progress context.progress_target

    -- ---- where step_max is above 0

    module _ (top : context.step_max ≤ step_most) (some : 0 < context.step_max) (timely : Bool) (early : T timely → state.step ≤ context.step_max) where
      pub steps_within : Within 256 (least_steps timely) steps_left full_steps
      steps_within = fewer_within state.step context.step_max given.started given.byte some top timely early

      pub weighed_within : (finished : Bool) → (T finished → context.progress_target ≤ state.progress)
          → Within 278 (weigh (least_four finished) (least_steps timely)) (weighed_of context state) greatest_score
      unfolding weighed_of
      weighed_within finished done = weigh_within (others_within finished done) steps_within

    pub score_finite : context.step_max ≤ step_most → 0 < context.step_max → T (finite (score_of context state))
    score_finite top some =
        of_either (λ x. T (finite x)) (within_finite (steps_within top some false absurd)) (within_finite (weighed_within top some false absurd false absurd))

    -- ---- step_max 0 gives minus infinity

    steps_minus_inf : 0 < state.step → context.step_max ≡ 0 → steps_left ≡ inf true
    unfolding of_int sub
    steps_minus_inf started none =
        rw none
        (ap (sub binary32 one) (over_zero binary32 (float state.step) state.step started (of_nat_value binary32 state.step (le_trans given.byte (lit≤ tt)))))

    minus_inf : 0 < state.step → context.step_max ≡ 0 → score_of context state ≡ inf true
    unfolding weighed_of
    minus_inf started none =
        of_either (λ x. x ≡ inf true) (steps_minus_inf started none)
        (rw (steps_minus_inf started none, bonus_minus_inf) (add_minus_inf binary32 others (within_finite (others_within false absurd))))

    -- so what holds of minus infinity, and of the score where step_max is above 0, holds of every score
    pub by_steps : 0 < state.step → (P : Float → Type 0) → P (inf true) → (0 < context.step_max → P (score_of context state)) → P (score_of context state)
    by_steps started P none some = go context.step_max refl
      where
        go : (most : ℕ) → context.step_max ≡ most → P (score_of context state)
        go zero e = rw (minus_inf started e) none
        go (suc m) e = some (rw e (zero-lt-suc m))

module _ (context : CraftContext) (state : CraftState) (given : CraftIn context state) (byte : state.step ≤ step_most) where
  pub score_minus_inf : context.step_max ≡ 0 → score_of context state ≡ inf true
  score_minus_inf none = minus_inf context state (scorable context state given byte) given.state.step none

  -- THE theorem: no score is a NaN
  pub score_no_nan : context.step_max ≤ step_most → T (not (is_nan (score_of context state)))
  unfolding is_nan
  score_no_nan top =
      let rests = scorable context state given byte in
      by_steps context state rests given.state.step (λ x. T (not (is_nan x))) tt
      (λ some. finite_no_nan (score_of context state) (score_finite context state rests top some))
