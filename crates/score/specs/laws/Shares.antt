-- The portions of a score and its share of the steps, each between its least and its greatest, and what the bonuses make of them: by the order that
-- the rounded operations keep.
-- Assumes nothing.
use Rattle.std.specs.Prelude.{◌≡◌, ℕ, zero, suc, ◌-◌, ◌<◌, ◌≤◌, Bool, true, false, cond, T, ℤ, pos, negsuc, refl, Float}
use Rattle.std.proofs.Common.{ap, zero-lt-suc, arith}
use Rattle.std.proofs.Math.Dec.{lit≤}
use Rattle.std.specs.Float.Ieee.{binary32, of_int, div, lt, le}
use Rattle.laws.specs.Floats.{float, hundredths, one}
use Rattle.laws.specs.laws.Plus.{Plus, plus_of_nat, plus_div}
use Rattle.laws.specs.laws.Small.{Small, small_more, of_nat_value}
use Rattle.laws.specs.laws.NoNan.{over_zero}
use Rattle.laws.specs.laws.Order.{le_same, lt_le, plus_least}
use Rattle.laws.specs.laws.Monotone.{quotient_up}
use Rattle.laws.proofs.Within.{Within, within_same, add_within, mul_within, sub_within}
use Rattle.action.specs.Limits.{amount_most}
use Rattle.craft_state.specs.Limits.{step_most, durability_least}
use Rattle.craft_state.specs.Inside.{DurabilityIn}
use Rattle.craft_state.specs.laws.Inside.{raised}
use Rattle.score.specs.Score.{progress_bonus, quality_bonus, durability_bonus, cp_bonus, fewer_steps_bonus, capped_of, portion_of, fewer_of, weigh_four, weigh}
use Rattle.score.specs.Bounds.{first_step, full_steps}

-- ---- one and the bonuses are at most 1

one_small : Small one 1
unfolding of_int
one_small = lit≤ tt

progress_small : Small progress_bonus 1
unfolding of_int div
progress_small = lit≤ tt

quality_small : Small quality_bonus 1
unfolding of_int div
quality_small = lit≤ tt

durability_small : Small durability_bonus 1
unfolding of_int div
durability_small = lit≤ tt

cp_small : Small cp_bonus 1
unfolding of_int div
cp_small = lit≤ tt

fewer_steps_small : Small fewer_steps_bonus 1
unfolding of_int div
fewer_steps_small = lit≤ tt

-- ---- the share of the steps that is left: at most what the first of 255 steps leaves, and in time at least none

-- the latest step of a craft whose step_max is 1
abbrev pub latest : Bool → ℕ
latest timely = cond timely 1 step_most

module _ (step most : ℕ) (started : first_step ≤ step) (byte : step ≤ step_most) (some : 0 < most) (top : most ≤ step_most) where
  used_within : (timely : Bool) → (T timely → step ≤ most)
      → Within step_most (div binary32 (float first_step) (float step_most)) (div binary32 (float step) (float most)) (div binary32 (float (latest timely)) one)
  unfolding of_int div
  used_within timely early = record { low = lit≤ tt; high = high timely; from = from; to = to timely early }
    where
      high : (timely : Bool) → Small (div binary32 (float (latest timely)) one) step_most
      high true = lit≤ tt
      high false = lit≤ tt

      from : T (le (div binary32 (float first_step) (float step_most)) (div binary32 (float step) (float most)))
      from = quotient_up binary32 (pos first_step) step_most (pos step) most (lit≤ tt) some (lit≤ tt) (lit≤ tt) (omega arith) (omega arith) (omega arith)

      to : (timely : Bool) → (T timely → step ≤ most) → T (le (div binary32 (float step) (float most)) (div binary32 (float (latest timely)) one))
      to true early = quotient_up binary32 (pos step) most (pos 1) 1 some (lit≤ tt) (omega arith) (omega arith) (lit≤ tt) (lit≤ tt) (omega (arith, early tt))
      to false early = quotient_up binary32 (pos step) most (pos step_most) 1 some (lit≤ tt) (omega arith) (omega arith) (lit≤ tt) (lit≤ tt) (omega arith)

  pub fewer_within : (timely : Bool) → (T timely → step ≤ most) → Within 256 (fewer_of (latest timely) 1) (fewer_of step most) full_steps
  fewer_within timely early = sub_within binary32 (used_within timely early) one 1 one_small (lit≤ tt)

-- ---- a quotient under the cap

capped_within : (b : ℕ) (lo q : Float) → 1 ≤ b → Small lo b → T (le lo one) → (T (lt q one) → T (le lo q)) → Within b lo (capped_of q) one
unfolding of_int
capped_within b lo q B p h k = go (lt q one) (lt_le q one) k
  where
    go : (t : Bool) → (T t → T (le q one)) → (T t → T (le lo q)) → Within b lo (cond t q one) one
    go true a c = record { low = p; high = small_more one 1 b B one_small; from = c tt; to = a tt }
    go false a c = record { low = p; high = small_more one 1 b B one_small; from = h; to = le_same one tt }

-- of whole numbers it is at least 0
pub whole_within : (value target : ℕ) → Within 1 (float 0) (portion_of (float value) (float target)) one
unfolding of_int le
whole_within value target =
    let q = div binary32 (float value) (float target) in
    capped_within 1 (float 0) q (lit≤ tt) (lit≤ tt) tt
    (plus_least q one (plus_div binary32 (float value) (float target) (plus_of_nat binary32 value) (plus_of_nat binary32 target)))

-- and 1 where the value is at its target
over_nothing : (value : ℕ) → value ≤ amount_most → portion_of (float value) (float 0) ≡ one
unfolding of_int div lt
over_nothing zero h = refl
over_nothing (suc v) h = ap capped_of (over_zero binary32 (float (suc v)) (suc v) (zero-lt-suc v) (of_nat_value binary32 (suc v) h))

pub full_within : (value target : ℕ) → value ≤ amount_most → target ≤ value → Within 1 one (portion_of (float value) (float target)) one
unfolding of_int div
full_within value zero h l = rw (over_nothing value h) (within_same one 1 one_small)
full_within value (suc t) h l =
    capped_within 1 one (div binary32 (float value) (float (suc t))) (lit≤ tt) one_small (le_same one tt)
    (λ k. quotient_up binary32 (pos 1) 1 (pos value) (suc t) (lit≤ tt) (zero-lt-suc t) (lit≤ tt) (lit≤ tt) (omega arith) (omega arith) (omega arith))

-- durability may be below 0, by 19 at most
abbrev pub least_portion : Float
least_portion = div binary32 (of_int binary32 durability_least) one

pub durability_within : (d most : ℤ) → DurabilityIn d most → Within 19 least_portion (portion_of (of_int binary32 d) (of_int binary32 most)) one
unfolding of_int div le
durability_within d (negsuc n) h = absurd (none n (raised h).above)
  where
    none : (n : ℕ) → 1000 < 999 - n → ⊥
    none n h = omega arith
durability_within (pos a) (pos n) h =
    let r = raised h in
    capped_within 19 least_portion (div binary32 (float a) (float n)) (lit≤ tt) (lit≤ tt) tt
    (λ k.
    quotient_up binary32 durability_least 1 (pos a) n (lit≤ tt) (omega (arith, r.above)) (lit≤ tt) (lit≤ tt) (omega (arith, r.to, r.top)) (omega (arith, r.top)) (omega arith))
durability_within (negsuc a) (pos n) h =
    let r = raised h in
    capped_within 19 least_portion (div binary32 (of_int binary32 (negsuc a)) (float n)) (lit≤ tt) (lit≤ tt) tt
    (λ k.
    quotient_up binary32 durability_least 1 (negsuc a) n (lit≤ tt) (omega (arith, r.above)) (lit≤ tt) (lit≤ tt) (omega (arith, r.from)) (omega (arith, r.top)) (omega (arith, r.from, r.above)))

-- ---- weighed by their bonuses and added from left to right

-- a bonus is not negative
plus_bonus : (n : ℕ) → Plus (hundredths n)
plus_bonus n = plus_div binary32 (float n) (float 100) (plus_of_nat binary32 n) (plus_of_nat binary32 100)

pub four_within : {p₀ p p₁ q₀ q q₁ d₀ d d₁ c₀ c c₁ : Float} → Within 1 p₀ p p₁ → Within 1 q₀ q q₁ → Within 19 d₀ d d₁ → Within 1 c₀ c c₁
    → Within 22 (weigh_four p₀ q₀ d₀ c₀) (weigh_four p q d c) (weigh_four p₁ q₁ d₁ c₁)
four_within p q d c =
    add_within binary32
    (add_within binary32
    (add_within binary32
    (mul_within binary32 p progress_bonus 1 (plus_bonus _) progress_small (lit≤ tt))
    (lit≤ tt)
    (mul_within binary32 q quality_bonus 1 (plus_bonus _) quality_small (lit≤ tt)))
    (lit≤ tt)
    (mul_within binary32 d durability_bonus 1 (plus_bonus _) durability_small (lit≤ tt)))
    (lit≤ tt)
    (mul_within binary32 c cp_bonus 1 (plus_bonus _) cp_small (lit≤ tt))

pub weigh_within : {x₀ x x₁ f₀ f f₁ : Float} → Within 22 x₀ x x₁ → Within 256 f₀ f f₁ → Within 278 (weigh x₀ f₀) (weigh x f) (weigh x₁ f₁)
weigh_within x f = add_within binary32 x (lit≤ tt) (mul_within binary32 f fewer_steps_bonus 1 (plus_bonus _) fewer_steps_small (lit≤ tt))
