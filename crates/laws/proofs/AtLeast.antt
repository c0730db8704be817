-- Products and quotients of floats that are at least 0: what rests on `round_small`.
-- Assumes nothing.
use Rattle.std.specs.Prelude.{◌≡◌, refl, Bool, true, false, ℕ, ◌*◌, ◌^◌, ◌≤◌, ◌<◌, T, Float}
use Rattle.std.proofs.Common.{zero-le, le_trans, le_of_eq, mul-pos, mul-le-mul, zero-mul, arith, pow_pos, ne_eqb}
use Rattle.std.proofs.Math.Nat.{mul-mul-mul_comm}
use Rattle.std.specs.Float.{nan, inf, fin, Format}
use Rattle.std.specs.Float.Ieee.{prec, up, down, unlike, round, mul, div, neg, le}
use Rattle.std.specs.Float.Ieee.Fits.{up_pos, down_pos}
use Rattle.std.specs.Float.Ieee.Scale.{finite}
use Rattle.laws.specs.laws.Tests.{true_false}
use Rattle.laws.specs.Floats.{one}
use Rattle.laws.specs.laws.Plus.{plus_round}
use Rattle.laws.specs.laws.Small.{Small, small_finite, round_small}
use Rattle.laws.specs.laws.Order.{minus_by, le_order}
use Rattle.laws.proofs.Small.{div_at_most}
use Rattle.laws.specs.laws.AtLeast.{AtLeast0, least_minus, plus_at_least, nothing_least, minus_product, one_most, some, no_more}

round_least : (f : Format) (s : Bool) (a c b : ℕ) → 0 < c → b ≤ 2 ^ prec f → a ≤ b * c → minus_by s a ≡ 0 → AtLeast0 (round f s a c)
round_least f false a c b C B h e = plus_at_least (round f false a c) (plus_round f a c) (small_finite (round f false a c) b (round_small f false a c b C B h))
round_least f true a c b C B h e = nothing_least (round f true a c) (round_small f true a c 0 C zero-le (omega (arith, e, zero-mul c)))

pub mul_least : (f : Format) (x y : Float) (b d : ℕ) → b * d ≤ 2 ^ prec f → Small x b → Small y d → AtLeast0 x → AtLeast0 y → AtLeast0 (mul f x y)
unfolding mul
mul_least f nan y b d B p q h k = absurd p
mul_least f (inf s) y b d B p q h k = absurd p
mul_least f (fin s m e) nan b d B p q h k = absurd q
mul_least f (fin s m e) (inf t) b d B p q h k = absurd q
mul_least f (fin s m e) (fin t n g) b d B p q h k =
    round_least f (unlike s t) (m * up e * (n * up g)) (down e * down g) (b * d) (mul-pos (down_pos e) (down_pos g)) B
    (le_trans (mul-le-mul p q) (le_of_eq (mul-mul-mul_comm b (down e) d (down g))))
    (minus_product s t (m * up e) (n * up g) (least_minus s m e h) (least_minus t n g k))

pub over_one_small : (f : Format) (x y : Float) (b : ℕ) → b ≤ 2 ^ prec f → T (le one y) → T (finite y) → Small x b → Small (div f x y) b
over_one_small f nan y b B h g p = absurd p
over_one_small f (inf s) y b B h g p = absurd p
over_one_small f (fin s m e) nan b B h g p = absurd g
over_one_small f (fin s m e) (inf t) b B h g p = absurd g
over_one_small f (fin s m e) (fin t n d) b B h g p =
    let k = (one_most t n d h).1 in
    div_at_most f s m e t n d b B (some n d k) (no_more (m * up e) (down e) (n * up d) (down d) b p k)

pub over_one_least : (f : Format) (x y : Float) (b : ℕ) → b ≤ 2 ^ prec f → T (le one y) → T (finite y) → Small x b → AtLeast0 x
    → AtLeast0 (div f x y)
unfolding div
over_one_least f nan y b B h g p l = absurd p
over_one_least f (inf s) y b B h g p l = absurd p
over_one_least f (fin s m e) nan b B h g p l = absurd g
over_one_least f (fin s m e) (inf t) b B h g p l = absurd g
over_one_least f (fin s m e) (fin true n d) b B h g p l = absurd (true_false (one_most true n d h).0)
over_one_least f (fin s m e) (fin false n d) b B h g p l =
    let k = (one_most false n d h).1 in
    let N = some n d k in
    rw (ne_eqb n 0 (λ (e : n ≡ 0). omega arith))
    (round_least f (unlike s false) (m * up e * down d) (n * up d * down e) b (mul-pos (mul-pos N (up_pos d)) (down_pos e)) B
    (no_more (m * up e) (down e) (n * up d) (down d) b p k)
    (minus_product s false (m * up e) (down d) (least_minus s m e l) refl))

-- what is no larger than that, either way
pub over_size : (f : Format) (y x : Float) → T (le one y) → T (finite y) → T (le (neg y) x) → T (le x y) → Small (div f x y) 1
unfolding le neg
over_size f nan x h g k l = absurd g
over_size f (inf t) x h g k l = absurd g
over_size f (fin true n d) x h g k l = absurd (true_false (one_most true n d h).0)
over_size f (fin false n d) nan h g k l = absurd l
over_size f (fin false n d) (inf true) h g k l = absurd k
over_size f (fin false n d) (inf false) h g k l = absurd l
over_size f (fin false n d) (fin true m e) h g k l =
    div_at_most f true m e false n d 1 (pow_pos (prec f)) (some n d (one_most false n d h).1)
    (omega (arith, le_order (fin true n d) (fin true m e) tt tt k))
over_size f (fin false n d) (fin false m e) h g k l =
    div_at_most f false m e false n d 1 (pow_pos (prec f)) (some n d (one_most false n d h).1)
    (omega (arith, le_order (fin false m e) (fin false n d) tt tt l))
