-- Each operation keeps the bound of `Small`, up to 2 ^ prec: what rests on `round_small`.
-- Assumes nothing.
use Rattle.std.specs.Prelude.{◌≡◌, Bool, true, false, cond, ◌&&◌, ℕ, zero, suc, ◌+◌, ◌-◌, ◌*◌, ◌^◌, ◌≤◌, ◌<◌, ltb, ℤ, pos, Float}
use Rattle.std.proofs.Common.{sym, ap, ◌∙◌, le_trans, le_of_eq, lt_irrefl, zero-lt-suc, mul_assoc, mul_comm, mul_right_comm, mul-one, zero-mul, add-mul, mul-pos, mul-le-mul, mul-le-mul_right, arith, pow_pos}
use Rattle.std.specs.Bool.{beq}
use Rattle.std.proofs.Math.Nat.{mul-mul-mul_comm}
use Rattle.std.proofs.Math.Dec.{eqb-suc-zero}
use Rattle.std.specs.Float.{nan, inf, fin, Format}
use Rattle.std.specs.Float.Ieee.{prec, up, down, unlike, round, sum, add, sub, neg, mul, div, of_int}
use Rattle.std.specs.Float.Ieee.Fits.{up_pos, down_pos}
use Rattle.std.specs.Float.Ieee.Exact.{HasValue}
use Rattle.laws.specs.laws.Small.{Small, round_small, neg_small}

pub of_nat_small : (f : Format) (n b : ℕ) → n ≤ b → b ≤ 2 ^ prec f → Small (of_int f (pos n)) b
unfolding of_int
of_nat_small f n b h B = round_small f false n 1 b (pow_pos 0) B (le_trans h (le_of_eq (sym (mul-one b))))

sum_small : (f : Format) (s : Bool) (a : ℕ) (t : Bool) (b c i j : ℕ) → 0 < c → i + j ≤ 2 ^ prec f → a ≤ i * c → b ≤ j * c
    → Small (sum f s a t b c) (i + j)
unfolding sum
sum_small f s a t b c i j C B p q = go (beq s t) (ltb a b)
  where
    whole : (z : ℕ) → z ≤ i * c + j * c → z ≤ (i + j) * c
    whole z h = le_trans h (le_of_eq (sym (add-mul i j c)))

    go : (u v : Bool) → Small (cond u (round f s (a + b) c) (cond v (round f t (b - a) c) (round f (s && ltb b a) (a - b) c))) (i + j)
    go true v = round_small f s (a + b) c (i + j) C B (whole (a + b) (omega arith))
    go false true = round_small f t (b - a) c (i + j) C B (whole (b - a) (omega arith))
    go false false = round_small f (s && ltb b a) (a - b) c (i + j) C B (whole (a - b) (omega arith))

pub add_small : (f : Format) (x y : Float) (b d : ℕ) → b + d ≤ 2 ^ prec f → Small x b → Small y d → Small (add f x y) (b + d)
unfolding add
add_small f nan y b d B p q = absurd p
add_small f (inf s) y b d B p q = absurd p
add_small f (fin s m e) nan b d B p q = absurd q
add_small f (fin s m e) (inf t) b d B p q = absurd q
add_small f (fin s m e) (fin t n g) b d B p q =
    sum_small f s (m * up e * down g) t (n * up g * down e) (down e * down g) b d (mul-pos (down_pos e) (down_pos g)) B
    (le_trans (mul-le-mul_right (down g) p) (le_of_eq (mul_assoc b (down e) (down g))))
    (le_trans (mul-le-mul_right (down e) q) (le_of_eq (mul_assoc d (down g) (down e) ∙ ap (λ (z : ℕ). d * z) (mul_comm (down g) (down e)))))

pub sub_small : (f : Format) (x y : Float) (b d : ℕ) → b + d ≤ 2 ^ prec f → Small x b → Small y d → Small (sub f x y) (b + d)
unfolding sub
sub_small f x y b d B p q = add_small f x (neg y) b d B p (neg_small y d q)

pub mul_small : (f : Format) (x y : Float) (b d : ℕ) → b * d ≤ 2 ^ prec f → Small x b → Small y d → Small (mul f x y) (b * d)
unfolding mul
mul_small f nan y b d B p q = absurd p
mul_small f (inf s) y b d B p q = absurd p
mul_small f (fin s m e) nan b d B p q = absurd q
mul_small f (fin s m e) (inf t) b d B p q = absurd q
mul_small f (fin s m e) (fin t n g) b d B p q =
    round_small f (unlike s t) (m * up e * (n * up g)) (down e * down g) (b * d) (mul-pos (down_pos e) (down_pos g)) B
    (le_trans (mul-le-mul p q) (le_of_eq (mul-mul-mul_comm b (down e) d (down g))))

-- what is at most b times as large as what it is divided by
pub div_at_most : (f : Format) (s : Bool) (m : ℕ) (e : ℤ) (t : Bool) (n : ℕ) (d : ℤ) (b : ℕ) → b ≤ 2 ^ prec f → 0 < n
    → m * up e * down d ≤ b * (n * up d * down e) → Small (div f (fin s m e) (fin t n d)) b
unfolding div
div_at_most f s m e t zero d b B N h = absurd (lt_irrefl 0 N)
div_at_most f s m e t (suc w) d b B N h =
    rw eqb-suc-zero (round_small f (unlike s t) (m * up e * down d) (suc w * up d * down e) b (mul-pos (mul-pos N (up_pos d)) (down_pos e)) B h)

-- what is at most b * n, over a whole number n above 0
pub div_small : (f : Format) (x y : Float) (b n : ℕ) → b ≤ 2 ^ prec f → 0 < n → HasValue y false n 1 → Small x (b * n) → Small (div f x y) b
div_small f nan y b n B N v p = absurd p
div_small f (inf s) y b n B N v p = absurd p
div_small f (fin s m e) nan b n B N v p = absurd v
div_small f (fin s m e) (inf t) b n B N v p = absurd v
div_small f (fin s m e) (fin t zero d) b n B N v p = absurd (nothing n (down d) N (down_pos d) v.1)
  where
    nothing : (n k : ℕ) → 0 < n → 0 < k → 0 * up d * 1 ≡ n * k → ⊥
    nothing n k N K h = let p : 0 < n * k = mul-pos N K in omega (arith, zero-mul (up d))
div_small f (fin s m e) (fin t (suc w) d) b n B N v p =
    let y-is : n * down d ≡ suc w * up d = sym v.1 ∙ mul-one (suc w * up d) in
    div_at_most f s m e t (suc w) d b B (zero-lt-suc w)
    (le_trans (mul-le-mul_right (down d) p)
    (le_of_eq
    (mul_right_comm (b * n) (down e) (down d)
    ∙ ap (λ (z : ℕ). z * down e) (mul_assoc b n (down d) ∙ ap (λ (z : ℕ). b * z) y-is)
    ∙ mul_assoc b (suc w * up d) (down e))))
