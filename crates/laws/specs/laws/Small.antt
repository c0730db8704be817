-- `Small x b`: a float x is finite, and at most b in size. Each operation keeps such a bound, up to 2 ^ prec.
-- Assumes nothing.
use Rattle.std.specs.Prelude.{◌≡◌, refl, Bool, true, false, cond, ◌&&◌, ◌||◌, ℕ, zero, suc, ◌+◌, ◌-◌, ◌*◌, ◌/◌, ◌^◌, ◌≤◌, ◌<◌, min, T, ltb, eqb, ℤ, pos, Float}
use Rattle.std.proofs.Common.{sym, ap, ◌∙◌, subst, zero-le, le_trans, le_of_eq, le_of_lt, lt_of_le_of_lt, mul_comm, mul_right_comm, mul-one, one-mul, mul-pos, mul-le-mul_right, mul-lt-mul_of_pos_right, le_of_mul-le-mul_right, arith, ltb→lt, lt→ltb, eqb→eq, pow_pos}
use Rattle.std.proofs.Math.Nat.{min-le_left, min-eq_left, div-le_of_le-mul}
use Rattle.std.specs.Float.{nan, inf, fin, Format}
use Rattle.std.specs.Float.Ieee.{prec, emax, low, up, down, odd, units, round, neg, lt, eq, le, of_int, to_unsigned}
use Rattle.std.specs.Float.Ieee.Fits.{round_is, down_pos}
use Rattle.std.specs.Float.Ieee.Exact.{HasValue}
use Rattle.std.specs.Float.Ieee.Order.{round_mono, kept, drop}
use Rattle.std.specs.Float.Ieee.Back.{round_whole}
use Rattle.std.specs.Float.Ieee.Scale.{finite}
use Rattle.laws.specs.laws.Plus.{Plus, plus_round}

abbrev pub Small : Float → ℕ → Type 0
Small nan b = ⊥
Small (inf s) b = ⊥
Small (fin s m e) b = m * up e ≤ b * down e

pub small_more : (x : Float) (b c : ℕ) → b ≤ c → Small x b → Small x c
small_more nan b c h p = p
small_more (inf s) b c h p = p
small_more (fin s m e) b c h p = le_trans p (mul-le-mul_right (down e) h)

pub small_finite : (x : Float) (b : ℕ) → Small x b → T (finite x)
small_finite nan b p = p
small_finite (inf s) b p = p
small_finite (fin s m e) b p = tt

-- ---- rounding

-- two magnitudes, as `le` compares them
pub or_le : (x y : ℕ) (t : Bool) → T (ltb x y || (eqb x y && t)) → x ≤ y
or_le x y t h = go (ltb x y) (eqb x y) (ltb→lt x y) (eqb→eq x y) h
  where
    go : (a c : Bool) → (T a → x < y) → (T c → x ≡ y) → T (a || (c && t)) → x ≤ y
    go true c f g h = le_of_lt (f tt)
    go false true f g h = le_of_eq (g tt)
    go false false f g h = absurd h

-- what is not negative and at most y, which is b, is at most b
under_whole : (x y : Float) (b : ℕ) → Plus x → HasValue y false b 1 → T (le x y) → Small x b
unfolding le lt eq
under_whole nan y b p w h = absurd h
under_whole (inf true) y b p w h = absurd p
under_whole (inf false) nan b p w h = absurd w
under_whole (inf false) (inf t) b p w h = absurd w
under_whole (inf false) (fin t n d) b p w h = absurd h
under_whole (fin true m e) y b p w h = absurd p
under_whole (fin false m e) nan b p w h = absurd w
under_whole (fin false m e) (inf t) b p w h = absurd w
under_whole (fin false m e) (fin true n d) b p w h = absurd (subst T w.0 tt)
under_whole (fin false m e) (fin false n d) b p w h =
    let y-is : n * up d ≡ b * down d = sym (mul-one (n * up d)) ∙ w.1 in
    let cross : m * up e * down d ≤ n * up d * down e = or_le (m * up e * down d) (n * up d * down e) _ h in
    le_of_mul-le-mul_right (le_trans cross (le_of_eq (ap (λ (z : ℕ). z * down e) y-is ∙ mul_right_comm b (down d) (down e)))) (down_pos d)

-- the size does not turn on the sign
either_sign : (f : Format) (s : Bool) (q k b : ℕ) → Small (units f false q k) b → Small (units f s q k) b
unfolding units odd
either_sign f s q k b = go (ltb (q * 2 ^ k) (2 ^ (low f + suc (emax f)))) q
  where
    go : (t : Bool) (q : ℕ) → Small (cond t (odd (suc (prec f)) false q k (low f)) (inf false)) b
        → Small (cond t (odd (suc (prec f)) s q k (low f)) (inf s)) b
    go true zero p = p
    go true (suc q) p = p
    go false q p = p

-- a fraction that is at most a whole number b rounds to at most b
pub round_small : (f : Format) (s : Bool) (a c b : ℕ) → 0 < c → b ≤ 2 ^ prec f → a ≤ b * c → Small (round f s a c) b
round_small f s a c b C B h =
    let q = kept (prec f) (a * 2 ^ low f) c in
    let k = drop (prec f) (a * 2 ^ low f) c in
    let m : T (le (round f false a c) (round f false b 1)) = round_mono f a c b 1 C (pow_pos 0) (le_trans (le_of_eq (mul-one a)) h) in
    let p : Small (round f false a c) b = under_whole (round f false a c) (round f false b 1) b (plus_round f a c) (round_whole f false b B) m in
    subst (λ (x : Float). Small x b) (sym (round_is f s a c)) (either_sign f s q k b (subst (λ (x : Float). Small x b) (round_is f false a c) p))

-- ---- the operations

pub of_nat_value : (f : Format) (n : ℕ) → n ≤ 2 ^ prec f → HasValue (of_int f (pos n)) false n 1
unfolding of_int
of_nat_value f n h = round_whole f false n h

pub neg_small : (x : Float) (b : ℕ) → Small x b → Small (neg x) b
unfolding neg
neg_small nan b p = p
neg_small (inf s) b p = p
neg_small (fin s m e) b p = p

-- ---- truncation

-- a number is above -1 where it is not negative, and below 2 ^ k where its bound is
pub above_minus_one : (x : Float) (b : ℕ) → Plus x → Small x b → T (lt (fin true 1 (pos 0)) x)
unfolding lt
above_minus_one nan b p h = h
above_minus_one (inf s) b p h = absurd h
above_minus_one (fin true m e) b p h = absurd p
above_minus_one (fin false m e) b p h = lt→ltb 0 (1 * down e + m * up e * 1) (omega (arith, down_pos e))

pub below_pow : (x : Float) (b k : ℕ) → b < 2 ^ k → Small x b → T (lt x (fin false 1 (pos k)))
unfolding lt
below_pow nan b k B h = h
below_pow (inf s) b k B h = absurd h
below_pow (fin true m e) b k B h = rw one-mul (lt→ltb 0 (m * up e * 1 + 2 ^ k * down e) (omega (arith, mul-pos (pow_pos k) (down_pos e))))
below_pow (fin false m e) b k B h = rw (mul-one, one-mul) (lt→ltb _ _ (lt_of_le_of_lt h (mul-lt-mul_of_pos_right B (down_pos e))))

whole_part : (m b : ℕ) (e : ℤ) → m * up e ≤ b * down e → m * up e / down e ≤ b
whole_part m b e h = div-le_of_le-mul (down e) (le_trans h (le_of_eq (mul_comm b (down e))))

pub truncated_small : (w : ℕ) (x : Float) (b : ℕ) → Small x b → to_unsigned w x ≤ b
unfolding to_unsigned
truncated_small w nan b h = absurd h
truncated_small w (inf s) b h = absurd h
truncated_small w (fin true m e) b h = zero-le
truncated_small w (fin false m e) b h = le_trans (min-le_left (m * up e / down e) (2 ^ w - 1)) (whole_part m b e h)

-- the same to any width that the bound fits
pub truncated_alike : (v w : ℕ) (x : Float) (b : ℕ) → b < 2 ^ v → b < 2 ^ w → Small x b → to_unsigned v x ≡ to_unsigned w x
unfolding to_unsigned
truncated_alike v w nan b p q h = refl
truncated_alike v w (inf s) b p q h = absurd h
truncated_alike v w (fin true m e) b p q h = refl
truncated_alike v w (fin false m e) b p q h = exact v p ∙ sym (exact w q)
  where
    exact : (k : ℕ) → b < 2 ^ k → min (m * up e / down e) (2 ^ k - 1) ≡ m * up e / down e
    exact k l = min-eq_left (omega (arith, whole_part m b e h))
