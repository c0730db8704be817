-- Floats that are not negative: a NaN, or of sign +, as the code's sums, products and quotients of such keep it.
-- Assumes nothing.
use Rattle.std.proofs.Common.{sym, subst}
use Rattle.std.specs.Prelude.{Bool, true, false, not, cond, ℕ, zero, suc, ◌+◌, ◌*◌, ◌^◌, T, ltb, eqb, pos, Float}
use Rattle.std.specs.Float.{nan, inf, fin, Format}
use Rattle.std.specs.Float.Ieee.{prec, emax, low, up, down, odd, units, round, sum, add, mul, div, of_int}
use Rattle.std.specs.Float.Ieee.Fits.{round_is}
use Rattle.std.specs.Float.Ieee.Order.{kept, drop}

abbrev negative : Float → Bool
negative nan = false
negative (inf s) = s
negative (fin s m e) = s

abbrev pub Plus : Float → Type 0
Plus x = T (not (negative x))

plus_units : (f : Format) (q k : ℕ) → Plus (units f false q k)
unfolding units odd
plus_units f q k = go (ltb (q * 2 ^ k) (2 ^ (low f + suc (emax f)))) q
  where
    go : (t : Bool) (q : ℕ) → Plus (cond t (odd (suc (prec f)) false q k (low f)) (inf false))
    go true zero = tt
    go true (suc q) = tt
    go false q = tt

pub plus_round : (f : Format) (a c : ℕ) → Plus (round f false a c)
plus_round f a c = subst Plus (sym (round_is f false a c)) (plus_units f (kept (prec f) (a * 2 ^ low f) c) (drop (prec f) (a * 2 ^ low f) c))

pub plus_of_nat : (f : Format) (n : ℕ) → Plus (of_int f (pos n))
unfolding of_int
plus_of_nat f n = plus_round f n 1

pub plus_add : (f : Format) (x y : Float) → Plus x → Plus y → Plus (add f x y)
unfolding add sum
plus_add f nan y p q = tt
plus_add f (inf true) y p q = absurd p
plus_add f (inf false) nan p q = tt
plus_add f (inf false) (inf true) p q = absurd q
plus_add f (inf false) (inf false) p q = tt
plus_add f (inf false) (fin t n d) p q = tt
plus_add f (fin true m e) y p q = absurd p
plus_add f (fin false m e) nan p q = tt
plus_add f (fin false m e) (inf t) p q = q
plus_add f (fin false m e) (fin true n d) p q = absurd q
plus_add f (fin false m e) (fin false n d) p q = plus_round f (m * up e * down d + n * up d * down e) (down e * down d)

-- what an infinity times a number is, or a number over zero
nan_or : (t : Bool) (x : Float) → Plus x → Plus (cond t nan x)
nan_or true x p = tt
nan_or false x p = p

pub plus_mul : (f : Format) (x y : Float) → Plus x → Plus y → Plus (mul f x y)
unfolding mul
plus_mul f nan y p q = tt
plus_mul f (inf true) y p q = absurd p
plus_mul f (inf false) nan p q = tt
plus_mul f (inf false) (inf true) p q = absurd q
plus_mul f (inf false) (inf false) p q = tt
plus_mul f (inf false) (fin true n d) p q = absurd q
plus_mul f (inf false) (fin false n d) p q = nan_or (eqb n 0) (inf false) tt
plus_mul f (fin true m e) y p q = absurd p
plus_mul f (fin false m e) nan p q = tt
plus_mul f (fin false m e) (inf true) p q = absurd q
plus_mul f (fin false m e) (inf false) p q = nan_or (eqb m 0) (inf false) tt
plus_mul f (fin false m e) (fin true n d) p q = absurd q
plus_mul f (fin false m e) (fin false n d) p q = plus_round f (m * up e * (n * up d)) (down e * down d)

pub plus_div : (f : Format) (x y : Float) → Plus x → Plus y → Plus (div f x y)
unfolding div
plus_div f nan y p q = tt
plus_div f (inf true) y p q = absurd p
plus_div f (inf false) nan p q = tt
plus_div f (inf false) (inf t) p q = tt
plus_div f (inf false) (fin true n d) p q = absurd q
plus_div f (inf false) (fin false n d) p q = tt
plus_div f (fin true m e) y p q = absurd p
plus_div f (fin false m e) nan p q = tt
plus_div f (fin false m e) (inf true) p q = absurd q
plus_div f (fin false m e) (inf false) p q = tt
plus_div f (fin false m e) (fin true n d) p q = absurd q
plus_div f (fin false m e) (fin false n d) p q = go (eqb n 0)
  where
    go : (t : Bool) → Plus (cond t (cond (eqb m 0) nan (inf false)) (round f false (m * up e * down d) (n * up d * down e)))
    go true = nan_or (eqb m 0) (inf false) tt
    go false = plus_round f (m * up e * down d) (n * up d * down e)
