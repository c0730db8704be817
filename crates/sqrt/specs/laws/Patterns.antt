-- The bit patterns of binary32's values that are above 0 and finite: they lie above 0 and below the infinity's, and what number each stands for.
-- Assumes nothing.
use Rattle.std.specs.Prelude.{◌≡◌, refl, ℕ, zero, suc, ◌+◌, ◌-◌, ◌*◌, ◌/◌, ◌%◌, ◌^◌, ◌≤◌, ◌<◌, Bool, true, false, not, cond, T, leb, ltb, eqb, Float}
use Rattle.std.proofs.Common.{sym, ap, ◌∙◌, subst, inl, inr, mod-eq_of_lt, arith, ltb→lt, le-leb, lt-ltb, le-ltb, ne_eqb}
use Rattle.std.proofs.lemmas.Bool.{lt-leb}
use Rattle.std.specs.Float.{nan, inf, binary32}
use Rattle.std.specs.Float.Ieee.{odd, of_fields, of_bits, to_bits, fits, nan_bits}
use Rattle.std.specs.Float.Ieee.Bits.{of_bits-to_bits, nan_bits_above}
use Rattle.std.specs.Float.Ieee.Exact.{HasValue, odd_sign}
use Rattle.std.specs.Float.Ieee.Positive.{positive}
use Rattle.sqrt.specs.laws.Cut.{here_or_on}
use Rattle.sqrt.specs.Sqrt.{digits_end, infinity_bits, hidden, significand, exponent, root_of, root_bits}

-- 2 ^ 31: the patterns from here on have the sign set
abbrev sign_bit : ℕ
sign_bit = 2147483648

of_bits_is : (b : ℕ) → of_bits binary32 b ≡ of_fields binary32 (leb sign_bit b) (b % sign_bit / hidden) (b % hidden)
unfolding of_bits
of_bits_is b = refl

sign_clear : (b : ℕ) → b < sign_bit → of_bits binary32 b ≡ of_fields binary32 false (b / hidden) (b % hidden)
sign_clear b u = of_bits_is b ∙ rw (lt-leb sign_bit b u, mod-eq_of_lt {m = sign_bit} u)

-- ---- what number a pattern stands for
abbrev pub val : ℕ → ℕ
val b = significand b * 2 ^ exponent b

subnormal : (b : ℕ) → b < hidden → of_bits binary32 b ≡ odd 24 false (significand b) (exponent b) 149
unfolding of_fields
subnormal b h = sign_clear b (omega arith) ∙ simp (div_eq_zero b h, mod-eq_of_lt {m = hidden} h, lt-ltb b hidden h)
  where
    div_eq_zero : (b : ℕ) → b < hidden → b / hidden ≡ 0
    div_eq_zero b h = omega arith

under_ones : (x t : ℕ) → x < 254 → of_fields binary32 false (suc x) t ≡ odd 24 false (hidden + t) x 149
unfolding of_fields
under_ones x t h = rw (ne_eqb (suc x) 255 (λ (e : suc x ≡ 255). omega arith))

normal : (b : ℕ) → hidden ≤ b → b < infinity_bits → of_bits binary32 b ≡ odd 24 false (significand b) (exponent b) 149
normal b h k =
    let e : b / hidden ≡ suc (b / hidden - 1) = omega arith in
    sign_clear b (omega arith)
    ∙ ap (λ (x : ℕ). of_fields binary32 false x (b % hidden)) e
    ∙ under_ones (b / hidden - 1) (b % hidden) (omega arith)
    ∙ simp (le-ltb b hidden h)

as_odd : (b : ℕ) → b < infinity_bits → of_bits binary32 b ≡ odd 24 false (significand b) (exponent b) 149
as_odd b k = elim (here_or_on b hidden) [ inl h ↦ subnormal b h | inr h ↦ normal b h k ]

pub bits_is : (b : ℕ) → b < infinity_bits → HasValue (of_bits binary32 b) false (val b) (2 ^ 149)
bits_is b k = subst (λ (x : Float). HasValue x false (val b) (2 ^ 149)) (sym (as_odd b k)) (odd_sign 24 false (significand b) (exponent b) 149)

-- ---- the pattern of a value that is finite and above 0
odd_neg : (d q k l : ℕ) → T (positive (odd d true q k l)) → ⊥
unfolding odd
odd_neg d zero k l p = p
odd_neg d (suc q) k l p = p

fields_neg : (x t : ℕ) → T (positive (of_fields binary32 true x t)) → ⊥
unfolding of_fields
fields_neg zero t p = odd_neg 24 t 0 149 p
fields_neg (suc x) t p = go (eqb (suc x) 255) (eqb t 0) p
  where
    go : (a b : Bool) → T (positive (cond a (cond b (inf true) nan) (odd 24 true (hidden + t) x 149))) → ⊥
    go true true q = q
    go true false q = q
    go false b q = odd_neg 24 (hidden + t) x 149 q

at_ones : (t : ℕ) → T (positive (of_fields binary32 false 255 t)) → ⊥
unfolding of_fields
at_ones t p = go (eqb t 0) p
  where
    go : (b : Bool) → T (positive (cond b (inf false) nan)) → ⊥
    go true q = q
    go false q = q

negative : (i : ℕ) → sign_bit ≤ i → T (positive (of_bits binary32 i)) → ⊥
negative i l p =
    fields_neg (i % sign_bit / hidden) (i % hidden)
    (subst (λ (w : Float). T (positive w)) (of_bits_is i ∙ ap (λ (s : Bool). of_fields binary32 s (i % sign_bit / hidden) (i % hidden)) (le-leb sign_bit i l)) p)

too_large : (i : ℕ) → infinity_bits ≤ i → i < sign_bit → T (positive (of_bits binary32 i)) → ⊥
too_large i l u p =
    let e : i / hidden ≡ 255 = omega arith in
    at_ones (i % hidden) (subst (λ (w : Float). T (positive w)) (sign_clear i u ∙ ap (λ (x : ℕ). of_fields binary32 false x (i % hidden)) e) p)

nothing : (i : ℕ) → i < 1 → T (positive (of_bits binary32 i)) → ⊥
unfolding of_bits
nothing i h p = let e : i ≡ 0 = omega arith in subst (λ (z : ℕ). T (positive (of_bits binary32 z))) e p

pub in_range : (x : Float) → T (fits binary32 x) → T (positive x) → (0 < to_bits binary32 x) × (to_bits binary32 x < infinity_bits)
in_range x F q =
    let i = to_bits binary32 x in
    let p : T (positive (of_bits binary32 i)) = subst (λ (w : Float). T (positive w)) (sym (of_bits-to_bits binary32 x F)) q in (
      elim (here_or_on i 1) [ inl h ↦ absurd (nothing i h p) | inr h ↦ h ],
      elim (here_or_on i infinity_bits) [ inl h ↦ h | inr h ↦ elim (here_or_on i sign_bit) [ inl g ↦ absurd (too_large i h g p) | inr g ↦ absurd (negative i g p) ] ],
    )

-- no pattern below the infinity's is a NaN's
pub no_nan : (b : ℕ) → b < infinity_bits → T (not (nan_bits binary32 b))
no_nan b h =
    let u : b < sign_bit = omega arith in
    let l : b ≤ infinity_bits = omega arith in
    rw (nan_bits_above binary32 b, mod-eq_of_lt {m = sign_bit} u, le-ltb infinity_bits b l) tt

-- ---- what the parts of such a pattern are
pub significand_pos : (b : ℕ) → 0 < b → 0 < significand b
significand_pos b h = go (ltb b hidden)
  where
    go : (t : Bool) → 0 < cond t b (hidden + b % hidden)
    go true = h
    go false = omega arith

pub significand_lt : (b : ℕ) → significand b < digits_end
significand_lt b = go (ltb b hidden) (ltb→lt b hidden)
  where
    go : (t : Bool) → (T t → b < hidden) → cond t b (hidden + b % hidden) < digits_end
    go true f = let h = f tt in omega arith
    go false f = omega arith

pub exponent_lt : (b : ℕ) → b < infinity_bits → exponent b < 255
exponent_lt b h = go (ltb b hidden)
  where
    go : (t : Bool) → cond t 0 (b / hidden - 1) < 255
    go true = omega arith
    go false = omega arith

pub of_subnormal : (b : ℕ) → b < hidden → root_of b 0 ≡ root_bits b
unfolding root_bits
of_subnormal b h = rw (lt-ltb b hidden h)

pub of_normal : (b : ℕ) → hidden ≤ b → root_of (hidden + b % hidden) (b / hidden - 1) ≡ root_bits b
unfolding root_bits
of_normal b h = rw (le-ltb b hidden h)
