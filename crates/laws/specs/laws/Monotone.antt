-- The rounded operations keep the order of floats: a sum grows with both of its parts, a product by what is not negative with the other factor, a
-- quotient of whole numbers with their fraction; a negation turns the order round, and what is at least 0 falls where its divisor grows.
-- Assumes nothing.
use Rattle.std.specs.Prelude.{◌≡◌, refl, Bool, true, false, cond, not, ◌⊎◌, ℕ, zero, suc, ◌+◌, ◌-◌, ◌*◌, ◌^◌, ◌≤◌, ◌<◌, T, ltb, ℤ, pos, negsuc, Float}
use Rattle.std.proofs.Common.{sym, ap, ◌∙◌, subst, inl, inr, zero-le, lt_irrefl, zero-lt-suc, mul_comm, mul_assoc, mul_left_comm, mul-one, mul-pos, add-mul, zero-mul, mul-le-mul_right, le_of_mul-le-mul_right, arith, ltb→lt, nltb→le, pow_pos}
use Rattle.std.specs.Bool.{beq}
use Rattle.std.proofs.Math.Nat.{mul-sub}
use Rattle.std.proofs.Math.Dec.{eqb-suc-zero}
use Rattle.std.specs.Float.{nan, inf, fin, Format, binary32, binary64}
use Rattle.std.specs.Float.Ieee.{prec, emax, low, up, down, unlike, odd, units, round, sum, neg, add, mul, div, le, of_int}
use Rattle.std.specs.Float.Ieee.Fits.{round_is, up_pos, down_pos}
use Rattle.std.specs.Float.Ieee.Exact.{HasValue}
use Rattle.std.specs.Float.Ieee.Back.{round_whole}
use Rattle.std.specs.Float.Ieee.Order.{kept, drop, round_mono}
use Rattle.std.specs.Float.Ieee.Scale.{round_same, finite}
use Rattle.laws.specs.Floats.{one}
use Rattle.laws.specs.laws.Tests.{true_false}
use Rattle.laws.specs.laws.Plus.{Plus}
use Rattle.laws.specs.laws.Order.{Leq, plus_by, minus_by, InOrder, plus_by_mul, minus_by_mul, order_le, le_order, le_through}
use Rattle.laws.specs.laws.AtLeast.{AtLeast0, least_minus, one_most, some}

-- ---- a negation turns the order round

neg_order : (s : Bool) (m : ℕ) (e : ℤ) (t : Bool) (n : ℕ) (d : ℤ) → InOrder (fin s m e) (fin t n d) → InOrder (neg (fin t n d)) (neg (fin s m e))
unfolding neg
neg_order false m e false n d h = omega arith
neg_order false m e true n d h = omega arith
neg_order true m e false n d h = omega arith
neg_order true m e true n d h = omega arith

pub neg_down : (x y : Float) → T (le x y) → T (le (neg y) (neg x))
unfolding neg le
neg_down nan y h = absurd h
neg_down (inf s) nan h = absurd h
neg_down (inf true) (inf true) h = tt
neg_down (inf true) (inf false) h = tt
neg_down (inf false) (inf true) h = absurd h
neg_down (inf false) (inf false) h = tt
neg_down (inf true) (fin t n d) h = tt
neg_down (inf false) (fin t n d) h = absurd h
neg_down (fin s m e) nan h = absurd h
neg_down (fin s m e) (inf true) h = absurd h
neg_down (fin s m e) (inf false) h = tt
neg_down (fin s m e) (fin t n d) h =
    order_le (neg (fin t n d)) (neg (fin s m e)) tt tt (neg_order s m e t n d (le_order (fin s m e) (fin t n d) tt tt h))

-- ---- what is rounded from (p - n) / c: either zero where that is 0

abbrev Near : Format → Float → ℕ → ℕ → ℕ → Type 0
Near f x p n c = ((n ≤ p) × (x ≡ round f false (p - n) c)) ⊎ ((p ≤ n) × (x ≡ round f true (n - p) c))

units_neg : (f : Format) (q k : ℕ) → units f true q k ≡ neg (units f false q k)
unfolding units odd neg
units_neg f q k = go (ltb (q * 2 ^ k) (2 ^ (low f + suc (emax f)))) q
  where
    go : (t : Bool) (q : ℕ)
        → cond t (odd (suc (prec f)) true q k (low f)) (inf true) ≡ neg (cond t (odd (suc (prec f)) false q k (low f)) (inf false))
    go true zero = refl
    go true (suc q) = refl
    go false q = refl

round_neg : (f : Format) (a c : ℕ) → round f true a c ≡ neg (round f false a c)
round_neg f a c =
    round_is f true a c ∙ units_neg f (kept (prec f) (a * 2 ^ low f) c) (drop (prec f) (a * 2 ^ low f) c) ∙ ap neg (sym (round_is f false a c))

round_zero : (f : Format) (s : Bool) (c : ℕ) → 0 < c → round f s 0 c ≡ fin s 0 (pos 0)
unfolding round
round_zero f s c C = round_same f s 0 c 0 1 C (pow_pos 0) (sym (zero-mul c)) ∙ at f s
  where
    at : (f : Format) (s : Bool) → round f s 0 1 ≡ fin s 0 (pos 0)
    at binary32 true = refl
    at binary32 false = refl
    at binary64 true = refl
    at binary64 false = refl

-- of a sign, and no NaN
abbrev HasSign : Bool → Float → Type 0
HasSign s nan = ⊥
HasSign s (inf t) = T (beq s t)
HasSign s (fin t m e) = T (beq s t)

units_sign : (f : Format) (s : Bool) (q k : ℕ) → HasSign s (units f s q k)
unfolding units odd
units_sign f s q k = go (ltb (q * 2 ^ k) (2 ^ (low f + suc (emax f)))) s q
  where
    go : (t s : Bool) (q : ℕ) → HasSign s (cond t (odd (suc (prec f)) s q k (low f)) (inf s))
    go true true zero = tt
    go true true (suc q) = tt
    go true false zero = tt
    go true false (suc q) = tt
    go false true q = tt
    go false false q = tt

round_sign : (f : Format) (s : Bool) (a c : ℕ) → HasSign s (round f s a c)
round_sign f s a c = rw (round_is f s a c) (units_sign f s (kept (prec f) (a * 2 ^ low f) c) (drop (prec f) (a * 2 ^ low f) c))

-- what is not above zero is at most what is not below it
opposite : (x y : Float) → HasSign true x → HasSign false y → T (le x y)
unfolding le
opposite nan y p q = absurd p
opposite (inf false) y p q = absurd p
opposite (inf true) nan p q = absurd q
opposite (inf true) (inf true) p q = absurd q
opposite (inf true) (inf false) p q = tt
opposite (inf true) (fin t n d) p q = tt
opposite (fin false m e) y p q = absurd p
opposite (fin true m e) nan p q = absurd q
opposite (fin true m e) (inf true) p q = absurd q
opposite (fin true m e) (inf false) p q = tt
opposite (fin true m e) (fin true n d) p q = absurd q
opposite (fin true m e) (fin false n d) p q = order_le (fin true m e) (fin false n d) tt tt (omega arith)

sub_mul : (p n d : ℕ) → (p - n) * d ≡ p * d - n * d
sub_mul p n d = mul_comm (p - n) d ∙ mul-sub d p n ∙ rw (mul_comm d p, mul_comm d n)

-- fractions that are not negative, by their sizes
unsigned : (p n c q m d : ℕ) → n ≤ p → m ≤ q → Leq p n c q m d → (p - n) * d ≤ (q - m) * c
unsigned p n c q m d i j h = rw (sub_mul p n d, sub_mul q m c) (omega (arith, mul-le-mul_right d i, mul-le-mul_right c j))

-- what is at least 0 is at most what is at most 0 only where both are 0
only_zero : (p n c q m d : ℕ) → 0 < c → 0 < d → n ≤ p → q ≤ m → Leq p n c q m d → (p - n ≡ 0) × (m - q ≡ 0)
only_zero p n c q m d C D i j h =
    let a : p ≤ n = le_of_mul-le-mul_right {k = d} (omega (arith, mul-le-mul_right d i, mul-le-mul_right c j)) D in
    let b : m ≤ q = le_of_mul-le-mul_right {k = c} (omega (arith, mul-le-mul_right d i, mul-le-mul_right c j)) C in
    (omega arith, omega arith)

plus_minus_zero : T (le (fin false 0 (pos 0)) (fin true 0 (pos 0)))
unfolding le
plus_minus_zero = tt

-- THE law of rounding: it keeps the order, with signs
near_mono : (f : Format) (x y : Float) (p n c q m d : ℕ) → 0 < c → 0 < d → Near f x p n c → Near f y q m d → Leq p n c q m d → T (le x y)
near_mono f x y p n c q m d C D (inl a) (inl b) h = rw (a.1, b.1) (round_mono f (p - n) c (q - m) d C D (unsigned p n c q m d a.0 b.0 h))
near_mono f x y p n c q m d C D (inl a) (inr b) h =
    let z = only_zero p n c q m d C D a.0 b.0 h in
    rw (a.1, b.1, z.0, z.1, round_zero f false c C, round_zero f true d D) plus_minus_zero
near_mono f x y p n c q m d C D (inr a) (inl b) h =
    rw (a.1, b.1) (opposite (round f true (n - p) c) (round f false (q - m) d) (round_sign f true (n - p) c) (round_sign f false (q - m) d))
near_mono f x y p n c q m d C D (inr a) (inr b) h =
    rw (a.1, b.1, round_neg f (n - p) c, round_neg f (m - q) d)
    (neg_down (round f false (m - q) d) (round f false (n - p) c) (round_mono f (m - q) d (n - p) c D C (unsigned m q d n p c b.0 a.0 (omega arith))))

-- ---- the operations

add_leq : (p n c q m d : ℕ) (p' n' c' q' m' d' : ℕ) → Leq p n c q m d → Leq p' n' c' q' m' d'
    → Leq (p * c' + p' * c) (n * c' + n' * c) (c * c') (q * d' + q' * d) (m * d' + m' * d) (d * d')
add_leq p n c q m d p' n' c' q' m' d' h l =
    let a = simp (add-mul, mul_assoc, mul_comm) at (mul-le-mul_right (c' * d') h) in
    let b = simp (add-mul, mul_assoc, mul_comm, mul_left_comm) at (mul-le-mul_right (c * d) l) in
    simp (add-mul, mul_assoc, mul_comm, mul_left_comm) (omega (arith, a, b))

mul_leq : (b f p n c q m d : ℕ) → Leq p n c q m d → Leq (b * p) (b * n) (f * c) (b * q) (b * m) (f * d)
mul_leq b f p n c q m d h =
    let a = simp (add-mul, mul_assoc, mul_comm, mul_left_comm) at (mul-le-mul_right (b * f) h) in
    simp (mul_assoc, mul_comm, mul_left_comm) (omega (arith, a))

module _ (f : Format) (x : Float) (p n c k : ℕ) where
  near_plus : n ≤ p → k ≡ p - n → x ≡ round f false k c → Near f x p n c
  near_plus h e r = inl (h, r ∙ ap (λ (k : ℕ). round f false k c) e)

  near_minus : p ≤ n → k ≡ n - p → x ≡ round f true k c → Near f x p n c
  near_minus h e r = inr (h, r ∙ ap (λ (k : ℕ). round f true k c) e)

sum_near : (f : Format) (s : Bool) (a : ℕ) (t : Bool) (b c : ℕ) → Near f (sum f s a t b c) (plus_by s a + plus_by t b) (minus_by s a + minus_by t b) c
unfolding sum
sum_near f false a false b c = near_plus f _ (a + b) 0 c (a + b) zero-le (omega arith) refl
sum_near f true a true b c = near_minus f _ 0 (a + b) c (a + b) zero-le (omega arith) refl
sum_near f false a true b c = by (ltb a b) (ltb→lt a b) (nltb→le a b)
  where
    by : (u : Bool) → (T u → a < b) → (T (not u) → b ≤ a) → Near f (cond u (round f true (b - a) c) (round f false (a - b) c)) (a + 0) (0 + b) c
    by true l g = near_minus f _ (a + 0) (0 + b) c (b - a) (omega (arith, l tt)) (omega arith) refl
    by false l g = near_plus f _ (a + 0) (0 + b) c (a - b) (omega (arith, g tt)) (omega arith) refl
sum_near f true a false b c = by (ltb a b) (ltb→lt a b) (nltb→le a b) (ltb b a) (ltb→lt b a) (nltb→le b a)
  where
    by : (u : Bool) → (T u → a < b) → (T (not u) → b ≤ a) → (v : Bool) → (T v → b < a) → (T (not v) → a ≤ b)
        → Near f (cond u (round f false (b - a) c) (round f v (a - b) c)) (0 + b) (a + 0) c
    by true l g v k i = near_plus f _ (0 + b) (a + 0) c (b - a) (omega (arith, l tt)) (omega arith) refl
    by false l g true k i = near_minus f _ (0 + b) (a + 0) c (a - b) (omega (arith, k tt)) (omega arith) refl
    by false l g false k i = near_plus f _ (0 + b) (a + 0) c (a - b) (omega (arith, i tt)) (omega (arith, g tt, i tt)) refl

-- a sum grows with both of its parts
pub add_up : (f : Format) (x x' y y' : Float) → T (finite x) → T (finite x') → T (finite y) → T (finite y') → T (le x x') → T (le y y')
    → T (le (add f x y) (add f x' y'))
unfolding add
add_up f nan x' y y' p p' q q' h l = absurd p
add_up f (inf s) x' y y' p p' q q' h l = absurd p
add_up f (fin s m e) nan y y' p p' q q' h l = absurd p'
add_up f (fin s m e) (inf s') y y' p p' q q' h l = absurd p'
add_up f (fin s m e) (fin s' m' e') nan y' p p' q q' h l = absurd q
add_up f (fin s m e) (fin s' m' e') (inf t) y' p p' q q' h l = absurd q
add_up f (fin s m e) (fin s' m' e') (fin t n d) nan p p' q q' h l = absurd q'
add_up f (fin s m e) (fin s' m' e') (fin t n d) (inf t') p p' q q' h l = absurd q'
add_up f (fin s m e) (fin s' m' e') (fin t n d) (fin t' n' d') p p' q q' h l =
    near_mono f _ _ _ _ (down e * down d) _ _ (down e' * down d') (mul-pos (down_pos e) (down_pos d)) (mul-pos (down_pos e') (down_pos d'))
    (sum_near f s (m * up e * down d) t (n * up d * down e) (down e * down d))
    (sum_near f s' (m' * up e' * down d') t' (n' * up d' * down e') (down e' * down d'))
    (rw (
      plus_by_mul s (m * up e) (down d),
      plus_by_mul t (n * up d) (down e),
      minus_by_mul s' (m' * up e') (down d'),
      minus_by_mul t' (n' * up d') (down e'),
      plus_by_mul s' (m' * up e') (down d'),
      plus_by_mul t' (n' * up d') (down e'),
      minus_by_mul s (m * up e) (down d),
      minus_by_mul t (n * up d) (down e),
    )
    (add_leq _ _ (down e) _ _ (down e') _ _ (down d) _ _ (down d')
    (le_order (fin s m e) (fin s' m' e') tt tt h) (le_order (fin t n d) (fin t' n' d') tt tt l)))

-- a product by what is not negative grows with the other factor
pub mul_up : (f : Format) (b x y : Float) → Plus b → T (finite b) → T (finite x) → T (finite y) → T (le x y) → T (le (mul f b x) (mul f b y))
unfolding mul
mul_up f nan x y P p q r h = absurd p
mul_up f (inf s) x y P p q r h = absurd p
mul_up f (fin true k g) x y P p q r h = absurd P
mul_up f (fin false k g) nan y P p q r h = absurd q
mul_up f (fin false k g) (inf s) y P p q r h = absurd q
mul_up f (fin false k g) (fin s m e) nan P p q r h = absurd r
mul_up f (fin false k g) (fin s m e) (inf t) P p q r h = absurd r
mul_up f (fin false k g) (fin s m e) (fin t n d) P p q r h =
    near_mono f _ _ _ _ (down g * down e) _ _ (down g * down d) (mul-pos (down_pos g) (down_pos e)) (mul-pos (down_pos g) (down_pos d))
    (product s (m * up e) (down g * down e)) (product t (n * up d) (down g * down d))
    (mul_leq (k * up g) (down g) _ _ (down e) _ _ (down d) (le_order (fin s m e) (fin t n d) tt tt h))
  where
    product : (s : Bool) (a c : ℕ) → Near f (round f (unlike false s) (k * up g * a) c) (k * up g * plus_by s a) (k * up g * minus_by s a) c
    product true a c = near_minus f _ (k * up g * 0) (k * up g * a) c (k * up g * a) (omega arith) (omega arith) refl
    product false a c = near_plus f _ (k * up g * a) (k * up g * 0) c (k * up g * a) (omega arith) (omega arith) refl

-- ---- quotients of whole numbers

unlike_plus : (s : Bool) → unlike s false ≡ s
unlike_plus true = refl
unlike_plus false = refl

same_fraction : (x d a y e n : ℕ) → x * 1 ≡ a * d → y * 1 ≡ n * e → x * e * n ≡ a * (y * d)
same_fraction x d a y e n h l =
    let p : x ≡ a * d = sym (mul-one x) ∙ h in
    let q : y ≡ n * e = sym (mul-one y) ∙ l in
    rw (p, q) (simp (mul_assoc, mul_comm, mul_left_comm))

quotient_is : (f : Format) (x y : Float) (s : Bool) (a n : ℕ) → 0 < n → HasValue x s a 1 → HasValue y false n 1 → div f x y ≡ round f s a n
unfolding div
quotient_is f nan y s a n N v w = absurd v
quotient_is f (inf t) y s a n N v w = absurd v
quotient_is f (fin t m e) nan s a n N v w = absurd w
quotient_is f (fin t m e) (inf u) s a n N v w = absurd w
quotient_is f (fin t m e) (fin true k d) s a n N v w = absurd (subst T w.0 tt)
quotient_is f (fin t m e) (fin false zero d) s a n N v w = absurd (nothing (n * down d) (mul-pos N (down_pos d)) w.1)
  where
    nothing : (k : ℕ) → 0 < k → 0 * up d * 1 ≡ k → ⊥
    nothing k K h = omega (arith, zero-mul (up d))
quotient_is f (fin t m e) (fin false (suc k) d) s a n N v w =
    rw (eqb-suc-zero, unlike_plus t ∙ v.0)
    (round_same f s (m * up e * down d) (suc k * up d * down e) a n (mul-pos (mul-pos (zero-lt-suc k) (up_pos d)) (down_pos e)) N
    (same_fraction (m * up e) (down e) a (suc k * up d) (down d) n v.1 w.1))

-- a whole number as a fraction with a sign
abbrev pub plus_of : ℤ → ℕ
plus_of (pos a) = a
plus_of (negsuc a) = 0

abbrev pub minus_of : ℤ → ℕ
minus_of (pos a) = 0
minus_of (negsuc a) = suc a

quotient_near : (f : Format) (z : ℤ) (n : ℕ) → 0 < n → plus_of z + minus_of z ≤ 2 ^ prec f → n ≤ 2 ^ prec f
    → Near f (div f (of_int f z) (of_int f (pos n))) (plus_of z) (minus_of z) n
unfolding of_int
quotient_near f (pos a) n N A M =
    near_plus f _ a 0 n a zero-le (omega arith)
    (quotient_is f (round f false a 1) (round f false n 1) false a n N (round_whole f false a (omega arith)) (round_whole f false n M))
quotient_near f (negsuc a) n N A M =
    near_minus f _ 0 (suc a) n (suc a) zero-le (omega arith)
    (quotient_is f (round f true (suc a) 1) (round f false n 1) true (suc a) n N (round_whole f true (suc a) (omega arith)) (round_whole f false n M))

-- a quotient of whole numbers grows with their fraction
pub quotient_up : (f : Format) (y : ℤ) (n : ℕ) (z : ℤ) (m : ℕ) → 0 < n → 0 < m → plus_of y + minus_of y ≤ 2 ^ prec f → n ≤ 2 ^ prec f
    → plus_of z + minus_of z ≤ 2 ^ prec f → m ≤ 2 ^ prec f → plus_of y * m + minus_of z * n ≤ plus_of z * n + minus_of y * m
    → T (le (div f (of_int f y) (of_int f (pos n))) (div f (of_int f z) (of_int f (pos m))))
quotient_up f y n z m N M y-fits n-fits z-fits m-fits h =
    near_mono f _ _ (plus_of y) (minus_of y) n (plus_of z) (minus_of z) m N M (quotient_near f y n N y-fits n-fits) (quotient_near f z m M z-fits m-fits) h

-- ---- what is at least 0, divided by more, is no more

over_near : (f : Format) (s : Bool) (m : ℕ) (e : ℤ) (n : ℕ) (d : ℤ) → 0 < n
    → Near f (div f (fin s m e) (fin false n d)) (plus_by s (m * up e) * down d) (minus_by s (m * up e) * down d) (n * up d * down e)
unfolding div
over_near f s m e zero d N = absurd (lt_irrefl 0 N)
over_near f true m e (suc k) d N =
    rw eqb-suc-zero (near_minus f _ (0 * down d) (m * up e * down d) (suc k * up d * down e) (m * up e * down d) (omega arith) (omega arith) refl)
over_near f false m e (suc k) d N =
    rw eqb-suc-zero (near_plus f _ (m * up e * down d) (0 * down d) (suc k * up d * down e) (m * up e * down d) (omega arith) (omega arith) refl)

-- a / (y / d) falls where y / d grows
over_leq : (a c n y d y' d' : ℕ) → n ≡ 0 → y * d' ≤ y' * d → Leq (a * d') (n * d') (y' * c) (a * d) (n * d) (y * c)
over_leq a c n y d y' d' z h =
    let l = simp (mul_assoc, mul_comm, mul_left_comm) at (mul-le-mul_right (a * c) h) in
    rw z (simp (mul_assoc, mul_comm, mul_left_comm) (omega (arith, l)))

pub over_down : (f : Format) (x y y' : Float) → AtLeast0 x → T (finite x) → T (le one y) → T (finite y) → T (finite y') → T (le y y')
    → T (le (div f x y') (div f x y))
unfolding of_int
over_down f nan y y' l p h q q' k = absurd p
over_down f (inf s) y y' l p h q q' k = absurd p
over_down f (fin s m e) nan y' l p h q q' k = absurd q
over_down f (fin s m e) (inf t) y' l p h q q' k = absurd q
over_down f (fin s m e) (fin t n d) nan l p h q q' k = absurd q'
over_down f (fin s m e) (fin t n d) (inf t') l p h q q' k = absurd q'
over_down f (fin s m e) (fin true n d) (fin t' n' d') l p h q q' k = absurd (true_false (one_most true n d h).0)
over_down f (fin s m e) (fin false n d) (fin true n' d') l p h q q' k =
    absurd (true_false (one_most true n' d' (le_through one (fin false n d) (fin true n' d') tt tt tt h k)).0)
over_down f (fin s m e) (fin false n d) (fin false n' d') l p h q q' k =
    let N = some n d (one_most false n d h).1 in
    let N' = some n' d' (one_most false n' d' (le_through one (fin false n d) (fin false n' d') tt tt tt h k)).1 in
    near_mono f _ _ _ _ (n' * up d' * down e) _ _ (n * up d * down e)
    (mul-pos (mul-pos N' (up_pos d')) (down_pos e)) (mul-pos (mul-pos N (up_pos d)) (down_pos e))
    (over_near f s m e n' d' N') (over_near f s m e n d N)
    (over_leq (plus_by s (m * up e)) (down e) (minus_by s (m * up e)) (n * up d) (down d) (n' * up d') (down d') (least_minus s m e l)
    (omega (arith, le_order (fin false n d) (fin false n' d') tt tt k)))
