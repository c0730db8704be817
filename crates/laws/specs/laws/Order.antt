-- The order of floats: finite ones are in the order of the fractions, with a sign, that they are.
-- Assumes nothing.
use Rattle.std.specs.Prelude.{◌≡◌, refl, Bool, true, false, not, cond, ◌&&◌, ◌||◌, ℕ, ◌+◌, ◌*◌, ◌≤◌, ◌<◌, T, ltb, eqb, pos, Float}
use Rattle.std.proofs.Common.{sym, ap, ◌∙◌, subst, inl, inr, zero-le, le_refl, eq-or-lt_of_le, lt_of_not-le, not-le_of_lt, mul_comm, mul_assoc, mul_left_comm, add-mul, zero-mul, mul-le-mul_right, le_of_mul-le-mul_right, arith, lt→ltb, ltb→lt, eqb→eq, T_not}
use Rattle.std.specs.Float.{nan, inf, fin}
use Rattle.std.specs.Float.Ieee.{up, down, below, level, le, lt, eq}
use Rattle.std.specs.Float.Ieee.Fits.{down_pos, and_i, eq→eqb}
use Rattle.std.specs.Float.Ieee.Positive.{den, den_pos}
use Rattle.std.specs.Float.Ieee.Scale.{finite}
use Rattle.laws.specs.laws.Tests.{true_false, and_left, and_right, or_left, or_right, or_cases, or_true}
use Rattle.laws.specs.laws.Plus.{Plus}
use Rattle.laws.specs.laws.Small.{or_le}

-- ---- fractions with a sign

-- (p - n) / c is at most (q - m) / d
abbrev pub Leq : ℕ → ℕ → ℕ → ℕ → ℕ → ℕ → Type 0
Leq p n c q m d = p * d + m * c ≤ q * c + n * d

leq_trans : (p n c q m d r k e : ℕ) → 0 < d → Leq p n c q m d → Leq q m d r k e → Leq p n c r k e
leq_trans p n c q m d r k e D h l =
    let a = simp (add-mul, mul_assoc, mul_comm) at (mul-le-mul_right e h) in
    let b = simp (add-mul, mul_assoc, mul_comm, mul_left_comm) at (mul-le-mul_right c l) in
    let z : (p * e + k * c) * d ≤ (r * c + n * e) * d = simp (add-mul, mul_assoc, mul_comm) (omega (arith, a, b)) in
    le_of_mul-le-mul_right z D

-- ---- a finite float is (plus - minus) / den

abbrev pub plus_by : Bool → ℕ → ℕ
plus_by true a = 0
plus_by false a = a

abbrev pub minus_by : Bool → ℕ → ℕ
minus_by true a = a
minus_by false a = 0

abbrev pub plus : Float → ℕ
plus nan = 0
plus (inf s) = 0
plus (fin s m e) = plus_by s (m * up e)

abbrev pub minus : Float → ℕ
minus nan = 0
minus (inf s) = 0
minus (fin s m e) = minus_by s (m * up e)

abbrev pub InOrder : Float → Float → Type 0
InOrder x y = Leq (plus x) (minus x) (den x) (plus y) (minus y) (den y)

-- ---- two magnitudes with their signs, as `le` compares them

both_zero : (a b : ℕ) → a + b ≡ 0 → T (eqb a b && eqb a 0)
both_zero a b h =
    let same : a ≡ b = omega arith in
    let none : a ≡ 0 = omega arith in
    and_i (eqb a b) (eqb a 0) (eq→eqb same) (eq→eqb none)

less_or_same : (a b : ℕ) (same : Bool) → a ≤ b → (a ≡ b → T same) → T (ltb a b || same)
less_or_same a b same h e = elim (eq-or-lt_of_le h) [ inl p ↦ or_right (ltb a b) same (e p) | inr l ↦ or_left (ltb a b) same (lt→ltb a b l) ]

pub signed_le : (s : Bool) (a : ℕ) (t : Bool) (b : ℕ) → plus_by s a + minus_by t b ≤ plus_by t b + minus_by s a → T (below s a t b || level s a t b)
signed_le false a false b h = less_or_same a b (eqb a b && true) (omega arith) (λ e. and_i (eqb a b) true (eq→eqb e) tt)
signed_le false a true b h = both_zero a b (omega arith)
signed_le true a false b h = less_or_same 0 (a + b) (eqb a b && eqb a 0) zero-le (λ e. both_zero a b (sym e))
signed_le true a true b h = less_or_same b a (eqb a b && true) (omega arith) (λ e. and_i (eqb a b) true (eq→eqb (sym e)) tt)

pub le_signed : (s : Bool) (a : ℕ) (t : Bool) (b : ℕ) → T (below s a t b || level s a t b) → plus_by s a + minus_by t b ≤ plus_by t b + minus_by s a
le_signed false a false b h = omega (arith, or_le a b true h)
le_signed false a true b h = omega (arith, eqb→eq a b (and_left (eqb a b) (eqb a 0) h), eqb→eq a 0 (and_right (eqb a b) (eqb a 0) h))
le_signed true a false b h = omega arith
le_signed true a true b h =
    elim (or_cases (ltb b a) (eqb a b && true) h) [ inl l ↦ omega (arith, ltb→lt b a l) | inr e ↦ omega (arith, eqb→eq a b (and_left (eqb a b) true e)) ]

signed_lt : (s : Bool) (a : ℕ) (t : Bool) (b : ℕ) → plus_by s a + minus_by t b < plus_by t b + minus_by s a → T (below s a t b)
signed_lt false a false b h = lt→ltb a b (omega arith)
signed_lt false a true b h = omega arith
signed_lt true a false b h = lt→ltb 0 (a + b) (omega arith)
signed_lt true a true b h = lt→ltb b a (omega arith)

lt_signed : (s : Bool) (a : ℕ) (t : Bool) (b : ℕ) → T (below s a t b) → plus_by s a + minus_by t b < plus_by t b + minus_by s a
lt_signed false a false b h = omega (arith, ltb→lt a b h)
lt_signed false a true b h = absurd h
lt_signed true a false b h = omega (arith, ltb→lt 0 (a + b) h)
lt_signed true a true b h = omega (arith, ltb→lt b a h)

pub plus_by_mul : (s : Bool) (a c : ℕ) → plus_by s (a * c) ≡ plus_by s a * c
plus_by_mul true a c = sym (zero-mul c)
plus_by_mul false a c = refl

pub minus_by_mul : (s : Bool) (a c : ℕ) → minus_by s (a * c) ≡ minus_by s a * c
minus_by_mul true a c = refl
minus_by_mul false a c = sym (zero-mul c)

scaled : (s : Bool) (a c : ℕ) (t : Bool) (b d : ℕ) → plus_by s (a * c) + minus_by t (b * d) ≡ plus_by s a * c + minus_by t b * d
scaled s a c t b d = rw (plus_by_mul s a c, minus_by_mul t b d)

-- ---- finite floats are in the order of their fractions

pub order_le : (x y : Float) → T (finite x) → T (finite y) → InOrder x y → T (le x y)
unfolding le
order_le nan y p q h = absurd p
order_le (inf s) y p q h = absurd p
order_le (fin s m e) nan p q h = absurd q
order_le (fin s m e) (inf t) p q h = absurd q
order_le (fin s m e) (fin t n d) p q h =
    signed_le s (m * up e * down d) t (n * up d * down e)
    (rw (scaled s (m * up e) (down d) t (n * up d) (down e), scaled t (n * up d) (down e) s (m * up e) (down d)) h)

pub le_order : (x y : Float) → T (finite x) → T (finite y) → T (le x y) → InOrder x y
unfolding le
le_order nan y p q h = absurd p
le_order (inf s) y p q h = absurd p
le_order (fin s m e) nan p q h = absurd q
le_order (fin s m e) (inf t) p q h = absurd q
le_order (fin s m e) (fin t n d) p q h =
    rw (← scaled s (m * up e) (down d) t (n * up d) (down e), ← scaled t (n * up d) (down e) s (m * up e) (down d))
    (le_signed s (m * up e * down d) t (n * up d * down e) h)

pub le_same : (x : Float) → T (finite x) → T (le x x)
le_same x p = order_le x x p p (le_refl _)

pub le_through : (x y z : Float) → T (finite x) → T (finite y) → T (finite z) → T (le x y) → T (le y z) → T (le x z)
le_through x y z p q r h l =
    order_le x z p r
    (leq_trans (plus x) (minus x) (den x) (plus y) (minus y) (den y) (plus z) (minus z) (den z) (den_pos y) (le_order x y p q h) (le_order y z q r l))

-- the same where the second is strict
pub lt_after : (x y z : Float) → T (finite x) → T (finite y) → T (finite z) → T (le x y) → T (lt y z) → T (lt x z)
unfolding lt
lt_after nan y z p q r h l = absurd p
lt_after (inf s) y z p q r h l = absurd p
lt_after (fin s m e) nan z p q r h l = absurd q
lt_after (fin s m e) (inf t) z p q r h l = absurd q
lt_after (fin s m e) (fin t n d) nan p q r h l = absurd r
lt_after (fin s m e) (fin t n d) (inf u) p q r h l = absurd r
lt_after (fin s m e) (fin t n d) (fin u k g) p q r h l =
    let x = m * up e in
    let y = n * up d in
    let z = k * up g in
    let less : plus_by t y * down g + minus_by u z * down d < plus_by u z * down d + minus_by t y * down g =
    rw (← scaled t y (down g) u z (down d), ← scaled u z (down d) t y (down g)) (lt_signed t (y * down g) u (z * down d) l) in
    signed_lt s (x * down g) u (z * down e)
    (rw (scaled s x (down g) u z (down e), scaled u z (down e) s x (down g))
    (lt_of_not-le (λ b.
    not-le_of_lt less
    (leq_trans (plus_by u z) (minus_by u z) (down g) (plus_by s x) (minus_by s x) (down e) (plus_by t y) (minus_by t y) (down d) (down_pos e) b
    (le_order (fin s m e) (fin t n d) tt tt h)))))

-- ---- of two one is at most the other, or above it

pub not_le_lt : (x y : Float) → T (finite x) → T (finite y) → le x y ≡ false → T (lt y x)
unfolding le lt
not_le_lt nan y p q h = absurd p
not_le_lt (inf s) y p q h = absurd p
not_le_lt (fin s m e) nan p q h = absurd q
not_le_lt (fin s m e) (inf t) p q h = absurd q
not_le_lt (fin s m e) (fin t n d) p q h =
    let a = m * up e * down d in
    let b = n * up d * down e in
    signed_lt t b s a (lt_of_not-le (λ l. subst T h (signed_le s a t b l)))

pub lt_not_le : (x y : Float) → T (finite x) → T (finite y) → T (lt x y) → T (le y x) → ⊥
unfolding le lt
lt_not_le nan y p q h l = absurd p
lt_not_le (inf s) y p q h l = absurd p
lt_not_le (fin s m e) nan p q h l = absurd q
lt_not_le (fin s m e) (inf t) p q h l = absurd q
lt_not_le (fin s m e) (fin t n d) p q h l =
    let a = m * up e * down d in
    let b = n * up d * down e in
    not-le_of_lt (lt_signed s a t b h) (le_signed t b s a l)

pub lt_le : (x y : Float) → T (lt x y) → T (le x y)
unfolding le
lt_le x y h = or_left (lt x y) (eq x y) h

-- ---- of two finite floats exactly one is below the other, or they are equal

lt_not_ge : (s : Bool) (a : ℕ) (t : Bool) (b : ℕ) → below s a t b ≡ not (below t b s a || level t b s a)
lt_not_ge s a t b =
    opposite (below s a t b) (below t b s a || level t b s a) (λ h k. omega (arith, lt_signed s a t b h, le_signed t b s a k))
    (λ h. signed_le t b s a (not_less (λ l. T_not (below s a t b) h (signed_lt s a t b l))))
  where
    not_less : {x y : ℕ} → (x < y → ⊥) → y ≤ x
    not_less f = let l = lt_of_not-le f in omega arith

    opposite : (p q : Bool) → (T p → T q → ⊥) → (T (not p) → T q) → p ≡ not q
    opposite true true f g = absurd (f tt tt)
    opposite true false f g = refl
    opposite false true f g = refl
    opposite false false f g = absurd (g tt)

-- one is below the other exactly where the other is not at most it
pub lt_or_ge : (x y : Float) → T (finite x) → T (finite y) → lt x y ≡ not (le y x)
unfolding le
lt_or_ge nan y p q = absurd p
lt_or_ge (inf s) y p q = absurd p
lt_or_ge (fin s m e) nan p q = absurd q
lt_or_ge (fin s m e) (inf t) p q = absurd q
lt_or_ge (fin s m e) (fin t n d) p q = lt_not_ge s (m * up e * down d) t (n * up d * down e)

level_turn : (s : Bool) (a : ℕ) (t : Bool) (b : ℕ) → T (level s a t b) → T (level t b s a)
level_turn false a false b h = and_i (eqb b a) true (eq→eqb (sym (eqb→eq a b (and_left (eqb a b) true h)))) tt
level_turn false a true b h = both_zero b a (omega (arith, eqb→eq a b (and_left (eqb a b) (eqb a 0) h), eqb→eq a 0 (and_right (eqb a b) (eqb a 0) h)))
level_turn true a false b h = both_zero b a (omega (arith, eqb→eq a b (and_left (eqb a b) (eqb a 0) h), eqb→eq a 0 (and_right (eqb a b) (eqb a 0) h)))
level_turn true a true b h = and_i (eqb b a) true (eq→eqb (sym (eqb→eq a b (and_left (eqb a b) true h)))) tt

eq_turn : (x y : Float) → T (finite x) → T (finite y) → eq y x ≡ eq x y
unfolding eq
eq_turn nan y p q = absurd p
eq_turn (inf s) y p q = absurd p
eq_turn (fin s m e) nan p q = absurd q
eq_turn (fin s m e) (inf t) p q = absurd q
eq_turn (fin s m e) (fin t n d) p q =
    let a = m * up e * down d in
    let b = n * up d * down e in
    alike (level t b s a) (level s a t b) (level_turn t b s a) (level_turn s a t b)
  where
    alike : (p q : Bool) → (T p → T q) → (T q → T p) → p ≡ q
    alike true true f g = refl
    alike true false f g = absurd (f tt)
    alike false true f g = absurd (g tt)
    alike false false f g = refl

abbrev pub one_of : Bool → Bool → Bool → Bool
one_of true b c = not b && not c
one_of false b c = cond b (not c) c

pub one_of_three : (x y : Float) → T (finite x) → T (finite y) → one_of (lt x y) (eq x y) (lt y x) ≡ true
unfolding le
one_of_three x y p q =
    go (lt x y) (eq x y) (lt y x) (lt_or_ge x y p q ∙ ap (λ (b : Bool). not (lt y x || b)) (eq_turn x y p q)) (lt_or_ge y x q p)
  where
    go : (a e b : Bool) → a ≡ not (b || e) → b ≡ not (a || e) → one_of a e b ≡ true
    go true true b h k = absurd (true_false (h ∙ ap not (or_true b)))
    go true false true h k = absurd (true_false h)
    go true false false h k = refl
    go false true true h k = absurd (true_false k)
    go false true false h k = refl
    go false false true h k = refl
    go false false false h k = absurd (true_false (sym h))

-- what has no minus and is below a number is at least 0
pub plus_least : (x y : Float) → Plus x → T (lt x y) → T (le (fin false 0 (pos 0)) x)
unfolding le lt
plus_least nan y p h = absurd h
plus_least (inf true) y p h = absurd p
plus_least (inf false) y p h = tt
plus_least (fin true m e) y p h = absurd p
plus_least (fin false m e) y p h = order_le (fin false 0 (pos 0)) (fin false m e) tt tt (omega arith)
