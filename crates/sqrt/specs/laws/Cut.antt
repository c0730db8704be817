-- What `root_down` and `root_near` answer.
-- Assumes nothing.
use Rattle.std.specs.Prelude.{◌≡◌, refl, ◌⊎◌, ℕ, zero, suc, ◌+◌, ◌-◌, ◌*◌, ◌/◌, ◌^◌, ◌≤◌, ◌<◌, Bool, true, false, not, cond, T, leb, ltb}
use Rattle.std.proofs.Common.{sym, ap, ◌∙◌, inl, inr, le_antisymm, not-le_of_lt, lt_of_le_of_lt, lt_of_lt_of_le, mul-le-mul, mul-le-mul_left, mul-le-mul_right, mul-add, add-mul, mul-one, one-mul, arith, leb→le, ltb→lt, nltb→le, lt-ltb, le-ltb}
use Rattle.std.proofs.Math.Nat.{pow-succ'}
use Rattle.std.proofs.Math.Dec.{nleb→lt}
use Rattle.sqrt.specs.Sqrt.{digits_end, square_end, hidden, digit, root_down, nearer, root_near}

pub here_or_on : (i n : ℕ) → (i < n) ⊎ (n ≤ i)
here_or_on i n = go (ltb i n) (ltb→lt i n) (nltb→le i n)
  where
    go : (b : Bool) → (T b → i < n) → (T (not b) → n ≤ i) → (i < n) ⊎ (n ≤ i)
    go true f g = inl (f tt)
    go false f g = inr (g tt)

next : {i n : ℕ} → i < n → i + 1 ≤ n
next l = omega arith

-- 2 ^ 46: the square of the least number of 24 digits, which is 2 ^ 23
abbrev pub square_least : ℕ
square_least = 70368744177664

-- r is the root of n cut to a whole number
abbrev pub Cut : ℕ → ℕ → Type 0
Cut n r = (r * r ≤ n) × (n < (r + 1) * (r + 1))

digit_cut : (n r : ℕ) → Cut (n / 4) r → Cut n (digit n r)
digit_cut n r h = go (leb ((2 * r + 1) * (2 * r + 1)) n) (leb→le ((2 * r + 1) * (2 * r + 1)) n) (nleb→lt ((2 * r + 1) * (2 * r + 1)) n)
  where
    go : (b : Bool) → (T b → (2 * r + 1) * (2 * r + 1) ≤ n) → (T (not b) → n < (2 * r + 1) * (2 * r + 1)) → Cut n (cond b (2 * r + 1) (2 * r))
    go true f g = let p = f tt in omega arith
    go false f g = let p = g tt in omega arith

quarter : (k n : ℕ) → n < 4 ^ suc k → n / 4 < 4 ^ k
quarter k n h = let p : n < 4 * 4 ^ k = rw pow-succ' at h in omega arith

down_cut : (k n : ℕ) → n < 4 ^ k → Cut n (root_down k n)
unfolding root_down
down_cut zero n h = omega arith
down_cut (suc k) n h = digit_cut n (root_down k (n / 4)) (down_cut k (n / 4) (quarter k n h))

-- there is one
cut_le : (n q r : ℕ) → Cut n q → Cut n r → q ≤ r
cut_le n q r h k =
    elim (here_or_on r q) [
      | inl l ↦ let m : (r + 1) * (r + 1) ≤ q * q = mul-le-mul (next l) (next l) in absurd (not-le_of_lt (lt_of_lt_of_le k.1 m) h.0)
      | inr g ↦ g
    ]

cut_one : (n q r : ℕ) → Cut n q → Cut n r → q ≡ r
cut_one n q r h k = le_antisymm (cut_le n q r h k) (cut_le n r q k h)

pub cut_is : (n r : ℕ) → n < square_end → Cut n r → r ≡ root_down 24 n
cut_is n r h k = cut_one n r (root_down 24 n) k (down_cut 24 n h)

-- the root is below m where n is below the square of m
pub cut_lt : (n r m : ℕ) → n < m * m → r * r ≤ n → r < m
cut_lt n r m h k = elim (here_or_on r m) [ inl l ↦ l | inr g ↦ absurd (not-le_of_lt (lt_of_le_of_lt k h) (mul-le-mul g g)) ]

-- ---- the nearest whole number
near_of : (n r : ℕ) → r ≡ root_down 24 n → root_near n ≡ nearer n r
unfolding root_near
near_of n r e = ap (nearer n) (sym e)

pub near_up : (n r : ℕ) → r ≡ root_down 24 n → r < n - r * r → r + 1 ≡ root_near n
near_up n r e h = sym (near_of n r e ∙ rw lt-ltb)

pub near_down : (n r : ℕ) → r ≡ root_down 24 n → n - r * r ≤ r → r ≡ root_near n
near_down n r e h = sym (near_of n r e ∙ rw le-ltb)

-- n is above (p - 1/2)^2, if p is above 0, and below (p + 1/2)^2: there is one such p
abbrev Between : ℕ → ℕ → Type 0
Between n p = (0 < p → p * p < n + p) × (n ≤ p * p + p)

between_le : (n p q : ℕ) → Between n p → Between n q → p ≤ q
between_le n p q h k = elim (here_or_on q p) [ inl l ↦ absurd (apart l) | inr g ↦ g ]
  where
    apart : q < p → ⊥
    apart l =
        let m : q * q + q ≤ q * p = simp (mul-add, mul-one) at (mul-le-mul_left q (next l)) in
        let o : q * p + p ≤ p * p = simp (add-mul, one-mul) at (mul-le-mul_right p (next l)) in
        omega (arith, h.0 (omega arith))

between_up : (n r : ℕ) → n < (r + 1) * (r + 1) → r < n - r * r → Between n (r + 1)
between_up n r h l = (λ _. omega arith, omega arith)

between_down : (n r : ℕ) → r * r ≤ n → n - r * r ≤ r → Between n r
between_down n r h l = (λ p. omega arith, omega arith)

near_between : (n r : ℕ) → Cut n r → Between n (nearer n r)
near_between n r cut = go (ltb r (n - r * r)) (ltb→lt r (n - r * r)) (nltb→le r (n - r * r))
  where
    go : (b : Bool) → (T b → r < n - r * r) → (T (not b) → n - r * r ≤ r) → Between n (cond b (r + 1) r)
    go true f g = between_up n r cut.1 (f tt)
    go false f g = between_down n r cut.0 (g tt)

pub guess_near : (n p : ℕ) → n < square_end → p * p < n + p → n ≤ p * p + p → p ≡ root_near n
unfolding root_near
guess_near n p h k l =
    let near = near_between n (root_down 24 n) (down_cut 24 n h) in
    let r = nearer n (root_down 24 n) in
    le_antisymm (between_le n p r (λ _. k, l) near) (between_le n r p near (λ _. k, l))

-- p is the whole number nearest to √n, which is from 2 ^ 23 up to 2 ^ 24. The first part says that √n is above p - 1 / 2, and where p is 2 ^ 23,
-- that it is no less than p.
abbrev pub Near : ℕ → ℕ → Type 0
Near n p =
    ((p * p ≤ n) ⊎ ((r : ℕ) × (p ≡ r + 1) × (hidden ≤ r) × ((2 * r + 1) * (2 * r + 1) < 4 * n)))
    × (4 * n < (2 * p + 1) * (2 * p + 1))
    × (hidden ≤ p)
    × (p ≤ digits_end)

near_at : (n r : ℕ) → square_least ≤ n → n < square_end → Cut n r → Near n (nearer n r)
near_at n r l h cut = go (ltb r (n - r * r)) (ltb→lt r (n - r * r)) (nltb→le r (n - r * r))
  where
    lo : hidden ≤ r
    lo = let p : hidden < r + 1 = cut_lt n hidden (r + 1) cut.1 l in omega arith

    hi : r < digits_end
    hi = cut_lt n r digits_end h cut.0

    go : (b : Bool) → (T b → r < n - r * r) → (T (not b) → n - r * r ≤ r) → Near n (cond b (r + 1) r)
    go true f g = let p : r < n - r * r = f tt in (inr (r, refl, lo, omega arith), omega arith, omega (arith, lo), omega (arith, hi))
    go false f g = let p : n - r * r ≤ r = g tt in (inl cut.0, omega arith, lo, omega (arith, hi))

pub near : (n : ℕ) → square_least ≤ n → n < square_end → Near n (root_near n)
unfolding root_near
near n l h = near_at n (root_down 24 n) l h (down_cut 24 n h)
