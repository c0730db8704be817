-- `sqrt_of` is the square root in the words of `Root`: the nearest value, and there is one only.
-- Assumes nothing.
use Rattle.std.specs.Prelude.{◌≡◌, ℕ, zero, suc, ◌+◌, ◌-◌, ◌*◌, ◌/◌, ◌%◌, ◌^◌, ◌≤◌, ◌<◌, Bool, true, false, ◌&&◌, ℤ, pos, negsuc, T, leb, ltb, eqb, Float}
use Rattle.std.proofs.Math.Path.{refl}
use Rattle.std.proofs.Common.{sym, ap, ◌∙◌, subst, inl, inr, le_trans, le_of_lt, lt_of_lt_of_le, lt_irrefl, mul_comm, mul_assoc, mul-one, mul-pos, mul-le-mul, mul-le-mul_right, mul-lt-mul_of_pos_right, mul-div_cancel, add_comm, le_antisymm, arith, le-ltb, leb→le, ltb→lt, lit<, lit≤, pow-add, pow_pos, pow_mono}
use Rattle.std.proofs.Math.Nat.{pow-succ'}
use Rattle.std.proofs.Math.Pow.{pow-lt}
use Rattle.std.specs.Float.{nan, inf, fin, binary32}
use Rattle.std.specs.Float.Ieee.{up, down, fits, of_bits, to_bits, size as bits}
use Rattle.std.specs.Float.Ieee.Bits.{of_bits-to_bits, of_bits-fits}
use Rattle.std.specs.Float.Ieee.Fits.{and_l, and_r, down_pos}
use Rattle.std.specs.Float.Ieee.Exact.{HasValue}
use Rattle.std.specs.Float.Ieee.Scale.{finite}
use Rattle.std.specs.Float.Ieee.Positive.{positive, positive_of_value, positive-finite}
use Rattle.sqrt.specs.Sqrt.{digits_end, infinity_bits, hidden, significand, exponent, shift, place, root_near, root_of, root_bits, sqrt_of}
use Rattle.sqrt.specs.Root.{size, Root}
use Rattle.sqrt.specs.laws.Cut.{here_or_on, Near, near}
use Rattle.sqrt.specs.laws.Scaled.{scaled_lt, scaled_ge, even}
use Rattle.sqrt.specs.laws.Patterns.{val, bits_is, in_range, significand_pos, significand_lt, exponent_lt}
use Rattle.sqrt.specs.laws.Cases.{at_positive}

-- ---- sizes
pub size_is : (x : Float) (s : Bool) (a : ℕ) → HasValue x s a (2 ^ 149) → size x ≡ a
unfolding size
size_is nan s a v = absurd v
size_is (inf t) s a v = absurd v
size_is (fin t m e) s a v = ap (λ (z : ℕ). z / down e) v.1 ∙ mul-div_cancel a (down_pos e)

pow_le : (i j : ℕ) → 2 ^ i ≤ 2 ^ j → i ≤ j
pow_le i j h = elim (here_or_on j i) [ inl l ↦ absurd (lt_irrefl (2 ^ j) (lt_of_lt_of_le (pow-lt l) h)) | inr g ↦ g ]

in_format : (s : Bool) (m : ℕ) (e : ℤ) → T (fits binary32 (fin s (suc m) e)) → (suc m < digits_end) × (down e ≤ 2 ^ 149)
unfolding fits
in_format s m e f =
    let a = eqb (suc m % 2) 1 in
    let b = ltb (suc m) digits_end in
    let c = leb (down e) (2 ^ 149) in
    let g = and_l (a && b && c) _ f in
    (ltb→lt (suc m) digits_end (and_r a b (and_l (a && b) c g)), leb→le (down e) (2 ^ 149) (and_r (a && b) c g))

nil : (a b c : ℕ) → 0 * a * b ≡ 0 * c
nil a b c = omega arith

-- a finite value of binary32 is a number below 2 ^ 24 times a power of two, in units of 2 ^ -149
on_grid : (s : Bool) (m : ℕ) (e : ℤ) → T (fits binary32 (fin s m e)) → (q : ℕ) × (i : ℕ) × (q < digits_end) × HasValue (fin s m e) s (q * 2 ^ i) (2 ^ 149)
on_grid s zero e f = (0, 0, lit< tt, (refl, nil (up e) (2 ^ 149) (down e)))
on_grid s (suc m) (pos k) f = (
  suc m,
  k + 149,
  (in_format s m (pos k) f).0,
  (refl, mul_assoc (suc m) (2 ^ k) (2 ^ 149) ∙ ap (λ (z : ℕ). suc m * z) (sym (pow-add 2 k 149)) ∙ sym (mul-one (suc m * 2 ^ (k + 149)))),
)
on_grid s (suc m) (negsuc k) f = (
  suc m,
  149 - suc k,
  (in_format s m (negsuc k) f).0,
  (
    refl,
    ap (λ (z : ℕ). z * 2 ^ 149) (mul-one (suc m))
        ∙ ap (λ (z : ℕ). suc m * z) (ap (λ (z : ℕ). 2 ^ z) (back (suc k) (pow_le (suc k) 149 (in_format s m (negsuc k) f).1)) ∙ pow-add 2 (149 - suc k) (suc k))
        ∙ sym (mul_assoc (suc m) (2 ^ (149 - suc k)) (2 ^ suc k)),
  ),
)
  where
    back : (i : ℕ) → i ≤ 149 → 149 ≡ 149 - i + i
    back i h = omega arith

-- so its size loses nothing
pub size_exact : (s : Bool) (m : ℕ) (e : ℤ) → T (fits binary32 (fin s m e)) → HasValue (fin s m e) s (size (fin s m e)) (2 ^ 149)
size_exact s m e f = let g = on_grid s m e f in rw (size_is (fin s m e) s (g.0 * 2 ^ g.1) g.3) g.3

abbrev Gridded : ℕ → Type 0
Gridded n = (q : ℕ) × (i : ℕ) × (q < digits_end) × (n ≡ q * 2 ^ i)

gridded : (y : Float) → T (fits binary32 y) → T (finite y) → Gridded (size y)
gridded nan f g = absurd g
gridded (inf s) f g = absurd g
gridded (fin s m e) f g = let h = on_grid s m e f in (h.0, h.1, h.2, size_is (fin s m e) s (h.0 * 2 ^ h.1) h.3)

-- ---- between p * 2 ^ j and (p + 1) * 2 ^ j lies no value, for a p of 24 digits
floor : (q i p j : ℕ) → q < digits_end → hidden ≤ p → q * 2 ^ i < (p + 1) * 2 ^ j → q * 2 ^ i ≤ p * 2 ^ j
floor q i p j hq hp h = elim (here_or_on i j) [ inl l ↦ fine l | inr g ↦ coarse g ]
  where
    fine : i < j → q * 2 ^ i ≤ p * 2 ^ j
    fine l =
        let a : q * 2 ^ i ≤ digits_end * 2 ^ i = mul-le-mul_right (2 ^ i) (le_of_lt hq) in
        let b : 2 ^ suc i ≤ 2 ^ j = pow_mono l in
        let c : 2 ^ suc i ≡ 2 * 2 ^ i = pow-succ' 2 i in
        let d : hidden * 2 ^ j ≤ p * 2 ^ j = mul-le-mul_right (2 ^ j) hp in
        omega arith

    coarse : j ≤ i → q * 2 ^ i ≤ p * 2 ^ j
    coarse g =
        let e : q * 2 ^ i ≡ q * 2 ^ (i - j) * 2 ^ j =
        ap (λ (z : ℕ). q * 2 ^ z) (back i j g) ∙ ap (λ (z : ℕ). q * z) (pow-add 2 (i - j) j) ∙ sym (mul_assoc q (2 ^ (i - j)) (2 ^ j)) in
        subst (λ (z : ℕ). z ≤ p * 2 ^ j) (sym e)
        (mul-le-mul_right (2 ^ j) (below (q * 2 ^ (i - j)) (subst (λ (z : ℕ). z < (p + 1) * 2 ^ j) e h)))
      where
        back : (i j : ℕ) → j ≤ i → i ≡ i - j + j
        back i j g = omega arith

        below : (w : ℕ) → w * 2 ^ j < (p + 1) * 2 ^ j → w ≤ p
        below w k =
            elim (here_or_on p w) [
              | inl l ↦ absurd (lt_irrefl (w * 2 ^ j) (lt_of_lt_of_le k (mul-le-mul_right (2 ^ j) (more w l))))
              | inr g ↦ g
            ]
          where
            more : (w : ℕ) → p < w → p + 1 ≤ w
            more w l = omega arith

-- (p + 1) * 2 ^ j is at most each value above p * 2 ^ j
ceil : (q i p j : ℕ) → q < digits_end → hidden ≤ p → p * 2 ^ j < q * 2 ^ i → (p + 1) * 2 ^ j ≤ q * 2 ^ i
ceil q i p j hq hp h =
    elim (here_or_on (q * 2 ^ i) ((p + 1) * 2 ^ j)) [
      | inl l ↦ absurd (lt_irrefl (p * 2 ^ j) (lt_of_lt_of_le h (floor q i p j hq hp l)))
      | inr g ↦ g
    ]

-- ---- squares: n is the root's square in units of d * d, p * d the root, y another value
sq_lt : (a b : ℕ) → a < b → a * a < b * b
sq_lt a b h = let l : a + 1 ≤ b = omega arith in let m : (a + 1) * (a + 1) ≤ b * b = mul-le-mul l l in omega arith

under : (n p d y : ℕ) → p * p ≤ n → y < p * d → (y + p * d) * (y + p * d) < 4 * (n * (d * d))
under n p d y h l =
    let a : (y + p * d) * (y + p * d) < (2 * (p * d)) * (2 * (p * d)) = sq_lt (y + p * d) (2 * (p * d)) (omega arith) in
    let b : p * p * (d * d) ≤ n * (d * d) = mul-le-mul_right (d * d) h in
    omega arith

under_half : (n r d y : ℕ) → 0 < d → (2 * r + 1) * (2 * r + 1) < 4 * n → y ≤ r * d → (y + (r + 1) * d) * (y + (r + 1) * d) < 4 * (n * (d * d))
under_half n r d y z h l =
    let a : y + (r + 1) * d ≤ (2 * r + 1) * d = omega arith in
    let b : (y + (r + 1) * d) * (y + (r + 1) * d) ≤ (2 * r + 1) * d * ((2 * r + 1) * d) = mul-le-mul a a in
    let c : (2 * r + 1) * (2 * r + 1) * (d * d) < 4 * n * (d * d) = mul-lt-mul_of_pos_right h (mul-pos z z) in
    omega arith

over_half : (n p d y : ℕ) → 0 < d → 4 * n < (2 * p + 1) * (2 * p + 1) → (p + 1) * d ≤ y → 4 * (n * (d * d)) < (y + p * d) * (y + p * d)
over_half n p d y z h l =
    let a : (2 * p + 1) * d ≤ y + p * d = omega arith in
    let b : (2 * p + 1) * d * ((2 * p + 1) * d) ≤ (y + p * d) * (y + p * d) = mul-le-mul a a in
    let c : 4 * n * (d * d) < (2 * p + 1) * (2 * p + 1) * (d * d) = mul-lt-mul_of_pos_right h (mul-pos z z) in
    omega arith

-- ---- p * 2 ^ j is nearest to the root of n * (2 ^ j * 2 ^ j)
module _ (n p j : ℕ) (w : Near n p) (y : ℕ) (g : Gridded y) where
  lower : y < p * 2 ^ j → (y + p * 2 ^ j) * (y + p * 2 ^ j) < 4 * (n * (2 ^ j * 2 ^ j))
  lower l =
      elim w.0 [
        | inl h ↦ under n p (2 ^ j) y h l
        | inr h ↦
            let e : p ≡ h.0 + 1 = h.1 in
            subst (λ (z : ℕ). (y + z * 2 ^ j) * (y + z * 2 ^ j) < 4 * (n * (2 ^ j * 2 ^ j))) (sym e)
            (under_half n h.0 (2 ^ j) y (pow_pos j) h.3
            (subst (λ (z : ℕ). z ≤ h.0 * 2 ^ j) (sym g.3)
            (floor g.0 g.1 h.0 j g.2 h.2 (subst (λ (z : ℕ). z < (h.0 + 1) * 2 ^ j) g.3 (subst (λ (z : ℕ). y < z * 2 ^ j) e l)))))
      ]

  upper : p * 2 ^ j < y → 4 * (n * (2 ^ j * 2 ^ j)) < (y + p * 2 ^ j) * (y + p * 2 ^ j)
  upper l =
      over_half n p (2 ^ j) y (pow_pos j) w.1
      (subst (λ (z : ℕ). (p + 1) * 2 ^ j ≤ z) (sym g.3) (ceil g.0 g.1 p j g.2 w.2 (subst (λ (z : ℕ). p * 2 ^ j < z) g.3 l)))

-- ---- the pattern j * 2 ^ 23 + p stands for p * 2 ^ j
val_at : (j p : ℕ) → hidden ≤ p → p ≤ digits_end → val (j * hidden + p) ≡ p * 2 ^ j
val_at j p l h = rw (le-ltb (j * hidden + p) hidden (omega arith)) (elim (here_or_on p digits_end) [ inl a ↦ within a | inr b ↦ carried b ])
  where
    fields : (x t : ℕ) → (hidden + (j * hidden + p) % hidden) ≡ t → (j * hidden + p) / hidden - 1 ≡ x
        → (hidden + (j * hidden + p) % hidden) * 2 ^ ((j * hidden + p) / hidden - 1) ≡ t * 2 ^ x
    fields x t a b = ap (λ (z : ℕ). z * 2 ^ ((j * hidden + p) / hidden - 1)) a ∙ ap (λ (z : ℕ). t * 2 ^ z) b

    within : p < digits_end → (hidden + (j * hidden + p) % hidden) * 2 ^ ((j * hidden + p) / hidden - 1) ≡ p * 2 ^ j
    within a = fields j p (omega arith) (omega arith)

    carried : digits_end ≤ p → (hidden + (j * hidden + p) % hidden) * 2 ^ ((j * hidden + p) / hidden - 1) ≡ p * 2 ^ j
    carried b =
        let c : 2 ^ suc j ≡ 2 * 2 ^ j = pow-succ' 2 j in
        let e : p ≡ digits_end = omega arith in
        let f : p * 2 ^ j ≡ digits_end * 2 ^ j = ap (λ (z : ℕ). z * 2 ^ j) e in
        fields (suc j) hidden (omega arith) (omega arith) ∙ omega arith

-- ---- the root of m * 2 ^ k, in units of 2 ^ -149
module _ (m k : ℕ) (p : 0 < m) (h : m < digits_end) (l : k < 255) where
  square : m * 2 ^ k * 2 ^ 149 ≡ m * 2 ^ shift m k * (2 ^ (place m k) * 2 ^ (place m k))
  square =
      mul_assoc m (2 ^ k) (2 ^ 149)
      ∙ ap (λ (z : ℕ). m * z)
      (sym (pow-add 2 k 149)
      ∙ ap (λ (z : ℕ). 2 ^ z) (sym (even m k))
      ∙ pow-add 2 ((place m k) + (place m k)) (shift m k)
      ∙ ap (λ (z : ℕ). z * 2 ^ shift m k) (pow-add 2 (place m k) (place m k))
      ∙ mul_comm (2 ^ (place m k) * 2 ^ (place m k)) (2 ^ shift m k))
      ∙ sym (mul_assoc m (2 ^ shift m k) (2 ^ (place m k) * 2 ^ (place m k)))

  is_near : Near (m * 2 ^ shift m k) (root_near (m * 2 ^ shift m k))
  is_near = near (m * 2 ^ shift m k) (scaled_ge m k p h) (scaled_lt m k p h)

  is_at : root_of m k ≡ (place m k) * hidden + root_near (m * 2 ^ shift m k)
  unfolding root_of
  is_at = refl

  root_val : val (root_of m k) ≡ root_near (m * 2 ^ shift m k) * 2 ^ (place m k)
  root_val = ap val is_at ∙ val_at (place m k) (root_near (m * 2 ^ shift m k)) is_near.2 is_near.3

  root_lt : root_of m k < infinity_bits
  root_lt =
      let u : root_near (m * 2 ^ shift m k) ≤ digits_end = is_near.3 in
      subst (λ (z : ℕ). z < infinity_bits) (sym is_at) (small (k + 149 - shift m k) (root_near (m * 2 ^ shift m k)) (less (shift m k)) u)
    where
      less : (s : ℕ) → k + 149 - s < 404
      less s = omega arith

      small : (a r : ℕ) → a < 404 → r ≤ digits_end → a / 2 * hidden + r < infinity_bits
      small a r x y = omega arith

  root_pos : 0 < root_near (m * 2 ^ shift m k) * 2 ^ (place m k)
  root_pos = mul-pos (le_trans (lit≤ tt) is_near.2) (pow_pos (place m k))

  right : (x : Float) → size x ≡ m * 2 ^ k → Root x (of_bits binary32 (root_of m k))
  right x e =
      let v : HasValue (of_bits binary32 (root_of m k)) false (root_near (m * 2 ^ shift m k) * 2 ^ (place m k)) (2 ^ 149) =
      subst (λ (z : ℕ). HasValue (of_bits binary32 (root_of m k)) false z (2 ^ 149)) root_val (bits_is (root_of m k) root_lt) in
      let r : size (of_bits binary32 (root_of m k)) ≡ root_near (m * 2 ^ shift m k) * 2 ^ (place m k) = size_is (of_bits binary32 (root_of m k)) false _ v in
      let q : size x * 2 ^ 149 ≡ m * 2 ^ shift m k * (2 ^ (place m k) * 2 ^ (place m k)) = ap (λ (z : ℕ). z * 2 ^ 149) e ∙ square in
      record {
        value = of_bits-fits binary32 (root_of m k);
        above0 = positive_of_value (of_bits binary32 (root_of m k)) _ (2 ^ 149) v root_pos;
        below = λ y f g. rw (q, r) (lower (m * 2 ^ shift m k) (root_near (m * 2 ^ shift m k)) (place m k) is_near (size y) (gridded y f g));
        above = λ y f g. rw (q, r) (upper (m * 2 ^ shift m k) (root_near (m * 2 ^ shift m k)) (place m k) is_near (size y) (gridded y f g));
      }

-- ---- `sqrt_of` is right
pub sqrt_right : (x : Float) → T (fits binary32 x) → T (positive x) → Root x (sqrt_of x)
unfolding root_bits
sqrt_right x F P =
    let b = to_bits binary32 x in
    let i = in_range x F P in
    let v : HasValue x false (val b) (2 ^ 149) = subst (λ (z : Float). HasValue z false (val b) (2 ^ 149)) (of_bits-to_bits binary32 x F) (bits_is b i.1) in
    subst (λ (r : Float). Root x r) (at_positive x P)
    (right (significand b) (exponent b) (significand_pos b i.0) (significand_lt b) (exponent_lt b i.1) x (size_is x false (val b) v))

-- ---- there is one root only
not_both : (a b : ℕ) → a < b → b < a → ⊥
not_both a b h k = omega arith

same_size : (x r q : Float) → T (finite r) → T (finite q) → Root x r → Root x q → size r ≡ size q
same_size x r q f g a b =
    elim (here_or_on (size r) (size q)) [
      | inl l ↦
          absurd
          (not_both (4 * (size x * 2 ^ 149)) ((size r + size q) * (size r + size q))
          (subst (λ (z : ℕ). 4 * (size x * 2 ^ 149) < z * z) (add_comm (size q) (size r)) (a.above q b.value g l))
          (b.below r a.value f l))
      | inr h ↦
          elim (here_or_on (size q) (size r)) [
            | inl l ↦
                absurd
                (not_both (4 * (size x * 2 ^ 149)) ((size q + size r) * (size q + size r))
                (subst (λ (z : ℕ). 4 * (size x * 2 ^ 149) < z * z) (add_comm (size r) (size q)) (b.above r a.value f l))
                (a.below q b.value g l))
            | inr k ↦ le_antisymm k h
          ]
    ]

-- the pattern of a value above 0 turns on its size alone
same_bits : (r q : Float) → T (positive r) → T (positive q) → size r ≡ size q → to_bits binary32 r ≡ to_bits binary32 q
unfolding to_bits size
same_bits nan q P Q e = absurd P
same_bits (inf s) q P Q e = absurd P
same_bits (fin true m d) q P Q e = absurd P
same_bits (fin false m d) nan P Q e = absurd Q
same_bits (fin false m d) (inf s) P Q e = absurd Q
same_bits (fin false m d) (fin true n c) P Q e = absurd Q
same_bits (fin false m d) (fin false n c) P Q e = ap (λ (z : ℕ). 0 + (bits z - 24) * hidden + z / 2 ^ (bits z - 24)) e

pub root_one : (x r q : Float) → Root x r → Root x q → r ≡ q
root_one x r q a b =
    sym (of_bits-to_bits binary32 r a.value)
    ∙ ap (λ (z : ℕ). of_bits binary32 z) (same_bits r q a.above0 b.above0 (same_size x r q (positive-finite r a.above0) (positive-finite q b.above0) a b))
    ∙ of_bits-to_bits binary32 q b.value

-- so whatever is a root is `sqrt_of`
pub sqrt_only : (x r : Float) → T (fits binary32 x) → T (positive x) → Root x r → r ≡ sqrt_of x
sqrt_only x r F P a = root_one x r (sqrt_of x) a (sqrt_right x F P)
