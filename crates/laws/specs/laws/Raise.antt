-- A signed number as a natural one, for `omega`: `raise z` is z + 1000, for a z from -256 to 255.
-- Assumes nothing.
use Rattle.std.specs.Prelude.{◌≡◌, refl, ℕ, zero, suc, ◌+◌, ◌-◌, ◌≤◌, ◌<◌, Bool, true, false, not, cond, ℤ, pos, negsuc, neg_ℤ, ◌+ℤ◌, ◌-ℤ◌, T, ltb}
use Rattle.std.proofs.Common.{sym, ap, ◌∙◌, subst, arith, ltb→lt, nltb→le, leb-true, leb-false, le-leb, SFits, to_z, of_z}
use Rattle.std.proofs.Math.IntN.{sub_ℕ}
use Rattle.std.specs.Int.Signed.{mag, le_z}
use Rattle.std.specs.Int.{w8}
use Rattle.std.proofs.lemmas.Int.{to_z-of_z}

abbrev pub raise : ℤ → ℕ
raise (pos n) = 1000 + n
raise (negsuc n) = 999 - n

raise_subℕ : (a b : ℕ) → a < 512 → b < 512 → raise (sub_ℕ a b) + b ≡ 1000 + a
raise_subℕ a b p q = go (ltb a b) (ltb→lt a b) (nltb→le a b)
  where
    go : (t : Bool) → (T t → a < b) → (T (not t) → b ≤ a) → raise (cond t (negsuc (b - suc a)) (pos (a - b))) + b ≡ 1000 + a
    go true f g = let h : a < b = f tt in omega arith
    go false f g = let h : b ≤ a = g tt in omega arith

-- z + 1000 of a sum and of a difference
pub raise_add : (a b : ℤ) → mag a < 256 → mag b < 256 → raise (a +ℤ b) + 1000 ≡ raise a + raise b
raise_add (pos a) (pos b) p q = omega arith
raise_add (pos a) (negsuc b) p q = let h : raise (sub_ℕ a (suc b)) + suc b ≡ 1000 + a = raise_subℕ a (suc b) (omega arith) (omega arith) in omega arith
raise_add (negsuc a) (pos b) p q = let h : raise (sub_ℕ b (suc a)) + suc a ≡ 1000 + b = raise_subℕ b (suc a) (omega arith) (omega arith) in omega arith
raise_add (negsuc a) (negsuc b) p q = omega arith

raise_neg : (b : ℤ) → mag b < 256 → raise (neg_ℤ b) + raise b ≡ 2000
raise_neg (pos zero) q = refl
raise_neg (pos (suc n)) q = omega arith
raise_neg (negsuc n) q = omega arith

mag_neg : (b : ℤ) → mag b < 255 → mag (neg_ℤ b) < 256
mag_neg (pos zero) q = omega arith
mag_neg (pos (suc n)) q = omega arith
mag_neg (negsuc n) q = omega arith

pub raise_sub : (a b : ℤ) → mag a < 255 → mag b < 255 → raise (a -ℤ b) + raise b ≡ raise a + 1000
raise_sub a b p q = omega (arith, raise_add a (neg_ℤ b) (omega arith) (mag_neg b q), raise_neg b (omega arith))

-- a range, either way
pub mag_of : (z : ℤ) (k : ℕ) → k < 1000 → 1000 ≤ raise z + k → raise z < 1000 + k → mag z < k
mag_of (pos n) k K p q = omega arith
mag_of (negsuc n) k K p q = omega arith

-- ---- the tests, each way
pub le_raise : (a b : ℤ) → le_z a b ≡ true → raise a ≤ raise b
le_raise (pos a) (pos b) h = omega (arith, leb-true a b h)
le_raise (pos a) (negsuc b) h = absurd (subst T (sym h) tt)
le_raise (negsuc a) (pos b) h = omega arith
le_raise (negsuc a) (negsuc b) h = omega (arith, leb-true b a h)

pub raise_le : (a b : ℤ) → 0 < raise b → raise a ≤ raise b → le_z a b ≡ true
raise_le (pos a) (pos b) z h = le-leb a b (omega arith)
raise_le (pos a) (negsuc b) z h = absurd (never a b h)
  where
    never : (a b : ℕ) → 1000 + a ≤ 999 - b → ⊥
    never a b h = omega arith
raise_le (negsuc a) (pos b) z h = refl
raise_le (negsuc a) (negsuc b) z h = le-leb b a (omega arith)

pub gt_raise : (a b : ℤ) → le_z a b ≡ false → 0 < raise a → raise b < raise a
gt_raise (pos a) (pos b) h z = omega (arith, leb-false a b h)
gt_raise (pos a) (negsuc b) h z = omega arith
gt_raise (negsuc a) (pos b) h z = absurd (subst (λ (t : Bool). T (not t)) (sym h) tt)
gt_raise (negsuc a) (negsuc b) h z = omega (arith, leb-false b a h)

-- ---- in a byte: the machine reads each operand of a difference back from its bits
pub fits8 : (z : ℤ) → 872 ≤ raise z → raise z < 1128 → SFits w8 z
fits8 z p q = record { sfits = mag_of z 128 (omega arith) (omega arith) (omega arith) }

module _ (a b : ℤ) (p : SFits w8 a) (q : SFits w8 b) where
  back : (to_z w8 (of_z w8 a) ≡ a) × (to_z w8 (of_z w8 b) ≡ b)
  back = (to_z-of_z w8 a p, to_z-of_z w8 b q)

  pub sub8 : 872 + raise b ≤ raise a + 1000 → raise a + 1000 < 1128 + raise b → SFits w8 (to_z w8 (of_z w8 a) -ℤ to_z w8 (of_z w8 b))
  sub8 l h = rw (back.0, back.1) (let e = raise_sub a b (below a p) (below b q) in fits8 (a -ℤ b) (omega arith) (omega arith))
    where
      below : (z : ℤ) → SFits w8 z → mag z < 255
      below z r = omega (arith, r.sfits)

  pub sub8_is : 872 + raise b ≤ raise a + 1000 → raise a + 1000 < 1128 + raise b → to_z w8 (of_z w8 (to_z w8 (of_z w8 a) -ℤ to_z w8 (of_z w8 b))) ≡ a -ℤ b
  sub8_is l h = to_z-of_z w8 _ (sub8 l h) ∙ ap (λ (z : ℤ). z -ℤ to_z w8 (of_z w8 b)) back.0 ∙ ap (λ (z : ℤ). a -ℤ z) back.1
