-- What `shift` does: the shifted significand has 47 or 48 digits, and the exponent that is left is even.
-- Assumes nothing.
use Rattle.std.specs.Prelude.{◌≡◌, refl, ℕ, suc, ◌+◌, ◌-◌, ◌*◌, ◌/◌, ◌^◌, ◌≤◌, ◌<◌}
use Rattle.std.proofs.Common.{ap, le_of_eq, mul-le-mul_right, arith, pow-add, pow_mono, shl_lt}
use Rattle.std.proofs.Math.Nat.{le_trans, lt_of_lt_of_le}
use Rattle.std.specs.Int.Count.{count_leading_zeros, leading_top, leading_unique}
use Rattle.std.proofs.lemmas.Nat.{leading_le}
use Rattle.sqrt.specs.Sqrt.{digits_end, square_end, hidden, shift_by, shift}
use Rattle.sqrt.specs.laws.Cut.{square_least}

module _ (m k : ℕ) (p : 0 < m) (h : m < digits_end) where
  wide : m < 2 ^ 32
  wide = omega arith

  pub scaled_lt : m * 2 ^ shift m k < square_end
  unfolding shift
  scaled_lt =
      let t = leading_top 32 m p wide in
      let e = t.1 in
      lt_of_lt_of_le (shl_lt (suc t.0) (shift m k) t.3) (pow_mono {j = 48} (omega arith))

  pub scaled_ge : square_least ≤ m * 2 ^ shift m k
  unfolding shift
  scaled_ge =
      let t = leading_top 32 m p wide in
      let e = t.1 in
      le_trans (pow_mono {i = 46} {j = t.0 + shift m k} (omega arith))
      (le_trans (le_of_eq (pow-add 2 t.0 (shift m k))) (mul-le-mul_right (2 ^ shift m k) t.2))

-- by the zeros, where they are counted already
pub shift_is : (m k zeros : ℕ) → zeros ≡ count_leading_zeros 32 m → shift_by zeros k ≡ shift m k
unfolding shift
shift_is m k counted e = ap (λ (z : ℕ). shift_by z k) e

pub normal_zeros : (m : ℕ) → hidden ≤ m → m < digits_end → 8 ≡ count_leading_zeros 32 m
normal_zeros m h l = leading_unique 32 m 8 24 refl l (omega arith)

pub even : (m k : ℕ) → (k + 149 - shift m k) / 2 + (k + 149 - shift m k) / 2 + shift m k ≡ k + 149
unfolding shift
even m k = omega (arith, leading_le 32 m)
