-- A walk over the set bits of a number, for any test f: its invariant, and what a turn does to it. A turn may take any member of what is left.
-- Assumes nothing.
use Rattle.std.specs.Prelude.{◌≡◌, Bool, true, false, cond, ℕ, ◌+◌, ◌-◌, ◌^◌, ◌≤◌, ◌<◌}
use Rattle.std.proofs.Common.{ap, ◌∙◌, le_refl, lt_of_le_of_lt, le_trans, add_comm, arith, pow_pos}
use Rattle.laws.specs.Bits.{keep_bits}
use Rattle.laws.specs.inner.Bits.{Member}
use Rattle.laws.specs.laws.Bits.{has_low, keep_step, keep_none}

-- s is walked, `kept` is what is held of it, `rest` what is still to be tested
pub record Walk (w : ℕ) (f : ℕ → Bool) (s kept rest : ℕ) : Type 0 where
  pub part : rest ≤ kept
  pub less : kept ≤ s
  pub sum : keep_bits w f s + rest ≡ kept + keep_bits w f rest

pub start : (w : ℕ) (f : ℕ → Bool) (s : ℕ) → Walk w f s s s
start w f s = record { part = le_refl s; less = le_refl s; sum = add_comm (keep_bits w f s) s }

pub done : {w : ℕ} {f : ℕ → Bool} {s kept rest : ℕ} → Walk w f s kept rest → rest ≡ 0 → kept ≡ keep_bits w f s
done {w} {f} {s} {kept} {rest} k e =
    let none : keep_bits w f rest ≡ 0 = ap (keep_bits w f) e ∙ keep_none w f in
    omega (arith, k.sum)

module _ {w : ℕ} {f : ℕ → Bool} {s kept rest n b : ℕ} (k : Walk w f s kept rest) (small : s < 2 ^ w) (m : Member w rest n) (e : b ≡ 2 ^ n) where
  step : keep_bits w f rest ≡ keep_bits w f (rest - b) + cond (f n) b 0
  step = rw e (keep_step w rest n (lt_of_le_of_lt (le_trans k.part k.less) small) m.known f m.is)

  pub fits : b ≤ rest
  fits = omega (arith, has_low rest n m.is)

  pub falls : rest - b < rest
  falls = omega (arith, has_low rest n m.is, pow_pos n)

  -- n passes the test, and stays
  pub stays : f n ≡ true → Walk w f s kept (rest - b)
  stays y =
      let more : keep_bits w f rest ≡ keep_bits w f (rest - b) + b = rw y at step in
      record { part = omega (arith, k.part); less = k.less; sum = omega (arith, k.sum, fits) }

  -- n does not, and goes
  pub goes : f n ≡ false → Walk w f s (kept - b) (rest - b)
  goes y =
      let same : keep_bits w f rest ≡ keep_bits w f (rest - b) + 0 = rw y at step in
      record { part = omega (arith, k.part); less = omega (arith, k.less); sum = omega (arith, k.sum, k.part, fits) }
