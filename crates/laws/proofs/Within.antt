-- A float between two others, and what each rounded operation makes of the two: so a bound goes through a chain of operations, and is worked out once.
-- The two are finite and at most a whole number in size, so that nothing overflows.
-- Assumes nothing.
use Rattle.std.specs.Prelude.{true, false, ℕ, ◌+◌, ◌*◌, ◌^◌, ◌≤◌, T, Float}
use Rattle.std.specs.Float.{nan, inf, fin, Format}
use Rattle.std.specs.Float.Ieee.{prec, neg, add, sub, mul, le}
use Rattle.std.specs.Float.Ieee.Scale.{finite}
use Rattle.laws.specs.laws.Plus.{Plus}
use Rattle.laws.specs.laws.Small.{Small, small_finite}
use Rattle.laws.proofs.Small.{add_small, sub_small, mul_small}
use Rattle.laws.specs.laws.Order.{le_same}
use Rattle.laws.specs.laws.Monotone.{neg_down, add_up, mul_up}

pub record Within (b : ℕ) (lo x hi : Float) : Type 0 where
  pub low : Small lo b
  pub high : Small hi b
  pub from : T (le lo x)
  pub to : T (le x hi)

neg_finite : (x : Float) → T (finite x) → T (finite (neg x))
unfolding neg
neg_finite nan p = p
neg_finite (inf s) p = p
neg_finite (fin s m e) p = tt

-- what lies between finite floats is finite
between_finite : (lo x hi : Float) → T (finite lo) → T (finite hi) → T (le lo x) → T (le x hi) → T (finite x)
unfolding le
between_finite lo nan hi p q h l = absurd l
between_finite nan (inf s) hi p q h l = absurd p
between_finite (inf t) (inf s) hi p q h l = absurd p
between_finite (fin t m e) (inf true) hi p q h l = absurd h
between_finite (fin t m e) (inf false) nan p q h l = absurd q
between_finite (fin t m e) (inf false) (inf u) p q h l = absurd q
between_finite (fin t m e) (inf false) (fin u n d) p q h l = absurd l
between_finite lo (fin s m e) hi p q h l = tt

module _ {b : ℕ} {lo x hi : Float} (w : Within b lo x hi) where
  pub low_finite : T (finite lo)
  low_finite = small_finite lo b w.low

  pub high_finite : T (finite hi)
  high_finite = small_finite hi b w.high

  pub within_finite : T (finite x)
  within_finite = between_finite lo x hi low_finite high_finite w.from w.to

pub within_same : (x : Float) (b : ℕ) → Small x b → Within b x x x
within_same x b p = let same = le_same x (small_finite x b p) in record { low = p; high = p; from = same; to = same }

module _ (f : Format) {b : ℕ} {lo x hi : Float} (w : Within b lo x hi) where
  pub add_within : {d : ℕ} {lo' y hi' : Float} → b + d ≤ 2 ^ prec f → Within d lo' y hi' → Within (b + d) (add f lo lo') (add f x y) (add f hi hi')
  add_within {d} {lo'} {y} {hi'} h v =
      record {
        low = add_small f lo lo' b d h w.low v.low;
        high = add_small f hi hi' b d h w.high v.high;
        from = add_up f lo x lo' y (low_finite w) (within_finite w) (low_finite v) (within_finite v) w.from v.from;
        to = add_up f x hi y hi' (within_finite w) (high_finite w) (within_finite v) (high_finite v) w.to v.to;
      }

  pub mul_within : (y : Float) (d : ℕ) → Plus y → Small y d → d * b ≤ 2 ^ prec f → Within (d * b) (mul f y lo) (mul f y x) (mul f y hi)
  mul_within y d P p h =
      let q = small_finite y d p in
      record {
        low = mul_small f y lo d b h p w.low;
        high = mul_small f y hi d b h p w.high;
        from = mul_up f y lo x P q (low_finite w) (within_finite w) w.from;
        to = mul_up f y x hi P q (within_finite w) (high_finite w) w.to;
      }

  pub sub_within : (y : Float) (d : ℕ) → Small y d → d + b ≤ 2 ^ prec f → Within (d + b) (sub f y hi) (sub f y x) (sub f y lo)
  unfolding sub
  sub_within y d p h =
      let q = small_finite y d p in
      let r = neg_finite x (within_finite w) in
      record {
        low = sub_small f y hi d b h p w.high;
        high = sub_small f y lo d b h p w.low;
        from = add_up f y y (neg hi) (neg x) q q (neg_finite hi (high_finite w)) r (le_same y q) (neg_down x hi w.to);
        to = add_up f y y (neg x) (neg lo) q q r (neg_finite lo (low_finite w)) (le_same y q) (neg_down lo x w.from);
      }
