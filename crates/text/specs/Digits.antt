-- Numbers in a base, digit by digit: what the decimals of document 01's texts and the hexadecimals of its scores are.
-- Assumes nothing.
use Rattle.std.specs.Prelude.{Bool, cond, List, [], ◌∷◌, ◌++◌, ℕ, zero, suc, ◌/◌, ◌%◌}

-- a way to write numbers: its base, the byte of a digit, and which numbers have no digit before their last
pub record Notation : Type 0 where
  pub base : ℕ
  pub digit : ℕ → ℕ
  pub alone : ℕ → Bool

-- the digits of n, of which there are at most k: its last, after those of the rest where there are any
unfoldable pub digits_of : Notation → ℕ → ℕ → List ℕ
digits_of s zero n = []
digits_of s (suc k) n = cond (s.alone n) [] (digits_of s k (n / s.base)) ++ (s.digit (n % s.base) ∷ [])
