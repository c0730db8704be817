-- Theorems: what is written, read again, is the number.
-- Assumes nothing.
use Rattle.std.specs.Prelude.{◌≡◌, refl, List, [], ◌∷◌, ℕ, suc, ◌-◌, ◌^◌, ◌<◌, eqb, ℤ, pos, negsuc, neg_ℤ}
use Rattle.std.proofs.Common.{sym, ap, ◌∙◌, arith, ltb-true, ne_eqb, eqb→eq, SFits}
use Rattle.std.specs.Int.{w8}
use Rattle.laws.specs.laws.Tests.{true_false}
use Rattle.laws.specs.laws.Same.{below_at}
use Rattle.text.specs.laws.Digits.{each_digit, digits_value}
use Rattle.text.specs.Decimal.{decimal, decimal_of, signed_of}
use Rattle.text.specs.Hex.{hex, hex_digit, hex_of}
use Rattle.text.specs.Reading.{value_of, hex_read, hex_value_of, signed_value_of, Each, DecimalDigit}

pub decimal_value : (n : ℕ) → n < 10 ^ 10 → value_of (decimal_of n) ≡ n
unfolding decimal_of
decimal_value n h = digits_value decimal (omega arith) (λ b. b - 48) (λ d l. omega arith) (λ m e. ltb-true m 10 e) 10 n h

pub decimal_digits : (n : ℕ) → Each DecimalDigit (decimal_of n)
unfolding decimal_of
decimal_digits n = each_digit decimal (omega arith) DecimalDigit (λ d l. omega arith) 10 n

-- a text of digits has no minus sign
unsigned : (text : List ℕ) → Each DecimalDigit text → signed_value_of text ≡ pos (value_of text)
unsigned [] e = refl
unsigned (b ∷ rest) e = rw (ne_eqb b 45 (λ (q : b ≡ 45). omega (arith, e.0.0)))

-- of every i8
pub signed_value : (z : ℤ) → SFits w8 z → signed_value_of (signed_of z) ≡ z
unfolding signed_of
signed_value (pos n) f = unsigned (decimal_of n) (decimal_digits n) ∙ ap pos (decimal_value n (omega (arith, f.sfits)))
signed_value (negsuc k) f = ap (λ (m : ℕ). neg_ℤ (pos m)) (decimal_value (suc k) (omega (arith, f.sfits)))

hex_reads : (d : ℕ) → d < 16 → hex_read (hex_digit d) ≡ d
hex_reads d h = eqb→eq _ d (below_at (λ (m : ℕ). eqb (hex_read (hex_digit m)) m) 16 d h tt)

pub hex_value : (n : ℕ) → n < 2 ^ 32 → hex_value_of (hex_of n) ≡ n
unfolding hex_of
hex_value n h = digits_value hex (omega arith) hex_read hex_reads (λ m e. absurd (true_false (sym e))) 8 n h
