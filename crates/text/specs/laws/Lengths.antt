-- How long the texts of numbers are.
-- Assumes nothing.
use Rattle.std.specs.Prelude.{◌≡◌, refl, List, ℕ, zero, suc, ◌/◌, ◌^◌, ◌-◌, ◌≤◌, ◌<◌, max, ℤ, pos, negsuc, length}
use Rattle.std.proofs.Common.{pow-suc, arith, lt-ltb, length-append}
use Rattle.std.proofs.lemmas.List.{length-replicate}
use Rattle.text.specs.Digits.{digits_of}
use Rattle.text.specs.laws.Digits.{digits_cases}
use Rattle.text.specs.Decimal.{decimal, decimal_of, signed_of, right_of}
use Rattle.text.specs.Hex.{hex_of}

-- j is what the definition counts by
short : (j k n : ℕ) → n < 10 ^ suc k → length (digits_of decimal j n) ≤ suc k
unfolding digits_of
short zero k n h = omega arith
short (suc j) zero n h = simp (lt-ltb n 10 h) (omega arith)
short (suc j) (suc k) n h =
    let m = short j k (n / 10) (omega (arith, pow-suc 10 (suc k))) in
    digits_cases decimal (λ x. length x ≤ suc (suc k)) j n (λ e. omega arith) (λ e. simp length-append (omega arith))

-- a number below 10 ^ k has at most k digits
pub decimal_length : (k n : ℕ) → 0 < k → n < 10 ^ k → length (decimal_of n) ≤ k
unfolding decimal_of
decimal_length zero n some h = absurd (omega arith)
decimal_length (suc k) n some h = short 10 k n h

-- j digits at most are what the definition writes
few : (j n : ℕ) → length (digits_of decimal j n) ≤ j
unfolding digits_of
few zero n = omega arith
few (suc j) n =
    let m = few j (n / 10) in
    digits_cases decimal (λ x. length x ≤ suc j) j n (λ e. omega arith) (λ e. simp length-append (omega arith))

pub decimal_most : (n : ℕ) → length (decimal_of n) ≤ 10
unfolding decimal_of
decimal_most n = few 10 n

-- no number is written in no digits
pub decimal_some : (n : ℕ) → 1 ≤ length (decimal_of n)
unfolding decimal_of
decimal_some n = digits_cases decimal (λ x. 1 ≤ length x) 9 n (λ e. omega arith) (λ e. simp length-append (omega arith))

pub signed_most : (z : ℤ) → length (signed_of z) ≤ 11
unfolding signed_of
signed_most (pos n) = omega (arith, decimal_most n)
signed_most (negsuc k) = omega (arith, decimal_most (suc k))

-- a text that is longer than the width keeps its length
pub right_length : (w : ℕ) (text : List ℕ) → length (right_of w text) ≡ max w (length text)
unfolding right_of
right_length w text = simp (length-append, length-replicate) (omega arith)

-- with no width the text stands alone
pub right_none : (text : List ℕ) → right_of 0 text ≡ text
unfolding right_of
right_none text = let none : 0 - length text ≡ 0 = omega arith in rw none

pub hex_length : (n : ℕ) → length (hex_of n) ≡ 8
unfolding hex_of
hex_length n = refl
