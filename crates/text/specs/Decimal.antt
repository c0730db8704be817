-- Document 01, 'Text', the Display line as in the source: its numbers are in decimal, right-aligned, and durability has a sign.
-- Assumes nothing.
use Rattle.std.specs.Prelude.{List, ◌∷◌, ◌++◌, ℕ, suc, ◌+◌, ◌-◌, ltb, ℤ, pos, negsuc, length, replicate}
use Rattle.text.specs.Digits.{Notation, digits_of}

-- no zero leads
abbrev pub decimal : Notation
decimal = record { base = 10; digit = λ d. 48 + d; alone = λ n. ltb n 10 }

-- n below 10 ^ 10 in decimal
unfoldable pub decimal_of : ℕ → List ℕ
unfolding digits_of
decimal_of n = digits_of decimal 10 n

-- a signed number in decimal, with a minus sign before a negative one
unfoldable pub signed_of : ℤ → List ℕ
signed_of (pos n) = decimal_of n
signed_of (negsuc k) = 45 ∷ decimal_of (suc k)

-- a text with spaces before it up to w bytes, `{:>w}`
unfoldable pub right_of : ℕ → List ℕ → List ℕ
right_of w text = replicate (w - length text) 32 ++ text
