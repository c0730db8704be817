-- Document 01, 'The replay program': 'eight capital hex digits of the score'.
-- Assumes nothing.
use Rattle.std.specs.Prelude.{cond, false, List, ℕ, ◌+◌, ltb}
use Rattle.text.specs.Digits.{Notation, digits_of}

-- 0 to 9, then A to F
abbrev pub hex_digit : ℕ → ℕ
hex_digit d = cond (ltb d 10) (48 + d) (55 + d)

-- zeros lead
abbrev pub hex : Notation
hex = record { base = 16; digit = hex_digit; alone = λ n. false }

-- n below 2 ^ 32 as eight digits, the most significant first
unfoldable pub hex_of : ℕ → List ℕ
unfolding digits_of
hex_of n = digits_of hex 8 n
