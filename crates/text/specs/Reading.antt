-- Numbers read from their digits: the values of the digits in document 01's 'The replay program', line one, and what the theorems of
-- laws/Value.antt say of the texts that are written.
-- Assumes nothing.
use Rattle.std.specs.Prelude.{cond, List, [], ◌∷◌, ℕ, ◌+◌, ◌*◌, ◌-◌, ◌≤◌, ltb, eqb, ℤ, pos, neg_ℤ}

-- digits from left to right, after a part that is read already
abbrev pub value_in : ℕ → (ℕ → ℕ) → ℕ → List ℕ → ℕ
value_in base read part [] = part
value_in base read part (b ∷ rest) = value_in base read (part * base + read b) rest

abbrev pub value_of : List ℕ → ℕ
value_of text = value_in 10 (λ b. b - 48) 0 text

-- 0 to 9, then A to F
abbrev pub hex_read : ℕ → ℕ
hex_read b = cond (ltb b 58) (b - 48) (b - 55)

abbrev pub hex_value_of : List ℕ → ℕ
hex_value_of text = value_in 16 hex_read 0 text

-- digits, with a minus sign before them or none
abbrev pub signed_value_of : List ℕ → ℤ
signed_value_of [] = pos 0
signed_value_of (b ∷ rest) = cond (eqb b 45) (neg_ℤ (pos (value_of rest))) (pos (value_of (b ∷ rest)))

-- a fact of each byte of a text
abbrev pub Each : (ℕ → Type 0) → List ℕ → Type 0
Each P [] = Unit {0}
Each P (b ∷ rest) = P b × Each P rest

abbrev pub DecimalDigit : ℕ → Type 0
DecimalDigit b = (48 ≤ b) × (b ≤ 57)
