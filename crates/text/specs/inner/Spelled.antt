-- For the contracts of inner functions: what the code's ten bytes hold.
-- Assumes nothing.
use Rattle.std.specs.Prelude.{◌≡◌, List, ◌++◌, ℕ, length, drop, replicate}
use Rattle.text.specs.declared.decimal.Digits.{Digits}

-- ten bytes that end in a text, and are spaces before it
pub record Spelled (text : List ℕ) (d : Digits) : Type 0 where
  pub same : d.bytes ≡ replicate d.from 32 ++ text
  pub ten : length d.bytes ≡ 10

-- the text that they end in
abbrev pub held_of : Digits → List ℕ
held_of d = drop d.from d.bytes
