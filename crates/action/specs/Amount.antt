-- Document 01, 'Action table': 'an attribute left out there is none, which differs from 0'. Whether it is there, and its bounds where it is.
-- Assumes nothing.
use Rattle.std.specs.Prelude.{Bool, true, false, ℕ, ◌≤◌, Option, Some, None}

abbrev pub present : Option ℕ → Bool
present (Some amount) = true
present None = false

abbrev pub AtMost : ℕ → Option ℕ → Type 0
AtMost most (Some amount) = amount ≤ most
AtMost most None = Unit {0}

abbrev pub AtLeast : ℕ → Option ℕ → Type 0
AtLeast least (Some amount) = least ≤ amount
AtLeast least None = Unit {0}
