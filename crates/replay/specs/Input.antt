-- What the replay program (document 01, "The replay program") takes for the whole of standard input: what was read, to the input's end or past the most
-- that it may have. Where a read failed there is no whole.
-- Assumes nothing.
use Rattle.std.specs.Prelude.{ℕ, ◌+◌, ◌≤◌, ◌<◌, List, Option, Result, IfOk}
use Rattle.std.specs.Io.KnownBytes.{IsAtEnd}
use Rattle.refusal.specs.Judge.{size_most}

-- in bytes: one more than an input may have, so that one that fills it is refused by 13
abbrev pub room : ℕ
room = size_most + 1

-- failed, or whole: within what was lent, and with nothing left where it did not fill that
abbrev pub Ended : {E : Type 0} → Result ℕ E → Option (List ℕ) → ℕ → Type 0
Ended read left lent = IfOk read (λ n. (n ≤ lent) × (n < lent → IsAtEnd left))
