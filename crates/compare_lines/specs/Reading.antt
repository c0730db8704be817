-- What a read says of a block that is being read, and so of the input of the replay program (document 01, "The replay program").
-- Assumes nothing.
use Rattle.std.specs.Prelude.{ℕ, zero, suc, ◌+◌, Option, Some, None, Result, Ok, Err}

-- where the reading stands after a read that began at a place: at the place of the next read, or none at the input's end; where the read failed, its error
abbrev pub after_read : {E : Type 0} → ℕ → Result ℕ E → Result (Option ℕ) E
after_read at (Err e) = Err e
after_read at (Ok zero) = Ok None
after_read at (Ok (suc n)) = Ok (Some (at + suc n))
