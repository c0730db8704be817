-- Document 01's "One action", of 5 and 9: durability given back, up to its most.
-- Assumes nothing.
use Rattle.std.specs.Prelude.{cond, ◌&&◌, ℕ, ltb, ℤ, pos, ◌+ℤ◌}
use Rattle.std.specs.Int.Signed.{le_z, lt_z}

-- so much given back, up to the most
abbrev pub mended_of : ℤ → ℕ → ℤ → ℤ
mended_of d by most = cond (le_z (d +ℤ pos by) most) (d +ℤ pos by) most

-- what manipulation gives back
abbrev pub manipulation_mends : ℕ
manipulation_mends = 5

abbrev pub masters_mends : ℕ
masters_mends = 30

-- only above 0
abbrev pub refreshed_to : ℤ → ℕ → ℤ → ℤ
refreshed_to d manipulation most = cond (ltb 0 manipulation && lt_z (pos 0) d) (mended_of d manipulation_mends most) d
