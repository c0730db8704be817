-- Document 01, 'Text', the waits of `macro_text` as in the source, and 'Slips that look right': 'six actions have wait 2, MastersMend has 3'.
-- Assumes nothing.
use Rattle.std.specs.Prelude.{cond, ◌||◌, ℕ}
use Rattle.action.specs.Amount.{present}
use Rattle.action.specs.declared.table.Attributes.{Attributes}

-- 2 for a buff, which has none of progress, quality and durability; else 3
abbrev pub wait_of : Attributes → ℕ
wait_of row = cond (present row.progress_efficiency || (present row.quality_efficiency || present row.durability_cost)) 3 2
