-- Document 01, 'What comes back on refusal': the table's numbers, and what is also returned. Document 02, E1: "1 now has a place"; E7: "19 draws used up,
-- 20 draw not below the size, 21" for a search whose logarithms or options are outside their limits.
-- Assumes nothing.
use Rattle.std.specs.Prelude.{ℕ, None, Some}
use Rattle.refusal.specs.declared.Refusal.{Refusal}
use Rattle.refusal.specs.declared.Refusal.TheVariants as R
use Rattle.refusal.specs.declared.Report.{Report}

abbrev bare : ℕ → Report
bare number = record { 0 = number; 1 = None }

abbrev with : ℕ → ℕ → Report
with number value = record { 0 = number; 1 = Some value }

-- no refusal
abbrev pub success : Report
success = bare 0

abbrev pub report_of : Refusal → Report
report_of (R.OutsideLimits place) = with 1 place
report_of R.StateOutOfRange = bare 2
report_of (R.UnknownAction place) = with 3 place
report_of R.IllegalAction = bare 4
report_of (R.UnknownWord offset) = with 5 offset
report_of (R.NoRoom needed) = with 6 needed
report_of R.UnsoundTree = bare 7
report_of R.UnknownNode = bare 8
report_of R.NotAbove = bare 9
report_of R.BadScore = bare 10
report_of R.VisitsFull = bare 11
report_of R.MalformedLine = bare 12
report_of R.TooLong = bare 13
report_of R.NoDraw = bare 19
report_of R.DrawTooHigh = bare 20
report_of R.BadSearch = bare 21
