-- Document 01, What comes back on refusal: the number, and "also returned" the value beside it, as every function of include/crafty.h answers them.
-- Document 02, E1: 1 comes with a value too.
-- Assumes nothing.
use Rattle.std.specs.Prelude.{◌≡◌, refl, Bool, cond, ◌||◌, ℕ, eqb, Option, None, Some, Result, Ok, Err}
use Rattle.refusal.specs.declared.Refusal.{Refusal}
use Rattle.refusal.specs.declared.Refusal.TheVariants as X
use Rattle.refusal.specs.declared.Report.{Report}
use Rattle.refusal.specs.Report.{report_of}
use Rattle.refusal.specs.Judge.{Kind}
use Rattle.crafty_c.specs.declared.answer.CraftyAnswer.{CraftyAnswer}

abbrev pub also_value : Option ℕ → ℕ
also_value None = 0
also_value (Some value) = value

-- a success, and how much was written, or a list's seconds
abbrev pub done_of : ℕ → CraftyAnswer
done_of value = record { number = 0; value = value }

abbrev pub refused_of : Refusal → CraftyAnswer
refused_of x = record { number = (report_of x).0; value = also_value (report_of x).1 }

-- by a number of what a success gives, and where that is the number told
abbrev pub answer_by : {T : Type 0} → (T → ℕ) → Result T Refusal → CraftyAnswer
answer_by value (Ok given) = done_of (value given)
answer_by value (Err x) = refused_of x

abbrev pub answer_of : Result ℕ Refusal → CraftyAnswer
answer_of r = answer_by (λ k. k) r

-- ---- the way back: document 01's number and values, read off an answer

-- the refusals with which a value comes back
abbrev has_value : ℕ → Bool
has_value number = eqb number 1 || eqb number 3 || eqb number 5 || eqb number 6

abbrev pub report_in : CraftyAnswer → Report
report_in answer = record { 0 = answer.number; 1 = cond (has_value answer.number) (Some answer.value) None }

-- a refusal's number and values can be read off
abbrev pub answered : Kind CraftyAnswer
answered = record { told = report_in; refused = refused_of; refusing = readable }
  where
    readable : (x : Refusal) → report_in (refused_of x) ≡ report_of x
    readable (X.OutsideLimits place) = refl
    readable X.StateOutOfRange = refl
    readable (X.UnknownAction place) = refl
    readable X.IllegalAction = refl
    readable (X.UnknownWord offset) = refl
    readable (X.NoRoom needed) = refl
    readable X.UnsoundTree = refl
    readable X.UnknownNode = refl
    readable X.NotAbove = refl
    readable X.BadScore = refl
    readable X.VisitsFull = refl
    readable X.MalformedLine = refl
    readable X.TooLong = refl
    readable X.NoDraw = refl
    readable X.DrawTooHigh = refl
    readable X.BadSearch = refl
