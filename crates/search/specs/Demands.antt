-- Document 02, E7: "An iteration that is refused stores nothing, earlier ones stand, and their number is returned; room too short for the path is 6 after them,
-- no path written; these are the exceptions to demand 1". Demand 1 and that no second answer fits, of the statement of an entry that lends records and room.
-- Assumes nothing.
use Rattle.std.specs.Prelude.{◌≡◌, ℕ, Bool, ◌⊎◌, List, ◌≢◌}
use Rattle.refusal.specs.declared.Report.{Report}
use Rattle.refusal.specs.Judge.{Test, pass, checks_of}
use Rattle.refusal.specs.Demands.{Among, TellsFirst}

-- one answer meets the statement, and one state of the records and of the room at exit
abbrev pub OneOutcomes : {A B C : Type 0} → (A → B → C → Type 0) → Type 0
OneOutcomes {A} {B} {C} statement =
    (r s : A) (after later : B) (written put : C) → statement r after written → statement s later put → (r ≡ s) × (after ≡ later) × (written ≡ put)

-- every answer that meets the statement is told by 0 or one of the numbers, and where it is not 0, the room is at exit as it was;
-- the records are as they were where one of the first tests fails, and wherever it is told by none of the late numbers and not by 0
abbrev pub RefusesInPart : {A B C : Type 0} → (A → Report) → List ℕ → List ℕ → List Test → B → C → (A → B → C → Type 0) → Type 0
RefusesInPart {A} {B} {C} told numbers late first records room statement =
    (r : A) (after : B) (written : C) → statement r after written
    → Among numbers (told r).0
    × (((told r).0 ≢ 0) → written ≡ room)
    × ((pass ≢ checks_of first) → after ≡ records)
    × (Among late (told r).0 ⊎ (after ≡ records))

-- E1's demand beside both
abbrev pub TellsFirstBesides : {A B C : Type 0} → (A → Report) → List Bool → (A → B → C → Type 0) → Type 0
TellsFirstBesides {A} {B} {C} told fields statement = (after : B) (written : C) → TellsFirst told fields (λ (r : A). statement r after written)
