-- Document 01, 'What comes back on refusal', below the table: an entry's answer, from its tests in order. The first that fails refuses, and changes
-- nothing that was lent. Rows 6 and 13 of the table, which belong to no one crate.
-- Assumes nothing.
use Rattle.std.specs.Prelude.{◌≡◌, refl, Bool, cond, List, [], ◌∷◌, ℕ, leb, Result, Ok, Err}
use Rattle.refusal.specs.declared.Refusal.{Refusal}
use Rattle.refusal.specs.declared.Refusal.TheVariants.{NoRoom, TooLong}
use Rattle.refusal.specs.declared.Report.{Report}
use Rattle.refusal.specs.Report.{report_of, success}

-- a test, and what is refused where it fails
pub record Test : Type 0 where
  pub passed : Bool
  pub otherwise : Refusal

unfoldable pub judged : {A : Type 0} → (Refusal → A) → A → List Test → A
judged refused answer [] = answer
judged refused answer (t ∷ rest) = cond t.passed (judged refused answer rest) (refused t.otherwise)

-- what tests answer by themselves: one, and several in their order
abbrev pub Checked : Type 0
Checked = Result Unit Refusal

abbrev pub pass : Checked
pass = Ok tt

abbrev pub checked_of : Test → Checked
checked_of t = cond t.passed pass (Err t.otherwise)

abbrev pub checks_of : List Test → Checked
checks_of tests = judged Err pass tests

-- refusal 6
abbrev pub room_test : ℕ → ℕ → Test
room_test room needed = record { passed = leb needed room; otherwise = NoRoom needed }

-- refusal 13
abbrev pub size_most : ℕ
size_most = 65536

abbrev pub size_test : ℕ → Test
size_test size = record { passed = leb size size_most; otherwise = TooLong }

-- a kind of answer: document 01's number and values for each of its cases, and its case of a refusal
pub record Kind (A : Type 0) : Type 0 where
  pub told : A → Report
  pub refused : Refusal → A
  pub refusing : (x : Refusal) → told (refused x) ≡ report_of x

-- what an entry answers: its number and values are those of the first test that fails, or success; and no other answer will do
pub record Says {A : Type 0} (kind : Kind A) (tests : List Test) (answer r : A) : Type 0 where
  pub number : kind.told r ≡ judged report_of success tests
  pub same : r ≡ judged kind.refused answer tests

-- and what a lent room holds then: what is written where no test fails, and what it held where one does
pub record Writes {A : Type 0} (kind : Kind A) (tests : List Test) (answer : A) (out written : List ℕ) (r : A) (after : List ℕ) : Type 0 where
  pub says : Says kind tests answer r
  pub room : after ≡ judged (λ x. out) written tests

-- a function that answers a value, which is success, or the refusal; and one that only tests
abbrev answer_told : {T : Type 0} → Result T Refusal → Report
answer_told (Ok v) = success
answer_told (Err x) = report_of x

abbrev pub answering : {T : Type 0} → Kind (Result T Refusal)
answering = record { told = answer_told; refused = Err; refusing = λ x. refl }

abbrev pub Checks : List Test → Checked → Type 0
Checks tests r = Says answering tests pass r
