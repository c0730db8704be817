-- Document 01, "What the statements have to say" and demand 1, of the statement of a public entry: no second answer fits,
-- and it refuses by fixed numbers, with every lent buffer unchanged. Document 02, E1: number 1 comes with "the position of the first field outside its limit".
-- Assumes nothing.
use Rattle.std.specs.Prelude.{◌≡◌, ◌⊎◌, Bool, true, false, cond, ◌&&◌, List, [], ◌∷◌, ◌++◌, ℕ, eqb}
use Rattle.refusal.specs.declared.Refusal.{Refusal}
use Rattle.refusal.specs.declared.Refusal.TheVariants.{OutsideLimits}
use Rattle.refusal.specs.declared.Report.{Report}
use Rattle.refusal.specs.Report.{report_of, success}
use Rattle.refusal.specs.Judge.{Test, Kind}
use Rattle.refusal.specs.Limits.{FirstOutside}

-- ---- no second answer fits

-- one answer meets the statement; and, where something is lent, one answer and one state of it at exit
abbrev pub OneAnswer : {A : Type 0} → (A → Type 0) → Type 0
OneAnswer {A} statement = (r s : A) → statement r → statement s → r ≡ s

abbrev pub OneOutcome : {A B : Type 0} → (A → B → Type 0) → Type 0
OneOutcome {A} {B} statement = (r s : A) (after later : B) → statement r after → statement s later → (r ≡ s) × (after ≡ later)

-- ---- total and refusing

abbrev pub all_pass : List Test → Bool
all_pass [] = true
all_pass (t ∷ rest) = t.passed && all_pass rest

-- one fails, and those before it passed
pub record FirstFailing (tests : List Test) : Type 0 where
  pub before : List Test
  pub test : Test
  pub after : List Test
  pub place : tests ≡ before ++ (test ∷ after)
  pub passed : all_pass before ≡ true
  pub failed : test.passed ≡ false

-- what is told: success where each test passes, and else the refusal of the first that fails
pub data Settled (tests : List Test) (report : Report) : Type 0 where
  accepts : all_pass tests ≡ true → report ≡ success → Settled tests report
  refuses : (first : FirstFailing tests) → report ≡ report_of first.test.otherwise → Settled tests report

-- ---- by which numbers

abbrev pub number_of : Refusal → ℕ
number_of x = (report_of x).0

-- a number in front of others, unless it is the first of them
abbrev pub put_first : ℕ → List ℕ → List ℕ
put_first n [] = n ∷ []
put_first n (m ∷ more) = cond (eqb n m) (m ∷ more) (n ∷ m ∷ more)

-- the numbers of the tests' refusals, in their order, once where tests that follow each other have the same
abbrev pub numbers_in : List Test → List ℕ
numbers_in [] = []
numbers_in (t ∷ rest) = put_first (number_of t.otherwise) (numbers_in rest)

-- one of the numbers, or 0
abbrev pub Among : List ℕ → ℕ → Type 0
Among [] n = n ≡ 0
Among (m ∷ more) n = (n ≡ m) ⊎ Among more n

-- every answer that meets the statement is told by 0 or one of the numbers
abbrev pub Refuses : {A : Type 0} → Kind A → List ℕ → (A → Type 0) → Type 0
Refuses {A} kind numbers statement = (r : A) → statement r → Among numbers (kind.told r).0

-- and where it is not 0, what was lent is at exit as it was
abbrev pub RefusesWhole : {A B : Type 0} → Kind A → List ℕ → B → (A → B → Type 0) → Type 0
RefusesWhole {A} {B} kind numbers lent statement =
    (r : A) (after : B) → statement r after → Among numbers (kind.told r).0 × (((kind.told r).0 ≡ 0 → ⊥) → after ≡ lent)

-- ---- by which place

-- a report that tells the place of the first of these fields outside its limit
pub record TellsPlace (fields : List Bool) (report : Report) : Type 0 where
  pub place : ℕ
  pub told : report ≡ report_of (OutsideLimits place)
  pub first : FirstOutside fields place

-- every answer that is told by 1 tells it; and beside what is lent
abbrev pub TellsFirst : {A : Type 0} → (A → Report) → List Bool → (A → Type 0) → Type 0
TellsFirst {A} told fields statement = (r : A) → statement r → (told r).0 ≡ 1 → TellsPlace fields (told r)

abbrev pub TellsFirstBeside : {A B : Type 0} → (A → Report) → List Bool → (A → B → Type 0) → Type 0
TellsFirstBeside {A} {B} told fields statement = (after : B) → TellsFirst told fields (λ (r : A). statement r after)
