-- Laws of an entry's answer: how its tests go, one after the other, and that the answer is the only one.
-- Assumes nothing.
use Rattle.std.specs.Prelude.{◌≡◌, Bool, ℕ, ◌≤◌, Ok, Err}
use Rattle.std.proofs.Math.Path.{refl, ap}
use Rattle.std.proofs.Common.{sym, ◌∙◌, arith, leb-true}
use Rattle.std.proofs.Math.Bool.{true, false, cond}
use mathlib.Core.List.{List, [], ◌∷◌, ◌++◌, append-nil}
use Rattle.refusal.specs.declared.Refusal.{Refusal}
use Rattle.refusal.specs.Report.{report_of, success}
use Rattle.refusal.specs.Judge.{Test, judged, Checked, pass, checked_of, checks_of, room_test, size_most, size_test, Kind, Says, Writes, answering, Checks}

pub refused_passed : {x : Refusal} → Err x ≡ pass → ⊥
refused_passed e = let z : ◌≡◌ {A = ℕ} 0 1 = cc in omega arith

-- ---- tests before others, `rest`

module _ {A : Type 0} (refused : Refusal → A) (answer : A) (rest : List Test) where
  -- one of them fails
  pub stops : (tests : List Test) {x : Refusal} → Err x ≡ checks_of tests → refused x ≡ judged refused answer (tests ++ rest)
  unfolding judged
  stops [] e = absurd (refused_passed e)
  stops (t ∷ more) {x} e = by t.passed (λ f. stops more f) e
    where
      by : (b : Bool) → (Err x ≡ judged Err pass more → refused x ≡ judged refused answer (more ++ rest))
          → Err x ≡ cond b (judged Err pass more) (Err t.otherwise)
          → refused x ≡ cond b (judged refused answer (more ++ rest)) (refused t.otherwise)
      by true later e = later e
      by false later e = let same : x ≡ t.otherwise = cc in ap refused same

  -- all pass, and the rest decides
  pub passes : (tests : List Test) → pass ≡ checks_of tests → judged refused answer rest ≡ judged refused answer (tests ++ rest)
  unfolding judged
  passes [] e = refl
  passes (t ∷ more) e = by t.passed (passes more) e
    where
      by : (b : Bool) → (pass ≡ judged Err pass more → judged refused answer rest ≡ judged refused answer (more ++ rest))
          → pass ≡ cond b (judged Err pass more) (Err t.otherwise)
          → judged refused answer rest ≡ cond b (judged refused answer (more ++ rest)) (refused t.otherwise)
      by true later e = later e
      by false later e = absurd (refused_passed (sym e))

judged_all : {A : Type 0} (refused : Refusal → A) (answer : A) → answer ≡ judged refused answer []
unfolding judged
judged_all refused answer = refl

-- what tests answer decides every answer by them
module _ {A : Type 0} (refused : Refusal → A) (answer : A) (tests : List Test) where
  pub judged_passed : pass ≡ checks_of tests → answer ≡ judged refused answer tests
  judged_passed p = judged_all refused answer ∙ passes refused answer [] tests p ∙ rw append-nil

  pub judged_refused : {x : Refusal} → Err x ≡ checks_of tests → refused x ≡ judged refused answer tests
  judged_refused f = stops refused answer [] tests f ∙ rw append-nil

-- what is worked out of an answer is worked out of each of its ways
pub judged_map : {A B : Type 0} (f : A → B) (refused : Refusal → A) (answer : A) (tests : List Test)
    → f (judged refused answer tests) ≡ judged (λ x. f (refused x)) (f answer) tests
judged_map f refused answer tests = by (checks_of tests) refl
  where
    by : (c : Checked) → c ≡ checks_of tests → f (judged refused answer tests) ≡ judged (λ x. f (refused x)) (f answer) tests
    by (Ok u) e = ap f (sym (judged_passed refused answer tests e)) ∙ judged_passed (λ x. f (refused x)) (f answer) tests e
    by (Err x) e = ap f (sym (judged_refused refused answer tests e)) ∙ judged_refused (λ x. f (refused x)) (f answer) tests e

-- one test alone
pub alone : (t : Test) {checked : Checked} → checked ≡ checked_of t → checked ≡ checks_of (t ∷ [])
unfolding judged
alone t e = e

-- a function that answers for several tests goes through them as an entry does
module _ (tests rest : List Test) {checked : Checked} (e : checked ≡ checks_of tests) where
  pub checks_stop_by : {x : Refusal} → checked ≡ Err x → Err x ≡ checks_of (tests ++ rest)
  checks_stop_by s = stops Err pass rest tests (sym s ∙ e)

  pub checks_on_by : {r : Checked} → checked ≡ pass → r ≡ checks_of rest → r ≡ checks_of (tests ++ rest)
  checks_on_by p f = f ∙ passes Err pass rest tests (sym p ∙ e)

module _ (t : Test) (more : List Test) {checked : Checked} (e : checked ≡ checked_of t) where
  pub checks_stop : {x : Refusal} → checked ≡ Err x → Err x ≡ checks_of (t ∷ more)
  checks_stop s = checks_stop_by (t ∷ []) more (alone t e) s

  pub checks_on : {r : Checked} → checked ≡ pass → r ≡ checks_of more → r ≡ checks_of (t ∷ more)
  checks_on p f = checks_on_by (t ∷ []) more (alone t e) p f

-- the same of a test of which the code knows how it came out, and of no test
module _ (t : Test) (more : List Test) where
  pub check_holds : t.passed ≡ true → checks_of more ≡ checks_of (t ∷ more)
  unfolding judged
  check_holds e = rw e

  pub check_fails : t.passed ≡ false → Err t.otherwise ≡ checks_of (t ∷ more)
  unfolding judged
  check_fails e = rw e

pub check_none : pass ≡ checks_of []
unfolding judged
check_none = refl

-- what tests that passed have shown
pub shown : (t : Test) (more : List Test) {checked : Checked} → checked ≡ checks_of (t ∷ more) → checked ≡ pass
    → (t.passed ≡ true) × (checked ≡ checks_of more)
unfolding judged
shown t more {checked} e p = by t.passed e
  where
    by : (b : Bool) → checked ≡ cond b (checks_of more) (Err t.otherwise) → (b ≡ true) × (checked ≡ checks_of more)
    by true e = (refl, e)
    by false e = absurd (refused_passed (sym e ∙ p))

pub shown_by : (tests rest : List Test) {checked : Checked} → checked ≡ checks_of (tests ++ rest) → checked ≡ pass
    → (checked ≡ checks_of tests) × (checked ≡ checks_of rest)
unfolding judged
shown_by [] rest e p = (p, e)
shown_by (t ∷ more) rest e p =
    let first = shown t (more ++ rest) e p in
    let later = shown_by more rest first.1 p in
    (rw first.0 later.0, later.1)

pub room_shown : {room needed : ℕ} {checked : Checked} → checked ≡ checked_of (room_test room needed) → checked ≡ pass → needed ≤ room
room_shown {room} {needed} e p = leb-true needed room (shown (room_test room needed) [] (alone (room_test room needed) e) p).0

pub size_shown : {size : ℕ} {checked : Checked} → checked ≡ checked_of (size_test size) → checked ≡ pass → size ≤ size_most
size_shown {size} e p = leb-true size size_most (shown (size_test size) [] (alone (size_test size) e) p).0

-- ---- a function that only tests

pub checks : (tests : List Test) {r : Checked} → r ≡ checks_of tests → Checks tests r
checks tests {r} e = record { number = by r e; same = e }
  where
    by : (r : Checked) → r ≡ checks_of tests → answering.told r ≡ judged report_of success tests
    by (Ok u) e = judged_passed report_of success tests e
    by (Err x) e = judged_refused report_of success tests e

pub checks_alone : {t : Test} {r : Checked} → Checks (t ∷ []) r → r ≡ checked_of t
unfolding judged
checks_alone c = c.same

-- ---- the ways through an entry, as its code takes them: tests stop it, tests let it on, no test is left

module _ {A : Type 0} {kind : Kind A} {answer : A} where
  module _ (tests rest : List Test) {checked : Checked} (e : checked ≡ checks_of tests) where
    pub stopped_by_lem : {x : Refusal} → checked ≡ Err x → Says kind (tests ++ rest) answer (kind.refused x)
    stopped_by_lem {x} s =
        let f : Err x ≡ checks_of tests = sym s ∙ e in
        record { number = kind.refusing x ∙ stops report_of success rest tests f; same = stops kind.refused answer rest tests f }

    pub onward_by : {r : A} → checked ≡ pass → Says kind rest answer r → Says kind (tests ++ rest) answer r
    onward_by p s =
        let f : pass ≡ checks_of tests = sym p ∙ e in
        record { number = s.number ∙ passes report_of success rest tests f; same = s.same ∙ passes kind.refused answer rest tests f }

  module _ {t : Test} {rest : List Test} {checked : Checked} (e : checked ≡ checked_of t) where
    pub stopped : {x : Refusal} → checked ≡ Err x → Says kind (t ∷ rest) answer (kind.refused x)
    stopped s = stopped_by_lem (t ∷ []) rest (alone t e) s

    pub onward : {r : A} → checked ≡ pass → Says kind rest answer r → Says kind (t ∷ rest) answer r
    onward p s = onward_by (t ∷ []) rest (alone t e) p s

  pub answered : {r : A} → kind.told r ≡ success → r ≡ answer → Says kind [] answer r
  answered a e = record { number = a ∙ judged_all report_of success; same = e ∙ judged_all kind.refused answer }

-- the same with a lent room
module _ {A : Type 0} {kind : Kind A} {answer : A} {out written after : List ℕ} where
  module _ (tests rest : List Test) {checked : Checked} (e : checked ≡ checks_of tests) where
    pub stopped_room_by : {x : Refusal} → checked ≡ Err x → after ≡ out → Writes kind (tests ++ rest) answer out written (kind.refused x) after
    stopped_room_by s u = record { says = stopped_by_lem tests rest e s; room = u ∙ stops (λ y. out) written rest tests (sym s ∙ e) }

    pub onward_room_by : {r : A} → checked ≡ pass → Writes kind rest answer out written r after
        → Writes kind (tests ++ rest) answer out written r after
    onward_room_by p w = record { says = onward_by tests rest e p w.says; room = w.room ∙ passes (λ y. out) written rest tests (sym p ∙ e) }

  module _ {t : Test} {rest : List Test} {checked : Checked} (e : checked ≡ checked_of t) where
    pub stopped_room : {x : Refusal} → checked ≡ Err x → after ≡ out → Writes kind (t ∷ rest) answer out written (kind.refused x) after
    stopped_room s u = stopped_room_by (t ∷ []) rest (alone t e) s u

    pub onward_room : {r : A} → checked ≡ pass → Writes kind rest answer out written r after → Writes kind (t ∷ rest) answer out written r after
    onward_room p w = onward_room_by (t ∷ []) rest (alone t e) p w

  pub answered_room : {r : A} → kind.told r ≡ success → r ≡ answer → after ≡ written → Writes kind [] answer out written r after
  answered_room a e u = record { says = answered a e; room = u ∙ judged_all (λ y. out) written }

-- ---- a test of which the code knows how it came out

module _ {A : Type 0} {kind : Kind A} {answer : A} {t : Test} {rest : List Test} where
  pub fails : t.passed ≡ false → Says kind (t ∷ rest) answer (kind.refused t.otherwise)
  fails e = stopped {checked = Err t.otherwise} (rw e refl) refl

  pub holds : {r : A} → t.passed ≡ true → Says kind rest answer r → Says kind (t ∷ rest) answer r
  holds e s = onward {checked = pass} (rw e refl) refl s

  module _ {out written : List ℕ} where
    pub fails_room : t.passed ≡ false → Writes kind (t ∷ rest) answer out written (kind.refused t.otherwise) out
    fails_room e = stopped_room {checked = Err t.otherwise} (rw e refl) refl refl

    pub holds_room : {r : A} {after : List ℕ} → t.passed ≡ true → Writes kind rest answer out written r after
        → Writes kind (t ∷ rest) answer out written r after
    holds_room e w = onward_room {checked = pass} (rw e refl) refl w

-- ---- THE law of one answer: what two runs of an entry answer, and what they leave in a lent room, is the same

module _ {A : Type 0} {kind : Kind A} {tests : List Test} {answer r s : A} where
  pub one_answer : Says kind tests answer r → Says kind tests answer s → r ≡ s
  one_answer a b = a.same ∙ sym b.same

  pub one_outcome : {out written after later : List ℕ} → Writes kind tests answer out written r after
      → Writes kind tests answer out written s later → (r ≡ s) × (after ≡ later)
  one_outcome a b = (one_answer a.says b.says, a.room ∙ sym b.room)
