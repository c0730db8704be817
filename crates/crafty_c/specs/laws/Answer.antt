-- An entry's answer, told in a number and a value: what is so of the one is so of the other.
-- Assumes nothing.
use Rattle.std.specs.Prelude.{◌≡◌, refl, List, ℕ, Result, Ok, Err}
use Rattle.std.proofs.Common.{sym, ap, ◌∙◌}
use Rattle.refusal.specs.declared.Refusal.{Refusal}
use Rattle.refusal.specs.Report.{report_of}
use Rattle.refusal.specs.Judge.{Kind, Test, judged, Checked, checks_of, Says, Writes, answering}
use Rattle.refusal.specs.laws.Judge.{judged_passed, judged_refused}
use Rattle.crafty_c.specs.Answer.{done_of, refused_of, answer_by, answer_of, report_in, answered}

-- ---- document 01's number and values can be read off the answer of every refusal

pub report_in_lem : (x : Refusal) → report_in (refused_of x) ≡ report_of x
report_in_lem = answered.refusing

-- ---- any kind of answer that is told in another

module _ {A B : Type 0} (to : Kind B) (kind : Kind A) (tell : A → B)
    (refusing : (x : Refusal) → tell (kind.refused x) ≡ to.refused x) (telling : (r : A) → to.told (tell r) ≡ kind.told r) where
  judged_told : (answer : A) (tests : List Test) → tell (judged kind.refused answer tests) ≡ judged to.refused (tell answer) tests
  judged_told answer tests = by (checks_of tests) refl
    where
      by : (c : Checked) → c ≡ checks_of tests → tell (judged kind.refused answer tests) ≡ judged to.refused (tell answer) tests
      by (Ok u) e = ap tell (sym (judged_passed kind.refused answer tests e)) ∙ judged_passed to.refused (tell answer) tests e
      by (Err x) e = ap tell (sym (judged_refused kind.refused answer tests e)) ∙ refusing x ∙ judged_refused to.refused (tell answer) tests e

  pub says_told : {tests : List Test} {answer r : A} → Says kind tests answer r → Says to tests (tell answer) (tell r)
  says_told {tests} {answer} {r} s = record { number = telling r ∙ s.number; same = ap tell s.same ∙ judged_told answer tests }

-- ---- an entry's, by a number of what it gives

module _ {T : Type 0} (value : T → ℕ) where
  by_number : (r : Result T Refusal) → report_in (answer_by value r) ≡ answering.told r
  by_number (Ok given) = refl
  by_number (Err x) = report_in_lem x

  pub says_answered : {tests : List Test} {given : T} {r : Result T Refusal} → Says answering tests (Ok given) r
      → Says answered tests (done_of (value given)) (answer_by value r)
  says_answered s = says_told answered answering (answer_by value) (λ x. refl) by_number s

-- ---- what was written, and a time

pub writes_told : {tests : List Test} {k : ℕ} {out after text : List ℕ} {r : Result ℕ Refusal} → Writes answering tests (Ok k) out text r after
    → Writes answered tests (done_of k) out text (answer_of r) after
writes_told w = record { says = says_answered (λ k. k) w.says; room = w.room }

pub says_lasted : {tests : List Test} {s : ℕ} {r : Result ℕ Refusal} → Says answering tests (Ok s) r → Says answered tests (done_of s) (answer_of r)
says_lasted s = says_answered (λ k. k) s
