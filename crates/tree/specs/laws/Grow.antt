-- Laws of the entries that change records: their whole statement from the tests that their code made, and that what they accept leaves a sound tree.
-- Assumes nothing.
use Rattle.std.specs.Prelude.{◌≡◌, ℕ, ◌+◌, true, List, Result, Ok, Err, refl}
use Rattle.std.specs.Result.{is_ok}
use Rattle.std.proofs.Common.{sym, ap, ◌∙◌}
use Rattle.refusal.specs.declared.Refusal.{Refusal}
use Rattle.refusal.specs.Report.{report_of, success}
use Rattle.refusal.specs.Judge.{Test, Checked, pass, checks_of, Kind, Says, answering}
use Rattle.refusal.specs.Demands.{numbers_in, RefusesWhole}
use Rattle.refusal.specs.laws.Demands.{number_among, refused_whole}
use Rattle.refusal.specs.laws.Judge.{judged_passed, judged_refused, one_answer}
use Rattle.laws.specs.laws.Tests.{true_false}
use Rattle.tree.specs.declared.node.Node.{Node}
use Rattle.tree.specs.Tree.{is_sound}
use Rattle.tree.specs.Refusals.{new_count, new_tests, insert_tests}
use Rattle.tree.specs.laws.Kept.{new_kept, insert_kept}
use Rattle.tree.specs.Grow.{Changes, Plants, Inserts}

-- ---- the two ways out

module _ {T : Type 0} {v : T} {nodes changed after : List Node} (tests : List Test) where
  pub changes : pass ≡ checks_of tests → after ≡ changed → Changes answering tests (Ok v) nodes changed (Ok v) after
  changes p e =
      record {
        says = record { number = judged_passed report_of success tests p; same = judged_passed Err (Ok v) tests p };
        records = e ∙ judged_passed (λ x. nodes) changed tests p;
      }

  pub keeps : {x : Refusal} → Err x ≡ checks_of tests → after ≡ nodes → Changes answering tests (Ok v) nodes changed (Err x) after
  keeps f e =
      record {
        says = record { number = judged_refused report_of success tests f; same = judged_refused Err (Ok v) tests f };
        records = e ∙ judged_refused (λ x. nodes) changed tests f;
      }

-- ---- what the entries accept leaves a sound tree

-- an answer that is no refusal is that of tests that have all passed
pub accepted : {T : Type 0} {v : T} {r : Result T Refusal} (tests : List Test) → Says answering tests (Ok v) r → is_ok r ≡ true → pass ≡ checks_of tests
accepted {v = v} {r} tests s ok = go (checks_of tests) refl
  where
    go : (c : Checked) → c ≡ checks_of tests → pass ≡ checks_of tests
    go (Ok u) e = e
    go (Err x) e = absurd (true_false (sym (ap is_ok (judged_refused Err (Ok v) tests e ∙ sym s.same) ∙ ok)))

pub planted_kept : (nodes : List Node) (unused : ℕ) {r : Result ℕ Refusal} {after : List Node} → Plants nodes unused r after → is_ok r ≡ true
    → is_sound after new_count ≡ true
planted_kept nodes unused p e =
    let passed = accepted (new_tests nodes unused) p.says e in
    ap (λ (l : List Node). is_sound l new_count) (p.records ∙ sym (judged_passed _ _ (new_tests nodes unused) passed)) ∙ new_kept nodes unused passed

pub inserted_kept : (nodes : List Node) (count parent action unused : ℕ) {r : Result (ℕ × ℕ) Refusal} {after : List Node}
    → Inserts nodes count parent action unused r after → is_ok r ≡ true → is_sound after (count + 1) ≡ true
inserted_kept nodes count parent action unused i e =
    let passed = accepted (insert_tests nodes count parent action unused) i.says e in
    ap (λ (l : List Node). is_sound l (count + 1)) (i.records ∙ sym (judged_passed _ _ (insert_tests nodes count parent action unused) passed))
    ∙ insert_kept nodes count parent action unused passed

-- ---- two runs of an entry give one answer, and leave the same records

pub one_change : {A : Type 0} {kind : Kind A} {tests : List Test} {answer r s : A} {nodes changed after later : List Node}
    → Changes kind tests answer nodes changed r after → Changes kind tests answer nodes changed s later → (r ≡ s) × (after ≡ later)
one_change a b = (one_answer a.says b.says, a.records ∙ sym b.records)

-- ---- total and refusing: each answer is told by 0 or the number of one of the tests, and a refusal leaves every record

pub changes_refuses : {A : Type 0} {kind : Kind A} {tests : List Test} {answer : A} {nodes changed : List Node}
    → RefusesWhole kind (numbers_in tests) nodes (Changes kind tests answer nodes changed)
changes_refuses {changed = changed} r after w = (number_among w.says, refused_whole w.says changed w.records)
