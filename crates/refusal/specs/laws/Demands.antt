-- Laws of what document 01 asks of every public entry, over any kind and any tests: one answer, total and refusing.
-- Assumes nothing.
use Rattle.std.specs.Prelude.{◌≡◌, refl, Bool, true, false, cond, List, [], ◌∷◌, ℕ, eqb, Ok, Err}
use Rattle.std.proofs.Common.{sym, ap, subst, ◌∙◌, inl, inr, arith, eqb-true}
use Rattle.refusal.specs.declared.Refusal.{Refusal}
use Rattle.refusal.specs.declared.Refusal.TheVariants as X
use Rattle.refusal.specs.declared.Report.{Report}
use Rattle.refusal.specs.Report.{report_of, success}
use Rattle.refusal.specs.Judge.{Test, judged, Checked, checks_of, Kind, Says, Writes}
use Rattle.refusal.specs.Demands.{Settled, accepts, refuses, number_of, put_first, numbers_in, Among, Refuses, RefusesWhole}
use Rattle.refusal.specs.laws.Judge.{judged_passed, judged_refused}

-- ---- THE theorem, total and refusing

settled : (tests : List Test) → Settled tests (judged report_of success tests)
unfolding judged
settled [] = accepts refl refl
settled (t ∷ rest) = by t.passed refl (settled rest)
  where
    by : (b : Bool) → t.passed ≡ b → Settled rest (judged report_of success rest)
        → Settled (t ∷ rest) (cond b (judged report_of success rest) (report_of t.otherwise))
    by true e (accepts p s) = accepts (rw e p) s
    by true e (refuses f s) =
        refuses
        (record { before = t ∷ f.before; test = f.test; after = f.after; place = ap (t ∷◌) f.place; passed = rw e f.passed; failed = f.failed })
        s
    by false e later = refuses (record { before = []; test = t; after = rest; place = refl; passed = refl; failed = e }) refl

pub total_refusing : {A : Type 0} {kind : Kind A} {tests : List Test} {answer r : A} → Says kind tests answer r → Settled tests (kind.told r)
total_refusing {tests = tests} s = subst (Settled tests) (sym s.number) (settled tests)

-- no refusal is told by 0, so 0 is told where every test passed, and there only
pub refusal_is_not_0 : (x : Refusal) → number_of x ≡ 0 → ⊥
refusal_is_not_0 (X.OutsideLimits place) e = omega arith
refusal_is_not_0 X.StateOutOfRange e = omega arith
refusal_is_not_0 (X.UnknownAction place) e = omega arith
refusal_is_not_0 X.IllegalAction e = omega arith
refusal_is_not_0 (X.UnknownWord offset) e = omega arith
refusal_is_not_0 (X.NoRoom needed) e = omega arith
refusal_is_not_0 X.UnsoundTree e = omega arith
refusal_is_not_0 X.UnknownNode e = omega arith
refusal_is_not_0 X.NotAbove e = omega arith
refusal_is_not_0 X.BadScore e = omega arith
refusal_is_not_0 X.VisitsFull e = omega arith
refusal_is_not_0 X.MalformedLine e = omega arith
refusal_is_not_0 X.TooLong e = omega arith
refusal_is_not_0 X.NoDraw e = omega arith
refusal_is_not_0 X.DrawTooHigh e = omega arith
refusal_is_not_0 X.BadSearch e = omega arith

-- ---- the number is one of the tests'

first_has : (n : ℕ) (numbers : List ℕ) → Among (put_first n numbers) n
first_has n [] = inl refl
first_has n (m ∷ more) = by (eqb n m) refl
  where
    by : (b : Bool) → eqb n m ≡ b → Among (cond b (m ∷ more) (n ∷ m ∷ more)) n
    by true e = inl (eqb-true n m e)
    by false e = inl refl

first_keeps : (m : ℕ) (numbers : List ℕ) (n : ℕ) → Among numbers n → Among (put_first m numbers) n
first_keeps m [] n a = inr a
first_keeps m (k ∷ more) n a = by (eqb m k)
  where
    by : (b : Bool) → Among (cond b (k ∷ more) (m ∷ k ∷ more)) n
    by true = a
    by false = inr a

among : (tests : List Test) → Among (numbers_in tests) (judged report_of success tests).0
unfolding judged
among [] = refl
among (t ∷ rest) = by t.passed (among rest)
  where
    by : (b : Bool) → Among (numbers_in rest) (judged report_of success rest).0
        → Among (numbers_in (t ∷ rest)) (cond b (judged report_of success rest) (report_of t.otherwise)).0
    by true later = first_keeps (number_of t.otherwise) (numbers_in rest) _ later
    by false later = first_has (number_of t.otherwise) (numbers_in rest)

module _ {A : Type 0} {kind : Kind A} {tests : List Test} {answer r : A} (s : Says kind tests answer r) where
  pub number_among : Among (numbers_in tests) (kind.told r).0
  number_among = subst (λ (report : Report). Among (numbers_in tests) report.0) (sym s.number) (among tests)

  -- a refusal leaves what was lent, whatever it is
  pub refused_whole : {B : Type 0} {lent after : B} (changed : B) → after ≡ judged (λ x. lent) changed tests → ((kind.told r).0 ≡ 0 → ⊥)
      → after ≡ lent
  refused_whole {B} {lent} {after} changed e n = by (checks_of tests) refl
    where
      by : (c : Checked) → c ≡ checks_of tests → after ≡ lent
      by (Ok u) p = absurd (n (ap (λ (report : Report). report.0) (s.number ∙ sym (judged_passed report_of success tests p))))
      by (Err x) f = e ∙ sym (judged_refused (λ y. lent) changed tests f)

-- ---- the same of a statement: each answer that meets it, and what it leaves in a lent room

module _ {A : Type 0} {kind : Kind A} {tests : List Test} {answer : A} where
  pub says_refuses : Refuses kind (numbers_in tests) (Says kind tests answer)
  says_refuses r s = number_among s

  pub writes_refuses : {out written : List ℕ} → RefusesWhole kind (numbers_in tests) out (Writes kind tests answer out written)
  writes_refuses {out} {written} r after w = (number_among w.says, refused_whole w.says written w.room)
