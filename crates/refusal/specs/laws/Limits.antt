-- Laws of refusal 1, over any fields: its place is that of the first field outside its limit, and of no other.
-- Assumes nothing.
use Rattle.std.specs.Prelude.{◌≡◌, refl, Bool, true, false, cond, List, [], ◌∷◌, ◌++◌, ℕ, zero, suc, ◌+◌, ◌<◌, eqb, get_or, Ok, Err, Some}
use Rattle.std.proofs.Common.{sym, ap, subst, ◌∙◌, arith}
use Rattle.refusal.specs.declared.Refusal.{Refusal}
use Rattle.refusal.specs.declared.Refusal.TheVariants.{OutsideLimits}
use Rattle.refusal.specs.declared.Report.{Report}
use Rattle.refusal.specs.Report.{report_of, success}
use Rattle.refusal.specs.Judge.{Test, judged, Checked, pass, checks_of, Kind, Says}
use Rattle.refusal.specs.Demands.{number_of, TellsPlace, TellsFirst}
use Rattle.refusal.specs.Limits.{limits_from, limit_tests, FirstOutside}
use Rattle.refusal.specs.laws.Judge.{refused_passed, stops, passes, judged_passed, judged_refused, shown}

-- ---- THE law of the tests in order: what they refuse tells the first field outside

-- of the fields from the k-th on
record Met (first k : ℕ) (fields : List Bool) (x : Refusal) : Type 0 where
  further : ℕ
  told : x ≡ OutsideLimits (first + (k + further))
  there : FirstOutside fields further

met : (first k : ℕ) (fields : List Bool) {x : Refusal} → Err x ≡ checks_of (limits_from first k fields) → Met first k fields x
unfolding judged
met first k [] e = absurd (refused_passed e)
met first k (false ∷ more) {x} e =
    let same : x ≡ OutsideLimits (first + k) = cc in
    record { further = 0; told = same ∙ ap OutsideLimits (omega arith); there = record { outside = refl; before = λ j h. absurd (omega arith) } }
met first k (true ∷ more) {x} e = after (met first (k + 1) more e)
  where
    after : Met first (k + 1) more x → Met first k (true ∷ more) x
    after m =
        record {
          further = suc m.further;
          told = m.told ∙ ap OutsideLimits (omega arith);
          there = record { outside = m.there.outside; before = earlier };
        }
      where
        earlier : (j : ℕ) → j < suc m.further → get_or (true ∷ more) j true ≡ true
        earlier zero h = refl
        earlier (suc j) h = m.there.before j (omega arith)

-- so they refuse by 1 alone
pub record Outside (fields : List Bool) (x : Refusal) : Type 0 where
  pub place : ℕ
  pub told : x ≡ OutsideLimits place
  pub first : FirstOutside fields place

pub refused_outside : (fields : List Bool) {x : Refusal} → Err x ≡ checks_of (limit_tests fields) → Outside fields x
refused_outside fields e =
    let m = met 0 0 fields e in
    record { place = m.further; told = m.told ∙ ap OutsideLimits (omega arith); first = m.there }

pub first_outside : (fields : List Bool) {place : ℕ} → Err (OutsideLimits place) ≡ checks_of (limit_tests fields) → FirstOutside fields place
first_outside fields {place} e =
    let o = refused_outside fields e in
    let value : Some o.place ≡ Some place = sym (ap (λ (x : Refusal). (report_of x).1) o.told) in
    let same : o.place ≡ place = cc in
    subst (FirstOutside fields) same o.first

-- and so does a report of what they refuse
pub outside_told : (fields : List Bool) {x : Refusal} {report : Report} → Err x ≡ checks_of (limit_tests fields) → report ≡ report_of x → TellsPlace fields report
outside_told fields e told =
    let o = refused_outside fields e in
    record { place = o.place; told = told ∙ ap report_of o.told; first = o.first }

true_false : true ≡ false → ⊥
true_false e = let z : ◌≡◌ {A = ℕ} 0 1 = cc in omega arith

-- and where a field is the first outside, they refuse by its place
from_refused : (first k : ℕ) (fields : List Bool) (further : ℕ) → FirstOutside fields further
    → Err (OutsideLimits (first + (k + further))) ≡ checks_of (limits_from first k fields)
unfolding judged
from_refused first k [] further o = absurd (true_false o.outside)
from_refused first k (false ∷ more) zero o = ap (λ (p : ℕ). Err (OutsideLimits p)) (omega arith)
from_refused first k (false ∷ more) (suc j) o = absurd (true_false (sym (o.before 0 (omega arith))))
from_refused first k (true ∷ more) zero o = absurd (true_false o.outside)
from_refused first k (true ∷ more) (suc j) o =
    ap (λ (p : ℕ). Err (OutsideLimits p)) (omega arith)
    ∙ from_refused first (k + 1) more j (record { outside = o.outside; before = λ i h. o.before (suc i) (omega arith) })

pub outside_first : (fields : List Bool) {place : ℕ} → FirstOutside fields place → Err (OutsideLimits place) ≡ checks_of (limit_tests fields)
outside_first fields {place} o = ap (λ (p : ℕ). Err (OutsideLimits p)) (omega arith) ∙ from_refused 0 0 fields place o

-- where they pass, every field is inside
from_inside : (first k : ℕ) (fields : List Bool) → pass ≡ checks_of (limits_from first k fields) → (j : ℕ) → get_or fields j true ≡ true
from_inside first k [] p j = refl
from_inside first k (inside ∷ more) p zero = (shown _ _ p refl).0
from_inside first k (inside ∷ more) p (suc j) = from_inside first (k + 1) more (shown _ _ p refl).1 j

pub all_inside : (fields : List Bool) → pass ≡ checks_of (limit_tests fields) → (k : ℕ) → get_or fields k true ≡ true
all_inside fields p = from_inside 0 0 fields p

-- ---- the same of an entry, which may have other tests before and after

-- tests that refuse by other numbers
abbrev pub by_others : List Test → Bool
by_others [] = true
by_others (t ∷ more) = cond (eqb (number_of t.otherwise) 1) false (by_others more)

others_refuse : (tests : List Test) → by_others tests ≡ true → {x : Refusal} → Err x ≡ checks_of tests → number_of x ≡ 1 → ⊥
unfolding judged
others_refuse [] o e one = refused_passed e
others_refuse (t ∷ more) o {x} e one = by t.passed (eqb (number_of t.otherwise) 1) refl o (λ o f. others_refuse more o f one) e
  where
    by : (b c : Bool) → eqb (number_of t.otherwise) 1 ≡ c → cond c false (by_others more) ≡ true
        → (by_others more ≡ true → Err x ≡ checks_of more → ⊥) → Err x ≡ cond b (checks_of more) (Err t.otherwise) → ⊥
    by b true n o later f = true_false (sym o)
    by true false n o later f = later o f
    by false false n o later f =
        let same : x ≡ t.otherwise = cc in
        true_false (sym (ap (λ (k : ℕ). eqb k 1) (ap number_of (sym same) ∙ one)) ∙ n)

module _ {A : Type 0} {kind : Kind A} {answer : A} (before : List Test) (fields : List Bool) (after : List Test) where
  -- refusal 1 tells the first field outside
  pub tells_first : by_others before ≡ true → by_others after ≡ true → TellsFirst kind.told fields (Says kind (before ++ (limit_tests fields ++ after)) answer)
  tells_first b a r s one = first (checks_of before) refl
    where
      number : Report → ℕ
      number report = report.0

      -- what the tests from somewhere on answer is told
      Told : List Test → Type 0
      Told tests = kind.told r ≡ judged report_of success tests

      last : (c : Checked) → c ≡ checks_of after → Told after → ⊥
      last (Ok u) e t = let z : ◌≡◌ {A = ℕ} 0 1 = ap number (judged_passed report_of success after e ∙ sym t) ∙ one in omega arith
      last (Err x) e t = others_refuse after a e (ap number (judged_refused report_of success after e ∙ sym t) ∙ one)

      then : (c : Checked) → c ≡ checks_of (limit_tests fields) → Told (limit_tests fields ++ after) → TellsPlace fields (kind.told r)
      then (Ok u) e t = absurd (last (checks_of after) refl (t ∙ sym (passes report_of success after (limit_tests fields) e)))
      then (Err x) e t = outside_told fields e (t ∙ sym (stops report_of success after (limit_tests fields) e))

      first : (c : Checked) → c ≡ checks_of before → TellsPlace fields (kind.told r)
      first (Ok u) e = then (checks_of (limit_tests fields)) refl (s.number ∙ sym (passes report_of success (limit_tests fields ++ after) before e))
      first (Err x) e =
          absurd (others_refuse before b e (ap number (stops report_of success (limit_tests fields ++ after) before e ∙ sym s.number) ∙ one))

  -- and where the tests before pass, the first field outside is told
  pub first_told : {r : A} {place : ℕ} → Says kind (before ++ (limit_tests fields ++ after)) answer r → pass ≡ checks_of before → FirstOutside fields place
      → kind.told r ≡ report_of (OutsideLimits place)
  first_told s p o =
      s.number
      ∙ sym (passes report_of success (limit_tests fields ++ after) before p)
      ∙ sym (stops report_of success after (limit_tests fields) (outside_first fields o))
