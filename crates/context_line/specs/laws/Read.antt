-- Laws of what the reader answers: how its tests go, and what the answer tells a caller.
-- Assumes nothing.
use Rattle.std.specs.Prelude.{◌≡◌, refl, Bool, true, false, cond, List, [], ◌∷◌, map, ℕ, ◌≤◌, length, get_or, Option, Some, None, Result, Ok, Err}
use Rattle.std.proofs.Common.{sym, ap, subst, ◌∙◌, arith}
use Rattle.refusal.specs.declared.Refusal.{Refusal}
use Rattle.refusal.specs.declared.Refusal.TheVariants.{MalformedLine}
use Rattle.refusal.specs.Report.{report_of, success}
use Rattle.refusal.specs.Judge.{Test, Checked, pass, judged, checked_of, checks_of, Says, answering}
use Rattle.refusal.specs.Demands.{TellsFirst}
use Rattle.refusal.specs.laws.Judge.{judged_passed, judged_refused, shown}
use Rattle.refusal.specs.laws.Limits.{tells_first}
use Rattle.craft_context.specs.declared.context.CraftContext.{CraftContext}
use Rattle.craft_context.specs.Limits.{ContextIn}
use Rattle.context_line.specs.Shape.{fields, line_shaped, numbers_of, line_test}
use Rattle.context_line.specs.Fields.{word_most, byte_most, context_of, number_limits, number_tests}
use Rattle.context_line.specs.inner.Fields.{word_of}
use Rattle.context_line.specs.inner.Line.{read_of}
use Rattle.context_line.specs.laws.Fields.{passed_taken, numbers_words, passed_words}
use Rattle.context_line.specs.Read.{line_tests}

-- ---- what the code reads a line into, and refusal 12

module _ (line : List ℕ) {r : Option (List ℕ)} (e : r ≡ read_of line) where
  pub read_malformed : r ≡ None → Err MalformedLine ≡ checked_of (line_test line)
  read_malformed n = by (line_shaped line) (sym n ∙ e)
    where
      by : (b : Bool) → None ≡ cond b (Some (numbers_of line)) None → Err MalformedLine ≡ cond b pass (Err MalformedLine)
      by true f = let z : ◌≡◌ {A = ℕ} 0 1 = cc in absurd (omega arith)
      by false f = refl

  module _ {values : List ℕ} (s : r ≡ Some values) where
    pub read_passed : pass ≡ checked_of (line_test line)
    read_passed = by (line_shaped line) (sym s ∙ e)
      where
        by : (b : Bool) → Some values ≡ cond b (Some (numbers_of line)) None → pass ≡ cond b pass (Err MalformedLine)
        by true f = refl
        by false f = let z : ◌≡◌ {A = ℕ} 0 1 = cc in absurd (omega arith)

    pub read_numbers : values ≡ numbers_of line
    read_numbers = by (line_shaped line) (sym s ∙ e)
      where
        by : (b : Bool) → Some values ≡ cond b (Some (numbers_of line)) None → values ≡ numbers_of line
        by true f = cc
        by false f = let z : ◌≡◌ {A = ℕ} 0 1 = cc in absurd (omega arith)

-- ---- what the answer tells a caller

module _ {tests : List Test} {context : CraftContext} where
  -- the answer goes by what the tests answer
  module _ {r : Result CraftContext Refusal} (s : Says answering tests (Ok context) r) where
    when_passed : pass ≡ checks_of tests → r ≡ Ok context
    when_passed p = s.same ∙ sym (judged_passed Err (Ok context) tests p)

    when_refused : {x : Refusal} → Err x ≡ checks_of tests → r ≡ Err x
    when_refused f = s.same ∙ sym (judged_refused Err (Ok context) tests f)

  -- a context is the one that was meant, and every test passed
  pub read_context : {c : CraftContext} → Says answering tests (Ok context) (Ok c) → (c ≡ context) × (pass ≡ checks_of tests)
  read_context {c} s = by (checks_of tests) refl
    where
      by : (k : Checked) → k ≡ checks_of tests → (c ≡ context) × (pass ≡ checks_of tests)
      by (Ok u) e = let same = when_passed s e in (cc, e)
      by (Err x) e = let other = when_refused s e in let z : ◌≡◌ {A = ℕ} 0 1 = cc in absurd (omega arith)

  -- a refusal is that of the first test that failed
  pub read_refused : {x : Refusal} → Says answering tests (Ok context) (Err x) → Err x ≡ checks_of tests
  read_refused {x} s = by (checks_of tests) refl
    where
      by : (k : Checked) → k ≡ checks_of tests → Err x ≡ checks_of tests
      by (Ok u) e = let other = when_passed s e in let z : ◌≡◌ {A = ℕ} 0 1 = cc in absurd (omega arith)
      by (Err y) e = let other = when_refused s e in let same : x ≡ y = cc in ap Err same ∙ e

-- ---- what the u32 that stand for fifteen numbers are read as, the numbers are

module _ (values : List ℕ) (c : length values ≡ fields) (f : get_or values 0 0 ≤ word_most) (g : get_or values 1 0 ≤ word_most) where
  pub words_read : {r : Result CraftContext Refusal} → Says answering (number_tests (map word_of values)) (Ok (context_of (map word_of values))) r
      → Says answering (number_tests values) (Ok (context_of values)) r
  words_read {r} s = by (checks_of (number_tests values)) refl
    where
      same_tests : number_tests (map word_of values) ≡ number_tests values
      same_tests = numbers_words values f g

      by : (k : Checked) → k ≡ checks_of (number_tests values) → Says answering (number_tests values) (Ok (context_of values)) r
      by (Ok u) e = subst (λ (v : List ℕ). Says answering (number_tests v) (Ok (context_of v)) r) (passed_words values c e) s
      by (Err x) e =
          record {
            number = s.number ∙ ap (judged report_of success) same_tests;
            same = when_refused s (e ∙ ap checks_of (sym same_tests)) ∙ judged_refused Err (Ok (context_of values)) (number_tests values) e;
          }

-- ---- what tests that passed have shown

-- of a whole line: its context is inside the limits, and its step_max is a byte
pub line_passed : (line : List ℕ) → pass ≡ checks_of (line_tests line)
    → ContextIn (context_of (numbers_of line)) × ((context_of (numbers_of line)).step_max ≤ byte_most)
unfolding context_of
line_passed line p =
    let s = passed_taken (numbers_of line) (shown (line_test line) (number_tests (numbers_of line)) p refl).1 in
    (s.inside, s.steps)

-- and so is the context of an answer
module _ {c : CraftContext} where
  inside : (values : List ℕ) → c ≡ context_of values → ContextIn (context_of values) → ContextIn c
  inside values e i = subst (λ (x : CraftContext). ContextIn x) (sym e) i

  pub numbers_inside : (values : List ℕ) → Says answering (number_tests values) (Ok (context_of values)) (Ok c) → ContextIn c
  numbers_inside values s = let e = read_context s in inside values e.0 (passed_taken values e.1).inside

  pub line_inside : (line : List ℕ) → Says answering (line_tests line) (Ok (context_of (numbers_of line))) (Ok c) → ContextIn c
  line_inside line s = let e = read_context s in inside (numbers_of line) e.0 (line_passed line e.1).0

-- ---- a refusal by 1 tells the first field outside, whatever is wrong with it

pub numbers_first : (values : List ℕ) → TellsFirst answering.told (number_limits values) (Says answering (number_tests values) (Ok (context_of values)))
numbers_first values = tells_first [] (number_limits values) [] refl refl

pub line_first : (line : List ℕ) → TellsFirst answering.told (number_limits (numbers_of line)) (Says answering (line_tests line) (Ok (context_of (numbers_of line))))
line_first line = tells_first (line_test line ∷ []) (number_limits (numbers_of line)) [] refl refl
