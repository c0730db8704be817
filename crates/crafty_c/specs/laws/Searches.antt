-- The search's answer, told in numbers: what is so of the one is so of the other, that there is one, and by which numbers it refuses.
-- Assumes nothing.
use Rattle.std.specs.Prelude.{◌≡◌, refl, List, [], ◌∷◌, ◌⊎◌, ℕ, Float, Ok, Err}
use Rattle.std.proofs.Common.{sym, ap, subst, ◌∙◌, inl, inr}
use Rattle.refusal.specs.declared.Refusal.{Refusal}
use Rattle.refusal.specs.declared.Refusal.TheVariants.{OutsideLimits}
use Rattle.refusal.specs.declared.Report.{Report}
use Rattle.refusal.specs.Report.{report_of}
use Rattle.refusal.specs.Judge.{Checked, pass, checks_of, Says, answering}
use Rattle.refusal.specs.Demands.{number_of, Among}
use Rattle.refusal.specs.Limits.{FirstOutside}
use Rattle.refusal.specs.laws.Judge.{judged_passed, judged_refused, checks, checks_on_by}
use Rattle.refusal.specs.laws.Demands.{number_among}
use Rattle.refusal.specs.laws.Limits.{refused_outside}
use Rattle.craft_context.specs.declared.context.CraftContext.{CraftContext}
use Rattle.craft_context.specs.laws.Limits.{context_passes}
use Rattle.context_line.specs.Fields.{context_of, number_limits, number_tests}
use Rattle.context_line.specs.laws.Fields.{passed_taken}
use Rattle.context_line.specs.laws.Read.{read_context, read_refused}
use Rattle.tree.specs.declared.node.Node.{Node}
use Rattle.search.specs.declared.options.SearchOptions.{SearchOptions}
use Rattle.search.specs.Search.{asked_tests, Searched, searched_told, searched_of, records_of, room_of, Searches}
use Rattle.search.specs.Demands.{OneOutcomes, RefusesInPart, TellsFirstBesides}
use Rattle.search.specs.laws.Demands.{search_refuses, inside_not_1}
use Rattle.crafty_c.specs.declared.searches.CraftyFound.{CraftyFound}
use Rattle.crafty_c.specs.Searches.{outside_of, told_of, found_told, first_tests, TellsSearched}
use Rattle.crafty_c.specs.inner.Searches.{FindsIn}
use Rattle.crafty_c.specs.laws.Answer.{report_in_lem}

found_number : (c : CraftContext) (r : Searched) → found_told (told_of c r) ≡ searched_told r
found_number c (Ok done) = refl
found_number c (Err done) = report_in_lem done.0

-- ---- the ways out, as the code takes them

pub finds_in : (c : CraftContext) (o : SearchOptions) (logs : List Float) (draws : List ℕ) (nodes : List Node) (out : List ℕ)
    {r : Searched} {after : List Node} {written : List ℕ} → Searches c o logs draws nodes out r after written → {t : CraftyFound} → t ≡ told_of c r
    → FindsIn c o logs draws nodes out t after written
finds_in c o logs draws nodes out s e = record { same = e ∙ ap (told_of c) s.same; records = s.records; room = s.room }

module _ (values : List ℕ) (o : SearchOptions) (logs : List Float) (draws : List ℕ) (nodes : List Node) (out : List ℕ) where
  outside_told : {x : Refusal} → Err x ≡ checks_of (number_tests values) → TellsSearched values o logs draws nodes out (outside_of x) nodes out
  outside_told {x} e =
      let tests = number_tests values in
      record {
        number = report_in_lem x ∙ judged_refused report_of _ tests e;
        same = judged_refused outside_of _ tests e;
        records = judged_refused (λ y. nodes) _ tests e;
        room = judged_refused (λ y. out) _ tests e;
      }

  inside_told : pass ≡ checks_of (number_tests values) → {t : CraftyFound} {after : List Node} {written : List ℕ}
      → FindsIn (context_of values) o logs draws nodes out t after written → TellsSearched values o logs draws nodes out t after written
  inside_told p s =
      let tests = number_tests values in
      record {
        number = ap found_told s.same ∙ found_number (context_of values) (searched_of (context_of values) o logs draws nodes out) ∙ judged_passed report_of _ tests p;
        same = s.same ∙ judged_passed outside_of _ tests p;
        records = s.records ∙ judged_passed (λ y. nodes) _ tests p;
        room = s.room ∙ judged_passed (λ y. out) _ tests p;
      }

  -- no context is read
  pub searched_outside : {x : Refusal} → Says answering (number_tests values) (Ok (context_of values)) (Err x) → {t : CraftyFound} → t ≡ outside_of x
      → TellsSearched values o logs draws nodes out t nodes out
  searched_outside s e = rw e (outside_told (read_refused s))

  -- one is read, and the search in it answers
  pub searched_told_lem : {c : CraftContext} → Says answering (number_tests values) (Ok (context_of values)) (Ok c)
      → {t : CraftyFound} {after : List Node} {written : List ℕ} → FindsIn c o logs draws nodes out t after written
      → TellsSearched values o logs draws nodes out t after written
  searched_told_lem {c} s {t} {after} {written} h =
      let shown = read_context s in
      inside_told shown.1 (subst (λ (x : CraftContext). FindsIn x o logs draws nodes out t after written) shown.0 h)

-- ---- one answer, and the refusals

module _ {values : List ℕ} {o : SearchOptions} {logs : List Float} {draws : List ℕ} {nodes : List Node} {out : List ℕ} where
  pub found_outcomes : OneOutcomes (TellsSearched values o logs draws nodes out)
  found_outcomes r s after later written put a b = (a.same ∙ sym b.same, a.records ∙ sym b.records, a.room ∙ sym b.room)

  pub found_refuses : RefusesInPart found_told (1 ∷ 21 ∷ 6 ∷ 19 ∷ 20 ∷ []) (6 ∷ 19 ∷ 20 ∷ []) (first_tests values o logs nodes) nodes out
      (TellsSearched values o logs draws nodes out)
  found_refuses r after written s = by (checks_of (number_tests values)) refl
    where
      c : CraftContext
      c = context_of values

      by : (k : Checked) → k ≡ checks_of (number_tests values)
          → Among (1 ∷ 21 ∷ 6 ∷ 19 ∷ 20 ∷ []) (found_told r).0
          × (((found_told r).0 ≡ 0 → ⊥) → written ≡ out)
          × ((pass ≡ checks_of (first_tests values o logs nodes) → ⊥) → after ≡ nodes)
          × (Among (6 ∷ 19 ∷ 20 ∷ []) (found_told r).0 ⊎ (after ≡ nodes))
      by (Err x) e =
          let told : found_told r ≡ report_of x = s.number ∙ sym (judged_refused report_of _ (number_tests values) e) in
          let first : Among (1 ∷ []) (number_of x) = number_among (checks (number_tests values) e) in
          let room : written ≡ out = s.room ∙ sym (judged_refused (λ y. out) _ (number_tests values) e) in
          let records : after ≡ nodes = s.records ∙ sym (judged_refused (λ y. nodes) _ (number_tests values) e) in
          (subst (λ (report : Report). Among (1 ∷ 21 ∷ 6 ∷ 19 ∷ 20 ∷ []) report.0) (sym told) (wide first), (λ _. room), (λ _. records), inr records)
        where
          wide : {n : ℕ} → Among (1 ∷ []) n → Among (1 ∷ 21 ∷ 6 ∷ 19 ∷ 20 ∷ []) n
          wide (inl e) = inl e
          wide (inr e) = inr (inr (inr (inr (inr e))))
      by (Ok u) e =
          let told : found_told r ≡ searched_told (searched_of c o logs draws nodes out) = s.number ∙ sym (judged_passed report_of _ (number_tests values) e) in
          let room : written ≡ room_of c o logs draws nodes out = s.room ∙ sym (judged_passed (λ y. out) _ (number_tests values) e) in
          let records : after ≡ records_of c o logs draws nodes out = s.records ∙ sym (judged_passed (λ y. nodes) _ (number_tests values) e) in
          let inner = search_refuses (searched_of c o logs draws nodes out) (records_of c o logs draws nodes out) (room_of c o logs draws nodes out)
          (record { number = refl; same = refl; records = refl; room = refl }) in (
            subst (λ (report : Report). Among (1 ∷ 21 ∷ 6 ∷ 19 ∷ 20 ∷ []) report.0) (sym told) inner.0,
            (λ no. room ∙ inner.1 (λ z. no (ap (λ (report : Report). report.0) told ∙ z))),
            (λ no. records ∙ inner.2 (λ p. no (checks_on_by (number_tests values) (asked_tests nodes logs c o) e refl p))),
            later inner.3,
          )
        where
          later : Among (6 ∷ 19 ∷ 20 ∷ []) (searched_told (searched_of c o logs draws nodes out)).0 ⊎ (records_of c o logs draws nodes out ≡ nodes)
              → Among (6 ∷ 19 ∷ 20 ∷ []) (found_told r).0 ⊎ (after ≡ nodes)
          later (inl a) = inl (subst (λ (report : Report). Among (6 ∷ 19 ∷ 20 ∷ []) report.0) (sym (s.number ∙ sym (judged_passed report_of _ (number_tests values) e))) a)
          later (inr same) = inr (s.records ∙ sym (judged_passed (λ y. nodes) _ (number_tests values) e) ∙ same)

-- ---- refusal 1 comes of the numbers alone: its value is the first field outside, and all else is 0

pub outside_zero : (values : List ℕ) (o : SearchOptions) (logs : List Float) (draws : List ℕ) (nodes : List Node) (out : List ℕ)
    {r : CraftyFound} {after : List Node} {written : List ℕ} → TellsSearched values o logs draws nodes out r after written → r.number ≡ 1
    → FirstOutside (number_limits values) r.value × (r ≡ outside_of (OutsideLimits r.value))
outside_zero values o logs draws nodes out {r} s one = by (checks_of (number_tests values)) refl
  where
    c : CraftContext
    c = context_of values

    by : (k : Checked) → k ≡ checks_of (number_tests values)
        → FirstOutside (number_limits values) r.value × (r ≡ outside_of (OutsideLimits r.value))
    by (Err x) e =
        let o = refused_outside (number_limits values) e in
        let same : r ≡ outside_of (OutsideLimits o.place) =
        s.same ∙ sym (judged_refused outside_of _ (number_tests values) e) ∙ ap outside_of o.told
        in
        let place : o.place ≡ r.value = sym (ap (λ (found : CraftyFound). found.value) same) in
        (subst (FirstOutside (number_limits values)) place o.first, same ∙ ap (λ (p : ℕ). outside_of (OutsideLimits p)) place)
    by (Ok u) e =
        let told : found_told r ≡ searched_told (searched_of c o logs draws nodes out) = s.number ∙ sym (judged_passed report_of _ (number_tests values) e) in
        let inside = context_passes c (passed_taken values e).inside in
        let whole : Searches c o logs draws nodes out (searched_of c o logs draws nodes out) (records_of c o logs draws nodes out) (room_of c o logs draws nodes out) =
        record { number = refl; same = refl; records = refl; room = refl }
        in
        absurd (inside_not_1 c o logs draws nodes out (sym inside) whole (sym (ap (λ (report : Report). report.0) told) ∙ one))

pub found_first : (values : List ℕ) (o : SearchOptions) (logs : List Float) (draws : List ℕ) (nodes : List Node) (out : List ℕ)
    → TellsFirstBesides found_told (number_limits values) (TellsSearched values o logs draws nodes out)
found_first values o logs draws nodes out after written r s one =
    let zero = outside_zero values o logs draws nodes out s one in
    record { place = r.value; told = ap found_told zero.1; first = zero.0 }
