-- The entry's statement has one answer, and by which numbers it refuses: 1, 21 and 6 with nothing written, and then 6, 19 and 20 with no path written.
-- Assumes nothing.
use Rattle.std.specs.Prelude.{◌≡◌, ℕ, ◌⊎◌, List, [], ◌∷◌, length, ◌≢◌, refl, Float, Ok, Err}
use Rattle.std.proofs.Common.{sym, ap, subst, ◌∙◌, inl, inr, arith}
use Rattle.refusal.specs.declared.Refusal.{Refusal}
use Rattle.refusal.specs.Judge.{Test, Checked, pass, checks_of, room_test}
use Rattle.refusal.specs.Demands.{number_of, Among, TellsPlace}
use Rattle.refusal.specs.laws.Judge.{stops, checks, checks_on_by}
use Rattle.refusal.specs.laws.Demands.{number_among}
use Rattle.refusal.specs.laws.Limits.{outside_told}
use Rattle.craft_context.specs.declared.context.CraftContext.{CraftContext}
use Rattle.craft_context.specs.Limits.{context_limits, context_tests}
use Rattle.tree.specs.declared.node.Node.{Node}
use Rattle.tree.specs.Refusals.{new_count}
use Rattle.search.specs.declared.options.SearchOptions.{SearchOptions}
use Rattle.search.specs.Options.{search_test}
use Rattle.search.specs.Search.{no_progress, asked_tests, Searched, searched_told, Searches}
use Rattle.search.specs.Demands.{OneOutcomes, RefusesInPart, TellsFirstBesides}
use Rattle.search.specs.laws.Answer.{Away, Stopped, Whole, ways}

-- the numbers of the first tests, and those of what comes later, are among all
first_among : {n : ℕ} → Among (1 ∷ 21 ∷ 6 ∷ []) n → Among (1 ∷ 21 ∷ 6 ∷ 19 ∷ 20 ∷ []) n
first_among (inl e) = inl e
first_among (inr (inl e)) = inr (inl e)
first_among (inr (inr (inl e))) = inr (inr (inl e))
first_among (inr (inr (inr e))) = inr (inr (inr (inr (inr e))))

first_number : (c : CraftContext) (o : SearchOptions) (logs : List Float) (nodes : List Node) {x : Refusal}
    → Err x ≡ checks_of (asked_tests nodes logs c o) → Among (1 ∷ 21 ∷ 6 ∷ []) (number_of x)
first_number c o logs nodes e = number_among (checks (asked_tests nodes logs c o) e)

module _ {c : CraftContext} {o : SearchOptions} {logs : List Float} {draws : List ℕ} {nodes : List Node} {out : List ℕ} where
  pub search_outcomes : OneOutcomes (Searches c o logs draws nodes out)
  search_outcomes r s after later written put a b = (a.same ∙ sym b.same, a.records ∙ sym b.records, a.room ∙ sym b.room)

  pub search_refuses : RefusesInPart searched_told (1 ∷ 21 ∷ 6 ∷ 19 ∷ 20 ∷ []) (6 ∷ 19 ∷ 20 ∷ []) (asked_tests nodes logs c o) nodes out
      (Searches c o logs draws nodes out)
  search_refuses r after written s = go (ways c o logs draws nodes out s)
    where
      number : {q : Searched} → r ≡ q → (searched_told q).0 ≡ (searched_told r).0
      number e = ap (λ (q : Searched). (searched_told q).0) (sym e)

      go : Away c o logs draws nodes out r after written ⊎ (Stopped c o logs draws nodes out r after written ⊎ Whole c o logs draws nodes out r after written)
          → Among (1 ∷ 21 ∷ 6 ∷ 19 ∷ 20 ∷ []) (searched_told r).0
          × (((searched_told r).0 ≢ 0) → written ≡ out)
          × ((pass ≢ checks_of (asked_tests nodes logs c o)) → after ≡ nodes)
          × (Among (6 ∷ 19 ∷ 20 ∷ []) (searched_told r).0 ⊎ (after ≡ nodes))
      go (inl a) =
          let is : Among (1 ∷ 21 ∷ 6 ∷ 19 ∷ 20 ∷ []) (searched_told r).0 = subst (Among (1 ∷ 21 ∷ 6 ∷ 19 ∷ 20 ∷ [])) (number a.answer) (first_among (first_number c o logs nodes a.failed)) in
          (is, (λ _. a.room), (λ _. a.records), inr a.records)
      go (inr (inl a)) =
          let is : Among (6 ∷ 19 ∷ 20 ∷ []) (searched_told r).0 = subst (Among (6 ∷ 19 ∷ 20 ∷ [])) (number a.answer) a.late in
          (inr (inr is), (λ _. a.room), (λ no. absurd (no a.passed)), inl is)
      go (inr (inr a)) =
          let is : (searched_told r).0 ≡ 0 = sym (number a.answer) in
          (inr (inr (inr (inr (inr is)))), (λ no. absurd (no is)), (λ no. absurd (no a.passed)), inl (inr (inr (inr is))))

-- ---- a context inside its limits is never refused by 1

inside_first : (c : CraftContext) (o : SearchOptions) (logs : List Float) (nodes : List Node) {x : Refusal} → pass ≡ checks_of (context_tests c)
    → Err x ≡ checks_of (asked_tests nodes logs c o) → Among (21 ∷ 6 ∷ []) (number_of x)
inside_first c o logs nodes p e =
    let rest = search_test logs o c.step_max ∷ room_test (length nodes) new_count ∷ [] in
    number_among (checks rest (e ∙ sym (checks_on_by (context_tests c) rest p refl refl)))

pub inside_number : (c : CraftContext) (o : SearchOptions) (logs : List Float) (draws : List ℕ) (nodes : List Node) (out : List ℕ) → pass ≡ checks_of (context_tests c)
    → {r : Searched} {after : List Node} {written : List ℕ} → Searches c o logs draws nodes out r after written → Among (21 ∷ 6 ∷ 19 ∷ 20 ∷ []) (searched_told r).0
inside_number c o logs draws nodes out p {r} {after} {written} s = go (ways c o logs draws nodes out s)
  where
    told : {q : Searched} → r ≡ q → Among (21 ∷ 6 ∷ 19 ∷ 20 ∷ []) (searched_told q).0 → Among (21 ∷ 6 ∷ 19 ∷ 20 ∷ []) (searched_told r).0
    told e a = subst (λ (q : Searched). Among (21 ∷ 6 ∷ 19 ∷ 20 ∷ []) (searched_told q).0) (sym e) a

    first : {n : ℕ} → Among (21 ∷ 6 ∷ []) n → Among (21 ∷ 6 ∷ 19 ∷ 20 ∷ []) n
    first (inl e) = inl e
    first (inr (inl e)) = inr (inl e)
    first (inr (inr e)) = inr (inr (inr (inr e)))

    go : Away c o logs draws nodes out r after written ⊎ (Stopped c o logs draws nodes out r after written ⊎ Whole c o logs draws nodes out r after written)
        → Among (21 ∷ 6 ∷ 19 ∷ 20 ∷ []) (searched_told r).0
    go (inl a) = told a.answer (first (inside_first c o logs nodes p a.failed))
    go (inr (inl a)) = told a.answer (inr a.late)
    go (inr (inr a)) = told a.answer (inr (inr (inr (inr refl))))

never_1 : {n : ℕ} → Among (21 ∷ 6 ∷ 19 ∷ 20 ∷ []) n → n ≢ 1
never_1 (inl e) one = omega arith
never_1 (inr (inl e)) one = omega arith
never_1 (inr (inr (inl e))) one = omega arith
never_1 (inr (inr (inr (inl e)))) one = omega arith
never_1 (inr (inr (inr (inr e)))) one = omega arith

pub inside_not_1 : (c : CraftContext) (o : SearchOptions) (logs : List Float) (draws : List ℕ) (nodes : List Node) (out : List ℕ) → pass ≡ checks_of (context_tests c)
    → {r : Searched} {after : List Node} {written : List ℕ} → Searches c o logs draws nodes out r after written → (searched_told r).0 ≢ 1
inside_not_1 c o logs draws nodes out p s one = never_1 (inside_number c o logs draws nodes out p s) one

-- so refusal 1 tells the context's first field outside
pub search_first : (c : CraftContext) (o : SearchOptions) (logs : List Float) (draws : List ℕ) (nodes : List Node) (out : List ℕ)
    → TellsFirstBesides searched_told (context_limits c) (Searches c o logs draws nodes out)
search_first c o logs draws nodes out after written r s one = by (checks_of (context_tests c)) refl
  where
    rest : List Test
    rest = search_test logs o c.step_max ∷ room_test (length nodes) new_count ∷ []

    by : (k : Checked) → k ≡ checks_of (context_tests c) → TellsPlace (context_limits c) (searched_told r)
    by (Ok u) e = absurd (inside_not_1 c o logs draws nodes out e s one)
    by (Err x) e =
        outside_told (context_limits c) e (s.number ∙ sym (ap searched_told (stops (λ y. Err (y, no_progress)) _ rest (context_tests c) e)))
