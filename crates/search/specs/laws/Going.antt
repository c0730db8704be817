-- The loop over the iterations: it stands where the definition's recursion does, the records are those of a search with their index, and what is left to do is
-- what the definition has left; one iteration more, and the end of it.
-- Assumes nothing.
use Rattle.std.specs.Prelude.{◌≡◌, ℕ, suc, ◌+◌, ◌-◌, ◌*◌, ◌<◌, ◌≤◌, List, length, replicate, Float, Result, Ok, Err}
use Rattle.std.proofs.Math.Path.{refl}
use Rattle.std.proofs.Common.{sym, ap, ◌∙◌, arith}
use Rattle.refusal.specs.declared.Refusal.{Refusal}
use Rattle.refusal.specs.Judge.{pass}
use Rattle.craft_context.specs.declared.context.CraftContext.{CraftContext}
use Rattle.tree.specs.declared.node.Node.{Node}
use Rattle.search.specs.declared.options.SearchOptions.{SearchOptions}
use Rattle.search.specs.declared.iterate.Turned.{Turned}
use Rattle.search.specs.declared.entry.Progress.{Progress}
use Rattle.search.specs.Iterate.{Growth, Turn, Goes, Stops, iterate_of}
use Rattle.search.specs.Search.{Outcome, on_turn, grow_from}
use Rattle.search.specs.inner.Links.{linked, Links}
use Rattle.search.specs.inner.Ready.{Ready, turned_of, records_after, count_after, Turns, Started, outcome_from, GrowsTo}
use Rattle.search.specs.laws.Asked.{Asked}
use Rattle.search.specs.laws.Planted.{planted_growing, planted_visited}
use Rattle.search.specs.laws.Links.{links_none}
use Rattle.search.specs.laws.Iterate.{Grows, iterate_place, iterate_grows}

module _ (c : CraftContext) (o : SearchOptions) (logs : List Float) (draws : List ℕ) (nodes : List Node) where
  -- where the loop stands
  abbrev here : Progress → List Node → Growth
  here done now = record { nodes = now; count = done.records; at = done.draws }

  pub record Going (done : Progress) (i : ℕ) (now : List Node) (links : List ℕ) : Type 0 where
    pub asked : Asked c o logs
    pub counted : done.iterations ≡ i
    pub grows : Grows c (here done now) i
    pub place : done.draws ≤ length draws
    pub index : Links now done.records links
    pub rest : outcome_from c o logs draws nodes ≡ grow_from c o logs draws (o.iterations - i) (here done now) i

  pub going_first : Started c o logs nodes → {links : List ℕ} (n : ℕ) → links ≡ replicate n 0 → n ≡ 2 * linked
      → Going (record { iterations = 0; records = 1; draws = 0 }) 0 nodes links
  going_first st n f room =
      rw f
      (record {
        asked = st.asked;
        counted = refl;
        grows = rw st.planted (record { growing = planted_growing c st.before st.some; visited = planted_visited c st.before st.some });
        place = omega arith;
        index = links_none nodes n room;
        rest = let all : o.iterations - 0 ≡ o.iterations = omega arith in rw all;
      })

  module _ {done : Progress} {i : ℕ} {now : List Node} {links : List ℕ} (g : Going done i now links) where
    module _ (less : i < o.iterations) where
      pub going_ready : Ready c o logs now done.records links
      going_ready =
          record {
            done = i;
            asked = g.asked;
            growing = g.grows.growing;
            visited = g.grows.visited;
            few = omega (arith, g.asked.iterations);
            index = g.index;
          }

      -- one iteration more
      abbrev after : Turn → Outcome
      after t =
          on_turn (λ next. grow_from c o logs draws (o.iterations - (i + 1)) next (i + 1)) (λ x. record { growth = here done now; iterations = i; checked = Err x }) t

      turned : outcome_from c o logs draws nodes ≡ after (iterate_of c o logs draws (here done now))
      unfolding grow_from
      turned = let more : o.iterations - i ≡ suc (o.iterations - (i + 1)) = omega arith in g.rest ∙ rw more

      module _ {r : Result Turned Refusal} {later : List Node} {index : List ℕ}
          (turns : Turns now done.records (iterate_of c o logs draws (here done now)) r later index) where
        pub going_on : {t : Turned} → r ≡ Ok t → Going (record { iterations = i + 1; records = t.count; draws = t.at }) (i + 1) later index
        going_on {t} is = go (iterate_of c o logs draws (here done now)) refl (sym turns.answer ∙ is) turns.records turns.links
          where
            go : (turn : Turn) → iterate_of c o logs draws (here done now) ≡ turn → turned_of turn ≡ Ok t → later ≡ records_after now turn
                → Links later (count_after done.records turn) index → Going (record { iterations = i + 1; records = t.count; draws = t.at }) (i + 1) later index
            go (Goes next) q a r kept =
                let one = iterate_grows c o logs draws (here done now) i g.asked g.grows (omega (arith, g.asked.iterations)) q in
                let same : ◌≡◌ {A = Turned} (record { count = next.count; at = next.at }) t = cc in
                rw (← same, r)
                (record {
                  asked = g.asked;
                  counted = refl;
                  grows = one.0;
                  place = iterate_place c o logs draws (here done now) q g.place;
                  index = rw r at kept;
                  rest = turned ∙ ap after q;
                })
            go (Stops x) q a r kept = cc

        pub going_stops : {x : Refusal} → r ≡ Err x → GrowsTo c o logs draws nodes (Err (x, done)) later
        going_stops {x} is = go (iterate_of c o logs draws (here done now)) refl (sym turns.answer ∙ is) turns.records
          where
            go : (turn : Turn) → iterate_of c o logs draws (here done now) ≡ turn → turned_of turn ≡ Err x → later ≡ records_after now turn
                → GrowsTo c o logs draws nodes (Err (x, done)) later
            go (Goes next) q a r = cc
            go (Stops y) q a r =
                let same : y ≡ x = cc in
                let ends : outcome_from c o logs draws nodes ≡ record { growth = here done now; iterations = i; checked = Err y } = turned ∙ ap after q in
                record { answer = rw (ends, same, ← g.counted) refl; records = rw (ends, r) refl }

    -- all of them were done
    pub going_ends : o.iterations ≤ i → GrowsTo c o logs draws nodes (Ok done) now
    unfolding grow_from
    going_ends over =
        let none : o.iterations - i ≡ 0 = omega arith in
        let ends : outcome_from c o logs draws nodes ≡ record { growth = here done now; iterations = i; checked = pass } = g.rest ∙ rw none in
        record { answer = rw (ends, ← g.counted) refl; records = rw ends refl }
