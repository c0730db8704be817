-- Each draw that is told as used was used: with fewer of them the iteration that wants the next is refused by 19. With `search_draws`, that more change nothing,
-- the number told is the one that the definition consumes.
-- Assumes nothing.
use Rattle.std.specs.Prelude.{◌≡◌, ℕ, zero, suc, ◌+◌, ◌-◌, ◌<◌, ◌≤◌, Bool, true, false, List, length, take, drop, nat_lt, Float, Err}
use Rattle.std.proofs.Math.Path.{refl, ap}
use Rattle.std.proofs.Common.{sym, ◌∙◌, take-take, ltb-true, ltb-false}
use native.Mathlib.Omega.{arith}
use Rattle.refusal.specs.declared.Refusal.TheVariants.{NoDraw}
use Rattle.refusal.specs.Judge.{pass}
use Rattle.refusal.specs.laws.Judge.{refused_passed}
use Rattle.craft_context.specs.declared.context.CraftContext.{CraftContext}
use Rattle.rollout.specs.Rollout.{rolled_from}
use Rattle.rollout.specs.laws.RolledSampled.{rolled}
use Rattle.tree.specs.declared.node.Node.{Node}
use Rattle.search.specs.declared.options.SearchOptions.{SearchOptions}
use Rattle.search.specs.Options.{iterations_most}
use Rattle.search.specs.Iterate.{Growth, Turn, Goes, Stops, selected_state, unused_of, turn_by, iterate_of}
use Rattle.search.specs.Search.{Outcome, on_turn, grow_from, start_growth, grow_of}
use Rattle.search.specs.laws.Asked.{Asked}
use Rattle.search.specs.laws.Iterate.{Grows, accepted, drop_take, iterate_draws, iterate_grows}
use Rattle.search.specs.laws.Search.{start_grows}

module _ (c : CraftContext) (o : SearchOptions) (logs : List Float) (draws : List ℕ) where
  pub iterate_fewer : (g : Growth) {next : Growth} → iterate_of c o logs draws g ≡ Goes next → (n : ℕ) → g.at ≤ n → n < next.at
      → iterate_of c o logs (take n draws) g ≡ Stops NoDraw
  unfolding iterate_of
  iterate_fewer g {next} e n from below =
      let a = accepted c o logs draws g e in
      let s = selected_state c o logs draws g in
      let unused : ℕ = unused_of c o logs draws g in
      let r = rolled c s unused g.at (drop g.at draws) a.result a.end a.rolls in
      let ends : next.at ≡ a.end = ap (λ (h : Growth). h.at) a.same in
      let is : g.at + (n - g.at) ≡ n = omega arith in
      let left : drop g.at (take n draws) ≡ take (n - g.at) (drop g.at draws) =
      ap (λ (m : ℕ). drop g.at (take m draws)) (sym is) ∙ drop_take g.at (n - g.at) draws in
      ap (turn_by c o logs (take n draws) g) (ap (rolled_from c s unused g.at) left ∙ r.fewer (n - g.at) (omega (arith, ends)))

  module _ (asked : Asked c o logs) where
    grow_fewer : (left : ℕ) (g : Growth) (done : ℕ) → Grows c g done → done + left ≤ iterations_most → (grow_from c o logs draws left g done).checked ≡ pass
        → (n : ℕ) → g.at ≤ n → n < (grow_from c o logs draws left g done).growth.at
        → (grow_from c o logs (take n draws) left g done).checked ≡ Err NoDraw
    unfolding grow_from
    grow_fewer zero g done grows few passed n from below = absurd (omega arith)
    grow_fewer (suc left) g done grows few passed n from below = go (iterate_of c o logs draws g) refl passed below (grow_fewer left)
      where
        turned : List ℕ → Turn → Outcome
        turned ds t = on_turn (λ next. grow_from c o logs ds left next (done + 1)) (λ x. record { growth = g; iterations = done; checked = Err x }) t

        go : (t : Turn) → iterate_of c o logs draws g ≡ t → (turned draws t).checked ≡ pass → n < (turned draws t).growth.at
            → ((next : Growth) (done : ℕ) → Grows c next done → done + left ≤ iterations_most → (grow_from c o logs draws left next done).checked ≡ pass
            → (n : ℕ) → next.at ≤ n → n < (grow_from c o logs draws left next done).growth.at
            → (grow_from c o logs (take n draws) left next done).checked ≡ Err NoDraw)
            → (turned (take n draws) (iterate_of c o logs (take n draws) g)).checked ≡ Err NoDraw
        go (Stops x) e passed below rest = absurd (refused_passed passed)
        go (Goes next) e passed below rest = by (nat_lt n next.at) refl
          where
            by : (short : Bool) → nat_lt n next.at ≡ short → (turned (take n draws) (iterate_of c o logs (take n draws) g)).checked ≡ Err NoDraw
            by true q = ap (λ (t : Turn). (turned (take n draws) t).checked) (iterate_fewer g e n from (ltb-true n next.at q))
            by false q =
                let there : next.at ≤ n = omega (arith, ltb-false n next.at q) in
                let one = (iterate_grows c o logs draws g done asked grows (omega arith) e).0 in
                ap (λ (t : Turn). (turned (take n draws) t).checked) (iterate_draws c o logs draws (take n draws) g e (take-take next.at n draws there))
                ∙ rest next (done + 1) one (omega arith) passed n there below

    -- of the whole search
    pub search_fewer : (nodes : List Node) → 0 < length nodes → (grow_of c o logs draws nodes).checked ≡ pass
        → (n : ℕ) → n < (grow_of c o logs draws nodes).growth.at → (grow_of c o logs (take n draws) nodes).checked ≡ Err NoDraw
    search_fewer nodes some passed n below =
        grow_fewer o.iterations (start_growth c o logs draws nodes) 0 (start_grows c o logs asked draws nodes some) (omega (arith, asked.iterations)) passed
        n (omega arith) below
