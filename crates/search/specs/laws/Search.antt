-- THE theorems of a search: however its iterations end, the records are those of a search with as many visits of record 0 as iterations were done; the path is
-- executed whole by a plain replay, whose state is the one answered; a refused search is the one of the iterations before; and draws beyond the used ones
-- change nothing.
-- Assumes nothing.
use Rattle.std.specs.Prelude.{◌≡◌, ℕ, zero, suc, ◌+◌, ◌-◌, ◌<◌, ◌≤◌, List, length, take, Float, Err}
use Rattle.std.proofs.Math.Path.{refl}
use Rattle.std.proofs.Common.{sym, ap, ◌∙◌, take-take}
use Rattle.std.proofs.Math.Nat.{le_refl}
use native.Mathlib.Omega.{arith}
use Rattle.refusal.specs.Judge.{pass}
use Rattle.refusal.specs.laws.Judge.{refused_passed}
use Rattle.craft_context.specs.declared.context.CraftContext.{CraftContext}
use Rattle.craft_state.specs.Limits.{step_most}
use Rattle.moves.specs.Modes.{plain}
use Rattle.simulator.specs.Replay.{replay_of}
use Rattle.tree.specs.declared.node.Node.{Node}
use Rattle.search.specs.declared.options.SearchOptions.{SearchOptions}
use Rattle.search.specs.Options.{iterations_most}
use Rattle.search.specs.Iterate.{Growth, Turn, Goes, Stops, iterate_of}
use Rattle.search.specs.Search.{Outcome, on_turn, grow_from, start_growth, grow_of, path_of, found_of}
use Rattle.search.specs.laws.Asked.{Asked}
use Rattle.search.specs.laws.Planted.{planted_growing, planted_visited}
use Rattle.search.specs.laws.Iterate.{Grows, Goes_on, iterate_grows, iterate_draws}
use Rattle.search.specs.laws.Path.{path_whole, path_state, path_short}

-- after at most `left` iterations more
pub record Ends (c : CraftContext) (g : Growth) (done left : ℕ) (z : Outcome) : Type 0 where
  pub grows : Grows c z.growth z.iterations
  pub on : Goes_on g z.growth
  pub least : done ≤ z.iterations
  pub most : z.iterations ≤ done + left
  -- all of them, where none was refused
  pub whole : z.checked ≡ pass → z.iterations ≡ done + left

-- none is done
none_on : (c : CraftContext) (g : Growth) (done : ℕ) → Grows c g done → Goes_on g g
none_on c g done grows = record { long = refl; more = le_refl _; room = grows.growing.tree.room; later = le_refl _ }

module _ (c : CraftContext) (o : SearchOptions) (logs : List Float) (asked : Asked c o logs) (draws : List ℕ) where
  pub grow_ends : (left : ℕ) (g : Growth) (done : ℕ) → Grows c g done → done + left ≤ iterations_most → Ends c g done left (grow_from c o logs draws left g done)
  unfolding grow_from
  grow_ends zero g done grows few =
      record { grows = grows; on = none_on c g done grows; least = le_refl _; most = omega arith; whole = λ e. omega arith }
  grow_ends (suc left) g done grows few = go (iterate_of c o logs draws g) refl (grow_ends left)
    where
      go : (t : Turn) → iterate_of c o logs draws g ≡ t
          → ((next : Growth) (done : ℕ) → Grows c next done → done + left ≤ iterations_most → Ends c next done left (grow_from c o logs draws left next done))
          → Ends c g done (suc left)
          (on_turn (λ next. grow_from c o logs draws left next (done + 1)) (λ x. record { growth = g; iterations = done; checked = Err x }) t)
      go (Goes next) e rest =
          let one = iterate_grows c o logs draws g done asked grows (omega arith) e in
          let r = rest next (done + 1) one.0 (omega arith) in
          record {
            grows = r.grows;
            on = record {
              long = r.on.long ∙ one.1.long;
              more = omega (arith, r.on.more, one.1.more);
              room = omega (arith, r.on.room, one.1.long);
              later = omega (arith, r.on.later, one.1.later);
            };
            least = omega (arith, r.least);
            most = omega (arith, r.most);
            whole = λ p. omega (arith, r.whole p);
          }
      go (Stops x) e rest =
          record { grows = grows; on = none_on c g done grows; least = le_refl _; most = omega arith; whole = λ p. absurd (refused_passed p) }

  -- ---- the whole search

  module _ (nodes : List Node) (some : 0 < length nodes) where
    pub start_grows : Grows c (start_growth c o logs draws nodes) 0
    start_grows = record { growing = planted_growing c nodes some; visited = planted_visited c nodes some }

    pub search_ends : Ends c (start_growth c o logs draws nodes) 0 o.iterations (grow_of c o logs draws nodes)
    search_ends = grow_ends o.iterations (start_growth c o logs draws nodes) 0 start_grows (omega (arith, asked.iterations))

    abbrev outcome : Outcome
    outcome = grow_of c o logs draws nodes

    -- the path is executed whole by a plain replay
    pub search_path : (replay_of c plain (path_of outcome)).executed ≡ length (path_of outcome)
    search_path = path_whole c outcome.growth.nodes outcome.growth.count search_ends.grows.growing asked.context asked.byte

    -- whose state is the one answered
    pub search_state : (replay_of c plain (path_of outcome)).state ≡ (found_of c outcome).state
    search_state = path_state c outcome.growth.nodes outcome.growth.count search_ends.grows.growing asked.context asked.byte

    pub search_short : length (path_of outcome) ≤ step_most
    search_short = path_short c outcome.growth.nodes outcome.growth.count search_ends.grows.growing asked.context asked.byte

-- ---- earlier iterations stand

-- as one that was refused nothing
abbrev pub as_passed : Outcome → Outcome
as_passed z = record { growth = z.growth; iterations = z.iterations; checked = pass }

module _ (c : CraftContext) (o : SearchOptions) (logs : List Float) (asked : Asked c o logs) (draws : List ℕ) where
  -- a search that stopped is the one of as many iterations as were done
  pub grow_stands : (left : ℕ) (g : Growth) (done : ℕ) → Grows c g done → done + left ≤ iterations_most
      → grow_from c o logs draws ((grow_from c o logs draws left g done).iterations - done) g done ≡ as_passed (grow_from c o logs draws left g done)
  unfolding grow_from
  grow_stands zero g done grows few = let none : done - done ≡ 0 = omega arith in rw none
  grow_stands (suc left) g done grows few = go (iterate_of c o logs draws g) refl (grow_stands left)
    where
      turned : (n : ℕ) → Turn → Outcome
      turned n t = on_turn (λ next. grow_from c o logs draws n next (done + 1)) (λ x. record { growth = g; iterations = done; checked = Err x }) t

      one_more : (n : ℕ) {t : Turn} → iterate_of c o logs draws g ≡ t → grow_from c o logs draws (suc n) g done ≡ turned n t
      one_more n e = ap (turned n) e

      go : (t : Turn) → iterate_of c o logs draws g ≡ t
          → ((next : Growth) (done : ℕ) → Grows c next done → done + left ≤ iterations_most
          → grow_from c o logs draws ((grow_from c o logs draws left next done).iterations - done) next done ≡ as_passed (grow_from c o logs draws left next done))
          → grow_from c o logs draws ((turned left t).iterations - done) g done ≡ as_passed (turned left t)
      go (Goes next) e rest =
          let one = (iterate_grows c o logs draws g done asked grows (omega arith) e).0 in
          let z = grow_from c o logs draws left next (done + 1) in
          let more : z.iterations - done ≡ suc (z.iterations - (done + 1)) =
          omega (arith, (grow_ends c o logs asked draws left next (done + 1) one (omega arith)).least) in
          ap (λ (n : ℕ). grow_from c o logs draws n g done) more ∙ one_more (z.iterations - (done + 1)) e ∙ rest next (done + 1) one (omega arith)
      go (Stops x) e rest = let none : done - done ≡ 0 = omega arith in rw none

-- ---- draws beyond the used ones change nothing

module _ (c : CraftContext) (o : SearchOptions) (logs : List Float) (asked : Asked c o logs) (draws others : List ℕ) where
  pub grow_draws : (left : ℕ) (g : Growth) (done : ℕ) → Grows c g done → done + left ≤ iterations_most → (grow_from c o logs draws left g done).checked ≡ pass
      → take (grow_from c o logs draws left g done).growth.at others ≡ take (grow_from c o logs draws left g done).growth.at draws
      → grow_from c o logs others left g done ≡ grow_from c o logs draws left g done
  unfolding grow_from
  grow_draws zero g done grows few passed same = refl
  grow_draws (suc left) g done grows few passed same = go (iterate_of c o logs draws g) refl passed same (grow_draws left)
    where
      turned : List ℕ → Turn → Outcome
      turned ds t = on_turn (λ next. grow_from c o logs ds left next (done + 1)) (λ x. record { growth = g; iterations = done; checked = Err x }) t

      go : (t : Turn) → iterate_of c o logs draws g ≡ t → (turned draws t).checked ≡ pass
          → take (turned draws t).growth.at others ≡ take (turned draws t).growth.at draws
          → ((next : Growth) (done : ℕ) → Grows c next done → done + left ≤ iterations_most → (grow_from c o logs draws left next done).checked ≡ pass
          → take (grow_from c o logs draws left next done).growth.at others ≡ take (grow_from c o logs draws left next done).growth.at draws
          → grow_from c o logs others left next done ≡ grow_from c o logs draws left next done)
          → turned others (iterate_of c o logs others g) ≡ turned draws t
      go (Goes next) e passed same rest =
          let one = (iterate_grows c o logs draws g done asked grows (omega arith) e).0 in
          let end : ℕ = (grow_from c o logs draws left next (done + 1)).growth.at in
          let later : next.at ≤ end = (grow_ends c o logs asked draws left next (done + 1) one (omega arith)).on.later in
          let first : take next.at others ≡ take next.at draws =
          sym (take-take next.at end others later) ∙ ap (take next.at) same ∙ take-take next.at end draws later in
          ap (turned others) (iterate_draws c o logs draws others g e first) ∙ rest next (done + 1) one (omega arith) passed same
      go (Stops x) e passed same rest = absurd (refused_passed passed)

  -- of the whole search
  pub search_draws : (nodes : List Node) → 0 < length nodes → (grow_of c o logs draws nodes).checked ≡ pass
      → take (grow_of c o logs draws nodes).growth.at others ≡ take (grow_of c o logs draws nodes).growth.at draws
      → grow_of c o logs others nodes ≡ grow_of c o logs draws nodes
  search_draws nodes some passed same =
      grow_draws o.iterations (start_growth c o logs draws nodes) 0 (start_grows c o logs asked draws nodes some) (omega (arith, asked.iterations)) passed
      same
