-- By which numbers an iteration is refused, and so a search after its first tests: 6 for the records that it wants to store or for the path, 19 and 20 for a draw.
-- Assumes nothing.
use Rattle.std.proofs.Math.Path.{refl}
use Rattle.std.proofs.Math.Logic.{inl}
use Rattle.std.proofs.Common.{inr}
use Rattle.std.specs.Prelude.{ℕ, zero, suc, ◌+◌, Bool, true, false, cond, List, [], ◌∷◌, length, drop, ◌==◌, nat_le, nat_lt, Float, Ok, Err}
use Rattle.refusal.specs.declared.Refusal.{Refusal}
use Rattle.refusal.specs.declared.Refusal.TheVariants.{NoRoom, NoDraw, DrawTooHigh}
use Rattle.refusal.specs.Judge.{Checked, judged, checks_of}
use Rattle.refusal.specs.Demands.{number_of, Among}
use Rattle.action_set.specs.Sets.{size_of}
use Rattle.craft_context.specs.declared.context.CraftContext.{CraftContext}
use Rattle.craft_state.specs.declared.state.CraftState.{CraftState}
use Rattle.score.specs.Result.{judged_by}
use Rattle.rollout.specs.Rollout.{drawn_state, strict_moves, Rolled, rolled_from}
use Rattle.tree.specs.declared.node.Node.{Node}
use Rattle.search.specs.declared.options.SearchOptions.{SearchOptions}
use Rattle.search.specs.Iterate.{Growth, Turn, Goes, Stops, selected_state, unused_of, grown_of, rolled_of, turn_by, iterate_of}
use Rattle.search.specs.Search.{Outcome, on_turn, grow_from, start_growth, grow_of, path_of, path_tests}
use Rattle.search.specs.laws.Iterate.{stored_by}

abbrev pub Late : Refusal → Type 0
Late x = Among (6 ∷ 19 ∷ 20 ∷ []) (number_of x)

-- ---- a rollout, an iteration and tests, refused if at all by one of them

abbrev RollsLate : Rolled → Type 0
RollsLate (Ok p) = Unit {0}
RollsLate (Err x) = Late x

abbrev TurnsLate : Turn → Type 0
TurnsLate (Goes next) = Unit {0}
TurnsLate (Stops x) = Late x

abbrev pub ChecksLate : Checked → Type 0
ChecksLate (Ok u) = Unit {0}
ChecksLate (Err x) = Late x

rolled_late : (c : CraftContext) (draws : List ℕ) (s : CraftState) (moves at : ℕ) → RollsLate (rolled_from c s moves at draws)
unfolding rolled_from
rolled_late c [] s moves at = go (moves == 0)
  where
    go : (b : Bool) → RollsLate (cond b (Ok (judged_by c s moves, at)) (Err NoDraw))
    go true = tt
    go false = inr (inl refl)
rolled_late c (d ∷ draws) s moves at =
    go (moves == 0) (nat_lt d (size_of moves)) (rolled_late c draws (drawn_state c s moves d) (strict_moves c (drawn_state c s moves d)) (at + 1))
  where
    next : Rolled
    next = rolled_from c (drawn_state c s moves d) (strict_moves c (drawn_state c s moves d)) (at + 1) draws

    go : (ends below : Bool) → RollsLate next → RollsLate (cond ends (Ok (judged_by c s moves, at)) (cond below next (Err DrawTooHigh)))
    go true below later = tt
    go false true later = later
    go false false later = inr (inr (inl refl))

module _ (c : CraftContext) (o : SearchOptions) (logs : List Float) (draws : List ℕ) where
  pub iterate_late : (g : Growth) → TurnsLate (iterate_of c o logs draws g)
  unfolding iterate_of
  iterate_late g = go (rolled_of c o logs draws g) (rolled_late c (drop g.at draws) (selected_state c o logs draws g) (unused_of c o logs draws g) g.at)
    where
      room : (b : Bool) (next : Growth) (needed : ℕ) → TurnsLate (cond b (Goes next) (Stops (NoRoom needed)))
      room true next needed = tt
      room false next needed = inl refl

      go : (r : Rolled) → RollsLate r → TurnsLate (turn_by c o logs draws g r)
      go (Ok (result, end)) h =
          let stored : ℕ = stored_by c o logs draws g result end in
          room (nat_le (g.count + stored) (length g.nodes)) (grown_of c o logs draws g result end stored) (g.count + stored)
      go (Err x) h = h

  grow_late : (left : ℕ) (g : Growth) (iterations : ℕ) → ChecksLate (grow_from c o logs draws left g iterations).checked
  unfolding grow_from
  grow_late zero g iterations = tt
  grow_late (suc left) g iterations = go (iterate_of c o logs draws g) (iterate_late g) (λ next. grow_late left next (iterations + 1))
    where
      go : (t : Turn) → TurnsLate t → ((next : Growth) → ChecksLate (grow_from c o logs draws left next (iterations + 1)).checked)
          → ChecksLate (on_turn (λ next. grow_from c o logs draws left next (iterations + 1))
          (λ x. record { growth = g; iterations = iterations; checked = Err x }) t).checked
      go (Goes next) h rest = rest next
      go (Stops x) h rest = h

  pub search_late : (nodes : List Node) → ChecksLate (grow_of c o logs draws nodes).checked
  search_late nodes = grow_late o.iterations (start_growth c o logs draws nodes) 0

-- the room for the path
pub path_late : (z : Outcome) (room : ℕ) → ChecksLate (checks_of (path_tests z room))
unfolding judged
path_late z room = go (nat_le (length (path_of z)) room)
  where
    go : (b : Bool) → ChecksLate (cond b (Ok tt) (Err (NoRoom (length (path_of z)))))
    go true = tt
    go false = inl refl
