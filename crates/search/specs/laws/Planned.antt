-- An iteration by its plan: a plan that is refused is an iteration that is; one that passes has what carrying it out asks for, and that comes to the records
-- and the index of the iteration.
-- Assumes nothing.
use Rattle.std.specs.Prelude.{◌≡◌, ℕ, zero, suc, ◌+◌, ◌-◌, ◌<◌, ◌≤◌, Bool, true, false, cond, List, [], ◌∷◌, length, drop, ◌==◌, nat_le, nat_lt, Float, Result, Ok, Err}
use Rattle.std.proofs.Math.Path.{refl}
use Rattle.std.proofs.Common.{sym, ap, ◌∙◌, arith, leb-true, ltb-true}
use Rattle.refusal.specs.declared.Refusal.{Refusal}
use Rattle.refusal.specs.declared.Refusal.TheVariants.{NoRoom, NoDraw, DrawTooHigh}
use Rattle.action_set.specs.Sets.{size_of}
use Rattle.craft_context.specs.declared.context.CraftContext.{CraftContext}
use Rattle.craft_state.specs.declared.state.CraftState.{CraftState}
use Rattle.score.specs.Result.{judged_by}
use Rattle.score.specs.declared.result.CraftResult.{CraftResult}
use Rattle.rollout.specs.Rollout.{drawn_state, strict_moves, Rolled, rolled_from}
use Rattle.rollout.specs.inner.Movable.{Movable}
use Rattle.tree.specs.declared.node.Node.{Node}
use Rattle.tree.specs.Tree.{node_at, max_at}
use Rattle.search.specs.declared.options.SearchOptions.{SearchOptions}
use Rattle.search.specs.declared.select.Chosen.{Chosen}
use Rattle.search.specs.declared.plan.Plan.{Plan}
use Rattle.search.specs.Select.{select_of, state_at}
use Rattle.search.specs.Iterate.{score_in, is_worth, Growth, Turn, Goes, Stops, rolled_of, grown_of, turn_by, iterate_of}
use Rattle.search.specs.inner.Ready.{Ready, chosen_of, passed_plan, plan_by, plan_of, Drawable, Storing, Carried}
use Rattle.search.specs.inner.Ready.{Turns}
use Rattle.search.specs.laws.Legal.{unused_set, unused_plain, grown_timely}
use Rattle.search.specs.laws.Iterate.{stored_by, stored_most, Grows, selected_inside, rolled_place, rolls}

-- ---- the draws of a rollout that ended

refused_never : {x : Refusal} {result : CraftResult} {end : ℕ} → ◌≡◌ {A = Rolled} (Err x) (Ok (result, end)) → ⊥
refused_never e = cc

ended_there : {result other : CraftResult} {at end : ℕ} → ◌≡◌ {A = Rolled} (Ok (other, at)) (Ok (result, end)) → at ≡ end
ended_there {result} {other} {at} {end} e = let same : ◌≡◌ {A = CraftResult × ℕ} (other, at) (result, end) = cc in ap (λ (p : CraftResult × ℕ). p.1) same

-- each that was used is below the size of its set
ended_drawable : (c : CraftContext) {result : CraftResult} {end : ℕ} (n : ℕ) (s : CraftState) (moves at : ℕ) (draws : List ℕ)
    → rolled_from c s moves at draws ≡ Ok (result, end) → at + n ≤ end → Drawable c s moves n draws
unfolding rolled_from Drawable
ended_drawable c zero s moves at draws e h = tt
ended_drawable c {result} {end} (suc n) s moves at [] e h = go (moves == 0) e
  where
    go : (none : Bool) → ◌≡◌ {A = Rolled} (cond none (Ok (judged_by c s moves, at)) (Err NoDraw)) (Ok (result, end)) → ⊥
    go true e = let there : at ≡ end = ended_there e in omega arith
    go false e = refused_never e
ended_drawable c {result} {end} (suc n) s moves at (d ∷ draws) e h =
    go (moves == 0) (nat_lt d (size_of moves)) refl e
    (λ rest. ended_drawable c n (drawn_state c s moves d) (strict_moves c (drawn_state c s moves d)) (at + 1) draws rest (omega arith))
  where
    later : Rolled
    later = rolled_from c (drawn_state c s moves d) (strict_moves c (drawn_state c s moves d)) (at + 1) draws

    Rest : Type 0
    Rest = Drawable c (drawn_state c s moves d) (strict_moves c (drawn_state c s moves d)) n draws

    go : (none low : Bool) → nat_lt d (size_of moves) ≡ low
        → cond none (Ok (judged_by c s moves, at)) (cond low later (Err DrawTooHigh)) ≡ Ok (result, end)
        → (later ≡ Ok (result, end) → Rest) → (d < size_of moves) × Rest
    go true low q e rest = let there : at ≡ end = ended_there e in absurd (omega arith)
    go false true q e rest = (ltb-true d (size_of moves) q, rest e)
    go false false q e rest = absurd (refused_never e)

-- ---- the plan

module _ (c : CraftContext) (o : SearchOptions) (logs : List Float) (draws : List ℕ) (nodes : List Node) (count at : ℕ) where
  abbrev growth : Growth
  growth = record { nodes = nodes; count = count; at = at }

  abbrev selected : ℕ
  selected = select_of o logs nodes count

  abbrev state : CraftState
  state = state_at c nodes selected

  abbrev unused : ℕ
  unused = (node_at nodes selected).unused

  abbrev plan_in : Rolled → Result Plan Refusal
  plan_in rolled = plan_by o.score_storage_threshold (max_at nodes 0) count (length nodes) at rolled

  abbrev pub plan : Result Plan Refusal
  plan = plan_of c o.score_storage_threshold state unused (max_at nodes 0) count (length nodes) at draws

  abbrev turn : Turn
  turn = iterate_of c o logs draws growth

  abbrev stored : CraftResult → ℕ → ℕ
  stored result end = stored_by c o logs draws growth result end

  plan_stops : {x : Refusal} → plan ≡ Err x → turn ≡ Stops x
  unfolding iterate_of
  plan_stops {x} e = go (rolled_of c o logs draws growth) e
    where
      go : (r : Rolled) → plan_in r ≡ Err x → turn_by c o logs draws growth r ≡ Stops x
      go (Err y) e = let same : y ≡ x = cc in ap Stops same
      go (Ok (result, end)) e = fits (nat_le (count + stored result end) (length nodes)) e
        where
          n : ℕ
          n = stored result end

          fits : (t : Bool) → ◌≡◌ {A = Result Plan Refusal} (cond t (Ok (passed_plan result end n)) (Err (NoRoom (count + n)))) (Err x)
              → cond t (Goes (grown_of c o logs draws growth result end n)) (Stops (NoRoom (count + n))) ≡ Stops x
          fits true e = cc
          fits false e = let same : NoRoom (count + n) ≡ x = cc in ap Stops same

  -- a plan that passed
  record Passes (p : Plan) : Type 0 where
    result : CraftResult
    end : ℕ
    rolled : rolled_of c o logs draws growth ≡ Ok (result, end)
    planned : p ≡ passed_plan result end (stored result end)
    room : count + stored result end ≤ length nodes
    goes : turn ≡ Goes (grown_of c o logs draws growth result end (stored result end))

  plan_passes : {p : Plan} → plan ≡ Ok p → Passes p
  unfolding iterate_of
  plan_passes {p} e = go (rolled_of c o logs draws growth) refl e
    where
      go : (r : Rolled) → rolled_of c o logs draws growth ≡ r → plan_in r ≡ Ok p → Passes p
      go (Err x) q e = cc
      go (Ok (result, end)) q e = fits (nat_le (count + stored result end) (length nodes)) refl e
        where
          n : ℕ
          n = stored result end

          fits : (t : Bool) → nat_le (count + n) (length nodes) ≡ t
              → ◌≡◌ {A = Result Plan Refusal} (cond t (Ok (passed_plan result end n)) (Err (NoRoom (count + n)))) (Ok p) → Passes p
          fits true f e = record {
            result = result;
            end = end;
            rolled = q;
            planned = let same : passed_plan result end n ≡ p = cc in sym same;
            room = leb-true _ _ f;
            goes = ap (turn_by c o logs draws growth) q ∙ rw f;
          }
          fits false f e = cc

  -- ---- from the records of a search

  module _ {links : List ℕ} (ready : Ready c o logs nodes count links) where
    grows : Grows c growth ready.done
    grows = record { growing = ready.growing; visited = ready.visited }

    ready_selected : selected < count
    ready_selected = selected_inside c o logs draws growth ready.done ready.asked grows

    ready_movable : Movable c state unused
    ready_movable =
        record {
          inside = (grown_timely c nodes count ready.growing ready.asked.context ready.asked.byte selected ready_selected).inside;
          known = unused_set c nodes count ready.growing selected ready_selected;
          legal = unused_plain c nodes count ready.growing selected ready_selected;
        }

    module _ {p : Plan} (a : Passes p) where
      abbrev n : ℕ
      n = stored a.result a.end

      few : at + n ≤ a.end
      few =
          let within : n ≤ a.end - at = stored_most (is_worth o.score_storage_threshold (max_at nodes 0) a.result) (a.end - at) in
          let from : at ≤ a.end = (rolls c o logs draws growth ready.done ready.asked grows a.rolled).least in
          omega arith

      pass_storing : at ≤ length draws → Storing c state nodes count selected links draws at n
      pass_storing h =
          record {
            growing = ready.growing;
            craft = ready_movable.inside;
            inside = ready_selected;
            state = refl;
            room = a.room;
            draws_left = omega (arith, few, rolled_place c o logs draws growth a.rolled h);
            drawable = ended_drawable c n state unused at (drop at draws) a.rolled few;
            index = ready.index;
          }

      pass_turns : {after : List Node} {index : List ℕ} → Carried c state nodes count selected draws at n (score_in a.result) after index
          → Turns nodes count turn (Ok (record { count = count + n; at = a.end })) after index
      pass_turns out = rw a.goes (record { answer = refl; records = out.records; links = out.links })

-- ---- as the code has it: the chosen record and the plan are what the functions answered

module _ (c : CraftContext) (o : SearchOptions) (logs : List Float) (draws : List ℕ) (nodes : List Node) (count at : ℕ) {links : List ℕ}
    (ready : Ready c o logs nodes count links) (inside : at ≤ length draws) {chosen : Chosen} (e : chosen ≡ chosen_of c o logs nodes count) where
  pub chosen_inside : chosen.at < count
  chosen_inside = rw e (ready_selected c o logs draws nodes count at ready)

  module _ {n : Node} (n-is : n ≡ node_at nodes chosen.at) where
    pub chosen_movable : Movable c chosen.state n.unused
    chosen_movable = rw (n-is, e) (ready_movable c o logs draws nodes count at ready)

    pub chosen_plan : {root : Node} {records : ℕ} {p : Result Plan Refusal} → root ≡ node_at nodes 0 → length nodes ≡ records
        → p ≡ plan_of c o.score_storage_threshold chosen.state n.unused root.max_score count records at draws
        → p ≡ plan c o logs draws nodes count at
    chosen_plan root_is long q = q ∙ rw (n-is, root_is, ← long, e)

  module _ {r : Result Plan Refusal} (q : r ≡ plan c o logs draws nodes count at) where
    pub plan_refused : {x : Refusal} → r ≡ Err x → Turns nodes count (turn c o logs draws nodes count at) (Err x) nodes links
    plan_refused s = rw (plan_stops c o logs draws nodes count at (sym q ∙ s)) (record { answer = refl; records = refl; links = ready.index })

    module _ {p : Plan} (s : r ≡ Ok p) where
      passes : Passes c o logs draws nodes count at p
      passes = plan_passes c o logs draws nodes count at (sym q ∙ s)

      pub plan_storing : Storing c chosen.state nodes count chosen.at links draws at p.stored
      plan_storing = rw (e, passes.planned) (pass_storing c o logs draws nodes count at ready passes inside)

      pub plan_turns : {after : List Node} {index : List ℕ} → Carried c chosen.state nodes count chosen.at draws at p.stored p.score after index
          → Turns nodes count (turn c o logs draws nodes count at) (Ok (record { count = count + p.stored; at = p.at })) after index
      plan_turns out = rw passes.planned (pass_turns c o logs draws nodes count at ready passes (rw (e, passes.planned) at out))
