-- THE theorem of an iteration: one that is accepted takes the records of a search to those of a search with one iteration more, within the room; its score is
-- from -1 to 1; and it turns on no draw beyond those that it used.
-- Assumes nothing.
use Rattle.std.specs.Prelude.{◌≡◌, ℕ, zero, suc, ◌+◌, ◌-◌, ◌<◌, ◌≤◌, Bool, true, false, cond, List, [], ◌∷◌, length, take, drop, ◌==◌, ◌≢◌, nat_le, Float, Ok, Err}
use Rattle.std.proofs.Math.Path.{refl, sym, ap}
use Rattle.std.proofs.Common.{subst, ◌∙◌, zero-add, suc-add, length-drop}
use native.Mathlib.Omega.{arith}
use Rattle.std.specs.Float.Ieee.{of_int, lt, le, eq}
use Rattle.std.specs.Float.Ieee.Bits.{is_true}
use Rattle.std.proofs.Math.Seq.{take-nil, take-take}
use borrow.Author.Tests.{leb-true, le-leb, eqb-false}
use Rattle.laws.specs.Floats.{one, minus_one}
use Rattle.laws.specs.laws.Order.{lt_le}
use Rattle.laws.specs.laws.Tests.{and_both}
use Rattle.refusal.specs.declared.Refusal.{Refusal}
use Rattle.refusal.specs.declared.Refusal.TheVariants.{NoRoom}
use Rattle.craft_context.specs.declared.context.CraftContext.{CraftContext}
use Rattle.score.specs.Bounds.{ScoreIsBounded}
use Rattle.score.specs.declared.result.CraftResult.{CraftResult}
use Rattle.score.specs.declared.result.CraftResult.TheVariants as R
use Rattle.rollout.specs.Rollout.{Rolled, sampled_of}
use Rattle.rollout.specs.laws.RolledSampled.{Rolls, rolled, sampled_length, sampled_take}
use Rattle.tree.specs.declared.node.Node.{Node}
use Rattle.tree.specs.Node.{plus_zero, is_score}
use Rattle.tree.specs.Tree.{max_at}
use Rattle.tree.specs.laws.Back.{touched_length}
use Rattle.tree.specs.laws.Tree.{tree_falls}
use Rattle.search.specs.declared.options.SearchOptions.{SearchOptions}
use Rattle.search.specs.Options.{iterations_most}
use Rattle.search.specs.Iterate.{score_in, is_worth, stored_of, store_of, Growth, Goes, Stops}
use Rattle.search.specs.Iterate.{selected_of, selected_state, unused_of, rolled_of, path_from, grown_of, turn_by, iterate_of}
use Rattle.search.specs.inner.Grown.{mode_at, Growing, Visited}
use Rattle.search.specs.laws.Asked.{Asked}
use Rattle.search.specs.laws.Legal.{unused_move, grown_timely}
use Rattle.search.specs.laws.Descend.{selected_below}
use Rattle.search.specs.laws.Stored.{Stored, stored}
use Rattle.search.specs.laws.Touched.{iterated}

-- ---- the score that is propagated

zero_score : is_score plus_zero ≡ true
unfolding of_int le lt eq
zero_score = refl

pub score_in_lem : (c : CraftContext) (result : CraftResult) → 0 < c.step_max → ScoreIsBounded c result → is_score (score_in result) ≡ true
score_in_lem c (R.Finished score) some b =
    and_both (is_true (le minus_one score) (b.least some)) (is_true (le score one) (lt_le score one b.below))
score_in_lem c R.DurabilityFailure some b = zero_score
score_in_lem c R.MaxStepsFailure some b = zero_score
score_in_lem c R.InvalidActionFailure some b = zero_score
score_in_lem c R.Continuing some b = zero_score

-- at most as many records as draws
pub stored_most : (whole : Bool) (used : ℕ) → stored_of whole used ≤ used
stored_most true used = omega arith
stored_most false used = go (used == 0) refl
  where
    go : (t : Bool) → (used == 0) ≡ t → cond t 0 1 ≤ used
    go true e = omega arith
    go false e = let some : used ≡ 0 → ⊥ = eqb-false used 0 e in omega arith

-- ---- what an accepted iteration was

stops_never : {x : Refusal} {next : Growth} → Stops x ≢ Goes next
stops_never e = let z : ◌≡◌ {A = ℕ} 0 1 = cc in omega arith

module _ (c : CraftContext) (o : SearchOptions) (logs : List Float) (draws : List ℕ) (g : Growth) where
  abbrev pub stored_by : CraftResult → ℕ → ℕ
  stored_by result end = stored_of (is_worth o.score_storage_threshold (max_at g.nodes 0) result) (end - g.at)

  -- the records before the score is propagated
  abbrev pub storing : ℕ → List Node
  storing n = store_of c g.nodes g.count (selected_of c o logs draws g) (selected_state c o logs draws g) (path_from c o logs draws g n)

  pub record Accepted (next : Growth) : Type 0 where
    pub result : CraftResult
    pub end : ℕ
    pub rolls : rolled_of c o logs draws g ≡ Ok (result, end)
    pub room : g.count + stored_by result end ≤ length g.nodes
    pub same : next ≡ grown_of c o logs draws g result end (stored_by result end)

  pub accepted : {next : Growth} → iterate_of c o logs draws g ≡ Goes next → Accepted next
  unfolding iterate_of
  accepted {next} e = go (rolled_of c o logs draws g) refl e
    where
      go : (r : Rolled) → rolled_of c o logs draws g ≡ r → turn_by c o logs draws g r ≡ Goes next → Accepted next
      go (Err x) q e = absurd (stops_never e)
      go (Ok (result, end)) q e = fits (nat_le (g.count + stored_by result end) (length g.nodes)) refl e
        where
          fits : (t : Bool) → nat_le (g.count + stored_by result end) (length g.nodes) ≡ t
              → cond t (Goes (grown_of c o logs draws g result end (stored_by result end))) (Stops (NoRoom (g.count + stored_by result end))) ≡ Goes next
              → Accepted next
          fits true f e = record { result = result; end = end; rolls = q; room = leb-true _ _ f; same = cc }
          fits false f e = absurd (stops_never e)

-- ---- the place in the draws

module _ (c : CraftContext) (o : SearchOptions) (logs : List Float) (draws : List ℕ) (g : Growth) where
  pub rolled_place : {result : CraftResult} {end : ℕ} → rolled_of c o logs draws g ≡ Ok (result, end) → g.at ≤ length draws → end ≤ length draws
  rolled_place {result} {end} r h =
      omega (arith, (rolled c (selected_state c o logs draws g) (unused_of c o logs draws g) g.at (drop g.at draws) result end r).most, length-drop g.at draws)

  pub iterate_place : {next : Growth} → iterate_of c o logs draws g ≡ Goes next → g.at ≤ length draws → next.at ≤ length draws
  iterate_place e h = let a = accepted c o logs draws g e in rw a.same (rolled_place a.rolls h)

-- ---- THE theorem

-- the records of a search, after so many iterations
pub record Grows (c : CraftContext) (g : Growth) (done : ℕ) : Type 0 where
  pub growing : Growing c g.nodes g.count
  pub visited : Visited g.nodes g.count done

-- what one iteration leaves and what it adds
pub record Goes_on (g next : Growth) : Type 0 where
  pub long : length next.nodes ≡ length g.nodes
  pub more : g.count ≤ next.count
  pub room : next.count ≤ length g.nodes
  pub later : g.at ≤ next.at

module _ (c : CraftContext) (o : SearchOptions) (logs : List Float) (draws : List ℕ) (g : Growth) (done : ℕ) (asked : Asked c o logs)
    (grows : Grows c g done) where
  -- where it starts
  pub selected_inside : selected_of c o logs draws g < g.count
  selected_inside = selected_below o logs g.nodes g.count (tree_falls grows.growing.tree) grows.growing.tree.some

  module _ {result : CraftResult} {end : ℕ} (r : rolled_of c o logs draws g ≡ Ok (result, end)) where
    pub rolls : Rolls c (selected_state c o logs draws g) (unused_of c o logs draws g) g.at (drop g.at draws) result end
    rolls = rolled c (selected_state c o logs draws g) (unused_of c o logs draws g) g.at (drop g.at draws) result end r

    -- every score that is propagated is from -1 to 1
    pub propagated_score : is_score (score_in result) ≡ true
    propagated_score =
        let k : ℕ = selected_of c o logs draws g in
        score_in_lem c result asked.steps
        (rolls.bounded asked.byte (mode_at k) (λ n is. unused_move c g.nodes g.count grows.growing k selected_inside n is)
        (grown_timely c g.nodes g.count grows.growing asked.context asked.byte k selected_inside))

    -- what is stored of it, where it has room
    module _ (n : ℕ) (few : g.at + n ≤ end) (room : g.count + n ≤ length g.nodes) where
      path_length : length (path_from c o logs draws g n) ≡ n
      path_length =
          sampled_length c (selected_state c o logs draws g) (unused_of c o logs draws g) n (drop g.at draws) (omega (arith, rolls.most))

      pub iteration_stored : Stored c g.nodes g.count (selected_of c o logs draws g) n (storing c o logs draws g n)
      iteration_stored =
          subst (λ (m : ℕ). Stored c g.nodes g.count (selected_of c o logs draws g) m (storing c o logs draws g n)) path_length
          (stored c (path_from c o logs draws g n) g.nodes g.count (selected_of c o logs draws g) (selected_state c o logs draws g) grows.growing
          selected_inside refl (rolls.sampled n few) (omega (arith, path_length)))

  module _ (few : done < iterations_most) {next : Growth} (e : iterate_of c o logs draws g ≡ Goes next) where
    pub iterate_grows : Grows c next (done + 1) × Goes_on g next
    iterate_grows = go (accepted c o logs draws g e)
      where
        go : Accepted c o logs draws g next → Grows c next (done + 1) × Goes_on g next
        go a =
            let n : ℕ = stored_by c o logs draws g a.result a.end in
            let within : n ≤ a.end - g.at = stored_most (is_worth o.score_storage_threshold (max_at g.nodes 0) a.result) (a.end - g.at) in
            let from : g.at ≤ a.end = (rolls a.rolls).least in
            let st = iteration_stored a.rolls n (omega arith) a.room in
            let t = iterated c g.nodes g.count _ n done _ grows.visited selected_inside st (omega arith) (propagated_score a.rolls) in
            rw a.same (
              record { growing = t.growing; visited = t.visited },
              record { long = touched_length _ _ (score_in a.result) ∙ st.long; more = omega arith; room = a.room; later = from },
            )

-- ---- draws beyond those used change nothing

pub drop_take : (at used : ℕ) (l : List ℕ) → drop at (take (at + used) l) ≡ take used (drop at l)
drop_take zero used l = rw zero-add
drop_take (suc at) used [] = ap (drop (suc at)) (take-nil (suc at + used)) ∙ sym (take-nil used)
drop_take (suc at) used (d ∷ l) = rw suc-add (drop_take at used l)

module _ (c : CraftContext) (o : SearchOptions) (logs : List Float) (draws others : List ℕ) (g : Growth) {next : Growth}
    (e : iterate_of c o logs draws g ≡ Goes next) (same : take next.at others ≡ take next.at draws) where
  pub iterate_draws : iterate_of c o logs others g ≡ Goes next
  unfolding iterate_of
  iterate_draws = go (accepted c o logs draws g e)
    where
      go : Accepted c o logs draws g next → turn_by c o logs others g (rolled_of c o logs others g) ≡ Goes next
      go a =
          let s = selected_state c o logs draws g in
          let unused : ℕ = unused_of c o logs draws g in
          let n : ℕ = stored_by c o logs draws g a.result a.end in
          let r = rolled c s unused g.at (drop g.at draws) a.result a.end a.rolls in
          let from : g.at ≤ a.end = r.least in
          let used : ℕ = a.end - g.at in
          let within : n ≤ used = stored_most (is_worth o.score_storage_threshold (max_at g.nodes 0) a.result) used in
          let ends : next.at ≡ g.at + used = ap (λ (h : Growth). h.at) a.same ∙ omega arith in
          let agree : take used (drop g.at others) ≡ take used (drop g.at draws) =
          sym (drop_take g.at used others) ∙ ap (drop g.at) (rw ends at same) ∙ drop_take g.at used draws in
          let first : take n (drop g.at others) ≡ take n (drop g.at draws) =
          sym (take-take n used (drop g.at others) within) ∙ ap (take n) agree ∙ take-take n used (drop g.at draws) within in
          let path : sampled_of c s unused n (drop g.at others) ≡ sampled_of c s unused n (drop g.at draws) =
          sym (sampled_take c s unused n (drop g.at others)) ∙ ap (sampled_of c s unused n) first ∙ sampled_take c s unused n (drop g.at draws) in
          ap (turn_by c o logs others g) (r.enough (drop g.at others) used (omega arith) agree)
          ∙ rw (le-leb _ _ a.room, path, a.same)
