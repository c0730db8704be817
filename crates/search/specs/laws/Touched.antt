-- Back-propagation to record 0 in the records of a search: no record on the way is full, they are those of a search again, and the visits are those of one
-- iteration more.
-- Assumes nothing.
use Rattle.std.specs.Prelude.{◌≡◌, ℕ, zero, suc, ◌+◌, ◌-◌, ◌<◌, ◌≤◌, Bool, true, false, cond, ◌||◌, T, ltb, ◌⊎◌, List, [], ◌==◌, nat_lt, refl, Float}
use Rattle.std.proofs.Common.{sym, ◌∙◌, inl, inr, ⊎_elim, arith, ltb-true, ltb-false}
use Rattle.std.proofs.Math.Path.{ap}
use Rattle.std.specs.Float.{binary32}
use Rattle.std.specs.Float.Ieee.{add, le}
use Rattle.std.proofs.lemmas.Bool.{eqb-false}
use Rattle.laws.specs.Floats.{float, one}
use Rattle.laws.specs.Lists.{elem}
use Rattle.laws.specs.laws.Order.{le_through}
use Rattle.laws.specs.laws.Tests.{true_false, either, neither}
use Rattle.craft_context.specs.declared.context.CraftContext.{CraftContext}
use Rattle.tree.specs.declared.node.Node.{Node}
use Rattle.tree.specs.Node.{count_most, is_score, is_full, touched_of}
use Rattle.tree.specs.Sound.{is_count}
use Rattle.tree.specs.Tree.{node_at, Falls, path_in, path_of, any_full, back_of}
use Rattle.tree.specs.inner.Back.{Reaches}
use Rattle.tree.specs.inner.Sound.{SoundTree}
use Rattle.tree.specs.laws.Node.{sound_parts}
use Rattle.tree.specs.laws.Tree.{tree_falls}
use Rattle.tree.specs.laws.Back.{back_on, back_off, back_sound}
use Rattle.tree.specs.laws.Upward.{path_root, root_reached}
use Rattle.tree.specs.laws.Visits.{float_rises, float_finite, float_more, count_finite, count_not_full, more_at_most, more_at_least}
use Rattle.search.specs.Iterate.{last_stored}
use Rattle.search.specs.inner.Grown.{Growing, Visited}
use Rattle.search.specs.inner.Links.{Links}
use Rattle.search.specs.laws.States.{Alike}
use Rattle.search.specs.laws.Taken.{growing_alike}
use Rattle.search.specs.laws.Links.{links_alike}
use Rattle.search.specs.laws.Stored.{Stored, last_inside, stored_path}

none_full : (nodes : List Node) (count : ℕ) → Falls nodes count → ((k : ℕ) → k < count → is_full (node_at nodes k) ≡ false)
    → (steps k : ℕ) → k < count → any_full nodes (path_in steps nodes k 0) ≡ false
unfolding any_full path_in
none_full nodes count falls each zero k h = rw (each k h)
none_full nodes count falls each (suc steps) k h =
    rw (each k h) (go (k == 0 || k == 0) refl (none_full nodes count falls each steps (node_at nodes k).parent))
  where
    go : (t : Bool) → (k == 0) || (k == 0) ≡ t → ((node_at nodes k).parent < count → any_full nodes (path_in steps nodes (node_at nodes k).parent 0) ≡ false)
        → any_full nodes (cond t [] (path_in steps nodes (node_at nodes k).parent 0)) ≡ false
    go true e rest = refl
    go false e rest =
        let some : k ≡ 0 → ⊥ = eqb-false k 0 (neither (k == 0) (k == 0) e).0 in
        let up : (node_at nodes k).parent < k = falls k (omega arith) h in
        rest (omega arith)

-- ---- what stays, and the visits

module _ (nodes : List Node) (count end : ℕ) (score : Float) (tree : SoundTree nodes count) (inside : end < count) where
  abbrev after : List Node
  after = back_of nodes end 0 score

  -- all but the floats
  keeps : {A : Type 0} (f : Node → A) → ((n : Node) → f (touched_of n score) ≡ f n) → (k : ℕ) → f (node_at after k) ≡ f (node_at nodes k)
  keeps f same k =
      ⊎_elim (λ e. ap f (back_on nodes count end 0 score tree inside k e) ∙ same (node_at nodes k))
      (λ e. ap f (back_off nodes count end 0 score tree inside k e)) (either (elem (path_of nodes end 0) k))

  pub touch_alike : Alike nodes after count
  unfolding touched_of
  touch_alike = record { parent = λ k h. keeps (λ n. n.parent) (λ n. refl) k; action = λ k h. keeps (λ n. n.action) (λ n. refl) k }

  pub touch_unused : (k : ℕ) → (node_at after k).unused ≡ (node_at nodes k).unused
  unfolding touched_of
  touch_unused = keeps (λ n. n.unused) (λ n. refl)

  -- so the index of children does
  pub touch_links : (links : List ℕ) → Links nodes count links → Links after count links
  touch_links links l = links_alike nodes after count links touch_alike.parent l

  on : (k : ℕ) → elem (path_of nodes end 0) k ≡ true → (node_at after k).visits ≡ add binary32 (node_at nodes k).visits one
  unfolding touched_of
  on k e = ap (λ (n : Node). n.visits) (back_on nodes count end 0 score tree inside k e)

  off : (k : ℕ) → elem (path_of nodes end 0) k ≡ false → (node_at after k).visits ≡ (node_at nodes k).visits
  off k e = ap (λ (n : Node). n.visits) (back_off nodes count end 0 score tree inside k e)

-- ---- one iteration more

-- what is asked of the way up, and what is then left
pub record Touches (c : CraftContext) (nodes : List Node) (count end done : ℕ) (score : Float) : Type 0 where
  pub reaches : Reaches nodes end 0
  pub growing : Growing c (back_of nodes end 0 score) count
  pub visited : Visited (back_of nodes end 0 score) count (done + 1)

module _ (c : CraftContext) (nodes : List Node) (count end done : ℕ) (score : Float) (growing : Growing c nodes count) (inside : end < count)
    (is : is_score score ≡ true) (top : done < count_most) (most : (k : ℕ) → k < count → T (le (node_at nodes k).visits (float done))) where
  counts : (k : ℕ) → k < count → is_count (node_at nodes k).visits ≡ true
  counts k h = (sound_parts (growing.tree.each k h)).count

  pub touch_not_full : any_full nodes (path_of nodes end 0) ≡ false
  touch_not_full = none_full nodes count (tree_falls growing.tree) (λ k h. count_not_full _ (counts k h) done top (most k h)) end end inside

  touch_growing : Growing c (back_of nodes end 0 score) count
  touch_growing =
      growing_alike c nodes (back_of nodes end 0 score) count growing (touch_alike nodes count end score growing.tree inside)
      (λ k h. touch_unused nodes count end score growing.tree inside k)
      (back_sound nodes count end 0 score growing.tree inside touch_not_full is)

  -- where what is off the way was visited
  pub touches : (node_at nodes 0).visits ≡ float done
      → ((k : ℕ) → 0 < k → k < count → elem (path_of nodes end 0) k ≡ false → T (le one (node_at nodes k).visits))
      → Touches c nodes count end done score
  touches root seen =
      record {
        reaches = root_reached nodes count (tree_falls growing.tree) end inside growing.tree.room;
        growing = touch_growing;
        visited =
            record {
              root = here 0 (path_root nodes count (tree_falls growing.tree) end inside) ∙ ap (λ (x : Float). add binary32 x one) root ∙ float_more done top;
              seen = λ k some h.
                  ⊎_elim (λ e. rw (here k e) (more_at_least _ (counts k h) done top (most k h))) (λ e. rw (other k e) (seen k some h e))
                  (either (elem (path_of nodes end 0) k));
              most = λ k h.
                  ⊎_elim (λ e. rw (here k e) (more_at_most _ (counts k h) done top (most k h))) (λ e. rw (other k e) (below k h))
                  (either (elem (path_of nodes end 0) k));
            };
      }
    where
      here : (k : ℕ) → elem (path_of nodes end 0) k ≡ true → (node_at (back_of nodes end 0 score) k).visits ≡ add binary32 (node_at nodes k).visits one
      here = on nodes count end score growing.tree inside

      other : (k : ℕ) → elem (path_of nodes end 0) k ≡ false → (node_at (back_of nodes end 0 score) k).visits ≡ (node_at nodes k).visits
      other = off nodes count end score growing.tree inside

      below : (k : ℕ) → k < count → T (le (node_at nodes k).visits (float (done + 1)))
      below k h =
          le_through _ (float done) (float (done + 1)) (count_finite _ (counts k h)) (float_finite done (omega arith)) (float_finite (done + 1) (omega arith))
          (most k h) (float_rises done (done + 1) (omega arith) (omega arith))

-- ---- after what an iteration stored

module _ (c : CraftContext) (nodes : List Node) (count k n done : ℕ) (score : Float) {after : List Node} (visited : Visited nodes count done)
    (inside : k < count) (st : Stored c nodes count k n after) (top : done < count_most) where
  -- a new record has no visit
  stored_most : (j : ℕ) → j < count + n → T (le (node_at after j).visits (float done))
  stored_most j h = ⊎_elim old new (either (nat_lt j count))
    where
      old : ltb j count ≡ true → T (le (node_at after j).visits (float done))
      old e = let l : j < count = ltb-true j count e in rw (st.kept j l) (visited.most j l)

      new : ltb j count ≡ false → T (le (node_at after j).visits (float done))
      new e =
          let l : count ≤ j = ltb-false j count e in
          let split : count + (j - count) ≡ j = omega arith in
          rw (← split, st.fresh (j - count) (omega arith)) (float_rises 0 done (omega arith) (omega arith))

  -- THE law of back-propagation in a search: each new record is on the way
  pub iterated : is_score score ≡ true → Touches c after (count + n) (last_stored count k n) done score
  iterated is =
      touches c after (count + n) (last_stored count k n) done score st.growing (last_inside count k n inside) is top stored_most
      (ap (λ (m : Node). m.visits) (st.kept 0 (omega arith)) ∙ visited.root)
      (λ j a b e. seen j a b e (either (nat_lt j count)))
    where
      seen : (j : ℕ) → 0 < j → j < count + n → elem (path_of after (last_stored count k n) 0) j ≡ false → (nat_lt j count ≡ true) ⊎ (nat_lt j count ≡ false)
          → T (le one (node_at after j).visits)
      seen j a b e (inl t) = let l : j < count = ltb-true j count t in rw (st.kept j l) (visited.seen j a l)
      seen j a b e (inr t) = absurd (true_false (sym (stored_path st j (ltb-false j count t) b) ∙ e))
