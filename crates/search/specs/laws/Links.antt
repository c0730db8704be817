-- The index of children: it holds of a planted tree, is kept where a record is stored and where floats change, and leads from child to child, newest first.
-- Assumes nothing.
use Rattle.std.specs.Prelude.{◌≡◌, ℕ, zero, suc, ◌+◌, ◌*◌, ◌<◌, ◌≤◌, Bool, true, false, cond, List, length, replicate, ◌==◌, nat_lt, slice_set, Option, Some}
use Rattle.std.proofs.Math.Path.{refl}
use Rattle.std.proofs.Common.{sym, ap, ◌∙◌, ⊎_elim, le_refl, arith, get_or-set_same}
use Rattle.std.proofs.Math.ListN.{length-set}
use Rattle.std.proofs.lemmas.List.{length-replicate, get_or-replicate}
use Rattle.std.proofs.Math.Seq.{get_or-set_other}
use borrow.Author.Tests.{le-ltb, ltb-true, ltb-false, ne_eqb, eqb-true, eqb-false}
use Rattle.tree.specs.declared.node.Node.{Node}
use Rattle.tree.specs.Tree.{node_at, is_child}
use Rattle.tree.specs.laws.Tree.{last_or_below}
use Rattle.rates.specs.declared.Best.{Best}
use Rattle.rates.specs.declared.Weights.{Weights}
use Rattle.search.specs.inner.Newest.{better_node, best_down}
use Rattle.search.specs.inner.Links.{linked, last_at, older_at, last_below, top_of, Links, link_of}
use Rattle.search.specs.Iterate.{below_of}
use Rattle.search.specs.laws.Below.{below_new, below_alike}
use Rattle.search.specs.laws.Newest.{down_child}

-- ---- the lesser of count and room

module _ (count : ℕ) where
  by_test : (P : ℕ → Type 0) → (count < linked → P count) → (linked ≤ count → P linked) → P (top_of count)
  by_test P below past = go (nat_lt count linked) refl
    where
      go : (t : Bool) → nat_lt count linked ≡ t → P (cond t count linked)
      go true e = below (ltb-true count linked e)
      go false e = past (ltb-false count linked e)

  pub top_count : top_of count ≤ count
  top_count = by_test (λ n. n ≤ count) (λ l. le_refl count) (λ l. l)

  pub top_linked : top_of count ≤ linked
  top_linked = by_test (λ n. n ≤ linked) (λ l. omega arith) (λ l. le_refl linked)

  pub top_some : 0 < count → 0 < top_of count
  top_some some = by_test (λ n. 0 < n) (λ l. some) (λ l. omega arith)

  top_is : count ≤ linked → top_of count ≡ count
  top_is h = by_test (λ n. n ≡ count) (λ l. refl) (λ l. omega arith)

-- ---- the last child among the first t records

module _ (nodes : List Node) (parent : ℕ) where
  -- it is one of them
  pub last_child : (t : ℕ) → 0 < last_below t nodes parent
      → (last_below t nodes parent < t) × (is_child (last_below t nodes parent) (node_at nodes (last_below t nodes parent)) parent ≡ true)
  unfolding last_below
  last_child zero some = absurd (omega arith)
  last_child (suc k) some = go (is_child k (node_at nodes k) parent) refl some (last_child k)
    where
      below : ℕ
      below = last_below k nodes parent

      go : (t : Bool) → is_child k (node_at nodes k) parent ≡ t → 0 < cond t k below
          → (0 < below → (below < k) × (is_child below (node_at nodes below) parent ≡ true))
          → (cond t k below < suc k) × (is_child (cond t k below) (node_at nodes (cond t k below)) parent ≡ true)
      go true e some rest = (omega arith, e)
      go false e some rest = let r = rest some in (omega (arith, r.0), r.1)

  -- none is between it and record t, so the best child is that from it on; where there is none record 0 is left, which is no child
  pub down_skips : (weights : Weights) (t : ℕ) (best : Option Best)
      → best_down weights nodes parent t best ≡ best_down weights nodes parent (last_below t nodes parent + 1) best
  unfolding last_below best_down
  down_skips weights zero best = refl
  down_skips weights (suc k) best = go (is_child k (node_at nodes k) parent) refl (down_skips weights k best)
    where
      below : ℕ
      below = last_below k nodes parent

      go : (t : Bool) → is_child k (node_at nodes k) parent ≡ t → best_down weights nodes parent k best ≡ best_down weights nodes parent (below + 1) best
          → best_down weights nodes parent k (cond t (Some (better_node best k (node_at nodes k) weights)) best) ≡ best_down weights nodes parent (cond t k below + 1) best
      go true e rest = sym (down_child weights nodes parent k best e)
      go false e rest = rest

pub last_alike : (nodes others : List Node) (t parent : ℕ) → ((k : ℕ) → k < t → (node_at others k).parent ≡ (node_at nodes k).parent)
    → last_below t others parent ≡ last_below t nodes parent
unfolding last_below
last_alike nodes others zero parent same = refl
last_alike nodes others (suc k) parent same = rw (same k (omega arith), last_alike nodes others k parent (λ j h. same j (omega arith)))

-- ---- the index

-- of one record, that has no children: all zeros
pub links_none : (nodes : List Node) (n : ℕ) → n ≡ 2 * linked → Links nodes 1 (replicate n 0)
unfolding last_below
links_none nodes n e =
    record {
      room = length-replicate {A = ℕ} n 0 ∙ e;
      last = λ k h. get_or-replicate {A = ℕ} n (2 * k) 0 0 (omega arith);
      older = λ k some h. absurd (omega arith);
    }

-- where parents stay
pub links_alike : (nodes others : List Node) (count : ℕ) (links : List ℕ) → ((k : ℕ) → k < count → (node_at others k).parent ≡ (node_at nodes k).parent)
    → Links nodes count links → Links others count links
links_alike nodes others count links same l =
    record {
      room = l.room;
      last = λ k h. l.last k h ∙ sym (last_alike nodes others (top_of count) k (λ j b. same j (omega (arith, top_count count))));
      older = λ k some h.
          rw (same k (omega (arith, top_count count)))
          (l.older k some h ∙ sym (last_alike nodes others k (node_at nodes k).parent (λ j b. same j (omega (arith, top_count count)))));
    }

-- a record more, below its parent
module _ (nodes others : List Node) (count parent : ℕ) (links : List ℕ) (same : (k : ℕ) → k < count → (node_at others k).parent ≡ (node_at nodes k).parent)
    (new : (node_at others count).parent ≡ parent) (inside : parent < count) (l : Links nodes count links) where
  -- within the room
  module _ (fits : count < linked) where
    abbrev first : List ℕ
    first = slice_set links (2 * count + 1) (last_at links parent)

    abbrev after : List ℕ
    after = slice_set first (2 * parent) count

    older_new : older_at after count ≡ last_below count others (node_at others count).parent
    older_new =
        get_or-set_other first (2 * parent) (2 * count + 1) count 0 (λ e. omega arith)
        ∙ get_or-set_same links (2 * count + 1) (last_at links parent) 0 (omega (arith, l.room))
        ∙ l.last parent (omega arith)
        ∙ rw (top_is count (omega arith), new) (sym (last_alike nodes others count parent same))

    older_old : (k : ℕ) → 0 < k → k < count → older_at after k ≡ last_below k others (node_at others k).parent
    older_old k some h =
        get_or-set_other first (2 * parent) (2 * k + 1) count 0 (λ e. omega arith)
        ∙ get_or-set_other links (2 * count + 1) (2 * k + 1) (last_at links parent) 0 (λ e. omega arith)
        ∙ l.older k some (omega (arith, top_is count (omega arith)))
        ∙ rw (same k h) (sym (last_alike nodes others k (node_at nodes k).parent (λ j b. same j (omega arith))))

    last_new : (k : ℕ) → k < linked → last_at after k ≡ last_below (suc count) others k
    unfolding last_below
    last_new k h = rw (new, ne_eqb count 0 (λ e. omega arith)) (go (parent == k) refl)
      where
        go : (t : Bool) → (parent == k) ≡ t → last_at after k ≡ cond t count (last_below count others k)
        go true e = rw (← eqb-true parent k e) (get_or-set_same first (2 * parent) count 0 (rw length-set (omega (arith, l.room))))
        go false e =
            let apart : parent ≡ k → ⊥ = eqb-false parent k e in
            get_or-set_other first (2 * parent) (2 * k) count 0 (λ q. omega arith)
            ∙ get_or-set_other links (2 * count + 1) (2 * k) (last_at links parent) 0 (λ q. omega arith)
            ∙ l.last k h ∙ rw (top_is count (omega arith)) (sym (last_alike nodes others count k same))

    linked_inside : Links others (suc count) after
    linked_inside =
        record {
          room = simp length-set l.room;
          last = λ k h. rw (top_is (suc count) fits) (last_new k h);
          older = λ k some h.
              ⊎_elim (λ q. rw q older_new) (λ b. older_old k some b) (last_or_below k count (omega (arith, top_is (suc count) fits)));
        }

  -- past it the index stays
  linked_outside : linked ≤ count → Links others (suc count) links
  linked_outside past =
      let a = links_alike nodes others count links same l in
      let more : top_of (suc count) ≡ top_of count = rw (le-ltb (suc count) linked (omega arith), le-ltb count linked past) in
      record { room = a.room; last = λ k h. rw more (a.last k h); older = λ k some h. a.older k some (rw more at h) }

  pub links_more : Links others (suc count) (link_of links parent count)
  links_more = go (nat_lt count linked) refl
    where
      go : (t : Bool) → nat_lt count linked ≡ t
          → Links others (suc count) (cond t (slice_set (slice_set links (2 * count + 1) (last_at links parent)) (2 * parent) count) links)
      go true e = linked_inside (ltb-true count linked e)
      go false e = linked_outside (ltb-false count linked e)

-- ---- so it is kept by what an iteration does

-- where one record is stored
pub links_below : (nodes : List Node) (count k action moves : ℕ) (links : List ℕ) → k < count → count < length nodes → Links nodes count links
    → Links (below_of nodes count k action moves) (suc count) (link_of links k count)
links_below nodes count k action moves links inside room l =
    links_more nodes (below_of nodes count k action moves) count k links (below_alike nodes count k action moves inside room).parent
    (ap (λ (n : Node). n.parent) (below_new nodes count k action moves inside room)) inside l
