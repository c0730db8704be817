-- Laws of the table of best children: what it has after each record of the pass, and that the way down by it is that of document 01's rule.
-- Assumes nothing.
use Rattle.std.specs.Prelude.{◌≡◌, ℕ, zero, suc, ◌+◌, ◌<◌, ◌≤◌, Bool, true, false, cond, List, length, replicate, ◌==◌, ◌≢◌, nat_lt, slice_set, Float, Option, Some, None}
use Rattle.std.proofs.Math.Path.{refl, sym}
use Rattle.std.proofs.Common.{ap, ◌∙◌, arith, length-set, get_or-set_same, get_or-set_other}
use Rattle.std.proofs.lemmas.List.{length-map, length-replicate}
use Rattle.std.proofs.Math.ListN.{get_or-eq_default}
use borrow.Author.Tests.{ltb-true, ltb-false, eqb-true, eqb-false, eq-eqb, ne_eqb}
use Rattle.tree.specs.declared.node.Node.{Node}
use Rattle.tree.specs.declared.best.Best.{Best}
use Rattle.tree.specs.Tree.{node_at, best_of, onward, descent_of, solution_of}
use Rattle.tree.specs.inner.Best.{taken, is_better, pick_of, best_to, at_of}
use Rattle.tree.specs.inner.Sound.{SoundTree}
use Rattle.tree.specs.inner.Few.{few, entry_at, taken_at, child_noted, Bests, Blank, follow_in, Rises, way_of}
use Rattle.tree.specs.laws.Tree.{tree_falls}
use Rattle.tree.specs.laws.Best.{best_first, best_next, child_some, IsBest, best_child, best_rule}
use Rattle.tree.specs.laws.Follow.{follow_steps, follow_next, follow_length, follow_same}
use Rattle.tree.specs.laws.Solution.{best_below, best_rises, tree_rises, descent_follows}

-- ---- the pass

-- each record's best child among the first m
abbrev pub BestsTo : ℕ → List Node → List ℕ → Type 0
BestsTo m nodes best = (p : ℕ) → p < length best → entry_at best p ≡ at_of (best_to m nodes p)

-- a table of zeros
blank_entry : (n p : ℕ) → entry_at (replicate n 0) p ≡ 0
blank_entry zero p = refl
blank_entry (suc n) zero = refl
blank_entry (suc n) (suc p) = blank_entry n p

pub blank_length : (best : List ℕ) → best ≡ replicate few 0 → length best ≡ few
blank_length best e = ap length e ∙ length-replicate {A = ℕ} few 0

pub blank_table : {nodes : List Node} {count : ℕ} → SoundTree nodes count → count ≤ few → (best : List ℕ) → best ≡ replicate few 0 → Blank nodes count best
blank_table tree most best e =
    record { tree = tree; room = omega (arith, most, blank_length best e); most = most; none = λ p. ap (λ (l : List ℕ). entry_at l p) e ∙ blank_entry few p }

pub bests_first : {nodes : List Node} {count : ℕ} {best : List ℕ} → Blank nodes count best → BestsTo 1 nodes best
bests_first {nodes} blank p h = blank.none p ∙ sym (ap at_of (best_first nodes p))

noted_length : (nodes : List Node) (best : List ℕ) (k : ℕ) → length (child_noted nodes best k) ≡ length best
noted_length nodes best k = go (is_better (taken_at nodes (entry_at best (node_at nodes k).parent)) (node_at nodes k))
  where
    go : (t : Bool) → length (cond t (slice_set best (node_at nodes k).parent k) best) ≡ length best
    go true = length-set best (node_at nodes k).parent k
    go false = refl

module _ (nodes : List Node) (k : ℕ) (some : 0 < k) (best : List ℕ) (before : BestsTo k nodes best) (room : (node_at nodes k).parent < length best) where
  abbrev above : ℕ
  above = (node_at nodes k).parent

  -- a best child is among the first records
  pub entry_before : entry_at best above < k
  entry_before = rw (before above room) (go (best_to k nodes above) (best_child k nodes above))
    where
      go : (c : Option Best) → IsBest k nodes above c → at_of c < k
      go None e = some
      go (Some b) e = e.below

  -- its max_score is that of its record
  taken_same : taken_at nodes (entry_at best above) ≡ best_to k nodes above
  taken_same = rw (before above room) (go (best_to k nodes above) (best_child k nodes above))
    where
      at : (b : ℕ) → 0 < b → taken_at nodes b ≡ Some (taken b (node_at nodes b))
      at zero h = absurd (omega arith)
      at (suc b) h = refl

      go : (c : Option Best) → IsBest k nodes above c → taken_at nodes (at_of c) ≡ c
      go None e = refl
      go (Some b) e =
          at b.at (child_some b.at (node_at nodes b.at) above e.child)
          ∙ ap (λ (s : Float). Some (record { at = b.at; max_score = s })) (sym e.score)

  abbrev better : Bool
  better = is_better (best_to k nodes above) (node_at nodes k)

  -- the parent's entry
  taken_here : (t : Bool) → entry_at (cond t (slice_set best above k) best) above ≡ at_of (cond t (Some (taken k (node_at nodes k))) (best_to k nodes above))
  taken_here true = get_or-set_same best above k 0 room
  taken_here false = before above room

  best_here : best_to (k + 1) nodes above ≡ cond better (Some (taken k (node_at nodes k))) (best_to k nodes above)
  unfolding pick_of
  best_here = sym (best_next k nodes above) ∙ rw (ne_eqb k 0 (λ z. omega arith), eq-eqb above above refl) refl

  -- any other
  taken_there : (p : ℕ) → (p ≢ above) → (t : Bool) → entry_at (cond t (slice_set best above k) best) p ≡ entry_at best p
  taken_there p other true = get_or-set_other best above p k 0 other
  taken_there p other false = refl

  best_there : (p : ℕ) → (p ≢ above) → best_to (k + 1) nodes p ≡ best_to k nodes p
  unfolding pick_of
  best_there p other = sym (best_next k nodes p) ∙ simp (ne_eqb k 0 (λ z. omega arith), ne_eqb above p (λ e. other (sym e)))

  -- THE law of the pass
  pub bests_next : BestsTo (k + 1) nodes (child_noted nodes best k)
  bests_next p h = rw taken_same (go (p == above) refl)
    where
      go : (t : Bool) → (p == above) ≡ t → entry_at (cond better (slice_set best above k) best) p ≡ at_of (best_to (k + 1) nodes p)
      go true e = rw (eqb-true p above e) (taken_here better ∙ sym (ap at_of best_here))
      go false e =
          let other : p ≡ above → ⊥ = eqb-false p above e in
          taken_there p other better ∙ before p (rw (noted_length nodes best k) at h) ∙ sym (ap at_of (best_there p other))

pub bests_all : (nodes : List Node) (count : ℕ) → SoundTree nodes count → (best : List ℕ) → BestsTo count nodes best → Bests nodes count best
bests_all nodes count tree best all p h = all p h ∙ best_rule nodes count tree p

-- ---- the way down by the table

module _ (nodes : List Node) (count : ℕ) (tree : SoundTree nodes count) (best : List ℕ) (room : count ≤ length best) (bests : Bests nodes count best) where
  pub table_rises : Rises (entry_at best) (length best)
  table_rises = record {
    up = λ k some. let e = bests k (inside k some) in omega (arith, e, best_rises nodes count (tree_falls tree) k (omega (arith, e)));
    below = λ k some. let e = bests k (inside k some) in omega (arith, e, best_below nodes count (tree_falls tree) k (omega (arith, e)));
  }
    where
      inside : (k : ℕ) → 0 < entry_at best k → k < length best
      inside k some = go (nat_lt k (length best)) refl
        where
          go : (t : Bool) → nat_lt k (length best) ≡ t → k < length best
          go true e = ltb-true k (length best) e
          go false e = absurd (omega (arith, get_or-eq_default best 0 (ltb-false k (length best) e)))

  pub way_length : length (way_of best) ≡ length (solution_of nodes count)
  way_length =
      let falls = tree_falls tree in
      let same : way_of best ≡ descent_of nodes count 0 =
      follow_same (entry_at best) (length best) table_rises (best_of count nodes) bests (length best) 0 (omega (arith, tree.some))
      ∙ follow_steps (best_of count nodes) count (tree_rises nodes count falls) (length best) count 0 (omega arith) (omega arith)
      ∙ sym (descent_follows nodes count falls count 0) in
      ap length same ∙ rw length-map refl

-- ---- how much of it is left, for the loop that measures it

-- from record k on, with k
abbrev pub left_of : List ℕ → ℕ → ℕ
left_of best k = length (onward k (follow_in (entry_at best) (length best)))

module _ (best : List ℕ) (rises : Rises (entry_at best) (length best)) where
  pub left_first : left_of best (entry_at best 0) ≡ length (way_of best)
  left_first = sym (ap length (follow_next (entry_at best) (length best) rises 0))

  pub left_on : (k : ℕ) → 0 < k → left_of best k ≡ suc (left_of best (entry_at best k))
  left_on zero some = absurd (omega arith)
  left_on (suc k) some = ap (λ (l : List ℕ). suc (length l)) (follow_next (entry_at best) (length best) rises (suc k))

  module _ (some : 0 < length best) where
    pub entry_inside : (k : ℕ) → entry_at best k < length best
    entry_inside k = go (entry_at best k) refl
      where
        go : (b : ℕ) → entry_at best k ≡ b → b < length best
        go zero e = some
        go (suc b) e = rw e at (rises.below k (omega (arith, e)))

    pub way_short : length (way_of best) < length best
    way_short = omega (arith, follow_length (entry_at best) (length best) rises (length best) 0 some)
