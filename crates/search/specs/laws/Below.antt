-- One record stored below another, which loses the action: what each record is then, and that the records are those of a search again, with the state after
-- the action at the new one.
-- Assumes nothing.
use Rattle.std.specs.Prelude.{◌≡◌, ℕ, suc, ◌<◌, Bool, true, false, not, ◌&&◌, ◌||◌, List, length, ◌==◌, ◌≢◌, nat_eq, slice_set, refl}
use Rattle.std.proofs.Common.{sym, ap, ◌∙◌, ⊎_elim, le_refl, add-one, arith, length-set, get_or-set_same, get_or-set_other}
use borrow.Author.Tests.{eq-eqb, ne_eqb, eqb-true, eqb-false, lt-ltb}
use Rattle.laws.specs.Bits.{has}
use Rattle.laws.specs.laws.Bits.{has_without}
use Rattle.laws.specs.laws.Tests.{true_false, either, and_true, or_false}
use Rattle.action.specs.Known.{actions}
use Rattle.action_set.specs.Sets.{SetIn, without_of}
use Rattle.action_set.specs.laws.Sets.{set_inside}
use Rattle.craft_context.specs.declared.context.CraftContext.{CraftContext}
use Rattle.step.specs.Step.{execute_of}
use Rattle.moves.specs.Moves.{moves_of}
use Rattle.moves.specs.Modes.{strict}
use Rattle.tree.specs.declared.node.Node.{Node}
use Rattle.tree.specs.Node.{node_of}
use Rattle.tree.specs.Sound.{sound_at}
use Rattle.tree.specs.Tree.{no_node, node_at, Falls}
use Rattle.tree.specs.inner.Sound.{SoundTree}
use Rattle.tree.specs.laws.Node.{sound_parts, sound_of}
use Rattle.tree.specs.laws.Tree.{last_or_below, tree_falls, inserted_sound}
use Rattle.search.specs.Select.{state_at}
use Rattle.search.specs.Iterate.{drawn_from, below_of}
use Rattle.search.specs.inner.Grown.{moves_in, is_taken, Growing}
use Rattle.search.specs.laws.States.{Alike, state_below, state_alike}
use Rattle.search.specs.laws.Taken.{taken_by, taken_none, taken_alike, moves_alike}
use Rattle.search.specs.laws.Moves.{moves_set}
use Rattle.search.specs.laws.Legal.{unused_known, unused_move, moves_apart}

-- ---- what each record is

-- a record with other unused moves
abbrev pub left_with : Node → ℕ → Node
left_with n unused =
    record {
      parent = n.parent;
      action = n.action;
      visits = n.visits;
      score_sum = n.score_sum;
      max_score = n.max_score;
      unused = unused;
    }

abbrev drawn_at : List Node → ℕ → ℕ → List Node
drawn_at nodes k action = slice_set nodes k (drawn_from (node_at nodes k) action)

-- the record whose action was drawn: all but its unused moves stays
drawn_record : (nodes : List Node) (k action : ℕ) → k < length nodes → node_at (drawn_at nodes k action) k ≡ drawn_from (node_at nodes k) action
drawn_record nodes k action h = get_or-set_same nodes k (drawn_from (node_at nodes k) action) no_node h

module _ (nodes : List Node) (count k action moves : ℕ) where
  pub below_length : length (below_of nodes count k action moves) ≡ length nodes
  below_length = simp length-set

  module _ (inside : k < count) (room : count < length nodes) where
    pub below_new : node_at (below_of nodes count k action moves) count ≡ node_of k action moves
    below_new = get_or-set_same (drawn_at nodes k action) count (node_of k action moves) no_node (rw length-set room)

    pub below_drawn : node_at (below_of nodes count k action moves) k ≡ drawn_from (node_at nodes k) action
    below_drawn = get_or-set_other (drawn_at nodes k action) count k (node_of k action moves) no_node (λ e. omega arith) ∙ drawn_record nodes k action (omega arith)

    pub below_other : (j : ℕ) → (j ≢ count) → (j ≢ k) → node_at (below_of nodes count k action moves) j ≡ node_at nodes j
    below_other j a b =
        get_or-set_other (drawn_at nodes k action) count j (node_of k action moves) no_node a
        ∙ get_or-set_other nodes k j (drawn_from (node_at nodes k) action) no_node b

    -- of a record that was used all but its unused moves stays
    pub below_kept : (j : ℕ) → j < count
        → node_at (below_of nodes count k action moves) j ≡ left_with (node_at nodes j) (node_at (below_of nodes count k action moves) j).unused
    below_kept j h = ⊎_elim here there (either (j == k))
      where
        after : Node
        after = node_at (below_of nodes count k action moves) j

        here : nat_eq j k ≡ true → after ≡ left_with (node_at nodes j) after.unused
        here e = rw (eqb-true j k e, below_drawn)

        there : nat_eq j k ≡ false → after ≡ left_with (node_at nodes j) after.unused
        there e = rw (below_other j (λ q. omega arith) (eqb-false j k e))

    pub below_alike : Alike nodes (below_of nodes count k action moves) count
    below_alike = record { parent = λ j h. ap (λ (n : Node). n.parent) (below_kept j h); action = λ j h. ap (λ (n : Node). n.action) (below_kept j h) }

-- ---- the records of a search again

eqb_turn : (m n : ℕ) → (m == n) ≡ (n == m)
eqb_turn m n = ⊎_elim (λ e. rw (eqb-true m n e)) (λ e. e ∙ sym (ne_eqb n m (λ q. eqb-false m n e (sym q)))) (either (m == n))

less_one : (move taken : Bool) (n action : ℕ) → (move && not taken) && not (n == action) ≡ move && not (taken || action == n)
less_one move taken n action = rw (eqb_turn n action) (go move taken (action == n))
  where
    go : (m t e : Bool) → (m && not t) && not e ≡ m && not (t || e)
    go true true e = refl
    go true false e = refl
    go false t e = refl

module _ (c : CraftContext) (nodes : List Node) (count k action : ℕ) (growing : Growing c nodes count) (inside : k < count) (room : count < length nodes)
    (is : has (node_at nodes k).unused action ≡ true) where
  abbrev moves : ℕ
  moves = moves_of c (execute_of c (state_at c nodes k) action) strict

  abbrev after : List Node
  after = below_of nodes count k action moves

  falls : Falls nodes count
  falls = tree_falls growing.tree

  known : action < actions
  known = unused_known c nodes count growing k inside action is

  drawn_tree : SoundTree (drawn_at nodes k action) count
  drawn_tree = record { some = growing.tree.some; room = rw length-set growing.tree.room; each = λ j h. ⊎_elim (here j) (there j h) (either (j == k)) }
    where
      here : (j : ℕ) → (j == k) ≡ true → sound_at j (node_at (drawn_at nodes k action) j) ≡ true
      here j e =
          let p = sound_parts (growing.tree.each k inside) in
          let less : SetIn (without_of (node_at nodes k).unused action) = set_inside (λ m. has (node_at nodes k).unused m && not (m == action)) in
          rw (eqb-true j k e, drawn_record nodes k action (omega arith))
          (sound_of (record { place = p.place; count = p.count; sum = p.sum; maximum = p.maximum; moves = lt-ltb _ _ less }))

      there : (j : ℕ) → j < count → (j == k) ≡ false → sound_at j (node_at (drawn_at nodes k action) j) ≡ true
      there j h e = rw (get_or-set_other nodes k j (drawn_from (node_at nodes k) action) no_node (eqb-false j k e)) (growing.tree.each j h)

  pub below_tree : SoundTree after (suc count)
  below_tree =
      rw add-one at
      (inserted_sound (drawn_at nodes k action) count k action moves drawn_tree (rw length-set room) inside (lt-ltb action actions known)
      (lt-ltb _ _ (moves_set c (execute_of c (state_at c nodes k) action) strict)))

  alike : Alike nodes after count
  alike = below_alike nodes count k action moves inside room

  pub below_before : (j : ℕ) → j < count → state_at c after j ≡ state_at c nodes j
  below_before = state_alike c nodes count falls after alike

  pub below_state : state_at c after count ≡ execute_of c (state_at c nodes k) action
  below_state =
      state_below c after (suc count) (tree_falls below_tree) count growing.tree.some (omega arith)
      ∙ rw (below_new nodes count k action moves inside room, below_before k inside)

  moves_before : (j : ℕ) → j < count → moves_in c after j ≡ moves_in c nodes j
  moves_before = moves_alike c nodes after count falls alike

  -- the new record's action is taken at its parent
  taken_more : (j n : ℕ) → is_taken (suc count) after j n ≡ is_taken count nodes j n || (k == j && action == n)
  unfolding is_taken
  taken_more j n =
      rw (taken_alike nodes after count alike count j n (le_refl count), below_new nodes count k action moves inside room, ne_eqb count 0 (λ e. omega arith))

  legal_more : (j : ℕ) → 0 < j → j < suc count → has (moves_in c after (node_at after j).parent) (node_at after j).action ≡ true
  legal_more j some h = ⊎_elim here before (last_or_below j count h)
    where
      here : j ≡ count → has (moves_in c after (node_at after j).parent) (node_at after j).action ≡ true
      here e = rw (e, below_new nodes count k action moves inside room, moves_before k inside) (unused_move c nodes count growing k inside action is)

      before : j < count → has (moves_in c after (node_at after j).parent) (node_at after j).action ≡ true
      before l =
          let up : (node_at nodes j).parent < j = falls j some l in
          rw (alike.parent j l, alike.action j l, moves_before (node_at nodes j).parent (omega arith)) (growing.legal j some l)

  left_more : (j : ℕ) → j < suc count → (n : ℕ) → n < actions
      → has (node_at after j).unused n ≡ has (moves_in c after j) n && not (is_taken (suc count) after j n)
  left_more j h n l = rw (taken_more j n) (⊎_elim here (λ b. ⊎_elim (drawn b) (other b) (either (j == k))) (last_or_below j count h))
    where
      Goal : Type 0
      Goal = has (node_at after j).unused n ≡ has (moves_in c after j) n && not (is_taken count nodes j n || (k == j && action == n))

      here : j ≡ count → Goal
      here e =
          rw (
            e,
            taken_none nodes count falls count count n (le_refl count) (le_refl count),
            ne_eqb k count (λ q. omega arith),
            ne_eqb count 0 (λ q. omega arith),
            below_state,
            below_new nodes count k action moves inside room,
          )
          (sym (and_true (has moves n)))

      drawn : j < count → (j == k) ≡ true → Goal
      drawn b e =
          rw (
            eqb-true j k e,
            eq-eqb k k refl,
            moves_before k inside,
            below_drawn nodes count k action moves inside room,
            has_without actions (node_at nodes k).unused action n l,
            growing.left k inside n l,
          )
          (less_one (has (moves_in c nodes k) n) (is_taken count nodes k n) n action)

      other : j < count → (j == k) ≡ false → Goal
      other b e =
          rw (
            ne_eqb k j (λ q. eqb-false j k e (sym q)),
            or_false,
            moves_before j b,
            below_other nodes count k action moves inside room j (λ q. omega arith) (eqb-false j k e),
          )
          (growing.left j b n l)

  -- no child of record k has the action yet
  no_second : (j : ℕ) → 0 < j → j < count → (node_at nodes j).parent ≡ k → (node_at nodes j).action ≡ action → ⊥
  no_second j some h p q =
      true_false (sym (rw q at (taken_by count nodes k j some h p)) ∙ rw is at (moves_apart c nodes count growing k inside action known))

  once_more : (i j : ℕ) → 0 < i → i < suc count → 0 < j → j < suc count → (node_at after i).parent ≡ (node_at after j).parent
      → (node_at after i).action ≡ (node_at after j).action → i ≡ j
  once_more i j a b d e p q = ⊎_elim first (λ l. ⊎_elim (second l) (neither_new l) (last_or_below j count e)) (last_or_below i count b)
    where
      -- the new one is a child of record k, with the action
      new : (m : ℕ) → m ≡ count → ((node_at after m).parent ≡ k) × ((node_at after m).action ≡ action)
      new m r = rw (r, below_new nodes count k action moves inside room) (refl, refl)

      old : (m : ℕ) → 0 < m → m < count → (node_at after m).parent ≡ k → (node_at after m).action ≡ action → ⊥
      old m some l u v = no_second m some l (sym (alike.parent m l) ∙ u) (sym (alike.action m l) ∙ v)

      first : i ≡ count → i ≡ j
      first r = ⊎_elim (λ t. r ∙ sym t) (λ l. absurd (old j d l (sym p ∙ (new i r).0) (sym q ∙ (new i r).1))) (last_or_below j count e)

      second : i < count → j ≡ count → i ≡ j
      second l r = absurd (old i a l (p ∙ (new j r).0) (q ∙ (new j r).1))

      neither_new : i < count → j < count → i ≡ j
      neither_new l m =
          growing.once i j a l d m (sym (alike.parent i l) ∙ p ∙ alike.parent j m) (sym (alike.action i l) ∙ q ∙ alike.action j m)

  pub below_growing : Growing c after (suc count)
  below_growing = record { tree = below_tree; legal = legal_more; left = left_more; once = once_more }
