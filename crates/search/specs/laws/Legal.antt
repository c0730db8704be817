-- What the records of a search say of their states: each is one that a craft came to, each record's action is legal at its parent, and its unused moves and its
-- children's actions are apart and together its state's moves, which are plain ones too.
-- Assumes nothing.
use Rattle.std.specs.Prelude.{◌≡◌, ℕ, zero, suc, ◌<◌, ◌≤◌, Bool, true, false, cond, not, ◌&&◌, ◌||◌, List, ◌==◌}
use Rattle.std.proofs.Math.Path.{refl}
use Rattle.std.proofs.Common.{sym, ◌∙◌, le_refl, arith}
use borrow.Author.Tests.{ltb-true, eqb-true, eqb-false, not-true}
use Rattle.laws.specs.Bits.{has}
use Rattle.laws.specs.laws.Tests.{true_false, both}
use Rattle.action.specs.Bounds.{RowBounds}
use Rattle.action.specs.Known.{actions}
use Rattle.action.specs.Table.{attributes_of}
use Rattle.action.specs.laws.Bounds.{rows_bounded}
use Rattle.action_set.specs.Sets.{SetIn}
use Rattle.craft_context.specs.declared.context.CraftContext.{CraftContext}
use Rattle.craft_context.specs.Limits.{ContextIn}
use Rattle.craft_state.specs.declared.state.CraftState.{CraftState}
use Rattle.craft_state.specs.Limits.{step_most}
use Rattle.step.specs.inner.Asked.{Playable}
use Rattle.moves.specs.Modes.{plain, strict}
use Rattle.moves.specs.Moves.{moves_of}
use Rattle.moves.specs.laws.Moves.{legal_known, legal_playable, strict_part}
use Rattle.score.specs.laws.Bounds.{Timely, start_timely, legal_timely}
use Rattle.tree.specs.declared.node.Node.{Node}
use Rattle.tree.specs.Tree.{node_at, is_child}
use Rattle.tree.specs.laws.Best.{child_parent}
use Rattle.tree.specs.laws.Node.{sound_parts}
use Rattle.tree.specs.laws.Tree.{tree_falls}
use Rattle.search.specs.Select.{state_at}
use Rattle.search.specs.inner.Grown.{mode_at, moves_in, is_taken, Growing}
use Rattle.search.specs.laws.States.{state_root, state_below}
use Rattle.search.specs.laws.Moves.{member_known}

-- the moves of a record, in its mode, are plain moves
pub plain_part : (c : CraftContext) (s : CraftState) (k n : ℕ) → has (moves_of c s (mode_at k)) n ≡ true → has (moves_of c s plain) n ≡ true
plain_part c s k n e = go (k == 0) e
  where
    go : (t : Bool) → has (moves_of c s (cond t plain strict)) n ≡ true → has (moves_of c s plain) n ≡ true
    go true e = e
    go false e = strict_part attributes_of c s n (legal_known attributes_of c s strict n e) e

module _ (c : CraftContext) (nodes : List Node) (count : ℕ) (growing : Growing c nodes count) where
  -- ---- unused moves

  module _ (k : ℕ) (inside : k < count) where
    pub unused_set : SetIn (node_at nodes k).unused
    unused_set = ltb-true _ _ (sound_parts (growing.tree.each k inside)).moves

    module _ (n : ℕ) (is : has (node_at nodes k).unused n ≡ true) where
      pub unused_known : n < actions
      unused_known = member_known (node_at nodes k).unused n unused_set is

      pub unused_move : has (moves_in c nodes k) n ≡ true
      unused_move = (both (has (moves_in c nodes k) n) (not (is_taken count nodes k n)) (sym (growing.left k inside n unused_known) ∙ is)).0

      pub unused_plain : has (moves_of c (state_at c nodes k) plain) n ≡ true
      unused_plain = plain_part c (state_at c nodes k) k n unused_move

  -- ---- unused moves and children's actions are apart, and together the moves

  -- a child's action is a move
  taken_in : (t k n : ℕ) → t ≤ count → is_taken t nodes k n ≡ true → has (moves_in c nodes k) n ≡ true
  unfolding is_taken
  taken_in zero k n h e = absurd (true_false (sym e))
  taken_in (suc t) k n h e = go (is_taken t nodes k n) refl (taken_in t k n (omega arith)) e
    where
      here : is_child t (node_at nodes t) k && ((node_at nodes t).action == n) ≡ true → has (moves_in c nodes k) n ≡ true
      here e =
          let is = both (is_child t (node_at nodes t) k) ((node_at nodes t).action == n) e in
          let some : t ≡ 0 → ⊥ = eqb-false t 0 (not-true (t == 0) (both (not (t == 0)) ((node_at nodes t).parent == k) is.0).0) in
          rw (child_parent t (node_at nodes t) k is.0, eqb-true (node_at nodes t).action n is.1) at (growing.legal t (omega arith) (omega arith))

      go : (b : Bool) → is_taken t nodes k n ≡ b → (b ≡ true → has (moves_in c nodes k) n ≡ true)
          → b || (is_child t (node_at nodes t) k && (node_at nodes t).action == n) ≡ true → has (moves_in c nodes k) n ≡ true
      go true q rest e = rest refl
      go false q rest e = here e

  module _ (k : ℕ) (inside : k < count) (n : ℕ) (known : n < actions) where
    pub moves_apart : has (node_at nodes k).unused n && is_taken count nodes k n ≡ false
    moves_apart = rw (growing.left k inside n known) (go (has (moves_in c nodes k) n) (is_taken count nodes k n))
      where
        go : (m t : Bool) → (m && not t) && t ≡ false
        go true true = refl
        go true false = refl
        go false t = refl

    pub moves_together : has (node_at nodes k).unused n || is_taken count nodes k n ≡ has (moves_in c nodes k) n
    moves_together = rw (growing.left k inside n known) (go (has (moves_in c nodes k) n) (is_taken count nodes k n) (taken_in count k n (le_refl count)))
      where
        go : (m t : Bool) → (t ≡ true → m ≡ true) → (m && not t) || t ≡ m
        go true true f = refl
        go true false f = refl
        go false true f = sym (f refl)
        go false false f = refl

  -- ---- the states

  module _ (context : ContextIn c) (byte : c.step_max ≤ step_most) where
    timely_in : (steps k : ℕ) → k ≤ steps → k < count → Timely c (state_at c nodes k)
    timely_in zero zero a h = rw (state_root c nodes) (start_timely c context)
    timely_in zero (suc k) a h = absurd (omega arith)
    timely_in (suc steps) zero a h = rw (state_root c nodes) (start_timely c context)
    timely_in (suc steps) (suc k) a h =
        let p : ℕ = (node_at nodes (suc k)).parent in
        let up : p < suc k = tree_falls growing.tree (suc k) (omega arith) h in
        rw (state_below c nodes count (tree_falls growing.tree) (suc k) (omega arith) h)
        (legal_timely c byte (state_at c nodes p) (timely_in steps p (omega arith) (omega arith)) attributes_of rows_bounded (mode_at p)
        (node_at nodes (suc k)).action (growing.legal (suc k) (omega arith) h))

    pub grown_timely : (k : ℕ) → k < count → Timely c (state_at c nodes k)
    grown_timely k h = timely_in k k (le_refl k) h

    -- what executing a record's action at its parent asks
    module _ (k : ℕ) (some : 0 < k) (inside : k < count) where
      abbrev parent : ℕ
      parent = (node_at nodes k).parent

      abbrev action : ℕ
      action = (node_at nodes k).action

      pub action_known : action < actions
      action_known = legal_known attributes_of c (state_at c nodes parent) (mode_at parent) action (growing.legal k some inside)

      pub grown_playable : Playable c (state_at c nodes parent) action (attributes_of action) × RowBounds action (attributes_of action)
      grown_playable =
          let up : parent < k = tree_falls growing.tree k some inside in (
            legal_playable attributes_of rows_bounded c (state_at c nodes parent) (mode_at parent) action (grown_timely parent (omega arith)).inside action_known
                (growing.legal k some inside),
            rows_bounded action action_known,
          )
