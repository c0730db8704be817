-- A path stored draw by draw: what its first draw asks, that the rest is then a path to store below the new record, and the loop that goes through them.
-- Assumes nothing.
use Rattle.std.specs.Prelude.{◌≡◌, ℕ, suc, ◌+◌, ◌-◌, ◌<◌, ◌≤◌, true, List, length, drop, slice_index, refl, Float}
use Rattle.std.proofs.Math.Path.{sym, subst}
use Rattle.std.proofs.Common.{ap, ◌∙◌, add-zero}
use Rattle.std.proofs.Math.Numerals.{add-one}
use native.Mathlib.Omega.{arith}
use Rattle.laws.specs.Bits.{has}
use Rattle.laws.specs.laws.Lists.{drop_at}
use Rattle.action.specs.Known.{actions}
use Rattle.action.specs.Table.{attributes_of}
use Rattle.action.specs.laws.Bounds.{rows_bounded}
use Rattle.action_set.specs.Sets.{SetIn, size_of, nth_of}
use Rattle.action_set.specs.laws.Nth.{nth_named}
use Rattle.craft_context.specs.declared.context.CraftContext.{CraftContext}
use Rattle.craft_state.specs.declared.state.CraftState.{CraftState}
use Rattle.craft_state.specs.Inside.{CraftIn}
use Rattle.step.specs.Step.{execute_of}
use Rattle.step.specs.inner.Asked.{Playable}
use Rattle.moves.specs.Modes.{plain}
use Rattle.moves.specs.Moves.{moves_of}
use Rattle.moves.specs.laws.Moves.{legal_playable, legal_keeps}
use Rattle.rollout.specs.Rollout.{sampled_of, strict_moves}
use Rattle.tree.specs.declared.node.Node.{Node}
use Rattle.tree.specs.Tree.{node_at, back_of}
use Rattle.tree.specs.inner.Back.{Reaches}
use Rattle.tree.specs.laws.Tree.{tree_falls}
use Rattle.tree.specs.laws.Upward.{root_reached}
use Rattle.search.specs.Select.{state_at}
use Rattle.search.specs.Iterate.{below_of, store_of, last_stored}
use Rattle.search.specs.inner.Grown.{Growing}
use Rattle.search.specs.inner.Links.{link_of}
use Rattle.search.specs.inner.Ready.{Drawable, Storing, Stores, Carried}
use Rattle.search.specs.laws.Below.{below_length, below_new, below_state, below_growing}
use Rattle.search.specs.laws.Legal.{unused_set, unused_known, unused_plain}
use Rattle.search.specs.laws.Links.{links_below}
use Rattle.search.specs.laws.Stored.{last_is}
use Rattle.search.specs.laws.Touched.{touch_links}

-- ---- the first draw

module _ {c : CraftContext} {s : CraftState} {nodes : List Node} {count k : ℕ} {links draws : List ℕ} {at n : ℕ}
    (st : Storing c s nodes count k links draws at (suc n)) where
  abbrev unused : ℕ
  unused = (node_at nodes k).unused

  abbrev draw : ℕ
  draw = slice_index draws at

  abbrev action : ℕ
  action = nth_of unused draw

  abbrev next : CraftState
  next = execute_of c s action

  abbrev after : List Node
  after = below_of nodes count k action (strict_moves c next)

  pub store_draw : at < length draws
  store_draw = omega (arith, st.draws_left)

  pub store_room : count < length nodes
  store_room = omega (arith, st.room)

  pub store_set : SetIn unused
  store_set = unused_set c nodes count st.growing k st.inside

  drawable : (draw < size_of unused) × Drawable c next (strict_moves c next) n (drop (at + 1) draws)
  unfolding Drawable
  drawable = subst (Drawable c s unused (suc n)) (drop_at draws at store_draw) st.drawable

  pub store_low : draw < size_of unused
  store_low = drawable.0

  named : has unused action ≡ true
  named = (nth_named unused draw store_low).member.is

  store_known : action < actions
  store_known = unused_known c nodes count st.growing k st.inside action named

  legal : has (moves_of c s plain) action ≡ true
  legal = rw st.state (unused_plain c nodes count st.growing k st.inside action named)

  pub store_playable : Playable c s action (attributes_of action)
  store_playable = legal_playable attributes_of rows_bounded c s plain action st.craft store_known legal

  pub store_craft : CraftIn c next
  store_craft = legal_keeps attributes_of rows_bounded c s plain action st.craft store_known legal

  -- ---- the rest of the path

  new_unused : (node_at after count).unused ≡ strict_moves c next
  new_unused = ap (λ (m : Node). m.unused) (below_new nodes count k action (strict_moves c next) st.inside store_room)

  growing_next : Growing c after (count + 1)
  growing_next =
      rw (add-one count)
      (subst (λ (s : CraftState). Growing c (below_of nodes count k action (strict_moves c (execute_of c s action))) (suc count)) (sym st.state)
      (below_growing c nodes count k action st.growing st.inside store_room named))

  state_next : next ≡ state_at c after count
  state_next =
      subst (λ (s : CraftState). execute_of c s action ≡ state_at c (below_of nodes count k action (strict_moves c (execute_of c s action))) count) (sym st.state)
      (sym (below_state c nodes count k action st.growing st.inside store_room named))

  store_next : Storing c next after (count + 1) count (link_of links k count) draws (at + 1) n
  store_next =
      record {
        growing = growing_next;
        craft = store_craft;
        inside = omega arith;
        state = state_next;
        room = rw below_length (omega (arith, st.room));
        draws_left = omega (arith, st.draws_left);
        drawable = rw new_unused drawable.1;
        index = rw (add-one count) (links_below nodes count k action (strict_moves c next) links st.inside store_room st.index);
      }

  -- what the whole path leaves, the rest leaves
  store_rest : store_of c nodes count k s (sampled_of c s unused (suc n) (drop at draws))
      ≡ store_of c after (count + 1) count next (sampled_of c next (node_at after count).unused n (drop (at + 1) draws))
  unfolding store_of sampled_of
  store_rest = rw (drop_at draws at store_draw, new_unused, add-one count)

-- ---- the loop: i records of the path are stored, the last of them is record `end`

pub record Part (c : CraftContext) (s : CraftState) (nodes : List Node) (count k : ℕ) (draws : List ℕ) (at stored i end : ℕ) (state : CraftState)
    (now : List Node) (index : List ℕ) : Type 0 where
  pub upto : i ≤ stored
  pub storing : Storing c state now (count + i) end index draws (at + i) (stored - i)
  pub last : end ≡ last_stored count k i
  pub rest : store_of c nodes count k s (sampled_of c s (node_at nodes k).unused stored (drop at draws))
      ≡ store_of c now (count + i) end state (sampled_of c state (node_at now end).unused (stored - i) (drop (at + i) draws))

module _ {c : CraftContext} {s : CraftState} {nodes : List Node} {count k : ℕ} {draws : List ℕ} {at stored : ℕ} where
  pub part_first : {links : List ℕ} → Storing c s nodes count k links draws at stored → Part c s nodes count k draws at stored 0 k s nodes links
  part_first st =
      let all : stored - 0 ≡ stored = omega arith in
      record { upto = omega arith; storing = rw (add-zero count, add-zero at, all) st; last = refl; rest = rw (add-zero count, add-zero at, all) }

  module _ {i end : ℕ} {state : CraftState} {now : List Node} {index : List ℕ} (p : Part c s nodes count k draws at stored i end state now index) where
    module _ (less : i < stored) where
      left : stored - i ≡ suc (stored - (i + 1))
      left = omega arith

      pub part_on : Storing c state now (count + i) end index draws (at + i) (suc (stored - (i + 1)))
      part_on = subst (Storing c state now (count + i) end index draws (at + i)) left p.storing

      pub part_more : {action : ℕ} {next : CraftState} {after : List Node} {linked : List ℕ} → action ≡ nth_of (node_at now end).unused (slice_index draws (at + i))
          → next ≡ execute_of c state action → after ≡ below_of now (count + i) end action (strict_moves c next) → linked ≡ link_of index end (count + i)
          → Part c s nodes count k draws at stored (i + 1) (count + i) next after linked
      part_more a e f g =
          let here : count + (i + 1) ≡ count + i + 1 = omega arith in
          let there : at + (i + 1) ≡ at + i + 1 = omega arith in
          rw (f, g, e, a)
          (record {
            upto = omega arith;
            storing = rw (here, there) (store_next part_on);
            last = sym (rw add-one (last_is count k i));
            rest =
                p.rest
                ∙ ap (λ (n : ℕ). store_of c now (count + i) end state (sampled_of c state (node_at now end).unused n (drop (at + i) draws))) left
                ∙ rw (here, there) (store_rest part_on);
          })

    -- all of them
    pub part_all : stored ≤ i → Stores c s nodes count k draws at stored end now index
    unfolding store_of sampled_of
    part_all over =
        let all : i ≡ stored = omega (arith, p.upto) in
        let none : stored - i ≡ 0 = omega arith in
        record {
          last = rw (← all) p.last;
          inside = rw (← all) p.storing.inside;
          growing = rw (← all) p.storing.growing;
          records = sym (p.rest ∙ rw none);
          links = rw (← all) p.storing.index;
        }

-- ---- and the score propagated from its end

module _ {c : CraftContext} {s : CraftState} {nodes : List Node} {count k : ℕ} {draws : List ℕ} {at stored end : ℕ} {path : List Node} {index : List ℕ}
    (st : Stores c s nodes count k draws at stored end path index) where
  pub stored_reaches : Reaches path end 0
  stored_reaches = root_reached path (count + stored) (tree_falls st.growing.tree) end st.inside st.growing.tree.room

  pub carried : {score : Float} {after : List Node} → after ≡ back_of path end 0 score → Carried c s nodes count k draws at stored score after index
  carried {score} e =
      rw e
      (record {
        records = rw (← st.last, ← st.records);
        links = touch_links path (count + stored) end score st.growing.tree st.inside index st.links;
      })
