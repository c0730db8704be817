-- `select` as the code goes: at each record the state there is carried along, and the record that comes next is asked for.
-- Assumes nothing.
use Rattle.std.specs.Prelude.{◌≡◌, ℕ, ◌<◌, List, refl, Float, Some, None}
use Rattle.std.proofs.Common.{sym, ap, ◌∙◌}
use Rattle.action.specs.Table.{attributes_of}
use Rattle.craft_context.specs.declared.context.CraftContext.{CraftContext}
use Rattle.craft_state.specs.declared.state.CraftState.{CraftState}
use Rattle.craft_state.specs.Start.{start_of}
use Rattle.step.specs.Step.{execute_of}
use Rattle.step.specs.inner.Asked.{Playable}
use Rattle.tree.specs.declared.node.Node.{Node}
use Rattle.tree.specs.Tree.{node_at, Falls}
use Rattle.tree.specs.inner.Best.{child_at}
use Rattle.tree.specs.laws.Best.{at_child, at_none}
use Rattle.tree.specs.laws.Tree.{tree_falls}
use Rattle.search.specs.declared.options.SearchOptions.{SearchOptions}
use Rattle.search.specs.Select.{next_of, select_in, select_of, state_at}
use Rattle.search.specs.inner.Ready.{Ready, chosen_of}
use Rattle.search.specs.laws.States.{state_root}
use Rattle.search.specs.laws.Descend.{next_child, next_rises, select_stop, select_on, next_state, next_playable}

-- at record k
pub record At (c : CraftContext) (o : SearchOptions) (logs : List Float) (nodes : List Node) (count k : ℕ) (s : CraftState) : Type 0 where
  pub inside : k < count
  pub state : s ≡ state_at c nodes k
  pub end : select_in count o logs nodes count k ≡ select_of o logs nodes count

module _ {c : CraftContext} {o : SearchOptions} {logs : List Float} {nodes : List Node} {count : ℕ} {links : List ℕ}
    (r : Ready c o logs nodes count links) where
  falls : Falls nodes count
  falls = tree_falls r.growing.tree

  pub at_first : {s : CraftState} → s ≡ start_of c → At c o logs nodes count 0 s
  at_first e = record { inside = r.growing.tree.some; state = e ∙ sym (state_root c nodes); end = refl }

  module _ {k : ℕ} {s : CraftState} (a : At c o logs nodes count k s) where
    -- none comes next
    pub at_end : None ≡ child_at (next_of o logs nodes count k) → record { at = k; state = s } ≡ chosen_of c o logs nodes count
    at_end e =
        let is : k ≡ select_of o logs nodes count = sym (select_stop o logs nodes count falls k (at_none _ e)) ∙ a.end in
        ap (λ (t : CraftState). record { at = k; state = t }) a.state ∙ ap (λ (j : ℕ). record { at = j; state = state_at c nodes j }) is

    module _ {next : ℕ} (is : Some next ≡ child_at (next_of o logs nodes count k)) where
      next_is : next ≡ next_of o logs nodes count k
      next_is = (at_child _ is).0

      more : 0 < next_of o logs nodes count k
      more = let found = at_child (next_of o logs nodes count k) is in rw (← found.0) found.1

      abbrev action : ℕ
      action = (node_at nodes next).action

      pub at_rises : k < next
      at_rises = rw next_is ((next_rises o logs nodes count falls).up k more)

      pub at_below : next < count
      at_below = rw next_is (next_child o logs nodes count k more).0

      pub at_playable : Playable c s action (attributes_of action)
      at_playable = rw (a.state, next_is) (next_playable c o logs nodes count r.growing k more r.asked.context r.asked.byte).0

      pub at_on : {t : CraftState} → t ≡ execute_of c s action → At c o logs nodes count next t
      at_on e =
          record {
            inside = at_below;
            state = e ∙ rw (a.state, next_is) (sym (next_state c o logs nodes count r.growing k more));
            end = rw next_is (sym (select_on o logs nodes count falls k more)) ∙ a.end;
          }
