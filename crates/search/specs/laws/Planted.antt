-- A search starts with the records of a search, and no iteration done.
-- Assumes nothing.
use Rattle.std.specs.Prelude.{◌≡◌, ℕ, ◌<◌, not, ◌&&◌, T, List, length}
use Rattle.std.proofs.Common.{sym, arith, get_or-set_same, lt-ltb}
use Rattle.std.specs.Float.Ieee.{le}
use Rattle.laws.specs.Bits.{has}
use Rattle.laws.specs.Floats.{float}
use Rattle.laws.specs.laws.Tests.{and_true}
use Rattle.craft_context.specs.declared.context.CraftContext.{CraftContext}
use Rattle.craft_state.specs.Start.{start_of}
use Rattle.moves.specs.Moves.{moves_of}
use Rattle.moves.specs.Modes.{plain}
use Rattle.tree.specs.declared.node.Node.{Node}
use Rattle.tree.specs.Node.{root_node}
use Rattle.tree.specs.Refusals.{new_count}
use Rattle.tree.specs.Tree.{no_node, node_at, planted_of}
use Rattle.tree.specs.laws.Tree.{planted_sound}
use Rattle.search.specs.inner.Grown.{moves_in, is_taken, Growing, Visited}
use Rattle.search.specs.laws.States.{state_root}
use Rattle.search.specs.laws.Moves.{moves_set}
use Rattle.tree.specs.laws.Visits.{float_rises}

module _ (c : CraftContext) (nodes : List Node) (some : 0 < length nodes) where
  abbrev moves : ℕ
  moves = moves_of c (start_of c) plain

  abbrev planted : List Node
  planted = planted_of nodes moves

  pub planted_root : node_at planted 0 ≡ root_node moves
  planted_root = get_or-set_same nodes 0 (root_node moves) no_node some

  pub planted_growing : Growing c planted new_count
  unfolding is_taken
  planted_growing =
      record {
        tree = planted_sound nodes moves (lt-ltb _ _ (moves_set c (start_of c) plain)) some;
        legal = λ k a h. absurd (omega arith);
        left = λ k h n l. first k (omega arith) n;
        once = λ j k a h b i p q. absurd (omega arith);
      }
    where
      first : (k : ℕ) → k ≡ 0 → (n : ℕ) → has (node_at planted k).unused n ≡ has (moves_in c planted k) n && not (is_taken new_count planted k n)
      first k e n = rw (e, planted_root, state_root c planted) (sym (and_true (has moves n)))

  pub planted_visited : Visited planted new_count 0
  planted_visited =
      record {
        root = rw planted_root;
        seen = λ k a h. absurd (omega arith);
        most = λ k h. first k (omega arith);
      }
    where
      first : (k : ℕ) → k ≡ 0 → T (le (node_at planted k).visits (float 0))
      first k e = rw (e, planted_root) (float_rises 0 0 (omega arith) (omega arith))
