-- Inner: a tree of few records, by a table that has for each record its best child. Contracts of inner functions cite it, and no statement of an entry
-- rests on it.
-- Assumes nothing.
use Rattle.std.specs.Prelude.{◌≡◌, ℕ, zero, suc, ◌<◌, ◌≤◌, cond, List, [], length, slice_index, slice_set, Option, Some, None}
use Rattle.tree.specs.declared.node.Node.{Node}
use Rattle.tree.specs.declared.best.Best.{Best}
use Rattle.tree.specs.Tree.{node_at, best_of, onward}
use Rattle.tree.specs.inner.Best.{is_better, taken}
use Rattle.tree.specs.inner.Sound.{SoundTree}

-- as many records as the table has room for
abbrev pub few : ℕ
few = 4096

-- and as many as are worth clearing it for: no answer depends on it
abbrev pub worth_a_table : ℕ
worth_a_table = 12

-- the best child of record p; 0 where there is none
abbrev pub entry_at : List ℕ → ℕ → ℕ
entry_at best p = slice_index best p

-- the same with its max_score, which its record has
abbrev pub taken_at : List Node → ℕ → Option Best
taken_at nodes zero = None
taken_at nodes (suc b) = Some (taken (suc b) (node_at nodes (suc b)))

-- record k comes after those that the table has the best of
abbrev pub child_noted : List Node → List ℕ → ℕ → List ℕ
child_noted nodes best k =
    cond (is_better (taken_at nodes (entry_at best (node_at nodes k).parent)) (node_at nodes k)) (slice_set best (node_at nodes k).parent k) best

-- what reading and writing them asks
pub record Noting (nodes : List Node) (best : List ℕ) (k : ℕ) : Type 0 where
  pub here : k < length nodes
  pub most : k < few
  pub above : (node_at nodes k).parent < length best
  pub there : entry_at best (node_at nodes k).parent < length nodes

-- each record has its best child in the table
abbrev pub Bests : List Node → ℕ → List ℕ → Type 0
Bests nodes count best = (p : ℕ) → p < length best → entry_at best p ≡ best_of count nodes p

-- a table for a sound tree, with no child in it yet
pub record Blank (nodes : List Node) (count : ℕ) (best : List ℕ) : Type 0 where
  pub tree : SoundTree nodes count
  pub room : count ≤ length best
  pub most : count ≤ few
  pub none : (p : ℕ) → entry_at best p ≡ 0

-- from record to record by a rule, until it says 0
unfoldable pub follow_in : (ℕ → ℕ) → ℕ → ℕ → List ℕ
follow_in next zero k = []
follow_in next (suc steps) k = onward (next k) (follow_in next steps)

-- a rule by which numbers below a bound rise, and stay below it
pub record Rises (next : ℕ → ℕ) (bound : ℕ) : Type 0 where
  pub up : (k : ℕ) → 0 < next k → k < next k
  pub below : (k : ℕ) → 0 < next k → next k < bound

-- the way down from record 0, by the table
abbrev pub way_of : List ℕ → List ℕ
way_of best = follow_in (entry_at best) (length best) 0
