-- Document 01, Tree, and document 02, E7, "records gain their unused moves": one record. "Insertion takes record number count, floats 0", and of back-propagation "adding 1, the score, and the greater maximum;
-- .. ours stays +0"; refusals 10 and 11. Sums and comparisons are those of binary32, by the logic's account of IEEE 754.
-- Assumes nothing.
use Rattle.std.specs.Prelude.{ℕ, Bool, cond, ◌&&◌, Float}
use Rattle.std.specs.Float.{binary32}
use Rattle.std.specs.Float.Ieee.{add, lt, le}
use Rattle.laws.specs.Floats.{float, one, minus_one}
use Rattle.refusal.specs.Judge.{Test}
use Rattle.refusal.specs.declared.Refusal.TheVariants.{BadScore}
use Rattle.action.specs.Known.{actions}
use Rattle.tree.specs.declared.node.Node.{Node}

-- ---- the numbers: +0 and the most visits, as whole numbers

abbrev pub plus_zero : Float
plus_zero = float 0

abbrev pub count_most : ℕ
count_most = 16777216

abbrev pub visits_most : Float
visits_most = float count_most

-- ---- a record that was never visited

abbrev pub node_of : ℕ → ℕ → ℕ → Node
node_of parent action unused =
    record {
      parent = parent;
      action = action;
      visits = plus_zero;
      score_sum = plus_zero;
      max_score = plus_zero;
      unused = unused;
    }

-- record 0: parent 0, action 31
abbrev pub root_node : ℕ → Node
root_node unused = node_of 0 actions unused

-- ---- a visit

-- refusal 10: a score is from -1 to 1, and no NaN
abbrev pub is_score : Float → Bool
is_score score = le minus_one score && le score one

abbrev pub score_test : Float → Test
score_test score = record { passed = is_score score; otherwise = BadScore }

-- refusal 11: the visits are full
abbrev pub is_full : Node → Bool
is_full n = le visits_most n.visits

-- the greater of two, and the maximum where they are equal: +0 stays when -0 comes
abbrev pub greater_of : Float → Float → Float
greater_of maximum score = cond (lt maximum score) score maximum

-- one visit more, the score added, and the greater maximum
unfoldable pub touched_of : Node → Float → Node
touched_of n score =
    record {
      parent = n.parent;
      action = n.action;
      visits = add binary32 n.visits one;
      score_sum = add binary32 n.score_sum score;
      max_score = greater_of n.max_score score;
      unused = n.unused;
    }
