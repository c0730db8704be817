-- Document 01, What comes back on refusal: the tests of the tree's entries, 1, 3, 7, 8, 9, 10 and 11 in this order, and 6 last.
-- Document 02, E7: unused moves with bit 31 set are refused by 1.
-- Assumes nothing.
use Rattle.std.specs.Prelude.{ℕ, ◌+◌, not, List, [], ◌∷◌, length, nat_lt, Float}
use Rattle.refusal.specs.Judge.{Test, room_test}
use Rattle.refusal.specs.declared.Refusal.TheVariants.{UnsoundTree, UnknownNode, NotAbove, VisitsFull}
use Rattle.action.specs.Known.{action_test}
use Rattle.action_set.specs.Sets.{set_test}
use Rattle.tree.specs.declared.node.Node.{Node}
use Rattle.tree.specs.Node.{score_test}
use Rattle.tree.specs.Tree.{is_sound, children_of, is_above, path_of, any_full, solution_of}

-- ---- refusals 7, 8, 9 and 11

abbrev pub tree_test : List Node → ℕ → Test
tree_test nodes count = record { passed = is_sound nodes count; otherwise = UnsoundTree }

abbrev pub node_test : ℕ → ℕ → Test
node_test count k = record { passed = nat_lt k count; otherwise = UnknownNode }

abbrev pub above_test : List Node → ℕ → ℕ → Test
above_test nodes start target = record { passed = is_above nodes start target; otherwise = NotAbove }

abbrev pub visits_test : List Node → ℕ → ℕ → Test
visits_test nodes start target = record { passed = not (any_full nodes (path_of nodes start target)); otherwise = VisitsFull }

-- ---- the entries

-- a new tree has one record
abbrev pub new_count : ℕ
new_count = 1

abbrev pub new_tests : List Node → ℕ → List Test
new_tests nodes unused = set_test unused ∷ room_test (length nodes) new_count ∷ []

abbrev pub record_tests : List Node → ℕ → ℕ → List Test
record_tests nodes count k = tree_test nodes count ∷ node_test count k ∷ []

abbrev pub insert_tests : List Node → ℕ → ℕ → ℕ → ℕ → List Test
insert_tests nodes count parent action unused =
    set_test unused ∷ action_test action ∷ tree_test nodes count ∷ node_test count parent ∷ room_test (length nodes) (count + 1) ∷ []

abbrev pub children_tests : List Node → ℕ → ℕ → ℕ → List Test
children_tests nodes count k room = tree_test nodes count ∷ node_test count k ∷ room_test room (length (children_of count nodes k)) ∷ []

abbrev pub back_tests : List Node → ℕ → ℕ → ℕ → Float → List Test
back_tests nodes count start target score =
    tree_test nodes count ∷ node_test count start ∷ node_test count target ∷ above_test nodes start target ∷ score_test score ∷ visits_test nodes start target ∷ []

abbrev pub solution_tests : List Node → ℕ → ℕ → List Test
solution_tests nodes count room = tree_test nodes count ∷ room_test room (length (solution_of nodes count)) ∷ []
