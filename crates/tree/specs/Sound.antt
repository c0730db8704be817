-- Document 01, Tree: when a record is sound at its number. "Record 0 has parent 0, action 31. Others: parent below own number, action ≤ 30. All: visits whole,
-- 0..=16,777,216; |score_sum| ≤ visits; max_score from +0 to 1, minus zero excluded." Document 02, E7: bit 31 of the unused moves
-- is clear.
-- Assumes nothing.
use Rattle.std.specs.Prelude.{ℕ, Bool, false, cond, not, ◌&&◌, ◌==◌, nat_lt, Float}
use Rattle.std.specs.Float.{nan, inf, fin}
use Rattle.std.specs.Float.Ieee.{neg, le, eq, to_unsigned}
use Rattle.action.specs.Known.{actions, known}
use Rattle.action_set.specs.Sets.{is_set}
use Rattle.tree.specs.declared.node.Node.{Node}
use Rattle.tree.specs.Node.{plus_zero, visits_most}
use Rattle.laws.specs.Floats.{float, one}

-- record 0 has parent 0 and action 31; others have their parent below their own number, and an action up to 30
abbrev pub placed : ℕ → ℕ → ℕ → Bool
placed k parent action = cond (k == 0) (parent == 0 && action == actions) (nat_lt parent k && known action)

-- what is left without a fraction is the number itself
abbrev pub is_whole : Float → Bool
is_whole x = eq (float (to_unsigned 64 x)) x

-- visits: whole, from 0 to 16,777,216
unfoldable pub is_count : Float → Bool
is_count visits = (le plus_zero visits && le visits visits_most) && is_whole visits

-- |x| ≤ most
abbrev pub within : Float → Float → Bool
within x most = le (neg most) x && le x most

abbrev pub minus : Float → Bool
minus nan = false
minus (inf s) = s
minus (fin s m e) = s

-- max_score: from +0 to 1, minus zero excluded
unfoldable pub is_maximum : Float → Bool
is_maximum score = (le plus_zero score && le score one) && not (minus score)

unfoldable pub sound_at : ℕ → Node → Bool
sound_at k n =
    (((placed k n.parent n.action && is_count n.visits) && within n.score_sum n.visits) && is_maximum n.max_score) && is_set n.unused
