-- Document 01, "Action table": a set is 31 bits, bit n for action n; its size and its highest member come from counts of its bits, and an
-- empty set has no highest. "Limits": bit 31 of every set is clear. Document 02, E7, "each the nth that `random_index` would take": what a draw names.
-- Assumes nothing.
use Rattle.std.specs.Prelude.{Bool, cond, List, [], ◌∷◌, ℕ, zero, suc, ◌^◌, ◌<◌, ltb, get_or}
use Rattle.laws.specs.Bits.{has, collect, with_bit, without_bit, keep_bits, count, highest_below}
use Rattle.refusal.specs.Judge.{Test}
use Rattle.refusal.specs.Limits.{limit_test}
use Rattle.action.specs.Known.{actions, action_test}

abbrev pub SetIn : ℕ → Type 0
SetIn s = s < 2 ^ actions

-- bit 31 of a set is clear
abbrev pub is_set : ℕ → Bool
is_set s = ltb s (2 ^ actions)

-- refusal 1 of a set alone, which is one field. Document 02, E1: its place is "0 for a set"
abbrev pub set_limits : ℕ → List Bool
set_limits s = is_set s ∷ []

abbrev pub set_test : ℕ → Test
set_test s = limit_test 0 (is_set s)

-- refusals 1 and 3, of a set and an action
abbrev pub member_tests : ℕ → ℕ → List Test
member_tests s n = set_test s ∷ action_test n ∷ []

-- the set of the actions for which p holds
abbrev pub set_of : (ℕ → Bool) → ℕ
set_of p = collect actions p

-- a set with n, without n, and its members for which f holds
abbrev pub with_of : ℕ → ℕ → ℕ
with_of s n = with_bit actions s n

abbrev pub without_of : ℕ → ℕ → ℕ
without_of s n = without_bit actions s n

abbrev pub keep_of : (ℕ → Bool) → ℕ → ℕ
keep_of f s = keep_bits actions f s

abbrev pub size_of : ℕ → ℕ
size_of s = count actions (has s)

-- as an answer, or the answer `none` of the empty set
abbrev pub highest_of : {A : Type 0} → (ℕ → A) → A → ℕ → A
highest_of found none s = highest_below found none actions (has s)

-- the numbers of `left` from m on for which p holds, in rising order
unfoldable pub upward : ℕ → ℕ → (ℕ → Bool) → List ℕ
upward zero m p = []
upward (suc left) m p = cond (p m) (m ∷ upward left (suc m) p) (upward left (suc m) p)

abbrev pub members_of : ℕ → List ℕ
members_of s = upward actions 0 (has s)

-- the numbers below w for which p holds, in falling order
unfoldable pub downward : ℕ → (ℕ → Bool) → List ℕ
downward zero p = []
downward (suc w) p = cond (p w) (w ∷ downward w p) (downward w p)

-- the member that draw n names: the highest for 0, and n members are above it
abbrev pub nth_of : ℕ → ℕ → ℕ
nth_of s n = get_or (downward actions (has s)) n 0
