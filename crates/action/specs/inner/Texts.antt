-- For the contracts of inner functions: how the code keeps names and labels, each as one run, and the key by which it finds a word's only candidate.
-- Assumes nothing.
use Rattle.std.specs.Prelude.{cond, List, [], ◌∷◌, ℕ, zero, suc, ◌+◌, ◌*◌, ◌%◌, eqb, length, get_or}
use Prim.Native.String.{String}
use Rattle.action.specs.Table.{Action, table}
use Rattle.action.specs.Known.{actions}
use Rattle.action.specs.Names.{name_of}

abbrev names_of : List Action → List String
names_of [] = []
names_of (a ∷ rest) = a.name ∷ names_of rest

abbrev labels_of : List Action → List String
labels_of [] = []
labels_of (a ∷ rest) = a.label ∷ labels_of rest

unfoldable pub names : List String
unfolding table
names = names_of table

unfoldable pub labels : List String
unfolding table
labels = labels_of table

-- ---- how much room they take

-- no name is shorter, and none is longer
abbrev pub shortest : ℕ
shortest = 7

abbrev pub longest : ℕ
longest = 24

-- no label is longer, and no text
abbrev pub label_most : ℕ
label_most = 18

abbrev pub text_most : ℕ
text_most = 33

-- ---- the key

unfoldable pub key_of : List ℕ → ℕ
key_of word = (get_or word 0 0 + 8 * get_or word 3 0 + 11 * length word) % 64

-- the first action from n on, of `left`, whose name has the key
unfoldable pub holder : ℕ → ℕ → ℕ → ℕ
holder zero n key = n
holder (suc left) n key = cond (eqb (key_of (name_of n)) key) n (holder left (suc n) key)

-- the holder of each of `left` keys from `key` on
unfoldable pub holders : ℕ → ℕ → List ℕ
holders zero key = []
holders (suc left) key = holder actions 0 key ∷ holders left (suc key)
