-- Document 01, refusal 3: 'an action number is above 30', with its 'first place, from 0 (0 for a single one)'.
-- Assumes nothing.
use Rattle.std.specs.Prelude.{Bool, true, ◌&&◌, List, [], ◌∷◌, ℕ, ltb}
use Rattle.laws.specs.Lists.{front}
use Rattle.refusal.specs.Judge.{Test}
use Rattle.refusal.specs.declared.Refusal.TheVariants.{UnknownAction}

-- how many there are, numbered from 0
abbrev pub actions : ℕ
actions = 31

-- a number that is not above 30
abbrev pub known : ℕ → Bool
known n = ltb n actions

-- a list that has no number above 30
abbrev pub all_known : List ℕ → Bool
all_known [] = true
all_known (n ∷ rest) = known n && all_known rest

-- the place of the first that is, from 0: as many stand before it
unfoldable pub known_front : List ℕ → ℕ
known_front list = front known list

-- of a single action the place is 0
abbrev pub action_test : ℕ → Test
action_test n = record { passed = known n; otherwise = UnknownAction 0 }

abbrev pub list_test : List ℕ → Test
list_test list = record { passed = all_known list; otherwise = UnknownAction (known_front list) }
