-- Document 02, E5, in place of document 01's sentence on macro time: 'nothing waits for the last line, the craft is over when it is used. The time is
-- the sum over all lines but the last; an empty list and a list of one take 0'.
-- Assumes nothing.
use Rattle.std.specs.Prelude.{List, [], ◌∷◌, ℕ, ◌+◌, ◌-◌, length, get_or, take}
use Rattle.action.specs.Table.{attributes_of}
use Rattle.action.specs.Wait.{wait_of}

-- the waits of some actions
unfoldable pub waits_of : List ℕ → ℕ
waits_of [] = 0
waits_of (n ∷ rest) = wait_of (attributes_of n) + waits_of rest

-- of all but the last; a line of the macro is an action of the list
unfoldable pub seconds_of : List ℕ → ℕ
seconds_of list = waits_of (take (length list - 1) list)

-- the wait of the last action, which counts once another follows; 0 where there is none
unfoldable pub last_wait : List ℕ → ℕ
last_wait [] = 0
last_wait (n ∷ rest) = wait_of (attributes_of (get_or (n ∷ rest) (length rest) 0))
