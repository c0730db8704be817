-- What each public entry over sets answers, for any number: its tests in the order of document 01's "What comes back on refusal", then its answer.
-- Assumes nothing.
use Rattle.std.specs.Prelude.{Bool, List, [], ◌∷◌, ℕ, eqb, length, Option, None, Some, Result, Ok}
use Rattle.refusal.specs.declared.Refusal.{Refusal}
use Rattle.refusal.specs.Judge.{Checked, Says, Writes, answering, Checks, room_test}
use Rattle.laws.specs.Lists.{elem}
use Rattle.laws.specs.Bits.{has}
use Rattle.text.specs.Over.{over}
use Rattle.action.specs.Known.{list_test}
use Rattle.action_set.specs.Sets.{set_test, member_tests, set_of, with_of, without_of, size_of, highest_of, members_of}
use Rattle.action_set.specs.declared.ActionSet.{ActionSet}

-- the answer that is a set
abbrev pub a_set : ℕ → Result ActionSet Refusal
a_set s = Ok (record { 0 = s })

abbrev pub empty_set : ActionSet
empty_set = record { 0 = 0 }

abbrev pub ChecksSet : ℕ → Checked → Type 0
ChecksSet s r = Checks (set_test s ∷ []) r

abbrev pub FromBits : ℕ → Result ActionSet Refusal → Type 0
FromBits s r = Says answering (set_test s ∷ []) (a_set s) r

abbrev pub FromList : List ℕ → Result ActionSet Refusal → Type 0
FromList l r = Says answering (list_test l ∷ []) (a_set (set_of (elem l))) r

abbrev pub Contains : ℕ → ℕ → Result Bool Refusal → Type 0
Contains s n r = Says answering (member_tests s n) (Ok (has s n)) r

abbrev pub Added : ℕ → ℕ → Result ActionSet Refusal → Type 0
Added s n r = Says answering (member_tests s n) (a_set (with_of s n)) r

abbrev pub Removed : ℕ → ℕ → Result ActionSet Refusal → Type 0
Removed s n r = Says answering (member_tests s n) (a_set (without_of s n)) r

abbrev pub Len : ℕ → Result ℕ Refusal → Type 0
Len s r = Says answering (set_test s ∷ []) (Ok (size_of s)) r

abbrev pub IsEmpty : ℕ → Result Bool Refusal → Type 0
IsEmpty s r = Says answering (set_test s ∷ []) (Ok (eqb (size_of s) 0)) r

abbrev pub HighestIs : ℕ → Result (Option ℕ) Refusal → Type 0
HighestIs s r = Says answering (set_test s ∷ []) (Ok (highest_of Some None s)) r

abbrev pub Members : ℕ → List ℕ → Result ℕ Refusal → List ℕ → Type 0
Members s out r after =
    Writes answering (set_test s ∷ room_test (length out) (size_of s) ∷ []) (Ok (size_of s)) out (over out 0 (members_of s)) r after
