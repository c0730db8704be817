-- Document 01, 'Action table' and 'Text': what each public entry over single actions answers, for any number or bytes: its tests in the order of the
-- refusals, then its answer.
-- Assumes nothing.
use Rattle.std.specs.Prelude.{List, [], ◌∷◌, ℕ, Option, None, Some, Result, Ok}
use Rattle.refusal.specs.declared.Refusal.{Refusal}
use Rattle.refusal.specs.declared.Refusal.TheVariants.{UnknownWord}
use Rattle.refusal.specs.Judge.{Test, Says, answering}
use Rattle.action.specs.declared.price.Combo.{Combo}
use Rattle.action.specs.declared.table.Attributes.{Attributes}
use Rattle.action.specs.declared.texts.Text.{Text}
use Rattle.action.specs.Known.{action_test}
use Rattle.action.specs.Table.{attributes_of}
use Rattle.action.specs.Price.{charged_of}
use Rattle.action.specs.Wait.{wait_of}
use Rattle.action.specs.Names.{text_of, found_of, is_found}
use Rattle.crafty.specs.Room.{WritesText}

abbrev pub HasAttributes : ℕ → Result Attributes Refusal → Type 0
HasAttributes n r = Says answering (action_test n ∷ []) (Ok (attributes_of n)) r

abbrev pub HasPrice : ℕ → Option Combo → Result (Option ℕ) Refusal → Type 0
HasPrice n combo r = Says answering (action_test n ∷ []) (Ok (charged_of n combo (attributes_of n).cp_cost)) r

abbrev pub HasWait : ℕ → Result ℕ Refusal → Type 0
HasWait n r = Says answering (action_test n ∷ []) (Ok (wait_of (attributes_of n))) r

-- its name, its label or its macro text
abbrev pub HasText : Text → ℕ → List ℕ → Result ℕ Refusal → List ℕ → Type 0
HasText which n out r after = WritesText (action_test n ∷ []) (text_of which n) out r after

abbrev number_in : Option ℕ → ℕ
number_in (Some n) = n
number_in None = 0

-- refusal 5, at the buffer's start
abbrev pub name_test : List ℕ → Test
name_test word = record { passed = is_found (found_of word); otherwise = UnknownWord 0 }

abbrev pub FromName : List ℕ → Result ℕ Refusal → Type 0
FromName word r = Says answering (name_test word ∷ []) (Ok (number_in (found_of word))) r
