-- Document 01, 'Text': '`name`, `label`, `macro_text` as in the source', and the action that a word is 'exactly' the name of.
-- Assumes nothing.
use Rattle.std.specs.Prelude.{Bool, true, false, cond, List, ◌∷◌, ◌++◌, ℕ, zero, suc, ◌+◌, Option, Some, None}
use Rattle.text.specs.Bytes.{bytes}
use Rattle.laws.specs.Lists.{same, elem}
use Rattle.action.specs.Table.{action_of, attributes_of}
use Rattle.action.specs.Known.{actions}
use Rattle.action.specs.Wait.{wait_of}
use Rattle.action.specs.declared.texts.Text.{Text}
use Rattle.action.specs.declared.texts.Text.TheVariants as T

unfoldable pub name_of : ℕ → List ℕ
name_of n = bytes (action_of n).name

unfoldable pub label_of : ℕ → List ℕ
label_of n = bytes (action_of n).label

-- a label that contains a space stands in quotes
unfoldable pub quoted_of : List ℕ → List ℕ
quoted_of label = cond (elem label 32) (bytes "\"" ++ (label ++ bytes "\"")) label

abbrev pub wait_text_of : ℕ → List ℕ
wait_text_of n = bytes " <wait." ++ ((48 + wait_of (attributes_of n)) ∷ bytes ">")

-- /ac LABEL <wait.SECONDS>
unfoldable pub macro_of : ℕ → List ℕ
macro_of n = bytes "/ac " ++ (quoted_of (label_of n) ++ wait_text_of n)

unfoldable pub text_of : Text → ℕ → List ℕ
text_of T.Name n = name_of n
text_of T.Label n = label_of n
text_of T.Macro n = macro_of n

-- the first action from k on, of `left`, whose name the word is
unfoldable pub found_from : ℕ → ℕ → List ℕ → Option ℕ
found_from zero k word = None
found_from (suc left) k word = cond (same (name_of k) word) (Some k) (found_from left (suc k) word)

-- the action whose name the word is
unfoldable pub found_of : List ℕ → Option ℕ
found_of word = found_from actions 0 word

abbrev pub is_found : Option ℕ → Bool
is_found (Some n) = true
is_found None = false
