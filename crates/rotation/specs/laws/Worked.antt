-- Examples of document 01, and of document 02's E5, worked out from the definitions.
-- Assumes nothing.
use Rattle.std.specs.Prelude.{◌≡◌, refl, Err, [], ◌∷◌, ◌++◌, ℕ}
use Rattle.refusal.specs.Judge.{checked_of}
use Rattle.refusal.specs.declared.Refusal.TheVariants.{UnknownWord}
use Rattle.text.specs.Bytes.{bytes}
use Rattle.action.specs.Actions as A
use Rattle.action.specs.Table.{action_of}
use Rattle.action.specs.Names.{name_of, found_from, found_of}
use Rattle.rotation.specs.Gaps.{gap}
use Rattle.rotation.specs.Words.{words_from, words_of, actions_in, words_known, unknown_at, words_test}
use Rattle.rotation.specs.Lines.{line_of, list_text_of}
use Rattle.rotation.specs.Seconds.{waits_of, seconds_of}

-- `BasicTouch`, byte 10, `Nope`: refusal 5 at 11
nope : checked_of (words_test 0 (bytes "BasicTouch" ++ (10 ∷ bytes "Nope"))) ≡ Err (UnknownWord 11)
unfolding action_of name_of found_from found_of gap words_from words_of words_known unknown_at
nope = refl

-- gaps before, between and after words
gaps_pass : actions_in (32 ∷ bytes "Observe" ++ (9 ∷ 13 ∷ 10 ∷ bytes "BasicTouch" ++ (32 ∷ []))) ≡ A.Observe ∷ A.BasicTouch ∷ []
unfolding action_of name_of found_from found_of gap words_from words_of actions_in
gaps_pass = refl

-- each name and byte 10
written : list_text_of (A.Observe ∷ A.BasicTouch ∷ []) ≡ bytes "Observe" ++ (10 ∷ bytes "BasicTouch" ++ (10 ∷ []))
unfolding action_of name_of line_of list_text_of
written = refl

-- 2 seconds for a buff and 3 for another, and nothing waits for the last
timed : seconds_of (A.Veneration ∷ A.BasicSynthesis ∷ A.BasicSynthesis ∷ []) ≡ 5
unfolding action_of waits_of seconds_of
timed = refl

none_timed : seconds_of [] ≡ 0
unfolding waits_of seconds_of
none_timed = refl

one_timed : (n : ℕ) → seconds_of (n ∷ []) ≡ 0
unfolding waits_of seconds_of
one_timed n = refl
