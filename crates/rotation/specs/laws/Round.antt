-- Theorems: what is written of a list is read back as the list.
-- Assumes nothing.
use Rattle.std.specs.Prelude.{Some, ◌≡◌, refl, Bool, true, false, not, ◌&&◌, List, [], ◌∷◌, ◌++◌, ℕ, suc, ◌+◌, ◌≤◌, ◌<◌, T, length, get_or}
use Rattle.std.proofs.Common.{sym, ap, subst, ◌∙◌, ⊎_elim, append-nil, append_assoc, arith}
use Rattle.laws.specs.laws.Tests.{either, and_left, and_right}
use Rattle.laws.specs.laws.Same.{below_at}
use Rattle.action.specs.Table.{action_of}
use Rattle.action.specs.Known.{actions, known_front}
use Rattle.action.specs.laws.Known.{known_each}
use Rattle.action.specs.Names.{name_of, found_of}
use Rattle.action.specs.laws.Names.{name_long, own_name}
use Rattle.rotation.specs.Gaps.{newline, gap, letter}
use Rattle.rotation.specs.Words.{Word, word_ended, words_from, words_of, numbers, all_found, actions_in, words_known}
use Rattle.rotation.specs.laws.Words.{words_gap, words_letter, words_end}
use Rattle.rotation.specs.Lines.{line_of, list_text_of}

-- ---- a name is a word

abbrev letters : List ℕ → Bool
letters [] = true
letters (b ∷ word) = letter b && letters word

plain : (n : ℕ) → n < actions → T (letters (name_of n))
unfolding action_of name_of gap
plain n h = below_at (λ n. letters (name_of n)) actions n h tt

-- letters go on with a word
letters_passed : (word text : List ℕ) (at : ℕ) (before : List ℕ) → T (letters word)
    → words_from at before (word ++ text) ≡ words_from at (before ++ word) text
letters_passed [] text at before p = rw append-nil
letters_passed (b ∷ word) text at before p =
    ⊎_elim
    (λ (e : gap b ≡ true). absurd (subst (λ (g : Bool). T (not g)) e (and_left (letter b) (letters word) p)))
    (λ (e : gap b ≡ false).
    words_letter at before b (word ++ text) e ∙ letters_passed word text at (before ++ (b ∷ [])) (and_right (letter b) (letters word) p) ∙ simp append_assoc)
    (either (gap b))

ended_some : (at : ℕ) (word : List ℕ) (more : List Word) → 0 < length word → word_ended at word more ≡ record { at = at; found = found_of word } ∷ more
ended_some at [] more h = absurd (omega arith)
ended_some at (b ∷ word) more h = refl

-- the first word of a list's text is its first action
line_word : (n : ℕ) (text : List ℕ) (at : ℕ) → n < actions
    → words_from at [] (line_of n ++ text) ≡ record { at = at; found = Some n } ∷ words_from (at + length (name_of n) + 1) [] text
unfolding line_of gap
line_word n text at h =
    ap (words_from at []) (append_assoc (name_of n) (newline ∷ []) text)
    ∙ letters_passed (name_of n) (newline ∷ text) at [] (plain n h)
    ∙ words_gap at (name_of n) newline text refl
    ∙ ended_some at (name_of n) _ (omega (arith, name_long n h))
    ∙ rw (sym (own_name n h))

-- ---- a list's text

reads_back : (list : List ℕ) (at : ℕ) → ((i : ℕ) → i < length list → get_or list i 0 < actions)
    → (numbers (words_from at [] (list_text_of list)) ≡ list) × (all_found (words_from at [] (list_text_of list)) ≡ true)
unfolding list_text_of
reads_back [] at k = rw words_end (refl, refl)
reads_back (n ∷ rest) at k =
    let more = reads_back rest (at + length (name_of n) + 1) (λ i h. k (suc i) (omega arith)) in
    rw (line_word n (list_text_of rest) at (k 0 (omega arith))) (ap (λ (l : List ℕ). n ∷ l) more.0, more.1)

-- for every list of known actions: each word of its text is known, and the actions that the text holds are the list
pub round : (list : List ℕ) → length list ≤ known_front list → (actions_in (list_text_of list) ≡ list) × (words_known (list_text_of list) ≡ true)
unfolding words_of actions_in words_known
round list k = reads_back list 0 (known_each list k)

-- so no two lists have one text
pub one_list : (a b : List ℕ) → length a ≤ known_front a → length b ≤ known_front b → list_text_of a ≡ list_text_of b → a ≡ b
one_list a b h k e = sym (round a h).0 ∙ ap actions_in e ∙ (round b k).0
