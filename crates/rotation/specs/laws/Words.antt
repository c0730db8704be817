-- Laws of a text's words: how they go on past gaps and letters, and that a text has no more of them than bytes.
-- Assumes nothing.
use Rattle.std.specs.Prelude.{Option, Some, None, ◌≡◌, refl, Bool, true, false, List, [], ◌∷◌, ◌++◌, ℕ, suc, ◌+◌, ◌≤◌, ◌<◌, length, take, drop, get_or}
use Rattle.std.proofs.Common.{sym, ap, ◌∙◌, ⊎_elim, append-nil, append_assoc, add-zero, not-suc-le-zero, arith, lt-ltb, length-append, length-take-le}
use Rattle.laws.specs.laws.Tests.{either}
use Rattle.laws.specs.laws.Front.{front_le}
use Rattle.action.specs.Known.{actions, known_front}
use Rattle.action.specs.Names.{found_of}
use Rattle.action.specs.laws.Names.{found_known}
use Rattle.rotation.specs.Gaps.{gap, letter}
use Rattle.rotation.specs.Words.{Word, word_ended, words_from, words_of, found_then, numbers, actions_in}
use Rattle.laws.specs.Lists.{front}

-- ---- one byte more: a gap ends the word, a letter goes on with it

pub words_cases : (P : List Word → Type 0) (at : ℕ) (word : List ℕ) (b : ℕ) (text : List ℕ)
    → (gap b ≡ true → P (word_ended at word (words_from (at + length word + 1) [] text)))
    → (gap b ≡ false → P (words_from at (word ++ (b ∷ [])) text))
    → P (words_from at word (b ∷ text))
unfolding words_from
words_cases P at word b text f g =
    ⊎_elim (λ (e : gap b ≡ true). rw e (f e)) (λ (e : gap b ≡ false). rw e (g e)) (either (gap b))

pub words_gap : (at : ℕ) (word : List ℕ) (b : ℕ) (text : List ℕ) → gap b ≡ true
    → words_from at word (b ∷ text) ≡ word_ended at word (words_from (at + length word + 1) [] text)
unfolding words_from
words_gap at word b text e = rw e

pub words_letter : (at : ℕ) (word : List ℕ) (b : ℕ) (text : List ℕ) → gap b ≡ false
    → words_from at word (b ∷ text) ≡ words_from at (word ++ (b ∷ [])) text
unfolding words_from
words_letter at word b text e = rw e

pub words_end : (at : ℕ) (word : List ℕ) → words_from at word [] ≡ word_ended at word []
unfolding words_from
words_end at word = refl

-- ---- up to the next word, and up to its end

pub gaps_passed : (text : List ℕ) (at : ℕ) → words_from at [] text ≡ words_from (at + front gap text) [] (drop (front gap text) text)
unfolding words_from
gaps_passed [] at = refl
gaps_passed (b ∷ text) at = by (gap b) refl (gaps_passed text)
  where
    by : (g : Bool) → gap b ≡ g → ((a : ℕ) → words_from a [] text ≡ words_from (a + front gap text) [] (drop (front gap text) text))
        → words_from at [] (b ∷ text) ≡ words_from (at + front gap (b ∷ text)) [] (drop (front gap (b ∷ text)) (b ∷ text))
    by true e more =
        let n : at + 0 + 1 + front gap text ≡ at + suc (front gap text) = omega arith in
        rw e (more (at + 0 + 1) ∙ ap (λ (k : ℕ). words_from k [] (drop (front gap text) text)) n)
    by false e more = simp (e, add-zero)

letters_taken : (text : List ℕ) (at : ℕ) (word : List ℕ)
    → words_from at word text
    ≡ word_ended at (word ++ take (front letter text) text) (words_from (at + length (word ++ take (front letter text) text)) [] (drop (front letter text) text))
unfolding words_from
letters_taken [] at word = rw append-nil
letters_taken (b ∷ text) at word = by (gap b) refl (letters_taken text at (word ++ (b ∷ [])))
  where
    by : (g : Bool) → gap b ≡ g
        → words_from at (word ++ (b ∷ [])) text
        ≡ word_ended at ((word ++ (b ∷ [])) ++ take (front letter text) text)
        (words_from (at + length ((word ++ (b ∷ [])) ++ take (front letter text) text)) [] (drop (front letter text) text))
        → words_from at word (b ∷ text)
        ≡ word_ended at (word ++ take (front letter (b ∷ text)) (b ∷ text))
        (words_from (at + length (word ++ take (front letter (b ∷ text)) (b ∷ text))) [] (drop (front letter (b ∷ text)) (b ∷ text)))
    by true e more = simp (e, append-nil, add-zero)
    by false e more = simp e (simp append_assoc at more)

-- a text that starts with a letter starts with a word
pub one_word : (text : List ℕ) (at : ℕ) → 0 < length text → gap (get_or text 0 0) ≡ false
    → (words_from at [] text
    ≡ record { at = at; found = found_of (take (front letter text) text) } ∷ words_from (at + front letter text) [] (drop (front letter text) text))
    × (0 < front letter text)
one_word [] at h e = absurd (not-suc-le-zero h)
one_word (b ∷ text) at h e =
    let n : front letter (b ∷ text) ≡ suc (front letter text) = rw e in
    let k : length (take (front letter text) text) ≡ front letter text = length-take-le (front letter text) text (front_le letter text) in
    (letters_taken (b ∷ text) at [] ∙ simp (n, k), omega arith)

-- ---- a gap parts the words before it from those after it

ended_append : (at : ℕ) (word : List ℕ) (more rest : List Word) → word_ended at word (more ++ rest) ≡ word_ended at word more ++ rest
ended_append at [] more rest = refl
ended_append at (b ∷ word) more rest = refl

pub words_seam : (before : List ℕ) (at : ℕ) (word : List ℕ) (b : ℕ) (text : List ℕ) → gap b ≡ true
    → words_from at word (before ++ (b ∷ text)) ≡ words_from at word before ++ words_from (at + length word + length before + 1) [] text
words_seam [] at word b text e =
    let n : at + length word + 1 ≡ at + length word + 0 + 1 = omega arith in
    words_gap at word b text e ∙ ended_append at word [] _ ∙ rw words_end (ap (λ (k : ℕ). word_ended at word [] ++ words_from k [] text) n)
words_seam (x ∷ before) at word b text e =
    ⊎_elim
    (λ (g : gap x ≡ true).
    let n : at + length word + 1 + 0 + length before + 1 ≡ at + length word + suc (length before) + 1 = omega arith in
    words_gap at word x (before ++ (b ∷ text)) g
    ∙ ap (word_ended at word)
    (words_seam before (at + length word + 1) [] b text e
    ∙ ap (λ (k : ℕ). words_from (at + length word + 1) [] before ++ words_from k [] text) n)
    ∙ ended_append at word _ _
    ∙ ap (λ (w : List Word). w ++ words_from (at + length word + suc (length before) + 1) [] text) (sym (words_gap at word x before g)))
    (λ (g : gap x ≡ false).
    let n : at + length (word ++ (x ∷ [])) + length before + 1 ≡ at + length word + suc (length before) + 1 = omega (arith, length-append word (x ∷ [])) in
    words_letter at word x (before ++ (b ∷ text)) g
    ∙ words_seam before at (word ++ (x ∷ [])) b text e
    ∙ ap (λ (k : ℕ). words_from at (word ++ (x ∷ [])) before ++ words_from k [] text) n
    ∙ ap (λ (w : List Word). w ++ words_from (at + length word + suc (length before) + 1) [] text) (sym (words_letter at word x before g)))
    (either (gap x))

-- ---- how many there are

listed_most : (found : Option ℕ) (rest : List ℕ) → length (found_then found rest) ≤ suc (length rest)
listed_most (Some n) rest = omega arith
listed_most None rest = omega arith

ended_most : (at : ℕ) (word : List ℕ) (more : List Word) → length (numbers (word_ended at word more)) ≤ length word + length (numbers more)
ended_most at [] more = omega arith
ended_most at (b ∷ word) more = omega (arith, listed_most (found_of (b ∷ word)) (numbers more))

words_most : (text : List ℕ) (at : ℕ) (word : List ℕ) → length (numbers (words_from at word text)) ≤ length word + length text
words_most [] at word = rw words_end (omega (arith, ended_most at word []))
words_most (b ∷ text) at word =
    words_cases (λ w. length (numbers w) ≤ length word + suc (length text)) at word b text
    (λ e. omega (arith, ended_most at word (words_from (at + length word + 1) [] text), words_most text (at + length word + 1) []))
    (λ e. omega (arith, words_most text at (word ++ (b ∷ [])), length-append word (b ∷ [])))

pub actions_most : (text : List ℕ) → length (actions_in text) ≤ length text
unfolding words_of actions_in
actions_most text = omega (arith, words_most text 0 [])

-- ---- what words name are known actions

abbrev Known : List Word → Type 0
Known words = length (numbers words) ≤ known_front (numbers words)

ended_known : (at : ℕ) (word : List ℕ) (more : List Word) → Known more → Known (word_ended at word more)
unfolding known_front
ended_known at [] more h = h
ended_known at (b ∷ word) more h = by (found_of (b ∷ word)) refl
  where
    by : (f : Option ℕ) → found_of (b ∷ word) ≡ f → length (found_then f (numbers more)) ≤ known_front (found_then f (numbers more))
    by (Some n) e = simp (lt-ltb n actions (found_known (b ∷ word) e)) (omega arith)
    by None e = h

from_known : (at : ℕ) (word text : List ℕ) → Known (words_from at word text)
unfolding words_from known_front
from_known at word [] = ended_known at word [] (omega arith)
from_known at word (b ∷ text) =
    words_cases Known at word b text (λ e. ended_known at word _ (from_known (at + length word + 1) [] text)) (λ e. from_known at (word ++ (b ∷ [])) text)

pub actions_known : (text : List ℕ) → length (actions_in text) ≤ known_front (actions_in text)
unfolding actions_in words_of
actions_known text = from_known 0 [] text
