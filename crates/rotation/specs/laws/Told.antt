-- Laws of what a text's words tell: which word is next, and what those that are left decide.
-- Assumes nothing.
use Rattle.std.specs.Prelude.{◌≡◌, refl, false, cond, ◌&&◌, List, [], ◌∷◌, ℕ, suc, ◌+◌, ◌-◌, ◌≤◌, ◌<◌, length, map, take, drop, get_or, Option, Some, None, Result, Ok, Err, ok_or}
use Rattle.std.proofs.Common.{sym, ap, ◌∙◌, add-zero, zero-add, arith, drop_of_length-le, length-drop, drop-drop, get_or-drop}
use Rattle.laws.specs.Lists.{front}
use Rattle.laws.specs.laws.Front.{front_after}
use Rattle.action.specs.Names.{found_of, is_found}
use Rattle.rotation.specs.Gaps.{gap, letter}
use Rattle.rotation.specs.Words.{Word, words_of, found_then, numbers, all_found, first_unknown, actions_in, words_known, unknown_at}
use Rattle.rotation.specs.laws.Words.{gaps_passed, one_word, words_end}
use Rattle.rotation.specs.inner.Counted.{counted_of, known_then, leading, leading_in}
use Rattle.rotation.specs.inner.Told.{told, words_at, told_of}

-- ---- the next word: `start` is the first place from `at` on that is no gap, and `end` the first gap after it

module _ (text : List ℕ) {at : ℕ} (h : at ≤ length text) {start : ℕ} (s : start ≡ at + front gap (drop at text)) where
  from_start : words_at text at ≡ words_at text start
  from_start = gaps_passed (drop at text) at ∙ simp drop-drop (rw s)

  pub no_word : length text ≤ start → words_at text at ≡ []
  no_word k = from_start ∙ rw (drop_of_length-le text k) (words_end start [])

  module _ (k : start < length text) where
    starts : gap (get_or (drop start text) 0 0) ≡ false
    starts =
        rw s
        (ap gap
        (get_or-drop (at + front gap (drop at text)) text 0 0
        ∙ ap (λ (i : ℕ). get_or text i 0) (add-zero (at + front gap (drop at text)))
        ∙ sym (get_or-drop at text (front gap (drop at text)) 0))
        ∙ front_after gap (drop at text) (omega (arith, length-drop at text)))

    module _ {end : ℕ} (e : end ≡ start + front letter (drop start text)) where
      pub a_word : words_at text at ≡ record { at = start; found = found_of (take (end - start) (drop start text)) } ∷ words_at text end
      a_word =
          let n : end - start ≡ front letter (drop start text) = omega arith in
          from_start ∙ simp n (simp drop-drop at (one_word (drop start text) start (omega (arith, length-drop start text)) starts).0 ∙ rw e)

-- ---- what those that are left decide, k words after the first

-- the actions that are named
abbrev pub named : List (Result ℕ ℕ) → List ℕ
named [] = []
named (Ok n ∷ more) = n ∷ named more
named (Err at ∷ more) = named more

-- those before the first unknown word
abbrev pub named_first : List (Result ℕ ℕ) → List ℕ
named_first [] = []
named_first (Ok n ∷ more) = n ∷ named_first more
named_first (Err at ∷ more) = []

-- how many are known, or where the first unknown one starts
abbrev pub tally : ℕ → List (Result ℕ ℕ) → Result ℕ ℕ
tally k [] = Ok k
tally k (Ok n ∷ more) = tally (k + 1) more
tally k (Err at ∷ more) = Err at

named_words : (words : List Word) → named (map told words) ≡ numbers words
named_words [] = refl
named_words (w ∷ more) = by w.found (named_words more)
  where
    by : (f : Option ℕ) → named (map told more) ≡ numbers more → named (ok_or f w.at ∷ map told more) ≡ found_then f (numbers more)
    by (Some n) e = rw e
    by None e = e

leading_words : (words : List Word) → named_first (map told words) ≡ leading words
leading_words [] = refl
leading_words (w ∷ more) = by w.found (leading_words more)
  where
    by : (f : Option ℕ) → named_first (map told more) ≡ leading more → named_first (ok_or f w.at ∷ map told more) ≡ known_then f (leading more)
    by (Some n) e = rw e
    by None e = refl

tally_words : (words : List Word) (k : ℕ) → tally k (map told words) ≡ cond (all_found words) (Ok (k + length (numbers words))) (Err (first_unknown words))
tally_words [] k = rw add-zero
tally_words (w ∷ more) k = by w.found (tally_words more (k + 1))
  where
    by : (f : Option ℕ) → tally (k + 1) (map told more) ≡ cond (all_found more) (Ok (k + 1 + length (numbers more))) (Err (first_unknown more))
        → tally k (ok_or f w.at ∷ map told more)
        ≡ cond (is_found f && all_found more) (Ok (k + length (found_then f (numbers more)))) (Err (cond (is_found f) (first_unknown more) w.at))
    by (Some n) e =
        let one : k + 1 + length (numbers more) ≡ k + suc (length (numbers more)) = omega arith in
        e ∙ ap (λ (j : ℕ). cond (all_found more) (Ok j) (Err (first_unknown more))) one
    by None e = refl

module _ (text : List ℕ) where
  pub named_all : named (told_of text) ≡ actions_in text
  unfolding actions_in
  named_all = named_words (words_of text)

  pub named_leading : named_first (told_of text) ≡ leading_in text
  unfolding leading_in
  named_leading = leading_words (words_of text)

  pub tally_all : tally 0 (told_of text) ≡ counted_of text
  unfolding words_known actions_in unknown_at
  tally_all = tally_words (words_of text) 0 ∙ simp zero-add
