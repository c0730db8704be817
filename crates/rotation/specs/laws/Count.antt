-- Laws of what `count` and `read_words` answer: it decides refusal 5, also of a text that `base` bytes of an input precede.
-- Assumes nothing.
use Rattle.std.specs.Prelude.{Option, Some, None, Result, Ok, Err, ◌≡◌, refl, Bool, true, false, cond, ◌&&◌, List, [], ◌∷◌, ℕ, ◌+◌, ◌<◌, length, drop}
use Rattle.std.proofs.Common.{sym, ap, ◌∙◌, arith, length-take, length-drop}
use Rattle.laws.specs.Lists.{front}
use Rattle.laws.specs.laws.Tests.{true_false}
use Rattle.refusal.specs.Judge.{pass, checked_of}
use Rattle.refusal.specs.declared.Refusal.TheVariants.{UnknownWord}
use Rattle.text.specs.Over.{over, Put}
use Rattle.action.specs.Names.{is_found}
use Rattle.rotation.specs.Gaps.{letter}
use Rattle.rotation.specs.laws.First.{unknown_first}
use Rattle.rotation.specs.Words.{Word, words_of, found_then, numbers, all_found, actions_in, words_known, unknown_at, words_test}
use Rattle.rotation.specs.inner.Counted.{counted_of, known_then, leading, leading_in}

-- ---- where every word is known, none ends the leading ones
leading_all : (words : List Word) → all_found words ≡ true → leading words ≡ numbers words
leading_all [] e = refl
leading_all (w ∷ more) e = by w.found e (leading_all more)
  where
    by : (f : Option ℕ) → is_found f && all_found more ≡ true → (all_found more ≡ true → leading more ≡ numbers more)
        → known_then f (leading more) ≡ found_then f (numbers more)
    by (Some n) e later = ap (λ (rest : List ℕ). n ∷ rest) (later e)
    by None e later = absurd (true_false (sym e))

leading_known : (text : List ℕ) → words_known text ≡ true → leading_in text ≡ actions_in text
unfolding actions_in words_known leading_in
leading_known text e = leading_all (words_of text) e

-- ---- what was counted
module _ (text : List ℕ) {counted : Result ℕ ℕ} (e : counted ≡ counted_of text) where
  -- every word is known
  module _ {k : ℕ} (w : counted ≡ Ok k) where
    all_known_lem : (words_known text ≡ true) × (k ≡ length (actions_in text))
    all_known_lem = by (words_known text) (sym w ∙ e)
      where
        by : (b : Bool) → Ok k ≡ cond b (Ok (length (actions_in text))) (Err (unknown_at text)) → (b ≡ true) × (k ≡ length (actions_in text))
        by true f = (refl, cc)
        by false f = let z : ◌≡◌ {A = ℕ} 0 1 = cc in absurd (omega arith)

    pub words_known_lem : words_known text ≡ true
    words_known_lem = all_known_lem.0

    pub words_count : k ≡ length (actions_in text)
    words_count = all_known_lem.1

    -- and so all actions are stored
    pub words_put : {out after : List ℕ} → after ≡ over out 0 (leading_in text) → Put out 0 (actions_in text) k after
    words_put {out} s = record { next = omega (arith, words_count); same = s ∙ ap (over out 0) (leading_known text words_known_lem) }

    pub words_pass : (base : ℕ) → pass ≡ checked_of (words_test base text)
    words_pass base = rw words_known_lem

  -- one is not
  module _ {k : ℕ} (u : counted ≡ Err k) where
    one_unknown : (words_known text ≡ false) × (k ≡ unknown_at text)
    one_unknown = by (words_known text) (sym u ∙ e)
      where
        by : (b : Bool) → Err k ≡ cond b (Ok (length (actions_in text))) (Err (unknown_at text)) → (b ≡ false) × (k ≡ unknown_at text)
        by true f = let z : ◌≡◌ {A = ℕ} 0 1 = cc in absurd (omega arith)
        by false f = (refl, cc)

    pub words_stop : (base : ℕ) {offset : ℕ} → offset ≡ base + k → Err (UnknownWord offset) ≡ checked_of (words_test base text)
    words_stop base o = rw (one_unknown.0, o, one_unknown.1)

    pub stop_within : k < length text
    stop_within =
        let first = unknown_first text one_unknown.0 in
        let word = length-take (front letter (drop (unknown_at text) text)) (drop (unknown_at text) text) in
        omega (arith, first.some, word, length-drop (unknown_at text) text, one_unknown.1)
