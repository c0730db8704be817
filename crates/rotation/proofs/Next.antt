-- What `Words` gives next, by how far its two searches came.
-- Assumes nothing.
use Rattle.std.proofs.Common.{◌≡◌, refl, sym, ap, ◌∙◌, arith, ℕ, ◌+◌, ◌-◌, ◌≤◌, ◌<◌, List, [], ◌∷◌, length, take, drop, length-drop, Option, Some, None, Bool, true, false}
use Rattle.std.proofs.lemmas.List.{take_rest}
use Rattle.std.specs.Prelude.{map, not, position, unwrap_or, ok_or}
use Rattle.laws.specs.Lists.{front}
use Rattle.action.specs.Names.{found_of}
use Rattle.rotation.specs.Gaps.{gap, letter}
use Rattle.rotation.specs.inner.Told.{told, words_at}
use Rattle.rotation.specs.laws.Told.{no_word, a_word}
use Rattle.rotation.proofs.Scan.{first_is, first_below}

-- a text from a place on, as the code has it
abbrev rest : List ℕ → ℕ → List ℕ
rest text at = take (length text - at) (drop at text)

not_letter : (b : ℕ) → gap b ≡ not (letter b)
not_letter b = by (gap b)
  where
    by : (t : Bool) → t ≡ not (not t)
    by true = refl
    by false = refl

module _ (text : List ℕ) {at : ℕ} (h : at ≤ length text) {first : Option ℕ} (s : first ≡ position (λ b. not (gap b)) (rest text at)) where
  gaps_are : unwrap_or first (length (drop at text)) ≡ front gap (drop at text)
  gaps_are = first_is gap (λ b. not (gap b)) (λ b. refl) (drop at text) (s ∙ ap (position (λ b. not (gap b))) (take_rest text at))

  pub no_more : first ≡ None → map told (words_at text at) ≡ []
  no_more e =
      let all : length (drop at text) ≡ front gap (drop at text) = rw e at gaps_are in
      ap (map told) (no_word text h refl (omega (arith, length-drop at text)))

  pub one_more : {n g : ℕ} {last found : Option ℕ} → first ≡ Some n → last ≡ position gap (rest text (at + n)) → g ≡ unwrap_or last (length (rest text (at + n)))
      → found ≡ found_of (take (at + n + g - (at + n)) (drop (at + n) text))
      → map told (words_at text at) ≡ ok_or found (at + n) ∷ map told (words_at text (at + n + g))
  one_more {n} e l o f =
      let start : at + n ≡ at + front gap (drop at text) = ap (λ (k : ℕ). at + k) (rw e at gaps_are) in
      let within : n < length (drop at text) = first_below gap (λ b. not (gap b)) (λ b. refl) (drop at text) (sym e ∙ s ∙ ap (position (λ b. not (gap b))) (take_rest text at)) in
      let letters : _ ≡ front letter (drop (at + n) text) = o ∙ rw take_rest (first_is letter gap not_letter (drop (at + n) text) (l ∙ ap (position gap) (take_rest text (at + n)))) in
      rw f (ap (map told) (a_word text h start (omega (arith, length-drop at text)) (ap (λ (k : ℕ). at + n + k) letters)))
