-- Theorem: the offset of refusal 5 is the start of the first word that is no name, and no other place is.
-- Assumes nothing.
use Rattle.std.specs.Prelude.{Option, Some, None, ◌≡◌, refl, Bool, true, false, cond, not, ◌&&◌, ◌⊎◌, List, [], ◌∷◌, ◌++◌, ℕ, zero, suc, ◌+◌, ◌<◌, length, take, drop, get_or}
use Rattle.std.proofs.Common.{sym, ap, subst, ◌∙◌, inl, inr, ⊎_elim, append-nil, append_assoc, zero-add, not-suc-le-zero, arith, length-append, length-take, length-drop, take-suc}
use Rattle.std.proofs.Math.Seq.{split_at}
use Rattle.laws.specs.laws.Tests.{true_false, either, both}
use Rattle.laws.specs.Lists.{front}
use Rattle.action.specs.Names.{found_of, is_found}
use Rattle.rotation.specs.Gaps.{gap, letter}
use Rattle.rotation.specs.Words.{Word, word_ended, words_from, words_of, all_found, first_unknown, words_known, unknown_at}
use Rattle.rotation.specs.laws.Words.{words_cases, words_gap, words_letter, words_end, one_word, words_seam}
use Rattle.rotation.specs.First.{word_at, FirstUnknown}

-- ---- a word that has ended: it is known, and the rest decides, or it is the first unknown one

module _ (at : ℕ) (word : List ℕ) (more : List Word) where
  ended_known : all_found (word_ended at word []) ≡ true
      → (all_found (word_ended at word more) ≡ all_found more) × (first_unknown (word_ended at word more) ≡ first_unknown more)
  ended_known = by word
    where
      on : (f : Option ℕ) → is_found f && true ≡ true
          → (is_found f && all_found more ≡ all_found more) × (cond (is_found f) (first_unknown more) at ≡ first_unknown more)
      on (Some n) t = (refl, refl)
      on None t = absurd (true_false (sym t))

      by : (w : List ℕ) → all_found (word_ended at w []) ≡ true
          → (all_found (word_ended at w more) ≡ all_found more) × (first_unknown (word_ended at w more) ≡ first_unknown more)
      by [] t = (refl, refl)
      by (b ∷ w) t = on (found_of (b ∷ w)) t

  ended_unknown : all_found (word_ended at word []) ≡ false → (0 < length word) × (found_of word ≡ None) × (first_unknown (word_ended at word more) ≡ at)
  ended_unknown = by word
    where
      on : (f : Option ℕ) → is_found f && true ≡ false → (f ≡ None) × (cond (is_found f) (first_unknown more) at ≡ at)
      on (Some n) t = absurd (true_false t)
      on None t = (refl, refl)

      by : (w : List ℕ) → all_found (word_ended at w []) ≡ false → (0 < length w) × (found_of w ≡ None) × (first_unknown (word_ended at w more) ≡ at)
      by [] t = absurd (true_false t)
      by (b ∷ w) t = let o = on (found_of (b ∷ w)) t in (omega arith, o.0, o.1)

-- ---- where the first unknown word is, after the letters `word` that started at `at`

-- it is the one that they start
record Here (at : ℕ) (word text : List ℕ) (k : ℕ) : Type 0 where
  place : k ≡ at
  some : 0 < length (word ++ word_at text 0)
  unknown : found_of (word ++ word_at text 0) ≡ None

-- or it stands after a gap
record Later (at : ℕ) (word text : List ℕ) (k : ℕ) : Type 0 where
  j : ℕ
  place : k ≡ at + length word + suc j
  parted : gap (get_or text j 0) ≡ true
  some : 0 < length (word_at text (suc j))
  unknown : found_of (word_at text (suc j)) ≡ None
  before : all_found (words_from at word (take (suc j) text)) ≡ true

abbrev Located : ℕ → List ℕ → List ℕ → List Word → Type 0
Located at word text words = all_found words ≡ false → Here at word text (first_unknown words) ⊎ Later at word text (first_unknown words)

-- past a letter
past_letter : (at : ℕ) (word : List ℕ) (b : ℕ) (text : List ℕ) (k : ℕ) → gap b ≡ false
    → Here at (word ++ (b ∷ [])) text k ⊎ Later at (word ++ (b ∷ [])) text k → Here at word (b ∷ text) k ⊎ Later at word (b ∷ text) k
past_letter at word b text k e (inl h) =
    let same : (word ++ (b ∷ [])) ++ word_at text 0 ≡ word ++ word_at (b ∷ text) 0 = simp (e, append_assoc) in
    inl (record { place = h.place; some = rw same at h.some; unknown = rw same at h.unknown })
past_letter at word b text k e (inr l) =
    inr
    (record {
      j = suc l.j;
      place = omega (arith, l.place, length-append word (b ∷ []));
      parted = l.parted;
      some = l.some;
      unknown = l.unknown;
      before = ap all_found (words_letter at word b (take (suc l.j) text) e) ∙ l.before;
    })

-- past a gap that ends a known word
past_gap : (at : ℕ) (word : List ℕ) (b : ℕ) (text : List ℕ) (k : ℕ) → gap b ≡ true → all_found (word_ended at word []) ≡ true
    → Here (at + length word + 1) [] text k ⊎ Later (at + length word + 1) [] text k → Later at word (b ∷ text) k
past_gap at word b text k e t (inl h) =
    record {
      j = 0;
      place = h.place;
      parted = e;
      some = h.some;
      unknown = h.unknown;
      before = ap all_found (words_gap at word b [] e ∙ ap (word_ended at word) (words_end _ [])) ∙ t;
    }
past_gap at word b text k e t (inr l) =
    record {
      j = suc l.j;
      place = omega (arith, l.place);
      parted = l.parted;
      some = l.some;
      unknown = l.unknown;
      before = ap all_found (words_gap at word b (take (suc l.j) text) e) ∙ (ended_known at word _ t).0 ∙ l.before;
    }

locate : (text : List ℕ) (at : ℕ) (word : List ℕ) → Located at word text (words_from at word text)
locate [] at word =
    rw words_end
    (λ (f : all_found (word_ended at word []) ≡ false).
    let u = ended_unknown at word [] f in
    inl (record { place = u.2; some = simp append-nil u.0; unknown = simp append-nil u.1 }))
locate (b ∷ text) at word =
    words_cases (Located at word (b ∷ text)) at word b text
    (λ e f.
    let next = at + length word + 1 in
    ⊎_elim
    (λ (t : all_found (word_ended at word []) ≡ true).
    let o = ended_known at word (words_from next [] text) t in
    inr (past_gap at word b text _ e t (rw o.1 (locate text next [] (sym o.0 ∙ f)))))
    (λ (n : all_found (word_ended at word []) ≡ false).
    let u = ended_unknown at word (words_from next [] text) n in
    inl (record { place = u.2; some = simp (e, append-nil) u.0; unknown = simp (e, append-nil) u.1 }))
    (either (all_found (word_ended at word []))))
    (λ e f. past_letter at word b text _ e (locate text at (word ++ (b ∷ [])) f))

-- THE theorem of refusal 5: its offset is the first unknown word's start
pub unknown_first : (text : List ℕ) → words_known text ≡ false → FirstUnknown text (unknown_at text)
unfolding words_of words_known unknown_at
unknown_first text f =
    ⊎_elim
    (λ (h : Here 0 [] text (unknown_at text)).
    subst (FirstUnknown text) (sym h.place) (record { starts = tt; some = h.some; unknown = h.unknown; before = ap all_found (words_end 0 []) }))
    (λ (l : Later 0 [] text (unknown_at text)).
    subst (FirstUnknown text) (sym (l.place ∙ zero-add _)) (record { starts = l.parted; some = l.some; unknown = l.unknown; before = l.before }))
    (locate text 0 [] f)

-- ---- and no other place is

-- bytes before a gap start with no gap
some_letter : (text : List ℕ) → 0 < length (word_at text 0) → (0 < length text) × (gap (get_or text 0 0) ≡ false)
some_letter [] h = absurd (not-suc-le-zero h)
some_letter (b ∷ text) h = (omega arith, by (gap b) refl h)
  where
    by : (g : Bool) → gap b ≡ g → 0 < length (take (cond (not g) (suc (front letter text)) 0) (b ∷ text)) → g ≡ false
    by true e h = absurd (not-suc-le-zero h)
    by false e h = refl

-- an unknown word that a text starts with
starts_unknown : (text : List ℕ) (at : ℕ) → 0 < length (word_at text 0) → found_of (word_at text 0) ≡ None
    → (all_found (words_from at [] text) ≡ false) × (first_unknown (words_from at [] text) ≡ at)
starts_unknown text at h u =
    let s = some_letter text h in
    let w = (one_word text at s.0 s.1).0 in
    (ap all_found w ∙ rw u, ap first_unknown w ∙ rw u)

-- words before others: where each of them is known, the others decide
after_known : (words more : List Word) → all_found words ≡ true
    → (all_found (words ++ more) ≡ all_found more) × (first_unknown (words ++ more) ≡ first_unknown more)
after_known [] more t = (refl, refl)
after_known (w ∷ words) more t =
    let b = both (is_found w.found) (all_found words) t in
    let o = after_known words more b.1 in
    (rw b.0 o.0, rw b.0 o.1)

-- the words up to place j, before the gap there, and those after it
parted_words : (text : List ℕ) (j : ℕ) → j < length text → gap (get_or text j 0) ≡ true
    → words_from 0 [] text ≡ words_from 0 [] (take (suc j) text) ++ words_from (suc j) [] (drop (suc j) text)
parted_words text j h e =
    let n : 0 + 0 + length (take j text) + 1 ≡ suc j = omega (arith, length-take j text) in
    let ends : words_from 0 [] (take (suc j) text) ≡ words_from 0 [] (take j text) =
    ap (words_from 0 []) (take-suc text j 0 h)
    ∙ words_seam (take j text) 0 [] (get_or text j 0) [] e
    ∙ ap (λ (w : List Word). words_from 0 [] (take j text) ++ w) (words_end _ []) ∙ append-nil _
    in
    ap (words_from 0 []) (split_at text j 0 h)
    ∙ words_seam (take j text) 0 [] (get_or text j 0) (drop (suc j) text) e
    ∙ ap (λ (k : ℕ). words_from 0 [] (take j text) ++ words_from k [] (drop (suc j) text)) n
    ∙ ap (λ (w : List Word). w ++ words_from (suc j) [] (drop (suc j) text)) (sym ends)

pub first_unknown_lem : (text : List ℕ) (k : ℕ) → FirstUnknown text k → (words_known text ≡ false) × (unknown_at text ≡ k)
unfolding words_of words_known unknown_at
first_unknown_lem text zero f = starts_unknown text 0 f.some f.unknown
first_unknown_lem text (suc j) f =
    let u = starts_unknown (drop (suc j) text) (suc j) f.some f.unknown in
    let w = parted_words text j (omega (arith, (some_letter (drop (suc j) text) f.some).0, length-drop (suc j) text)) f.starts in
    let o = after_known (words_from 0 [] (take (suc j) text)) (words_from (suc j) [] (drop (suc j) text)) f.before in
    (ap all_found w ∙ o.0 ∙ u.0, ap first_unknown w ∙ o.1 ∙ u.1)
