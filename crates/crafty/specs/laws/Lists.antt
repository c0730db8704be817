-- Theorems of the entries over a list as text: what is written is read back, a text is read in one way, and what refusal 5 tells.
-- Assumes nothing.
use Rattle.std.specs.Prelude.{◌≡◌, refl, true, false, List, ℕ, ◌+◌, ◌≤◌, ◌<◌, leb, length, Result, Ok, Err}
use Rattle.std.proofs.Common.{sym, subst, ◌∙◌, ⊎_elim, zero-add, arith, le-leb, leb-true, leb-false}
use Rattle.std.proofs.lemmas.Bool.{lt-leb}
use Rattle.laws.specs.laws.Tests.{either}
use Rattle.refusal.specs.Judge.{size_most}
use Rattle.refusal.specs.laws.Judge.{stopped_room, onward_room, answered_room, one_outcome}
use Rattle.refusal.specs.declared.Refusal.{Refusal}
use Rattle.refusal.specs.declared.Refusal.TheVariants.{UnknownWord, NoRoom}
use Rattle.text.specs.Over.{over}
use Rattle.action.specs.Known.{known_front}
use Rattle.action.specs.laws.Known.{all_front}
use Rattle.rotation.specs.Words.{actions_in, words_known, unknown_at, words_test}
use Rattle.rotation.specs.First.{FirstUnknown}
use Rattle.rotation.specs.laws.First.{unknown_first}
use Rattle.rotation.specs.Lines.{list_text_of}
use Rattle.crafty.specs.Room.{Fits}
use Rattle.crafty.specs.Lists.{ReadsList, WritesList}

-- ---- what is answered where the tests pass

pub fits : (text out : List ℕ) → length text ≤ length out → Fits text out (Ok (length text)) (over out 0 text)
fits text out h = onward_room (rw (le-leb _ _ h)) refl (answered_room refl refl refl)

short : (text out : List ℕ) → length out < length text → Fits text out (Err (NoRoom (length text))) out
short text out h = stopped_room (rw (lt-leb _ _ h)) refl refl

pub written : (list out : List ℕ) → length list ≤ size_most → length list ≤ known_front list → length (list_text_of list) ≤ length out
    → WritesList list out (Ok (length (list_text_of list))) (over out 0 (list_text_of list))
written list out size known room = onward_room (rw (le-leb _ _ size)) refl (onward_room (rw (all_front list ∙ le-leb _ _ known)) refl (fits (list_text_of list) out room))

pub known_words : (text : List ℕ) {out : List ℕ} {r : Result ℕ Refusal} {after : List ℕ} → words_known text ≡ true → Fits (actions_in text) out r after
    → ReadsList text out r after
known_words text t w = onward_room (rw t) refl w

-- ---- a text is read in one way

pub one_reading : (text : List ℕ) {out : List ℕ} {r s : Result ℕ Refusal} {after later : List ℕ} → ReadsList text out r after
    → ReadsList text out s later → (r ≡ s) × (after ≡ later)
one_reading text a b = one_outcome a b

-- ---- what refusal 5 tells: the start of the first word that is no name

pub refused_first : (text : List ℕ) {out : List ℕ} {k : ℕ} {after : List ℕ} → ReadsList text out (Err (UnknownWord k)) after → FirstUnknown text k
refused_first text {out} {k} w =
    ⊎_elim
    (λ (t : words_known text ≡ true).
    ⊎_elim
    (λ (h : leb (length (actions_in text)) (length out) ≡ true).
    let e : Err (UnknownWord k) ≡ Ok (length (actions_in text)) = (one_outcome w (known_words text t (fits (actions_in text) out (leb-true _ _ h)))).0 in
    let z : ◌≡◌ {A = ℕ} 0 1 = cc in
    absurd (omega arith))
    (λ (h : leb (length (actions_in text)) (length out) ≡ false).
    let e : Err (UnknownWord k) ≡ Err (NoRoom (length (actions_in text))) =
    (one_outcome w (known_words text t (short (actions_in text) out (leb-false _ _ h)))).0 in
    let z : ◌≡◌ {A = ℕ} 0 1 = cc in
    absurd (omega arith))
    (either (leb (length (actions_in text)) (length out))))
    (λ (f : words_known text ≡ false).
    let e : Err (UnknownWord k) ≡ Err (UnknownWord (0 + unknown_at text)) = (one_outcome w (stopped_room {t = words_test 0 text} (rw f) refl refl)).0 in
    let same : k ≡ 0 + unknown_at text = cc in
    subst (FirstUnknown text) (sym (same ∙ zero-add _)) (unknown_first text f))
    (either (words_known text))
