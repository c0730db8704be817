-- Laws of the replay program: what a rendered room holds, and that its text always fits.
-- Assumes nothing.
use Rattle.std.specs.Prelude.{◌≡◌, refl, List, [], ◌∷◌, ℕ, ◌+◌, ◌-◌, ◌≤◌, ◌<◌, length, take, drop, Result, Ok, Err}
use Rattle.std.proofs.Common.{sym, ap, subst, ◌∙◌, le_trans, arith, le-leb, le-ltb, lt-ltb, length-drop, length-append, take_all}
use Rattle.refusal.specs.declared.Refusal.{Refusal}
use Rattle.refusal.specs.declared.Refusal.TheVariants.{MalformedLine}
use Rattle.refusal.specs.Judge.{Test, Checked, pass, checked_of, checks_of, Says, Writes, answering, size_test, room_test}
use Rattle.refusal.specs.laws.Judge.{judged_passed, judged_refused, shown, shown_by, stopped_room_by, onward_room_by, answered_room, holds_room}
use Rattle.refusal.specs.Report.{report_of}
use Rattle.text.specs.laws.Lengths.{decimal_most}
use Rattle.text.specs.Over.{over}
use Rattle.text.specs.laws.Over.{Rendered, rendered}
use Rattle.rotation.specs.Words.{actions_in, words_test}
use Rattle.rotation.specs.laws.Words.{actions_known}
use Rattle.craft_context.specs.declared.context.CraftContext.{CraftContext}
use Rattle.context_line.specs.Shape.{line_end, numbers_of}
use Rattle.context_line.specs.Fields.{context_of}
use Rattle.context_line.specs.Read.{line_tests}
use Rattle.context_line.specs.laws.Read.{read_context, read_refused, line_passed}
use Rattle.transcript.specs.Transcript.{transcript_most}
use Rattle.transcript.specs.laws.Transcript.{transcript_short}
use Rattle.crafty.specs.Program.{line_in, words_in, context_in, end_test, input_tests, replay_text_of, refused_text_of, printed_of, ReplaysText, Prints}
use Rattle.crafty.specs.inner.Program.{RendersWords, Renders}
use Rattle.crafty.specs.laws.Room.{fits_length}

-- THE law of the program's room: whatever is accepted, its text is at most 32,768 bytes
pub text_fits : (input : List ℕ) → pass ≡ checks_of (input_tests input) → length (replay_text_of input) ≤ transcript_most
unfolding replay_text_of
text_fits input p =
    let line = line_tests (line_in input) in
    let parts = shown_by (size_test (length input) ∷ end_test input ∷ line) (words_test (line_end input + 1) (words_in input) ∷ []) p refl in
    let sized = shown (size_test (length input)) (end_test input ∷ line) parts.0 refl in
    let ended = shown (end_test input) line sized.1 refl in
    let given = line_passed (line_in input) ended.1 in
    transcript_short (context_in input) (actions_in (words_in input)) given.0 given.1 (actions_known (words_in input))

-- ---- the parts of an input, as the code finds them

module _ (input : List ℕ) where
  pub end_none : length input ≤ line_end input → Err MalformedLine ≡ checked_of (end_test input)
  end_none h = rw (le-ltb _ _ h)

  pub end_some : line_end input < length input → pass ≡ checked_of (end_test input)
  end_some h = rw (lt-ltb _ _ h)

  module _ {end : ℕ} (e : end ≡ line_end input) where
    abbrev Reading : Result CraftContext Refusal → Type 0
    Reading r = Says answering (line_tests (take end input)) (Ok (context_of (numbers_of (take end input)))) r

    pub line_refused : {x : Refusal} → Reading (Err x) → Err x ≡ checks_of (line_tests (line_in input))
    line_refused {x} s = subst (λ (k : ℕ). Err x ≡ checks_of (line_tests (take k input))) e (read_refused s)

    pub line_accepted : {c : CraftContext} → Reading (Ok c) → (c ≡ context_in input) × (pass ≡ checks_of (line_tests (line_in input)))
    line_accepted {c} s = subst (λ (k : ℕ). (c ≡ context_of (numbers_of (take k input))) × (pass ≡ checks_of (line_tests (take k input)))) e (read_context s)

    -- the words are a part of the input up to its length
    pub words_rendered : {c : CraftContext} → c ≡ context_in input → {room after : List ℕ} {r : Result ℕ Refusal}
        → RendersWords c (end + 1) (take (length input - (end + 1)) (drop (end + 1) input)) room r after
        → RendersWords (context_in input) (line_end input + 1) (words_in input) room r after
    words_rendered {c} i {room} {after} {r} w =
        let whole : take (length input - (end + 1)) (drop (end + 1) input) ≡ drop (end + 1) input =
        take_all (length input - (end + 1)) (drop (end + 1) input) (omega (arith, length-drop (end + 1) input)) in
        let at_end = subst (λ (words : List ℕ). RendersWords c (end + 1) words room r after) whole w in
        let at-line = subst (λ (k : ℕ). RendersWords c (k + 1) (drop (k + 1) input) room r after) e at_end in
        subst (λ (x : CraftContext). RendersWords x (line_end input + 1) (words_in input) room r after) i at-line

-- ---- what a writer into a room that is enough answered: every test passed, and the text stands in the room; or the first that failed

module _ (tests : List Test) (text room : List ℕ) where
  abbrev Rendering : Result ℕ Refusal → List ℕ → Type 0
  Rendering r after = Writes answering tests (Ok (length text)) room (over room 0 text) r after

  when_passed : (r : Result ℕ Refusal) (after : List ℕ) → Rendering r after → pass ≡ checks_of tests
      → (r ≡ Ok (length text)) × (after ≡ over room 0 text)
  when_passed r after w p = (
    w.says.same ∙ sym (judged_passed Err (Ok (length text)) tests p),
    w.room ∙ sym (judged_passed (λ y. room) (over room 0 text) tests p),
  )

  when_refused : (r : Result ℕ Refusal) (after : List ℕ) → Rendering r after → {x : Refusal} → Err x ≡ checks_of tests → r ≡ Err x
  when_refused r after w f = w.says.same ∙ sym (judged_refused Err (Ok (length text)) tests f)

  rendered_length : (pass ≡ checks_of tests → length text ≤ length room) → {k : ℕ} {after : List ℕ} → Rendering (Ok k) after
      → (pass ≡ checks_of tests) × Rendered text k after
  rendered_length enough {k} {after} w = by (checks_of tests) refl
    where
      by : (c : Checked) → c ≡ checks_of tests → (pass ≡ checks_of tests) × Rendered text k after
      by (Ok u) e =
          let is = when_passed (Ok k) after w e in
          let same : Ok k ≡ Ok (length text) = is.0 in
          let count : k ≡ length text = cc in
          (e, rendered {out = room} (record { next = omega (arith, count); same = is.1 }) (enough e))
      by (Err x) e = let other = when_refused (Ok k) after w e in let z : ◌≡◌ {A = ℕ} 0 1 = cc in absurd (omega arith)

  rendered_refused : {x : Refusal} {after : List ℕ} → Rendering (Err x) after → Err x ≡ checks_of tests
  rendered_refused {x} {after} w = by (checks_of tests) refl
    where
      by : (c : Checked) → c ≡ checks_of tests → Err x ≡ checks_of tests
      by (Ok u) e = let other = (when_passed (Err x) after w e).0 in let z : ◌≡◌ {A = ℕ} 0 1 = cc in absurd (omega arith)
      by (Err y) e = let other = when_refused (Err x) after w e in let same : x ≡ y = cc in ap Err same ∙ e

-- ---- of the whole input: its text in the room, or its refusal

module _ (input room : List ℕ) {after : List ℕ} {r : Result ℕ Refusal} (w : Renders input room r after) where
  pub input_accepted : transcript_most ≤ length room → {k : ℕ} → r ≡ Ok k
      → (pass ≡ checks_of (input_tests input)) × Rendered (replay_text_of input) k after
  input_accepted h e =
      rendered_length (input_tests input) (replay_text_of input) room (λ p. le_trans (text_fits input p) h) (subst (λ (x : Result ℕ Refusal). Renders input room x after) e w)

  pub input_refused : {x : Refusal} → r ≡ Err x → Err x ≡ checks_of (input_tests input)
  input_refused e = rendered_refused (input_tests input) (replay_text_of input) room (subst (λ (x : Result ℕ Refusal). Renders input room x after) e w)

  -- the room may be the caller's own, if it is always enough
  pub replays_whole : transcript_most ≤ length room → ReplaysText input room r after
  replays_whole h = by (checks_of (input_tests input)) refl
    where
      by : (c : Checked) → c ≡ checks_of (input_tests input) → ReplaysText input room r after
      by (Ok u) e =
          let is = when_passed (input_tests input) (replay_text_of input) room r after w e in
          let fits : length (replay_text_of input) ≤ length room = le_trans (text_fits input e) h in
          subst (λ (x : Result ℕ Refusal). ReplaysText input room x after) (sym is.0)
          (onward_room_by (input_tests input) (room_test (length room) (length (replay_text_of input)) ∷ []) e refl
          (holds_room (le-leb _ _ fits) (answered_room refl refl is.1)))
      by (Err x) e =
          let same = when_refused (input_tests input) (replay_text_of input) room r after w e in
          subst (λ (y : Result ℕ Refusal). ReplaysText input room y after) (sym same)
          (stopped_room_by (input_tests input) (room_test (length room) (length (replay_text_of input)) ∷ []) e refl
          (w.room ∙ sym (judged_refused (λ y. room) (over room 0 (replay_text_of input)) (input_tests input) e)))

-- ---- what is printed, by what the tests answer

module _ (input : List ℕ) where
  pub prints_text : pass ≡ checks_of (input_tests input) → replay_text_of input ≡ printed_of input
  unfolding printed_of
  prints_text p = judged_passed refused_text_of (replay_text_of input) (input_tests input) p

  pub prints_refused : {x : Refusal} → Err x ≡ checks_of (input_tests input) → refused_text_of x ≡ printed_of input
  unfolding printed_of
  prints_refused f = judged_refused refused_text_of (replay_text_of input) (input_tests input) f

-- and it is at most 32,768 bytes, for every input, so that the program is never refused its room
refused_short : (x : Refusal) → length (refused_text_of x) ≤ 19
unfolding refused_text_of
refused_short x = simp length-append (omega (arith, decimal_most (report_of x).0))

pub printed_fits : (input : List ℕ) → length (printed_of input) ≤ transcript_most
printed_fits input = by (checks_of (input_tests input)) refl
  where
    by : (c : Checked) → c ≡ checks_of (input_tests input) → length (printed_of input) ≤ transcript_most
    by (Ok u) e = omega (arith, text_fits input e, ap length (prints_text input e))
    by (Err x) e = omega (arith, refused_short x, ap length (prints_refused input e))

module _ (input : List ℕ) {out after : List ℕ} {r : Result ℕ Refusal} (p : Prints input out r after) (h : transcript_most ≤ length out) where
  pub printed_whole : r ≡ Ok (length (printed_of input))
  printed_whole = fits_length (printed_of input) (le_trans (printed_fits input) h) p

  pub printed_within : {k : ℕ} → r ≡ Ok k → k ≤ length out
  printed_within {k} e =
      let same : Ok k ≡ Ok (length (printed_of input)) = sym e ∙ printed_whole in
      let count : k ≡ length (printed_of input) = cc in
      omega (arith, printed_fits input)
