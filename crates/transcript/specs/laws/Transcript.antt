-- Laws of the text of a replay: how its rows go, action after action, and that its room is always enough.
-- Assumes nothing.
use Rattle.std.specs.Prelude.{◌≡◌, true, List, [], ◌∷◌, ◌++◌, ℕ, ◌+◌, ◌*◌, ◌≤◌, ◌<◌, length, drop, take, get_or}
use Rattle.std.proofs.Math.Path.{refl}
use Rattle.std.proofs.Common.{sym, ap, subst, ◌∙◌, drop_of_length-le}
use native.Mathlib.Omega.{arith}
use Rattle.std.specs.Float.{binary32}
use Rattle.std.specs.Float.Ieee.{to_bits}
use Rattle.std.proofs.Math.ListN.{length-append, length-take}
use Rattle.laws.specs.Bits.{has}
use Rattle.laws.specs.laws.Lists.{drop_at}
use Rattle.text.specs.Over.{over, Put}
use Rattle.text.specs.laws.Over.{over_more, put_as}
use Rattle.text.specs.laws.Lengths.{decimal_most, hex_length}
use Rattle.action.specs.Table.{attributes_of}
use Rattle.action.specs.laws.Bounds.{rows_bounded}
use Rattle.action.specs.Known.{actions, known_front}
use Rattle.craft_context.specs.declared.context.CraftContext.{CraftContext}
use Rattle.craft_context.specs.Limits.{ContextIn}
use Rattle.craft_state.specs.declared.state.CraftState.{CraftState}
use Rattle.craft_state.specs.Limits.{step_most}
use Rattle.craft_state.specs.Start.{start_of}
use Rattle.craft_state.specs.laws.Line.{line_short}
use Rattle.step.specs.Step.{execute_of}
use Rattle.moves.specs.Moves.{moves_of}
use Rattle.moves.specs.Modes.{plain}
use Rattle.score.specs.declared.result.CraftResult.{CraftResult}
use Rattle.score.specs.declared.result.CraftResult.TheVariants as R
use Rattle.simulator.specs.declared.replay.Replay.{Replay}
use Rattle.simulator.specs.Replay.{replay_of}
use Rattle.simulator.specs.Promise.{EachLegal, Promise}
use Rattle.simulator.specs.inner.Known.{AllKnown}
use Rattle.simulator.specs.laws.Promise.{all_known_lem, take_known, promised}
use Rattle.transcript.specs.Transcript.{row_of, rows_of, finished_of, result_text_of, last_line_of, reported_of, transcript_of}
use Rattle.transcript.specs.inner.Played.{Played}
use Rattle.transcript.specs.Transcript.{row_most, result_most, last_most, transcript_most}

-- ---- a part of known actions that are each legal where they stand

-- at place i: its action is known and legal
module _ (c : CraftContext) (s : CraftState) (part : List ℕ) {i : ℕ} (h : i < length part) where
  known_at : AllKnown (drop i part) → AllKnown (get_or part i 0 ∷ drop (i + 1) part)
  known_at k = subst AllKnown (drop_at part i h) k

  legal_at : EachLegal attributes_of c plain s (drop i part) → EachLegal attributes_of c plain s (get_or part i 0 ∷ drop (i + 1) part)
  legal_at l = subst (EachLegal attributes_of c plain s) (drop_at part i h) l

  pub next_known : Played c s (drop i part) → get_or part i 0 < actions
  next_known p = (known_at p.known).0

  pub next_legal : Played c s (drop i part) → has (moves_of c s plain) (get_or part i 0) ≡ true
  unfolding EachLegal
  next_legal p = (legal_at p.legal).0

  -- executed, it leads to the next state, where the rest of the part is played
  module _ {next : CraftState} (e : next ≡ execute_of c s (get_or part i 0)) where
    pub rest_played : Played c s (drop i part) → Played c next (drop (i + 1) part)
    unfolding EachLegal
    rest_played p = record { known = (known_at p.known).1; legal = rw e (legal_at p.legal).1 }

    rows_at : rows_of c s (drop i part) ≡ row_of c next ++ rows_of c next (drop (i + 1) part)
    unfolding rows_of
    rows_at = rw (drop_at part i h, e)

    module _ {out after : List ℕ} {at r : ℕ} (p : Put out at (row_of c next) r after) where
      pub rows_over : over after r (rows_of c next (drop (i + 1) part)) ≡ over out at (rows_of c s (drop i part))
      rows_over = rw (p.same, p.next) (over_more (row_of c next) (rows_of c next (drop (i + 1) part)) out at ∙ ap (over out at) (sym rows_at))

      pub rows_count : r + length (rows_of c next (drop (i + 1) part)) ≡ at + length (rows_of c s (drop i part))
      rows_count = omega (arith, p.next, ap length rows_at ∙ length-append (row_of c next) (rows_of c next (drop (i + 1) part)))

pub rows_end : (c : CraftContext) (s : CraftState) (part : List ℕ) {i : ℕ} → length part ≤ i → rows_of c s (drop i part) ≡ []
unfolding rows_of
rows_end c s part h = rw (drop_of_length-le part h)

-- ---- how long

pub row_short : (c : CraftContext) (s : CraftState) → length (row_of c s) ≤ row_most
unfolding row_of
row_short c s = simp length-append (omega (arith, line_short c s))

pub rows_short : (c : CraftContext) (s : CraftState) (part : List ℕ) → length (rows_of c s part) ≤ row_most * length part
unfolding rows_of
rows_short c s [] = omega arith
rows_short c s (n ∷ rest) = simp length-append (omega (arith, row_short c (execute_of c s n), rows_short c (execute_of c s n) rest))

result_short : (result : CraftResult) → length (result_text_of result) ≤ result_most
unfolding result_text_of finished_of
result_short (R.Finished score) = simp length-append (omega (arith, hex_length (to_bits binary32 score)))
result_short R.DurabilityFailure = omega arith
result_short R.MaxStepsFailure = omega arith
result_short R.InvalidActionFailure = omega arith
result_short R.Continuing = omega arith

-- the text of a result by the result that it is found to be
pub result_put : {result found : CraftResult} {out after : List ℕ} {at r : ℕ} → result ≡ found → Put out at (result_text_of found) r after
    → Put out at (result_text_of result) r after × (r ≤ at + result_most)
result_put {found = found} e p = (put_as (sym (ap result_text_of e)) p, omega (arith, p.next, result_short found))

pub last_short : (result : CraftResult) (executed listed : ℕ) → length (last_line_of result executed listed) ≤ last_most
unfolding last_line_of
last_short result executed listed = simp length-append (omega (arith, result_short result, decimal_most executed, decimal_most listed))

-- ---- the whole text of a list's replay

module _ (c : CraftContext) (list : List ℕ) where
  pub transcript_is : {s : CraftState} {r : Replay} → s ≡ start_of c → r ≡ replay_of c plain list
      → row_of c s ++ rows_of c s (take r.executed list) ++ last_line_of r.result r.executed (length list) ≡ transcript_of c list
  unfolding reported_of transcript_of
  transcript_is e f = rw (e, f)

  module _ (inside : ContextIn c) (top : c.step_max ≤ step_most) (known : length list ≤ known_front list) where
    pub kept : {r : Replay} → r ≡ replay_of c plain list → Promise c plain list r
    kept f = rw f (promised attributes_of rows_bounded c plain inside top list (all_known_lem list known))

    pub executed_played : {r : Replay} → r ≡ replay_of c plain list → Played c (start_of c) (take r.executed list)
    executed_played {r} f = record { known = take_known list r.executed (all_known_lem list known); legal = (kept f).executed.legal }

    -- THE law of the room: at most 255 actions are executed, so 32,768 bytes are always enough
    pub transcript_short : length (transcript_of c list) ≤ transcript_most
    unfolding reported_of transcript_of
    transcript_short =
        let r = replay_of c plain list in
        let p = kept {r = r} refl in
        simp length-append
        (omega (
          arith,
          p.few,
          length-take r.executed list,
          row_short c (start_of c),
          rows_short c (start_of c) (take r.executed list),
          last_short r.result r.executed (length list),
        ))
