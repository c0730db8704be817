-- What an entry tells of a result, from what it answers; and one state of each result, by the number and the score that are told of it.
-- Assumes nothing.
use Rattle.std.specs.Prelude.{◌≡◌, false, List, [], ◌∷◌, map, ℕ, ℤ, pos, Float, None, Result, Ok, Err}
use Rattle.std.proofs.Common.{ap, ◌∙◌}
use Rattle.std.specs.Float.{binary32}
use Rattle.std.specs.Float.Ieee.{to_bits, of_bits, of_int, sub, div}
use Rattle.laws.specs.Bits.{has, collect}
use Rattle.refusal.specs.declared.Refusal.{Refusal}
use Rattle.refusal.specs.Judge.{Test, judged, Says, answering}
use Rattle.refusal.specs.laws.Judge.{judged_map}
use Rattle.action.specs.Table.{action_of}
use Rattle.craft_context.specs.declared.context.CraftContext.{CraftContext}
use Rattle.craft_state.specs.declared.state.CraftState.{CraftState}
use Rattle.craft_state.specs.declared.state.Perfection.TheVariants as P
use Rattle.craft_state.specs.Start.{no_buffs}
use Rattle.moves.specs.Rules.{own_rule, strict_rule}
use Rattle.moves.specs.Moves.{strictly_of, allowed_of, moves_by}
use Rattle.moves.specs.Modes.{plain}
use Rattle.score.specs.declared.result.CraftResult.{CraftResult}
use Rattle.score.specs.Score.{score_of}
use Rattle.score.specs.Result.{judged_by}
use Rattle.simulator.specs.declared.replay.Replay.{Replay}
use Rattle.transcript.specs.laws.Worked.{craft}
use Rattle.crafty.specs.Verdicts.{Verdict, verdict_in}
use Rattle.crafty.specs.States.{verdicts_of, HasResult}
use Rattle.crafty.specs.Replays.{verdicts_in}

pub result_verdict : {tests : List Test} {result : CraftResult} {r : Result CraftResult Refusal} → Says answering tests (Ok result) r
    → verdicts_of r ≡ judged (λ x. []) (verdict_in result ∷ []) tests
result_verdict {tests} {result} s = ap verdicts_of s.same ∙ judged_map verdicts_of Err (Ok result) tests

pub replay_verdict : {tests : List Test} {replay : Replay} {r : Result Replay Refusal} → Says answering tests (Ok replay) r
    → verdicts_in r ≡ judged (λ x. []) (verdict_in replay.result ∷ []) tests
replay_verdict {tests} {replay} s = ap verdicts_in s.same ∙ judged_map verdicts_in Err (Ok replay) tests

-- ---- one state of each result

abbrev at : ℕ → ℕ → ℤ → CraftState
at step progress durability =
    record {
      step = step;
      progress = progress;
      quality = 0;
      durability = durability;
      cp = 82;
      previous_combo_action = None;
      quick_innovation_available = false;
      trained_perfection_active = P.Unused;
      buffs = no_buffs;
      action = None;
    }

-- what is told of an answer: the number, and the score's bits
pub record Told : Type 0 where
  pub number : ℕ
  pub scores : List ℕ

abbrev bits : Float → ℕ
bits score = to_bits binary32 score

abbrev told_by : Verdict → Told
told_by v = record { number = v.number; scores = map bits v.scores }

-- of every answer of the entry `result`, plainly
abbrev Tells : CraftContext → CraftState → ℕ → List ℕ → Type 0
Tells context state number scores =
    (r : Result CraftResult Refusal) → HasResult context state plain r → map told_by (verdicts_of r) ≡ record { number = number; scores = scores } ∷ []

-- no action is in the pool, and action 0 alone
abbrev none : ℕ
none = 0

abbrev first : ℕ
first = 1

pub told_finished : Tells (craft none) (at 4 300 (pos 20)) 0 (0x3f00_0000 ∷ [])
unfolding judged judged_by score_of to_bits of_int of_bits sub div
told_finished r h = ap (map told_by) h.verdict

pub told_durability : Tells (craft first) (at 4 100 (pos 0)) 1 []
unfolding judged judged_by
told_durability r h = ap (map told_by) h.verdict

pub told_steps : Tells (craft first) (at 8 100 (pos 20)) 2 []
unfolding judged judged_by
told_steps r h = ap (map told_by) h.verdict

pub told_invalid : Tells (craft none) (at 4 100 (pos 20)) 3 []
unfolding judged judged_by moves_by allowed_of strictly_of own_rule strict_rule has collect
told_invalid r h = ap (map told_by) h.verdict

pub told_continuing : Tells (craft first) (at 4 100 (pos 20)) 4 []
unfolding judged judged_by moves_by allowed_of strictly_of own_rule strict_rule has collect action_of
told_continuing r h = ap (map told_by) h.verdict
