-- The bench crafts P1 to P10 of document 01: one table, and one theorem that the definitions give what it says.
-- Assumes nothing.
use Rattle.std.specs.Prelude.{◌≡◌, refl, Bool, true, false, List, [], ◌∷◌, map, ℕ, ℤ, pos, negsuc, Float}
use Rattle.std.specs.Float.{binary32}
use Rattle.std.specs.Float.Ieee.{to_bits, of_int, sub, mul, div, lt}
use Rattle.laws.specs.Bits.{has, collect}
use Rattle.laws.specs.Lists.{elem}
use Rattle.laws.specs.Floats.{float}
use Rattle.action.specs.Actions.{BasicSynthesis, BasicTouch, Observe, Veneration, StandardTouch, Innovation, BasicSynthesisTraited}
use Rattle.action.specs.Actions.{ByregotsBlessing, MuscleMemory, CarefulSynthesis, Manipulation, PrudentTouch, AdvancedTouch, Reflect}
use Rattle.action.specs.Actions.{PreparatoryTouch, Groundwork, CarefulSynthesisTraited, GroundworkTraited, PrudentSynthesis, QuickInnovation, TrainedPerfection}
use Rattle.action.specs.Table.{action_of}
use Rattle.action_set.specs.Sets.{set_of}
use Rattle.craft_context.specs.declared.context.CraftContext.{CraftContext}
use Rattle.craft_state.specs.declared.state.CraftState.{CraftState}
use Rattle.craft_state.specs.Start.{start_of}
use Rattle.step.specs.Parts.{ticked_of, effect_of}
use Rattle.step.specs.Step.{begun_of, progressed_of, improved_of, worn_of, refreshed_of, paid_of, combined_of, timed_of, affected_of, executed_of}
use Rattle.moves.specs.declared.mode.Mode.{Mode}
use Rattle.moves.specs.Rules.{own_rule, strict_rule}
use Rattle.moves.specs.Moves.{strictly_of, allowed_of, moves_by}
use Rattle.moves.specs.Modes.{plain, strict}
use Rattle.score.specs.Score.{cp_bonus, part_of, weighed_of, score_of}
use Rattle.score.specs.Result.{judged_by, verdict_of, scores_in}
use Rattle.simulator.specs.declared.replay.Replay.{Replay}
use Rattle.simulator.specs.Replay.{stop_by, slip_by, replay_from, replay_by, replay_of}

-- ---- what is given: the common context, and what a craft changes of it

abbrev craft : ℕ → ℤ → ℕ → Bool → CraftContext
craft progress durability points expert =
    record {
      player_job_level = 50;
      recipe_job_level = 50;
      base_progress_factor = 100;
      base_quality_factor = 100;
      step_max = 20;
      progress_target = progress;
      starting_quality = 0;
      quality_target = 1000;
      durability_max = durability;
      cp_max = points;
      is_expert = expert;
      action_pool = record { 0 = 2147483647 };
      player_is_specialist = false;
      use_manipulation = true;
      use_delineation = true;
    }

abbrev pub bench : CraftContext
bench = craft 1000 (pos 40) 200 false

abbrev progress_target : ℕ → CraftContext → CraftContext
progress_target n c = craft n c.durability_max c.cp_max c.is_expert

abbrev durability_max : ℕ → CraftContext → CraftContext
durability_max n c = craft c.progress_target (pos n) c.cp_max c.is_expert

abbrev pub cp_max : ℕ → CraftContext → CraftContext
cp_max n c = craft c.progress_target c.durability_max n c.is_expert

abbrev pub expert : CraftContext → CraftContext
expert c = craft c.progress_target c.durability_max c.cp_max true

-- ---- what is seen: how the replay ended, and the state that it left

pub record Ended : Type 0 where
  pub verdict : ℕ
  -- the score's bits, where it is finished
  pub score : List ℕ
  pub executed : ℕ
  pub moves : ℕ

pub record Left : Type 0 where
  pub progress : ℕ
  pub quality : ℕ
  pub durability : ℤ
  pub cp : ℕ
  -- the bits of what the points add to a score (P9)
  pub part : ℕ
  pub step : ℕ
  pub iq : ℕ
  pub innovation : ℕ
  pub manipulation : ℕ

pub record Seen : Type 0 where
  pub ended : Ended
  pub left : Left

-- document 01's numbers of the verdicts, by its words
abbrev finished : ℕ
finished = 0

abbrev durability_failure : ℕ
durability_failure = 1

abbrev invalid : ℕ
invalid = 3

abbrev continuing : ℕ
continuing = 4

abbrev bits_of : Float → ℕ
bits_of x = to_bits binary32 x

abbrev ended_of : Replay → Ended
ended_of r = record { verdict = verdict_of r.result; score = map bits_of (scores_in r.result); executed = r.executed; moves = r.moves.0 }

abbrev left_of : CraftContext → CraftState → Left
left_of c s =
    record {
      progress = s.progress;
      quality = s.quality;
      durability = s.durability;
      cp = s.cp;
      part = bits_of (part_of cp_bonus (float s.cp) (float c.cp_max));
      step = s.step;
      iq = s.buffs.inner_quiet;
      innovation = s.buffs.innovation;
      manipulation = s.buffs.manipulation;
    }

abbrev seen_of : CraftContext → Replay → Seen
seen_of c r = record { ended = ended_of r; left = left_of c r.state }

-- the set of these actions
abbrev only : List ℕ → ℕ
only list = set_of (elem list)

-- ---- the table: document 01's list, line by line; the numbers that it does not name are those of the Rust

pub record Row : Type 0 where
  pub context : CraftContext
  pub mode : Mode
  pub list : List ℕ
  pub seen : Seen

abbrev row : CraftContext → Mode → List ℕ → Ended → Left → Row
row context mode list ended left = record { context = context; mode = mode; list = list; seen = record { ended = ended; left = left } }

unfoldable pub table : List Row
table =
    -- P1 empty list: start state, continuing.
    row bench plain []
    (record { verdict = continuing; score = []; executed = 0; moves = 0x79df_f7ff })
    (record { progress = 0; quality = 0; durability = pos 40; cp = 200; part = 0x3d4c_cccd; step = 1; iq = 0; innovation = 0; manipulation = 0 }) ∷
    -- P2 BasicTouch StandardTouch AdvancedTouch: quality 417, cp 146, durability 10.
    row bench plain (BasicTouch ∷ StandardTouch ∷ AdvancedTouch ∷ [])
    (record { verdict = continuing; score = []; executed = 3; moves = 0x7955_efff })
    (record { progress = 0; quality = 417; durability = pos 10; cp = 146; part = 0x3d15_8107; step = 4; iq = 3; innovation = 0; manipulation = 0 }) ∷
    -- P3 BasicTouch StandardTouch: cp_max 49 executes 1; 50 executes 2, leaves 14.
    row (cp_max 49 bench) plain (BasicTouch ∷ StandardTouch ∷ [])
    (record { verdict = invalid; score = []; executed = 1; moves = 0x55c8_ab2b })
    (record { progress = 0; quality = 100; durability = pos 30; cp = 31; part = 0x3d01_913e; step = 2; iq = 1; innovation = 0; manipulation = 0 }) ∷
    row (cp_max 50 bench) plain (BasicTouch ∷ StandardTouch ∷ [])
    (record { verdict = continuing; score = []; executed = 2; moves = 0x5040_2209 })
    (record { progress = 0; quality = 237; durability = pos 20; cp = 14; part = 0x3c65_6042; step = 3; iq = 2; innovation = 0; manipulation = 0 }) ∷
    -- P4 QuickInnovation Reflect: quality 450, step 2, iq 2, innovation 0.
    row bench plain (QuickInnovation ∷ Reflect ∷ [])
    (record { verdict = continuing; score = []; executed = 2; moves = 0x69dd_efff })
    (record { progress = 0; quality = 450; durability = pos 30; cp = 194; part = 0x3d46_a7f0; step = 2; iq = 2; innovation = 0; manipulation = 0 }) ∷
    -- P5 expert, BasicTouch ByregotsBlessing: quality 232; strict executes 1 and ends as invalid.
    row (expert bench) plain (BasicTouch ∷ ByregotsBlessing ∷ [])
    (record { verdict = continuing; score = []; executed = 2; moves = 0x79dd_e7ff })
    (record { progress = 0; quality = 232; durability = pos 20; cp = 158; part = 0x3d21_cac1; step = 3; iq = 0; innovation = 0; manipulation = 0 }) ∷
    row (expert bench) strict (BasicTouch ∷ ByregotsBlessing ∷ [])
    (record { verdict = invalid; score = []; executed = 1; moves = 0x4ddd_e7fb })
    (record { progress = 0; quality = 100; durability = pos 30; cp = 182; part = 0x3d3a_5e36; step = 2; iq = 1; innovation = 0; manipulation = 0 }) ∷
    -- P6 BasicTouch Manipulation QuickInnovation: durability 35, step 3, manipulation 8.
    row bench plain (BasicTouch ∷ Manipulation ∷ QuickInnovation ∷ [])
    (record { verdict = continuing; score = []; executed = 3; moves = 0x49dd_abfb })
    (record { progress = 0; quality = 100; durability = pos 35; cp = 86; part = 0x3cb0_20c5; step = 3; iq = 1; innovation = 1; manipulation = 8 }) ∷
    -- P7 durability_max 1, PreparatoryTouch: -19, durability failure.
    row (durability_max 1 bench) plain (PreparatoryTouch ∷ [])
    (record { verdict = durability_failure; score = []; executed = 1; moves = 0 })
    (record { progress = 0; quality = 200; durability = negsuc 18; cp = 160; part = 0x3d23_d70b; step = 2; iq = 2; innovation = 0; manipulation = 0 }) ∷
    -- P8 Groundwork: durability_max 19 illegal; 20 leaves 0, failure; 20 and progress target 300 finished.
    row (durability_max 19 bench) plain (Groundwork ∷ [])
    (record { verdict = invalid; score = []; executed = 0; moves = 0x7957_f7ff })
    (record { progress = 0; quality = 0; durability = pos 19; cp = 200; part = 0x3d4c_cccd; step = 1; iq = 0; innovation = 0; manipulation = 0 }) ∷
    row (durability_max 20 bench) plain (Groundwork ∷ [])
    (record { verdict = durability_failure; score = []; executed = 1; moves = 0 })
    (record { progress = 300; quality = 0; durability = pos 0; cp = 182; part = 0x3d3a_5e36; step = 2; iq = 0; innovation = 0; manipulation = 0 }) ∷
    row (durability_max 20 (progress_target 300 bench)) plain (Groundwork ∷ [])
    (record { verdict = finished; score = 0x3e94_bc6a ∷ []; executed = 1; moves = 0 })
    (record { progress = 300; quality = 0; durability = pos 0; cp = 182; part = 0x3d3a_5e36; step = 2; iq = 0; innovation = 0; manipulation = 0 }) ∷
    -- P9 cp 0 of 0: part 3D4CCCCD.
    row (cp_max 0 bench) plain []
    (record { verdict = continuing; score = []; executed = 0; moves = 0x5000_0201 })
    (record { progress = 0; quality = 0; durability = pos 40; cp = 0; part = 0x3d4c_cccd; step = 1; iq = 0; innovation = 0; manipulation = 0 }) ∷
    -- P10 expert, cp 25, strict: Observe legal, then no move.
    row (cp_max 25 (expert bench)) strict []
    (record {
      verdict = continuing;
      score = [];
      executed = 0;
      moves = only
          (BasicSynthesis ∷ BasicTouch ∷ Observe ∷ Veneration ∷ Innovation ∷ BasicSynthesisTraited ∷ MuscleMemory ∷ CarefulSynthesis ∷ PrudentTouch
          ∷ Reflect ∷ Groundwork ∷ CarefulSynthesisTraited ∷ GroundworkTraited ∷ PrudentSynthesis ∷ TrainedPerfection ∷ []);
    })
    (record { progress = 0; quality = 0; durability = pos 40; cp = 25; part = 0x3d4c_cccd; step = 1; iq = 0; innovation = 0; manipulation = 0 }) ∷
    row (cp_max 25 (expert bench)) strict (Observe ∷ [])
    (record { verdict = invalid; score = []; executed = 1; moves = 0 })
    (record { progress = 0; quality = 0; durability = pos 40; cp = 18; part = 0x3d13_74bd; step = 2; iq = 0; innovation = 0; manipulation = 0 }) ∷
    []

abbrev worked_of : Row → Seen
worked_of r = seen_of r.context (replay_of r.context r.mode r.list)

abbrev said_of : Row → Seen
said_of r = r.seen

-- THE theorem: what is seen of each replay is what its row says
pub bench_crafts : map worked_of table ≡ map said_of table
unfolding table elem
    replay_by replay_from stop_by slip_by start_of moves_by allowed_of strictly_of own_rule strict_rule has collect
    executed_of begun_of progressed_of improved_of worn_of refreshed_of paid_of combined_of timed_of affected_of ticked_of effect_of action_of
    judged_by score_of weighed_of to_bits of_int sub mul div lt
bench_crafts = refl
