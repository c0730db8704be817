-- What a rollout that ended has used: the actions that its draws name are each a move where they stand, its score is bounded, draws beyond the used ones
-- change nothing, and it ends with no fewer.
-- Assumes nothing.
use Rattle.std.specs.Prelude.{◌≡◌, Bool, ltb, length, take, drop, get_or, Err}
use Rattle.std.proofs.Math.Path.{refl, subst}
use Rattle.std.proofs.Common.{ap, ◌∙◌, arith, ltb-true}
use Rattle.std.proofs.Math.Bool.{true, false, cond}
use mathlib.Core.List.{List, [], ◌∷◌}
use Prim.Native.Nat.{ℕ, zero, suc, ◌+◌, ◌≤◌, ◌<◌}
use Rattle.std.proofs.Math.Dec.{eqb}
use Rattle.laws.specs.Bits.{has}
use Rattle.laws.specs.laws.Lists.{drop_at}
use Rattle.action.specs.Table.{attributes_of}
use Rattle.action.specs.laws.Bounds.{rows_bounded}
use Rattle.refusal.specs.declared.Refusal.{Refusal}
use Rattle.refusal.specs.declared.Refusal.TheVariants.{NoDraw, DrawTooHigh}
use Rattle.action_set.specs.Sets.{size_of, nth_of}
use Rattle.action_set.specs.laws.Nth.{nth_named}
use Rattle.craft_context.specs.declared.context.CraftContext.{CraftContext}
use Rattle.craft_state.specs.declared.state.CraftState.{CraftState}
use Rattle.craft_state.specs.Limits.{step_most}
use Rattle.step.specs.Step.{execute_of}
use Rattle.moves.specs.declared.mode.Mode.{Mode}
use Rattle.moves.specs.Modes.{strict}
use Rattle.moves.specs.Moves.{moves_of}
use Rattle.score.specs.Bounds.{ScoreIsBounded}
use Rattle.score.specs.Result.{judged_by}
use Rattle.score.specs.declared.result.CraftResult.{CraftResult}
use Rattle.score.specs.laws.Bounds.{Timely, legal_timely}
use Rattle.score.proofs.Bounds.{judged_bounded}
use Rattle.rollout.specs.Rollout.{drawn_state, strict_moves, Rolled, ends, rolled_from, sampled_of}

-- each action is a member of the set there: the moves given, and then the strict ones
unfoldable pub Sampled : CraftContext → CraftState → ℕ → List ℕ → Type 0
Sampled c s moves [] = Unit {0}
Sampled c s moves (action ∷ rest) = (has moves action ≡ true) × Sampled c (execute_of c s action) (strict_moves c (execute_of c s action)) rest

-- so many draws name as many actions
pub sampled_length : (c : CraftContext) (s : CraftState) (moves n : ℕ) (draws : List ℕ) → n ≤ length draws → length (sampled_of c s moves n draws) ≡ n
unfolding sampled_of
sampled_length c s moves zero draws h = refl
sampled_length c s moves (suc n) [] h = absurd (omega arith)
sampled_length c s moves (suc n) (d ∷ draws) h =
    ap suc (sampled_length c (drawn_state c s moves d) (strict_moves c (drawn_state c s moves d)) n draws (omega arith))

-- one draw after the other, for a loop over them
pub sampled_next : (c : CraftContext) (s : CraftState) (moves n at : ℕ) (draws : List ℕ) → at < length draws
    → sampled_of c s moves (suc n) (drop at draws)
    ≡ nth_of moves (get_or draws at 0)
    ∷ sampled_of c (drawn_state c s moves (get_or draws at 0)) (strict_moves c (drawn_state c s moves (get_or draws at 0))) n (drop (at + 1) draws)
unfolding sampled_of
sampled_next c s moves n at draws h = rw (drop_at draws at h)

-- and no other draw counts
pub sampled_take : (c : CraftContext) (s : CraftState) (moves n : ℕ) (draws : List ℕ) → sampled_of c s moves n (take n draws) ≡ sampled_of c s moves n draws
unfolding sampled_of
sampled_take c s moves zero draws = refl
sampled_take c s moves (suc n) [] = refl
sampled_take c s moves (suc n) (d ∷ draws) =
    ap (λ (rest : List ℕ). nth_of moves d ∷ rest) (sampled_take c (drawn_state c s moves d) (strict_moves c (drawn_state c s moves d)) n draws)

-- the moves given are among those of a mode
abbrev pub Among : CraftContext → CraftState → ℕ → Mode → Type 0
Among c s moves mode = (n : ℕ) → has moves n ≡ true → has (moves_of c s mode) n ≡ true

-- what is known of one that ended after `end` draws
pub record Rolls (c : CraftContext) (s : CraftState) (moves at : ℕ) (draws : List ℕ) (result : CraftResult) (end : ℕ) : Type 0 where
  pub least : at ≤ end
  pub most : end ≤ at + length draws
  pub sampled : (n : ℕ) → at + n ≤ end → Sampled c s moves (sampled_of c s moves n draws)
  pub bounded : c.step_max ≤ step_most → (mode : Mode) → Among c s moves mode → Timely c s → ScoreIsBounded c result
  -- the first draws again, however others go on
  pub enough : (others : List ℕ) (used : ℕ) → at + used ≡ end → take used others ≡ take used draws → rolled_from c s moves at others ≡ ends result end
  -- each of them was used: with fewer one is wanted
  pub fewer : (n : ℕ) → at + n < end → rolled_from c s moves at (take n draws) ≡ Err NoDraw

ended_with : {a b : CraftResult} {at end : ℕ} → ends a at ≡ ends b end → (a ≡ b) × (at ≡ end)
ended_with {a} {b} {at} {end} e = let same : ◌≡◌ {A = CraftResult × ℕ} (a, at) (b, end) = cc in (ap (λ p. p.0) same, ap (λ p. p.1) same)

never : {x : Refusal} {result : CraftResult} {end : ℕ} → Err x ≡ ends result end → ⊥
never e = cc

module _ (c : CraftContext) where
  -- no draw is wanted
  rolls_none : (s : CraftState) (moves at : ℕ) (draws : List ℕ) (result : CraftResult) (end : ℕ) → eqb moves 0 ≡ true
      → ends (judged_by c s moves) at ≡ ends result end → Rolls c s moves at draws result end
  unfolding Sampled sampled_of rolled_from
  rolls_none s moves at draws result end none e =
      let is : judged_by c s moves ≡ result = (ended_with e).0 in
      let there : at ≡ end = (ended_with e).1 in
      record {
        least = omega arith;
        most = omega arith;
        sampled = first;
        bounded = λ top mode among timely. subst (ScoreIsBounded c) is (judged_bounded c top s timely moves);
        enough = λ others used h same. again others ∙ e;
        fewer = λ n h. absurd (omega arith);
      }
    where
      first : (n : ℕ) → at + n ≤ end → Sampled c s moves (sampled_of c s moves n draws)
      first zero h = tt
      first (suc n) h = let there : at ≡ end = (ended_with e).1 in absurd (omega arith)

      again : (others : List ℕ) → rolled_from c s moves at others ≡ ends (judged_by c s moves) at
      again [] = rw none
      again (d ∷ others) = rw none

  module _ (s : CraftState) (moves at d : ℕ) (draws : List ℕ) (result : CraftResult) (end : ℕ) (some : eqb moves 0 ≡ false)
      (low : ltb d (size_of moves) ≡ true) where
    -- the draw names a move
    named : has moves (nth_of moves d) ≡ true
    named = (nth_named moves d (ltb-true d (size_of moves) low)).member.is

    abbrev next : CraftState
    next = drawn_state c s moves d

    rolls_next : Rolls c next (strict_moves c next) (at + 1) draws result end → Rolls c s moves at (d ∷ draws) result end
    unfolding Sampled sampled_of rolled_from
    rolls_next rest =
        record {
          least = omega (arith, rest.least);
          most = omega (arith, rest.most);
          sampled = first;
          bounded = λ top mode among timely.
              rest.bounded top strict (λ n e. e) (legal_timely c top s timely attributes_of rows_bounded mode (nth_of moves d) (among (nth_of moves d) named));
          enough = again;
          fewer = wanted;
        }
      where
        first : (n : ℕ) → at + n ≤ end → Sampled c s moves (sampled_of c s moves n (d ∷ draws))
        first zero h = tt
        first (suc n) h = (named, rest.sampled n (omega arith))

        again : (others : List ℕ) (used : ℕ) → at + used ≡ end → take used others ≡ take used (d ∷ draws) → rolled_from c s moves at others ≡ ends result end
        again others zero h same = absurd (omega (arith, rest.least))
        again [] (suc used) h same = cc
        again (x ∷ others) (suc used) h same =
            let here : x ≡ d = cc in
            let later : take used others ≡ take used draws = cc in
            rw (here, some, low) (rest.enough others used (omega arith) later)

        wanted : (n : ℕ) → at + n < end → rolled_from c s moves at (take n (d ∷ draws)) ≡ Err NoDraw
        wanted zero h = rw some refl
        wanted (suc n) h = rw (some, low) (rest.fewer n (omega arith))

  -- THE law of a rollout that ended
  pub rolled : (s : CraftState) (moves at : ℕ) (draws : List ℕ) (result : CraftResult) (end : ℕ) → rolled_from c s moves at draws ≡ ends result end
      → Rolls c s moves at draws result end
  unfolding rolled_from
  rolled s moves at [] result end e = go (eqb moves 0) refl e
    where
      go : (none : Bool) → eqb moves 0 ≡ none → cond none (ends (judged_by c s moves) at) (Err NoDraw) ≡ ends result end
          → Rolls c s moves at [] result end
      go true q e = rolls_none s moves at [] result end q e
      go false q e = absurd (never e)
  rolled s moves at (d ∷ draws) result end e =
      go (eqb moves 0) refl (ltb d (size_of moves)) refl e
      (rolled (drawn_state c s moves d) (strict_moves c (drawn_state c s moves d)) (at + 1) draws result end)
    where
      later : Rolled
      later = rolled_from c (drawn_state c s moves d) (strict_moves c (drawn_state c s moves d)) (at + 1) draws

      go : (none : Bool) → eqb moves 0 ≡ none → (low : Bool) → ltb d (size_of moves) ≡ low
          → cond none (ends (judged_by c s moves) at) (cond low later (Err DrawTooHigh)) ≡ ends result end
          → (later ≡ ends result end → Rolls c (drawn_state c s moves d) (strict_moves c (drawn_state c s moves d)) (at + 1) draws result end)
          → Rolls c s moves at (d ∷ draws) result end
      go true q low p e rest = rolls_none s moves at (d ∷ draws) result end q e
      go false q true p e rest = rolls_next s moves at d draws result end q p (rest e)
      go false q false p e rest = absurd (never e)
