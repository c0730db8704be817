-- How the definition of a rollout unrolls, as the loop takes it: by whether there are moves to draw from, and what the next draw names.
-- Assumes nothing.
use Rattle.std.specs.Prelude.{◌≡◌, Bool, ℕ, ◌+◌, ltb, drop, get_or, Ok, Err}
use Rattle.std.proofs.Math.Path.{refl, sym, ap}
use Rattle.std.proofs.Common.{◌∙◌, eq-eqb, ne_eqb}
use Rattle.std.proofs.Math.Bool.{true, false, cond}
use mathlib.Core.List.{List, [], ◌∷◌}
use Rattle.laws.specs.laws.Lists.{drop_at}
use Rattle.refusal.specs.declared.Refusal.{Refusal}
use Rattle.refusal.specs.declared.Refusal.TheVariants.{DrawTooHigh}
use Rattle.action_set.specs.Sets.{size_of, nth_of}
use Rattle.craft_context.specs.declared.context.CraftContext.{CraftContext}
use Rattle.craft_state.specs.declared.state.CraftState.{CraftState}
use Rattle.step.specs.Step.{execute_of}
use Rattle.score.specs.Result.{judged_by}
use Rattle.rollout.specs.Draws.{drawn_of, on_drawn}
use Rattle.rollout.specs.Rollout.{strict_moves, Rolled, ends, rolled_from}
use Rattle.rollout.specs.laws.Draws.{drawn_there}

module _ (c : CraftContext) (s : CraftState) (moves at : ℕ) where
  pub roll_over : moves ≡ 0 → (draws : List ℕ) → ends (judged_by c s moves) at ≡ rolled_from c s moves at draws
  unfolding rolled_from
  roll_over e [] = rw (eq-eqb moves 0 e)
  roll_over e (d ∷ draws) = rw (eq-eqb moves 0 e)

  -- where the action is executed
  abbrev onward : ℕ → List ℕ → Rolled
  onward n later = rolled_from c (execute_of c s n) (strict_moves c (execute_of c s n)) (at + 1) later

  module _ (some : moves ≡ 0 → ⊥) where
    -- by what the draw names
    roll_first : (d : ℕ) (later : List ℕ) → rolled_from c s moves at (d ∷ later) ≡ on_drawn Err (λ n. onward n later) (drawn_of moves (d ∷ later))
    unfolding rolled_from
    roll_first d later = rw (ne_eqb moves 0 some) (by (ltb d (size_of moves)))
      where
        by : (b : Bool)
            → cond b (onward (nth_of moves d) later) (Err DrawTooHigh)
            ≡ on_drawn Err (λ n. onward n later) (cond b (Ok (nth_of moves d)) (Err DrawTooHigh))
        by true = refl
        by false = refl

    pub roll_refused : (draws : List ℕ) {x : Refusal} → drawn_of moves draws ≡ Err x → Err x ≡ rolled_from c s moves at draws
    unfolding rolled_from
    roll_refused [] {x} e = rw (ne_eqb moves 0 some) (ap (on_drawn Err (λ n. Err x)) (sym e))
    roll_refused (d ∷ later) e = sym (roll_first d later ∙ ap (on_drawn Err (λ n. onward n later)) e)

    pub roll_sampled : (list : List ℕ) {n : ℕ} → drawn_of moves (drop at list) ≡ Ok n → rolled_from c s moves at (drop at list) ≡ onward n (drop (at + 1) list)
    roll_sampled list e =
        let here = drop_at list at (drawn_there moves list at e) in
        ap (rolled_from c s moves at) here
        ∙ roll_first (get_or list at 0) (drop (at + 1) list)
        ∙ ap (on_drawn Err (λ n. onward n (drop (at + 1) list))) (ap (drawn_of moves) (sym here) ∙ e)
