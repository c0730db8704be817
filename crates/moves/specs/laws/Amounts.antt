-- Laws of what the amounts of a row decide: the price, and in strict mode what progress comes to. Over any table of rows inside the bounds.
-- Assumes nothing.
use Rattle.std.specs.Prelude.{◌≡◌, refl, Bool, false, ◌&&◌, ◌||◌, ℕ, ◌/◌, ◌≤◌, ◌<◌, eqb, leb, Option, Some, None}
use Rattle.std.proofs.Common.{sym, ◌∙◌, zero-le, le_trans, le-leb}
use Rattle.std.proofs.Math.Path.{ap}
use Rattle.std.proofs.Math.Bool.{true, not}
use Rattle.laws.specs.Bits.{has}
use Rattle.laws.specs.laws.Tests.{and_true, true_false}
use Rattle.laws.specs.laws.Bits.{has_collect, has_keep, keep_same, keep_keep, keep_whole}
use Rattle.action.specs.Known.{actions}
use Rattle.action.specs.Amount.{present, AtMost}
use Rattle.action.specs.Price.{affordable}
use Rattle.action.specs.Bounds.{Rows, RowsIn}
use Rattle.action_set.specs.Sets.{SetIn, set_of, keep_of}
use Rattle.craft_context.specs.declared.context.CraftContext.{CraftContext}
use Rattle.craft_state.specs.declared.state.CraftState.{CraftState}
use Rattle.moves.specs.Rules.{may_progress}
use Rattle.moves.specs.inner.Sets.{unless_of, amount_of, finishes_with}
use Rattle.moves.specs.laws.Sets.{works, only_works}

-- ---- the price

pub amount_at_most : {most : ℕ} (a : Option ℕ) → AtMost most a → amount_of a ≤ most
amount_at_most (Some amount) h = h
amount_at_most None h = zero-le

-- none is 0, for which any points are enough
pub affordable_by : (points : ℕ) (price : Option ℕ) → leb (amount_of price) points ≡ affordable points price
affordable_by points (Some price) = refl
affordable_by points None = le-leb 0 points zero-le

-- no price is above the most, and points for that are enough for all
pub payable_all : (rows : Rows) {most : ℕ} → ((n : ℕ) → n < actions → AtMost most (rows n).cp_cost) → (points : ℕ) → most ≤ points
    → (set : ℕ) → SetIn set → set ≡ keep_of (λ n. affordable points (rows n).cp_cost) set
payable_all rows cheap points enough set h =
    sym (keep_whole actions set (λ n. affordable points (rows n).cp_cost) h
    (λ n l. sym (affordable_by points (rows n).cp_cost) ∙ le-leb _ _ (le_trans (amount_at_most (rows n).cp_cost (cheap n l)) enough)))

-- ---- what progress comes to

module _ (c : CraftContext) (s : CraftState) (rows : Rows) (bounded : RowsIn rows) where
  -- n finishes
  abbrev finish : ℕ → Bool
  finish n = finishes_with c s (amount_of (rows n).progress_efficiency)

  -- those of a set that finish
  abbrev pub finishing : ℕ → ℕ
  finishing set = keep_of finish (keep_of (has (set_of works)) set)

  -- quality is at a fifth of its target; no innovation
  abbrev enough : Bool
  enough = leb (c.quality_target / 5) s.quality

  abbrev outside : Bool
  outside = eqb s.buffs.innovation 0

  -- by the row: those that finish have enough quality, pure progress that does not is outside innovation
  progress_by_lem : (finishes : Bool) (progress quality : Option ℕ) → finishes ≡ present progress && finishes_with c s (amount_of progress)
      → (not finishes || enough) && (not ((present progress && not (present quality)) && (not finishes || false)) || outside)
      ≡ may_progress c s progress quality
  progress_by_lem true (Some p) (Some q) e = rw (← e) (and_true enough)
  progress_by_lem true (Some p) None e = rw (← e) (and_true enough)
  progress_by_lem false (Some p) (Some q) e = rw (← e)
  progress_by_lem false (Some p) None e = rw (← e)
  progress_by_lem true None q e = absurd (true_false e)
  progress_by_lem false None q e = refl

  module _ (set : ℕ) where
    -- pure progress that does not finish
    abbrev rest : ℕ
    rest = unless_of (set_of only_works) (finishing set) false

    finishes_is : (n : ℕ) → n < actions → has set n ≡ true → has (finishing set) n ≡ works n && finish n
    finishes_is n l t =
        let working = keep_of (has (set_of works)) set in
        rw (has_keep actions working finish n l, has_keep actions set (has (set_of works)) n l, has_collect works actions n l, t)

    rest_is : (n : ℕ) → n < actions → has rest n ≡ only_works n && (not (has (finishing set) n) || false)
    unfolding unless_of
    rest_is n l =
        has_keep actions (set_of only_works) (λ n. not (has (finishing set) n) || false) n l
        ∙ ap (λ (b : Bool). b && (not (has (finishing set) n) || false)) (has_collect only_works actions n l)

    pub progress_leaves : unless_of (unless_of set (finishing set) enough) rest outside
        ≡ keep_of (λ n. may_progress c s (rows n).progress_efficiency (rows n).quality_efficiency) set
    unfolding unless_of
    progress_leaves =
        keep_keep actions set (λ n. not (has (finishing set) n) || enough) (λ n. not (has rest n) || outside)
        ∙ keep_same actions set _ (λ n. may_progress c s (rows n).progress_efficiency (rows n).quality_efficiency) each
      where
        each : (n : ℕ) → n < actions → has set n ≡ true
            → (not (has (finishing set) n) || enough) && (not (has rest n) || outside)
            ≡ may_progress c s (rows n).progress_efficiency (rows n).quality_efficiency
        each n l t =
            let shape = (bounded n l).shape in
            rw (rest_is n l, ← shape.quality, ← shape.progress)
            (progress_by_lem (has (finishing set) n) (rows n).progress_efficiency (rows n).quality_efficiency
            (finishes_is n l t ∙ ap (λ (b : Bool). b && finish n) (sym shape.progress)))
