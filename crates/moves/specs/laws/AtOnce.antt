-- The moves by sets are those of the walk over candidates: each rule is asked for once, in whatever order. Over any table of rows inside the bounds.
-- Assumes nothing.
use Rattle.std.specs.Prelude.{◌≡◌, refl, true, false, cond, not, ◌&&◌, ◌||◌, eqb, ltb, Option, Some, None}
use Rattle.std.proofs.Common.{sym, ◌∙◌, eqb-true}
use Rattle.std.proofs.Math.Path.{ap}
use Rattle.std.proofs.Math.Bool.{Bool}
use Prim.Native.Nat.{ℕ}
use Rattle.laws.specs.Bits.{has}
use Rattle.laws.specs.laws.Tests.{and_false, and_assoc, and_comm}
use Rattle.laws.specs.laws.Bits.{has_collect, keep_same, keep_keep}
use Rattle.action.specs.Actions as A
use Rattle.action.specs.Known.{actions}
use Rattle.action.specs.Amount.{present}
use Rattle.action.specs.Bounds.{Rows, RowsIn}
use Rattle.action.specs.declared.table.Attributes.{Attributes}
use Rattle.action_set.specs.Sets.{set_of, keep_of}
use Rattle.craft_context.specs.declared.context.CraftContext.{CraftContext}
use Rattle.craft_state.specs.declared.state.CraftState.{CraftState}
use Rattle.moves.specs.Rules.{affords, may_improve, eye_alone, may_progress, own_rule, strict_rule}
use Rattle.moves.specs.Moves.{strictly_of, allowed_of}
use Rattle.moves.specs.declared.mode.Mode.{Mode}
use Rattle.moves.specs.inner.Sets.{unless_of, kind_rule, strict_beyond}
use Rattle.moves.specs.laws.Moves.{eye_own}
use Rattle.moves.specs.laws.Leaves.{rule, lets, unless_lets}
use Rattle.moves.specs.laws.Sets.{only, touches}

implied : (a b : Bool) → (b ≡ true → a ≡ true) → a && b ≡ b
implied a true f = rw (f refl)
implied a false f = and_false a

turned : (a b x : Bool) → a && (b && x) ≡ (x && a) && b
turned a b x = sym (and_assoc a b x) ∙ and_comm (a && b) x ∙ sym (and_assoc x a b)

module _ (c : CraftContext) (s : CraftState) where
  -- TrainedEye alone, or the rules of strict mode one after the other
  pub eye_leaves : eye_alone c s ≡ true → (rows : Rows) (set : ℕ)
      → keep_of (has (set_of (only A.TrainedEye))) set ≡ keep_of (λ n. strict_beyond c s n (rows n)) set
  eye_leaves e rows set =
      keep_same actions set (has (set_of (only A.TrainedEye))) (λ n. strict_beyond c s n (rows n))
      (λ n l t. rw e (has_collect (only A.TrainedEye) actions n l))

  pub beyond_leaves : eye_alone c s ≡ false → (rows : Rows) (set : ℕ)
      → keep_of (λ n. may_progress c s (rows n).progress_efficiency (rows n).quality_efficiency)
      (keep_of (λ n. kind_rule c s n (rows n)) (keep_of (strict_rule c s) set))
      ≡ keep_of (λ n. strict_beyond c s n (rows n)) set
  beyond_leaves e rows set =
      let kind : ℕ → Bool = λ n. kind_rule c s n (rows n) in
      let progress : ℕ → Bool = λ n. may_progress c s (rows n).progress_efficiency (rows n).quality_efficiency in
      keep_keep actions (keep_of (strict_rule c s) set) kind progress
      ∙ keep_keep actions set (strict_rule c s) (λ n. kind n && progress n)
      ∙ keep_same actions set (λ n. strict_rule c s n && (kind n && progress n)) (λ n. strict_beyond c s n (rows n)) (λ n l t. rw e)

  -- TrainedEye alone passes its own rule; otherwise the same rules are asked in another order
  own_beyond : (n : ℕ) (row : Attributes) → own_rule c s n row && strict_beyond c s n row ≡ strictly_of c s n row
  unfolding strictly_of
  own_beyond n row = by (eye_alone c s) (eye_own c s n row)
    where
      rules : Bool
      rules = kind_rule c s n row && may_progress c s row.progress_efficiency row.quality_efficiency

      by : (b : Bool) → (b ≡ true → n ≡ A.TrainedEye → own_rule c s n row ≡ true)
          → own_rule c s n row && cond b (eqb n A.TrainedEye) (strict_rule c s n && rules)
          ≡ cond b (eqb n A.TrainedEye) (rules && own_rule c s n row && strict_rule c s n)
      by true own = implied (own_rule c s n row) (eqb n A.TrainedEye) (λ t. own refl (eqb-true n A.TrainedEye t))
      by false own = turned (own_rule c s n row) (strict_rule c s n) rules

  module _ (rows : Rows) (bounded : RowsIn rows) (pool : ℕ) where
    abbrev own : ℕ → Bool
    own n = own_rule c s n (rows n)

    abbrev improves : ℕ → Bool
    improves n = may_improve c s (rows n).quality_efficiency

    abbrev pays : ℕ → Bool
    pays n = affords s n (rows n).cp_cost

    improve_by : (quality : Option ℕ) → not (present quality) || ltb s.quality c.quality_target ≡ may_improve c s quality
    improve_by (Some q) = refl
    improve_by None = refl

    -- what either mode leaves of the pool: what quality allows, and of that what the own rules do
    abbrev pub either_of : ℕ
    either_of = keep_of own (unless_of pool (set_of touches) (ltb s.quality c.quality_target))

    either_is : either_of ≡ keep_of (λ n. improves n && own n) pool
    either_is =
        let quality = rule touches (ltb s.quality c.quality_target) in
        let improved : keep_of (lets quality) pool ≡ keep_of improves pool =
        keep_same actions pool (lets quality) improves (λ n l t. rw (← (bounded n l).shape.quality) (improve_by (rows n).quality_efficiency))
        in ap (keep_of own) (unless_lets quality pool ∙ improved) ∙ keep_keep actions pool improves own

    -- the price is asked for last, where the definition asks for it first
    priced : (rules : ℕ → Bool) → keep_of pays (keep_of (λ n. improves n && rules n) pool) ≡ keep_of (λ n. pays n && improves n && rules n) pool
    priced rules =
        keep_keep actions pool (λ n. improves n && rules n) pays
        ∙ keep_same actions pool (λ n. (improves n && rules n) && pays n) (λ n. pays n && improves n && rules n)
        (λ n l t. and_comm (improves n && rules n) (pays n) ∙ sym (and_assoc (pays n) (improves n) (rules n)))

    module _ (mode : Mode) where
      abbrev allows : ℕ → Bool
      allows n = allowed_of c s mode n (rows n)

      -- THE theorem of the moves by sets, in either mode
      pub plain_at_once : mode.strict ≡ false → keep_of pays either_of ≡ keep_of allows pool
      unfolding allowed_of
      plain_at_once e = rw e (ap (keep_of pays) either_is ∙ priced own)

      pub strict_at_once : mode.strict ≡ true → keep_of pays (keep_of (λ n. strict_beyond c s n (rows n)) either_of) ≡ keep_of allows pool
      unfolding allowed_of
      strict_at_once e =
          let beyond : ℕ → Bool = λ n. strict_beyond c s n (rows n) in
          let strictly : ℕ → Bool = λ n. strictly_of c s n (rows n) in
          let joined : keep_of beyond either_of ≡ keep_of (λ n. improves n && strictly n) pool =
          ap (keep_of beyond) either_is
          ∙ keep_keep actions pool (λ n. improves n && own n) beyond
          ∙ keep_same actions pool (λ n. (improves n && own n) && beyond n) (λ n. improves n && strictly n)
          (λ n l t. and_assoc (improves n) (own n) (beyond n) ∙ ap (λ (b : Bool). improves n && b) (own_beyond n (rows n)))
          in rw e (ap (keep_of pays) joined ∙ priced strictly)
