-- Amounts, and rows, are compared by a test that computes.
-- Assumes nothing.
use Rattle.std.specs.Prelude.{Option, Some, None, ℕ}
use mathlib.Core.Path.{◌≡◌, refl, ap}
use mathlib.Core.Bool.{Bool, true, false, ◌&&◌}
use lib.Dec.{T, eqb, eqb→eq}
use Rattle.laws.specs.laws.Tests.{and_left, and_right}
use Rattle.action.specs.declared.table.Attributes.{Attributes}

abbrev same_amount : Option ℕ → Option ℕ → Bool
same_amount (Some a) (Some b) = eqb a b
same_amount (Some a) None = false
same_amount None (Some b) = false
same_amount None None = true

same_amount_lem : (x y : Option ℕ) → T (same_amount x y) → x ≡ y
same_amount_lem (Some a) (Some b) t = ap Some (eqb→eq a b t)
same_amount_lem (Some a) None t = absurd t
same_amount_lem None (Some b) t = absurd t
same_amount_lem None None t = refl

both : (a b : Bool) → T (a && b) → T a × T b
both a b t = (and_left a b t, and_right a b t)

abbrev pub same_row : Attributes → Attributes → Bool
same_row a b =
    eqb a.level b.level
    && (same_amount a.progress_efficiency b.progress_efficiency
    && (same_amount a.quality_efficiency b.quality_efficiency
    && (same_amount a.durability_cost b.durability_cost
    && same_amount a.cp_cost b.cp_cost)))

pub same_row_lem : (a b : Attributes) → T (same_row a b) → a ≡ b
same_row_lem a b t =
    let t1 = both (eqb a.level b.level) _ t in
    let t2 = both (same_amount a.progress_efficiency b.progress_efficiency) _ t1.1 in
    let t3 = both (same_amount a.quality_efficiency b.quality_efficiency) _ t2.1 in
    let t4 = both (same_amount a.durability_cost b.durability_cost) _ t3.1 in
    rw (
      eqb→eq a.level b.level t1.0,
      same_amount_lem a.progress_efficiency b.progress_efficiency t2.0,
      same_amount_lem a.quality_efficiency b.quality_efficiency t3.0,
      same_amount_lem a.durability_cost b.durability_cost t4.0,
      same_amount_lem a.cp_cost b.cp_cost t4.1,
    )
