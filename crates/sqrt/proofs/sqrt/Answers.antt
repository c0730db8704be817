-- `sqrt::sqrt` meets its contract, by cases of x.
-- Assumes nothing.
use mathlib.Core.Path.{sym, ap, ◌∙◌, subst}
use Prim.Native.Nat.{ℕ}
use lib.Dec.{T}
use lib.Ieee.{binary32, fits, of_bits}
use lib.Ieee.Positive.{positive}
use Rattle.sqrt.specs.laws.Cases.{yes, no, above_zero, below_inf, at_positive, at_end, at_none}
use Rattle.sqrt.specs.laws.Patterns.{in_range, no_nan}
use Rattle.std.proofs.Common.{inl, inr}
use Rattle.sqrt.proofs.sqrt.Goals as goal
use Rattle.sqrt.proofs.sqrt.Goals.{Start, Then-x-2, else-x-via-then-x+else-x-2, else-x-via-else-x}

held : (c : Start) → T (fits binary32 c.args.x)
held c = subst T (sym c.well_formed.0.1) tt

finite : (c : Then-x-2) → T (positive c.args.x)
finite c = below_inf _ (above_zero _ (yes _ c.if-x.true)) (yes _ c.if-x-2.true)

pub root_bits-requires : goal.root_bits-requires
root_bits-requires c = in_range _ (held c.before.before) (finite c)

pub float_from_bits-result : goal.float_from_bits-result
float_from_bits-result c = no_nan _ c.root_bits.ensures.1

pub returns-then-x-2 : goal.returns-then-x-2
returns-then-x-2 c = ap (λ (b : ℕ). of_bits binary32 b) c.root_bits.ensures.0 ∙ at_positive _ (finite c.before)

pub returns-then-x-3 : goal.returns-then-x-3
returns-then-x-3 c =
    at_end _ (yes _ c.if-x-3.true) (elim c.else-x.branch [ else-x-via-then-x+else-x-2 w ↦ inr (no _ w.if-x-2.false) | else-x-via-else-x w ↦ inl (no _ w.if-x.false) ])

pub returns-else-x-3 : goal.returns-else-x-3
unfolding of_bits
returns-else-x-3 c = at_none _ (no _ c.if-x-3.false)
