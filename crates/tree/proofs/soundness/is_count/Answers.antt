-- `tree::soundness::is_count` meets its contract: from 0 to the most visits the fraction can be dropped, and what is left is exact.
-- Assumes nothing.
use Rattle.std.proofs.Common.{◌≡◌, Bool, true, false, ◌&&◌, T, sym, subst, lit<, le→leb}
use lib.Ieee.{Float, le, of_int, of_bits, in_float}
use Rattle.laws.specs.laws.Small.{Small, below_pow, truncated_small}
use Rattle.laws.specs.laws.Tests.{and_left}
use Rattle.tree.specs.Node.{plus_zero, visits_most, count_most}
use Rattle.tree.specs.Sound.{is_count}
use Rattle.tree.specs.laws.Float.{zero_above, count_small}
use Rattle.tree.proofs.soundness.is_count.Goals as goal
use Rattle.tree.proofs.soundness.is_count.Goals.{Else-visits, Then-visits}

abbrev ranged : Float → Bool
ranged visits = le plus_zero visits && le visits visits_most

-- the source's 16777216.0 is that whole number
taken : (c : Then-visits) → ranged c.args.visits ≡ true
unfolding of_int of_bits
taken c = c.if-visits.true

left : (c : Else-visits) → ranged c.args.visits ≡ false
unfolding of_int of_bits
left c = c.if-visits.false

inside : (c : Then-visits) → T (ranged c.args.visits)
inside c = subst T (sym (taken c)) tt

small : (c : Then-visits) → Small c.args.visits count_most
small c = count_small c.args.visits (inside c)

pub truncating_f32_to_u64-requires : goal.truncating_f32_to_u64-requires
unfolding is_count in_float
truncating_f32_to_u64-requires c =
    let d = (goal.at.truncating_f32_to_u64-requires c).Then-visits in
    record {
      lower_bound = zero_above c.args.visits (and_left (le plus_zero c.args.visits) _ (inside d));
      upper_bound = below_pow c.args.visits count_most 64 (lit< tt) (small d);
    }

pub int_to_float-result : goal.int_to_float-result
unfolding is_count in_float
int_to_float-result c =
    rw c.truncating_f32_to_u64.ensures
    (le→leb _ _ (truncated_small 64 c.args.visits count_most (small (goal.at.int_to_float-result c).Then-visits)))

pub returns-then-visits : goal.returns-then-visits
unfolding is_count in_float
returns-then-visits c = simp (taken (goal.at.returns-then-visits c).Then-visits, c.truncating_f32_to_u64.ensures)

pub returns : goal.returns
unfolding is_count in_float
returns c = simp (left c)
