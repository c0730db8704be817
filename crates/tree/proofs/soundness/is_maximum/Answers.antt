-- `tree::soundness::is_maximum` meets its contract: a NaN is not from 0 to 1, and the sign bit tells minus zero.
-- Assumes nothing.
use Rattle.std.proofs.Common.{not, T, sym, ◌∙◌, subst}
use lib.Ieee.{is_nan, of_int, of_bits}
use Rattle.laws.specs.laws.NoNan.{small_no_nan}
use Rattle.tree.specs.Sound.{is_maximum}
use Rattle.tree.specs.laws.Float.{one_small, bits_sign}
use Rattle.tree.proofs.soundness.is_maximum.Goals as goal
use Rattle.tree.proofs.soundness.is_maximum.Goals.{Then-score}

number : (c : Then-score) → T (not (is_nan c.args.score))
unfolding of_int of_bits
number c = small_no_nan c.args.score 1 (one_small c.args.score (subst T (sym c.if-score.true) tt))

pub returns-then-score : goal.returns-then-score
unfolding is_maximum of_int of_bits
returns-then-score c = bits_sign c.args.score (subst T (sym c.well_formed.0.1) tt) (number c) ∙ simp c.if-score.true

pub returns : goal.returns
unfolding is_maximum of_int of_bits
returns c = simp c.if-score.false
