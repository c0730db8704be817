-- A sound record holds no NaN, so no accepted call reads or leaves one among the records that are used.
-- Assumes nothing.
use Rattle.std.specs.Prelude.{◌≡◌, ℕ, Bool, true, false, not, ◌&&◌, refl, Float}
use Rattle.std.proofs.Common.{sym}
use Rattle.std.specs.Float.{nan, inf, fin}
use Rattle.std.specs.Float.Ieee.{is_nan, neg, lt, eq, le}
use Rattle.laws.specs.laws.Tests.{both}
use Rattle.tree.specs.declared.node.Node.{Node}
use Rattle.laws.specs.Floats.{one}
use Rattle.tree.specs.Node.{plus_zero, visits_most}
use Rattle.tree.specs.Sound.{is_whole, is_count, minus, is_maximum, sound_at}
use Rattle.tree.specs.laws.Node.{sound_parts}

-- what is at most something is no NaN
at_most_no_nan : (x most : Float) → le x most ≡ true → is_nan x ≡ false
unfolding le lt eq is_nan
at_most_no_nan nan most e = sym e
at_most_no_nan (inf s) most e = refl
at_most_no_nan (fin s m k) most e = refl

-- the part in the middle of three
middle : (a b c : Bool) → (a && b) && c ≡ true → b ≡ true
middle a b c e = (both a b (both (a && b) c e).0).1

count_no_nan : (x : Float) → is_count x ≡ true → is_nan x ≡ false
unfolding is_count
count_no_nan x e = at_most_no_nan x visits_most (middle (le plus_zero x) (le x visits_most) (is_whole x) e)

maximum_no_nan : (x : Float) → is_maximum x ≡ true → is_nan x ≡ false
unfolding is_maximum
maximum_no_nan x e = at_most_no_nan x one (middle (le plus_zero x) (le x one) (not (minus x)) e)

pub sound_no_nan : (k : ℕ) (n : Node) → sound_at k n ≡ true
    → (is_nan n.visits ≡ false) × (is_nan n.score_sum ≡ false) × (is_nan n.max_score ≡ false)
sound_no_nan k n e =
    let p = sound_parts {k = k} {n = n} e in
    let sum = (both (le (neg n.visits) n.score_sum) (le n.score_sum n.visits) p.sum).1 in
    (count_no_nan n.visits p.count, at_most_no_nan n.score_sum n.visits sum, maximum_no_nan n.max_score p.maximum)
