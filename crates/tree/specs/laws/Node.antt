-- Laws of one record: what is known of a sound one; that a new one is sound where its parent is below it and its action known; and that a sound one with a
-- visit to spare is sound after it, whatever the rounding of its sum.
-- Assumes nothing.
use Rattle.std.specs.Prelude.{◌≡◌, ℕ, ◌+◌, ◌<◌, ◌≤◌, Bool, true, false, cond, not, ◌&&◌, ◌||◌, T, refl, Float}
use Rattle.std.proofs.Math.Path.{sym, ap}
use Rattle.std.proofs.Common.{subst, ◌∙◌, arith, lit≤, le→leb, lt-ltb, ne_eqb}
use Rattle.std.specs.Float.Ieee.{binary32, of_int, add, neg, lt, le, eq, to_unsigned, in_float}
use Rattle.std.specs.Float.Ieee.Back.{unsigned_back}
use Rattle.std.specs.Float.Ieee.Bits.{is_true}
use Rattle.std.specs.Float.Ieee.Digits.{Equals}
use Rattle.std.specs.Float.Ieee.Exact.{HasValue}
use Rattle.std.specs.Float.Ieee.Order.{le_of_values}
use Rattle.laws.specs.laws.Tests.{true_false, both, and_both}
use Rattle.laws.specs.laws.Small.{Small, of_nat_value, truncated_small}
use Rattle.laws.proofs.Small.{add_small}
use Rattle.action.specs.Known.{known}
use Rattle.tree.specs.declared.node.Node.{Node}
use Rattle.tree.specs.Node.{plus_zero, visits_most, count_most, node_of, root_node, is_score, is_full, greater_of, touched_of}
use Rattle.action_set.specs.Sets.{is_set}
use Rattle.tree.specs.Sound.{placed, is_count, within, minus, is_maximum, sound_at}
use Rattle.tree.specs.laws.Float.{within_small, small_within, count_small, eq_self, eq_equals, same_value}
use Rattle.tree.specs.laws.Float.{count_more, plus_above, zero_value, one_value, most_value}
use Rattle.laws.specs.Floats.{float, one, minus_one}

pub holds : {b : Bool} → b ≡ true → T b
holds e = subst T (sym e) tt

or_right : (a : Bool) {b : Bool} → b ≡ true → a || b ≡ true
or_right true e = refl
or_right false e = e

-- ---- what is known of a sound record

pub record Parts (k : ℕ) (n : Node) : Type 0 where
  pub place : placed k n.parent n.action ≡ true
  pub count : is_count n.visits ≡ true
  pub sum : within n.score_sum n.visits ≡ true
  pub maximum : is_maximum n.max_score ≡ true
  pub moves : is_set n.unused ≡ true

pub sound_parts : {k : ℕ} {n : Node} → sound_at k n ≡ true → Parts k n
unfolding sound_at
sound_parts e =
    let last = both _ _ e in
    let fourth = both _ _ last.0 in
    let third = both _ _ fourth.0 in
    let second = both _ _ third.0 in
    record { place = second.0; count = second.1; sum = third.1; maximum = fourth.1; moves = last.1 }

pub sound_of : {k : ℕ} {n : Node} → Parts k n → sound_at k n ≡ true
unfolding sound_at
sound_of p = and_both (and_both (and_both (and_both p.place p.count) p.sum) p.maximum) p.moves

-- ---- counts

module _ (x : Float) (e : is_count x ≡ true) where
  pub count_most_lem : to_unsigned 64 x ≤ count_most
  unfolding is_count
  count_most_lem = truncated_small 64 x count_most (count_small x (holds (both (le plus_zero x && le x visits_most) _ e).0))

  pub count_equals : Equals x (to_unsigned 64 x) 1
  unfolding is_count
  count_equals =
      eq_equals (float (to_unsigned 64 x)) x (to_unsigned 64 x) (of_nat_value binary32 (to_unsigned 64 x) count_most_lem)
      (holds (both (le plus_zero x && le x visits_most) _ e).1)

pub float_count : (k : ℕ) → k ≤ count_most → is_count (float k) ≡ true
unfolding is_count in_float
float_count k h =
    let value : HasValue (float k) false k 1 = of_nat_value binary32 k h in
    let cut : to_unsigned 64 (float k) ≡ k = (unsigned_back binary32 64 k (le→leb k count_most h) (omega arith)).1 in
    let least : le plus_zero (float k) ≡ true = is_true _ (le_of_values plus_zero (float k) 0 1 k 1 (lit≤ tt) (lit≤ tt) zero_value value (omega arith)) in
    let most : le (float k) visits_most ≡ true = is_true _
    (le_of_values (float k) visits_most k 1 count_most 1 (lit≤ tt) (lit≤ tt) value most_value (omega arith)) in
    let whole : eq (float k) (float k) ≡ true = is_true _ (eq_self (float k) k value) in
    simp (least, most, cut, whole)

-- a count that is not full
pub count_below : (x : Float) → is_count x ≡ true → le visits_most x ≡ false → to_unsigned 64 x < count_most
unfolding is_count le
count_below x e room = omega (arith, count_most_lem x e, full)
  where
    whole : eq (float (to_unsigned 64 x)) x ≡ true
    whole = (both (le plus_zero x && le x visits_most) _ e).1

    full : to_unsigned 64 x ≡ count_most → ⊥
    full q = true_false (sym (or_right (lt visits_most x) (rw q at whole)) ∙ room)

-- ---- a new record

pub root_sound : (unused : ℕ) → is_set unused ≡ true → sound_at 0 (root_node unused) ≡ true
unfolding sound_at is_count is_maximum of_int le lt eq neg to_unsigned
root_sound unused moves = moves

pub new_sound : (k parent action unused : ℕ) → 0 < k → parent < k → known action ≡ true → is_set unused ≡ true → sound_at k (node_of parent action unused) ≡ true
unfolding sound_at is_count is_maximum of_int le lt eq neg to_unsigned
new_sound k parent action unused some below is moves = simp (ne_eqb k 0 (λ e. omega arith), lt-ltb parent k below, is, moves)

-- ---- a visit

-- the score's size
score_small : (score : Float) → is_score score ≡ true → Small score 1
unfolding neg of_int
score_small score e = within_small score one 1 one_value.1 (holds e)

pub greater_maximum : (maximum score : Float) → is_maximum maximum ≡ true → is_score score ≡ true → is_maximum (greater_of maximum score) ≡ true
unfolding is_maximum
greater_maximum maximum score e is = go (lt maximum score) refl
  where
    go : (t : Bool) → lt maximum score ≡ t → is_maximum (cond t score maximum) ≡ true
    go false q = e
    go true q =
        let parts = plus_above maximum score (holds (both (le plus_zero maximum && le maximum one) _ e).1) (holds q) in
        simp (is_true (le plus_zero score) parts.0, (both (le minus_one score) _ is).1, is_true (not (minus score)) parts.1)

module _ (k : ℕ) (n : Node) (score : Float) (sound : sound_at k n ≡ true) (room : is_full n ≡ false) where
  abbrev visits_of : ℕ
  visits_of = to_unsigned 64 n.visits

  visits_below : visits_of < count_most
  visits_below = count_below n.visits (sound_parts sound).count room

  visits_equal : Equals n.visits visits_of 1
  visits_equal = count_equals n.visits (sound_parts sound).count

  visits_more : add binary32 n.visits one ≡ float (visits_of + 1)
  visits_more = count_more n.visits visits_of refl visits_equal

  visits_value : HasValue (float (visits_of + 1)) false (visits_of + 1) 1
  visits_value = of_nat_value binary32 (visits_of + 1) (omega (arith, visits_below))

  -- a visit is seen
  pub touched_differs : touched_of n score ≡ n → ⊥
  unfolding touched_of
  touched_differs e =
      let stays : float (visits_of + 1) ≡ n.visits = sym visits_more ∙ ap (λ (m : Node). m.visits) e in
      omega (arith, same_value n.visits (visits_of + 1) visits_of (rw stays at visits_value) visits_equal)

  -- THE theorem of one record
  pub touched_sound : is_score score ≡ true → sound_at k (touched_of n score) ≡ true
  unfolding touched_of
  touched_sound is =
      let parts = sound_parts sound in
      let summed : Small (add binary32 n.score_sum score) (visits_of + 1) =
      add_small binary32 n.score_sum score visits_of 1 (omega (arith, visits_below))
      (within_small n.score_sum n.visits visits_of visits_equal (holds parts.sum))
      (score_small score is) in
      sound_of (record {
        place = parts.place;
        count = rw visits_more (float_count (visits_of + 1) (omega (arith, visits_below)));
        sum = rw visits_more (is_true _ (small_within (add binary32 n.score_sum score) (float (visits_of + 1)) (visits_of + 1) visits_value summed));
        maximum = greater_maximum n.max_score score parts.maximum is;
        moves = parts.moves;
      })
