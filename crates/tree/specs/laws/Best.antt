-- The best child of a sound tree. The walk over the records (crates/tree/specs/inner/Best.antt) comes to the child of document 01's rule;
-- where there is a child there is one to which all give way, and no second.
-- Assumes nothing.
use Rattle.std.specs.Prelude.{◌≡◌, ℕ, zero, suc, ◌+◌, ◌<◌, ◌≤◌, Bool, true, false, cond, not, ◌&&◌, T, ◌⊎◌, List, [], ◌∷◌, ◌==◌, ◌≢◌, nat_le, nat_lt, Float, Option, Some, None}
use Rattle.std.proofs.Math.Path.{refl, sym}
use Rattle.std.proofs.Common.{◌∙◌, ap, subst, inl, inr, add-one}
use native.Mathlib.Omega.{arith}
use Rattle.std.proofs.Math.Dec.{eqb-suc-zero}
use Rattle.std.specs.Float.{nan, inf, fin}
use Rattle.std.specs.Float.Ieee.{lt, eq, le, of_int}
use Rattle.std.specs.Float.Ieee.Scale.{finite}
use borrow.Author.Tests.{leb-true, leb-false, ltb-true, lt-ltb, eqb-true, eqb-false, eq-eqb, ne_eqb, not-true}
use Rattle.laws.specs.Lists.{elem}
use Rattle.laws.specs.laws.Tests.{true_false, both, and_both}
use Rattle.laws.specs.laws.Order.{le_same, le_through, lt_le, not_le_lt}
use Rattle.tree.specs.declared.node.Node.{Node}
use Rattle.tree.specs.declared.best.Best.{Best}
use Rattle.tree.specs.Sound.{is_maximum}
use Rattle.tree.specs.Tree.{node_at, Falls, is_child, children_of, yields, all_yield, best_in, max_at, best_of}
use Rattle.tree.specs.inner.Best.{child_at, taken, is_better, pick_of, best_to, at_of}
use Rattle.tree.specs.laws.Node.{holds, sound_parts}
use Rattle.tree.specs.inner.Sound.{SoundTree}
use Rattle.tree.specs.laws.Tree.{last_or_below}
use Rattle.tree.specs.laws.Children.{children_each}
use Rattle.tree.specs.laws.Yield.{yields_before, yields_less, all_yield_lem, in_found, one_first, first_best}

-- ---- maxima are finite

maximum_finite : (x : Float) → is_maximum x ≡ true → T (finite x)
unfolding is_maximum le lt eq of_int
maximum_finite nan e = true_false (sym e)
maximum_finite (inf true) e = true_false (sym e)
maximum_finite (inf false) e = true_false (sym e)
maximum_finite (fin s m e) h = tt

-- ---- record by record, for the loop that finds the best child

-- record 0 is no child
pub best_first : (nodes : List Node) (parent : ℕ) → best_to 1 nodes parent ≡ None
unfolding best_to pick_of
best_first nodes parent = refl

pub best_next : (k : ℕ) (nodes : List Node) (parent : ℕ) → pick_of (best_to k nodes parent) k (node_at nodes k) parent ≡ best_to (k + 1) nodes parent
unfolding best_to
best_next k nodes parent = rw add-one

-- a child is above its parent, so the search may start after the parent
pub best_start : (nodes : List Node) (count parent : ℕ) → Falls nodes count → parent < count → None ≡ best_to (parent + 1) nodes parent
unfolding best_to pick_of
best_start nodes count parent falls inside = sym (go (parent + 1) (omega arith))
  where
    other : (k : ℕ) → k < parent + 1 → is_child k (node_at nodes k) parent ≡ false
    other zero h = refl
    other (suc k) h =
        let up : (node_at nodes (suc k)).parent < suc k = falls (suc k) (omega arith) (omega arith) in
        simp (eqb-suc-zero, ne_eqb (node_at nodes (suc k)).parent parent (λ e. omega arith))

    go : (m : ℕ) → m ≤ parent + 1 → best_to m nodes parent ≡ None
    go zero h = refl
    go (suc m) h = rw (other m (omega arith)) (go m (omega arith))

pub child_parent : (k : ℕ) (n : Node) (parent : ℕ) → is_child k n parent ≡ true → n.parent ≡ parent
child_parent k n parent e = eqb-true n.parent parent (both (not (k == 0)) _ e).1

pub child_some : (k : ℕ) (n : Node) (parent : ℕ) → is_child k n parent ≡ true → 0 < k
child_some k n parent e = let other : k ≡ 0 → ⊥ = eqb-false k 0 (not-true (k == 0) (both (not (k == 0)) _ e).0) in omega arith

-- ---- a child by its number

pub at_child : {k : ℕ} (n : ℕ) → Some k ≡ child_at n → (k ≡ n) × (0 < k)
at_child zero e = cc
at_child {k} (suc n) e = let same : k ≡ suc n = cc in (same, omega arith)

pub at_none : (n : ℕ) → None ≡ child_at n → n ≡ 0
at_none zero e = refl
at_none (suc n) e = cc

pub child_is : (n : ℕ) → 0 < n → Some n ≡ child_at n
child_is zero some = absurd (omega arith)
child_is (suc n) some = refl

-- ---- a best child is a child among those records, with its max_score

pub record IsChild (m : ℕ) (nodes : List Node) (parent : ℕ) (best : Best) : Type 0 where
  pub below : best.at < m
  pub child : is_child best.at (node_at nodes best.at) parent ≡ true
  pub score : best.max_score ≡ (node_at nodes best.at).max_score

abbrev pub IsBest : ℕ → List Node → ℕ → Option Best → Type 0
IsBest m nodes parent None = Unit {0}
IsBest m nodes parent (Some best) = IsChild m nodes parent best

pub best_child : (m : ℕ) (nodes : List Node) (parent : ℕ) → IsBest m nodes parent (best_to m nodes parent)
unfolding best_to pick_of
best_child zero nodes parent = tt
best_child (suc m) nodes parent =
    go (is_child m (node_at nodes m) parent && is_better (best_to m nodes parent) (node_at nodes m)) refl (later (best_to m nodes parent) (best_child m nodes parent))
  where
    later : (best : Option Best) → IsBest m nodes parent best → IsBest (suc m) nodes parent best
    later None r = tt
    later (Some best) r = record { below = omega (arith, r.below); child = r.child; score = r.score }

    go : (t : Bool) → is_child m (node_at nodes m) parent && is_better (best_to m nodes parent) (node_at nodes m) ≡ t
        → IsBest (suc m) nodes parent (best_to m nodes parent) → IsBest (suc m) nodes parent (cond t (Some (taken m (node_at nodes m))) (best_to m nodes parent))
    go true e rest = record { below = omega arith; child = (both _ _ e).0; score = refl }
    go false e rest = rest

-- ---- the best child among the first records

module _ (nodes : List Node) (parent : ℕ) where
  abbrev Child : ℕ → Type 0
  Child k = is_child k (node_at nodes k) parent ≡ true

  abbrev takes : ℕ → Bool
  takes m = is_child m (node_at nodes m) parent && is_better (best_to m nodes parent) (node_at nodes m)

  pub child_of : {m : ℕ} {best : Best} → best_to m nodes parent ≡ Some best → IsChild m nodes parent best
  child_of {m} q = subst (IsBest m nodes parent) q (best_child m nodes parent)

  -- a child that is not taken is worse than the one found before it
  worse : (m : ℕ) → Child m → takes m ≡ false
      → (best : Best) × (best_to m nodes parent ≡ Some best) × (le best.max_score (node_at nodes m).max_score ≡ false)
  worse m is e = go (best_to m nodes parent) refl (rw is at e)
    where
      go : (c : Option Best) → best_to m nodes parent ≡ c → is_better c (node_at nodes m) ≡ false
          → (best : Best) × (best_to m nodes parent ≡ Some best) × (le best.max_score (node_at nodes m).max_score ≡ false)
      go None q f = absurd (true_false f)
      go (Some best) q f = (best, q, f)

  -- where there is a child, one is found
  pub best_found : (m k : ℕ) → k < m → Child k → (best : Best) × (best_to m nodes parent ≡ Some best)
  unfolding best_to pick_of
  best_found zero k h is = absurd (omega arith)
  best_found (suc m) k h is = go (takes m) refl (last_or_below k m h) (λ l. best_found m k l is)
    where
      go : (t : Bool) → takes m ≡ t → (k ≡ m) ⊎ (k < m) → (k < m → (best : Best) × (best_to m nodes parent ≡ Some best))
          → (best : Best) × (cond t (Some (taken m (node_at nodes m))) (best_to m nodes parent) ≡ Some best)
      go true e w rest = (taken m (node_at nodes m), refl)
      go false e (inl q) rest = let w = worse m (rw q at is) e in (w.0, w.1)
      go false e (inr l) rest = rest l

  -- the last of equals: every child after it has a smaller max_score
  pub best_last : (m k : ℕ) → k < m → Child k → {best : Best} → best_to m nodes parent ≡ Some best → best.at < k
      → le best.max_score (node_at nodes k).max_score ≡ false
  unfolding best_to pick_of
  best_last zero k h is q l = absurd (omega arith)
  best_last (suc m) k h is {best} q l = go (takes m) refl (last_or_below k m h) (λ b p. best_last m k b is p l) q
    where
      go : (t : Bool) → takes m ≡ t → (k ≡ m) ⊎ (k < m) → (k < m → best_to m nodes parent ≡ Some best → le best.max_score (node_at nodes k).max_score ≡ false)
          → cond t (Some (taken m (node_at nodes m))) (best_to m nodes parent) ≡ Some best → le best.max_score (node_at nodes k).max_score ≡ false
      go true e w rest q = let same : taken m (node_at nodes m) ≡ best = cc in let at : m ≡ best.at = ap (λ (b : Best). b.at) same in absurd (omega arith)
      go false e (inl r) rest q =
          let w = worse m (rw r at is) e in
          let before = w.1 in
          let same : w.0 ≡ best = cc in
          rw (r, ← same) w.2
      go false e (inr b) rest q = rest b q

  -- the greatest: no child has a greater max_score
  pub best_greatest : (m : ℕ) → ((k : ℕ) → k < m → is_maximum (node_at nodes k).max_score ≡ true) → (k : ℕ) → k < m → Child k
      → {best : Best} → best_to m nodes parent ≡ Some best → T (le (node_at nodes k).max_score best.max_score)
  unfolding best_to pick_of
  best_greatest zero each k h is q = absurd (omega arith)
  best_greatest (suc m) each k h is {best} q =
      go (takes m) refl (last_or_below k m h) (λ l b p. best_greatest m (λ j b. each j (omega arith)) k l is p) q
    where
      found : {b : Best} → best_to m nodes parent ≡ Some b → T (finite b.max_score)
      found {b} p = let c = child_of {m = m} p in rw c.score (maximum_finite _ (each b.at (omega (arith, c.below))))

      go : (t : Bool) → takes m ≡ t → (k ≡ m) ⊎ (k < m)
          → (k < m → (b : Best) → best_to m nodes parent ≡ Some b → T (le (node_at nodes k).max_score b.max_score))
          → cond t (Some (taken m (node_at nodes m))) (best_to m nodes parent) ≡ Some best → T (le (node_at nodes k).max_score best.max_score)
      go true e (inl r) rest q =
          let same : taken m (node_at nodes m) ≡ best = cc in
          rw (← same, r) (le_same (node_at nodes m).max_score (maximum_finite _ (each m (omega arith))))
      go true e (inr l) rest q =
          let same : taken m (node_at nodes m) ≡ best = cc in
          let some = best_found m k l is in
          let better : le some.0.max_score (node_at nodes m).max_score ≡ true =
          ap (λ (c : Option Best). is_better c (node_at nodes m)) (sym some.1) ∙ (both (is_child m (node_at nodes m) parent) _ e).1 in
          rw (← same)
          (le_through (node_at nodes k).max_score some.0.max_score (node_at nodes m).max_score
          (maximum_finite _ (each k h)) (found some.1) (maximum_finite _ (each m (omega arith))) (rest l some.0 some.1) (holds better))
      go false e (inl r) rest q =
          let w = worse m (rw r at is) e in
          let before = w.1 in
          let same : w.0 ≡ best = cc in
          rw (r, ← same) (lt_le _ _ (not_le_lt w.0.max_score (node_at nodes m).max_score (found w.1) (maximum_finite _ (each m (omega arith))) w.2))
      go false e (inr l) rest q = rest l best q

empty : (l : List ℕ) → ((k : ℕ) → elem l k ≢ true) → l ≡ []
unfolding elem
empty [] none = refl
empty (k ∷ l) none = absurd (none k (rw (eq-eqb k k refl)))

-- ---- the best child is a child

module _ (nodes : List Node) (count parent : ℕ) where
  listed : (k : ℕ) → elem (children_of count nodes parent) k ≡ true → (k < count) × Child nodes parent k
  listed k e = let parts = both (nat_lt k count) _ (sym (children_each nodes parent count k) ∙ e) in (ltb-true k count parts.0, parts.1)

  lists : (k : ℕ) → k < count → Child nodes parent k → elem (children_of count nodes parent) k ≡ true
  lists k h is = children_each nodes parent count k ∙ and_both (lt-ltb k count h) is

  pub best_listed : 0 < best_of count nodes parent → (best_of count nodes parent < count) × Child nodes parent (best_of count nodes parent)
  best_listed some = listed _ (in_found (max_at nodes) _ (children_of count nodes parent) some).0

-- ---- THE theorems of the best child

module _ (nodes : List Node) (count : ℕ) (tree : SoundTree nodes count) (parent : ℕ) where
  abbrev children : List ℕ
  children = children_of count nodes parent

  abbrev walked : Option Best
  walked = best_to count nodes parent

  maximum : (k : ℕ) → k < count → is_maximum (node_at nodes k).max_score ≡ true
  maximum k h = (sound_parts (tree.each k h)).maximum

  finite_each : (k : ℕ) → elem children k ≡ true → T (finite (max_at nodes k))
  finite_each k e = maximum_finite _ (maximum k (listed nodes count parent k e).0)

  -- no two are such that all children give way to them
  pub best_only : (j k : ℕ) → elem children j ≡ true → elem children k ≡ true → all_yield (max_at nodes) j children ≡ true
      → all_yield (max_at nodes) k children ≡ true → j ≡ k
  best_only = one_first (max_at nodes) children finite_each

  module _ {best : Best} (q : walked ≡ Some best) where
    walked_child : elem children best.at ≡ true
    walked_child = let c = child_of nodes parent q in lists nodes count parent best.at c.below c.child

    -- all give way to the child that the walk finds
    walked_first : all_yield (max_at nodes) best.at children ≡ true
    walked_first = all_yield_lem (max_at nodes) best.at children (λ j is. go j is (nat_le j best.at) refl)
      where
        go : (j : ℕ) → elem children j ≡ true → (t : Bool) → nat_le j best.at ≡ t → yields (max_at nodes) best.at j ≡ true
        go j is true e =
            let c = child_of nodes parent q in
            let l = listed nodes count parent j is in
            yields_before (max_at nodes) j best.at (leb-true j best.at e) (rw c.score at (best_greatest nodes parent count maximum j l.0 l.1 q))
        go j is false e =
            let c = child_of nodes parent q in
            let l = listed nodes count parent j is in
            yields_less (max_at nodes) j best.at
            (not_le_lt (max_at nodes best.at) (max_at nodes j) (finite_each best.at walked_child) (finite_each j is)
            (rw c.score at (best_last nodes parent count j l.0 l.1 q (leb-false j best.at e))))

    walked_best : best.at ≡ best_of count nodes parent
    walked_best = sym (first_best (max_at nodes) children finite_each best.at walked_child walked_first)

  walked_none : walked ≡ None → children ≡ []
  walked_none e = empty children (λ k is. let l = listed nodes count parent k is in let some = best_found nodes parent count k l.0 l.1 in let found = some.1 in cc)

  -- the walk over the records comes to the child of the rule, and to none where there is no child
  pub best_rule : at_of walked ≡ best_of count nodes parent
  unfolding best_in
  best_rule = go walked refl
    where
      go : (c : Option Best) → walked ≡ c → at_of c ≡ best_of count nodes parent
      go None q = rw (walked_none q) refl
      go (Some best) q = walked_best q

  -- the same, as the code answers it
  pub best_none : walked ≡ None → None ≡ child_at (best_of count nodes parent)
  best_none e = ap child_at (ap at_of (sym e) ∙ best_rule)

  pub best_some : {best : Best} → walked ≡ Some best → Some best.at ≡ child_at (best_of count nodes parent)
  best_some {best} e =
      let c = child_of nodes parent e in
      child_is best.at (child_some best.at (node_at nodes best.at) parent c.child) ∙ ap child_at (walked_best e)

  -- where there is a child, one is the best: all give way to it
  pub best_exists : (k : ℕ) → elem children k ≡ true
      → (elem children (best_of count nodes parent) ≡ true) × (all_yield (max_at nodes) (best_of count nodes parent) children ≡ true)
  best_exists k is =
      let l = listed nodes count parent k is in
      let some = best_found nodes parent count k l.0 l.1 in
      let c = child_of nodes parent some.1 in
      in_found (max_at nodes) children children (rw (← walked_best some.1) (child_some some.0.at (node_at nodes some.0.at) parent c.child))

  pub best_childless : best_of count nodes parent ≡ 0 → children ≡ []
  best_childless e = go walked refl
    where
      go : (c : Option Best) → walked ≡ c → children ≡ []
      go None q = walked_none q
      go (Some best) q =
          let c = child_of nodes parent q in
          let some : 0 < best.at = child_some best.at (node_at nodes best.at) parent c.child in
          absurd (omega (arith, walked_best q, e))
