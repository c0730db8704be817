-- Laws of the children of a record: how a loop lists them, and that each is listed and nothing else.
-- Assumes nothing.
use Rattle.std.specs.Prelude.{◌≡◌, ℕ, zero, suc, ◌+◌, ◌≤◌, Bool, true, false, cond, ◌&&◌, ◌||◌, List, [], ◌∷◌, ◌++◌, length, ◌==◌, ◌≢◌, nat_lt}
use Rattle.std.proofs.Math.Path.{refl}
use Rattle.std.proofs.Common.{sym, ap, ◌∙◌, append-nil, eq-or-lt_of_le, add-one}
use Rattle.std.proofs.Math.Logic.{⊎_elim}
use native.Mathlib.Omega.{arith}
use Rattle.std.proofs.Math.ListN.{length-append}
use borrow.Author.Tests.{ltb-true, ltb-false, eqb-true, eqb-false, lt-ltb, le-ltb}
use Rattle.laws.specs.Lists.{elem}
use Rattle.laws.specs.laws.Tests.{or_assoc, or_false}
use Rattle.tree.specs.declared.node.Node.{Node}
use Rattle.tree.specs.Tree.{node_at, is_child, children_of}

-- ---- membership in a list with one more, or not

elem_append : (xs ys : List ℕ) (m : ℕ) → elem (xs ++ ys) m ≡ elem xs m || elem ys m
unfolding elem
elem_append [] ys m = refl
elem_append (x ∷ xs) ys m = ap (λ (t : Bool). (m == x) || t) (elem_append xs ys m) ∙ sym (or_assoc (m == x) (elem xs m) (elem ys m))

elem_here : (k m : ℕ) (u : Bool) → (k == m) ≡ true → elem (cond u (m ∷ []) []) k ≡ u
unfolding elem
elem_here k m true e = rw e
elem_here k m false e = refl

elem_other : (k m : ℕ) (u : Bool) → (k == m) ≡ false → elem (cond u (m ∷ []) []) k ≡ false
unfolding elem
elem_other k m true e = rw e
elem_other k m false e = refl

below_next : (k m : ℕ) → (k ≢ m) → nat_lt k (suc m) ≡ nat_lt k m
below_next k m other = go (nat_lt k m) refl
  where
    go : (t : Bool) → nat_lt k m ≡ t → nat_lt k (suc m) ≡ t
    go true e = lt-ltb k (suc m) (omega (arith, ltb-true k m e))
    go false e = le-ltb k (suc m) (omega (arith, ltb-false k m e))

module _ (nodes : List Node) (parent : ℕ) where
  -- ---- step by step, for the loop

  pub children_start : children_of 0 nodes parent ≡ []
  unfolding children_of
  children_start = refl

  pub children_one : (k : ℕ) → is_child k (node_at nodes k) parent ≡ true → children_of (k + 1) nodes parent ≡ children_of k nodes parent ++ (k ∷ [])
  unfolding children_of
  children_one k e = rw (add-one, e)

  pub children_none : (k : ℕ) → is_child k (node_at nodes k) parent ≡ false → children_of (k + 1) nodes parent ≡ children_of k nodes parent
  unfolding children_of
  children_none k e = rw (add-one, e) (append-nil _)

  pub children_length : (k : ℕ) → length (children_of k nodes parent) ≤ k
  unfolding children_of
  children_length zero = omega arith
  children_length (suc k) = rw length-append (go (is_child k (node_at nodes k) parent) (children_length k))
    where
      go : (t : Bool) → length (children_of k nodes parent) ≤ k → length (children_of k nodes parent) + length (cond t (k ∷ []) []) ≤ suc k
      go true h = omega arith
      go false h = omega arith

  -- more records have no fewer children
  pub children_rise : (k m : ℕ) → k ≤ m → length (children_of k nodes parent) ≤ length (children_of m nodes parent)
  unfolding children_of
  children_rise k zero h = let same : k ≡ 0 = omega arith in rw same (omega arith)
  children_rise k (suc m) h =
      ⊎_elim (λ q. rw q (omega arith))
      (λ l. omega (
        arith,
        children_rise k m (omega arith),
        length-append (children_of m nodes parent)
            (cond (is_child m (node_at nodes m) parent) (m ∷ []) []),
      )) (eq-or-lt_of_le h)

  -- ---- each child, and nothing else

  pub children_each : (m k : ℕ) → elem (children_of m nodes parent) k ≡ nat_lt k m && is_child k (node_at nodes k) parent
  unfolding children_of elem
  children_each zero k = rw (le-ltb k 0 (omega arith))
  children_each (suc m) k = elem_append (children_of m nodes parent) _ k ∙ go (k == m) refl (is_child m (node_at nodes m) parent) refl (children_each m k)
    where
      go : (t : Bool) → (k == m) ≡ t → (u : Bool) → is_child m (node_at nodes m) parent ≡ u
          → elem (children_of m nodes parent) k ≡ nat_lt k m && is_child k (node_at nodes k) parent
          → elem (children_of m nodes parent) k || elem (cond u (m ∷ []) []) k ≡ nat_lt k (suc m) && is_child k (node_at nodes k) parent
      go true e u is rest =
          let same : k ≡ m = eqb-true k m e in
          let child : is_child k (node_at nodes k) parent ≡ u = rw same is in
          rw (rest, elem_here k m u e, le-ltb k m (omega arith), lt-ltb k (suc m) (omega arith)) (sym child)
      go false e u is rest = simp (rest, elem_other k m u e, below_next k m (eqb-false k m e)) (or_false _)
