-- `tree::listing::put_children` meets its contract: the children among the records before the next are stored.
-- Assumes nothing.
use Rattle.std.proofs.Common.{◌≡◌, ℕ, ◌+◌, ◌<◌, ◌≤◌, true, false, [], ◌∷◌, List, length, refl, sym, ap, ◌∙◌, arith, length-append}
use Rattle.text.specs.Over.{Put}
use Rattle.text.specs.laws.Over.{put_as, put_none, put_one, length_over, then}
use Rattle.tree.specs.declared.node.Node.{Node}
use Rattle.tree.specs.Tree.{node_at, is_child, children_of}
use Rattle.tree.specs.laws.Children.{children_start, children_one, children_none, children_rise}
use Rattle.tree.proofs.listing.put_children.Goals.{then-is_child, else-is_child, Then-is_child, After-is_child}
use Rattle.tree.proofs.listing.put_children.Goals as goal

module _ (xs : List Node) (p : ℕ) (os : List ℕ) (k at : ℕ) (out : List ℕ) (stored : Put os 0 (children_of k xs p) at out) where
  as_long : length out ≡ length os
  as_long = ap length stored.same ∙ length_over os 0 (children_of k xs p)

  roomy : (n : ℕ) → is_child k (node_at xs k) p ≡ true → k < n → length (children_of n xs p) ≤ length os → at < length out
  roomy n c less room = omega (
    arith,
    as_long,
    stored.next,
    ap length (children_one xs p k c),
    length-append (children_of k xs p) (k ∷ []),
    children_rise xs p (k + 1) n (omega (arith, less)),
    room,
  )

  -- one turn, at a child and at another record
  found : is_child k (node_at xs k) p ≡ true → {r : ℕ} {after : List ℕ} → Put out at (k ∷ []) r after → Put os 0 (children_of (k + 1) xs p) r after
  found c put = put_as (sym (children_one xs p k c)) (then stored put)

  other : is_child k (node_at xs k) p ≡ false → Put os 0 (children_of (k + 1) xs p) at out
  other c = put_as (sym (children_none xs p k c)) stored

same : (c : After-is_child) → is_child c.loop-k.k (node_at c.args.nodes.now c.loop-k.k) c.args.parent ≡ c.is_child.result
same c = rw (c.is_child.ensures, c.node_at.ensures) refl

room : (c : Then-is_child) → c.loop-k.at < length c.loop-k.out
room c = roomy _ _ _ _ _ _ c.loop-k.invariant c.args.count (same (goal.at.Then-is_child c).After-is_child ∙ c.if-is_child.true) (omega arith) c.requires.1

pub loop-k-init : goal.loop-k-init
loop-k-init c = put_none _ 0 (children_start _ _)

pub offset_bounds-out-at : goal.offset_bounds-out-at
offset_bounds-out-at c = let r = room (goal.at.offset_bounds-out-at c).Then-is_child in omega (arith, r)

pub bounds-out-at : goal.bounds-out-at
bounds-out-at c = room (goal.at.bounds-out-at c).Then-is_child

pub overflow_add-at : goal.overflow_add-at
overflow_add-at c = let r = room (goal.at.overflow_add-at c).Then-is_child in omega (arith, r)

pub loop-k-preserved : goal.loop-k-preserved
loop-k-preserved c =
    elim c.if-is_child.branch [
      | then-is_child w ↦ rw (w.at-is, w.out-is) (found _ _ _ _ _ _ c.loop-k.invariant (same (goal.at.loop-k-preserved c).After-is_child ∙ w.if-is_child.true) (put_one _ _ _))
      | else-is_child w ↦ rw (w.at-is, w.out-is) (other _ _ _ _ _ _ c.loop-k.invariant (same (goal.at.loop-k-preserved c).After-is_child ∙ w.if-is_child.false))
    ]
