-- `tree::few::best_children` meets its contract: the table has the best children among the records before the next.
-- Assumes nothing.
use Rattle.std.proofs.Common.{◌≡◌, ℕ, ◌+◌, ◌<◌, List, length, subst, arith}
use Rattle.tree.specs.declared.node.Node.{Node}
use Rattle.tree.specs.Tree.{node_at}
use Rattle.tree.specs.inner.Few.{Noting, child_noted, Blank}
use Rattle.tree.specs.laws.Tree.{tree_falls}
use Rattle.tree.specs.laws.Few.{BestsTo, bests_first, entry_before, bests_next, bests_all}
use Rattle.tree.proofs.few.best_children.Goals as goal

module _ (xs : List Node) (n : ℕ) (os : List ℕ) (blank : Blank xs n os) (k : ℕ) (best : List ℕ)
    (some : 0 < k) (less : k < n) (long : length best ≡ length os) (bests : BestsTo k xs best) where
  above : (node_at xs k).parent < length best
  above = omega (arith, tree_falls blank.tree k some less, blank.room, long)

  noting : Noting xs best k
  noting = record {
    here = omega (arith, less, blank.tree.room);
    most = omega (arith, less, blank.most);
    above = above;
    there = omega (arith, less, blank.tree.room, entry_before xs k some best bests above);
  }

  turned : {zs : List ℕ} → zs ≡ child_noted xs best k → BestsTo (k + 1) xs zs
  turned said = rw said (bests_next xs k some best bests above)

pub loop-k-init : goal.loop-k-init
loop-k-init c = bests_first c.requires

pub note_child-requires : goal.note_child-requires
note_child-requires c = let l = c.loop-k in noting _ _ _ c.requires _ _ (omega arith) (omega arith) l.auto.best l.invariant

pub loop-k-preserved : goal.loop-k-preserved
loop-k-preserved c = let l = c.loop-k in turned _ _ _ c.requires _ _ (omega arith) (omega arith) l.auto.best l.invariant c.note_child.ensures

pub returns : goal.returns
returns c =
    let end : c.loop-k.k ≡ c.args.count = omega arith in
    bests_all _ _ c.requires.tree _ (subst (λ (j : ℕ). BestsTo j c.args.nodes.now c.loop-k.best) end c.loop-k.invariant)
