-- How the code finds the best child: past the index from the newest record down, and then by the index, from a record's last child to the one before it.
-- Assumes nothing.
use Rattle.std.specs.Prelude.{◌≡◌, ℕ, zero, suc, ◌+◌, ◌-◌, ◌<◌, ◌≤◌, Bool, true, false, cond, not, List, nat_lt, Option, Some, None, refl}
use Rattle.std.proofs.Common.{sym, ap, ◌∙◌, le_refl, arith, ltb-true, ltb-false, eq-eqb, ne_eqb}
use Rattle.laws.specs.laws.Tests.{and_both}
use Rattle.tree.specs.declared.node.Node.{Node}
use Rattle.tree.specs.Tree.{node_at, is_child, Falls}
use Rattle.tree.specs.inner.Sound.{SoundTree}
use Rattle.tree.specs.laws.Best.{child_some, child_parent}
use Rattle.tree.specs.laws.Tree.{tree_falls}
use Rattle.rates.specs.declared.Best.{Best}
use Rattle.rates.specs.declared.Weights.{Weights}
use Rattle.rates.specs.inner.Holds.{Kept, Holds, Asks}
use Rattle.search.specs.inner.Links.{linked, last_at, older_at, last_link, last_below, top_of, Links}
use Rattle.search.specs.inner.Newest.{better_node, better_child, best_down, FairChildren, Linked}
use Rattle.search.specs.laws.Links.{top_count, top_linked, top_some, last_child, down_skips}
use Rattle.search.specs.laws.Newest.{down_start, down_each, down_child}

-- ---- past the index, record by record

pub late_turn : (weights : Weights) (nodes : List Node) (parent k : ℕ) (best : Option Best) → 0 < k
    → best_down weights nodes parent (k - 1) (better_child best (k - 1) (node_at nodes (k - 1)) parent weights) ≡ best_down weights nodes parent k best
late_turn weights nodes parent k best some =
    let back : k - 1 + 1 ≡ k = omega arith in
    sym (down_each weights nodes parent (k - 1) best) ∙ ap (λ (j : ℕ). best_down weights nodes parent j best) back

-- ---- by the index

-- the way from record last: at record k, with the best so far
pub record Way (nodes : List Node) (last : ℕ) (weights : Weights) (late : Option Best) (k : ℕ) (best : Option Best) : Type 0 where
  pub upto : k ≤ last
  pub child : 0 < k → (node_at nodes k).parent ≡ (node_at nodes last).parent
  pub holds : Holds weights best
  pub said : best_down weights nodes (node_at nodes last).parent (k + 1) best ≡ best_down weights nodes (node_at nodes last).parent (last + 1) late

module _ {nodes : List Node} {links : List ℕ} {last : ℕ} {weights : Weights} {late : Option Best} (l : Linked nodes links last weights late) where
  abbrev parent : ℕ
  parent = (node_at nodes last).parent

  pub way_first : Way nodes last weights late last late
  way_first = record { upto = le_refl last; child = λ some. refl; holds = l.holds; said = refl }

  pub way_end : {best : Option Best} → Way nodes last weights late 0 best → best ≡ best_down weights nodes parent (last + 1) late
  way_end {best} w = sym (down_start weights nodes parent best) ∙ w.said

  module _ {k : ℕ} {best : Option Best} (w : Way nodes last weights late k best) (some : 0 < k) where
    is_child_lem : is_child k (node_at nodes k) parent ≡ true
    is_child_lem = and_both (ap not (ne_eqb k 0 (λ e. omega arith))) (eq-eqb (node_at nodes k).parent parent (w.child some))

    pub way_asks : Asks best (node_at nodes k).visits (node_at nodes k).score_sum (node_at nodes k).max_score weights
    way_asks = record { holds = w.holds; fair = l.fair k (omega (arith, w.upto)) is_child_lem }

    older_is : older_at links k ≡ last_below k nodes parent
    older_is = l.index k some w.upto ∙ ap (last_below k nodes) (w.child some)

    -- the child before record k is below it
    older_below : last_below k nodes parent < k
    older_below = go (last_below k nodes parent) refl
      where
        go : (n : ℕ) → last_below k nodes parent ≡ n → n < k
        go zero e = some
        go (suc n) e = omega (arith, e, (last_child nodes parent k (omega (arith, e))).0)

    pub way_less : older_at links k < k
    way_less = rw older_is older_below

    pub way_on : {b : Best} → b ≡ better_node best k (node_at nodes k) weights → Kept weights b → Way nodes last weights late (older_at links k) (Some b)
    way_on {b} e holds =
        record {
          upto = omega (arith, way_less, w.upto);
          child = λ more.
              let before : ℕ = last_below k nodes parent in
              let was : 0 < before = rw older_is at more in
              rw older_is (child_parent before (node_at nodes before) parent (last_child nodes parent k was).1);
          holds = holds;
          said = rw older_is
              (sym (down_skips nodes parent weights k (Some b))
              ∙ ap (λ (x : Best). best_down weights nodes parent k (Some x)) e
              ∙ sym (down_child weights nodes parent k best is_child_lem)
              ∙ w.said);
        }

-- ---- from the index of all records

-- a record past the index has no child in it, since a child is above its parent
last_link_lem : (nodes : List Node) (count : ℕ) (links : List ℕ) (k : ℕ) → Falls nodes count → Links nodes count links
    → last_link links k ≡ last_below (top_of count) nodes k
last_link_lem nodes count links k falls l = go (nat_lt k linked) refl
  where
    b : ℕ
    b = last_below (top_of count) nodes k

    none : linked ≤ k → (n : ℕ) → b ≡ n → 0 ≡ n
    none past zero e = refl
    none past (suc n) e =
        let is = last_child nodes k (top_of count) (omega (arith, e)) in
        let up : (node_at nodes b).parent < b = falls b (omega (arith, e)) (omega (arith, is.0, top_count count)) in
        absurd (omega (arith, up, child_parent b (node_at nodes b) k is.1, is.0, top_linked count))

    go : (t : Bool) → nat_lt k linked ≡ t → cond t (last_at links k) 0 ≡ b
    go true e = l.last k (ltb-true k linked e)
    go false e = none (ltb-false k linked e) b refl

module _ (weights : Weights) (nodes : List Node) (count : ℕ) (links : List ℕ) (k : ℕ) (tree : SoundTree nodes count)
    (fair : FairChildren nodes count k weights) (index : Links nodes count links) where
  abbrev last : ℕ
  last = last_link links k

  abbrev below : ℕ
  below = last_below (top_of count) nodes k

  last_is : last ≡ below
  last_is = last_link_lem nodes count links k (tree_falls tree) index

  inside : last < top_of count
  inside = rw last_is (go below refl)
    where
      go : (n : ℕ) → below ≡ n → n < top_of count
      go zero e = top_some count tree.some
      go (suc n) e = omega (arith, e, (last_child nodes k (top_of count) (omega (arith, e))).0)

  last_parent : 0 < last → (node_at nodes last).parent ≡ k
  last_parent some =
      let was : 0 < below = rw last_is at some in
      rw last_is (child_parent below (node_at nodes below) k (last_child nodes k (top_of count) was).1)

  pub index_asks : (late : Option Best) → Holds weights late → Linked nodes links last weights late
  index_asks late holds =
      record {
        inside = omega (arith, inside, top_linked count);
        room = omega (arith, inside, top_count count, tree.room);
        fair = λ j h is.
            let some : 0 < j = child_some j (node_at nodes j) (node_at nodes last).parent is in
            fair j (omega (arith, inside, top_count count)) (rw (last_parent (omega arith)) at is);
        holds = holds;
        index = λ j some h. index.older j some (omega (arith, inside));
      }

  -- the best by the index, after that past it, is the best of all
  pub index_best : (late : Option Best) → best_down weights nodes k (top_of count) late ≡ best_down weights nodes k count None
      → best_down weights nodes (node_at nodes last).parent (last + 1) late ≡ best_down weights nodes k count None
  index_best late e = go last refl ∙ rw last_is (sym (down_skips nodes k weights (top_of count) late)) ∙ e
    where
      go : (n : ℕ) → last ≡ n → best_down weights nodes (node_at nodes n).parent (n + 1) late ≡ best_down weights nodes k (n + 1) late
      go zero e = down_start weights nodes (node_at nodes 0).parent late ∙ sym (down_start weights nodes k late)
      go (suc n) e = ap (λ (p : ℕ). best_down weights nodes p (suc n + 1) late) (ap (λ (j : ℕ). (node_at nodes j).parent) (sym e) ∙ last_parent (omega (arith, e)))
