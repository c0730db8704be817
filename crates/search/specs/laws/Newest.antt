-- The best child, newest first: from the highest record down a child takes the place of the one found where it is better, and not where it is equal. Where all
-- rates are finite that comes to the child of the rule, the greatest and the last of equals.
-- Assumes nothing.
use Rattle.std.specs.Prelude.{◌≡◌, ℕ, zero, suc, ◌+◌, ◌<◌, ◌≤◌, Bool, true, false, cond, T, leb, List, ◌≢◌, nat_le, Float, Option, Some, None}
use Rattle.std.proofs.Math.Path.{refl}
use Rattle.std.proofs.Common.{sym, ap, subst, ◌∙◌, ⊎_elim, eq-or-lt_of_le, le_refl, arith, lt-ltb, leb-true, leb-false}
use Rattle.std.proofs.Math.Numerals.{add-one}
use Rattle.std.specs.Float.Ieee.{lt, le}
use Rattle.std.specs.Float.Ieee.Scale.{finite}
use Rattle.std.proofs.lemmas.Bool.{not-false}
use Rattle.laws.specs.Lists.{elem}
use Rattle.laws.specs.laws.Order.{le_same, lt_le, lt_after, lt_or_ge}
use Rattle.laws.specs.laws.Tests.{true_false, and_both, either}
use Rattle.rates.specs.declared.Best.{Best}
use Rattle.rates.specs.declared.Weights.{Weights}
use Rattle.rates.specs.Best.{rate_of, child_of, better_of}
use Rattle.craft_context.specs.declared.context.CraftContext.{CraftContext}
use Rattle.tree.specs.declared.node.Node.{Node}
use Rattle.tree.specs.Tree.{node_at, is_child, children_of, yields, best_by}
use Rattle.tree.specs.inner.Sound.{SoundTree}
use Rattle.tree.specs.inner.Best.{child_at}
use Rattle.tree.specs.laws.Best.{child_some, child_parent, child_is}
use Rattle.tree.specs.laws.Children.{children_each}
use Rattle.tree.specs.laws.Node.{holds}
use Rattle.tree.specs.laws.Yield.{yields_before, yields_less, all_yield_lem, first_best}
use Rattle.search.specs.declared.options.SearchOptions.{SearchOptions}
use Rattle.search.specs.Options.{iterations_most}
use Rattle.search.specs.Select.{ln_of, weights_of, rate_at}
use Rattle.search.specs.inner.Grown.{Visited}
use Rattle.search.specs.inner.Newest.{better_node, better_child, best_down, at_of}
use Rattle.search.specs.laws.Asked.{Asked}
use Rattle.search.specs.laws.Descend.{child_listed, picked_child}
use Rattle.search.specs.laws.Rated.{child_finite}

module _ (weights : Weights) (nodes : List Node) (parent : ℕ) where
  abbrev rate : ℕ → Float
  rate k = rate_of (node_at nodes k).visits (node_at nodes k).score_sum (node_at nodes k).max_score weights

  abbrev Child : ℕ → Type 0
  Child k = is_child k (node_at nodes k) parent ≡ true

  abbrev taken : ℕ → Best
  taken k = child_of k (node_at nodes k).visits (node_at nodes k).score_sum (node_at nodes k).max_score weights

  -- ---- record by record, for a loop

  pub down_start : (best : Option Best) → best_down weights nodes parent 1 best ≡ best
  unfolding best_down
  down_start best = refl

  pub down_each : (k : ℕ) (best : Option Best)
      → best_down weights nodes parent (k + 1) best ≡ best_down weights nodes parent k (better_child best k (node_at nodes k) parent weights)
  unfolding best_down
  down_each k best = rw add-one

  pub down_child : (k : ℕ) (best : Option Best) → Child k
      → best_down weights nodes parent (k + 1) best ≡ best_down weights nodes parent k (Some (better_node best k (node_at nodes k) weights))
  down_child k best is = down_each k best ∙ ap (λ (t : Bool). best_down weights nodes parent k (cond t (Some (better_node best k (node_at nodes k) weights)) best)) is

  module _ (count : ℕ) where
    -- of the children from record t on: best is the greatest, the last of equals
    record Leads (t : ℕ) (best : Best) : Type 0 where
      from : t ≤ best.at
      below : best.at < count
      child : Child best.at
      rate_is : best.rate ≡ rate best.at
      most : (j : ℕ) → t ≤ j → j < count → Child j → T (le (rate j) (rate best.at))
      last : (j : ℕ) → best.at < j → j < count → Child j → T (lt (rate j) (rate best.at))

    abbrev Childless : ℕ → Type 0
    Childless t = (j : ℕ) → t ≤ j → j < count → Child j → ⊥

    abbrev Found : ℕ → Option Best → Type 0
    Found t None = Childless t
    Found t (Some best) = Leads t best

    module _ (each : (k : ℕ) → k < count → Child k → T (finite (rate k))) where
      -- ---- one record down

      module _ (k : ℕ) (inside : k < count) where
        skip : is_child k (node_at nodes k) parent ≡ false → (j : ℕ) → k ≡ j → Child j → ⊥
        skip not-child j e is = true_false (sym (rw (← e) at is) ∙ not-child)

        other : is_child k (node_at nodes k) parent ≡ false → (best : Option Best) → Found (suc k) best → Found k best
        other not-child None n = λ j a h is. ⊎_elim (λ e. skip not-child j e is) (λ l. n j l h is) (eq-or-lt_of_le a)
        other not-child (Some best) l =
            record {
              from = omega (arith, l.from);
              below = l.below;
              child = l.child;
              rate_is = l.rate_is;
              most = λ j a h is. ⊎_elim (λ e. absurd (skip not-child j e is)) (λ b. l.most j b h is) (eq-or-lt_of_le a);
              last = l.last;
            }

        module _ (is : Child k) where
          here : T (finite (rate k))
          here = each k inside is

          -- the first that is found
          first : Childless (suc k) → Leads k (taken k)
          first n =
              record {
                from = le_refl k;
                below = inside;
                child = is;
                rate_is = refl;
                most = λ j a h c. ⊎_elim (λ e. rw (← e) (le_same (rate k) here)) (λ b. absurd (n j b h c)) (eq-or-lt_of_le a);
                last = λ j b h c. absurd (n j b h c);
              }

          module _ {best : Best} (l : Leads (suc k) best) where
            found : T (finite (rate best.at))
            found = each best.at l.below l.child

            greater : T (lt (rate best.at) (rate k)) → Leads k (taken k)
            greater g =
                record {
                  from = le_refl k;
                  below = inside;
                  child = is;
                  rate_is = refl;
                  most = λ j a h c. ⊎_elim (λ e. rw (← e) (le_same (rate k) here)) (λ b. lt_le (rate j) (rate k) (less j b h c)) (eq-or-lt_of_le a);
                  last = less;
                }
              where
                less : (j : ℕ) → k < j → j < count → Child j → T (lt (rate j) (rate k))
                less j b h c = lt_after (rate j) (rate best.at) (rate k) (each j h c) found here (l.most j b h c) g

            stays : T (le (rate k) (rate best.at)) → Leads k best
            stays g =
                record {
                  from = omega (arith, l.from);
                  below = l.below;
                  child = l.child;
                  rate_is = l.rate_is;
                  most = λ j a h c. ⊎_elim (λ e. rw (← e) g) (λ b. l.most j b h c) (eq-or-lt_of_le a);
                  last = l.last;
                }

          better : (best : Option Best) → Found (suc k) best → Leads k (better_node best k (node_at nodes k) weights)
          unfolding better_of
          better None n = first n
          better (Some best) l = go (lt best.rate (rate k)) (ap (λ (x : Float). lt x (rate k)) (sym l.rate_is))
            where
              go : (t : Bool) → lt (rate best.at) (rate k) ≡ t → Leads k (cond t (taken k) best)
              go true e = greater l (holds e)
              go false e = stays l (holds (not-false (le (rate k) (rate best.at)) (sym (lt_or_ge (rate best.at) (rate k) (found l) here) ∙ e)))

      down : (t : ℕ) (best : Option Best) → t ≤ count → Found t best → Found 0 (best_down weights nodes parent t best)
      unfolding best_down
      down zero best h w = w
      down (suc k) best h w = go (is_child k (node_at nodes k) parent) refl (λ b. down k b (omega arith))
        where
          go : (t : Bool) → is_child k (node_at nodes k) parent ≡ t → ((b : Option Best) → Found k b → Found 0 (best_down weights nodes parent k b))
              → Found 0 (best_down weights nodes parent k (cond t (Some (better_node best k (node_at nodes k) weights)) best))
          go true is rest = rest (Some (better_node best k (node_at nodes k) weights)) (better k (omega arith) is best w)
          go false is rest = rest best (other k (omega arith) is best w)

      -- ---- THE theorem

      listed : (j : ℕ) → elem (children_of count nodes parent) j ≡ true → (j < count) × Child j
      listed = child_listed nodes count parent

      abbrev walked : Option Best
      walked = best_down weights nodes parent count None

      all_walked : Found 0 walked
      all_walked = down count None (le_refl count) (λ j a h is. omega arith)

      leads : {best : Best} → Leads 0 best → best.at ≡ best_by rate count nodes parent
      leads {best} l =
          sym (first_best rate (children_of count nodes parent) (λ k e. each k (listed k e).0 (listed k e).1) best.at
          (children_each nodes parent count best.at ∙ and_both (lt-ltb best.at count l.below) l.child)
          (all_yield_lem rate best.at (children_of count nodes parent) yield))
        where
          yield : (j : ℕ) → elem (children_of count nodes parent) j ≡ true → yields rate best.at j ≡ true
          yield j e = ⊎_elim before after (either (nat_le j best.at))
            where
              before : leb j best.at ≡ true → yields rate best.at j ≡ true
              before q = yields_before rate j best.at (leb-true j best.at q) (l.most j (omega arith) (listed j e).0 (listed j e).1)

              after : leb j best.at ≡ false → yields rate best.at j ≡ true
              after q = yields_less rate j best.at (l.last j (leb-false j best.at q) (listed j e).0 (listed j e).1)

      childless : Childless 0 → 0 ≡ best_by rate count nodes parent
      childless none = go (best_by rate count nodes parent) refl
        where
          go : (b : ℕ) → best_by rate count nodes parent ≡ b → 0 ≡ b
          go zero e = refl
          go (suc b) e =
              let is = picked_child rate nodes count parent (omega (arith, e)) in
              absurd (none (best_by rate count nodes parent) (omega arith) is.0 is.1)

      pub down_best : at_of walked ≡ best_by rate count nodes parent
      down_best = go walked all_walked
        where
          go : (c : Option Best) → Found 0 c → at_of c ≡ best_by rate count nodes parent
          go None n = childless n
          go (Some best) l = leads l

      -- the same, as the code answers it
      pub down_none : walked ≡ None → None ≡ child_at (best_by rate count nodes parent)
      down_none e = ap child_at (childless (subst (Found 0) e all_walked))

      pub down_some : {best : Best} → walked ≡ Some best → Some best.at ≡ child_at (best_by rate count nodes parent)
      down_some {best} e =
          let l = subst (Found 0) e all_walked in
          child_is best.at (child_some best.at (node_at nodes best.at) parent l.child) ∙ ap child_at (leads l)

      -- where none is picked there is no child
      pub picked_none : best_by rate count nodes parent ≡ 0 → (j : ℕ) → j < count → Child j → ⊥
      picked_none e j h is = go walked all_walked
        where
          go : (c : Option Best) → Found 0 c → ⊥
          go None n = n j (omega arith) h is
          go (Some best) l = true_false (sym (rw (leads l ∙ e) at l.child))

-- ---- so it is in the records of a search, where every rate is finite

module _ (c : CraftContext) (o : SearchOptions) (logs : List Float) (asked : Asked c o logs) (nodes : List Node) (count done : ℕ) (tree : SoundTree nodes count)
    (visited : Visited nodes count done) (few : done ≤ iterations_most) (parent : ℕ) where
  rated_finite : (k : ℕ) → k < count → is_child k (node_at nodes k) parent ≡ true → T (finite (rate_at o logs nodes parent k))
  rated_finite k h is =
      rw (child_parent k (node_at nodes k) parent is) at
      (child_finite nodes count done tree visited few k (child_some k (node_at nodes k) parent is) h c o logs asked)

  pub rated_none : best_by (rate_at o logs nodes parent) count nodes parent ≡ 0 → (k : ℕ) → k < count → is_child k (node_at nodes k) parent ≢ true
  rated_none = picked_none (weights_of o (ln_of logs (node_at nodes parent).visits)) nodes parent count rated_finite
