-- The numbers that a child is picked by: in the records of a search they are fair, so its ucb1 is finite; its parent was visited, so the logarithm is in the
-- table.
-- Assumes nothing.
use Rattle.std.specs.Prelude.{◌≡◌, ℕ, zero, suc, ◌-◌, ◌<◌, ◌≤◌, true, false, not, ◌&&◌, T, List, length, ◌==◌, nat_eq, refl, Float}
use Rattle.std.proofs.Common.{⊎_elim, arith, eqb-true}
use Rattle.std.specs.Float.Ieee.{le, to_unsigned}
use Rattle.std.specs.Float.Ieee.Scale.{finite}
use Rattle.std.proofs.lemmas.Bool.{eqb-false}
use Rattle.laws.specs.Floats.{float, one}
use Rattle.laws.specs.laws.Tests.{either, both}
use Rattle.craft_context.specs.declared.context.CraftContext.{CraftContext}
use Rattle.ucb1.specs.Fair.{Fair}
use Rattle.ucb1.proofs.Bounds.{ucb1_finite}
use Rattle.tree.specs.declared.node.Node.{Node}
use Rattle.tree.specs.Node.{plus_zero}
use Rattle.tree.specs.Sound.{is_maximum, minus}
use Rattle.tree.specs.Tree.{node_at}
use Rattle.tree.specs.inner.Sound.{SoundTree}
use Rattle.tree.specs.laws.Node.{holds, Parts, sound_parts}
use Rattle.tree.specs.laws.Tree.{tree_falls}
use Rattle.search.specs.declared.options.SearchOptions.{SearchOptions}
use Rattle.search.specs.Options.{iterations_most}
use Rattle.search.specs.Select.{ln_of, rate_at}
use Rattle.search.specs.inner.Grown.{Visited}
use Rattle.search.specs.laws.Asked.{Asked}
use Rattle.tree.specs.laws.Visits.{float_rises, count_finite, count_at_least, count_at_most}

maximum_between : (x : Float) → is_maximum x ≡ true → T (le plus_zero x && le x one)
unfolding is_maximum
maximum_between x e = holds (both (le plus_zero x && le x one) (not (minus x)) e).0

module _ (nodes : List Node) (count done : ℕ) (tree : SoundTree nodes count) (visited : Visited nodes count done) (few : done ≤ iterations_most) where
  parts : (k : ℕ) → k < count → Parts k (node_at nodes k)
  parts k h = sound_parts (tree.each k h)

  -- a record other than 0 was visited, and so an iteration was done
  pub child_done : (k : ℕ) → 0 < k → k < count → 0 < done
  child_done k some h = go done refl
    where
      go : (n : ℕ) → done ≡ n → 0 < n
      go (suc n) e = omega arith
      go zero e =
          let none : T (le (node_at nodes k).visits (float 0)) = rw e at (visited.most k h) in
          omega (arith, count_at_least _ (parts k h).count (visited.seen k some h), count_at_most _ (parts k h).count 0 (omega arith) none)

  -- ---- the visits of a record with a child

  module _ (k : ℕ) (some : 0 < k) (inside : k < count) where
    abbrev parent : ℕ
    parent = (node_at nodes k).parent

    below : parent < count
    below = omega (arith, tree_falls tree k some inside)

    pub parent_visited : T (le one (node_at nodes parent).visits)
    parent_visited = ⊎_elim root other (either (parent == 0))
      where
        root : nat_eq parent 0 ≡ true → T (le one (node_at nodes parent).visits)
        root e = rw (eqb-true parent 0 e, visited.root) (float_rises 1 done (child_done k some inside) (omega arith))

        other : nat_eq parent 0 ≡ false → T (le one (node_at nodes parent).visits)
        other e = let apart : parent ≡ 0 → ⊥ = eqb-false parent 0 e in visited.seen parent (omega arith) below

    pub parent_counted : (0 < to_unsigned 64 (node_at nodes parent).visits) × (to_unsigned 64 (node_at nodes parent).visits ≤ iterations_most)
    parent_counted = (
      count_at_least _ (parts parent below).count parent_visited,
      omega (arith, count_at_most _ (parts parent below).count done (omega arith) (visited.most parent below)),
    )

    module _ (c : CraftContext) (o : SearchOptions) (logs : List Float) (asked : Asked c o logs) where
      -- its logarithm is in the table
      pub log_there : to_unsigned 64 (node_at nodes parent).visits - 1 < length logs
      log_there = omega (arith, parent_counted.0, parent_counted.1, asked.table)

      pub child_fair : Fair o.max_score_weighting_constant o.exploration_constant (ln_of logs (node_at nodes parent).visits) (node_at nodes k).visits
          (node_at nodes k).score_sum (node_at nodes k).max_score
      child_fair =
          record {
            weight = asked.weight;
            exploration = asked.exploration;
            log = asked.logs_in _ (omega (arith, parent_counted.0, parent_counted.1));
            visited = visited.seen k some inside;
            counted = count_finite _ (parts k inside).count;
            sum_in = holds (parts k inside).sum;
            maximum_in = maximum_between _ (parts k inside).maximum;
          }

      pub child_finite : T (finite (rate_at o logs nodes parent k))
      child_finite = ucb1_finite child_fair
