-- Laws of the way down, for the loops that measure and write it: what is left at each record, and how one record more is taken.
-- Assumes nothing.
use Rattle.std.specs.Prelude.{◌≡◌, ℕ, zero, suc, ◌+◌, ◌<◌, ◌≤◌, false, List, [], ◌∷◌, length, ◌==◌, refl}
use Rattle.std.proofs.Common.{sym, ap, ◌∙◌, zero-add, arith}
use Rattle.std.proofs.lemmas.List.{length-map}
use Rattle.std.proofs.lemmas.Bool.{eqb-false}
use Rattle.text.specs.Over.{over, Put}
use Rattle.text.specs.laws.Over.{length_over, over_none, over_more}
use Rattle.tree.specs.declared.node.Node.{Node}
use Rattle.tree.specs.Tree.{node_at, best_of, descent_of, actions_of, last_of, solution_of, end_of}
use Rattle.tree.specs.inner.Sound.{SoundTree}
use Rattle.tree.specs.laws.Tree.{tree_falls}
use Rattle.tree.specs.laws.Solution.{best_below, best_rises, descent_stop, descent_on, solution_length}

-- record p is on the way down, len records below record 0
pub record Down (nodes : List Node) (count p len : ℕ) : Type 0 where
  pub inside : p < count
  pub left : len + length (descent_of nodes count p) ≡ length (solution_of nodes count)
  pub ends : last_of p (descent_of nodes count p) ≡ end_of nodes count

-- the actions down to record p are stored in `os`, which is `out` now
pub record Stored (nodes : List Node) (count : ℕ) (os : List ℕ) (p at : ℕ) (out : List ℕ) : Type 0 where
  pub long : length out ≡ length os
  pub rest : over out at (actions_of nodes (descent_of nodes count p)) ≡ over os 0 (solution_of nodes count)

pub some : (n : ℕ) → (n == 0) ≡ false → 0 < n
some zero e = absurd (eqb-false 0 0 e refl)
some (suc n) e = omega arith

module _ (nodes : List Node) (count : ℕ) (tree : SoundTree nodes count) where
  pub down_first : Down nodes count 0 0
  down_first = record { inside = tree.some; left = rw length-map (zero-add _); ends = refl }

  pub stored_first : (os : List ℕ) → Stored nodes count os 0 0 os
  stored_first os = record { long = refl; rest = refl }

  module _ {p len : ℕ} (down : Down nodes count p len) where
    pub down_short : len < count
    down_short = omega (arith, down.left, solution_length nodes count tree)

    -- there is a child as long as an action is left, and else none
    pub down_more : len < length (solution_of nodes count) → 0 < best_of count nodes p
    down_more h = go (best_of count nodes p) refl
      where
        go : (b : ℕ) → best_of count nodes p ≡ b → 0 < b
        go zero e = absurd (omega (arith, h, down.left, ap length (descent_stop nodes count (tree_falls tree) p e)))
        go (suc b) e = omega arith

    pub down_none : length (solution_of nodes count) ≤ len → best_of count nodes p ≡ 0
    down_none h = go (best_of count nodes p) refl
      where
        go : (b : ℕ) → best_of count nodes p ≡ b → b ≡ 0
        go zero e = refl
        go (suc b) e = absurd (omega (arith, h, down.left, ap length (descent_on nodes count (tree_falls tree) p (omega (arith, e)))))

    -- there is a child
    module _ (more : 0 < best_of count nodes p) where
      longer : length (descent_of nodes count p) ≡ suc (length (descent_of nodes count (best_of count nodes p)))
      longer = ap length (descent_on nodes count (tree_falls tree) p more)

      pub down_rises : p < best_of count nodes p
      down_rises = best_rises nodes count (tree_falls tree) p more

      pub down_room : len < length (solution_of nodes count)
      down_room = omega (arith, down.left, longer)

      pub down_on : Down nodes count (best_of count nodes p) (len + 1)
      down_on = record {
        inside = best_below nodes count (tree_falls tree) p more;
        left = omega (arith, down.left, longer);
        ends = sym (ap (last_of p) (descent_on nodes count (tree_falls tree) p more)) ∙ down.ends;
      }

    -- there is none
    module _ (none : best_of count nodes p ≡ 0) where
      pub down_length : len ≡ length (solution_of nodes count)
      down_length = let no : length (descent_of nodes count p) ≡ 0 = ap length (descent_stop nodes count (tree_falls tree) p none) in omega (arith, down.left)

      pub down_end : p ≡ end_of nodes count
      down_end = sym (ap (last_of p) (descent_stop nodes count (tree_falls tree) p none)) ∙ down.ends

  module _ {os : List ℕ} {p at : ℕ} {out : List ℕ} (stored : Stored nodes count os p at out) where
    pub stored_on : 0 < best_of count nodes p → {r : ℕ} {after : List ℕ} → Put out at ((node_at nodes (best_of count nodes p)).action ∷ []) r after
        → Stored nodes count os (best_of count nodes p) r after
    stored_on more {r} put =
        let b : ℕ = best_of count nodes p in
        let one : List ℕ = (node_at nodes b).action ∷ [] in
        let rest : List ℕ = actions_of nodes (descent_of nodes count b) in
        record {
          long = ap length put.same ∙ length_over out at one ∙ stored.long;
          rest = ap (λ (l : List ℕ). over l r rest) put.same ∙ ap (λ (j : ℕ). over (over out at one) j rest) put.next ∙ over_more one rest out at
              ∙ ap (λ (path : List ℕ). over out at (actions_of nodes path)) (sym (descent_on nodes count (tree_falls tree) p more)) ∙ stored.rest;
        }

    pub stored_all : best_of count nodes p ≡ 0 → out ≡ over os 0 (solution_of nodes count)
    stored_all none =
        sym (over_none out at)
        ∙ ap (λ (path : List ℕ). over out at (actions_of nodes path)) (sym (descent_stop nodes count (tree_falls tree) p none)) ∙ stored.rest

-- one turn of a loop that writes the way down: its next record is k
pub record Turned (nodes : List Node) (count : ℕ) (os : List ℕ) (k at : ℕ) (out : List ℕ) : Type 0 where
  pub down : Down nodes count k at
  pub stored : Stored nodes count os k at out

pub turned : (nodes : List Node) (count : ℕ) → SoundTree nodes count → {os out : List ℕ} {p at k : ℕ} → Down nodes count p at → Stored nodes count os p at out
    → k ≡ best_of count nodes p → 0 < best_of count nodes p
    → {r : ℕ} {after : List ℕ} → Put out at ((node_at nodes k).action ∷ []) r after → Turned nodes count os k r after
turned nodes count tree down stored found more put =
    rw found (record { down = rw put.next (down_on nodes count tree down more); stored = stored_on nodes count tree stored more (rw found at put) })
