-- Laws of the way up from a record: step by step for a loop, no record twice, and the same after a visit, which leaves every parent.
-- Assumes nothing.
use Rattle.std.specs.Prelude.{◌≡◌, ℕ, zero, suc, ◌<◌, ◌≤◌, Bool, true, false, cond, not, ◌&&◌, ◌||◌, List, [], ◌∷◌, ◌==◌, Float}
use Rattle.std.proofs.Math.Path.{refl, ap}
use Rattle.std.proofs.Common.{sym, ◌∙◌, le_refl, arith}
use Rattle.std.proofs.Math.Dec.{eqb-suc-zero}
use borrow.Author.Tests.{eq-eqb, ne_eqb, eqb-true, eqb-false}
use Rattle.laws.specs.Lists.{elem}
use Rattle.laws.specs.laws.Tests.{true_false, neither, or_true, or_false}
use Rattle.tree.specs.declared.node.Node.{Node}
use Rattle.tree.specs.Node.{touched_of}
use Rattle.tree.specs.Tree.{node_at, Falls, above_in, is_above, path_in, path_of, touched_at}

module _ (nodes : List Node) (count target : ℕ) (falls : Falls nodes count) where
  -- ---- more steps than are needed change nothing

  pub path_steps : (f g k : ℕ) → k ≤ f → k ≤ g → k < count → path_in f nodes k target ≡ path_in g nodes k target
  unfolding path_in
  path_steps zero zero k p q h = refl
  path_steps zero (suc g) k p q h = simp (eq-eqb k 0 (omega arith), or_true)
  path_steps (suc f) zero k p q h = simp (eq-eqb k 0 (omega arith), or_true)
  path_steps (suc f) (suc g) zero p q h = simp or_true
  path_steps (suc f) (suc g) (suc k) p q h =
      let below : (node_at nodes (suc k)).parent < suc k = falls (suc k) (omega arith) h in
      ap (λ (rest : List ℕ). suc k ∷ cond (suc k == target || suc k == 0) [] rest)
      (path_steps f g (node_at nodes (suc k)).parent (omega arith) (omega arith) (omega arith))

  pub above_steps : (f g k : ℕ) → k ≤ f → k ≤ g → k < count → above_in f nodes k target ≡ above_in g nodes k target
  unfolding above_in
  above_steps zero zero k p q h = refl
  above_steps zero (suc g) k p q h = simp (eq-eqb k 0 (omega arith), or_false)
  above_steps (suc f) zero k p q h = simp (eq-eqb k 0 (omega arith), or_false)
  above_steps (suc f) (suc g) zero p q h = refl
  above_steps (suc f) (suc g) (suc k) p q h =
      let below : (node_at nodes (suc k)).parent < suc k = falls (suc k) (omega arith) h in
      ap (λ (rest : Bool). (suc k == target) || (not (suc k == 0) && rest))
      (above_steps f g (node_at nodes (suc k)).parent (omega arith) (omega arith) (omega arith))

  -- ---- step by step

  pub path_here : path_of nodes target target ≡ target ∷ []
  unfolding path_in
  path_here = go target refl
    where
      go : (t : ℕ) → t ≡ target → path_in t nodes t target ≡ t ∷ []
      go zero e = refl
      go (suc t) e = simp (eq-eqb (suc t) target e)

  pub path_up : (k : ℕ) → target < k → k < count → path_of nodes k target ≡ k ∷ path_of nodes (node_at nodes k).parent target
  unfolding path_in
  path_up zero l h = absurd (omega arith)
  path_up (suc k) l h =
      let below : (node_at nodes (suc k)).parent < suc k = falls (suc k) (omega arith) h in
      simp (ne_eqb (suc k) target (λ e. omega arith), eqb-suc-zero)
      (ap (λ (rest : List ℕ). suc k ∷ rest)
      (path_steps k (node_at nodes (suc k)).parent (node_at nodes (suc k)).parent (omega arith) (le_refl _) (omega arith)))

  pub above_here : is_above nodes target target ≡ true
  unfolding above_in
  above_here = go target refl
    where
      go : (t : ℕ) → t ≡ target → above_in t nodes t target ≡ true
      go zero e = eq-eqb 0 target e
      go (suc t) e = simp (eq-eqb (suc t) target e)

  pub above_up : (k : ℕ) → target < k → k < count → is_above nodes k target ≡ is_above nodes (node_at nodes k).parent target
  unfolding above_in
  above_up zero l h = absurd (omega arith)
  above_up (suc k) l h =
      let below : (node_at nodes (suc k)).parent < suc k = falls (suc k) (omega arith) h in
      simp (ne_eqb (suc k) target (λ e. omega arith), eqb-suc-zero)
      (above_steps k (node_at nodes (suc k)).parent (node_at nodes (suc k)).parent (omega arith) (le_refl _) (omega arith))

  -- what is above a record has a smaller number
  pub above_not : (k : ℕ) → k < target → k < count → is_above nodes k target ≡ false
  unfolding above_in
  above_not k l h = go k k l h
    where
      go : (steps k : ℕ) → k < target → k < count → above_in steps nodes k target ≡ false
      go zero k l h = ne_eqb k target (λ e. omega arith)
      go (suc steps) zero l h = simp (ne_eqb 0 target (λ e. omega arith))
      go (suc steps) (suc k) l h =
          let below : (node_at nodes (suc k)).parent < suc k = falls (suc k) (omega arith) h in
          simp (ne_eqb (suc k) target (λ e. omega arith), eqb-suc-zero) (go steps (node_at nodes (suc k)).parent (omega arith) (omega arith))

-- ---- no record stands twice on a path: the numbers fall

abbrev pub Falling : ℕ → List ℕ → Type 0
Falling m [] = Unit {0}
Falling m (k ∷ path) = (k < m) × Falling k path

pub path_falling : (nodes : List Node) (count target : ℕ) → Falls nodes count → (steps k m : ℕ) → k < m → k < count
    → Falling m (path_in steps nodes k target)
unfolding path_in
path_falling nodes count target falls zero k m l h = (l, tt)
path_falling nodes count target falls (suc steps) k m l h =
    (l, go (k == target || k == 0) refl (λ below. path_falling nodes count target falls steps (node_at nodes k).parent k below (omega arith)))
  where
    rest : List ℕ
    rest = path_in steps nodes (node_at nodes k).parent target

    go : (t : Bool) → (k == target) || (k == 0) ≡ t → ((node_at nodes k).parent < k → Falling k rest) → Falling k (cond t [] rest)
    go true e onward = tt
    go false e onward = let none : k ≡ 0 → ⊥ = eqb-false k 0 (neither (k == target) (k == 0) e).1 in onward (falls k (omega arith) h)

-- ---- the path goes up to a target that is above

pub path_reaches : (nodes : List Node) (steps k target : ℕ) → above_in steps nodes k target ≡ true → elem (path_in steps nodes k target) target ≡ true
unfolding above_in path_in elem
path_reaches nodes zero k target e = rw (eq-eqb target k (sym (eqb-true k target e)))
path_reaches nodes (suc steps) k target e = go (k == target) refl (k == 0) e (path_reaches nodes steps (node_at nodes k).parent target)
  where
    go : (t : Bool) → (k == target) ≡ t → (u : Bool) → t || (not u && above_in steps nodes (node_at nodes k).parent target) ≡ true
        → (above_in steps nodes (node_at nodes k).parent target ≡ true → elem (path_in steps nodes (node_at nodes k).parent target) target ≡ true)
        → (target == k) || elem (cond (t || u) [] (path_in steps nodes (node_at nodes k).parent target)) target ≡ true
    go true q u e rest = rw (eq-eqb target k (sym (eqb-true k target q)))
    go false q true e rest = absurd (true_false (sym e))
    go false q false e rest = rw (rest e) (or_true (target == k))

-- ---- a visit leaves every parent

pub touched_parent : (nodes : List Node) (i : ℕ) (score : Float) (k : ℕ) → (node_at (touched_at nodes i score) k).parent ≡ (node_at nodes k).parent
unfolding touched_of
touched_parent [] i score k = refl
touched_parent (n ∷ nodes) zero score zero = refl
touched_parent (n ∷ nodes) zero score (suc k) = refl
touched_parent (n ∷ nodes) (suc i) score zero = refl
touched_parent (n ∷ nodes) (suc i) score (suc k) = touched_parent nodes i score k

pub path_touched : (nodes : List Node) (i : ℕ) (score : Float) (target steps k : ℕ)
    → path_in steps (touched_at nodes i score) k target ≡ path_in steps nodes k target
unfolding path_in
path_touched nodes i score target zero k = refl
path_touched nodes i score target (suc steps) k =
    ap (λ (rest : List ℕ). k ∷ cond (k == target || k == 0) [] rest)
    (ap (λ (p : ℕ). path_in steps (touched_at nodes i score) p target) (touched_parent nodes i score k)
    ∙ path_touched nodes i score target steps (node_at nodes k).parent)
