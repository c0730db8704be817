-- Laws of back-propagation: exactly the records on the path differ, each by one visit; the tree stays sound; and how a loop goes up the path.
-- Assumes nothing.
use Rattle.std.specs.Prelude.{◌≡◌, ℕ, ◌<◌, ◌≤◌, Bool, true, false, cond, ◌||◌, List, [], ◌∷◌, length, ◌==◌, ◌≢◌, refl, Float}
use Rattle.std.proofs.Common.{sym, ◌∙◌, ⊎_elim, le_refl, arith, length-set, get_or-set_same, get_or-set_other, eqb-true}
use Rattle.std.proofs.lemmas.Bool.{eqb-false}
use Rattle.laws.specs.Lists.{elem}
use Rattle.laws.specs.laws.Tests.{either, neither, or_false, true_false}
use Rattle.tree.specs.declared.node.Node.{Node}
use Rattle.tree.specs.Node.{is_score, is_full, touched_of}
use Rattle.tree.specs.Sound.{sound_at}
use Rattle.tree.specs.laws.Node.{touched_differs, touched_sound}
use Rattle.tree.specs.Tree.{no_node, node_at, Falls, path_of, any_full, touched_at, touched_all, back_of}
use Rattle.tree.specs.inner.Sound.{SoundTree}
use Rattle.tree.specs.laws.Tree.{tree_falls}
use Rattle.tree.specs.laws.Climb.{Falling, path_here, path_up, path_falling, path_touched}

-- ---- a visit of each record on a path whose numbers fall

pub touched_length : (nodes : List Node) (path : List ℕ) (score : Float) → length (touched_all nodes path score) ≡ length nodes
unfolding touched_all
touched_length nodes [] score = refl
touched_length nodes (k ∷ path) score = touched_length (touched_at nodes k score) path score ∙ length-set nodes k (touched_of (node_at nodes k) score)

falling_below : (path : List ℕ) (m j : ℕ) → Falling m path → elem path j ≡ true → j < m
unfolding elem
falling_below [] m j f e = absurd (true_false (sym e))
falling_below (k ∷ path) m j f e = go (j == k) refl e (λ q. falling_below path k j f.1 q)
  where
    go : (t : Bool) → (j == k) ≡ t → t || elem path j ≡ true → (elem path j ≡ true → j < k) → j < m
    go true q e rest = omega (arith, eqb-true j k q, f.0)
    go false q e rest = omega (arith, rest e, f.0)

past : (nodes : List Node) (path : List ℕ) (score : Float) (m j : ℕ) → Falling m path → m ≤ j
    → node_at (touched_all nodes path score) j ≡ node_at nodes j
unfolding touched_all
past nodes [] score m j f h = refl
past nodes (k ∷ path) score m j f h =
    past (touched_at nodes k score) path score k j f.1 (omega (arith, f.0))
    ∙ get_or-set_other nodes k j (touched_of (node_at nodes k) score) no_node (λ e. omega (arith, f.0))

pub touched_each : (nodes : List Node) (path : List ℕ) (score : Float) (m : ℕ) → Falling m path → m ≤ length nodes
    → (j : ℕ) → node_at (touched_all nodes path score) j ≡ cond (elem path j) (touched_of (node_at nodes j) score) (node_at nodes j)
unfolding touched_all elem
touched_each nodes [] score m f room j = refl
touched_each nodes (k ∷ path) score m f room j =
    go (j == k) refl (touched_each (touched_at nodes k score) path score k f.1 (rw length-set (omega (arith, f.0))) j)
  where
    go : (t : Bool) → (j == k) ≡ t
        → node_at (touched_all (touched_at nodes k score) path score) j
        ≡ cond (elem path j) (touched_of (node_at (touched_at nodes k score) j) score) (node_at (touched_at nodes k score) j)
        → node_at (touched_all (touched_at nodes k score) path score) j ≡ cond (t || elem path j) (touched_of (node_at nodes j) score) (node_at nodes j)
    go true q rest =
        rw (eqb-true j k q)
        (past (touched_at nodes k score) path score k k f.1 (le_refl k)
        ∙ get_or-set_same nodes k (touched_of (node_at nodes k) score) no_node (omega (arith, f.0)))
    go false q rest = rw (get_or-set_other nodes k j (touched_of (node_at nodes k) score) no_node (eqb-false j k q)) at rest

none_full : (nodes : List Node) (path : List ℕ) (j : ℕ) → any_full nodes path ≡ false → elem path j ≡ true → is_full (node_at nodes j) ≡ false
unfolding any_full elem
none_full nodes [] j e is = absurd (true_false (sym is))
none_full nodes (k ∷ path) j e is =
    let parts = neither (is_full (node_at nodes k)) _ e in
    go (j == k) refl parts.0 is (none_full nodes path j parts.1)
  where
    go : (t : Bool) → (j == k) ≡ t → is_full (node_at nodes k) ≡ false → t || elem path j ≡ true → (elem path j ≡ true → is_full (node_at nodes j) ≡ false)
        → is_full (node_at nodes j) ≡ false
    go true q here is rest = rw (eqb-true j k q) here
    go false q here is rest = rest is

-- ---- after back-propagation

module _ (nodes : List Node) (count start target : ℕ) (score : Float) (tree : SoundTree nodes count) (inside : start < count) where
  falling : Falling count (path_of nodes start target)
  falling = path_falling nodes count target (tree_falls tree) start start count inside inside

  -- every record, used or not
  back_each : (j : ℕ)
      → node_at (back_of nodes start target score) j ≡ cond (elem (path_of nodes start target) j) (touched_of (node_at nodes j) score) (node_at nodes j)
  back_each = touched_each nodes (path_of nodes start target) score count falling tree.room

  -- one on the path is touched
  pub back_on : (j : ℕ) → elem (path_of nodes start target) j ≡ true → node_at (back_of nodes start target score) j ≡ touched_of (node_at nodes j) score
  back_on j e = back_each j ∙ simp e

  -- any other is as it was
  pub back_off : (j : ℕ) → elem (path_of nodes start target) j ≡ false → node_at (back_of nodes start target score) j ≡ node_at nodes j
  back_off j e = back_each j ∙ simp e

  pub back_length : length (back_of nodes start target score) ≡ length nodes
  back_length = touched_length nodes (path_of nodes start target) score

  module _ (room : any_full nodes (path_of nodes start target) ≡ false) where
    -- exactly the records on the path differ
    pub back_differs : (j : ℕ) → elem (path_of nodes start target) j ≡ true → node_at (back_of nodes start target score) j ≢ node_at nodes j
    back_differs j e same =
        touched_differs j (node_at nodes j) score (tree.each j (falling_below _ count j falling e)) (none_full nodes _ j room e) (sym (back_on j e) ∙ same)

    pub back_sound : is_score score ≡ true → SoundTree (back_of nodes start target score) count
    back_sound is =
        record { some = tree.some; room = rw back_length tree.room; each = λ k h. ⊎_elim (on k h) (off k h) (either (elem (path_of nodes start target) k)) }
      where
        on : (k : ℕ) → k < count → elem (path_of nodes start target) k ≡ true → sound_at k (node_at (back_of nodes start target score) k) ≡ true
        on k h e = rw (back_on k e) (touched_sound k (node_at nodes k) score (tree.each k h) (none_full nodes _ k room e) is)

        off : (k : ℕ) → k < count → elem (path_of nodes start target) k ≡ false → sound_at k (node_at (back_of nodes start target score) k) ≡ true
        off k h e = rw (back_off k e) (tree.each k h)

-- ---- step by step, for the loops

module _ (nodes : List Node) (count target : ℕ) (falls : Falls nodes count) where
  pub back_here : (score : Float) → back_of nodes target target score ≡ touched_at nodes target score
  unfolding touched_all
  back_here score = rw (path_here nodes count target falls)

  pub back_up : (k : ℕ) (score : Float) → target < k → k < count
      → back_of nodes k target score ≡ back_of (touched_at nodes k score) (node_at nodes k).parent target score
  unfolding touched_all
  back_up k score l h = rw (path_up nodes count target falls k l h, path_touched nodes k score target (node_at nodes k).parent (node_at nodes k).parent)

  pub full_here : any_full nodes (path_of nodes target target) ≡ is_full (node_at nodes target)
  unfolding any_full
  full_here = rw (path_here nodes count target falls) (or_false (is_full (node_at nodes target)))

  pub full_up : (k : ℕ) → target < k → k < count
      → any_full nodes (path_of nodes k target) ≡ is_full (node_at nodes k) || any_full nodes (path_of nodes (node_at nodes k).parent target)
  unfolding any_full
  full_up k l h = rw (path_up nodes count target falls k l h)
