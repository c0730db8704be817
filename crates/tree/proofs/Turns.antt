-- The turns and the ends of the two loops that go up the way from a record.
-- Assumes nothing.
use Rattle.std.proofs.Common.{◌≡◌, ℕ, ◌+◌, ◌<◌, ◌≤◌, Bool, true, false, ◌||◌, eqb, List, length, sym, refl, ap, ◌∙◌, arith, length-set, eqb-true}
use lib.Ieee.{Float}
use borrow.Author.Tests.{eqb-false}
use Rattle.laws.specs.laws.Tests.{or_assoc, true_false}
use Rattle.tree.specs.declared.node.Node.{Node}
use Rattle.tree.specs.Node.{is_full, touched_of}
use Rattle.tree.specs.Tree.{node_at, Falls, is_above, path_of, any_full, touched_at, back_of}
use Rattle.tree.specs.laws.Climb.{above_here, above_up, above_not, touched_parent}
use Rattle.tree.specs.laws.Back.{back_here, back_up, full_here, full_up}
use Rattle.tree.specs.inner.Back.{survey_of, Climbs, Reaches, Surveys}

-- ---- the test

-- what holds at record k on the way: what is left to find there, and what was found, make the whole
pub record Testing (nodes : List Node) (start target : ℕ) (full : Bool) (k : ℕ) : Type 0 where
  pub on : k < start + 1
  pub above : is_above nodes k target ≡ is_above nodes start target
  pub filled : full || any_full nodes (path_of nodes k target) ≡ any_full nodes (path_of nodes start target)

module _ (nodes : List Node) (start target : ℕ) (climbs : Climbs nodes start) where
  pub test_falls : {full : Bool} {k : ℕ} → Testing nodes start target full k → target < k → (node_at nodes k).parent < k
  test_falls {full} {k} t l = climbs.falls k (omega arith) t.on

  pub test_turns : {full : Bool} {k : ℕ} → Testing nodes start target full k → target < k → Testing nodes start target (full || is_full (node_at nodes k)) (node_at nodes k).parent
  test_turns {full} {k} t l =
      let falls = climbs.falls in
      let up : (node_at nodes k).parent < k = test_falls t l in
      record {
        on = omega (arith, t.on);
        above = sym (above_up nodes (start + 1) target falls k l t.on) ∙ t.above;
        filled = or_assoc full (is_full (node_at nodes k)) _ ∙ sym (ap (λ (b : Bool). full || b) (full_up nodes (start + 1) target falls k l t.on)) ∙ t.filled;
      }

  pub test_ends : {full : Bool} {k : ℕ} → Testing nodes start target full k → k ≤ target → Surveys nodes start target (survey_of full k (node_at nodes k) target)
  test_ends {full} {k} t l = record { above = decides (eqb k target) refl ∙ t.above; full = λ e. filled (eqb-true k target e) ∙ t.filled }
    where
      decides : (b : Bool) → eqb k target ≡ b → b ≡ is_above nodes k target
      decides true e = rw (eqb-true k target e) (sym (above_here nodes (start + 1) target climbs.falls))
      decides false e = let other : k ≡ target → ⊥ = eqb-false k target e in sym (above_not nodes (start + 1) target climbs.falls k (omega arith) t.on)

      filled : k ≡ target → full || is_full (node_at nodes k) ≡ full || any_full nodes (path_of nodes k target)
      filled e = rw e (ap (λ (b : Bool). full || b) (sym (full_here nodes (start + 1) target climbs.falls)))

-- ---- the writing

-- what holds at record k on the way, of the records on entry and those now
pub record Writing (nodes : List Node) (start target : ℕ) (score : Float) (now : List Node) (k : ℕ) : Type 0 where
  pub on : k < start + 1
  pub long : length now ≡ length nodes
  pub parents : (j : ℕ) → (node_at now j).parent ≡ (node_at nodes j).parent
  pub above : is_above nodes k target ≡ true
  pub rest : back_of now k target score ≡ back_of nodes start target score

module _ (nodes : List Node) (start target : ℕ) (score : Float) (reaches : Reaches nodes start target) where
  falls_still : {now : List Node} {at : ℕ} → Writing nodes start target score now at → Falls now (start + 1)
  falls_still w k some h = rw (w.parents k) (reaches.climbs.falls k some h)

  pub write_falls : {now : List Node} {k : ℕ} → Writing nodes start target score now k → target < k → (node_at now k).parent < k
  write_falls {now} {k} w l = falls_still w k (omega arith) w.on

  pub write_turns : {now : List Node} {k : ℕ} → Writing nodes start target score now k → target < k → Writing nodes start target score (touched_at now k score) (node_at now k).parent
  write_turns {now} {k} w l =
      let falls = reaches.climbs.falls in
      let up : (node_at now k).parent < k = write_falls w l in
      record {
        on = omega (arith, w.on);
        long = length-set now k (touched_of (node_at now k) score) ∙ w.long;
        parents = λ j. touched_parent now k score j ∙ w.parents j;
        above = ap (λ (p : ℕ). is_above nodes p target) (w.parents k) ∙ sym (above_up nodes (start + 1) target falls k l w.on) ∙ w.above;
        rest = sym (back_up now (start + 1) target (falls_still w) k score l w.on) ∙ w.rest;
      }

  -- the way ends at the target
  pub write_arrives : {now : List Node} {k : ℕ} → Writing nodes start target score now k → k ≤ target → k ≡ target
  write_arrives {now} {k} w l = go (eqb k target) refl
    where
      go : (b : Bool) → eqb k target ≡ b → k ≡ target
      go true e = eqb-true k target e
      go false e =
          let other : k ≡ target → ⊥ = eqb-false k target e in
          absurd (true_false (sym w.above ∙ above_not nodes (start + 1) target reaches.climbs.falls k (omega arith) w.on))

  -- what is left once the target is touched
  pub write_ends : {now after : List Node} {k last : ℕ} → Writing nodes start target score now k → k ≡ target → after ≡ touched_at now last score → last ≡ target → after ≡ back_of nodes start target score
  write_ends {now} {k = k} w e said there =
      said ∙ ap (λ (j : ℕ). touched_at now j score) there ∙ sym (back_here now (start + 1) target (falls_still w) score) ∙ ap (λ (j : ℕ). back_of now j target score) (sym e) ∙ w.rest
