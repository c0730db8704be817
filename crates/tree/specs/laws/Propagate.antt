-- Laws of the entry of back-propagation: what its tests have shown, and what it leaves.
-- Assumes nothing.
use Rattle.std.specs.Prelude.{◌≡◌, ℕ, ◌<◌, true, List, Ok, Err, Float}
use Rattle.std.proofs.Math.Path.{refl}
use Rattle.std.proofs.Common.{sym, ◌∙◌, arith, ltb-true}
use Rattle.refusal.specs.declared.Refusal.{Refusal}
use Rattle.refusal.specs.Judge.{Checked, pass, checks_of}
use Rattle.refusal.specs.laws.Judge.{refused_passed, judged_passed, judged_refused, shown}
use Rattle.tree.specs.declared.node.Node.{Node}
use Rattle.tree.specs.Tree.{is_sound, back_of}
use Rattle.tree.specs.inner.Sound.{SoundTree}
use Rattle.tree.specs.laws.Tree.{tree_of, tree_falls}
use Rattle.tree.specs.Refusals.{tree_test, node_test, above_test, back_tests}
use Rattle.tree.specs.laws.Kept.{back_kept}
use Rattle.tree.specs.Back.{Propagates}
use Rattle.tree.specs.inner.Back.{Climbs, Reaches}

-- ---- what the tests have shown: the way up may be walked, and comes by the target

pub climbs_of : {nodes : List Node} {count start : ℕ} → SoundTree nodes count → start < count → Climbs nodes start
climbs_of tree inside = record { room = omega (arith, tree.room); falls = λ k some h. tree_falls tree k some (omega arith) }

pub back_reaches : (nodes : List Node) (count start target : ℕ) (score : Float) {checked : Checked} → checked ≡ checks_of (back_tests nodes count start target score)
    → checked ≡ pass → Reaches nodes start target
back_reaches nodes count start target score e p =
    let tree = shown (tree_test nodes count) _ e p in
    let from = shown (node_test count start) _ tree.1 p in
    let to = shown (node_test count target) _ from.1 p in
    record { climbs = climbs_of (tree_of tree.0) (ltb-true start count from.0); above = (shown (above_test nodes start target) _ to.1 p).0 }

-- ---- THE theorems of the entry: an answer that is no refusal is that of tests that have all passed, so all of Kept.antt holds of what is left

module _ (nodes : List Node) (count start target : ℕ) (score : Float) {after : List Node} (p : Propagates nodes count start target score pass after) where
  pub done_passed : pass ≡ checks_of (back_tests nodes count start target score)
  done_passed = go (checks_of (back_tests nodes count start target score)) refl
    where
      go : (c : Checked) → c ≡ checks_of (back_tests nodes count start target score) → pass ≡ checks_of (back_tests nodes count start target score)
      go (Ok u) e = e
      go (Err x) e = absurd (refused_passed (judged_refused Err pass (back_tests nodes count start target score) e ∙ sym p.says.same))

  pub done_records : after ≡ back_of nodes start target score
  done_records = p.records ∙ sym (judged_passed (λ x. nodes) (back_of nodes start target score) (back_tests nodes count start target score) done_passed)

  pub done_sound : is_sound after count ≡ true
  done_sound = rw done_records (back_kept nodes count start target score done_passed)

module _ (nodes : List Node) (count start target : ℕ) (score : Float) {after : List Node} {x : Refusal}
    (p : Propagates nodes count start target score (Err x) after) where
  -- a refusal leaves every record
  pub refused_records : after ≡ nodes
  refused_records = go (checks_of (back_tests nodes count start target score)) refl
    where
      go : (c : Checked) → c ≡ checks_of (back_tests nodes count start target score) → after ≡ nodes
      go (Ok u) e = absurd (refused_passed (p.says.same ∙ sym (judged_passed Err pass (back_tests nodes count start target score) e)))
      go (Err y) e = p.records ∙ sym (judged_refused (λ z. nodes) (back_of nodes start target score) (back_tests nodes count start target score) e)
