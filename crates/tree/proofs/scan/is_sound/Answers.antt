-- `tree::scan::is_sound` meets its contract: the records before the next are sound.
-- Assumes nothing.
use Rattle.std.proofs.Common.{◌≡◌, ℕ, ◌+◌, ◌<◌, Bool, true, false, ◌&&◌, nat_le, List, length, sym, subst, refl, ◌∙◌, add-one, arith}
use Rattle.std.proofs.Common.{le-leb}
use Rattle.std.proofs.lemmas.Bool.Decides.{nat_tests}
use mathlib.Core.Logic.{◌⊎◌}
use Rattle.laws.specs.laws.Tests.{both}
use Rattle.tree.specs.declared.node.Node.{Node}
use Rattle.tree.specs.Sound.{sound_at}
use Rattle.tree.specs.Tree.{node_at, sound_to, is_sound}
use Rattle.tree.specs.laws.Tree.{sound_each}
use Rattle.tree.proofs.scan.is_sound.Goals.{After-is_sound_at}
use Rattle.tree.proofs.scan.is_sound.Goals as goal

unsound : (xs : List Node) (count k : ℕ) → k < count → sound_at k (node_at xs k) ≡ false → false ≡ is_sound xs count
unfolding is_sound
unsound xs count k less e = by (is_sound xs count) refl
  where
    by : (b : Bool) → is_sound xs count ≡ b → false ≡ b
    by false _ = refl
    by true s = sym e ∙ sound_each count xs (both (nat_le 1 count && nat_le count (length xs)) _ s).1 k less

one_more : (xs : List Node) (k : ℕ) → sound_to k xs ≡ true → sound_at k (node_at xs k) ≡ true → sound_to (k + 1) xs ≡ true
unfolding sound_to
one_more xs k before here = rw (add-one k, before, here) refl

uncounted : (xs : List Node) (count : ℕ) → (count ≡ 0) ⊎ ((count ≡ 0 → ⊥) × length xs < count) → nat_le 1 count && nat_le count (length xs) ≡ false
uncounted xs count e = grind (arith, nat_tests)

judged : (c : After-is_sound_at) → sound_at c.loop-k.k (node_at c.args.nodes.now c.loop-k.k) ≡ c.is_sound_at.result
judged c = rw (c.is_sound_at.ensures, c.node_at.ensures) refl

pub returns-then-count-eq0 : goal.returns-then-count-eq0
unfolding is_sound
returns-then-count-eq0 c = rw (uncounted _ _ c.then-count-eq0.either) refl

pub loop-k-init : goal.loop-k-init
unfolding sound_to
loop-k-init c = refl

pub returns-then-not-is_sound_at : goal.returns-then-not-is_sound_at
returns-then-not-is_sound_at c = unsound _ _ c.loop-k.k c.loop-k-test.true (judged (goal.at.returns-then-not-is_sound_at c).After-is_sound_at ∙ c.if-not-is_sound_at.true)

pub loop-k-preserved : goal.loop-k-preserved
loop-k-preserved c = one_more _ c.loop-k.k c.loop-k.invariant (judged (goal.at.loop-k-preserved c).After-is_sound_at ∙ c.if-not-is_sound_at.false)

pub returns : goal.returns
unfolding is_sound
returns c =
    let end : c.loop-k.k ≡ c.args.count = omega arith in
    let all : sound_to c.args.count c.args.nodes.now ≡ true = subst (λ (k : ℕ). sound_to k c.args.nodes.now ≡ true) end c.loop-k.invariant in
    simp (le-leb 1 c.args.count (omega arith), le-leb c.args.count (length c.args.nodes.now) (omega arith), all)
