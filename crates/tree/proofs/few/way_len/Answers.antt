-- `tree::few::way_len` meets its contract: what was counted, and what is left from record k on, make the whole.
-- Assumes nothing.
use Rattle.std.proofs.Common.{◌≡◌, ℕ, suc, ◌+◌, ◌<◌, List, length, refl, ◌∙◌, zero-add, arith}
use Rattle.tree.specs.inner.Few.{entry_at, Rises, way_of}
use Rattle.tree.specs.laws.Few.{left_of, left_first, left_on, entry_inside, way_short}
use Rattle.tree.proofs.few.way_len.Goals as goal
use Rattle.tree.proofs.few.way_len.Goals.{In-loop-k}

record Counted (best : List ℕ) (len k : ℕ) : Type 0 where
  inside : k < length best
  whole : len + left_of best k ≡ length (way_of best)

module _ (best : List ℕ) (pre : Rises (entry_at best) (length best) × (0 < length best)) where
  starts : {k : ℕ} → k ≡ entry_at best 0 → Counted best 0 k
  starts e = rw e (record { inside = entry_inside best pre.0 pre.1 0; whole = zero-add _ ∙ left_first best pre.0 })

  module _ {len k : ℕ} (inv : Counted best len k) (goes_on : k ≡ 0 → ⊥) where
    one_less : left_of best k ≡ suc (left_of best (entry_at best k))
    one_less = left_on best pre.0 k (omega (arith, goes_on))

    counts : len + 1 < length best
    counts = omega (arith, inv.whole, one_less, way_short best pre.0 pre.1)

    less : {next : ℕ} → next ≡ entry_at best k → left_of best next < left_of best k
    less e = rw e (omega (arith, one_less))

    turns : {next : ℕ} → next ≡ entry_at best k → Counted best (len + 1) next
    turns e = rw e (record { inside = entry_inside best pre.0 pre.1 k; whole = omega (arith, inv.whole, one_less) })

is : (c : In-loop-k) → Counted c.args.best.now c.loop-k.len c.loop-k.k
is c = record { inside = c.loop-k.invariant.inside; whole = c.loop-k.invariant.whole }

pub loop-k-init : goal.loop-k-init
loop-k-init c = let s = starts _ c.requires refl in record { inside = s.inside; whole = s.whole }

pub overflow_add-len : goal.overflow_add-len
overflow_add-len c = omega (arith, counts _ c.requires (is (goal.at.overflow_add-len c).In-loop-k) c.loop-k-test.true)

pub loop-k-smaller : goal.loop-k-smaller
loop-k-smaller c = less _ c.requires (is (goal.at.loop-k-smaller c).In-loop-k) c.loop-k-test.true refl

pub loop-k-preserved : goal.loop-k-preserved
loop-k-preserved c = let t = turns _ c.requires (is (goal.at.loop-k-preserved c).In-loop-k) c.loop-k-test.true refl in record { inside = t.inside; whole = t.whole }
