-- Durability worn off and given back: it fits a byte, and stays from -19 to its most.
-- Assumes nothing.
use Rattle.std.specs.Prelude.{◌≡◌, refl, Bool, true, false, cond, ◌&&◌, ℕ, ◌+◌, ◌≤◌, ltb, ℤ, pos, ◌+ℤ◌, ◌-ℤ◌}
use Rattle.std.proofs.Common.{arith, SFits}
use Rattle.std.specs.Int.Signed.{le_z, lt_z}
use Rattle.std.specs.Int.{w8}
use Rattle.laws.specs.laws.Raise.{raise, raise_add, raise_sub, mag_of, le_raise, gt_raise, fits8}
use Rattle.action.specs.Limits.{wear_most}
use Rattle.craft_state.specs.Inside.{DurabilityIn}
use Rattle.craft_state.specs.laws.Inside.{Raised, raised, lowered, full_in}
use Rattle.step.specs.Durability.{mended_of, manipulation_mends, masters_mends, refreshed_to}

-- ---- in a byte

lowered_by : (d : ℤ) (cost : ℕ) (most : ℤ) → Raised d most → cost ≤ wear_most → raise (d -ℤ pos cost) + cost ≡ raise d
lowered_by d cost most r h =
    let small = mag_of d 255 (omega arith) (omega arith) (omega arith) in
    let e : raise (d -ℤ pos cost) + (1000 + cost) ≡ raise d + 1000 = raise_sub d (pos cost) small (omega arith) in
    omega arith

raised_by : (d : ℤ) (by : ℕ) (most : ℤ) → Raised d most → by ≤ masters_mends → raise (d +ℤ pos by) ≡ raise d + by
raised_by d by most r h =
    let small = mag_of d 256 (omega arith) (omega arith) (omega arith) in
    let e : raise (d +ℤ pos by) + 1000 ≡ raise d + (1000 + by) = raise_add d (pos by) small (omega arith) in
    omega arith

pub hurt_fits : (d : ℤ) (cost : ℕ) (most : ℤ) → DurabilityIn d most → cost ≤ wear_most → SFits w8 (d -ℤ pos cost)
hurt_fits d cost most p h =
    let r = raised p in
    let e = lowered_by d cost most r h in
    fits8 (d -ℤ pos cost) (omega arith) (omega arith)

pub mend_fits : (d : ℤ) (by : ℕ) (most : ℤ) → DurabilityIn d most → by ≤ masters_mends → SFits w8 (d +ℤ pos by)
mend_fits d by most p h =
    let r = raised p in
    let e = raised_by d by most r h in
    fits8 (d +ℤ pos by) (omega arith) (omega arith)

-- ---- from -19 to the most

pub mended_in : (d : ℤ) (by : ℕ) (most : ℤ) → DurabilityIn d most → by ≤ masters_mends → DurabilityIn (mended_of d by most) most
mended_in d by most p h = go (le_z (d +ℤ pos by) most) (le_raise (d +ℤ pos by) most)
  where
    go : (t : Bool) → (t ≡ true → raise (d +ℤ pos by) ≤ raise most) → DurabilityIn (cond t (d +ℤ pos by) most) most
    go true f = let r = raised p in let e = raised_by d by most r h in lowered (d +ℤ pos by) p (omega arith) (f refl)
    go false f = full_in p.top

-- from above 0, a cost leaves -19 at the least
pub hurt_in : (d : ℤ) (cost : ℕ) (most : ℤ) → DurabilityIn d most → le_z d (pos 0) ≡ false → cost ≤ wear_most → DurabilityIn (d -ℤ pos cost) most
hurt_in d cost most p alive h =
    let r = raised p in
    let above = gt_raise d (pos 0) alive (omega arith) in
    let e = lowered_by d cost most r h in
    lowered (d -ℤ pos cost) p (omega arith) (omega arith)

pub refreshed_in : (d : ℤ) (manipulation : ℕ) (most : ℤ) → DurabilityIn d most → DurabilityIn (refreshed_to d manipulation most) most
refreshed_in d manipulation most p = go (ltb 0 manipulation && lt_z (pos 0) d)
  where
    go : (t : Bool) → DurabilityIn (cond t (mended_of d manipulation_mends most) d) most
    go true = mended_in d manipulation_mends most p (omega arith)
    go false = p
