-- The loop that writes the members: from m on they are still to be written, from place `at` on.
-- Assumes nothing.
use mathlib.Core.Path.{◌≡◌, refl, sym, ap, ◌∙◌}
use mathlib.Core.Bool.{true, false, cond}
use mathlib.Core.List.{List, [], ◌∷◌}
use Prim.Native.Nat.{ℕ, suc, ◌+◌, ◌-◌, ◌≤◌, ◌<◌}
use native.Mathlib.Numerals.{add-one}
use native.Mathlib.Omega.{arith}
use lib.ListN.{length, set, length-set}
use Rattle.laws.specs.Bits.{has}
use Rattle.text.specs.Over.{over, Put}
use Rattle.text.specs.laws.Over.{over_none, over_step}
use Rattle.action.specs.Known.{actions}
use Rattle.action_set.specs.Sets.{upward, members_of, size_of}
use Rattle.action_set.specs.laws.Sets.{members_size}

abbrev later : ℕ → ℕ → List ℕ
later s m = upward (actions - m) m (has s)

pub record Rising (s : ℕ) (out₀ out : List ℕ) (at m : ℕ) : Type 0 where
  pub most : m ≤ actions
  pub same : over out at (later s m) ≡ over out₀ 0 (members_of s)
  pub count : at + length (later s m) ≡ size_of s
  pub room : length out ≡ length out₀

pub rising_start : (s : ℕ) (out : List ℕ) → Rising s out out 0 0
rising_start s out = record { most = omega arith; same = refl; count = omega (arith, members_size s); room = refl }

later_next : (s m : ℕ) → m < actions → later s m ≡ cond (has s m) (m ∷ later s (m + 1)) (later s (m + 1))
unfolding upward
later_next s m h =
    let e : actions - m ≡ suc (actions - (m + 1)) = omega arith in
    rw (e, add-one m)

module _ {s : ℕ} {out₀ out : List ℕ} {at m : ℕ} (r : Rising s out₀ out at m) (h : m < actions) where
  -- m is a member: it has its place, and is written there
  module _ (t : has s m ≡ true) where
    here : later s m ≡ m ∷ later s (m + 1)
    here = later_next s m h ∙ rw t

    pub rising_room : at < size_of s
    rising_room = omega (arith, r.count, ap length here)

    pub rising_with : Rising s out₀ (set out at m) (at + 1) (m + 1)
    rising_with =
        record {
          most = omega arith;
          same = sym (over_step out at m (later s (m + 1))) ∙ ap (over out at) (sym here) ∙ r.same;
          count = omega (arith, r.count, ap length here);
          room = simp length-set r.room;
        }

  -- m is none
  pub rising_without : has s m ≡ false → Rising s out₀ out at (m + 1)
  rising_without f =
      let e : later s m ≡ later s (m + 1) = later_next s m h ∙ rw f in
      record { most = omega arith; same = ap (over out at) (sym e) ∙ r.same; count = omega (arith, r.count, ap length e); room = r.room }

none_left : {at left size written : ℕ} → at + left ≡ size → left ≡ 0 → written ≡ size → at ≡ 0 + written
none_left a b c = omega arith

pub rising_end : {s : ℕ} {out₀ out : List ℕ} {at m : ℕ} → Rising s out₀ out at m → actions ≤ m → Put out₀ 0 (members_of s) at out
unfolding upward
rising_end {s} {out₀} {out} {at} {m} r h =
    let z : actions - m ≡ 0 = omega arith in
    let none : later s m ≡ [] = rw z in
    record { next = none_left r.count (ap length none) (members_size s); same = sym (over_none out at) ∙ ap (over out at) (sym none) ∙ r.same }
