-- Laws of the test of a list: what it says of each number, and of a walk that came to place i.
-- Assumes nothing.
use Rattle.std.specs.Prelude.{◌≡◌, refl, Bool, true, false, cond, ◌&&◌, List, [], ◌∷◌, leb, length, drop, get_or, Err}
use Rattle.std.proofs.Common.{sym, ◌∙◌, le_of_suc-le-suc, not-suc-le-zero}
use Prim.Native.Nat.compare
use Prim.Native.Nat.{ℕ, zero, suc, ◌+◌, ◌≤◌, ◌<◌}
use native.Mathlib.Omega.{arith}
use borrow.Author.Tests.{lt-ltb, le-ltb, ltb-true, ltb-false, leb-true, leb-false, lt-leb, le-leb}
use Rattle.laws.specs.laws.Front.{front_on, front_stop, front_after}
use Rattle.refusal.specs.Judge.{Checked, pass, checked_of}
use Rattle.refusal.specs.laws.Judge.{alone, shown}
use Rattle.refusal.specs.declared.Refusal.TheVariants.{UnknownAction}
use Rattle.action.specs.Known.{actions, known, all_known, known_front, action_test, list_test}

pub action_shown : {n : ℕ} {checked : Checked} → checked ≡ checked_of (action_test n) → checked ≡ pass → n < actions
action_shown {n} e p = ltb-true n actions (shown (action_test n) [] (alone (action_test n) e) p).0

-- ---- the test of a list

-- a list has no number above 30 where the first place is not before its end, as the `requires` of inner functions say it
pub all_front : (list : List ℕ) → all_known list ≡ leb (length list) (known_front list)
unfolding known_front
all_front [] = refl
all_front (n ∷ rest) = by (known n) (all_front rest)
  where
    by : (b : Bool) → all_known rest ≡ leb (length rest) (known_front rest)
        → (b && all_known rest) ≡ leb (suc (length rest)) (cond b (suc (known_front rest)) 0)
    by true e = rw compare.suc-suc e
    by false e = sym (lt-leb (suc (length rest)) 0 (omega arith))

pub list_shown : (list : List ℕ) {checked : Checked} → checked ≡ checked_of (list_test list) → checked ≡ pass → length list ≤ known_front list
list_shown list e p = leb-true (length list) (known_front list) (sym (all_front list) ∙ (shown (list_test list) [] (alone (list_test list) e) p).0)

-- ---- a walk over the list

-- the first i numbers of the list are actions
abbrev pub Front : List ℕ → ℕ → Type 0
Front list i = (i ≤ length list) × (i + known_front (drop i list) ≡ known_front list)

pub front_none : (list : List ℕ) → Front list 0
front_none list = (omega arith, omega arith)

module _ (list : List ℕ) {i : ℕ} (f : Front list i) (h : i < length list) where
  pub front_more : get_or list i 0 < actions → Front list (i + 1)
  unfolding known_front
  front_more k =
      let e : known_front (drop i list) ≡ suc (known_front (drop (i + 1) list)) = front_on known list i h (lt-ltb _ _ k) in
      (omega arith, omega (arith, f.1))

  pub front_ends : actions ≤ get_or list i 0 → Err (UnknownAction i) ≡ checked_of (list_test list)
  unfolding known_front
  front_ends k =
      let e : known_front (drop i list) ≡ 0 = front_stop known list i h (le-ltb _ _ k) in
      let stop : known_front list ≡ i = omega (arith, f.1) in
      simp (all_front, stop, lt-leb (length list) i h)

pub front_all : (list : List ℕ) {i : ℕ} → Front list i → length list ≤ i → pass ≡ checked_of (list_test list)
unfolding known_front
front_all list {i} f h = simp (all_front, le-leb (length list) (known_front list) (omega (arith, f.1)))

-- ---- each number of a list

before_place : (list : List ℕ) (i : ℕ) → i < known_front list → get_or list i 0 < actions
unfolding known_front
before_place [] i l = absurd (not-suc-le-zero l)
before_place (n ∷ rest) i l = by (known n) refl (before_place rest) i l
  where
    by : (b : Bool) → known n ≡ b → ((i : ℕ) → i < known_front rest → get_or rest i 0 < actions)
        → (i : ℕ) → i < cond b (suc (known_front rest)) 0 → get_or (n ∷ rest) i 0 < actions
    by true e later zero l = ltb-true n actions e
    by true e later (suc i) l = later i (le_of_suc-le-suc l)
    by false e later i l = absurd (not-suc-le-zero l)

-- of a list that passed each is an action
pub known_each : (list : List ℕ) → length list ≤ known_front list → (i : ℕ) → i < length list → get_or list i 0 < actions
known_each list h i l = before_place list i (omega arith)

-- of one that is refused the number at the place is above 30, and none before it is
pub first_above : (list : List ℕ) → all_known list ≡ false
    → (known_front list < length list) × (30 < get_or list (known_front list) 0) × ((i : ℕ) → i < known_front list → get_or list i 0 ≤ 30)
unfolding known_front
first_above list e =
    let h : known_front list < length list = leb-false (length list) (known_front list) (sym (all_front list) ∙ e) in
    (h, ltb-false _ actions (front_after known list h), λ i l. omega (arith, before_place list i l))
