-- Laws of sets: a list collected one number after the other, and the members in rising order.
-- Assumes nothing.
use Rattle.std.specs.Prelude.{◌≡◌, Bool, ◌&&◌, ◌||◌, List, [], ◌∷◌, eqb, drop, get_or}
use Rattle.std.proofs.Math.Path.{sym, ap}
use Rattle.std.proofs.Common.{◌∙◌, zero-add, add-zero, add-suc, suc-add, ltb-true, pow_pos}
use Rattle.std.proofs.Math.Bool.{true, false, cond}
use Prim.Native.Nat.{ℕ, zero, suc, ◌+◌, ◌-◌, ◌^◌, ◌<◌}
use native.Mathlib.Omega.{arith}
use Rattle.std.proofs.Math.ListN.{length}
use Rattle.laws.specs.laws.Tests.{or_false, or_assoc}
use Rattle.laws.specs.laws.Same.{same_bool, same_bool_lem, below_at}
use Rattle.laws.specs.laws.Lists.{drop_at}
use Rattle.laws.specs.Bits.{has, count}
use Rattle.laws.specs.laws.Bits.{has_high, has_with, collect_same, collect_lt, set_of_has}
use Rattle.refusal.specs.Judge.{Checked, pass, checked_of, checks_of}
use Rattle.refusal.specs.laws.Judge.{alone, shown}
use Rattle.action.specs.Known.{actions, action_test}
use Rattle.action_set.specs.Sets.{SetIn, set_test, member_tests, set_of, with_of, keep_of, size_of, upward, members_of}
use Rattle.laws.specs.Lists.{elem}

pub set_shown : {s : ℕ} {checked : Checked} → checked ≡ checked_of (set_test s) → checked ≡ pass → SetIn s
set_shown {s} e p = ltb-true s (2 ^ actions) (shown (set_test s) [] (alone (set_test s) e) p).0

pub member_shown : (s n : ℕ) {checked : Checked} → checked ≡ checks_of (member_tests s n) → checked ≡ pass → SetIn s × (n < actions)
member_shown s n e p =
    let first = shown (set_test s) (action_test n ∷ []) e p in
    (ltb-true s (2 ^ actions) first.0, ltb-true n actions (shown (action_test n) [] first.1 p).0)

pub set_inside : (p : ℕ → Bool) → SetIn (set_of p)
set_inside p = collect_lt p actions

-- ---- s and the numbers of a list

abbrev pub joined : ℕ → List ℕ → ℕ
joined s l = set_of (λ m. has s m || elem l m)

pub joined_start : (l : List ℕ) → joined 0 l ≡ set_of (elem l)
joined_start l = collect_same (λ m. has 0 m || elem l m) (elem l) actions (λ m h. rw (has_high 0 m (pow_pos m)))

joined_next : (s n : ℕ) (rest : List ℕ) → joined (with_of s n) rest ≡ joined s (n ∷ rest)
unfolding elem
joined_next s n rest =
    collect_same (λ m. has (with_of s n) m || elem rest m) (λ m. has s m || elem (n ∷ rest) m) actions
    (λ m h. rw (has_with actions s n m h) (or_assoc (has s m) (eqb m n) (elem rest m)))

-- a turn of the loop over a list
pub joined_turn : (list : List ℕ) (i s : ℕ) {r : ℕ} → i < length list → r ≡ with_of s (get_or list i 0)
    → joined r (drop (i + 1) list) ≡ joined s (drop i list)
joined_turn list i s {r} h e =
    ap (λ (x : ℕ). joined x (drop (i + 1) list)) e
    ∙ joined_next s (get_or list i 0) (drop (i + 1) list)
    ∙ ap (joined s) (sym (drop_at list i h))

pub joined_end : (s : ℕ) → SetIn s → joined s [] ≡ s
unfolding elem
joined_end s h = collect_same (λ m. has s m || false) (has s) actions (λ m l. or_false (has s m)) ∙ set_of_has actions s h

-- ---- the members

module _ (p : ℕ → Bool) where
  upward_length : (left m : ℕ) → length (upward left m p) + count m p ≡ count (left + m) p
  unfolding upward count
  upward_length zero m = rw (zero-add, zero-add)
  upward_length (suc left) m =
      let rest : length (upward left (suc m) p) + (count m p + cond (p m) 1 0) ≡ count (left + suc m) p = upward_length left (suc m) in
      by (p m) rest ∙ ap (λ (k : ℕ). count k p) (add-suc left m ∙ sym (suc-add left m))
    where
      by : (b : Bool) → length (upward left (suc m) p) + (count m p + cond b 1 0) ≡ count (left + suc m) p
          → length (cond b (m ∷ upward left (suc m) p) (upward left (suc m) p)) + count m p ≡ count (left + suc m) p
      by true e = omega arith
      by false e = omega arith

pub members_size : (s : ℕ) → length (members_of s) ≡ size_of s
unfolding count
members_size s = sym (add-zero _) ∙ upward_length (has s) actions 0

-- ---- every action

pub keep_all : (f : ℕ → Bool) → keep_of f (2 ^ actions - 1) ≡ set_of f
unfolding has
keep_all f = collect_same (λ m. has (2 ^ actions - 1) m && f m) f actions (λ m h. rw (all_has m h))
  where
    all_has : (m : ℕ) → m < actions → has (2 ^ actions - 1) m ≡ true
    all_has m h = same_bool_lem _ true (below_at (λ m. same_bool (has (2 ^ actions - 1) m) true) actions m h tt)
