-- Laws of what a draw names: a member with that many members above it, so another draw names another one; and how the loop finds it.
-- Assumes nothing.
use Rattle.std.specs.Prelude.{◌≡◌, Bool, ◌&&◌, List, [], ◌∷◌, map}
use Rattle.std.proofs.Math.Path.{refl}
use Rattle.std.proofs.Common.{sym, ap, subst, ◌∙◌, eq-or-lt_of_le, le_of_suc-le-suc, lt_of_lt_of_le, not-suc-le-zero, zero-lt-suc, add-zero, pow-suc, add-one, pow_pos, pow_mono}
use Rattle.std.proofs.Math.Bool.{true, false, cond}
use Rattle.std.proofs.Math.Logic.{⊎_elim}
use Prim.Native.Nat.{ℕ, zero, suc, ◌+◌, ◌-◌, ◌^◌, ◌≤◌, ◌<◌}
use native.Mathlib.Omega.{arith}
use borrow.Author.Tests.{lt-ltb, le-ltb, ne_eqb}
use Rattle.std.proofs.Math.Dec.{ltb}
use Rattle.std.proofs.Math.ListN.{length, get_or}
use Rattle.laws.specs.Bits.{has, count}
use Rattle.laws.specs.inner.Bits.{Member, Top}
use Rattle.laws.specs.laws.Tests.{and_true, and_false}
use Rattle.laws.specs.laws.Bits.{has_high, has_top, has_drop, top_member}
use Rattle.action.specs.Known.{actions}
use Rattle.action_set.specs.Sets.{SetIn, size_of, downward, nth_of}

-- how many members are above m
abbrev pub above_of : ℕ → ℕ → ℕ
above_of s m = count actions (λ k. has s k && ltb m k)

-- draw n names m: a member with n members above it
pub record Named (s n m : ℕ) : Type 0 where
  pub member : Member actions s m
  pub above : above_of s m ≡ n

-- ---- of any numbers below w, by the test p

module _ (p : ℕ → Bool) where
  down_length : (w : ℕ) → length (downward w p) ≡ count w p
  unfolding downward count
  down_length zero = refl
  down_length (suc w) = by (p w) (down_length w)
    where
      by : (b : Bool) → length (downward w p) ≡ count w p → length (cond b (w ∷ downward w p) (downward w p)) ≡ count w p + cond b 1 0
      by true e = omega arith
      by false e = omega arith

  -- none is above what is not below w
  none_above : (w m : ℕ) → w ≤ suc m → count w (λ k. p k && ltb m k) ≡ 0
  unfolding count
  none_above zero m h = refl
  none_above (suc w) m h = rw (none_above w m (omega arith), le-ltb m w (le_of_suc-le-suc h), and_false (p w))

  -- the nth in falling order is below w, passes the test, and has n others above it
  record Nth (w n m : ℕ) : Type 0 where
    below : m < w
    is : p m ≡ true
    above : count w (λ k. p k && ltb m k) ≡ n

  nth : (w n : ℕ) → n < length (downward w p) → Nth w n (get_or (downward w p) n 0)
  unfolding downward count
  nth zero n h = absurd (not-suc-le-zero h)
  nth (suc w) n h = by (p w) refl n (nth w) h
    where
      by : (b : Bool) → p w ≡ b → (n : ℕ) → ((k : ℕ) → k < length (downward w p) → Nth w k (get_or (downward w p) k 0))
          → n < length (cond b (w ∷ downward w p) (downward w p))
          → Nth (suc w) n (get_or (cond b (w ∷ downward w p) (downward w p)) n 0)
      by true e zero lower h = record { below = omega arith; is = e; above = none_above (suc w) w (omega arith) }
      by true e (suc n) lower h =
          let k = lower n (le_of_suc-le-suc h) in
          record { below = omega (arith, k.below); is = k.is; above = rw (e, lt-ltb _ w k.below) (omega (arith, k.above)) }
      by false e n lower h =
          let k = lower n h in
          record { below = omega (arith, k.below); is = k.is; above = rw e (omega (arith, k.above)) }

  -- and each that passes the test is the nth for its number of others above it
  at_above : (w m : ℕ) → m < w → p m ≡ true → get_or (downward w p) (count w (λ k. p k && ltb m k)) 0 ≡ m
  unfolding downward count
  at_above zero m h t = absurd (not-suc-le-zero h)
  at_above (suc w) m h t = ⊎_elim here (λ l. by (p w) (at_above w m l t) l) (eq-or-lt_of_le (le_of_suc-le-suc h))
    where
      here : m ≡ w → get_or (downward (suc w) p) (count (suc w) (λ k. p k && ltb m k)) 0 ≡ m
      here e = rw (none_above (suc w) m (omega arith), ← e, t)

      by : (b : Bool) → get_or (downward w p) (count w (λ k. p k && ltb m k)) 0 ≡ m → m < w
          → get_or (cond b (w ∷ downward w p) (downward w p)) (count w (λ k. p k && ltb m k) + cond (b && ltb m w) 1 0) 0 ≡ m
      by true e l = rw (lt-ltb m w l, add-one) e
      by false e l = rw add-zero e

-- ---- THE laws of a draw

module _ (s : ℕ) where
  pub nth_named : (n : ℕ) → n < size_of s → Named s n (nth_of s n)
  nth_named n h =
      let k = nth (has s) actions n (subst (λ (size : ℕ). n < size) (sym (down_length (has s) actions)) h) in
      record { member = record { known = k.below; is = k.is }; above = k.above }

  -- different draws name different members
  pub nth_apart : (j k : ℕ) → j < size_of s → k < size_of s → nth_of s j ≡ nth_of s k → j ≡ k
  nth_apart j k hj hk e = sym (nth_named j hj).above ∙ ap (above_of s) e ∙ (nth_named k hk).above

  -- and each member is named
  pub nth_each : (m : ℕ) → Member actions s m → nth_of s (above_of s m) ≡ m
  nth_each m member = at_above (has s) actions m member.known member.is

-- of {1, 2, 4} draw 0 names 4, draw 1 names 2, draw 2 names 1
pub nth_worked : map (nth_of 22) (0 ∷ 1 ∷ 2 ∷ []) ≡ 4 ∷ 2 ∷ 1 ∷ []
unfolding downward has
nth_worked = refl

-- ---- the highest is taken off

down_same : (p q : ℕ → Bool) (w : ℕ) → ((m : ℕ) → m < w → p m ≡ q m) → downward w p ≡ downward w q
unfolding downward
down_same p q zero e = refl
down_same p q (suc w) e = rw (e w (omega arith), down_same p q w (λ m h. e m (omega arith)))

down_none : (w : ℕ) → downward w (has 0) ≡ []
unfolding downward
down_none zero = refl
down_none (suc w) = rw (has_high 0 w (pow_pos w)) (down_none w)

down_top : (w s t : ℕ) → s < 2 ^ w → t < w → Top s t → downward w (has s) ≡ t ∷ downward w (has (s - 2 ^ t))
unfolding downward
down_top zero s t small known top = absurd (not-suc-le-zero known)
down_top (suc w) s t small known top = ⊎_elim here (λ l. lower l (down_top w s t)) (eq-or-lt_of_le (le_of_suc-le-suc known))
  where
    -- the members below it stay
    stay : (m : ℕ) → m < t → has s m ≡ has (s - 2 ^ t) m
    stay m h = rw (has_drop (suc w) s t small known (has_top s t top) m (omega arith), ne_eqb m t (λ e. omega arith), and_true (has s m))

    here : t ≡ w → downward (suc w) (has s) ≡ t ∷ downward (suc w) (has (s - 2 ^ t))
    here e =
        rw (← e, has_top s t top, has_high (s - 2 ^ t) t (omega (arith, top.high, pow-suc 2 t)))
        (ap (t ∷◌) (down_same (has s) (has (s - 2 ^ t)) t stay))

    lower : t < w → (s < 2 ^ w → t < w → Top s t → downward w (has s) ≡ t ∷ downward w (has (s - 2 ^ t)))
        → downward (suc w) (has s) ≡ t ∷ downward (suc w) (has (s - 2 ^ t))
    lower l below =
        let less : s < 2 ^ w = lt_of_lt_of_le top.high (pow_mono l) in
        rw (has_high s w less, has_high (s - 2 ^ t) w (omega arith)) (below less l top)

-- a set of that size is not empty
pub some_left : (s : ℕ) {n : ℕ} → n < size_of s → 0 < s
some_left zero {n} h =
    let none : size_of 0 ≡ 0 = sym (down_length (has 0) actions) ∙ ap length (down_none actions) in
    omega arith
some_left (suc s) h = zero-lt-suc s

module _ (s t : ℕ) (inside : SetIn s) (top : Top s t) where
  falling : downward actions (has s) ≡ t ∷ downward actions (has (s - 2 ^ t))
  falling = down_top actions s t inside (top_member actions s t inside top).known top

  pub first_is_top : nth_of s 0 ≡ t
  first_is_top = ap (λ (members : List ℕ). get_or members 0 0) falling

  pub next_of_rest : (n : ℕ) → nth_of s (suc n) ≡ nth_of (s - 2 ^ t) n
  next_of_rest n = ap (λ (members : List ℕ). get_or members (suc n) 0) falling

  pub size_of_rest : size_of s ≡ suc (size_of (s - 2 ^ t))
  size_of_rest = sym (down_length (has s) actions) ∙ ap length falling ∙ ap suc (down_length (has (s - 2 ^ t)) actions)
