-- Laws of bits: a number is what it collects, the bits after a change, how many are set, which is the highest, and one that trailing zeros give.
-- Assumes nothing.
use Rattle.std.specs.Prelude.{◌≡◌, Bool, not, ◌&&◌, ◌||◌}
use Rattle.std.proofs.Math.Path.{refl, ap, ap₂}
use Rattle.std.proofs.Common.{sym, ◌∙◌, subst, eq-or-lt_of_le, le_of_suc-le-suc, le_trans, lt_of_lt_of_le, lt_of_le_of_lt, lt_irrefl, lt_of_not-le, not-suc-le-zero, add-zero, one-mul, zero-mul, mod-lt, mod-eq_of_lt, one-add, arith, eq-eqb, ne_eqb, eqb-true, pow_pos, pow-add, pow_mono, shr-shr}
use Rattle.std.proofs.Math.Bool.{true, false, cond}
use Rattle.std.proofs.Math.Logic.{⊎_elim}
use Prim.Native.Nat.{ℕ, zero, suc, ◌+◌, ◌-◌, ◌*◌, ◌/◌, ◌%◌, ◌^◌, ◌≤◌, ◌<◌}
use Rattle.std.proofs.Math.Nat.{zero-lt-suc, add_comm, mod-one, div-eq_of_lt, div-eq_of_lt-le, pow-suc}
use Rattle.std.proofs.lemmas.Bool.{eqb-false}
use Rattle.std.proofs.Math.Dec.{eqb}
use Rattle.std.specs.Int.Bits.{bit_and, bit_or, or_add_and}
use Rattle.std.proofs.lemmas.Nat.Bits.{and_high}
use Rattle.std.proofs.lemmas.Nat.{and_le_l, and_shr, and_mod, mod-pow-add, ones_cat, leading_top}
use Rattle.std.proofs.Math.Pow.{mod-mod-pow, field, high, low}
use Rattle.std.specs.Int.Count.{ones, count_leading_zeros, count_trailing_zeros, under}
use Rattle.laws.specs.laws.Tests.{or_false, or_true, and_true, and_false, and_assoc, either, true_false}
use Rattle.laws.specs.Bits.{has, collect, with_bit, without_bit, keep_bits, count, highest_below}
use Rattle.laws.specs.inner.Bits.{Member, Top}

-- ---- one digit

digit_value : (d : ℕ) → d < 2 → cond (eqb d 1) 1 0 ≡ d
digit_value zero h = refl
digit_value (suc zero) h = refl
digit_value (suc (suc d)) h = absurd (omega arith)

cond_times : (b : Bool) (w : ℕ) → cond b w 0 ≡ cond b 1 0 * w
cond_times true w = sym (one-mul w)
cond_times false w = sym (zero-mul w)

cond_digit : (b : Bool) → eqb (cond b 1 0 % 2) 1 ≡ b
cond_digit true = refl
cond_digit false = refl

has_value : (s n : ℕ) → cond (has s n) 1 0 ≡ s / 2 ^ n % 2
unfolding has
has_value s n = digit_value (s / 2 ^ n % 2) (mod-lt (s / 2 ^ n) (zero-lt-suc 1))

-- the digits below k are those of the remainder
has_rest : (s i n : ℕ) → has (s % 2 ^ (i + 1 + n)) n ≡ has s n
unfolding has
has_rest s i n = ap (λ (x : ℕ). eqb (x % 2) 1) (field s (i + 1) n) ∙ ap (λ (x : ℕ). eqb x 1) (mod-mod-pow (s / 2 ^ n) i 1)

has_mod : (s k n : ℕ) → n < k → has (s % 2 ^ k) n ≡ has s n
has_mod s k n h =
    let e : k - suc n + 1 + n ≡ k = omega arith in
    subst (λ (x : ℕ). has (s % 2 ^ x) n ≡ has s n) e (has_rest s (k - suc n) n)

pub has_high : (s n : ℕ) → s < 2 ^ n → has s n ≡ false
unfolding has
has_high s n h = rw (div-eq_of_lt h)

pub has_top : (s k : ℕ) → Top s k → has s k ≡ true
unfolding has
has_top s k t =
    let one : s / 2 ^ k ≡ 1 = div-eq_of_lt-le {k = 1} (2 ^ k) {m = s} (omega (arith, t.low, one-mul (2 ^ k))) (omega (arith, t.high, pow-suc 2 k)) in
    rw one

pub has_low : (s n : ℕ) → has s n ≡ true → 2 ^ n ≤ s
has_low s n t = le_of_suc-le-suc (lt_of_not-le (λ (g : suc s ≤ 2 ^ n). true_false (sym t ∙ has_high s n g)))

-- a set bit is below the width, and so a member
has_member : (w s n : ℕ) → s < 2 ^ w → has s n ≡ true → Member w s n
has_member w s n h t =
    record { known = lt_of_not-le (λ (g : w ≤ n). lt_irrefl s (lt_of_lt_of_le h (le_trans (pow_mono g) (has_low s n t)))); is = t }

-- ---- a set is what it collects

module _ (p : ℕ → Bool) where
  pub collect_lt : (k : ℕ) → collect k p < 2 ^ k
  unfolding collect
  collect_lt zero = zero-lt-suc zero
  collect_lt (suc k) = go (p k) (collect_lt k)
    where
      go : (b : Bool) → collect k p < 2 ^ k → collect k p + cond b (2 ^ k) 0 < 2 ^ suc k
      go true h = omega (arith, pow-suc 2 k)
      go false h = omega (arith, pow-suc 2 k)

  split_digit : (k : ℕ) → collect (suc k) p ≡ cond (p k) 1 0 * 2 ^ k + collect k p
  unfolding collect
  split_digit k = add_comm (collect k p) (cond (p k) (2 ^ k) 0) ∙ ap (λ (x : ℕ). x + collect k p) (cond_times (p k) (2 ^ k))

  pub has_collect : (k m : ℕ) → m < k → has (collect k p) m ≡ p m
  unfolding has
  has_collect zero m h = absurd (not-suc-le-zero h)
  has_collect (suc k) m h = ⊎_elim here (λ l. lower l (has_collect k m l)) (eq-or-lt_of_le (le_of_suc-le-suc h))
    where
      here : m ≡ k → has (collect (suc k) p) m ≡ p m
      here e =
          rw (e, split_digit k) (ap (λ (x : ℕ). eqb (x % 2) 1) (high (cond (p k) 1 0) k (collect_lt k)) ∙ cond_digit (p k))

      lower : m < k → has (collect k p) m ≡ p m → has (collect (suc k) p) m ≡ p m
      lower l ih =
          sym (has_mod (collect (suc k) p) k m l)
          ∙ ap (λ (x : ℕ). has x m) (ap (λ (x : ℕ). x % 2 ^ k) (split_digit k) ∙ low (cond (p k) 1 0) k (collect_lt k))
          ∙ ih

pub collect_has : (s k : ℕ) → collect k (has s) ≡ s % 2 ^ k
unfolding collect
collect_has s zero = sym (mod-one s)
collect_has s (suc k) =
    split_digit (has s) k
    ∙ ap₂ (λ (x y : ℕ). x * 2 ^ k + y) (has_value s k) (collect_has s k)
    ∙ sym (mod-pow-add s 1 k) ∙ ap (λ (x : ℕ). s % 2 ^ x) (one-add k)

pub set_of_has : (w s : ℕ) → s < 2 ^ w → collect w (has s) ≡ s
set_of_has w s h = collect_has s w ∙ mod-eq_of_lt h

module _ (p q : ℕ → Bool) where
  pub collect_same : (k : ℕ) → ((m : ℕ) → m < k → p m ≡ q m) → collect k p ≡ collect k q
  unfolding collect
  collect_same zero e = refl
  collect_same (suc k) e =
      ap₂ (λ (x : ℕ) (b : Bool). x + cond b (2 ^ k) 0) (collect_same k (λ m h. e m (omega arith))) (e k (omega arith))

  -- p has n besides
  pub collect_one : (k n : ℕ) → n < k → ((m : ℕ) → m < k → (m ≡ n → ⊥) → p m ≡ q m) → p n ≡ true → q n ≡ false
      → collect k p ≡ collect k q + 2 ^ n
  unfolding collect
  collect_one zero n h e t f = absurd (not-suc-le-zero h)
  collect_one (suc k) n h e t f = ⊎_elim here (λ l. lower l (collect_one k n l (λ m j. e m (omega arith)) t f)) (eq-or-lt_of_le (le_of_suc-le-suc h))
    where
      here : n ≡ k → collect (suc k) p ≡ collect (suc k) q + 2 ^ n
      here i =
          let same : collect k p ≡ collect k q = collect_same k (λ m l. e m (omega arith) (λ j. omega arith)) in
          rw (← i, t, f, i) (omega arith)

      lower : n < k → collect k p ≡ collect k q + 2 ^ n → collect (suc k) p ≡ collect (suc k) q + 2 ^ n
      lower l ih = rw (e k (omega arith) (λ j. omega arith)) (omega arith)

-- two sets with the same members are the same
pub same_members : (w s t : ℕ) → s < 2 ^ w → t < 2 ^ w → ((m : ℕ) → m < w → has s m ≡ has t m) → s ≡ t
same_members w s t hs ht e = sym (set_of_has w s hs) ∙ collect_same (has s) (has t) w e ∙ set_of_has w t ht

-- ---- one member more, or less

module _ (w s n : ℕ) (small : s < 2 ^ w) (known : n < w) where
  pub with_new : has s n ≡ false → with_bit w s n ≡ s + 2 ^ n
  with_new f =
      collect_one (λ m. has s m || eqb m n) (has s) w n known
      (λ m l ne. rw (ne_eqb m n ne) (or_false (has s m)))
      (rw (eq-eqb n n refl) (or_true (has s n))) f
      ∙ ap (λ (x : ℕ). x + 2 ^ n) (set_of_has w s small)

  pub with_old : has s n ≡ true → with_bit w s n ≡ s
  with_old t = collect_same (λ m. has s m || eqb m n) (has s) w each ∙ set_of_has w s small
    where
      each : (m : ℕ) → m < w → has s m || eqb m n ≡ has s m
      each m l = ⊎_elim (λ (e : eqb m n ≡ true). rw (e, eqb-true m n e, t)) (λ (e : eqb m n ≡ false). rw e (or_false (has s m))) (either (eqb m n))

  pub without_old : has s n ≡ true → without_bit w s n ≡ s - 2 ^ n
  without_old t =
      let sum : s ≡ without_bit w s n + 2 ^ n =
      sym (set_of_has w s small)
      ∙ collect_one (has s) (λ m. has s m && not (eqb m n)) w n known
      (λ m l ne. rw (ne_eqb m n ne) (sym (and_true (has s m)))) t (rw (eq-eqb n n refl) (and_false (has s n)))
      in omega arith

  pub without_new : has s n ≡ false → without_bit w s n ≡ s
  without_new f = collect_same (λ m. has s m && not (eqb m n)) (has s) w each ∙ set_of_has w s small
    where
      each : (m : ℕ) → m < w → has s m && not (eqb m n) ≡ has s m
      each m l = ⊎_elim (λ (e : eqb m n ≡ true). rw (e, eqb-true m n e, f)) (λ (e : eqb m n ≡ false). rw e (and_true (has s m))) (either (eqb m n))

  -- the same by masks: s | bit, and s less s & bit
  and_bit : bit_and s (2 ^ n) ≡ cond (has s n) (2 ^ n) 0
  and_bit =
      let e : 2 ^ (1 + n) - 2 ^ n ≡ 2 ^ n = omega (arith, pow-add 2 1 n) in
      ap (bit_and s) (sym e) ∙ and_high s 1 n ∙ ap (λ (x : ℕ). x * 2 ^ n) (sym (has_value s n)) ∙ sym (cond_times (has s n) (2 ^ n))

  pub or_bit : bit_or s (2 ^ n) ≡ with_bit w s n
  or_bit =
      ⊎_elim
      (λ (t : has s n ≡ true). let e : bit_and s (2 ^ n) ≡ 2 ^ n = rw t at and_bit in omega (arith, or_add_and s (2 ^ n), with_old t))
      (λ (f : has s n ≡ false). let e : bit_and s (2 ^ n) ≡ 0 = rw f at and_bit in omega (arith, or_add_and s (2 ^ n), with_new f)) (either (has s n))

  pub less_bit : s - bit_and s (2 ^ n) ≡ without_bit w s n
  less_bit =
      ⊎_elim
      (λ (t : has s n ≡ true). let e : bit_and s (2 ^ n) ≡ 2 ^ n = rw t at and_bit in omega (arith, without_old t))
      (λ (f : has s n ≡ false). let e : bit_and s (2 ^ n) ≡ 0 = rw f at and_bit in omega (arith, without_new f)) (either (has s n))

  -- the members after one is dropped
  pub has_drop : has s n ≡ true → (m : ℕ) → m < w → has (s - 2 ^ n) m ≡ has s m && not (eqb m n)
  has_drop t m l = rw (← without_old t) (has_collect (λ m. has s m && not (eqb m n)) w m l)

  -- one step of a walk: what is kept of s is what is kept of the rest, and n where it passes the test
  pub keep_step : (f : ℕ → Bool) → has s n ≡ true → keep_bits w f s ≡ keep_bits w f (s - 2 ^ n) + cond (f n) (2 ^ n) 0
  keep_step f t = ⊎_elim passed failed (either (f n))
    where
      other : (m : ℕ) → m < w → (m ≡ n → ⊥) → has s m && f m ≡ has (s - 2 ^ n) m && f m
      other m l ne = rw (has_drop t m l, ne_eqb m n ne, and_true (has s m))

      passed : f n ≡ true → keep_bits w f s ≡ keep_bits w f (s - 2 ^ n) + cond (f n) (2 ^ n) 0
      passed y =
          rw y (collect_one (λ m. has s m && f m) (λ m. has (s - 2 ^ n) m && f m) w n known other (rw (t, y)) (rw (has_drop t n known, t, eq-eqb n n refl)))

      failed : f n ≡ false → keep_bits w f s ≡ keep_bits w f (s - 2 ^ n) + cond (f n) (2 ^ n) 0
      failed y = rw (y, add-zero) (collect_same (λ m. has s m && f m) (λ m. has (s - 2 ^ n) m && f m) w each)
        where
          each : (m : ℕ) → m < w → has s m && f m ≡ has (s - 2 ^ n) m && f m
          each m l =
              ⊎_elim (λ (e : eqb m n ≡ true). rw (eqb-true m n e, y) (and_false (has s n) ∙ sym (and_false (has (s - 2 ^ n) n))))
              (λ (e : eqb m n ≡ false). other m l (eqb-false m n e)) (either (eqb m n))

-- the members after each operation
module _ (w s : ℕ) where
  pub has_with : (n m : ℕ) → m < w → has (with_bit w s n) m ≡ has s m || eqb m n
  has_with n m l = has_collect (λ m. has s m || eqb m n) w m l

  pub has_without : (n m : ℕ) → m < w → has (without_bit w s n) m ≡ has s m && not (eqb m n)
  has_without n m l = has_collect (λ m. has s m && not (eqb m n)) w m l

  pub has_keep : (f : ℕ → Bool) (m : ℕ) → m < w → has (keep_bits w f s) m ≡ has s m && f m
  has_keep f m l = has_collect (λ m. has s m && f m) w m l

-- ---- what is kept

module _ (w s : ℕ) (f g : ℕ → Bool) where
  -- two tests that agree on the members keep the same
  pub keep_same : ((m : ℕ) → m < w → has s m ≡ true → f m ≡ g m) → keep_bits w f s ≡ keep_bits w g s
  keep_same e = collect_same (λ m. has s m && f m) (λ m. has s m && g m) w (λ m l. by (has s m) (e m l))
    where
      by : {x y : Bool} (b : Bool) → (b ≡ true → x ≡ y) → b && x ≡ b && y
      by true h = h refl
      by false h = refl

  -- one test after the other is both at once
  pub keep_keep : keep_bits w g (keep_bits w f s) ≡ keep_bits w (λ m. f m && g m) s
  keep_keep =
      collect_same (λ m. has (keep_bits w f s) m && g m) (λ m. has s m && (f m && g m)) w
      (λ m l. ap (λ (b : Bool). b && g m) (has_keep w s f m l) ∙ and_assoc (has s m) (f m) (g m))

-- all is kept where every member passes
pub keep_whole : (w s : ℕ) (f : ℕ → Bool) → s < 2 ^ w → ((m : ℕ) → m < w → f m ≡ true) → keep_bits w f s ≡ s
keep_whole w s f small e = collect_same (λ m. has s m && f m) (has s) w (λ m l. rw (e m l) (and_true (has s m))) ∙ set_of_has w s small

-- nothing is kept of the empty set
pub keep_none : (w : ℕ) (f : ℕ → Bool) → keep_bits w f 0 ≡ 0
keep_none w f = collect_same (λ m. has 0 m && f m) (has 0) w (λ m l. rw (has_high 0 m (pow_pos m))) ∙ set_of_has w 0 (pow_pos w)

-- ---- what two sets share, and what one has beyond the other

digits_and : (x y : ℕ) → x < 2 → y < 2 → eqb (bit_and x y) 1 ≡ eqb x 1 && eqb y 1
digits_and zero y h k = refl
digits_and (suc zero) zero h k = refl
digits_and (suc zero) (suc zero) h k = refl
digits_and (suc zero) (suc (suc y)) h k = absurd (omega arith)
digits_and (suc (suc x)) y h k = absurd (omega arith)

pub has_and : (s t n : ℕ) → has (bit_and s t) n ≡ has s n && has t n
unfolding has
has_and s t n =
    ap (λ (x : ℕ). eqb (x % 2) 1) (and_shr s t n)
    ∙ ap (λ (x : ℕ). eqb x 1) (and_mod (s / 2 ^ n) (t / 2 ^ n) 1)
    ∙ digits_and (s / 2 ^ n % 2) (t / 2 ^ n % 2) (mod-lt (s / 2 ^ n) (zero-lt-suc 1)) (mod-lt (t / 2 ^ n) (zero-lt-suc 1))

-- p is where q holds besides, and where it does not
collect_split : (p q : ℕ → Bool) (k : ℕ) → collect k p ≡ collect k (λ m. p m && q m) + collect k (λ m. p m && not (q m))
unfolding collect
collect_split p q zero = refl
collect_split p q (suc k) = by (p k) (q k) (collect k p) (collect k (λ m. p m && q m)) (collect k (λ m. p m && not (q m))) (collect_split p q k)
  where
    by : (a b : Bool) (x y z : ℕ) → x ≡ y + z → x + cond a (2 ^ k) 0 ≡ y + cond (a && b) (2 ^ k) 0 + (z + cond (a && not b) (2 ^ k) 0)
    by true true x y z e = omega arith
    by true false x y z e = omega arith
    by false b x y z e = omega arith

module _ (w s t : ℕ) (small : s < 2 ^ w) where
  pub and_keep : bit_and s t ≡ keep_bits w (has t) s
  and_keep =
      sym (set_of_has w (bit_and s t) (lt_of_le_of_lt (and_le_l s t) small))
      ∙ collect_same (has (bit_and s t)) (λ m. has s m && has t m) w (λ m l. has_and s t m)

  pub less_keep : s - bit_and s t ≡ keep_bits w (λ m. not (has t m)) s
  less_keep = omega (arith, collect_split (has s) (has t) w, set_of_has w s small, and_keep)

-- ---- the size

ones_digit : (d : ℕ) → d < 2 → ones d ≡ d
unfolding ones
ones_digit zero h = refl
ones_digit (suc zero) h = refl
ones_digit (suc (suc d)) h = absurd (omega arith)

count_ones : (s k : ℕ) → count k (has s) ≡ ones (s % 2 ^ k)
unfolding count
count_ones s zero = rw mod-one (sym (ones_digit 0 (zero-lt-suc 1)))
count_ones s (suc k) =
    let d = s / 2 ^ k % 2 in
    add_comm (count k (has s)) (cond (has s k) 1 0)
    ∙ ap₂ (λ (x y : ℕ). x + y) (has_value s k ∙ sym (ones_digit d (mod-lt (s / 2 ^ k) (zero-lt-suc 1)))) (count_ones s k)
    ∙ sym (ones_cat k d (s % 2 ^ k) (mod-lt s (pow_pos k)))
    ∙ ap ones (sym (mod-pow-add s 1 k) ∙ ap (λ (x : ℕ). s % 2 ^ x) (one-add k))

pub size_ones : (w s : ℕ) → s < 2 ^ w → ones s ≡ count w (has s)
size_ones w s h = sym (count_ones s w ∙ ap ones (mod-eq_of_lt h))

-- ---- the highest member

module _ {A : Type 0} (found : ℕ → A) (none : A) where
  pub highest_is : (w s n : ℕ) → n < w → Top s n → highest_below found none w (has s) ≡ found n
  unfolding highest_below
  highest_is zero s n h t = absurd (not-suc-le-zero h)
  highest_is (suc w) s n h t =
      ⊎_elim (λ (e : n ≡ w). rw (← e, has_top s n t)) (λ (b : n < w). rw (has_high s w (lt_of_lt_of_le t.high (pow_mono b))) (highest_is w s n b t))
      (eq-or-lt_of_le (le_of_suc-le-suc h))

  pub highest_none : (w : ℕ) → highest_below found none w (has 0) ≡ none
  unfolding highest_below
  highest_none zero = refl
  highest_none (suc w) = rw (has_high 0 w (pow_pos w)) (highest_none w)

-- the highest set bit is a member
pub top_member : (w s n : ℕ) → s < 2 ^ w → Top s n → Member w s n
top_member w s n h t = has_member w s n h (has_top s n t)

-- the place that the count of leading zeros gives
pub top_place : (s : ℕ) → 0 < s → s < 2 ^ 32 → (count_leading_zeros 32 s ≤ 31) × Top s (31 - count_leading_zeros 32 s)
top_place s p h =
    let t = leading_top 32 s p h in
    let e : 31 - count_leading_zeros 32 s ≡ t.0 = omega (arith, t.1) in (omega (arith, t.1), rw e (record { low = t.2; high = t.3 }))

-- ---- the member that trailing zeros give

has_half : (s n : ℕ) → has s (suc n) ≡ has (s / 2) n
unfolding has
has_half s n = ap (λ (x : ℕ). eqb (x % 2) 1) (ap (λ (x : ℕ). s / 2 ^ x) (sym (one-add n)) ∙ sym (shr-shr s 1 n))

has_trailing : (k s : ℕ) → 0 < s → s < 2 ^ k → has s (count_trailing_zeros k s) ≡ true
unfolding count_trailing_zeros has
has_trailing zero s p h = absurd (omega arith)
has_trailing (suc k) s p h = go (s % 2) refl (λ q. has_trailing k (s / 2) q (omega (arith, pow-suc 2 k)))
  where
    go : (d : ℕ) → s % 2 ≡ d → (0 < s / 2 → has (s / 2) (count_trailing_zeros k (s / 2)) ≡ true) → has s (under d (count_trailing_zeros k (s / 2))) ≡ true
    go zero e rest = has_half s (count_trailing_zeros k (s / 2)) ∙ rest (omega arith)
    go (suc d) e rest = eq-eqb (s / 2 ^ 0 % 2) 1 (omega arith)

-- their count, in a word of k bits, is the place of a member
pub trailing_member : (w k s : ℕ) → w ≤ k → 0 < s → s < 2 ^ w → Member w s (count_trailing_zeros k s)
trailing_member w k s l p h = has_member w s (count_trailing_zeros k s) h (has_trailing k s p (lt_of_lt_of_le h (pow_mono l)))
