-- What document 01's sets of bits ("Action table": "A set is 31 bits, bit n for action n") are said with, over any width w: the bits of a
-- number, the number that has the bits for which a rule holds, their count, and the highest of them.
-- Assumes nothing.
use Rattle.std.specs.Prelude.{Bool, cond, not, ◌&&◌, ◌||◌, ℕ, zero, suc, ◌+◌, ◌/◌, ◌%◌, ◌^◌, eqb}

-- bit n of s is set
unfoldable pub has : ℕ → ℕ → Bool
has s n = eqb (s / 2 ^ n % 2) 1

-- the number whose bits below w are those for which p holds
unfoldable pub collect : ℕ → (ℕ → Bool) → ℕ
collect zero p = 0
collect (suc w) p = collect w p + cond (p w) (2 ^ w) 0

-- s with bit n, s without it, and the bits of s for which f holds
abbrev pub with_bit : ℕ → ℕ → ℕ → ℕ
with_bit w s n = collect w (λ m. has s m || eqb m n)

abbrev pub without_bit : ℕ → ℕ → ℕ → ℕ
without_bit w s n = collect w (λ m. has s m && not (eqb m n))

abbrev pub keep_bits : ℕ → (ℕ → Bool) → ℕ → ℕ
keep_bits w f s = collect w (λ m. has s m && f m)

-- how many of the numbers below w satisfy p
unfoldable pub count : ℕ → (ℕ → Bool) → ℕ
count zero p = 0
count (suc w) p = count w p + cond (p w) 1 0

-- the highest number below w that satisfies p, as an answer, or the answer `none`
unfoldable pub highest_below : {A : Type 0} → (ℕ → A) → A → ℕ → (ℕ → Bool) → A
highest_below found none zero p = none
highest_below found none (suc w) p = cond (p w) (found w) (highest_below found none w p)
