-- Laws of digits in any notation.
-- Assumes nothing.
use Rattle.std.specs.Prelude.{◌≡◌, refl, true, false, List, [], ◌∷◌, ◌++◌}
use Rattle.std.proofs.Math.Path.{ap}
use Rattle.std.proofs.Common.{◌∙◌, mod-lt, div-add-mod', div-lt_iff_lt-mul, arith}
use Rattle.std.proofs.Math.Logic.{⊎_elim}
use Prim.Native.Nat.{ℕ, zero, suc, ◌+◌, ◌*◌, ◌/◌, ◌%◌, ◌^◌, ◌<◌}
use Rattle.std.proofs.Math.Nat.{div-eq_of_lt, pow-zero, pow-suc}
use Rattle.laws.specs.laws.Tests.{either}
use Rattle.text.specs.Digits.{Notation, digits_of}
use Rattle.text.specs.Reading.{value_in, Each}

each_append : (P : ℕ → Type 0) (a b : List ℕ) → Each P a → Each P b → Each P (a ++ b)
each_append P [] b x y = y
each_append P (c ∷ a) b x y = (x.0, each_append P a b x.1 y)

value_append : (base : ℕ) (read : ℕ → ℕ) (part : ℕ) (a b : List ℕ) → value_in base read part (a ++ b) ≡ value_in base read (value_in base read part a) b
value_append base read part [] b = refl
value_append base read part (c ∷ a) b = value_append base read (part * base + read c) a b

module _ (s : Notation) where
  -- the last digit alone, or after those of the rest
  pub digits_cases : (P : List ℕ → Type 0) (k n : ℕ)
      → (s.alone n ≡ true → P (s.digit (n % s.base) ∷ []))
      → (s.alone n ≡ false → P (digits_of s k (n / s.base) ++ (s.digit (n % s.base) ∷ [])))
      → P (digits_of s (suc k) n)
  unfolding digits_of
  digits_cases P k n f g =
      ⊎_elim (λ (e : s.alone n ≡ true). rw e (f e)) (λ (e : s.alone n ≡ false). rw e (g e)) (either (s.alone n))

  module _ (some : 0 < s.base) where
    -- what holds of each digit's byte holds of each byte
    pub each_digit : (P : ℕ → Type 0) → ((d : ℕ) → d < s.base → P (s.digit d)) → (k n : ℕ) → Each P (digits_of s k n)
    unfolding digits_of
    each_digit P h zero n = tt
    each_digit P h (suc k) n =
        let last : Each P (s.digit (n % s.base) ∷ []) = (h (n % s.base) (mod-lt n some), tt) in
        digits_cases (Each P) k n (λ e. last)
        (λ e. each_append P (digits_of s k (n / s.base)) (s.digit (n % s.base) ∷ []) (each_digit P h k (n / s.base)) last)

    -- where a digit's byte is read as the digit, and a number that is written as one digit is one
    module _
        (read : ℕ → ℕ)
        (reads : (d : ℕ) → d < s.base → read (s.digit d) ≡ d)
        (whole : (n : ℕ) → s.alone n ≡ true → n < s.base)
      where
        last_value : (n : ℕ) → n / s.base * s.base + read (s.digit (n % s.base)) ≡ n
        last_value n = ap (λ (d : ℕ). n / s.base * s.base + d) (reads (n % s.base) (mod-lt n some)) ∙ div-add-mod' n s.base

        -- the digits of n are read as n
        pub digits_value : (k n : ℕ) → n < s.base ^ k → value_in s.base read 0 (digits_of s k n) ≡ n
        unfolding digits_of
        digits_value zero n h = omega (arith, pow-zero s.base)
        digits_value (suc k) n h =
            let less : n / s.base < s.base ^ k = (div-lt_iff_lt-mul some).1 (rw pow-suc at h) in
            digits_cases (λ t. value_in s.base read 0 t ≡ n) k n
            (λ e. rw (div-eq_of_lt (whole n e)) at (last_value n))
            (λ e.
            value_append s.base read 0 (digits_of s k (n / s.base)) _
            ∙ ap (λ (v : ℕ). v * s.base + read (s.digit (n % s.base))) (digits_value k (n / s.base) less)
            ∙ last_value n)
