-- How a loop that fills a room of spaces from its end with digits goes.
-- Assumes nothing.
use mathlib.Core.Path.{◌≡◌, refl, sym, ap, subst, ◌∙◌}
use mathlib.Core.Bool.{true, false, cond}
use mathlib.Core.List.{List, [], ◌∷◌, ◌++◌, append-nil, append_assoc}
use Prim.Native.Nat.{ℕ, zero, suc, ◌-◌, ◌/◌, ◌%◌, ◌≤◌, ◌<◌}
use native.Mathlib.Omega.{arith}
use lib.ListN.{set, replicate}
use Rattle.text.specs.Digits.{Notation, digits_of}

-- the room b ends in what is spelled of `text`: what is left of the number is `rest`, whose last digit goes before place i
pub record Spelling (s : Notation) (text : List ℕ) (i rest : ℕ) (b : List ℕ) : Type 0 where
  pub tail : List ℕ
  pub same : b ≡ replicate i 32 ++ tail
  pub digits : digits_of s i rest ++ tail ≡ text

-- nothing is spelled yet
pub unspelled : (s : Notation) (i n : ℕ) → Spelling s (digits_of s i n) i n (replicate i 32)
unspelled s i n = record { tail = []; same = sym (append-nil (replicate i 32)); digits = append-nil (digits_of s i n) }

set_space : (j a : ℕ) (t : List ℕ) → set (replicate (suc j) 32 ++ t) j a ≡ replicate j 32 ++ (a ∷ t)
set_space zero a t = refl
set_space (suc j) a t = ap (λ (l : List ℕ). 32 ∷ l) (set_space j a t)

-- a byte is stored before a text that spaces lead
pub set_before : {i : ℕ} {b : List ℕ} (a : ℕ) (text : List ℕ) → 0 < i → b ≡ replicate i 32 ++ text → set b (i - 1) a ≡ replicate (i - 1) 32 ++ (a ∷ text)
set_before {i} {b} a text h e =
    let k : i ≡ suc (i - 1) = omega arith in
    ap (λ (l : List ℕ). set l (i - 1) a) (e ∙ ap (λ (n : ℕ). replicate n 32 ++ text) k) ∙ set_space (i - 1) a text

module _ {s : Notation} {text : List ℕ} {i rest : ℕ} {b : List ℕ} (some : 0 < i) (p : Spelling s text i rest b) where
  abbrev more : List ℕ
  more = s.digit (rest % s.base) ∷ p.tail

  stored : set b (i - 1) (s.digit (rest % s.base)) ≡ replicate (i - 1) 32 ++ more
  stored = set_before (s.digit (rest % s.base)) p.tail some p.same

  left : cond (s.alone rest) [] (digits_of s (i - 1) (rest / s.base)) ++ more ≡ text
  unfolding digits_of
  left =
      let k : i ≡ suc (i - 1) = omega arith in
      sym (append_assoc (cond (s.alone rest) [] (digits_of s (i - 1) (rest / s.base))) (s.digit (rest % s.base) ∷ []) p.tail)
      ∙ (rw k at p.digits)

  -- a turn of the loop, where digits go before this one
  pub turn : s.alone rest ≡ false → Spelling s text (i - 1) (rest / s.base) (set b (i - 1) (s.digit (rest % s.base)))
  turn h = record { tail = more; same = stored; digits = rw h at left }

  -- the last turn, where none do
  pub last : s.alone rest ≡ true → set b (i - 1) (s.digit (rest % s.base)) ≡ replicate (i - 1) 32 ++ text
  last h = stored ∙ ap (λ (t : List ℕ). replicate (i - 1) 32 ++ t) (rw h at left)

-- where no place is left, all is spelled
pub full : {s : Notation} {text : List ℕ} {i rest : ℕ} {b : List ℕ} → Spelling s text i rest b → i ≤ 0 → b ≡ text
unfolding digits_of
full {s} {text} {i} {rest} {b} p h =
    let e : i ≡ 0 = omega arith in
    let q = subst (λ (k : ℕ). Spelling s text k rest b) e p in
    q.same ∙ q.digits
