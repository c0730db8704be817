-- The front of a list: how many elements pass a test before the first that fails. Every scanning loop answers it.
-- Assumes nothing.
use Rattle.std.specs.Prelude.{◌≡◌, refl, Bool, true, false, cond, List, [], ◌∷◌, ℕ, suc, ◌+◌, ◌≤◌, ◌<◌, length, drop, get_or}
use Rattle.std.proofs.Common.{not-suc-le-zero, add-one, arith, drop_of_length-le, drop-cons}
use Rattle.laws.specs.Lists.{front}

-- a scan at place i: it goes on, it stops, nothing is left
module _ (f : ℕ → Bool) (text : List ℕ) (i : ℕ) where
  pub front_on : i < length text → f (get_or text i 0) ≡ true → front f (drop i text) ≡ suc (front f (drop (i + 1) text))
  front_on h e = rw (drop-cons text i 0 h, e, add-one)

  pub front_stop : i < length text → f (get_or text i 0) ≡ false → front f (drop i text) ≡ 0
  front_stop h e = rw (drop-cons text i 0 h, e)

  pub front_end : length text ≤ i → front f (drop i text) ≡ 0
  front_end h = rw (drop_of_length-le text h)

pub front_le : (f : ℕ → Bool) (t : List ℕ) → front f t ≤ length t
front_le f [] = omega arith
front_le f (b ∷ t) = by (f b) (front_le f t)
  where
    by : (g : Bool) → front f t ≤ length t → cond g (suc (front f t)) 0 ≤ suc (length t)
    by true h = omega arith
    by false h = omega arith

-- what stands after the front fails the test
pub front_after : (f : ℕ → Bool) (t : List ℕ) → front f t < length t → f (get_or t (front f t) 0) ≡ false
front_after f [] h = absurd (not-suc-le-zero h)
front_after f (b ∷ t) h = by (f b) refl (front_after f t) h
  where
    by : (g : Bool) → f b ≡ g → (front f t < length t → f (get_or t (front f t) 0) ≡ false)
        → cond g (suc (front f t)) 0 < suc (length t) → f (get_or (b ∷ t) (cond g (suc (front f t)) 0) 0) ≡ false
    by true e r k = r (omega arith)
    by false e r k = e
