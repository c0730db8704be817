-- Lists of numbers: membership, and what is left at place i of a walk.
-- Assumes nothing.
use Rattle.std.specs.Prelude.{◌≡◌, true, false, List, ◌∷◌, ℕ, ◌+◌, ◌≤◌, ◌<◌, length, drop, get_or}
use Rattle.std.proofs.Common.{sym, add-one, drop_of_length-le, drop-cons}
use borrow.Author.Tests.{eq-eqb, ne_eqb}
use Rattle.laws.specs.Lists.{elem}

-- what is left from place i on is the number there, and what is left after it
pub drop_at : (list : List ℕ) (i : ℕ) → i < length list → drop i list ≡ get_or list i 0 ∷ drop (i + 1) list
drop_at list i h = rw add-one (drop-cons list i 0 h)

-- a scan for m: it stands at place i, or it may stand after it, or nothing is left
module _ (list : List ℕ) {i : ℕ} (m : ℕ) where
  pub elem_here : i < length list → get_or list i 0 ≡ m → elem (drop i list) m ≡ true
  unfolding elem
  elem_here h e = rw (drop_at list i h, eq-eqb _ _ (sym e))

  pub elem_later : i < length list → (get_or list i 0 ≡ m → ⊥) → elem (drop i list) m ≡ elem (drop (i + 1) list) m
  unfolding elem
  elem_later h n = rw (drop_at list i h, ne_eqb m (get_or list i 0) (λ e. n (sym e)))

  pub elem_end : length list ≤ i → elem (drop i list) m ≡ false
  unfolding elem
  elem_end h = rw (drop_of_length-le list h)
