-- Laws of a draw at a place of the lent draws: none is there, it is too high, or it names a member.
-- Assumes nothing.
use Rattle.std.specs.Prelude.{◌≡◌, refl, Bool, true, false, cond, List, [], ◌∷◌, ℕ, ◌≤◌, ◌<◌, ltb, length, drop, get_or, Ok, Err}
use Rattle.std.proofs.Common.{subst, ◌∙◌, lt_of_not-le, lt-ltb, le-ltb, ltb-true, drop_of_length-le}
use Rattle.laws.specs.laws.Lists.{drop_at}
use Rattle.laws.specs.inner.Bits.{Member}
use Rattle.refusal.specs.declared.Refusal.TheVariants.{NoDraw, DrawTooHigh}
use Rattle.action.specs.Known.{actions}
use Rattle.action_set.specs.Sets.{size_of, nth_of}
use Rattle.action_set.specs.laws.Nth.{nth_named}
use Rattle.rollout.specs.Draws.{drawn_of}

-- ---- as the code takes it

module _ (set : ℕ) (draws : List ℕ) (at : ℕ) where
  pub drawn_none : length draws ≤ at → Err NoDraw ≡ drawn_of set (drop at draws)
  drawn_none h = rw (drop_of_length-le draws h)

  pub drawn_high : at < length draws → size_of set ≤ get_or draws at 0 → Err DrawTooHigh ≡ drawn_of set (drop at draws)
  drawn_high h high = rw (drop_at draws at h, le-ltb (get_or draws at 0) (size_of set) high)

  pub drawn_member : at < length draws → get_or draws at 0 < size_of set → Ok (nth_of set (get_or draws at 0)) ≡ drawn_of set (drop at draws)
  drawn_member h low = rw (drop_at draws at h, lt-ltb (get_or draws at 0) (size_of set) low)

  -- ---- where it names one

  pub drawn_there : {n : ℕ} → drawn_of set (drop at draws) ≡ Ok n → at < length draws
  drawn_there e = lt_of_not-le (λ h. let apart = drawn_none h ∙ e in cc)

-- it is a member
pub drawn_is : (set : ℕ) (draws : List ℕ) {n : ℕ} → drawn_of set draws ≡ Ok n → Member actions set n
drawn_is set [] e = cc
drawn_is set (k ∷ later) {n} e = by (ltb k (size_of set)) (ltb-true k (size_of set)) e
  where
    by : (b : Bool) → (b ≡ true → k < size_of set) → cond b (Ok (nth_of set k)) (Err DrawTooHigh) ≡ Ok n → Member actions set n
    by true h e = let same : nth_of set k ≡ n = cc in subst (Member actions set) same (nth_named set k (h refl)).member
    by false h e = cc
