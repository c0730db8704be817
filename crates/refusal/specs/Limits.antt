-- Document 02, E1: "Keep number 1, and return with it the position of the first field outside its limit, counted from 0". Refusal 1, of fields in their
-- order.
-- Assumes nothing.
use Rattle.std.specs.Prelude.{◌≡◌, Bool, true, false, List, [], ◌∷◌, ℕ, ◌+◌, ◌<◌, get_or}
use Rattle.refusal.specs.declared.Refusal.TheVariants.{OutsideLimits}
use Rattle.refusal.specs.Judge.{Test}

abbrev pub limit_test : ℕ → Bool → Test
limit_test place inside = record { passed = inside; otherwise = OutsideLimits place }

-- a field that has no limit is inside whatever it holds; it counts for the places of the others
abbrev pub free : {A : Type 0} → A → Bool
free x = true

-- fields from the k-th on, by whether each is inside its limit: one test to a field. The first of them all has the place `first`.
abbrev pub limits_from : ℕ → ℕ → List Bool → List Test
limits_from first k [] = []
limits_from first k (inside ∷ more) = limit_test (first + k) inside ∷ limits_from first (k + 1) more

abbrev pub limit_tests : List Bool → List Test
limit_tests fields = limits_from 0 0 fields

-- the place as a player reads it: the field there is outside its limit, and every field before it inside
pub record FirstOutside (fields : List Bool) (place : ℕ) : Type 0 where
  pub outside : get_or fields place true ≡ false
  pub before : (k : ℕ) → k < place → get_or fields k true ≡ true
