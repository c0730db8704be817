-- Worked cases: what the definitions compute to.
-- Assumes nothing.
use Rattle.std.specs.Prelude.{◌≡◌, refl, true, false, List, [], ◌∷◌, ◌++◌, ℕ, Err}
use Rattle.refusal.specs.declared.Refusal.TheVariants.{OutsideLimits, MalformedLine}
use Rattle.refusal.specs.Judge.{judged, pass, checks_of}
use Rattle.text.specs.Bytes.{bytes}
use Rattle.context_line.specs.Shape.{shaped, values_of, line_end, line_shaped, numbers_of}
use Rattle.context_line.specs.Read.{line_tests}

-- the line of document 01's example, and the first fourteen numbers of it
abbrev example : List ℕ
example = bytes "50 50 100 100 8 200 0 0 40 100 0 33 0 0 0"

abbrev fourteen : List ℕ
fourteen = bytes "50 50 100 100 8 200 0 0 40 100 0 33 0 0"

pub numbers : numbers_of example ≡ 50 ∷ 50 ∷ 100 ∷ 100 ∷ 8 ∷ 200 ∷ 0 ∷ 0 ∷ 40 ∷ 100 ∷ 0 ∷ 33 ∷ 0 ∷ 0 ∷ 0 ∷ []
unfolding values_of
numbers = refl

pub ends : (line_end (example ++ 10 ∷ bytes "Veneration") ≡ 41) × (line_end example ≡ 41) × (line_end [] ≡ 0)
ends = (refl, refl, refl)

-- as it stands; ten digits, of which nine are zeros that lead
pub shapes : (line_shaped example ≡ true) × (line_shaped (fourteen ++ bytes " 0000000001") ≡ true)
unfolding shaped
shapes = (refl, refl)

-- fourteen numbers, sixteen, none; a space after the last, one before the first, two between; a tab, a sign, eleven digits, a byte 13
pub malformed :
    (line_shaped fourteen ≡ false) ×
    (line_shaped (example ++ bytes " 0") ≡ false) ×
    (line_shaped [] ≡ false) ×
    (line_shaped (example ++ bytes " ") ≡ false) ×
    (line_shaped (32 ∷ example) ≡ false) ×
    (line_shaped (fourteen ++ bytes "  0") ≡ false) ×
    (line_shaped (fourteen ++ 9 ∷ bytes "0") ≡ false) ×
    (line_shaped (fourteen ++ bytes " -0") ≡ false) ×
    (line_shaped (fourteen ++ bytes " 00000000000") ≡ false) ×
    (line_shaped (example ++ 13 ∷ []) ≡ false)
unfolding shaped
malformed = (refl, refl, refl, refl, refl, refl, refl, refl, refl, refl)

-- inside the limits, also with a level of 2 ^ 32 - 1; a level of 2 ^ 32, step_max 256, durability_max 98 and 0, a pool of 2 ^ 31, a flag of 2, each by its
-- place; and a malformed line whose first number is too large
pub answers :
    (checks_of (line_tests example) ≡ pass) ×
    (checks_of (line_tests (bytes "50 4294967295 100 100 8 200 0 0 40 100 0 33 0 0 0")) ≡ pass) ×
    (checks_of (line_tests (bytes "4294967296 50 100 100 8 200 0 0 40 100 0 33 0 0 0")) ≡ Err (OutsideLimits 0)) ×
    (checks_of (line_tests (bytes "50 50 100 100 256 200 0 0 40 100 0 33 0 0 0")) ≡ Err (OutsideLimits 4)) ×
    (checks_of (line_tests (bytes "50 50 100 100 8 200 0 0 98 100 0 33 0 0 0")) ≡ Err (OutsideLimits 8)) ×
    (checks_of (line_tests (bytes "50 50 100 100 8 200 0 0 0 100 0 33 0 0 0")) ≡ Err (OutsideLimits 8)) ×
    (checks_of (line_tests (bytes "50 50 100 100 8 200 0 0 40 100 0 2147483648 0 0 0")) ≡ Err (OutsideLimits 11)) ×
    (checks_of (line_tests (fourteen ++ bytes " 2")) ≡ Err (OutsideLimits 14)) ×
    (checks_of (line_tests (bytes "4294967296 50 100 100 8 200 0 0 40 100 0 33 0 0")) ≡ Err MalformedLine)
unfolding judged shaped values_of
answers = (refl, refl, refl, refl, refl, refl, refl, refl, refl)

-- of two the first, whatever is wrong with it: a factor above its limit before a step_max that is no byte, a flag of 2 before a pool above its limit
pub first-of-two :
    (checks_of (line_tests (bytes "50 50 200071 100 256 200 0 0 40 100 0 33 0 0 0")) ≡ Err (OutsideLimits 2)) ×
    (checks_of (line_tests (bytes "50 50 100 100 8 200 0 0 40 100 2 2147483648 0 0 0")) ≡ Err (OutsideLimits 10))
unfolding judged shaped values_of
first-of-two = (refl, refl)
