-- What document 01's rules over lists (a line's end, the first unknown action, a word that is exactly a name) are said with, as tests that
-- compute: the front that passes a test, membership, and two lists that are the same.
-- Assumes nothing.
use Rattle.std.specs.Prelude.{Bool, true, false, cond, ◌&&◌, ◌||◌, List, [], ◌∷◌, ℕ, suc, eqb}

-- how many elements pass a test before the first that fails
abbrev pub front : (ℕ → Bool) → List ℕ → ℕ
front f [] = 0
front f (b ∷ rest) = cond (f b) (suc (front f rest)) 0

-- m stands in a list
unfoldable pub elem : List ℕ → ℕ → Bool
elem [] m = false
elem (n ∷ rest) m = eqb m n || elem rest m

-- two lists are equal, by a test that computes
abbrev pub same : List ℕ → List ℕ → Bool
same [] [] = true
same [] (y ∷ ys) = false
same (x ∷ xs) [] = false
same (x ∷ xs) (y ∷ ys) = eqb x y && same xs ys
