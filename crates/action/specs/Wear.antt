-- Document 01, 'One action', 4: what an action costs in durability.
-- Assumes nothing.
use Rattle.std.specs.Prelude.{Bool, cond, ◌||◌, ℕ, ◌/◌, ltb}

-- 0 under active trained perfection, else half rounded down under either waste not
abbrev pub wear_of : ℕ → Bool → ℕ → ℕ → ℕ
wear_of base perfection waste_not waste_not_ii = cond perfection 0 (cond (ltb 0 waste_not || ltb 0 waste_not_ii) (base / 2) base)
