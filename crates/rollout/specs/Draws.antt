-- Document 02, E7, "the caller lends the draws, each the nth that `random_index` would take": what a draw of a set comes to.
-- "19 draws used up, 20 draw not below the size", and "20 after 19".
-- Assumes nothing.
use Rattle.std.specs.Prelude.{cond, List, [], ◌∷◌, ℕ, ltb, Result, Ok, Err}
use Rattle.refusal.specs.declared.Refusal.{Refusal}
use Rattle.refusal.specs.declared.Refusal.TheVariants.{NoDraw, DrawTooHigh}
use Rattle.action_set.specs.Sets.{size_of, nth_of}

-- the member that a draw names, or a refusal
abbrev pub Drawn : Type 0
Drawn = Result ℕ Refusal

-- the first of the draws names a member
abbrev pub drawn_of : ℕ → List ℕ → Drawn
drawn_of set [] = Err NoDraw
drawn_of set (n ∷ later) = cond (ltb n (size_of set)) (Ok (nth_of set n)) (Err DrawTooHigh)

-- what is done with it, or with the refusal
abbrev pub on_drawn : {A : Type 0} → (Refusal → A) → (ℕ → A) → Drawn → A
on_drawn refused named (Ok n) = named n
on_drawn refused named (Err x) = refused x
