-- Laws of a line's shape and of its numbers, at the run of digits from `at` to `end`.
-- Assumes nothing.
use Rattle.std.specs.Prelude.{◌≡◌, refl, Bool, true, false, ◌&&◌, List, [], ◌∷◌, leb, eqb, length, take, drop, get_or}
use Rattle.std.proofs.Math.Path.{sym, ap}
use Rattle.std.proofs.Common.{subst, ◌∙◌, arith, drop-drop, get_or-drop}
use Prim.Native.Nat.{ℕ, zero, suc, ◌+◌, ◌-◌, ◌≤◌, ◌<◌, suc-le-suc}
use borrow.Author.Tests.{le-leb, lt-leb, leb-true}
use Rattle.std.proofs.Math.ListN.{length-drop}
use Rattle.laws.specs.laws.Front.{front_le}
use Rattle.laws.specs.laws.Tests.{true_false, both}
use Rattle.text.specs.Reading.{value_of}
use Rattle.context_line.specs.Shape.{digit, digits, digits_most, wide, shaped, values_of}
use Rattle.context_line.specs.inner.Line.{Run}
use Rattle.context_line.specs.laws.Runs.{run_front}

and_yes : {a : Bool} (b : Bool) → a ≡ true → a && b ≡ b
and_yes b e = rw e

and_no : {a : Bool} (b : Bool) → a ≡ false → a && b ≡ false
and_no b e = rw e

pub values_length : (more : ℕ) (text : List ℕ) → length (values_of more text) ≡ suc more
unfolding values_of
values_length zero text = refl
values_length (suc more) text = ap suc (values_length more (drop (suc (digits text)) text))

module _ (line : List ℕ) (at : ℕ) {end : ℕ} (e : end ≡ at + digits (drop at line)) where
  width : digits (drop at line) ≡ end - at
  width = omega arith

  past : drop (suc (digits (drop at line))) (drop at line) ≡ drop (end + 1) line
  past = let p : at + suc (digits (drop at line)) ≡ end + 1 = omega arith in drop-drop (suc (digits (drop at line))) at line ∙ ap (λ (k : ℕ). drop k line) p

  next : get_or (drop at line) (digits (drop at line)) 0 ≡ get_or line end 0
  next = get_or-drop at line (digits (drop at line)) 0 ∙ ap (λ (k : ℕ). get_or line k 0) (sym e)

  pub run_within : at ≤ length line → end ≤ length line
  run_within h = omega (arith, front_le digit (drop at line), length-drop at line)

  wide_here : {t : Bool} → wide (end - at) ≡ t → wide (digits (drop at line)) ≡ t
  wide_here f = ap wide width ∙ f

  space_here : {t : Bool} → eqb (get_or line end 0) 32 ≡ t → eqb (get_or (drop at line) (digits (drop at line)) 0) 32 ≡ t
  space_here s = ap (λ (b : ℕ). eqb b 32) next ∙ s

  -- no digit, or too many
  pub shape_narrow : (more : ℕ) → wide (end - at) ≡ false → false ≡ shaped more (drop at line)
  unfolding shaped
  shape_narrow zero f = sym (and_no _ (wide_here f))
  shape_narrow (suc more) f = sym (and_no _ (wide_here f))

  module _ (w : wide (end - at) ≡ true) where
    pub run_here : Run (take (end - at) (drop at line))
    run_here =
        let few = (both (leb 1 (end - at)) (leb (end - at) digits_most) w).1 in
        subst (λ (k : ℕ). Run (take k (drop at line))) width (run_front (drop at line) (omega (arith, leb-true (end - at) digits_most few)))

    -- numbers are to follow
    pub shape_on : (more : ℕ) → eqb (get_or line end 0) 32 ≡ true → shaped (suc more) (drop at line) ≡ shaped more (drop (end + 1) line)
    unfolding shaped
    shape_on more s = and_yes _ (wide_here w) ∙ and_yes _ (space_here s) ∙ ap (shaped more) past

    pub shape_parted : (more : ℕ) → eqb (get_or line end 0) 32 ≡ false → false ≡ shaped (suc more) (drop at line)
    unfolding shaped
    shape_parted more s = sym (and_yes _ (wide_here w) ∙ and_no _ (space_here s))

    -- none is
    pub shape_whole : length line ≤ end → true ≡ shaped 0 (drop at line)
    unfolding shaped
    shape_whole h = sym (and_yes _ (wide_here w) ∙ le-leb (length (drop at line)) (digits (drop at line)) (omega (arith, length-drop at line)))

    pub shape_more : end < length line → false ≡ shaped 0 (drop at line)
    unfolding shaped
    shape_more h = sym (and_yes _ (wide_here w) ∙ lt-leb (length (drop at line)) (digits (drop at line)) (omega (arith, length-drop at line)))

  -- the number here, and those that follow
  module _ {n : ℕ} (v : n ≡ value_of (take (end - at) (drop at line))) where
    here : value_of (take (digits (drop at line)) (drop at line)) ≡ n
    here = ap (λ (k : ℕ). value_of (take k (drop at line))) width ∙ sym v

    pub values_on : (more : ℕ) → values_of (suc more) (drop at line) ≡ n ∷ values_of more (drop (end + 1) line)
    unfolding values_of
    values_on more = rw (here, past)

    pub values_last : values_of 0 (drop at line) ≡ n ∷ []
    unfolding values_of
    values_last = rw here

-- past the end is no space
pub space_within : (line : List ℕ) (end : ℕ) → eqb (get_or line end 0) 32 ≡ true → end < length line
space_within [] end s = absurd (true_false (sym s))
space_within (b ∷ line) zero s = omega arith
space_within (b ∷ line) (suc end) s = suc-le-suc (space_within line end s)
