-- The walk over a line's numbers: what holds before number k, which starts at place `at`.
-- Assumes nothing.
use mathlib.Core.Path.{◌≡◌, refl, sym, ap, ◌∙◌}
use mathlib.Core.Bool.{true, false}
use Rattle.std.specs.Prelude.{Some, None}
use mathlib.Core.List.{List, [], append-nil}
use Prim.Native.Nat.{ℕ, suc, ◌+◌, ◌-◌, ◌≤◌, ◌<◌}
use native.Mathlib.Omega.{arith}
use lib.Dec.{eqb}
use lib.ListN.{length, set, drop, get_or, replicate, length-set, drop_of_length-le}
use Rattle.text.specs.Over.{over}
use Rattle.text.specs.laws.Over.{over_is, over_step, over_none}
use Rattle.context_line.specs.Shape.{digits, wide, shaped, values_of, fields, others, line_shaped, numbers_of}
use Rattle.context_line.specs.inner.Line.{read_of, Numbered}
use Rattle.context_line.specs.laws.Shape.{values_length}
use Rattle.context_line.specs.laws.Shape.{shape_narrow, shape_on, shape_parted, shape_whole, shape_more, values_on, values_last, space_within}

pub record Walk (line values : List ℕ) (k at : ℕ) : Type 0 where
  pub within : at ≤ length line
  pub count : k ≤ others
  pub shape : shaped (others - k) (drop at line) ≡ line_shaped line
  pub numbers : over values k (values_of (others - k) (drop at line)) ≡ numbers_of line
  pub room : length values ≡ fields

-- a text over a room of its length
over_whole : (text out : List ℕ) → length text ≡ length out → over out 0 text ≡ text
over_whole text out h = let l : length out ≤ 0 + length text = omega arith in over_is text out 0 (omega arith) ∙ simp (drop_of_length-le out l) (append-nil text)

pub start : (line : List ℕ) → Walk line (replicate fields 0) 0 0
start line =
    record {
      within = omega arith;
      count = omega arith;
      shape = refl;
      numbers = over_whole (numbers_of line) (replicate fields 0) (values_length others line);
      room = refl;
    }

none_lem : (line : List ℕ) → line_shaped line ≡ false → None ≡ read_of line
none_lem line e = rw e

module _ {line values : List ℕ} {k at : ℕ} (w : Walk line values k at) {end : ℕ} (e : end ≡ at + digits (drop at line)) where
  -- a line is malformed that goes on from here as none with m numbers to follow does
  unshaped : (m : ℕ) → others - k ≡ m → false ≡ shaped m (drop at line) → None ≡ read_of line
  unshaped m n f = none_lem line (sym (f ∙ ap (λ (j : ℕ). shaped j (drop at line)) (sym n) ∙ w.shape))

  narrow_at : wide (end - at) ≡ false → None ≡ read_of line
  narrow_at f = unshaped (others - k) refl (shape_narrow line at e (others - k) f)

module _ {line values : List ℕ} {k at : ℕ} (w : Walk line values k at) where
  -- no number is there
  pub narrow : wide (digits (drop at line)) ≡ false → None ≡ read_of line
  narrow f =
      let width : digits (drop at line) ≡ (at + digits (drop at line)) - at = omega arith in
      narrow_at w refl (ap wide (sym width) ∙ f)

  module _ {n end : ℕ} (r : Numbered line at n end) where
    -- the last number
    module _ (last : others ≤ k) where
      pub longer : end < length line → None ≡ read_of line
      longer h = unshaped w r.ends 0 (omega arith) (shape_more line at r.ends r.broad h)

      pub whole : length line ≤ end → Some (set values others n) ≡ read_of line
      whole h =
          let none : others - k ≡ 0 = omega arith in
          let here : k ≡ others = omega (arith, w.count) in
          let s : line_shaped line ≡ true =
          sym (shape_whole line at r.ends r.broad h ∙ ap (λ (j : ℕ). shaped j (drop at line)) (sym none) ∙ w.shape) in
          let m : set values k n ≡ numbers_of line =
          sym (over_none (set values k n) (k + 1))
          ∙ sym (over_step values k n [])
          ∙ ap (over values k) (sym (values_last line at r.ends r.value) ∙ ap (λ (j : ℕ). values_of j (drop at line)) (sym none))
          ∙ w.numbers
          in
          rw s (ap Some (ap (λ (j : ℕ). set values j n) (sym here) ∙ m))

    -- another follows
    module _ (more : k < others) where
      one_less : others - k ≡ suc (others - (k + 1))
      one_less = omega arith

      pub parted : eqb (get_or line end 0) 32 ≡ false → None ≡ read_of line
      parted s = unshaped w r.ends (suc (others - (k + 1))) one_less (shape_parted line at r.ends r.broad (others - (k + 1)) s)

      pub onward : eqb (get_or line end 0) 32 ≡ true → Walk line (set values k n) (k + 1) (end + 1)
      onward s =
          let next = others - (k + 1) in
          record {
            within = omega (arith, space_within line end s);
            count = omega arith;
            shape = sym (shape_on line at r.ends r.broad next s) ∙ ap (λ (j : ℕ). shaped j (drop at line)) (sym one_less) ∙ w.shape;
            numbers =
                sym (over_step values k n (values_of next (drop (end + 1) line)))
                ∙ ap (over values k) (sym (values_on line at r.ends r.value next) ∙ ap (λ (j : ℕ). values_of j (drop at line)) (sym one_less))
                ∙ w.numbers;
            room = simp length-set w.room;
          }
