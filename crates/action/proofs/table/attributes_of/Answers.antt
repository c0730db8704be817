-- `action::table::attributes_of` meets its contract: at the numbers of each arm, its row is the table's.
-- Assumes nothing.
use mathlib.Core.Path.{◌∙◌}
use mathlib.Core.List.{List, [], ◌∷◌}
use mathlib.Core.Logic.{⊎_elim}
use Prim.Native.Nat.{ℕ, zero-le}
use Rattle.laws.specs.laws.Arms.{at, sift}
use Rattle.action.specs.Table.{action_of, attributes_of}
use Rattle.action.proofs.Same.{same_row, same_row_lem}
use Rattle.action.proofs.table.attributes_of.Goals as goal
use Rattle.action.proofs.table.attributes_of.Goals.{then-n-eq28, else-n-eq28, then-n-eq4, else-n-eq4}

-- the arms' single numbers, last arm first
arms : List (List ℕ)
arms =
    (29 ∷ []) ∷ (28 ∷ 30 ∷ []) ∷ (27 ∷ []) ∷ (26 ∷ []) ∷ (25 ∷ []) ∷ (24 ∷ []) ∷ (23 ∷ []) ∷ (22 ∷ []) ∷ (21 ∷ []) ∷ (20 ∷ []) ∷ (19 ∷ []) ∷
    (18 ∷ []) ∷ (17 ∷ []) ∷ (16 ∷ []) ∷ (15 ∷ []) ∷ (14 ∷ []) ∷ (13 ∷ []) ∷ (12 ∷ []) ∷ (11 ∷ []) ∷ (10 ∷ []) ∷ (9 ∷ []) ∷ (8 ∷ []) ∷ (7 ∷ []) ∷
    (6 ∷ []) ∷ (3 ∷ []) ∷ (2 ∷ []) ∷ (1 ∷ []) ∷ (0 ∷ []) ∷ []

pub returns-in-0 : goal.returns-in-0
unfolding action_of
returns-in-0 c = c.row.ensures ∙ at attributes_of c.in-0.is

pub returns-in-1 : goal.returns-in-1
unfolding action_of
returns-in-1 c = c.row-in-1.ensures ∙ at attributes_of c.in-1.is

pub returns-in-2 : goal.returns-in-2
unfolding action_of
returns-in-2 c = c.row-in-2.ensures ∙ at attributes_of c.in-2.is

pub returns-in-3 : goal.returns-in-3
unfolding action_of
returns-in-3 c = c.row-in-3.ensures ∙ at attributes_of c.in-3.is

pub returns-in-6 : goal.returns-in-6
unfolding action_of
returns-in-6 c = c.row-in-6.ensures ∙ at attributes_of c.in-6.is

pub returns-in-7 : goal.returns-in-7
unfolding action_of
returns-in-7 c = c.row-in-7.ensures ∙ at attributes_of c.in-7.is

pub returns-in-8 : goal.returns-in-8
unfolding action_of
returns-in-8 c = c.row-in-8.ensures ∙ at attributes_of c.in-8.is

pub returns-in-9 : goal.returns-in-9
unfolding action_of
returns-in-9 c = c.row-in-9.ensures ∙ at attributes_of c.in-9.is

pub returns-in-10 : goal.returns-in-10
unfolding action_of
returns-in-10 c = c.row-in-10.ensures ∙ at attributes_of c.in-10.is

pub returns-in-11 : goal.returns-in-11
unfolding action_of
returns-in-11 c = c.row-in-11.ensures ∙ at attributes_of c.in-11.is

pub returns-in-12 : goal.returns-in-12
unfolding action_of
returns-in-12 c = c.row-in-12.ensures ∙ at attributes_of c.in-12.is

pub returns-in-13 : goal.returns-in-13
unfolding action_of
returns-in-13 c = c.row-in-13.ensures ∙ at attributes_of c.in-13.is

pub returns-in-14 : goal.returns-in-14
unfolding action_of
returns-in-14 c = c.row-in-14.ensures ∙ at attributes_of c.in-14.is

pub returns-in-15 : goal.returns-in-15
unfolding action_of
returns-in-15 c = c.row-in-15.ensures ∙ at attributes_of c.in-15.is

pub returns-in-16 : goal.returns-in-16
unfolding action_of
returns-in-16 c = c.row-in-16.ensures ∙ at attributes_of c.in-16.is

pub returns-in-17 : goal.returns-in-17
unfolding action_of
returns-in-17 c = c.row-in-17.ensures ∙ at attributes_of c.in-17.is

pub returns-in-18 : goal.returns-in-18
unfolding action_of
returns-in-18 c = c.row-in-18.ensures ∙ at attributes_of c.in-18.is

pub returns-in-19 : goal.returns-in-19
unfolding action_of
returns-in-19 c = c.row-in-19.ensures ∙ at attributes_of c.in-19.is

pub returns-in-20 : goal.returns-in-20
unfolding action_of
returns-in-20 c = c.row-in-20.ensures ∙ at attributes_of c.in-20.is

pub returns-in-21 : goal.returns-in-21
unfolding action_of
returns-in-21 c = c.row-in-21.ensures ∙ at attributes_of c.in-21.is

pub returns-in-22 : goal.returns-in-22
unfolding action_of
returns-in-22 c = c.row-in-22.ensures ∙ at attributes_of c.in-22.is

pub returns-in-23 : goal.returns-in-23
unfolding action_of
returns-in-23 c = c.row-in-23.ensures ∙ at attributes_of c.in-23.is

pub returns-in-24 : goal.returns-in-24
unfolding action_of
returns-in-24 c = c.row-in-24.ensures ∙ at attributes_of c.in-24.is

pub returns-in-25 : goal.returns-in-25
unfolding action_of
returns-in-25 c = c.row-in-25.ensures ∙ at attributes_of c.in-25.is

pub returns-in-26 : goal.returns-in-26
unfolding action_of
returns-in-26 c = c.row-in-26.ensures ∙ at attributes_of c.in-26.is

pub returns-in-27 : goal.returns-in-27
unfolding action_of
returns-in-27 c = c.row-in-27.ensures ∙ at attributes_of c.in-27.is

-- 28 | 30, which share all but the level
pub returns-after-n-eq28 : goal.returns-after-n-eq28
unfolding action_of
returns-after-n-eq28 c =
    c.row-in-28.ensures
    ∙ elim c.if-n-eq28.branch [
      | then-n-eq28 w ↦ rw w.level-is (at attributes_of w.if-n-eq28.true)
      | else-n-eq28 w ↦ rw w.level-is (⊎_elim (λ e. absurd (w.if-n-eq28.false e)) (at attributes_of) c.in-28.is)
    ]

pub returns-in-29 : goal.returns-in-29
unfolding action_of
returns-in-29 c = c.row-in-29.ensures ∙ at attributes_of c.in-29.is

-- 4..=5, which share all but the price
pub returns-after-n-eq4 : goal.returns-after-n-eq4
unfolding action_of arms
returns-after-n-eq4 c =
    let arm = c.in-4-to-5 in
    c.row-in-4-to-5.ensures
    ∙ elim c.if-n-eq4.branch [
      | then-n-eq4 w ↦ rw w.cp-is (at attributes_of w.if-n-eq4.true)
      | else-n-eq4 w ↦
          rw w.cp-is
          (sift same_row same_row_lem attributes_of ((4 ∷ []) ∷ arms) 0 6 tt (arm.in_default-own.rest, w.if-n-eq4.false) zero-le arm.if-n-lt6-own.true)
    ]

pub returns-in-31-to-255 : goal.returns-in-31-to-255
unfolding action_of arms
returns-in-31-to-255 c =
    let arm = c.in-31-to-255 in
    c.row-in-31-to-255.ensures
    ∙ sift same_row same_row_lem attributes_of arms 6 250 tt arm.in_default-own.rest arm.if-n-lt6-own.false c.ranges.n.fits
