-- Values of ucb1 worked out from the definitions: the bits are those that the Rust expression of simulator.rs answers.
-- Assumes nothing.
use Rattle.std.specs.Prelude.{◌≡◌, refl, List, [], ◌∷◌, map, ℕ}
use Rattle.std.specs.Int.Count.{count_leading_zeros, count_trailing_zeros}
use Rattle.std.specs.Float.{binary32}
use Rattle.std.specs.Float.Ieee.{of_bits, to_bits, of_int, add, sub, mul, div, neg}
use Rattle.sqrt.specs.Sqrt.{root_down, root_near, shift, root_of, root_bits, sqrt_of}
use Rattle.ucb1.specs.Ucb1.{ucb1_of}

pub record Row : Type 0 where
  pub w : ℕ
  pub c : ℕ
  pub ln : ℕ
  pub visits : ℕ
  pub sum : ℕ
  pub maximum : ℕ
  pub answer : ℕ

abbrev row : ℕ → ℕ → ℕ → ℕ → ℕ → ℕ → ℕ → Row
row w c ln visits sum maximum answer = record { w = w; c = c; ln = ln; visits = visits; sum = sum; maximum = maximum; answer = answer }

abbrev worked : Row → ℕ
worked r =
    to_bits binary32
    (ucb1_of (of_bits binary32 r.w) (of_bits binary32 r.c) (of_bits binary32 r.ln) (of_bits binary32 r.visits) (of_bits binary32 r.sum)
    (of_bits binary32 r.maximum))

abbrev table : List Row
table =
    -- w 0.1 and c 1.5, as the Rust has them where none are given: of 100 visits 7 with 2.5, the best 0.9; of 4,096 the first, 0.613
    row 0x3dcc_cccd 0x3fc0_0000 0x4093_5d8e 0x40e0_0000 0x4020_0000 0x3f66_6666 0x3fb3_d112
    ∷ row 0x3dcc_cccd 0x3fc0_0000 0x4105_1592 0x3f80_0000 0x3f1c_ed91 0x3f1c_ed91 0x4084_a5ba
    -- w 0.3 and c 4: of 1,000 visits 333 with -12.75, the best 0.05
    ∷ row 0x3e99_999a 0x4080_0000 0x40dd_0c55 0x43a6_8000 0xc14c_0000 0x3d4c_cccd 0x3e8d_7124
    -- all as large as may be: 17.49; and all as small: -1
    ∷ row 0x3f80_0000 0x4180_0000 0x4188_0000 0x3f80_0000 0x3f80_0000 0x3f80_0000 0x418b_f07b
    ∷ row 0x0000_0000 0x0000_0000 0x0000_0000 0x4040_0000 0xc040_0000 0x0000_0000 0xbf80_0000
    -- w, c and the sum are minus zero, and so is the answer; c alone is: 0.2, nothing explored
    ∷ row 0x8000_0000 0x8000_0000 0x3f80_0000 0x4000_0000 0x8000_0000 0x0000_0000 0x8000_0000
    ∷ row 0x0000_0000 0x8000_0000 0x4188_0000 0x40a0_0000 0x3f80_0000 0x0000_0000 0x3e4c_cccd
    ∷ []

pub table_right : map worked table ≡ map (λ (r : Row). r.answer) table
unfolding of_bits to_bits of_int add sub mul div neg sqrt_of root_bits root_of shift root_near root_down count_leading_zeros count_trailing_zeros
table_right = refl
