-- How long a state's line is, whatever its numbers, and worked lines.
-- Assumes nothing.
use Rattle.std.specs.Prelude.{◌≡◌, refl, List, ℕ, ◌+◌, ◌≤◌, ℤ, pos, negsuc, length}
use Rattle.std.proofs.Common.{arith, length-append}
use Rattle.text.specs.Bytes.{bytes}
use Rattle.text.specs.Decimal.{decimal_of, signed_of, right_of}
use Rattle.text.specs.laws.Lengths.{decimal_most, signed_most, right_length}
use Rattle.craft_context.specs.declared.context.CraftContext.{CraftContext}
use Rattle.craft_state.specs.declared.state.CraftState.{CraftState}
use Rattle.craft_state.specs.Line.{part_of, share_of, signed_share_of, share_most, signed_share_most, display_of, line_most}

right_most : (w : ℕ) (text : List ℕ) {most : ℕ} → w ≤ 10 → 10 ≤ most → length text ≤ most → length (right_of w text) ≤ most
right_most w text a b h = omega (arith, right_length w text)

share_short : (w part most : ℕ) (unit : List ℕ) → w ≤ 10 → length (share_of w part most unit) ≤ share_most + length unit
unfolding part_of
share_short w part most unit h =
    simp length-append
    (omega (
      arith,
      right_most w (decimal_of part) h (omega arith) (decimal_most part),
      right_most w (decimal_of most) h (omega arith) (decimal_most most),
    ))

signed_share_short : (w : ℕ) (part most : ℤ) (unit : List ℕ) → w ≤ 10 → length (signed_share_of w part most unit) ≤ signed_share_most + length unit
unfolding part_of
signed_share_short w part most unit h =
    simp length-append
    (omega (
      arith,
      right_most w (signed_of part) h (omega arith) (signed_most part),
      right_most w (signed_of most) h (omega arith) (signed_most most),
    ))

pub line_short : (c : CraftContext) (s : CraftState) → length (display_of c s) ≤ line_most
unfolding display_of
line_short c s =
    simp length-append
    (omega (
      arith,
      share_short 5 s.progress c.progress_target (bytes " progress | ") (omega arith),
      share_short 5 s.quality c.quality_target (bytes " quality | ") (omega arith),
      signed_share_short 2 s.durability c.durability_max (bytes " durability | ") (omega arith),
      share_short 3 s.cp c.cp_max (bytes " cp") (omega arith),
    ))

-- ---- worked: a field that is not filled, one that grows, and a negative durability

worked : (share_of 5 150 200 (bytes " progress | ") ≡ bytes "  150/  200 progress | ")
    × (share_of 5 16777216 1000000 (bytes " quality | ") ≡ bytes "16777216/1000000 quality | ")
    × (signed_share_of 2 (negsuc 18) (pos 97) (bytes " durability | ") ≡ bytes "-19/97 durability | ")
    × (signed_share_of 2 (pos 5) (pos 40) (bytes " durability | ") ≡ bytes " 5/40 durability | ")
    × (share_of 3 82 100 (bytes " cp") ≡ bytes " 82/100 cp")
unfolding part_of right_of decimal_of signed_of
worked = (refl, refl, refl, refl, refl)
