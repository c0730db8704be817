-- Document 01's "Text": the Display line of a state, as the Rust writes it. Each amount and its most, right-aligned in fields that grow.
-- Assumes nothing.
use Rattle.std.specs.Prelude.{List, ◌++◌, ℕ, ℤ}
use Rattle.text.specs.Bytes.{bytes}
use Rattle.text.specs.Decimal.{decimal_of, signed_of, right_of}
use Rattle.craft_context.specs.declared.context.CraftContext.{CraftContext}
use Rattle.craft_state.specs.declared.state.CraftState.{CraftState}

-- by the texts of both numbers
unfoldable pub part_of : ℕ → List ℕ → List ℕ → List ℕ → List ℕ
part_of width part most unit = right_of width part ++ bytes "/" ++ right_of width most ++ unit

abbrev pub share_of : ℕ → ℕ → ℕ → List ℕ → List ℕ
share_of width part most unit = part_of width (decimal_of part) (decimal_of most) unit

abbrev pub signed_share_of : ℕ → ℤ → ℤ → List ℕ → List ℕ
signed_share_of width part most unit = part_of width (signed_of part) (signed_of most) unit

unfoldable pub display_of : CraftContext → CraftState → List ℕ
display_of c s =
    share_of 5 s.progress c.progress_target (bytes " progress | ")
    ++ share_of 5 s.quality c.quality_target (bytes " quality | ")
    ++ signed_share_of 2 s.durability c.durability_max (bytes " durability | ")
    ++ share_of 3 s.cp c.cp_max (bytes " cp")

-- ---- how long they are at most: ten digits to a number, and a sign

abbrev pub share_most : ℕ
share_most = 21

abbrev pub signed_share_most : ℕ
signed_share_most = 23

abbrev pub line_most : ℕ
line_most = 126
