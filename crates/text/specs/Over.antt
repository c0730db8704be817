-- Document 01, 'What comes back on refusal': 'a success writes its length and no further'. A text stored in lent room: what every writer leaves.
-- Assumes nothing.
use Rattle.std.specs.Prelude.{◌≡◌, List, ℕ, ◌+◌, length}
use Rattle.std.proofs.lemmas.List.Edits.{sets}

-- `out` with the bytes of `text` stored one after the other from place `at`
unfoldable pub over : List ℕ → ℕ → List ℕ → List ℕ
over out at text = sets out at text

-- what an append leaves: `text` in the room from `at`, and the place after it as the answer
pub record Put (out : List ℕ) (at : ℕ) (text : List ℕ) (r : ℕ) (after : List ℕ) : Type 0 where
  pub next : r ≡ at + length text
  pub same : after ≡ over out at text
