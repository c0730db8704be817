-- `action::texts::put_wait` meets its contract.
-- Assumes nothing.
use mathlib.Core.Path.{◌≡◌, ap, ◌∙◌}
use mathlib.Core.List.{[], ◌∷◌}
use Prim.Native.Nat.{ℕ, ◌+◌}
use Rattle.text.specs.laws.Over.{then, put_as}
use Rattle.action.specs.Wait.{wait_of}
use Rattle.action.specs.Table.{attributes_of}
use Rattle.action.proofs.texts.put_wait.Goals as goal
use Rattle.action.proofs.texts.put_wait.Goals.{After-wait-seconds}

-- the digit is the action's
digit : (c : After-wait-seconds) → (48 + c.wait-seconds.result) ∷ [] ≡ (48 + wait_of (attributes_of c.args.n)) ∷ []
digit c = ap (λ (s : ℕ). (48 + s) ∷ []) (c.wait-seconds.ensures.0 ∙ ap wait_of c.attributes_of.ensures)

pub returns : goal.returns
returns c = then c.put-digit.ensures (then (put_as (digit (goal.at.returns c).After-wait-seconds) c.put_byte-end.ensures) c.put_byte.ensures)
