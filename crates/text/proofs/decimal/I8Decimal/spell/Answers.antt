-- `decimal::I8Decimal::spell` meets its contract: each sign has its text.
-- Assumes nothing.
use mathlib.Core.Path.{◌≡◌, ap, subst, ◌∙◌}
use mathlib.Core.List.{List, ◌∷◌}
use Prim.Native.Nat.{ℕ}
use native.Mathlib.Omega.{arith}
use lib.IntN.{nat_abs}
use mir.Syntax.{w8}
use mir.ValLaws.{to_z-of_z}
use Rattle.laws.specs.laws.Sign.{negative, plain}
use Rattle.text.specs.laws.Lengths.{decimal_length}
use Rattle.text.specs.inner.Spelled.{Spelled}
use Rattle.text.proofs.SpelledLaws.{spelled_count, spelled_held, spelled_self, signed_negative, signed_plain}
use Rattle.text.proofs.decimal.I8Decimal.spell.Goals as goal
use Rattle.text.proofs.decimal.I8Decimal.spell.Goals.{After-from}

size : (c : After-from) → c.from.result ≡ nat_abs c.args.self
size c = c.from.ensures ∙ c.unsigned_abs.ensures.value ∙ ap nat_abs (to_z-of_z w8 c.args.self c.ranges.self)

-- 128 at most has three digits
pub minus-requires : goal.minus-requires
minus-requires c =
    let s = c.spell-digits.ensures in
    (omega (arith, spelled_count s, decimal_length 3 c.from.result (omega arith) (omega (arith, c.unsigned_abs.ensures.bound))), spelled_self s)

pub returns-then-self-lt0 : goal.returns-then-self-lt0
returns-then-self-lt0 c =
    let below = negative c.args.self c.ranges.self c.if-self-lt0.true in
    let e = ap (λ (x : List ℕ). 45 ∷ x) (spelled_held c.spell-digits.ensures) ∙ signed_negative below.same (size c.before.before.before) in
    subst (λ (x : List ℕ). Spelled x c.minus.result) e c.minus.ensures

pub returns-else-self-lt0 : goal.returns-else-self-lt0
returns-else-self-lt0 c =
    let above = plain c.args.self c.ranges.self c.if-self-lt0.false in
    subst (λ (x : List ℕ). Spelled x c.spell-digits.result) (signed_plain above.same (size c.before.before)) c.spell-digits.ensures
