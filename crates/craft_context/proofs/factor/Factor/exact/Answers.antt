-- `craft_context::factor::Factor::exact` meets its contract.
-- Assumes nothing.
use Rattle.laws.specs.laws.Floats.{hundred_bits}
use Rattle.craft_context.proofs.factor.Factor.exact.Goals as goal

pub returns-then-self : goal.returns-then-self
returns-then-self c = simp (c.if-self.true, c.nearest_u32_to_f32.ensures, hundred_bits, c.base-whole.ensures)
