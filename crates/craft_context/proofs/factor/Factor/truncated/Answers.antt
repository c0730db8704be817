-- `craft_context::factor::Factor::truncated` meets its contract: the float is within the bounds that its truncation asks.
-- Assumes nothing.
use Rattle.std.proofs.Common.{◌≤◌, ap, ◌∙◌, lt_of_le_of_lt, lit<}
use lib.Ieee.{to_unsigned}
use Rattle.laws.specs.laws.Plus.{Plus}
use Rattle.laws.specs.laws.Small.{Small, above_minus_one, below_pow, truncated_small, truncated_alike}
use Rattle.action.specs.Limits.{factor_most}
use Rattle.craft_context.specs.Factor.{}
use Rattle.craft_context.specs.laws.Factor.{scaled_small, scaled_plus}
use Rattle.craft_context.proofs.factor.Factor.truncated.Goals as goal
use Rattle.craft_context.proofs.factor.Factor.truncated.Goals.{After-exact, After-truncating_f32_to_u64}

-- the float's bound and sign
small : (c : After-exact) → Small c.exact.result factor_most
small c = rw c.exact.ensures (scaled_small c.args.self.bounded c.args.self.scaled)

plus : (c : After-exact) → Plus c.exact.result
plus c = rw c.exact.ensures (scaled_plus _ _ _ _ c.args.self.scaled)

whole : (c : After-truncating_f32_to_u64) → c.truncating_f32_to_u64.result ≤ factor_most
whole c = rw c.truncating_f32_to_u64.ensures (truncated_small 64 c.exact.result factor_most (small (goal.at.After-truncating_f32_to_u64 c).After-exact))

pub truncating_f32_to_u64-requires : goal.truncating_f32_to_u64-requires
truncating_f32_to_u64-requires c =
    record {
      lower_bound = above_minus_one c.exact.result factor_most (plus c) (small c);
      upper_bound = below_pow c.exact.result factor_most 64 (lit< tt) (small c);
    }

pub overflow_cast-result : goal.overflow_cast-result
overflow_cast-result c = record { fits = lt_of_le_of_lt (whole c) (lit< tt) }

pub returns : goal.returns
returns c = (
  c.truncating_f32_to_u64.ensures ∙ truncated_alike 64 32 _ factor_most (lit< tt) (lit< tt) (small (goal.at.returns c).After-exact) ∙ ap (to_unsigned 32) c.exact.ensures,
  whole c,
)
