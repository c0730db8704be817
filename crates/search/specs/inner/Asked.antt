-- For the contracts of inner functions: what the tests of a search have shown of what it is asked.
-- Assumes nothing.
use Rattle.std.specs.Prelude.{ℕ, ◌<◌, ◌≤◌, T, List, length, Float}
use Rattle.laws.specs.Floats.{float, one}
use Rattle.craft_context.specs.declared.context.CraftContext.{CraftContext}
use Rattle.craft_context.specs.Limits.{ContextIn}
use Rattle.craft_state.specs.Limits.{step_most}
use Rattle.ucb1.specs.Fair.{between}
use Rattle.search.specs.declared.options.SearchOptions.{SearchOptions}
use Rattle.search.specs.Options.{iterations_most, log_at, is_log}

pub record Asked (c : CraftContext) (o : SearchOptions) (logs : List Float) : Type 0 where
  pub context : ContextIn c
  -- it is a byte
  pub byte : c.step_max ≤ step_most
  pub steps : 0 < c.step_max
  pub iterations : o.iterations ≤ iterations_most
  pub weight : T (between (float 0) o.max_score_weighting_constant one)
  pub exploration : T (between (float 0) o.exploration_constant (float 16))
  pub table : iterations_most ≤ length logs
  pub logs_in : (v : ℕ) → v < iterations_most → T (is_log (log_at logs v))
