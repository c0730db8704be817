-- What a search rests on, as facts: a context inside the limits whose step_max is above 0, and options and logarithms that have passed the test of refusal 21.
-- Assumes nothing.
use Rattle.std.specs.Prelude.{◌≡◌, ℕ, zero, suc, ◌<◌, ◌≤◌, true, not, T, List, length, is_nan, nat_le, nat_lt, Float}
use Rattle.std.proofs.Common.{⊎_elim, arith, leb-true, ltb-true}
use Rattle.laws.specs.Floats.{float, one}
use Rattle.laws.specs.laws.Tests.{both}
use Rattle.craft_context.specs.declared.context.CraftContext.{CraftContext}
use Rattle.craft_context.specs.Limits.{ContextIn}
use Rattle.craft_state.specs.Limits.{step_most}
use Rattle.ucb1.specs.Fair.{between}
use Rattle.tree.specs.laws.Node.{holds}
use Rattle.tree.specs.laws.Tree.{last_or_below}
use Rattle.search.specs.declared.options.SearchOptions.{SearchOptions}
pub use Rattle.search.specs.inner.Asked.{Asked}
use Rattle.search.specs.Options.{iterations_most, log_at, is_log, logs_to, are_logs, are_options}

logs_each : (logs : List Float) (n : ℕ) → logs_to n logs ≡ true → (v : ℕ) → v < n → T (is_log (log_at logs v))
unfolding logs_to
logs_each logs zero e v h = absurd (omega arith)
logs_each logs (suc n) e v h =
    let parts = both (logs_to n logs) (is_log (log_at logs n)) e in
    ⊎_elim (λ q. rw q (holds parts.1)) (λ l. logs_each logs n parts.0 v l) (last_or_below v n h)

pub asked : (c : CraftContext) (o : SearchOptions) (logs : List Float) → ContextIn c → c.step_max ≤ step_most → are_options o c.step_max ≡ true
    → are_logs logs ≡ true → Asked c o logs
asked c o logs inside byte e l =
    let steps = both _ (nat_lt 0 c.step_max) e in
    let third = both _ (between (float 0) o.exploration_constant (float 16)) steps.0 in
    let second = both _ (between (float 0) o.max_score_weighting_constant one) third.0 in
    let first = both (nat_le o.iterations iterations_most) (not (is_nan o.score_storage_threshold)) second.0 in
    let table = both (nat_le iterations_most (length logs)) (logs_to iterations_most logs) l in
    record {
      context = inside;
      byte = byte;
      steps = ltb-true 0 c.step_max steps.1;
      iterations = leb-true o.iterations iterations_most first.0;
      weight = holds second.1;
      exploration = holds third.1;
      table = leb-true iterations_most (length logs) table.0;
      logs_in = logs_each logs iterations_most table.1;
    }
