-- Document 01, "Context": "The pool has actions with level and cp enough (no cost counts 0); TrainedEye also needs player level minus
-- recipe level ≥ 10. A Traited action present removes its untraited twin."
-- Assumes nothing.
use Rattle.std.specs.Prelude.{ℕ, ◌-◌, Bool, cond, not, ◌&&◌, ◌||◌, ◌==◌, nat_le}
use Rattle.action.specs.Actions as A
use Rattle.action.specs.Table.{attributes_of}
use Rattle.action.specs.Price.{affordable}
use Rattle.action_set.specs.Sets.{set_of}
use Rattle.craft_context.specs.declared.sheet.Player.{Player}
use Rattle.craft_context.specs.declared.sheet.Recipe.{Recipe}

-- player level minus recipe level, not below 0
abbrev pub ahead : Player → Recipe → ℕ
ahead player recipe = player.job_level - recipe.job_level

-- level and points are enough, and TrainedEye needs a player ten levels ahead
abbrev pub able : Player → Recipe → ℕ → Bool
able player recipe n =
    nat_le (attributes_of n).level player.job_level
    && (affordable player.cp (attributes_of n).cp_cost && (not (n == A.TrainedEye) || nat_le 10 (ahead player recipe)))

-- the Traited action that takes an action's place, or the action itself
abbrev pub twin_of : ℕ → ℕ
twin_of n =
    cond (n == A.BasicSynthesis) A.BasicSynthesisTraited
    (cond (n == A.CarefulSynthesis) A.CarefulSynthesisTraited
    (cond (n == A.Groundwork) A.GroundworkTraited
    (cond (n == A.DelicateSynthesis) A.DelicateSynthesisTraited n)))

-- able, and not replaced by a Traited twin
abbrev pub in_pool : Player → Recipe → ℕ → Bool
in_pool player recipe n = able player recipe n && (twin_of n == n || not (able player recipe (twin_of n)))

abbrev pub pool_of : Player → Recipe → ℕ
pool_of player recipe = set_of (in_pool player recipe)
