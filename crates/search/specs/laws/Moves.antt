-- Moves as sets: they are below 2 ^ 31, and what is in such a set is a known action.
-- Assumes nothing.
use Rattle.std.specs.Prelude.{◌≡◌, ℕ, ◌<◌, Bool, true, false, cond, ◌&&◌}
use Rattle.std.proofs.Common.{sym, ◌∙◌, lt_of_lt_of_le, lt_of_not-le, pow_pos, pow_mono}
use Rattle.laws.specs.Bits.{has}
use Rattle.laws.specs.laws.Bits.{has_high}
use Rattle.laws.specs.laws.Tests.{true_false}
use Rattle.action.specs.Known.{actions}
use Rattle.action_set.specs.Sets.{SetIn, keep_of}
use Rattle.action_set.specs.laws.Sets.{set_inside}
use Rattle.craft_context.specs.declared.context.CraftContext.{CraftContext}
use Rattle.craft_state.specs.declared.state.CraftState.{CraftState}
use Rattle.moves.specs.declared.mode.Mode.{Mode}
use Rattle.moves.specs.Moves.{ended, allows_of, moves_by, moves_of}

pub member_known : (s n : ℕ) → SetIn s → has s n ≡ true → n < actions
member_known s n inside e = lt_of_not-le (λ h. true_false (sym e ∙ has_high s n (lt_of_lt_of_le inside (pow_mono h))))

pub moves_set : (c : CraftContext) (s : CraftState) (mode : Mode) → SetIn (moves_of c s mode)
unfolding moves_by
moves_set c s mode = go (ended c s)
  where
    go : (t : Bool) → SetIn (cond t 0 (keep_of (allows_of c s mode) c.action_pool.0))
    go true = pow_pos actions
    go false = set_inside (λ n. has c.action_pool.0 n && allows_of c s mode n)
