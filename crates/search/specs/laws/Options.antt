-- Laws of what a search is asked for: the table of logarithms number by number, and what a test that passed has shown.
-- Assumes nothing.
use Rattle.std.specs.Prelude.{◌≡◌, ℕ, zero, suc, ◌+◌, ◌<◌, ◌≤◌, Bool, true, false, not, ◌&&◌, T, List, length, pos, nat_le, refl, Float}
use Rattle.std.proofs.Common.{sym, ◌∙◌, ⊎_elim, add-one, arith, lit<, le-leb, eq-eqb}
use Rattle.std.specs.Float.{nan, inf, fin}
use Rattle.std.specs.Float.Ieee.{is_nan, eq, le, lt}
use Rattle.std.proofs.lemmas.Bool.{lt-leb}
use Rattle.laws.specs.laws.Small.{below_pow}
use Rattle.laws.specs.laws.Tests.{both, and_both, and_left}
use Rattle.tree.specs.Node.{plus_zero, visits_most, count_most}
use Rattle.tree.specs.Sound.{is_count}
use Rattle.tree.specs.laws.Float.{zero_above, count_small}
use Rattle.tree.specs.laws.Node.{holds}
use Rattle.tree.specs.laws.Tree.{last_or_below}
use Rattle.search.specs.Options.{iterations_most, log_at, is_log, logs_to, are_logs}

-- ---- the table, for the loop that tests it

pub logs_start : (logs : List Float) → logs_to 0 logs ≡ true
unfolding logs_to
logs_start logs = refl

pub logs_next : (v : ℕ) (logs : List Float) → logs_to v logs ≡ true → is_log (log_at logs v) ≡ true → logs_to (v + 1) logs ≡ true
unfolding logs_to
logs_next v logs before here = rw (add-one v) (and_both before here)

pub logs_each : (m : ℕ) (logs : List Float) → logs_to m logs ≡ true → (v : ℕ) → v < m → is_log (log_at logs v) ≡ true
unfolding logs_to
logs_each zero logs e v h = absurd (omega arith)
logs_each (suc m) logs e v h =
    ⊎_elim (λ q. rw q (both (logs_to m logs) _ e).1) (λ l. logs_each m logs (both (logs_to m logs) _ e).0 v l) (last_or_below v m h)

pub logs_short : (logs : List Float) → length logs < iterations_most → false ≡ are_logs logs
logs_short logs h = rw (lt-leb iterations_most (length logs) h)

pub logs_none : (logs : List Float) (v : ℕ) → v < iterations_most → is_log (log_at logs v) ≡ false → false ≡ are_logs logs
logs_none logs v h e = go (are_logs logs) refl
  where
    go : (t : Bool) → are_logs logs ≡ t → false ≡ t
    go false q = refl
    go true q = sym e ∙ logs_each iterations_most logs (both (nat_le iterations_most (length logs)) _ q).1 v h

pub logs_all : (logs : List Float) → iterations_most ≤ length logs → logs_to iterations_most logs ≡ true → true ≡ are_logs logs
logs_all logs room all = sym (and_both (le-leb iterations_most (length logs) room) all)

-- ---- of numbers a NaN alone is not equal to itself

pub eq_number : (x : Float) → eq x x ≡ not (is_nan x)
unfolding eq is_nan
eq_number nan = refl
eq_number (inf true) = refl
eq_number (inf false) = refl
eq_number (fin true m e) = rw (eq-eqb _ _ refl)
eq_number (fin false m e) = rw (eq-eqb _ _ refl)

-- ---- visits can be cut to a whole number

pub count_cuts : (v : Float) → is_count v ≡ true → T (lt (fin true 1 (pos 0)) v) × T (lt v (fin false 1 (pos 64)))
unfolding is_count
count_cuts v e =
    let inside : T (le plus_zero v && le v visits_most) = holds (both (le plus_zero v && le v visits_most) _ e).0 in
    (zero_above v (and_left (le plus_zero v) _ inside), below_pow v count_most 64 (lit< tt) (count_small v inside))
