-- Document 02, E7: "At most 4,096 iterations, .. and step_max above 0"; "21 a logarithm of 1 to 4,096 visits missing or outside 0..=17, w outside 0..=1, c
-- outside 0..=16, a NaN threshold, step_max 0, or too many iterations". IEEE 754's order lets minus zero in as a zero.
-- Assumes nothing.
use Rattle.std.specs.Prelude.{ℕ, zero, suc, Bool, true, not, ◌&&◌, List, length, is_nan, nat_le, nat_lt, slice_index_or, Float}
use Rattle.std.specs.Float.{nan}
use Rattle.laws.specs.Floats.{float, one}
use Rattle.refusal.specs.Judge.{Test}
use Rattle.refusal.specs.declared.Refusal.TheVariants.{BadSearch}
use Rattle.ucb1.specs.Fair.{between}
use Rattle.search.specs.declared.options.SearchOptions.{SearchOptions}

-- so many iterations, and so a record has at most as many visits
abbrev pub iterations_most : ℕ
iterations_most = 4096

-- ---- the table of logarithms: number v - 1 for v visits

abbrev pub log_at : List Float → ℕ → Float
log_at logs v = slice_index_or logs v nan

abbrev pub is_log : Float → Bool
is_log ln = between (float 0) ln (float 17)

-- the first n
unfoldable pub logs_to : ℕ → List Float → Bool
logs_to zero logs = true
logs_to (suc v) logs = logs_to v logs && is_log (log_at logs v)

-- more than those for the most visits are not read
abbrev pub are_logs : List Float → Bool
are_logs logs = nat_le iterations_most (length logs) && logs_to iterations_most logs

-- ---- the options

abbrev pub are_options : SearchOptions → ℕ → Bool
are_options o stepMax =
    (((nat_le o.iterations iterations_most && not (is_nan o.score_storage_threshold))
    && between (float 0) o.max_score_weighting_constant one)
    && between (float 0) o.exploration_constant (float 16))
    && nat_lt 0 stepMax

abbrev pub search_test : List Float → SearchOptions → ℕ → Test
search_test logs o stepMax = record { passed = are_options o stepMax && are_logs logs; otherwise = BadSearch }
