-- Document 01, "The replay program": the "fifteen `CraftContext` fields in order" make a context, "flags 0 or 1, else refusal 1, as for a number too large".
-- Document 02, E1: with it "the position of the first field outside its limit".
-- Assumes nothing.
use Rattle.std.specs.Prelude.{Bool, List, [], ◌∷◌, ℕ, ◌+◌, ◌-◌, ◌^◌, leb, eqb, pos, get_or}
use Rattle.refusal.specs.Judge.{Test}
use Rattle.refusal.specs.Limits.{limit_tests}
use Rattle.craft_context.specs.declared.context.CraftContext.{CraftContext}
use Rattle.action.specs.Limits.{factor_most, target_most}
use Rattle.action_set.specs.Sets.{is_set}
use Rattle.craft_context.specs.Limits.{durable}

-- the greatest number of each type that a field has and its limit does not narrow: u32, u8
abbrev pub word_most : ℕ
word_most = 2 ^ 32 - 1

abbrev pub byte_most : ℕ
byte_most = 255

-- a flag is 0 or 1, and 1 sets it
abbrev pub flag_set : ℕ
flag_set = 1

-- what a field takes: the numbers of its type, and of these the ones inside its limit where it has one
abbrev pub up_to : ℕ → ℕ → Bool
up_to most n = leb n most

abbrev pub takes_durability : ℕ → Bool
takes_durability n = durable (pos n)

-- field by field: two levels, two factors, step_max; progress target, starting quality, quality target; durability, points; is_expert, the pool, and
-- the three other flags
abbrev pub takes : List (ℕ → Bool)
takes =
    up_to word_most ∷
    up_to word_most ∷
    up_to factor_most ∷
    up_to factor_most ∷
    up_to byte_most ∷
    up_to target_most ∷
    up_to target_most ∷
    up_to target_most ∷
    takes_durability ∷
    up_to target_most ∷
    up_to flag_set ∷
    is_set ∷
    up_to flag_set ∷
    up_to flag_set ∷
    up_to flag_set ∷
    []

-- the numbers from place k on, by whether each field takes its own
abbrev pub taken_from : ℕ → List (ℕ → Bool) → List ℕ → List Bool
taken_from k [] values = []
taken_from k (field ∷ more) values = field (get_or values k 0) ∷ taken_from (k + 1) more values

abbrev pub number_limits : List ℕ → List Bool
number_limits values = taken_from 0 takes values

-- refusal 1, with the place of the first field that does not take its number, whether it can't hold it or has a limit below it
abbrev pub number_tests : List ℕ → List Test
number_tests values = limit_tests (number_limits values)

unfoldable pub context_of : List ℕ → CraftContext
context_of values =
    record {
      player_job_level = get_or values 0 0;
      recipe_job_level = get_or values 1 0;
      base_progress_factor = get_or values 2 0;
      base_quality_factor = get_or values 3 0;
      step_max = get_or values 4 0;
      progress_target = get_or values 5 0;
      starting_quality = get_or values 6 0;
      quality_target = get_or values 7 0;
      durability_max = pos (get_or values 8 0);
      cp_max = get_or values 9 0;
      is_expert = eqb (get_or values 10 0) flag_set;
      action_pool = record { 0 = get_or values 11 0 };
      player_is_specialist = eqb (get_or values 12 0) flag_set;
      use_manipulation = eqb (get_or values 13 0) flag_set;
      use_delineation = eqb (get_or values 14 0) flag_set;
    }
