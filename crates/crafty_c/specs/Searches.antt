-- Document 02, E7, for hosts: what the search answers, of a context given by its numbers, and what the records and the room for the path hold then. As its
-- entry in search, told in numbers: "An iteration that is refused stores nothing, earlier ones stand, and their number is returned".
-- Assumes nothing.
use Rattle.std.specs.Prelude.{◌≡◌, List, ◌++◌, ℕ, Float, Ok, Err}
use Rattle.refusal.specs.declared.Refusal.{Refusal}
use Rattle.refusal.specs.declared.Report.{Report}
use Rattle.refusal.specs.Report.{report_of}
use Rattle.refusal.specs.Judge.{Test, judged}
use Rattle.craft_context.specs.declared.context.CraftContext.{CraftContext}
use Rattle.context_line.specs.Fields.{context_of, number_tests}
use Rattle.craft_state.specs.Start.{start_of}
use Rattle.tree.specs.declared.node.Node.{Node}
use Rattle.search.specs.declared.options.SearchOptions.{SearchOptions}
use Rattle.search.specs.declared.entry.Progress.{Progress}
use Rattle.search.specs.declared.entry.Found.{Found}
use Rattle.search.specs.Search.{no_progress, asked_tests, Searched, searched_told, searched_of, records_of, room_of}
use Rattle.crafty_c.specs.declared.numbers.CraftyState.{CraftyState}
use Rattle.crafty_c.specs.declared.searches.CraftyFound.{CraftyFound}
use Rattle.crafty_c.specs.Answer.{refused_of, report_in}
use Rattle.crafty_c.specs.Numbers.{state_of, no_state}

-- ---- the answer in numbers

-- a refusal tells no path and no last node
abbrev pub stopped_of : Refusal → Progress → CraftyState → CraftyFound
stopped_of x progress state =
    record {
      number = (refused_of x).number;
      iterations = progress.iterations;
      value = (refused_of x).value;
      records = progress.records;
      draws = progress.draws;
      path = 0;
      node = 0;
      state = state;
    }

-- where there is no context to start from, all is 0
abbrev pub outside_of : Refusal → CraftyFound
outside_of x = stopped_of x no_progress no_state

-- the path's length, its last node, and the state there
abbrev pub found_at : Progress → Found → CraftyFound
found_at progress found =
    record {
      number = 0;
      iterations = progress.iterations;
      value = 0;
      records = progress.records;
      draws = progress.draws;
      path = found.path;
      node = found.last;
      state = state_of found.state;
    }

-- the state of a refusal is the start's
abbrev pub told_of : CraftContext → Searched → CraftyFound
told_of c (Ok done) = found_at done.0 done.1
told_of c (Err done) = stopped_of done.0 done.1 (state_of (start_of c))

-- the number and value, read off it
abbrev pub found_told : CraftyFound → Report
found_told f = report_in (record { number = f.number; value = f.value })

-- ---- refusal 1 for a number that does not fit its field or is outside its limit, and then as the search answers

-- until here nothing is written
abbrev pub first_tests : List ℕ → SearchOptions → List Float → List Node → List Test
first_tests values o logs nodes = number_tests values ++ asked_tests nodes logs (context_of values) o

module _ (values : List ℕ) (o : SearchOptions) (logs : List Float) (draws : List ℕ) (nodes : List Node) (out : List ℕ) where
  abbrev context : CraftContext
  context = context_of values

  pub record TellsSearched (r : CraftyFound) (after : List Node) (written : List ℕ) : Type 0 where
    pub number : found_told r ≡ judged report_of (searched_told (searched_of context o logs draws nodes out)) (number_tests values)
    pub same : r ≡ judged outside_of (told_of context (searched_of context o logs draws nodes out)) (number_tests values)
    pub records : after ≡ judged (λ x. nodes) (records_of context o logs draws nodes out) (number_tests values)
    pub room : written ≡ judged (λ x. out) (room_of context o logs draws nodes out) (number_tests values)
