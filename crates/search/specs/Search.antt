-- Document 02, E7: "An iteration that is refused stores nothing, earlier ones stand, and their number is returned; room too short for the path is 6 after them,
-- no path written"; "The number of draws used is reported and equals what the definition consumes, a refused iteration's draws not counted".
-- Assumes nothing.
use Rattle.std.specs.Prelude.{◌≡◌, ℕ, zero, suc, ◌+◌, List, [], ◌∷◌, ◌++◌, length, Float, Result, Ok, Err}
use Rattle.refusal.specs.declared.Refusal.{Refusal}
use Rattle.refusal.specs.declared.Report.{Report}
use Rattle.refusal.specs.Report.{report_of, success}
use Rattle.refusal.specs.Judge.{Test, judged, Checked, pass, room_test}
use Rattle.text.specs.Over.{over}
use Rattle.craft_context.specs.declared.context.CraftContext.{CraftContext}
use Rattle.craft_context.specs.Limits.{context_tests}
use Rattle.craft_state.specs.Start.{start_of}
use Rattle.moves.specs.Moves.{moves_of}
use Rattle.moves.specs.Modes.{plain}
use Rattle.tree.specs.declared.node.Node.{Node}
use Rattle.tree.specs.Tree.{planted_of, solution_of, end_of}
use Rattle.tree.specs.Refusals.{new_count}
use Rattle.search.specs.declared.options.SearchOptions.{SearchOptions}
use Rattle.search.specs.declared.entry.Progress.{Progress}
use Rattle.search.specs.declared.entry.Found.{Found}
use Rattle.search.specs.Options.{search_test}
use Rattle.search.specs.Select.{state_at}
use Rattle.search.specs.Iterate.{Growth, Turn, Goes, Stops, iterate_of}

-- ---- the iterations, one after the other, up to the first that is refused

pub record Outcome : Type 0 where
  pub growth : Growth
  pub iterations : ℕ
  pub checked : Checked

abbrev pub on_turn : {A : Type 0} → (Growth → A) → (Refusal → A) → Turn → A
on_turn goes stops (Goes next) = goes next
on_turn goes stops (Stops x) = stops x

module _ (c : CraftContext) (o : SearchOptions) (logs : List Float) (draws : List ℕ) where
  unfoldable pub grow_from : ℕ → Growth → ℕ → Outcome
  grow_from zero g iterations = record { growth = g; iterations = iterations; checked = pass }
  grow_from (suc left) g iterations =
      on_turn (λ next. grow_from left next (iterations + 1)) (λ x. record { growth = g; iterations = iterations; checked = Err x })
      (iterate_of c o logs draws g)

  -- record 0 has the plain moves of the start
  abbrev pub start_growth : List Node → Growth
  start_growth nodes = record { nodes = planted_of nodes (moves_of c (start_of c) plain); count = new_count; at = 0 }

  abbrev pub grow_of : List Node → Outcome
  grow_of nodes = grow_from o.iterations (start_growth nodes) 0

-- ---- the entry

abbrev pub no_progress : Progress
no_progress = record { iterations = 0; records = 0; draws = 0 }

abbrev pub progress_of : Outcome → Progress
progress_of z = record { iterations = z.iterations; records = z.growth.count; draws = z.growth.at }

-- the path of `solution`, and the state at its last record
abbrev pub path_of : Outcome → List ℕ
path_of z = solution_of z.growth.nodes z.growth.count

abbrev pub found_of : CraftContext → Outcome → Found
found_of c z =
    record {
      path = length (path_of z);
      last = end_of z.growth.nodes z.growth.count;
      state = state_at c z.growth.nodes (end_of z.growth.nodes z.growth.count);
    }

-- refusals 1, 21, and 6 where not even record 0 has room, with so many records: until here nothing is written
abbrev pub early_tests : ℕ → List Float → CraftContext → SearchOptions → List Test
early_tests records logs c o = context_tests c ++ (search_test logs o c.step_max ∷ room_test records new_count ∷ [])

abbrev pub asked_tests : List Node → List Float → CraftContext → SearchOptions → List Test
asked_tests nodes logs c o = early_tests (length nodes) logs c o

-- by what stopped the iterations, and then by the room for the path
abbrev pub settled_by : {A : Type 0} → (Refusal → A) → A → List Test → Checked → A
settled_by refused found room (Ok u) = judged refused found room
settled_by refused found room (Err x) = refused x

abbrev pub path_tests : Outcome → ℕ → List Test
path_tests z room = room_test room (length (path_of z)) ∷ []

-- what was done and found; or a refusal, and what was done before it
abbrev pub Searched : Type 0
Searched = Result (Progress × Found) (Refusal × Progress)

-- the number of a refusal, or 0, and what also comes back
abbrev pub searched_told : Searched → Report
searched_told (Ok p) = success
searched_told (Err p) = report_of p.0

module _ (c : CraftContext) (o : SearchOptions) (logs : List Float) (draws : List ℕ) (nodes : List Node) (out : List ℕ) where
  abbrev grown : Outcome
  grown = grow_of c o logs draws nodes

  abbrev pub searched_of : Searched
  searched_of =
      judged (λ x. Err (x, no_progress))
      (settled_by (λ x. Err (x, progress_of grown)) (Ok (progress_of grown, found_of c grown)) (path_tests grown (length out)) grown.checked)
      (asked_tests nodes logs c o)

  -- the records at exit: what an accepted iteration stored stands
  abbrev pub records_of : List Node
  records_of = judged (λ x. nodes) grown.growth.nodes (asked_tests nodes logs c o)

  -- the room at exit: a path is written by a search that was refused nothing
  abbrev pub room_of : List ℕ
  room_of =
      judged (λ x. out)
      (settled_by (λ x. out) (over out 0 (path_of grown)) (path_tests grown (length out)) grown.checked)
      (asked_tests nodes logs c o)

  pub record Searches (r : Searched) (after : List Node) (written : List ℕ) : Type 0 where
    pub number : searched_told r ≡ searched_told searched_of
    pub same : r ≡ searched_of
    pub records : after ≡ records_of
    pub room : written ≡ room_of
