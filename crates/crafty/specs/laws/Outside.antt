-- Document 02, E1: of each public entry that can refuse by 1, every answer that is told by 1 is told with the place of the first field outside its limit.
-- A line to each entry, named after it: the general law, of its fields in their order, and of the other tests before and after them.
-- Assumes nothing.
use Rattle.std.specs.Prelude.{refl, List, [], ◌∷◌, ◌++◌, ℕ, ◌+◌, Float, length}
use Rattle.refusal.specs.Judge.{Kind, Says, answering, size_test, room_test}
use Rattle.refusal.specs.Demands.{TellsFirst, TellsFirstBeside}
use Rattle.refusal.specs.laws.Limits.{tells_first}
use Rattle.action.specs.Known.{action_test, list_test}
use Rattle.rotation.specs.Words.{words_test}
use Rattle.action_set.specs.Sets.{set_limits, size_of}
use Rattle.action_set.specs.Entries.{ChecksSet, FromBits, Contains, Added, Removed, Len, IsEmpty, HighestIs, Members}
use Rattle.craft_context.specs.declared.context.CraftContext.{CraftContext}
use Rattle.craft_context.specs.declared.sheet.Player.{Player}
use Rattle.craft_context.specs.declared.sheet.Recipe.{Recipe}
use Rattle.craft_context.specs.declared.sheet.CraftOptions.{CraftOptions}
use Rattle.craft_context.specs.Limits.{context_limits, ChecksContext}
use Rattle.craft_context.specs.Build.{builder_limits, New}
use Rattle.craft_context.specs.laws.Limits.{context_first_lem}
use Rattle.craft_context.specs.laws.Build.{builder_first}
use Rattle.craft_state.specs.declared.state.CraftState.{CraftState}
use Rattle.craft_state.specs.Limits.{state_test, given_tests, ChecksState}
use Rattle.craft_state.specs.Line.{display_of}
use Rattle.craft_state.specs.Start.{Start}
use Rattle.context_line.specs.Shape.{line_end, line_test, numbers_of}
use Rattle.context_line.specs.Fields.{number_limits}
use Rattle.moves.specs.declared.mode.Mode.{Mode}
use Rattle.tree.specs.declared.node.Node.{Node}
use Rattle.tree.specs.Refusals.{new_count, tree_test, node_test, new_tests, insert_tests}
use Rattle.tree.specs.Grow.{Plants, Inserts}
use Rattle.search.specs.declared.options.SearchOptions.{SearchOptions}
use Rattle.search.specs.Search.{searched_told, Searches}
use Rattle.search.specs.Demands.{TellsFirstBesides}
use Rattle.search.specs.laws.Demands.{search_first}
use Rattle.crafty.specs.States.{legal_test, HasMoves, Steps, HasResult, HasScore, HasLine}
use Rattle.crafty.specs.Replays.{Replays}
use Rattle.crafty.specs.Program.{line_in, words_in, end_test, input_tests, replay_text_of, ReplaysText}

-- ---- sets: one field, and so the place 0

pub outside-ActionSet-check : (bits : ℕ) → TellsFirst answering.told (set_limits bits) (ChecksSet bits)
outside-ActionSet-check bits = tells_first [] (set_limits bits) [] refl refl

pub outside-ActionSet-from-bits : (bits : ℕ) → TellsFirst answering.told (set_limits bits) (FromBits bits)
outside-ActionSet-from-bits bits = tells_first [] (set_limits bits) [] refl refl

pub outside-ActionSet-contains : (bits n : ℕ) → TellsFirst answering.told (set_limits bits) (Contains bits n)
outside-ActionSet-contains bits n = tells_first [] (set_limits bits) (action_test n ∷ []) refl refl

pub outside-ActionSet-set : (bits n : ℕ) → TellsFirst answering.told (set_limits bits) (Added bits n)
outside-ActionSet-set bits n = tells_first [] (set_limits bits) (action_test n ∷ []) refl refl

pub outside-ActionSet-unset : (bits n : ℕ) → TellsFirst answering.told (set_limits bits) (Removed bits n)
outside-ActionSet-unset bits n = tells_first [] (set_limits bits) (action_test n ∷ []) refl refl

pub outside-ActionSet-len : (bits : ℕ) → TellsFirst answering.told (set_limits bits) (Len bits)
outside-ActionSet-len bits = tells_first [] (set_limits bits) [] refl refl

pub outside-ActionSet-is-empty : (bits : ℕ) → TellsFirst answering.told (set_limits bits) (IsEmpty bits)
outside-ActionSet-is-empty bits = tells_first [] (set_limits bits) [] refl refl

pub outside-ActionSet-highest : (bits : ℕ) → TellsFirst answering.told (set_limits bits) (HighestIs bits)
outside-ActionSet-highest bits = tells_first [] (set_limits bits) [] refl refl

pub outside-ActionSet-members : (bits : ℕ) (out : List ℕ) → TellsFirstBeside answering.told (set_limits bits) (Members bits out)
outside-ActionSet-members bits out after r s =
    tells_first [] (set_limits bits) (room_test (length out) (size_of bits) ∷ []) refl refl r s.says

-- ---- contexts

pub outside-CraftContext-new : (player : Player) (recipe : Recipe) (options : CraftOptions)
    → TellsFirst answering.told (builder_limits player recipe options) (New player recipe options)
outside-CraftContext-new = builder_first

pub outside-CraftContext-check : (context : CraftContext) → TellsFirst answering.told (context_limits context) (ChecksContext context)
outside-CraftContext-check = context_first_lem

pub outside-CraftState-new : (context : CraftContext) → TellsFirst answering.told (context_limits context) (Start context)
outside-CraftState-new context = tells_first [] (context_limits context) [] refl refl

-- ---- a context and a state in it

given_first : (context : CraftContext) (state : CraftState) {A : Type 0} {kind : Kind A} {answer : A}
    → TellsFirst kind.told (context_limits context) (Says kind (given_tests context state) answer)
given_first context state = tells_first [] (context_limits context) (state_test context state ∷ []) refl refl

pub outside-CraftState-check : (context : CraftContext) (state : CraftState)
    → TellsFirst answering.told (context_limits context) (ChecksState context state)
outside-CraftState-check context state = given_first context state

pub outside_moves : (context : CraftContext) (state : CraftState) (mode : Mode)
    → TellsFirst answering.told (context_limits context) (HasMoves context state mode)
outside_moves context state mode = given_first context state

pub outside_step : (context : CraftContext) (state : CraftState) (mode : Mode) (n : ℕ)
    → TellsFirst answering.told (context_limits context) (Steps context state mode n)
outside_step context state mode n =
    tells_first [] (context_limits context) (state_test context state ∷ action_test n ∷ legal_test context state mode n ∷ []) refl refl

pub outside_result : (context : CraftContext) (state : CraftState) (mode : Mode)
    → TellsFirst answering.told (context_limits context) (HasResult context state mode)
outside_result context state mode r s = given_first context state r s.says

pub outside_score : (context : CraftContext) (state : CraftState) → TellsFirst answering.told (context_limits context) (HasScore context state)
outside_score context state r s = given_first context state r s.0

pub outside_display : (context : CraftContext) (state : CraftState) (out : List ℕ)
    → TellsFirstBeside answering.told (context_limits context) (HasLine context state out)
outside_display context state out after r s =
    let room = room_test (length out) (length (display_of context state)) in
    tells_first [] (context_limits context) (state_test context state ∷ room ∷ []) refl refl r s.says

-- ---- replays

pub outside_replay : (context : CraftContext) (mode : Mode) (list : List ℕ) → TellsFirst answering.told (context_limits context) (Replays context mode list)
outside_replay context mode list r s = tells_first [] (context_limits context) (list_test list ∷ []) refl refl r s.says

-- an input of the program, for an entry of any kind that has so much room
pub text_first : (input : List ℕ) (room needed : ℕ) {A : Type 0} {kind : Kind A} {answer : A}
    → TellsFirst kind.told (number_limits (numbers_of (line_in input))) (Says kind (input_tests input ++ (room_test room needed ∷ [])) answer)
text_first input room needed =
    tells_first (size_test (length input) ∷ end_test input ∷ line_test (line_in input) ∷ []) (number_limits (numbers_of (line_in input)))
    (words_test (line_end input + 1) (words_in input) ∷ room_test room needed ∷ []) refl refl

pub outside_replay_text : (input out : List ℕ) → TellsFirstBeside answering.told (number_limits (numbers_of (line_in input))) (ReplaysText input out)
outside_replay_text input out after r s = text_first input (length out) (length (replay_text_of input)) r s.says

-- ---- the tree, which is given sets, and the search; for an entry of any kind

pub planted_first : (nodes : List Node) (unused : ℕ) {A : Type 0} {kind : Kind A} {answer : A}
    → TellsFirst kind.told (set_limits unused) (Says kind (new_tests nodes unused) answer)
planted_first nodes unused = tells_first [] (set_limits unused) (room_test (length nodes) new_count ∷ []) refl refl

pub outside_plant : (nodes : List Node) (unused : ℕ) → TellsFirstBeside answering.told (set_limits unused) (Plants nodes unused)
outside_plant nodes unused after r s = planted_first nodes unused r s.says

pub inserted_first : (nodes : List Node) (count parent action unused : ℕ) {A : Type 0} {kind : Kind A} {answer : A}
    → TellsFirst kind.told (set_limits unused) (Says kind (insert_tests nodes count parent action unused) answer)
inserted_first nodes count parent action unused =
    let later = tree_test nodes count ∷ node_test count parent ∷ room_test (length nodes) (count + 1) ∷ [] in
    tells_first [] (set_limits unused) (action_test action ∷ later) refl refl

pub outside_insert : (nodes : List Node) (count parent action unused : ℕ)
    → TellsFirstBeside answering.told (set_limits unused) (Inserts nodes count parent action unused)
outside_insert nodes count parent action unused after r s = inserted_first nodes count parent action unused r s.says

pub outside_search : (context : CraftContext) (options : SearchOptions) (logs : List Float) (draws : List ℕ) (nodes : List Node) (out : List ℕ)
    → TellsFirstBesides searched_told (context_limits context) (Searches context options logs draws nodes out)
outside_search = search_first
