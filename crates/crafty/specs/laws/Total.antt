-- Total and refusing: for each public entry that can refuse, every answer that meets its statement is told by 0 or by one of these numbers,
-- in the order of its tests; and where it is not 0, what was lent is as it was. Which test it is, and that those before it passed: `total_refusing`.
-- A line to each entry, named after it: the general law, by which the numbers are computed from the entry's tests.
-- Assumes nothing.
use Rattle.std.specs.Prelude.{List, [], ◌∷◌, ℕ, Float, Option}
use Rattle.refusal.specs.Judge.{answering}
use Rattle.refusal.specs.Demands.{Refuses, RefusesWhole}
use Rattle.refusal.specs.laws.Demands.{says_refuses, writes_refuses}
use Rattle.action.specs.declared.price.Combo.{Combo}
use Rattle.action.specs.declared.texts.Text.TheVariants as T
use Rattle.action_set.specs.Entries.{ChecksSet, FromBits, FromList, Contains, Added, Removed, Len, IsEmpty, HighestIs, Members}
use Rattle.craft_context.specs.declared.context.CraftContext.{CraftContext}
use Rattle.craft_context.specs.declared.sheet.Player.{Player}
use Rattle.craft_context.specs.declared.sheet.Recipe.{Recipe}
use Rattle.craft_context.specs.declared.sheet.CraftOptions.{CraftOptions}
use Rattle.craft_context.specs.Limits.{ChecksContext}
use Rattle.craft_context.specs.Build.{New}
use Rattle.craft_state.specs.declared.state.CraftState.{CraftState}
use Rattle.craft_state.specs.Limits.{ChecksState}
use Rattle.craft_state.specs.Start.{Start}
use Rattle.moves.specs.declared.mode.Mode.{Mode}
use Rattle.tree.specs.declared.node.Node.{Node}
use Rattle.tree.specs.Grow.{Plants, Inserts, Looks}
use Rattle.tree.specs.laws.Grow.{changes_refuses}
use Rattle.tree.specs.Back.{Propagates}
use Rattle.tree.specs.Paths.{Lists, Solves}
use Rattle.search.specs.declared.options.SearchOptions.{SearchOptions}
use Rattle.search.specs.Search.{asked_tests, searched_told, Searches}
use Rattle.search.specs.Demands.{RefusesInPart}
use Rattle.search.specs.laws.Demands.{search_refuses}
use Rattle.crafty.specs.Actions.{HasAttributes, HasPrice, HasWait, HasText, FromName}
use Rattle.crafty.specs.States.{HasMoves, Steps, HasResult, HasScore, HasLine}
use Rattle.crafty.specs.Replays.{Replays}
use Rattle.crafty.specs.Lists.{ReadsList, WritesList, Lasts}
use Rattle.crafty.specs.Program.{ReplaysText, Prints}

-- ---- actions

pub total_attributes : (n : ℕ) → Refuses answering (3 ∷ []) (HasAttributes n)
total_attributes n = says_refuses

pub total_price : (n : ℕ) (combo : Option Combo) → Refuses answering (3 ∷ []) (HasPrice n combo)
total_price n combo = says_refuses

pub total_wait : (n : ℕ) → Refuses answering (3 ∷ []) (HasWait n)
total_wait n = says_refuses

pub total_name : (n : ℕ) (out : List ℕ) → RefusesWhole answering (3 ∷ 6 ∷ []) out (HasText T.Name n out)
total_name n out = writes_refuses

pub total_label : (n : ℕ) (out : List ℕ) → RefusesWhole answering (3 ∷ 6 ∷ []) out (HasText T.Label n out)
total_label n out = writes_refuses

pub total_macro_text : (n : ℕ) (out : List ℕ) → RefusesWhole answering (3 ∷ 6 ∷ []) out (HasText T.Macro n out)
total_macro_text n out = writes_refuses

pub total_from_name : (word : List ℕ) → Refuses answering (5 ∷ []) (FromName word)
total_from_name word = says_refuses

-- ---- sets

pub total-ActionSet-check : (bits : ℕ) → Refuses answering (1 ∷ []) (ChecksSet bits)
total-ActionSet-check bits = says_refuses

pub total-ActionSet-from-bits : (bits : ℕ) → Refuses answering (1 ∷ []) (FromBits bits)
total-ActionSet-from-bits bits = says_refuses

pub total-ActionSet-from-list : (list : List ℕ) → Refuses answering (3 ∷ []) (FromList list)
total-ActionSet-from-list xs = says_refuses

pub total-ActionSet-contains : (bits n : ℕ) → Refuses answering (1 ∷ 3 ∷ []) (Contains bits n)
total-ActionSet-contains bits n = says_refuses

pub total-ActionSet-set : (bits n : ℕ) → Refuses answering (1 ∷ 3 ∷ []) (Added bits n)
total-ActionSet-set bits n = says_refuses

pub total-ActionSet-unset : (bits n : ℕ) → Refuses answering (1 ∷ 3 ∷ []) (Removed bits n)
total-ActionSet-unset bits n = says_refuses

pub total-ActionSet-len : (bits : ℕ) → Refuses answering (1 ∷ []) (Len bits)
total-ActionSet-len bits = says_refuses

pub total-ActionSet-is-empty : (bits : ℕ) → Refuses answering (1 ∷ []) (IsEmpty bits)
total-ActionSet-is-empty bits = says_refuses

pub total-ActionSet-highest : (bits : ℕ) → Refuses answering (1 ∷ []) (HighestIs bits)
total-ActionSet-highest bits = says_refuses

pub total-ActionSet-members : (bits : ℕ) (out : List ℕ) → RefusesWhole answering (1 ∷ 6 ∷ []) out (Members bits out)
total-ActionSet-members bits out = writes_refuses

-- ---- contexts and states

pub total-CraftContext-new : (player : Player) (recipe : Recipe) (options : CraftOptions) → Refuses answering (1 ∷ []) (New player recipe options)
total-CraftContext-new player recipe options = says_refuses

pub total-CraftContext-check : (context : CraftContext) → Refuses answering (1 ∷ []) (ChecksContext context)
total-CraftContext-check context = says_refuses

pub total-CraftState-new : (context : CraftContext) → Refuses answering (1 ∷ []) (Start context)
total-CraftState-new context = says_refuses

pub total-CraftState-check : (context : CraftContext) (state : CraftState) → Refuses answering (1 ∷ 2 ∷ []) (ChecksState context state)
total-CraftState-check context state = says_refuses

pub total_moves : (context : CraftContext) (state : CraftState) (mode : Mode) → Refuses answering (1 ∷ 2 ∷ []) (HasMoves context state mode)
total_moves context state mode = says_refuses

pub total_step : (context : CraftContext) (state : CraftState) (mode : Mode) (n : ℕ)
    → Refuses answering (1 ∷ 2 ∷ 3 ∷ 4 ∷ []) (Steps context state mode n)
total_step context state mode n = says_refuses

pub total_result : (context : CraftContext) (state : CraftState) (mode : Mode) → Refuses answering (1 ∷ 2 ∷ []) (HasResult context state mode)
total_result context state mode r s = says_refuses r s.says

pub total_score : (context : CraftContext) (state : CraftState) → Refuses answering (1 ∷ 2 ∷ []) (HasScore context state)
total_score context state r s = says_refuses r s.0

pub total_display : (context : CraftContext) (state : CraftState) (out : List ℕ)
    → RefusesWhole answering (1 ∷ 2 ∷ 6 ∷ []) out (HasLine context state out)
total_display context state out = writes_refuses

-- ---- replay, lists and the program

pub total_replay : (context : CraftContext) (mode : Mode) (list : List ℕ) → Refuses answering (1 ∷ 3 ∷ []) (Replays context mode list)
total_replay context mode xs r s = says_refuses r s.says

pub total_read_list : (text out : List ℕ) → RefusesWhole answering (5 ∷ 6 ∷ []) out (ReadsList text out)
total_read_list text out = writes_refuses

pub total_write_list : (list out : List ℕ) → RefusesWhole answering (13 ∷ 3 ∷ 6 ∷ []) out (WritesList list out)
total_write_list xs out = writes_refuses

pub total_macro_time : (list : List ℕ) → Refuses answering (13 ∷ 3 ∷ []) (Lasts list)
total_macro_time xs = says_refuses

pub total_replay_text : (input out : List ℕ) → RefusesWhole answering (13 ∷ 12 ∷ 1 ∷ 5 ∷ 6 ∷ []) out (ReplaysText input out)
total_replay_text input out = writes_refuses

pub total_replay_output : (input out : List ℕ) → RefusesWhole answering (6 ∷ []) out (Prints input out)
total_replay_output input out = writes_refuses

-- ---- the tree

pub total_plant : (nodes : List Node) (unused : ℕ) → RefusesWhole answering (1 ∷ 6 ∷ []) nodes (Plants nodes unused)
total_plant nodes unused = changes_refuses

pub total_insert : (nodes : List Node) (count parent action unused : ℕ)
    → RefusesWhole answering (1 ∷ 3 ∷ 7 ∷ 8 ∷ 6 ∷ []) nodes (Inserts nodes count parent action unused)
total_insert nodes count parent action unused = changes_refuses

pub total_record_at : (nodes : List Node) (count k : ℕ) → Refuses answering (7 ∷ 8 ∷ []) (Looks nodes count k)
total_record_at nodes count k = says_refuses

pub total_children : (nodes : List Node) (count k : ℕ) (out : List ℕ) → RefusesWhole answering (7 ∷ 8 ∷ 6 ∷ []) out (Lists nodes count k out)
total_children nodes count k out = writes_refuses

pub total_backpropagate : (nodes : List Node) (count start target : ℕ) (score : Float)
    → RefusesWhole answering (7 ∷ 8 ∷ 9 ∷ 10 ∷ 11 ∷ []) nodes (Propagates nodes count start target score)
total_backpropagate nodes count start target score = changes_refuses

pub total_solution : (nodes : List Node) (count : ℕ) (out : List ℕ) → RefusesWhole answering (7 ∷ 6 ∷ []) out (Solves nodes count out)
total_solution nodes count out = writes_refuses

-- ---- the search: document 02's exceptions to demand 1. Where an iteration or the path's room is refused, the iterations before stand

pub total_search : (context : CraftContext) (options : SearchOptions) (logs : List Float) (draws : List ℕ) (nodes : List Node) (out : List ℕ)
    → RefusesInPart searched_told (1 ∷ 21 ∷ 6 ∷ 19 ∷ 20 ∷ []) (6 ∷ 19 ∷ 20 ∷ []) (asked_tests nodes logs context options) nodes out
    (Searches context options logs draws nodes out)
total_search context options logs draws nodes out = search_refuses
