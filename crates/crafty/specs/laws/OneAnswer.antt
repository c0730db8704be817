-- One answer: for each public entry, two answers that meet its statement are equal, and so is what they leave in lent room or records.
-- A line to each entry, named after it: the general law, applied to the statement that stands in the entry's `ensures`.
-- Assumes nothing.
use Rattle.std.specs.Prelude.{◌≡◌, List, Bool, ℕ, Float, Option}
use Rattle.std.proofs.Common.{sym, ◌∙◌}
use Rattle.refusal.specs.declared.Refusal.{Refusal}
use Rattle.refusal.specs.declared.Report.{Report}
use Rattle.refusal.specs.Report.{report_of}
use Rattle.refusal.specs.Judge.{Kind, Test, Says, Writes}
use Rattle.refusal.specs.Demands.{OneAnswer, OneOutcome}
use Rattle.refusal.specs.laws.Judge.{one_answer, one_outcome}
use Rattle.action.specs.declared.price.Combo.{Combo}
use Rattle.action.specs.declared.texts.Text.TheVariants as T
use Rattle.action_set.specs.declared.ActionSet.{ActionSet}
use Rattle.action_set.specs.Entries.{empty_set, ChecksSet, FromBits, FromList, Contains, Added, Removed, Len, IsEmpty, HighestIs, Members}
use Rattle.craft_context.specs.declared.context.CraftContext.{CraftContext}
use Rattle.craft_context.specs.declared.sheet.Player.{Player}
use Rattle.craft_context.specs.declared.sheet.Recipe.{Recipe}
use Rattle.craft_context.specs.declared.sheet.CraftOptions.{CraftOptions}
use Rattle.craft_context.specs.Limits.{ChecksContext}
use Rattle.craft_context.specs.Build.{New}
use Rattle.craft_state.specs.declared.buffs.Buffs.{Buffs}
use Rattle.craft_state.specs.declared.state.CraftState.{CraftState}
use Rattle.craft_state.specs.Limits.{buffs_inside, ChecksState}
use Rattle.craft_state.specs.Start.{no_buffs, Start}
use Rattle.moves.specs.declared.mode.Mode.{Mode}
use Rattle.tree.specs.declared.node.Node.{Node}
use Rattle.tree.specs.Node.{node_of, root_node}
use Rattle.tree.specs.Grow.{Changes, Plants, Inserts, Looks}
use Rattle.tree.specs.laws.Grow.{one_change}
use Rattle.tree.specs.Back.{Propagates}
use Rattle.tree.specs.Paths.{Lists, Solves}
use Rattle.search.specs.declared.options.SearchOptions.{SearchOptions}
use Rattle.search.specs.Search.{Searches}
use Rattle.search.specs.Demands.{OneOutcomes}
use Rattle.search.specs.laws.Demands.{search_outcomes}
use Rattle.crafty.specs.Actions.{HasAttributes, HasPrice, HasWait, HasText, FromName}
use Rattle.crafty.specs.States.{HasMoves, Steps, HasResult, HasScore, HasLine}
use Rattle.crafty.specs.Replays.{Replays}
use Rattle.crafty.specs.Lists.{ReadsList, WritesList, Lasts}
use Rattle.crafty.specs.Program.{ReplaysText, Prints}

-- ---- the general laws, over any kind and any tests

module _ {A : Type 0} where
  pub equals : {answer : A} → OneAnswer (λ (r : A). r ≡ answer)
  equals r s a b = a ∙ sym b

  module _ {kind : Kind A} {tests : List Test} {answer : A} where
    pub says : OneAnswer (Says kind tests answer)
    says r s a b = one_answer a b

    pub writes : {out written : List ℕ} → OneOutcome (Writes kind tests answer out written)
    writes r s after later a b = one_outcome a b

    pub changes : {nodes changed : List Node} → OneOutcome (Changes kind tests answer nodes changed)
    changes r s after later a b = one_change a b

-- ---- actions

pub one_attributes : (n : ℕ) → OneAnswer (HasAttributes n)
one_attributes n = says

pub one_price : (n : ℕ) (combo : Option Combo) → OneAnswer (HasPrice n combo)
one_price n combo = says

pub one_wait : (n : ℕ) → OneAnswer (HasWait n)
one_wait n = says

pub one_name : (n : ℕ) (out : List ℕ) → OneOutcome (HasText T.Name n out)
one_name n out = writes

pub one_label : (n : ℕ) (out : List ℕ) → OneOutcome (HasText T.Label n out)
one_label n out = writes

pub one_macro_text : (n : ℕ) (out : List ℕ) → OneOutcome (HasText T.Macro n out)
one_macro_text n out = writes

pub one_from_name : (word : List ℕ) → OneAnswer (FromName word)
one_from_name word = says

-- ---- sets

pub one-ActionSet-new : OneAnswer (λ (r : ActionSet). r ≡ empty_set)
one-ActionSet-new = equals

pub one-ActionSet-check : (bits : ℕ) → OneAnswer (ChecksSet bits)
one-ActionSet-check bits = says

pub one-ActionSet-from-bits : (bits : ℕ) → OneAnswer (FromBits bits)
one-ActionSet-from-bits bits = says

pub one-ActionSet-from-list : (list : List ℕ) → OneAnswer (FromList list)
one-ActionSet-from-list list = says

pub one-ActionSet-contains : (bits n : ℕ) → OneAnswer (Contains bits n)
one-ActionSet-contains bits n = says

pub one-ActionSet-set : (bits n : ℕ) → OneAnswer (Added bits n)
one-ActionSet-set bits n = says

pub one-ActionSet-unset : (bits n : ℕ) → OneAnswer (Removed bits n)
one-ActionSet-unset bits n = says

pub one-ActionSet-len : (bits : ℕ) → OneAnswer (Len bits)
one-ActionSet-len bits = says

pub one-ActionSet-is-empty : (bits : ℕ) → OneAnswer (IsEmpty bits)
one-ActionSet-is-empty bits = says

pub one-ActionSet-highest : (bits : ℕ) → OneAnswer (HighestIs bits)
one-ActionSet-highest bits = says

pub one-ActionSet-members : (bits : ℕ) (out : List ℕ) → OneOutcome (Members bits out)
one-ActionSet-members bits out = writes

-- ---- contexts and states

pub one-CraftContext-new : (player : Player) (recipe : Recipe) (options : CraftOptions) → OneAnswer (New player recipe options)
one-CraftContext-new player recipe options = says

pub one-CraftContext-check : (context : CraftContext) → OneAnswer (ChecksContext context)
one-CraftContext-check context = says

pub one-CraftState-new : (context : CraftContext) → OneAnswer (Start context)
one-CraftState-new context = says

pub one-CraftState-check : (context : CraftContext) (state : CraftState) → OneAnswer (ChecksState context state)
one-CraftState-check context state = says

pub one-Buffs-new : OneAnswer (λ (r : Buffs). r ≡ no_buffs)
one-Buffs-new = equals

pub one-Buffs-are-inside : (buffs : Buffs) → OneAnswer (λ (r : Bool). r ≡ buffs_inside buffs)
one-Buffs-are-inside buffs = equals

pub one_moves : (context : CraftContext) (state : CraftState) (mode : Mode) → OneAnswer (HasMoves context state mode)
one_moves context state mode = says

pub one_step : (context : CraftContext) (state : CraftState) (mode : Mode) (n : ℕ) → OneAnswer (Steps context state mode n)
one_step context state mode n = says

-- the equation is a part of what the next two say, and of what replay says
pub one_result : (context : CraftContext) (state : CraftState) (mode : Mode) → OneAnswer (HasResult context state mode)
one_result context state mode r s a b = one_answer a.says b.says

pub one_score : (context : CraftContext) (state : CraftState) → OneAnswer (HasScore context state)
one_score context state r s a b = one_answer a.0 b.0

pub one_display : (context : CraftContext) (state : CraftState) (out : List ℕ) → OneOutcome (HasLine context state out)
one_display context state out = writes

-- ---- replay, lists and the program

pub one_replay : (context : CraftContext) (mode : Mode) (list : List ℕ) → OneAnswer (Replays context mode list)
one_replay context mode list r s a b = one_answer a.says b.says

pub one_read_list : (text out : List ℕ) → OneOutcome (ReadsList text out)
one_read_list text out = writes

pub one_write_list : (list out : List ℕ) → OneOutcome (WritesList list out)
one_write_list list out = writes

pub one_macro_time : (list : List ℕ) → OneAnswer (Lasts list)
one_macro_time list = says

pub one_replay_text : (input out : List ℕ) → OneOutcome (ReplaysText input out)
one_replay_text input out = writes

pub one_replay_output : (input out : List ℕ) → OneOutcome (Prints input out)
one_replay_output input out = writes

-- ---- the tree

pub one_plant : (nodes : List Node) (unused : ℕ) → OneOutcome (Plants nodes unused)
one_plant nodes unused = changes

pub one_insert : (nodes : List Node) (count parent action unused : ℕ) → OneOutcome (Inserts nodes count parent action unused)
one_insert nodes count parent action unused = changes

pub one_record_at : (nodes : List Node) (count k : ℕ) → OneAnswer (Looks nodes count k)
one_record_at nodes count k = says

pub one_children : (nodes : List Node) (count k : ℕ) (out : List ℕ) → OneOutcome (Lists nodes count k out)
one_children nodes count k out = writes

pub one_backpropagate : (nodes : List Node) (count start target : ℕ) (score : Float) → OneOutcome (Propagates nodes count start target score)
one_backpropagate nodes count start target score = changes

pub one_solution : (nodes : List Node) (count : ℕ) (out : List ℕ) → OneOutcome (Solves nodes count out)
one_solution nodes count out = writes

pub one-Node-new : (parent action unused : ℕ) → OneAnswer (λ (r : Node). r ≡ node_of parent action unused)
one-Node-new parent action unused = equals

pub one-Node-root : (unused : ℕ) → OneAnswer (λ (r : Node). r ≡ root_node unused)
one-Node-root unused = equals

-- ---- the search, which lends records and room

pub one_search : (context : CraftContext) (options : SearchOptions) (logs : List Float) (draws : List ℕ) (nodes : List Node) (out : List ℕ)
    → OneOutcomes (Searches context options logs draws nodes out)
one_search context options logs draws nodes out = search_outcomes

-- ---- a refusal's number and value

pub one-Refusal-reported : (x : Refusal) → OneAnswer (λ (r : Report). r ≡ report_of x)
one-Refusal-reported x = equals
