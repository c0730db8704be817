-- `search::store::store_path` meets its contract: the loop's state is how many records are stored, the last of them, the state there, the records and the index.
-- Assumes nothing.
use Rattle.search.specs.laws.Storing.{Part}
use Rattle.search.proofs.store.store_path.Given as goal

abbrev pub invariant-loop-i : goal.invariant-loop-i
invariant-loop-i l = Part l.fn.context l.fn.start l.initial.nodes l.fn.count l.fn.k l.draws l.fn.at l.fn.stored l.i l.end l.state l.nodes l.links
