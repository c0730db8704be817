-- `action::names::name_of` meets its contract: the part of the run from its start to the next is the name.
-- Assumes nothing.
use Rattle.action.specs.Names.{name_of}
use Rattle.action.specs.inner.Texts.{names}
use Rattle.action.proofs.Run.{Part, run, starts, name_part}
use Rattle.action.proofs.names.name_of.Goals as goal
use Rattle.action.proofs.names.name_of.Goals.{Start}

part : (c : Start) → Part names name_of c.args.n
part c = name_part c.args.n c.requires

pub slice_bounds-result-count : goal.slice_bounds-result-count
unfolding run starts names
slice_bounds-result-count c = (part (goal.at.slice_bounds-result-count c).Start).order

pub slice_bounds-result-start : goal.slice_bounds-result-start
unfolding run starts names
slice_bounds-result-start c = (part (goal.at.slice_bounds-result-start c).Start).order

pub slice_bounds-result-end : goal.slice_bounds-result-end
unfolding run starts names
slice_bounds-result-end c = (part (goal.at.slice_bounds-result-end c).Start).within

pub returns : goal.returns
unfolding run starts names
returns c = (part (goal.at.returns c).Start).part
