-- `crafty_c::searches::search_in` meets its contract, by what the numbers are read as.
-- Assumes nothing.
use Rattle.crafty_c.specs.laws.Searches.{searched_told_lem, searched_outside}
use Rattle.crafty_c.proofs.searches.search_in.Goals as goal

pub returns-in-Ok : goal.returns-in-Ok
returns-in-Ok c = searched_told_lem _ c.args.options c.args.logs.now c.args.draws.now c.args.nodes.now c.args.out.now c.in-Ok.ensures c.found_in.ensures

pub returns-in-Err : goal.returns-in-Err
returns-in-Err c = searched_outside _ c.args.options c.args.logs.now c.args.draws.now c.args.nodes.now c.args.out.now c.in-Err.ensures c.outside.ensures
