-- `search::options::are_options` meets its contract.
-- Assumes nothing.
use lib.Ieee.{of_int, of_bits}
use Rattle.search.specs.laws.Options.{eq_number}
use Rattle.search.proofs.options.are_options.Goals as goal

pub returns : goal.returns
unfolding of_int of_bits
returns c = simp eq_number
