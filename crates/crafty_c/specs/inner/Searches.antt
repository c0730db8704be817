-- For the contracts of inner functions: the search of a context that was read, told in numbers.
-- Assumes nothing.
use Rattle.std.specs.Prelude.{◌≡◌, List, ℕ, Float}
use Rattle.craft_context.specs.declared.context.CraftContext.{CraftContext}
use Rattle.tree.specs.declared.node.Node.{Node}
use Rattle.search.specs.declared.options.SearchOptions.{SearchOptions}
use Rattle.search.specs.Search.{searched_of, records_of, room_of}
use Rattle.crafty_c.specs.declared.searches.CraftyFound.{CraftyFound}
use Rattle.crafty_c.specs.Searches.{told_of}

module _ (c : CraftContext) (o : SearchOptions) (logs : List Float) (draws : List ℕ) (nodes : List Node) (out : List ℕ) where
  pub record FindsIn (r : CraftyFound) (after : List Node) (written : List ℕ) : Type 0 where
    pub same : r ≡ told_of c (searched_of c o logs draws nodes out)
    pub records : after ≡ records_of c o logs draws nodes out
    pub room : written ≡ room_of c o logs draws nodes out
