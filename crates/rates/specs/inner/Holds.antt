-- Inner: what is known of the best child so far, by which a child that cannot be better is passed over.
-- Assumes nothing.
use Rattle.std.specs.Prelude.{◌≡◌, Float, Option, Some, None}
use Rattle.ucb1.specs.Fair.{Fair}
use Rattle.rates.specs.declared.Best.{Best}
use Rattle.rates.specs.declared.Weights.{Weights}
use Rattle.rates.specs.Best.{gained_of, rate_of}

abbrev pub FairChild : Float → Float → Float → Weights → Type 0
FairChild visits sum maximum weights = Fair weights.w weights.c weights.ln visits sum maximum

-- its numbers are those of a fair child under these weights
pub record Kept (weights : Weights) (best : Best) : Type 0 where
  pub sum : Float
  pub maximum : Float
  pub fair : FairChild best.visits sum maximum weights
  pub rate_is : best.rate ≡ rate_of best.visits sum maximum weights
  pub gained_is : best.gained ≡ gained_of best.visits sum maximum weights

abbrev pub Holds : Weights → Option Best → Type 0
Holds weights None = Unit {0}
Holds weights (Some best) = Kept weights best

pub record Asks (best : Option Best) (visits sum maximum : Float) (weights : Weights) : Type 0 where
  pub holds : Holds weights best
  pub fair : FairChild visits sum maximum weights
