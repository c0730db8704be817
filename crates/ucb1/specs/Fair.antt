-- Document 02, E7: "w outside 0..=1, c outside 0..=16", "a logarithm .. outside 0..=17" are refused, and document 01, Tree: "|score_sum| ≤ visits; max_score
-- from +0 to 1". What the numbers of a ucb1 are between, in IEEE 754's order, which lets minus zero in as a zero. A child that is looked at was visited.
-- Assumes nothing.
use Rattle.std.specs.Prelude.{Bool, ◌&&◌, T, Float}
use Rattle.std.specs.Float.Ieee.{neg, le}
use Rattle.std.specs.Float.Ieee.Scale.{finite}
use Rattle.laws.specs.Floats.{float, one}

abbrev pub between : Float → Float → Float → Bool
between least x most = le least x && le x most

pub record Fair (w c ln visits sum maximum : Float) : Type 0 where
  pub weight : T (between (float 0) w one)
  pub exploration : T (between (float 0) c (float 16))
  pub log : T (between (float 0) ln (float 17))
  pub visited : T (le one visits)
  pub counted : T (finite visits)
  pub sum_in : T (between (neg visits) sum visits)
  pub maximum_in : T (between (float 0) maximum one)
