-- Document 01, 'Action table': name, label, level, progress, quality, durability and cp as in the list of action.rs.
-- `Nothing` is an attribute left out there, which differs from 0.
-- Assumes nothing.
use Rattle.std.specs.Prelude.{List, [], ◌∷◌, ℕ, zero, suc, Option, Some, None}
use Prim.Native.String.{String}
use Rattle.action.specs.declared.table.Attributes.{Attributes}

pub record Action : Type 0 where
  pub name : String
  pub label : String
  pub attributes : Attributes

abbrev pub row : ℕ → Option ℕ → Option ℕ → Option ℕ → Option ℕ → Attributes
row level progress quality durability cp =
    record { level = level; progress_efficiency = progress; quality_efficiency = quality; durability_cost = durability; cp_cost = cp }

abbrev action : String → String → ℕ → Option ℕ → Option ℕ → Option ℕ → Option ℕ → Action
action name label level progress quality durability cp = record { name = name; label = label; attributes = row level progress quality durability cp }

unfoldable pub table : List Action
table =
    action "BasicSynthesis" "Basic Synthesis" 1 (Some 100) None (Some 10) None ∷  -- 0
    action "BasicTouch" "Basic Touch" 5 None (Some 100) (Some 10) (Some 18) ∷  -- 1
    action "MastersMend" "Master's Mend" 7 None None (Some 0) (Some 88) ∷  -- 2
    action "Observe" "Observe" 13 None None (Some 0) (Some 7) ∷  -- 3
    action "WasteNot" "Waste Not" 15 None None None (Some 56) ∷  -- 4
    action "Veneration" "Veneration" 15 None None None (Some 18) ∷  -- 5
    action "StandardTouch" "Standard Touch" 18 None (Some 125) (Some 10) (Some 32) ∷  -- 6
    action "GreatStrides" "Great Strides" 21 None None None (Some 32) ∷  -- 7
    action "Innovation" "Innovation" 26 None None None (Some 18) ∷  -- 8
    action "BasicSynthesisTraited" "Basic Synthesis" 31 (Some 120) None (Some 10) None ∷  -- 9
    action "WasteNotII" "Waste Not II" 47 None None None (Some 98) ∷  -- 10
    action "ByregotsBlessing" "Byregot's Blessing" 50 None (Some 0) (Some 10) (Some 24) ∷  -- 11
    action "MuscleMemory" "Muscle Memory" 54 (Some 300) None (Some 10) (Some 6) ∷  -- 12
    action "CarefulSynthesis" "Careful Synthesis" 62 (Some 150) None (Some 10) (Some 7) ∷  -- 13
    action "Manipulation" "Manipulation" 65 None None None (Some 96) ∷  -- 14
    action "PrudentTouch" "Prudent Touch" 66 None (Some 100) (Some 5) (Some 25) ∷  -- 15
    action "AdvancedTouch" "Advanced Touch" 68 None (Some 150) (Some 10) (Some 46) ∷  -- 16
    action "Reflect" "Reflect" 69 None (Some 300) (Some 10) (Some 6) ∷  -- 17
    action "PreparatoryTouch" "Preparatory Touch" 71 None (Some 200) (Some 20) (Some 40) ∷  -- 18
    action "Groundwork" "Groundwork" 72 (Some 300) None (Some 20) (Some 18) ∷  -- 19
    action "DelicateSynthesis" "Delicate Synthesis" 76 (Some 100) (Some 100) (Some 10) (Some 32) ∷  -- 20
    action "TrainedEye" "Trained Eye" 80 None (Some 0) (Some 0) (Some 250) ∷  -- 21
    action "CarefulSynthesisTraited" "Careful Synthesis" 82 (Some 180) None (Some 10) (Some 7) ∷  -- 22
    action "GroundworkTraited" "Groundwork" 86 (Some 360) None (Some 20) (Some 18) ∷  -- 23
    action "PrudentSynthesis" "Prudent Synthesis" 88 (Some 180) None (Some 5) (Some 18) ∷  -- 24
    action "TrainedFinesse" "Trained Finesse" 90 None (Some 100) None (Some 32) ∷  -- 25
    action "RefinedTouch" "Refined Touch" 92 None (Some 100) (Some 10) (Some 24) ∷  -- 26
    action "DelicateSynthesisTraited" "Delicate Synthesis" 94 (Some 150) (Some 100) (Some 10) (Some 32) ∷  -- 27
    action "QuickInnovation" "Quick Innovation" 96 None None (Some 0) None ∷  -- 28
    action "ImmaculateMend" "Immaculate Mend" 98 None None (Some 0) (Some 112) ∷  -- 29
    action "TrainedPerfection" "Trained Perfection" 100 None None (Some 0) None ∷  -- 30
    []

-- the action at a place of a list; past its end there is none, with no text and no attribute
unfoldable pub at : List Action → ℕ → Action
at [] n = action "" "" 0 None None None None
at (a ∷ rest) zero = a
at (a ∷ rest) (suc n) = at rest n

unfoldable pub action_of : ℕ → Action
unfolding table at
action_of n = at table n

abbrev pub attributes_of : ℕ → Attributes
attributes_of n = (action_of n).attributes
