-- Document 01, 'Action table': the actions 'numbered in the declaration order of `create_actions!`', 0 to 30, by name.
-- Assumes nothing.
use Rattle.std.specs.Prelude.{ℕ}

abbrev pub BasicSynthesis : ℕ
BasicSynthesis = 0

abbrev pub BasicTouch : ℕ
BasicTouch = 1

abbrev pub MastersMend : ℕ
MastersMend = 2

abbrev pub Observe : ℕ
Observe = 3

abbrev pub WasteNot : ℕ
WasteNot = 4

abbrev pub Veneration : ℕ
Veneration = 5

abbrev pub StandardTouch : ℕ
StandardTouch = 6

abbrev pub GreatStrides : ℕ
GreatStrides = 7

abbrev pub Innovation : ℕ
Innovation = 8

abbrev pub BasicSynthesisTraited : ℕ
BasicSynthesisTraited = 9

abbrev pub WasteNotII : ℕ
WasteNotII = 10

abbrev pub ByregotsBlessing : ℕ
ByregotsBlessing = 11

abbrev pub MuscleMemory : ℕ
MuscleMemory = 12

abbrev pub CarefulSynthesis : ℕ
CarefulSynthesis = 13

abbrev pub Manipulation : ℕ
Manipulation = 14

abbrev pub PrudentTouch : ℕ
PrudentTouch = 15

abbrev pub AdvancedTouch : ℕ
AdvancedTouch = 16

abbrev pub Reflect : ℕ
Reflect = 17

abbrev pub PreparatoryTouch : ℕ
PreparatoryTouch = 18

abbrev pub Groundwork : ℕ
Groundwork = 19

abbrev pub DelicateSynthesis : ℕ
DelicateSynthesis = 20

abbrev pub TrainedEye : ℕ
TrainedEye = 21

abbrev pub CarefulSynthesisTraited : ℕ
CarefulSynthesisTraited = 22

abbrev pub GroundworkTraited : ℕ
GroundworkTraited = 23

abbrev pub PrudentSynthesis : ℕ
PrudentSynthesis = 24

abbrev pub TrainedFinesse : ℕ
TrainedFinesse = 25

abbrev pub RefinedTouch : ℕ
RefinedTouch = 26

abbrev pub DelicateSynthesisTraited : ℕ
DelicateSynthesisTraited = 27

abbrev pub QuickInnovation : ℕ
QuickInnovation = 28

abbrev pub ImmaculateMend : ℕ
ImmaculateMend = 29

abbrev pub TrainedPerfection : ℕ
TrainedPerfection = 30
