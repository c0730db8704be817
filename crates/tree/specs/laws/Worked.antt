-- Small trees worked out from the definitions: document 01's case of two equal children, and a visit where the zeros meet.
-- Assumes nothing.
use Rattle.std.specs.Prelude.{◌≡◌, ℕ, true, false, List, [], ◌∷◌, refl}
use Rattle.std.specs.Float.{nan, binary32}
use Rattle.std.specs.Float.Ieee.{of_bits, of_int, to_bits, to_unsigned, add, neg, lt, le, eq}
use Rattle.laws.specs.Floats.{one}
use Rattle.action.specs.Actions.{BasicTouch, Observe}
use Rattle.tree.specs.declared.node.Node.{Node}
use Rattle.tree.specs.Node.{root_node, is_score, touched_of}
use Rattle.tree.specs.Sound.{is_count, is_maximum, sound_at}
use Rattle.tree.specs.Tree.{sound_to, is_sound, children_of, above_in, is_above, path_in, touched_all, back_of, all_yield, best_in, descent_in, solution_of, end_of}

-- a child of the root that was visited once, with 0.5
abbrev child : ℕ → Node
child action = record { parent = 0; action = action; visits = one; score_sum = of_bits binary32 0x3f00_0000; max_score = of_bits binary32 0x3f00_0000; unused = 0 }

abbrev twins : List Node
twins = root_node 0 ∷ child BasicTouch ∷ child Observe ∷ []

twins_sound : is_sound twins 3 ≡ true
unfolding is_sound sound_to sound_at is_count is_maximum of_bits of_int to_unsigned neg le lt eq
twins_sound = refl

-- children 1 and 2 of the root, both 0.5: the path takes 2
takes_the_last : solution_of twins 3 ≡ Observe ∷ []
unfolding descent_in children_of best_in all_yield of_bits of_int lt eq
takes_the_last = refl

ends_at_it : end_of twins 3 ≡ 2
unfolding descent_in children_of best_in all_yield of_bits of_int lt eq
ends_at_it = refl

both_children : children_of 3 twins 0 ≡ 1 ∷ 2 ∷ []
unfolding children_of
both_children = refl

-- ---- back-propagation of 1 from record 2 up to record 0

back_sound : is_sound (back_of twins 2 0 one) 3 ≡ true
unfolding is_sound sound_to sound_at is_count is_maximum touched_all path_in touched_of of_bits of_int to_unsigned neg add le lt eq
back_sound = refl

not_above : is_above twins 2 1 ≡ false
unfolding above_in
not_above = refl

-- ---- at the bounds of one record, as bits

-- +0 stays when -0 comes, and -0 is a score
zero_stays : to_bits binary32 (touched_of (root_node 0) (of_bits binary32 0x8000_0000)).max_score ≡ 0
unfolding touched_of to_bits of_bits of_int lt
zero_stays = refl

minus_zero_scores : is_score (of_bits binary32 0x8000_0000) ≡ true
unfolding of_bits of_int le lt eq
minus_zero_scores = refl

-- the next after 1, and a NaN
above_one : is_score (of_bits binary32 0x3f80_0001) ≡ false
unfolding of_bits of_int le lt eq
above_one = refl

nan_scores_not : is_score nan ≡ false
unfolding of_bits of_int le lt eq
nan_scores_not = refl

-- a maximum is not -0
minus_zero_no_maximum : is_maximum (of_bits binary32 0x8000_0000) ≡ false
unfolding is_maximum of_bits of_int le lt eq
minus_zero_no_maximum = refl

-- visits: the most, the next float after it, and a half
most_visits : is_count (of_bits binary32 0x4b80_0000) ≡ true
unfolding is_count of_bits of_int to_unsigned le lt eq
most_visits = refl

too_many_visits : is_count (of_bits binary32 0x4b80_0001) ≡ false
unfolding is_count of_bits of_int to_unsigned le lt eq
too_many_visits = refl

half_a_visit : is_count (of_bits binary32 0x3f00_0000) ≡ false
unfolding is_count of_bits of_int to_unsigned le lt eq
half_a_visit = refl

-- minus zero is excluded for max_score alone
minus_zero_visits : is_count (of_bits binary32 0x8000_0000) ≡ true
unfolding is_count of_bits of_int to_unsigned le lt eq
minus_zero_visits = refl

-- unused moves: all 31 actions, and bit 31, which is no action's
all_unused : sound_at 0 (root_node 0x7fff_ffff) ≡ true
unfolding sound_at is_count is_maximum of_int to_unsigned neg le lt eq
all_unused = refl

bit_31_unused : sound_at 0 (root_node 0x8000_0000) ≡ false
unfolding sound_at is_count is_maximum of_int to_unsigned neg le lt eq
bit_31_unused = refl
