-- Laws of the tests of fifteen numbers, field by field.
-- Assumes nothing.
use Rattle.std.specs.Prelude.{◌≡◌, refl, Bool, true, false, ◌⊎◌, List, [], ◌∷◌, map, ℕ, zero, suc, ◌+◌, ◌^◌, ◌≤◌, ◌<◌, leb, length, drop, get_or}
use Rattle.std.proofs.Common.{sym, ap, ◌∙◌, inl, inr, arith, le-leb, lt-ltb, le-ltb, leb-true, leb-false, ltb-true, drop_of_length-le}
use Rattle.std.proofs.lemmas.Bool.{lt-leb}
use Rattle.laws.specs.laws.Lists.{drop_at}
use Rattle.laws.specs.laws.Tests.{true_false, both, and_false, either}
use Rattle.refusal.specs.Judge.{judged, pass, checks_of}
use Rattle.refusal.specs.Limits.{limit_tests}
use Rattle.refusal.specs.laws.Limits.{all_inside}
use Rattle.action.specs.Known.{actions}
use Rattle.action.specs.Limits.{factor_most, target_most}
use Rattle.action_set.specs.Sets.{is_set}
use Rattle.craft_context.specs.Limits.{durability_most, ContextIn}
use Rattle.context_line.specs.Shape.{fields}
use Rattle.context_line.specs.Fields.{word_most, byte_most, flag_set, up_to, takes_durability, takes, taken_from, number_limits, number_tests, context_of}
use Rattle.context_line.specs.inner.Fields.{word_of}

-- ---- THE law of the tests: all pass exactly where the context is inside its limits, and the fields without one take their numbers

pub record Taken (values : List ℕ) : Type 0 where
  pub inside : ContextIn (context_of values)
  pub player_level : get_or values 0 0 ≤ word_most
  pub recipe_level : get_or values 1 0 ≤ word_most
  pub steps : get_or values 4 0 ≤ byte_most
  pub expert : get_or values 10 0 ≤ flag_set
  pub specialist : get_or values 12 0 ≤ flag_set
  pub manipulation : get_or values 13 0 ≤ flag_set
  pub delineation : get_or values 14 0 ≤ flag_set

pub passed_taken : (values : List ℕ) → pass ≡ checks_of (number_tests values) → Taken values
unfolding context_of
passed_taken values p =
    let taken = all_inside (number_limits values) p in
    record {
      inside =
          record {
            base_progress = leb-true _ _ (taken 2);
            base_quality = leb-true _ _ (taken 3);
            progress_target = leb-true _ _ (taken 5);
            starting_quality = leb-true _ _ (taken 6);
            quality_target = leb-true _ _ (taken 7);
            durability = taken 8;
            cp_max = leb-true _ _ (taken 9);
            pool = ltb-true _ _ (taken 11);
          };
      player_level = leb-true _ _ (taken 0);
      recipe_level = leb-true _ _ (taken 1);
      steps = leb-true _ _ (taken 4);
      expert = leb-true _ _ (taken 10);
      specialist = leb-true _ _ (taken 12);
      manipulation = leb-true _ _ (taken 13);
      delineation = leb-true _ _ (taken 14);
    }

pub taken_passed : (values : List ℕ) → Taken values → pass ≡ checks_of (number_tests values)
unfolding judged context_of
taken_passed values t =
    simp (
      le-leb _ _ t.player_level,
      le-leb _ _ t.recipe_level,
      le-leb _ _ t.inside.base_progress,
      le-leb _ _ t.inside.base_quality,
      le-leb _ _ t.steps,
      le-leb _ _ t.inside.progress_target,
      le-leb _ _ t.inside.starting_quality,
      le-leb _ _ t.inside.quality_target,
      t.inside.durability,
      le-leb _ _ t.inside.cp_max,
      le-leb _ _ t.expert,
      lt-ltb _ _ t.inside.pool,
      le-leb _ _ t.specialist,
      le-leb _ _ t.manipulation,
      le-leb _ _ t.delineation,
    )

pub durability_most_lem : (values : List ℕ) → Taken values → get_or values 8 0 ≤ durability_most
unfolding context_of
durability_most_lem values t =
    let n = get_or values 8 0 in
    leb-true n durability_most (both (leb 1 n) (leb n durability_most) t.inside.durability).1

-- ---- numbers, and the u32 that stand for them

-- a field that does not take the greatest u32, nor a greater number
abbrev Narrow : (ℕ → Bool) → Type 0
Narrow field = (n : ℕ) → word_most ≤ n → field n ≡ false

-- a field that takes no greater number
abbrev TakesWords : (ℕ → Bool) → Type 0
TakesWords field = (n : ℕ) → field n ≡ true → n ≤ word_most

abbrev Each : ((ℕ → Bool) → Type 0) → List (ℕ → Bool) → Type 0
Each P [] = Unit {0}
Each P (field ∷ more) = P field × Each P more

up_to_lem : (most : ℕ) → most < word_most → Narrow (up_to most)
up_to_lem most h n l = lt-leb n most (omega arith)

lasting : Narrow takes_durability
lasting n l = rw (lt-leb n durability_most (omega arith)) (and_false (leb 1 n))

-- all but the two levels
others_narrow : Each Narrow (drop 2 takes)
others_narrow =
    let factor = up_to_lem factor_most (omega arith) in
    let target = up_to_lem target_most (omega arith) in
    let flag = up_to_lem flag_set (omega arith) in
    let set : Narrow is_set = λ s l. le-ltb s (2 ^ actions) (omega arith) in
    (factor, (factor, (up_to_lem byte_most (omega arith), (target, (target, (target, (lasting, (target, (flag, (set, (flag, (flag, (flag, tt)))))))))))))

narrow_same : (field : ℕ → Bool) → Narrow field → (n : ℕ) → field (word_of n) ≡ field n
narrow_same field h n = by (either (leb n word_most))
  where
    by : (leb n word_most ≡ true) ⊎ (leb n word_most ≡ false) → field (word_of n) ≡ field n
    by (inl t) = rw t
    by (inr f) = rw f (h word_most (omega arith) ∙ sym (h n (omega (arith, leb-false n word_most f))))

word_same : (n : ℕ) → n ≤ word_most → word_of n ≡ n
word_same n h = rw (le-leb n word_most h)

word_at : (values : List ℕ) (k : ℕ) → get_or (map word_of values) k 0 ≡ word_of (get_or values k 0)
word_at [] k = refl
word_at (n ∷ values) zero = refl
word_at (n ∷ values) (suc k) = word_at values k

taken_words : (some : List (ℕ → Bool)) → Each Narrow some → (values : List ℕ) (k : ℕ) → taken_from k some (map word_of values) ≡ taken_from k some values
taken_words [] h values k = refl
taken_words (field ∷ more) h values k =
    rw (word_at values k, narrow_same field h.0 (get_or values k 0), taken_words more h.1 values (k + 1))

-- fifteen numbers of which the levels are u32
pub numbers_words : (values : List ℕ) → get_or values 0 0 ≤ word_most → get_or values 1 0 ≤ word_most → number_tests (map word_of values) ≡ number_tests values
numbers_words values f g =
    let level : (k : ℕ) → get_or values k 0 ≤ word_most → up_to word_most (get_or (map word_of values) k 0) ≡ up_to word_most (get_or values k 0) =
    λ k h. rw (word_at values k, word_same _ h)
    in
    let rest : List Bool = taken_from 2 (drop 2 takes) (map word_of values) in
    ap limit_tests (
    ap (λ (b : Bool). b ∷ up_to word_most (get_or (map word_of values) 1 0) ∷ rest) (level 0 f)
    ∙ ap (λ (b : Bool). up_to word_most (get_or values 0 0) ∷ b ∷ rest) (level 1 g)
    ∙ ap (λ (more : List Bool). up_to word_most (get_or values 0 0) ∷ up_to word_most (get_or values 1 0) ∷ more) (taken_words (drop 2 takes) others_narrow values 2)
    )

-- and where each is taken, it is a u32
narrow_word : (field : ℕ → Bool) → Narrow field → TakesWords field
narrow_word field h n t = by (either (leb n word_most))
  where
    by : (leb n word_most ≡ true) ⊎ (leb n word_most ≡ false) → n ≤ word_most
    by (inl l) = leb-true n word_most l
    by (inr g) = absurd (true_false (sym t ∙ h n (omega (arith, leb-false n word_most g))))

each_narrow : (some : List (ℕ → Bool)) → Each Narrow some → Each TakesWords some
each_narrow [] h = tt
each_narrow (field ∷ more) h = (narrow_word field h.0, each_narrow more h.1)

rest_words : (some : List (ℕ → Bool)) → Each TakesWords some → (values : List ℕ) (k : ℕ) → length values ≡ k + length some
    → ((j : ℕ) → get_or (taken_from k some values) j true ≡ true) → map word_of (drop k values) ≡ drop k values
rest_words [] h values k e t = rw (drop_of_length-le values {i = k} (omega arith))
rest_words (field ∷ more) h values k e t =
    rw (
      drop_at values k (omega arith),
      word_same _ (h.0 _ (t 0)),
      rest_words more h.1 values (k + 1) (omega arith) (λ j. t (suc j)),
    )

pub passed_words : (values : List ℕ) → length values ≡ fields → pass ≡ checks_of (number_tests values) → map word_of values ≡ values
passed_words values e p =
    let level : TakesWords (up_to word_most) = λ n t. leb-true n word_most t in
    rest_words takes (level, (level, each_narrow (drop 2 takes) others_narrow)) values 0 e (all_inside (number_limits values) p)

-- ---- fifteen numbers by their places

-- so many numbers from place k on
abbrev placed : List ℕ → ℕ → ℕ → List ℕ
placed values k zero = []
placed values k (suc more) = get_or values k 0 ∷ placed values (k + 1) more

placed_drop : (values : List ℕ) (k more : ℕ) → length values ≡ k + more → placed values k more ≡ drop k values
placed_drop values k zero e = sym (drop_of_length-le values {i = k} (omega arith))
placed_drop values k (suc more) e =
    ap (λ (rest : List ℕ). get_or values k 0 ∷ rest) (placed_drop values (k + 1) more (omega arith)) ∙ sym (drop_at values k (omega arith))

pub in_order : (values : List ℕ) → length values ≡ fields → map word_of (placed values 0 fields) ≡ map word_of values
in_order values e = ap (map word_of) (placed_drop values 0 fields e)
