-- THE theorems of the entry, of the statement by which it answers: what a search that found a path has left and answered, and what one that was refused has.
-- Assumes nothing.
use Rattle.std.specs.Prelude.{◌≡◌, ℕ, ◌<◌, ◌≤◌, true, ◌⊎◌, List, [], ◌∷◌, length, take, refl, Float, Ok, Err}
use Rattle.std.proofs.Common.{sym, ap, subst, ◌∙◌, inl, inr, zero-add, leb-true}
use Rattle.laws.specs.Floats.{float}
use Rattle.laws.specs.laws.Tests.{both}
use Rattle.refusal.specs.declared.Refusal.{Refusal}
use Rattle.refusal.specs.Judge.{Test, Checked, pass, checks_of, room_test}
use Rattle.refusal.specs.laws.Judge.{judged_passed, judged_refused, shown, shown_by}
use Rattle.text.specs.Over.{over}
use Rattle.craft_context.specs.declared.context.CraftContext.{CraftContext}
use Rattle.craft_context.specs.Limits.{context_tests}
use Rattle.craft_context.specs.laws.Limits.{context_in_lem}
use Rattle.craft_state.specs.Limits.{step_most}
use Rattle.moves.specs.Modes.{plain}
use Rattle.simulator.specs.Replay.{replay_of}
use Rattle.tree.specs.declared.node.Node.{Node}
use Rattle.tree.specs.Refusals.{new_count}
use Rattle.tree.specs.Tree.{node_at, is_sound, solution_of}
use Rattle.tree.specs.laws.Tree.{of_tree}
use Rattle.search.specs.declared.options.SearchOptions.{SearchOptions}
use Rattle.search.specs.declared.entry.Progress.{Progress}
use Rattle.search.specs.declared.entry.Found.{Found}
use Rattle.search.specs.Options.{are_options, are_logs, search_test}
use Rattle.search.specs.Search.{Outcome, Searched, grow_of, no_progress, progress_of, path_of, found_of, asked_tests, settled_by, path_tests, Searches}
use Rattle.search.specs.laws.Asked.{Asked, asked}
use Rattle.search.specs.laws.Search.{search_ends, search_path, search_state, search_draws}
use Rattle.search.specs.laws.Late.{Late, ChecksLate, search_late, path_late}

never : {x : Refusal} {p q : Progress} {found : Found} → ◌≡◌ {A = Searched} (Ok (p, found)) (Err (x, q)) → ⊥
never e = cc

-- an answer's parts
found_same : {p q : Progress} {f g : Found} → ◌≡◌ {A = Searched} (Ok (p, f)) (Ok (q, g)) → (p ≡ q) × (f ≡ g)
found_same {p} {q} {f} {g} e =
    let same : ◌≡◌ {A = Progress × Found} (p, f) (q, g) = cc in
    (ap (λ (x : Progress × Found). x.0) same, ap (λ (x : Progress × Found). x.1) same)

refused_same : {x y : Refusal} {p q : Progress} → ◌≡◌ {A = Searched} (Err (x, p)) (Err (y, q)) → p ≡ q
refused_same {x} {y} {p} {q} e = let same : ◌≡◌ {A = Refusal × Progress} (x, p) (y, q) = cc in ap (λ (x : Refusal × Progress). x.1) same

-- what the first tests have shown
pub tests_asked : (c : CraftContext) (o : SearchOptions) (logs : List Float) (nodes : List Node) → c.step_max ≤ step_most
    → pass ≡ checks_of (asked_tests nodes logs c o) → Asked c o logs × (0 < length nodes)
tests_asked c o logs nodes byte e =
    let first = shown_by (context_tests c) (search_test logs o c.step_max ∷ room_test (length nodes) new_count ∷ []) e refl in
    let second = shown (search_test logs o c.step_max) (room_test (length nodes) new_count ∷ []) first.1 refl in
    let third = shown (room_test (length nodes) new_count) [] second.1 refl in
    let options = both (are_options o c.step_max) (are_logs logs) second.0 in
    (asked c o logs (context_in_lem c first.0 refl) byte options.0 options.1, leb-true new_count (length nodes) third.0)

-- the records of a search, whether or not it was refused: a sound tree, and record 0 was visited once by each iteration
pub record Stand (after : List Node) (progress : Progress) : Type 0 where
  pub sound : is_sound after progress.records ≡ true
  pub visits : (node_at after 0).visits ≡ float progress.iterations

module _ (c : CraftContext) (o : SearchOptions) (logs : List Float) (draws : List ℕ) (nodes : List Node) (out : List ℕ) where
  abbrev grown : Outcome
  grown = grow_of c o logs draws nodes

  abbrev tests : List Test
  tests = asked_tests nodes logs c o

  -- ---- the ways out

  -- refused before any work: nothing is written
  pub record Away (r : Searched) (after : List Node) (written : List ℕ) : Type 0 where
    pub refusal : Refusal
    pub failed : Err refusal ≡ checks_of tests
    pub answer : r ≡ Err (refusal, no_progress)
    pub records : after ≡ nodes
    pub room : written ≡ out

  -- refused in an iteration, or for the path's room: earlier iterations stand, and no path is written
  pub record Stopped (r : Searched) (after : List Node) (written : List ℕ) : Type 0 where
    pub refusal : Refusal
    pub late : Late refusal
    pub passed : pass ≡ checks_of tests
    pub answer : r ≡ Err (refusal, progress_of grown)
    pub records : after ≡ grown.growth.nodes
    pub room : written ≡ out

  pub record Whole (r : Searched) (after : List Node) (written : List ℕ) : Type 0 where
    pub passed : pass ≡ checks_of tests
    pub done : grown.checked ≡ pass
    pub answer : r ≡ Ok (progress_of grown, found_of c grown)
    pub records : after ≡ grown.growth.nodes
    pub room : written ≡ over out 0 (path_of grown)

  abbrev settled : List Test → Checked → Searched
  settled room checked = settled_by (λ x. Err (x, progress_of grown)) (Ok (progress_of grown, found_of c grown)) room checked

  abbrev settled_room : List Test → Checked → List ℕ
  settled_room room checked = settled_by (λ x. out) (over out 0 (path_of grown)) room checked

  module _ {r : Searched} {after : List Node} {written : List ℕ} (s : Searches c o logs draws nodes out r after written) where
    pub ways : Away r after written ⊎ (Stopped r after written ⊎ Whole r after written)
    ways = asks (checks_of tests) refl
      where
        room : List Test
        room = path_tests grown (length out)

        by_path : pass ≡ checks_of tests → grown.checked ≡ pass → r ≡ settled room pass → written ≡ settled_room room pass → after ≡ grown.growth.nodes
            → (k : Checked) → k ≡ checks_of room → Stopped r after written ⊎ Whole r after written
        by_path p d a w n (Ok u) e =
            inr (record { passed = p; done = d; answer = a ∙ sym (judged_passed _ _ room e); records = n; room = w ∙ sym (judged_passed _ _ room e) })
        by_path p d a w n (Err x) e =
            inl (record {
              refusal = x;
              late = subst ChecksLate (sym e) (path_late grown (length out));
              passed = p;
              answer = a ∙ sym (judged_refused _ _ room e);
              records = n;
              room = w ∙ sym (judged_refused _ _ room e);
            })

        by_turns : pass ≡ checks_of tests → (k : Checked) → grown.checked ≡ k → r ≡ settled room k → written ≡ settled_room room k
            → after ≡ grown.growth.nodes → Stopped r after written ⊎ Whole r after written
        by_turns p (Ok u) d a w n = by_path p d a w n (checks_of room) refl
        by_turns p (Err x) d a w n =
            inl (record { refusal = x; late = subst ChecksLate d (search_late c o logs draws nodes); passed = p; answer = a; records = n; room = w })

        asks : (k : Checked) → k ≡ checks_of tests → Away r after written ⊎ (Stopped r after written ⊎ Whole r after written)
        asks (Ok u) e =
            inr (by_turns e grown.checked refl (s.same ∙ sym (judged_passed _ _ tests e)) (s.room ∙ sym (judged_passed _ _ tests e))
            (s.records ∙ sym (judged_passed _ _ tests e)))
        asks (Err x) e =
            inl (record {
              refusal = x;
              failed = e;
              answer = s.same ∙ sym (judged_refused _ _ tests e);
              records = s.records ∙ sym (judged_refused _ _ tests e);
              room = s.room ∙ sym (judged_refused _ _ tests e);
            })

  module _ (byte : c.step_max ≤ step_most) where
    stands : pass ≡ checks_of tests → Stand grown.growth.nodes (progress_of grown)
    stands e =
        let a = tests_asked c o logs nodes byte e in
        let ends = search_ends c o logs a.0 draws nodes a.1 in
        record { sound = of_tree ends.grows.growing.tree; visits = ends.grows.visited.root }

    -- ---- a search that found a path

    pub record Right (progress : Progress) (found : Found) (after : List Node) (written : List ℕ) : Type 0 where
      pub stand : Stand after progress
      -- all iterations were done
      pub all : progress.iterations ≡ o.iterations
      -- the path is written, and a plain replay executes it whole, to the state that is answered
      pub room : written ≡ over out 0 (solution_of after progress.records)
      pub path : found.path ≡ length (solution_of after progress.records)
      pub whole : (replay_of c plain (solution_of after progress.records)).executed ≡ found.path
      pub state : (replay_of c plain (solution_of after progress.records)).state ≡ found.state

    whole_right : {after : List Node} {written : List ℕ} → pass ≡ checks_of tests → grown.checked ≡ pass → after ≡ grown.growth.nodes
        → written ≡ over out 0 (path_of grown) → Right (progress_of grown) (found_of c grown) after written
    whole_right p d n w =
        let a = tests_asked c o logs nodes byte p in
        rw n
        (record {
          stand = stands p;
          all = (search_ends c o logs a.0 draws nodes a.1).whole d ∙ zero-add o.iterations;
          room = w;
          path = refl;
          whole = search_path c o logs a.0 draws nodes a.1;
          state = search_state c o logs a.0 draws nodes a.1;
        })

    module _ {after : List Node} {written : List ℕ} where
      found_whole : {progress : Progress} {found : Found} → Away (Ok (progress, found)) after written
          ⊎ (Stopped (Ok (progress, found)) after written ⊎ Whole (Ok (progress, found)) after written)
          → Whole (Ok (progress, found)) after written
      found_whole (inl a) = absurd (never a.answer)
      found_whole (inr (inl a)) = absurd (never a.answer)
      found_whole (inr (inr a)) = a

      pub found_right : {progress : Progress} {found : Found} → Searches c o logs draws nodes out (Ok (progress, found)) after written
          → Right progress found after written
      found_right {progress} {found} s =
          let a = found_whole (ways s) in
          let same = found_same a.answer in
          rw (same.0, same.1) (whole_right a.passed a.done a.records a.room)

      -- and it is the same with other draws after those used
      pub found_draws : (others : List ℕ) {progress : Progress} {found : Found} → Searches c o logs draws nodes out (Ok (progress, found)) after written
          → take progress.draws others ≡ take progress.draws draws → Searches c o logs others nodes out (Ok (progress, found)) after written
      found_draws others {progress} s agree =
          let a = found_whole (ways s) in
          let used : progress ≡ progress_of grown = (found_same a.answer).0 in
          let t = tests_asked c o logs nodes byte a.passed in
          let same : grow_of c o logs others nodes ≡ grown = search_draws c o logs t.0 draws others nodes t.1 a.done (rw used at agree) in
          record { number = rw same s.number; same = rw same s.same; records = rw same s.records; room = rw same s.room }

      -- ---- one that was refused: no path is written, and nothing at all or the iterations before stand

      pub refused_stands : {x : Refusal} {progress : Progress} → Searches c o logs draws nodes out (Err (x, progress)) after written
          → (written ≡ out) × (((progress ≡ no_progress) × (after ≡ nodes)) ⊎ Stand after progress)
      refused_stands {x} {progress} s = go (ways s)
        where
          go : Away (Err (x, progress)) after written ⊎ (Stopped (Err (x, progress)) after written ⊎ Whole (Err (x, progress)) after written)
              → (written ≡ out) × (((progress ≡ no_progress) × (after ≡ nodes)) ⊎ Stand after progress)
          go (inl a) = (a.room, inl (refused_same a.answer, a.records))
          go (inr (inl a)) = let same : progress ≡ progress_of grown = refused_same a.answer in (a.room, inr (rw (same, a.records) (stands a.passed)))
          go (inr (inr a)) = absurd (never (sym a.answer))
