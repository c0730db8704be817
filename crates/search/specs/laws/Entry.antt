-- The ways out of the entry, as its code takes them: refused by the first tests, stopped by an iteration, refused the path's room, or a path that was found. Each
-- answers by the statement.
-- Assumes nothing.
use Rattle.std.specs.Prelude.{◌≡◌, ℕ, ◌<◌, ◌≤◌, Bool, true, false, cond, List, length, take, nat_le, Float, Result, Ok, Err}
use Rattle.std.proofs.Math.Path.{refl}
use Rattle.std.proofs.Common.{sym, ap, subst, ◌∙◌, zero-add, leb-true}
use Rattle.refusal.specs.declared.Refusal.{Refusal}
use Rattle.refusal.specs.declared.Refusal.TheVariants.{NoRoom}
use Rattle.refusal.specs.Judge.{Test, Checked, pass, judged, checks_of}
use Rattle.refusal.specs.laws.Judge.{judged_passed, judged_refused}
use Rattle.text.specs.Over.{over}
use Rattle.text.specs.laws.Over.{length_over, take_put}
use Rattle.action.specs.Known.{known_front}
use Rattle.craft_context.specs.declared.context.CraftContext.{CraftContext}
use Rattle.craft_context.specs.Limits.{ContextIn}
use Rattle.craft_state.specs.declared.state.CraftState.{CraftState}
use Rattle.craft_state.specs.Limits.{step_most}
use Rattle.craft_state.specs.Start.{start_of}
use Rattle.moves.specs.Modes.{plain}
use Rattle.moves.specs.Moves.{moves_of}
use Rattle.simulator.specs.Replay.{replay_of}
use Rattle.tree.specs.declared.node.Node.{Node}
use Rattle.tree.specs.Paths.{Solves}
use Rattle.tree.specs.Tree.{planted_of, is_sound, end_of}
use Rattle.tree.specs.laws.Tree.{of_tree}
use Rattle.search.specs.declared.options.SearchOptions.{SearchOptions}
use Rattle.search.specs.declared.entry.Progress.{Progress}
use Rattle.search.specs.Search.{Outcome, grow_of, no_progress, progress_of, path_of, found_of, asked_tests, settled_by, path_tests, Searched, searched_told, searched_of, Searches}
use Rattle.search.specs.inner.Grown.{Growing}
use Rattle.search.specs.inner.Ready.{Started, grown_by, GrowsTo}
use Rattle.search.specs.laws.Path.{path_known}
use Rattle.search.specs.laws.Search.{search_ends, search_state}
use Rattle.search.specs.laws.Answer.{tests_asked}

module _ (c : CraftContext) (o : SearchOptions) (logs : List Float) (draws : List ℕ) (nodes : List Node) (out : List ℕ) where
  abbrev tests : List Test
  tests = asked_tests nodes logs c o

  abbrev planted : List Node
  planted = planted_of nodes (moves_of c (start_of c) plain)

  abbrev grown_to : Outcome
  grown_to = grow_of c o logs draws nodes

  -- an answer that is the definition's
  answers : {r : Searched} {after : List Node} {written : List ℕ} → r ≡ searched_of c o logs draws nodes out
      → after ≡ judged (λ x. nodes) grown_to.growth.nodes tests
      → written ≡ judged (λ x. out) (settled_by (λ x. out) (over out 0 (path_of grown_to)) (path_tests grown_to (length out)) grown_to.checked) tests
      → Searches c o logs draws nodes out r after written
  answers e f g = record { number = ap searched_told e; same = e; records = f; room = g }

  -- ---- the first tests

  pub entry_refused : {x : Refusal} → Err x ≡ checks_of tests → Searches c o logs draws nodes out (Err (x, no_progress)) nodes out
  entry_refused q =
      answers (judged_refused (λ x. Err (x, no_progress)) _ tests q) (judged_refused (λ x. nodes) _ tests q) (judged_refused (λ x. out) _ tests q)

  -- ---- the iterations

  module _ (byte : c.step_max ≤ step_most) (p : pass ≡ checks_of tests) where
    pub entry_some : 0 < length nodes
    entry_some = (tests_asked c o logs nodes byte p).1

    pub entry_started : {after : List Node} → after ≡ planted → Started c o logs after
    entry_started e = record { asked = (tests_asked c o logs nodes byte p).0; before = nodes; some = entry_some; planted = e }

    growing : Growing c grown_to.growth.nodes grown_to.growth.count
    growing = (search_ends c o logs (tests_asked c o logs nodes byte p).0 draws nodes entry_some).grows.growing

    -- what is answered and left where no test failed
    settles : {r : Searched} {written : List ℕ}
        → r ≡ settled_by (λ x. Err (x, progress_of grown_to)) (Ok (progress_of grown_to, found_of c grown_to)) (path_tests grown_to (length out)) grown_to.checked
        → written ≡ settled_by (λ x. out) (over out 0 (path_of grown_to)) (path_tests grown_to (length out)) grown_to.checked
        → Searches c o logs draws nodes out r grown_to.growth.nodes written
    settles e f = answers (e ∙ judged_passed _ _ tests p) (judged_passed _ _ tests p) (f ∙ judged_passed _ _ tests p)

    module _ {start : List Node} (s : start ≡ planted) {grown : Result Progress (Refusal × Progress)} {after : List Node}
        (g : GrowsTo c o logs draws start grown after) where
      after_is : after ≡ grown_to.growth.nodes
      after_is = g.records ∙ rw s

      grown_is : grown ≡ grown_by grown_to.checked (progress_of grown_to)
      grown_is = g.answer ∙ rw s

      -- an iteration was refused
      pub entry_stopped : {e : Refusal × Progress} → grown ≡ Err e → Searches c o logs draws nodes out (Err e) after out
      entry_stopped {e} is = rw after_is (go grown_to.checked refl (sym grown_is ∙ is))
        where
          go : (k : Checked) → grown_to.checked ≡ k → ◌≡◌ {A = Result Progress (Refusal × Progress)} (grown_by k (progress_of grown_to)) (Err e)
              → Searches c o logs draws nodes out (Err e) grown_to.growth.nodes out
          go (Ok u) q f = cc
          go (Err x) q f = let same : ◌≡◌ {A = Refusal × Progress} (x, progress_of grown_to) e = cc in settles (rw (q, ← same) refl) (rw q refl)

      -- all were done
      module _ {done : Progress} (is : grown ≡ Ok done) where
        record Done : Type 0 where
          checked : grown_to.checked ≡ pass
          progress : done ≡ progress_of grown_to

        all_done : Done
        all_done = go grown_to.checked refl (sym grown_is ∙ is)
          where
            go : (k : Checked) → grown_to.checked ≡ k → ◌≡◌ {A = Result Progress (Refusal × Progress)} (grown_by k (progress_of grown_to)) (Ok done) → Done
            go (Ok u) q f = let same : progress_of grown_to ≡ done = cc in record { checked = q; progress = sym same }
            go (Err x) q f = cc

        -- ---- the path, by the room for it

        abbrev path : List ℕ
        path = path_of grown_to

        abbrev solved_by : Bool → Result (ℕ × ℕ) Refusal
        solved_by b = cond b (Ok (length path, end_of grown_to.growth.nodes grown_to.growth.count)) (Err (NoRoom (length path)))

        abbrev written_by : Bool → List ℕ
        written_by b = cond b (over out 0 path) out

        abbrev roomy : Bool
        roomy = nat_le (length path) (length out)

        module _ {solved : Result (ℕ × ℕ) Refusal} {written : List ℕ} (w : Solves after done.records out solved written) where
          there : Solves grown_to.growth.nodes grown_to.growth.count out solved written
          there = subst (λ (n : ℕ). Solves grown_to.growth.nodes n out solved written) (ap (λ (x : Progress). x.records) all_done.progress)
              (subst (λ (xs : List Node). Solves xs done.records out solved written) after_is w)

          sound : is_sound grown_to.growth.nodes grown_to.growth.count ≡ true
          sound = of_tree growing.tree

          solved_is : solved ≡ solved_by roomy
          unfolding judged
          solved_is = there.says.same ∙ rw sound

          written_is : written ≡ written_by roomy
          unfolding judged
          written_is = there.room ∙ rw sound

          -- where it has no room
          pub entry_short : {x : Refusal} → solved ≡ Err x → Searches c o logs draws nodes out (Err (x, done)) after written
          unfolding judged
          entry_short {x} q = rw (after_is, all_done.progress) (go roomy refl (sym solved_is ∙ q) written_is)
            where
              go : (b : Bool) → roomy ≡ b → solved_by b ≡ Err x → written ≡ written_by b
                  → Searches c o logs draws nodes out (Err (x, progress_of grown_to)) grown_to.growth.nodes written
              go true f e v = cc
              go false f e v = let same : NoRoom (length path) ≡ x = cc in settles (rw (all_done.checked, f, ← same) refl) (v ∙ rw (all_done.checked, f))

          -- where it has, it is read back from there
          module _ {len last : ℕ} (q : solved ≡ Ok (len, last)) where
            record Fits : Type 0 where
              room : roomy ≡ true
              len_is : len ≡ length path
              last_is : last ≡ end_of grown_to.growth.nodes grown_to.growth.count

            fits : Fits
            fits = go roomy refl (sym solved_is ∙ q)
              where
                go : (b : Bool) → roomy ≡ b → solved_by b ≡ Ok (len, last) → Fits
                go true f e =
                    let same : ◌≡◌ {A = ℕ × ℕ} (length path, end_of grown_to.growth.nodes grown_to.growth.count) (len, last) = cc in
                    record { room = f; len_is = sym (ap (λ (p : ℕ × ℕ). p.0) same); last_is = sym (ap (λ (p : ℕ × ℕ). p.1) same) }
                go false f e = cc

            written_path : written ≡ over out 0 path
            written_path = written_is ∙ rw fits.room

            pub entry_inside : len ≤ length written
            entry_inside = rw (fits.len_is, written_path, length_over) (leb-true _ _ fits.room)

            back : take len written ≡ path
            back = rw (fits.len_is, written_path) (take_put (record { next = sym (zero-add (length path)); same = refl }) (leb-true _ _ fits.room))

            pub entry_known : ContextIn c × (length (take len written) ≤ known_front (take len written))
            entry_known =
                ((tests_asked c o logs nodes byte p).0.context, rw back (path_known c grown_to.growth.nodes grown_to.growth.count growing))

            pub entry_found : {state : CraftState} → state ≡ (replay_of c plain (take len written)).state
                → Searches c o logs draws nodes out (Ok (done, record { path = len; last = last; state = state })) after written
            unfolding judged
            entry_found {state} e =
                let asked = tests_asked c o logs nodes byte p in
                rw (after_is, all_done.progress, fits.len_is, fits.last_is, e, back, search_state c o logs asked.0 draws nodes asked.1)
                (settles (rw (all_done.checked, fits.room) refl) (written_path ∙ rw (all_done.checked, fits.room)))
