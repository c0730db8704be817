-- Demand 3, shown of every replay. Of the table nothing is used but its bounds.
-- Assumes nothing.
use Rattle.std.specs.Prelude.{◌≡◌, Bool, not, eqb, ltb, None}
use Rattle.std.proofs.Math.Path.{refl, sym, ap, subst}
use Rattle.std.proofs.Common.{◌∙◌, le_of_eq, le_antisymm, le_of_suc-le-suc, not-suc-le-zero, lit≤, ltb-true, eqb-true}
use Rattle.std.proofs.Math.Bool.{true, false, cond}
use mathlib.Core.List.{List, [], ◌∷◌}
use Prim.Native.Nat.{ℕ, zero, suc, ◌+◌, ◌≤◌, ◌<◌, zero-le}
use Rattle.std.proofs.Math.Nat.{le_trans, le_refl, add-zero, zero-add, min-eq_left}
use native.Mathlib.Omega.{arith}
use Rattle.std.proofs.Math.ListN.{length, take, length-take}
use Rattle.std.proofs.lemmas.Bool.{not-true}
use Rattle.laws.specs.laws.Tests.{both, and_true, and_false, true_false}
use Rattle.laws.specs.Bits.{has}
use Rattle.action.specs.Actions as A
use Rattle.action.specs.Bounds.{Rows, RowsIn}
use Rattle.action.specs.Known.{actions, known_front}
use Rattle.craft_context.specs.declared.context.CraftContext.{CraftContext}
use Rattle.craft_context.specs.Limits.{ContextIn}
use Rattle.craft_state.specs.declared.state.CraftState.{CraftState}
use Rattle.craft_state.specs.Limits.{step_least, step_most}
use Rattle.craft_state.specs.Inside.{CraftIn}
use Rattle.craft_state.specs.laws.Inside.{start_in}
use Rattle.craft_state.specs.Start.{start_of}
use Rattle.step.specs.Step.{execute_by}
use Rattle.step.specs.laws.Step.{execute_step, execute_quick}
use Rattle.moves.specs.declared.mode.Mode.{Mode}
use Rattle.moves.specs.Moves.{ended, moves_by}
use Rattle.moves.specs.inner.Legal.{passes_by}
use Rattle.moves.specs.laws.Moves.{has_moves, legal_playable, legal_quick, legal_keeps, legal_pays}
use Rattle.score.specs.Result.{result_by}
use Rattle.simulator.specs.declared.replay.Replay.{Replay}
use Rattle.simulator.specs.Replay.{goes_on, stop_by, slip_by, replay_from, replay_by}
use Rattle.simulator.specs.laws.Replay.{replay_on}
use Rattle.simulator.specs.Alone.{steps_in}
use Rattle.simulator.specs.laws.Alone.{prices_charged}
use Rattle.simulator.specs.Promise.{after, EachLegal, charges_by, AfterFirst, Longest, PromiseBy}
use Rattle.simulator.specs.laws.Scores.{scores_bounded}
use Rattle.simulator.specs.inner.Known.{AllKnown}

-- ---- known actions

pub all_known_lem : (list : List ℕ) → length list ≤ known_front list → AllKnown list
unfolding known_front
all_known_lem [] h = tt
all_known_lem (n ∷ rest) h = by (ltb n actions) (ltb-true n actions) (all_known_lem rest) h
  where
    by : (b : Bool) → (b ≡ true → n < actions) → (length rest ≤ known_front rest → AllKnown rest)
        → suc (length rest) ≤ cond b (suc (known_front rest)) 0 → AllKnown (n ∷ rest)
    by true f later h = (f refl, later (le_of_suc-le-suc h))
    by false f later h = absurd (not-suc-le-zero h)

pub take_known : (list : List ℕ) (k : ℕ) → AllKnown list → AllKnown (take k list)
take_known [] zero h = tt
take_known [] (suc k) h = tt
take_known (n ∷ rest) zero h = tt
take_known (n ∷ rest) (suc k) h = (h.0, take_known rest k h.1)

module _ (rows : Rows) (bounded : RowsIn rows) (c : CraftContext) (mode : Mode) where
  -- ---- a leading part of what is legal is legal

  part_legal : (s : CraftState) (list : List ℕ) (k e : ℕ) → k ≤ e → EachLegal rows c mode s (take e list) → EachLegal rows c mode s (take k list)
  unfolding EachLegal
  part_legal s list zero e h l = tt
  part_legal s list (suc k) zero h l = absurd (not-suc-le-zero h)
  part_legal s [] (suc k) (suc e) h l = tt
  part_legal s (n ∷ rest) (suc k) (suc e) h l = (l.0, part_legal (execute_by rows c s n) rest k e (le_of_suc-le-suc h) l.1)

  -- ---- along a list whose actions are each legal where they stand

  along_inside : (s : CraftState) (list : List ℕ) → CraftIn c s → AllKnown list → EachLegal rows c mode s list → CraftIn c (after rows c s list)
  unfolding EachLegal after
  along_inside s [] g h l = g
  along_inside s (n ∷ rest) g h l = along_inside (execute_by rows c s n) rest (legal_keeps rows bounded c s mode n g h.0 l.0) h.1 l.1

  along_points : (s : CraftState) (list : List ℕ) → CraftIn c s → AllKnown list → EachLegal rows c mode s list
      → (after rows c s list).cp + charges_by rows c s list ≡ s.cp
  unfolding EachLegal after charges_by
  along_points s [] g h l = add-zero s.cp
  along_points s (n ∷ rest) g h l =
      omega (arith, along_points (execute_by rows c s n) rest (legal_keeps rows bounded c s mode n g h.0 l.0) h.1 l.1, legal_pays rows bounded c s mode n g h.0 l.0)

  along_step : (s : CraftState) (list : List ℕ) → (after rows c s list).step ≡ s.step + steps_in list
  unfolding after steps_in
  along_step s [] = sym (add-zero s.step)
  along_step s (n ∷ rest) = along_step (execute_by rows c s n) rest ∙ rw (execute_step c s n (rows n)) (by (eqb n A.QuickInnovation))
    where
      by : (t : Bool) → cond t s.step (s.step + 1) + steps_in rest ≡ s.step + (cond t 0 1 + steps_in rest)
      by true = omega arith
      by false = omega arith

  -- each starts below step_max, which is at most 255
  along_top : c.step_max ≤ step_most → (s : CraftState) (list : List ℕ) → s.step ≤ step_most → CraftIn c s → AllKnown list → EachLegal rows c mode s list
      → (after rows c s list).step ≤ step_most
  unfolding EachLegal after
  along_top top s [] b g h l = b
  along_top top s (n ∷ rest) b g h l =
      let early = (legal_playable rows bounded c s mode n g h.0 l.0).early in
      along_top top (execute_by rows c s n) rest (rw (execute_step c s n (rows n)) (by (eqb n A.QuickInnovation) early))
      (legal_keeps rows bounded c s mode n g h.0 l.0) h.1 l.1
    where
      by : (t : Bool) → s.step < c.step_max → cond t s.step (s.step + 1) ≤ step_most
      by true early = omega arith
      by false early = omega arith

  -- each raises the step, which is below step_max, but for QuickInnovation, which goes once
  abbrev quick_left : CraftState → ℕ
  quick_left s = cond s.quick_innovation_available 1 0

  along_few : c.step_max ≤ step_most → (s : CraftState) (list : List ℕ) → s.step ≤ step_most → CraftIn c s → AllKnown list → EachLegal rows c mode s list
      → length list + s.step ≤ step_most + quick_left s
  unfolding EachLegal
  along_few top s [] b g h l = omega arith
  along_few top s (n ∷ rest) b given h l =
      by (eqb n A.QuickInnovation) refl
      (λ b. along_few top (execute_by rows c s n) rest b (legal_keeps rows bounded c s mode n given h.0 l.0) h.1 l.1)
      (legal_playable rows bounded c s mode n given h.0 l.0).early
    where
      Later : Type 0
      Later = (execute_by rows c s n).step ≤ step_most → length rest + (execute_by rows c s n).step ≤ step_most + quick_left (execute_by rows c s n)

      left : {b : Bool} (t : CraftState) → t.quick_innovation_available ≡ b → quick_left t ≡ cond b 1 0
      left t e = rw e

      by : (t : Bool) → eqb n A.QuickInnovation ≡ t → Later → s.step < c.step_max → suc (length rest) + s.step ≤ step_most + quick_left s
      by true e later early =
          let same : (execute_by rows c s n).step ≡ s.step = execute_step c s n (rows n) ∙ rw e in
          let before = left {b = true} s (legal_quick rows bounded c s mode n given h.0 l.0 (eqb-true n A.QuickInnovation e)) in
          let gone = left {b = false} (execute_by rows c s n) (execute_quick c s n (rows n) ∙ rw e (and_false s.quick_innovation_available)) in
          omega (arith, later (omega arith))
      by false e later early =
          let more : (execute_by rows c s n).step ≡ s.step + 1 = execute_step c s n (rows n) ∙ rw e in
          let same : (execute_by rows c s n).quick_innovation_available ≡ s.quick_innovation_available =
          execute_quick c s n (rows n) ∙ rw e (and_true s.quick_innovation_available) in
          let kept : quick_left (execute_by rows c s n) ≡ quick_left s = ap (λ (b : Bool). cond b 1 0) same in
          omega (arith, later (omega arith))

  -- ---- the executed part

  lead : CraftState → List ℕ → ℕ
  lead s [] = 0
  lead s (n ∷ rest) = cond (has (moves_by rows c s mode) n) (suc (lead (execute_by rows c s n) rest)) 0

  record Run (s : CraftState) (k : ℕ) (list : List ℕ) (e : ℕ) : Type 0 where
    executed : (replay_from rows c mode s k list).executed ≡ k + e
    state : (replay_from rows c mode s k list).state ≡ after rows c s (take e list)
    part : e ≤ length list
    legal : EachLegal rows c mode s (take e list)
    longest : (j : ℕ) → j ≤ length list → EachLegal rows c mode s (take j list) → j ≤ e

  run : (s : CraftState) (k : ℕ) (list : List ℕ) → AllKnown list → Run s k list (lead s list)
  unfolding lead replay_from stop_by slip_by after EachLegal
  run s k [] h = record { executed = sym (add-zero k); state = refl; part = le_refl 0; legal = tt; longest = λ j p l. p }
  run s k (n ∷ rest) h = by (has (moves_by rows c s mode) n) refl (run (execute_by rows c s n) (k + 1) rest h.1)
    where
      by : (b : Bool) → has (moves_by rows c s mode) n ≡ b → Run (execute_by rows c s n) (k + 1) rest (lead (execute_by rows c s n) rest)
          → Run s k (n ∷ rest) (cond b (suc (lead (execute_by rows c s n) rest)) 0)
      by true t r =
          let parts = both (not (ended c s)) (passes_by rows c s mode n) (sym (has_moves rows c s mode n h.0) ∙ t) in
          let on = replay_on rows c mode s n h.0 k rest (not-true (ended c s) parts.0) parts.1 in
          record {
            executed = ap (λ (x : Replay). x.executed) on ∙ omega (arith, r.executed);
            state = ap (λ (x : Replay). x.state) on ∙ r.state;
            part = omega (arith, r.part);
            legal = (t, r.legal);
            longest = longer;
          }
        where
          longer : (j : ℕ) → j ≤ suc (length rest) → EachLegal rows c mode s (take j (n ∷ rest)) → j ≤ suc (lead (execute_by rows c s n) rest)
          longer zero p l = zero-le
          longer (suc j) p l = omega (arith, r.longest j (le_of_suc-le-suc p) l.1)
      by false t r =
          let here = stays (goes_on (result_by rows c s mode)) in
          record { executed = rw t here.0; state = rw t here.1; part = zero-le; legal = tt; longest = none }
        where
          stays : (g : Bool)
              → ((cond g (slip_by rows c mode s k) (stop_by rows c mode s k)).executed ≡ k + 0) × ((cond g (slip_by rows c mode s k) (stop_by rows c mode s k)).state ≡ s)
          stays true = (sym (add-zero k), refl)
          stays false = (sym (add-zero k), refl)

          none : (j : ℕ) → j ≤ suc (length rest) → EachLegal rows c mode s (take j (n ∷ rest)) → j ≤ 0
          none zero p l = zero-le
          none (suc j) p l = absurd (true_false (sym l.0 ∙ t))

  -- ---- THE theorem: every replay keeps the promise

  pub longest_one : (list : List ℕ) {j k : ℕ} → Longest rows c mode list j → Longest rows c mode list k → j ≡ k
  longest_one list {j} {k} a b = le_antisymm (b.longest j a.part a.legal) (a.longest k b.part b.legal)

  module _ (inside : ContextIn c) (top : c.step_max ≤ step_most) (list : List ℕ) (known : AllKnown list) where
    after_first : (k : ℕ) → EachLegal rows c mode (start_of c) (take k list) → AfterFirst rows c mode list k
    unfolding start_of
    after_first k l =
        let first = take k list in
        let start = start_in c inside in
        let g = along_inside (start_of c) first start (take_known list k known) l in
        let prices = prices_charged rows c (start_of c) None None first refl in
        record {
          legal = l;
          points = rw prices (along_points (start_of c) first start (take_known list k known) l);
          charged = prices;
          step = along_step (start_of c) first;
          step_to = along_top top (start_of c) first (lit≤ tt) start (take_known list k known) l;
          durability_from = g.state.durability.from;
          durability_to = g.state.durability.to;
          quiet = g.state.buffs.quiet;
          inside = g;
        }

    at_most : (k : ℕ) → k ≤ length list → EachLegal rows c mode (start_of c) (take k list) → k ≤ step_most
    unfolding start_of
    at_most k p l =
        let few = along_few top (start_of c) (take k list) (lit≤ tt) (start_in c inside) (take_known list k known) l in
        let whole : length (take k list) ≡ k = length-take k list ∙ min-eq_left p in
        by c.use_delineation few whole
      where
        by : (b : Bool) → length (take k list) + step_least ≤ step_most + cond b 1 0 → length (take k list) ≡ k → k ≤ step_most
        by true few whole = omega arith
        by false few whole = omega arith

    pub promised : PromiseBy rows c mode list (replay_by rows c mode list)
    unfolding replay_by
    promised =
        let r = run (start_of c) 0 list known in
        let e : (replay_from rows c mode (start_of c) 0 list).executed ≡ lead (start_of c) list = r.executed ∙ zero-add (lead (start_of c) list) in
        record {
          executed = subst (Longest rows c mode list) (sym e) (record { part = r.part; legal = r.legal; longest = r.longest });
          each = λ k h. after_first k (part_legal (start_of c) list k (lead (start_of c) list) (le_trans h (le_of_eq e)) r.legal);
          state = r.state ∙ ap (λ (k : ℕ). after rows c (start_of c) (take k list)) (sym e);
          few = le_trans (le_of_eq e) (at_most (lead (start_of c) list) r.part r.legal);
          score = scores_bounded rows bounded c top mode inside list;
        }
