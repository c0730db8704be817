-- The calls of a walk, as steps of `Types/Kit.antt`'s calculus. Each slice stands in the context, with its token after it, before the call and after it.
-- `Passes.antt` has how a slice is handed over: lend_mut, lend_shr and pass_shr.
--     calls_slices     the call. The `&mut` slices come back at the lists that the callee left, and all others as they were
--     calls_mut, calls_shared, calls_shr, calls_both      the same where the slices are the head of the context, each with names of its own.        calls_plain      a call with no slice
-- A call ends a block (`last`), or another statement follows it (`then`). What is left to show is at the result's machine value, written out.
-- Assumes nothing. The rules of the logic, `Logic`, are an argument of each law.
use mathlib.Core.Path.{◌≡◌, refl, sym, ap, ◌∙◌, subst}
use Prim.Native.Nat.{ℕ, zero, suc}
use mathlib.Core.List.{List, [], ◌∷◌, ◌++◌}
use lib.ListN.{length}
use seplogic.Ra.Ura.{Ura}
use base.Fraction.{full_share}
use mir.Syntax.{Callee, Place, Opd as Operand, Body, seq, call}
use mir.Val.{Val}
use base.Logic.{SProp, ent, sep, ex, guard, emp, id⊢, via, mono_r, emp∗, snd∗, guard_i}
use base.Fml.{Lft, GName, Share, Fml, ftrue, feq, fsep, flft, fbor}
use prog.Wp.{Heap, Env, Calls, Loops, Tables}
use types.Logic.{Logic, sem}
use contract.Monad.{top, fact}
use contract.Lifetimes.{Lfts, Shares, toks}
use types.Kit.{Step, step, Soaks, Goal, lands, settles, regoal, Item, ‵, raw, ◌⊛◌, some, given as provided, later, Post, runs, Seq, ⋆, mean, nth, put, del, pull, fill, push, pop, ◌$◌, ◌∵◌, !, qed, by, move, use0, use1, use2, use3, drop, split, join, pick, learn, fsplit, fjoin, feq_l, await, updating, now as at_once, suffices, show, done}
use types.Tokens.{lft_new, lft_end}
use types.Run.{Opds}
use sound.WpLaws.{fm_of, FmC}
use denote.RattleType.{RattleType, Denots, Valss, flat, owns}
use denote.Exit.{yes, Last, left}
use denote.Laws.{Is, Typed, shows}
use denote.Shadow.{pure_l, pure_i}
use denote.Copied.{Copied, each_Twice}
use denote.Opens.{twice_dup}
use denote.Lend.{Held}
use denote.Slice.{slice_val, shr_slice_at, elements_shared, finally}
use denote.Steps.{only, peeks, heard, nothing}
use denote.Triple.End.{Fins, all, outs, lasts_of}
use denote.Triple.Statement.{Contract, Triple}
use denote.Triple.Call.{calls_at, calls_at_last}
use denote.Triple.Clauses.{Lasts, lasts}
use Rattle.walks.proofs.Lend.{View, fat, named_at, bor_at, Tok, Own, Shr, MutFor, ShrFor, LentMut, LentShr, lends_mut, lends_shr, mut_back, shr_back}
use Rattle.walks.proofs.Values.{Copies, Datum, Data, machine, Known, rows_of, vals_of, at, from, from_at, flat_at, had}
use Rattle.walks.proofs.Locals.{under⊢, pack⊢, unpack⊢}
use Rattle.walks.proofs.Arrays.{changes}
use Rattle.walks.proofs.Passes.{Pass, lend_mut, lend_shr, pass_shr, theirs, here, token, wide, number, taken, given, still, wides, LeftFor, twice, gone, blank, looks, wants, lefts, laid, left_at, Stand}
use Rattle.walks.proofs.Functions.{Met, asked, ask_in, met_in, lent_at, lives, Lists, Lefts, SlicesFn, MutFn, ShrFn, BothFn, PlainFn, of_mut, of_shr, of_both, of_plain, params_of, types_of, lists_of, plains_of, lefts_of, slices_t, entered, passed, ContractSlices}

-- ---- where a call stands: another statement follows it, or it ends its block
pub data Site (f : Callee) (xs : List Operand) (d : Place) : Body → Type 0 where
  then : {rest : Body} → Site f xs d (seq (call f xs d) rest)
  last : Site f xs d (call f xs d)

module _ {M : Type 1} {𝓤 : Ura M} {H : Heap 𝓤} where
  module _ {f : Callee} {xs : List Operand} {d : Place} where
    -- the result is stored there
    abbrev pub landing : {B : Body} → Site f xs d B → Calls 𝓤 H → Loops 𝓤 H → Env 𝓤 H → Val → Post 𝓤 H → Goal 𝓤 H
    landing (then {rest}) C Λ E v q = lands C Λ E d v rest q
    landing last C Λ E v q = settles E d v q

    soaks : {B : Body} (s : Site f xs d B) (C : Calls 𝓤 H) (Λ : Loops 𝓤 H) (E : Env 𝓤 H) (v : Val) (q : Post 𝓤 H) → Soaks (landing s C Λ E v q)
    soaks then C Λ E v q = tt
    soaks last C Λ E v q = tt

module _ {M : Type 1} {𝓤 : Ura M} {𝓛 : Logic 𝓤} where
  open 𝓛 use {H}

  calls_there : {K : Type 0} {Γ : List (Item 𝓤)} {E : Env 𝓤 H} {C : Calls 𝓤 H} {Λ : Loops 𝓤 H} {q : Post 𝓤 H} {f : Callee} {xs : List Operand} {d : Place} {B : Body} → K → (s : Site f xs d B) → FmC 𝓤 H 𝓛.laws C → (c : Contract 𝓤) → Triple 𝓤 (C f) c → (x : c.Ghost)
      → Opds K 𝓛 (raw (c.pre x) ∷ Γ) E xs (c.args x) → ((r : Val) → Seq K 𝓛 (raw (c.post x r) ∷ Γ) (landing s C Λ E r q)) → Seq K 𝓛 (raw (c.pre x) ∷ Γ) (runs C Λ E B q)
  calls_there t then fm c met x os k = calls_at t fm c met x os k
  calls_there t last fm c met x os k = calls_at_last t fm c met x os k

module _ {M : Type 1} {𝓤 : Ura M} {𝓛 : Logic 𝓤} {K : Type 0} {Γ : List (Item 𝓤)} {f : Callee} {xs : List Operand} {d : Place} {B : Body} (s : Site f xs d B) (C : Calls 𝓤 𝓛.H) (Λ : Loops 𝓤 𝓛.H) (E : Env 𝓤 𝓛.H) (P : Post 𝓤 𝓛.H) where
  -- the callee's result is r, whose machine value is written out
  result : K → (res : Datum) (r : res.row.Denot) (w : Val) → (Is res.row r (res.val r ∷ []) → Typed res.row.mir (res.val r ∷ []) → Seq K 𝓛 Γ (landing s C Λ E (res.val r) P)) → Seq K 𝓛 (‵ (res.row.own_val r (w ∷ [])) ∷ Γ) (landing s C Λ E w P)
  result t res r w k = peeks t res.row (Is res.row) (shows 𝓛 res.row) r (w ∷ []) (λ is.
      drop t $ regoal t (λ (u : Val). landing s C Λ E u P) (ap only (res.tells r (w ∷ []) is)) refl $
      let is' = subst (Is res.row r) (res.tells r (w ∷ []) is) is in k is' ((res.lawful 𝓛).typed r (res.val r ∷ []) is'))

-- a copy of a `&[R]`, with the list's own length
copied : {M : Type 1} {𝓤 : Ura M} {𝓛 : Logic 𝓤} {K : Type 0} {Γ : List (Item 𝓤)} {G : Goal 𝓤 𝓛.H} {R : RattleType} → K → Copied 𝓛 R → (S : View R) (ys : List R.Denot) → Step K 𝓛 (‵ (ShrFor S S.life ys) ∷ ‵ (Shr S ys) ∷ Γ) G (‵ (Shr S ys) ∷ Γ) G
copied {𝓤 = 𝓤} {𝓛} {R = R} t c S ys = step (λ k. fsplit t $ pure_l t (shr_slice_at R (bor_at S ys) (fat S ∷ [])) (λ fact. twice_dup t (elements_shared R ys S.block S.offset) (each_Twice 𝓛 R c ys S.block S.offset) S.life $
    pure_i t (shr_slice_at R (bor_at S ys) (fat S ∷ [])) (tt, (tt, tt)) fact $ fjoin t $ move t (1 ∷ []) $
    pure_i t (shr_slice_at R (bor_at S ys) (slice_val (S.block, S.offset) (length ys) ∷ [])) (tt, (tt, tt)) (refl, fact.1) $ fjoin t $ k))

-- ---- one slice
-- its machine value, as the callee's contract has it
abbrev counted : Pass → Val
counted (lend_mut p S ys e) = slice_val (S.block, S.offset) (length ys)
counted (lend_shr cp p S ys e) = slice_val (S.block, S.offset) (length ys)
counted (pass_shr cp p S ys e) = slice_val (S.block, S.offset) (length ys)

counted_is : (x : Pass) → counted x ≡ wide x
counted_is (lend_mut p S ys e) = ap (slice_val (S.block, S.offset)) e
counted_is (lend_shr cp p S ys e) = ap (slice_val (S.block, S.offset)) e
counted_is (pass_shr cp p S ys e) = ap (slice_val (S.block, S.offset)) e

-- the callee's lifetime and share: ν is a new lifetime
abbrev life : Pass → ℕ → Lft
life (lend_mut p S ys e) ν = ν ∷ []
life (lend_shr cp p S ys e) ν = ν ∷ []
life (pass_shr cp p S ys e) ν = S.life

abbrev share : Pass → Share
share (lend_mut p S ys e) = full_share
share (lend_shr cp p S ys e) = full_share
share (pass_shr cp p S ys e) = S.share

-- the callee's i-th argument, under the name δ, and what the caller keeps meanwhile
abbrev ref : (x : Pass) (i : ℕ) (κ : Lft) → GName → (lent_at i (theirs x) κ).Denot
ref (lend_mut p S ys e) i κ δ = named_at S δ ys
ref (lend_shr cp p S ys e) i κ δ = bor_at S ys
ref (pass_shr cp p S ys e) i κ δ = bor_at S ys

abbrev lent_to : (x : Pass) → ℕ → Lft → GName → Fml
lent_to x i κ δ = (lent_at i (theirs x) κ).own_val (ref x i κ δ) (counted x ∷ [])

abbrev kept : Pass → ℕ → GName → Fml
kept (lend_mut p S ys e) ν δ = LentMut S (ν ∷ []) ys δ
kept (lend_shr cp p S ys e) ν δ = LentShr S (ν ∷ []) ys
kept (pass_shr cp p S ys e) ν δ = Shr S ys

module _ {M : Type 1} {𝓤 : Ura M} (𝓛 : Logic 𝓤) where
  open 𝓛 use {H}

  abbrev Lending : Pass → ℕ → ℕ × GName → SProp 𝓤
  Lending x i c = sep 𝓤 (sem 𝓛 (flft (life x c.0) (share x))) (sep 𝓤 (sem 𝓛 (lent_to x i (life x c.0) c.1)) (sem 𝓛 (kept x c.0 c.1)))

  lend : (x : Pass) (i : ℕ) → ent 𝓤 (sep 𝓤 (sem 𝓛 (here x)) (sem 𝓛 (token x))) (H.⇛ (ex 𝓤 (λ (c : ℕ × GName). Lending x i c)))
  lend (lend_mut p S ys e) i =
      qed 𝓛 (‵ (Own S ys) ∷ ‵ (Tok S) ∷ []) ∵ updating ! $ lft_new ! tt (λ ν. move ! (1 ∷ 2 ∷ []) $
      use2 𝓛 (later (some (λ (δ : GName). ‵ (MutFor S (ν ∷ []) ys δ) ⊛ ‵ (LentMut S (ν ∷ []) ys δ)))) (lends_mut S (ν ∷ []) ys 𝓛) $ await ! tt $ pick ! (λ δ. split ! $ at_once ! $
      show ! (λ (c : ℕ × GName). Lending (lend_mut p S ys e) i c) (ν, δ) $ move ! (2 ∷ 0 ∷ 1 ∷ []) $ done !))
  lend (lend_shr cp p S ys e) i =
      qed 𝓛 (‵ (Own S ys) ∷ ‵ (Tok S) ∷ []) ∵ updating ! $ lft_new ! tt (λ ν. move ! (1 ∷ 2 ∷ []) $
      use2 𝓛 (later (‵ (ShrFor S (ν ∷ []) ys) ⊛ ‵ (LentShr S (ν ∷ []) ys))) (lends_shr S (ν ∷ []) ys 𝓛 (cp M 𝓤 𝓛)) $ await ! tt $ split ! $ at_once ! $
      show ! (λ (c : ℕ × GName). Lending (lend_shr cp p S ys e) i c) (ν, S.name) $ move ! (2 ∷ 0 ∷ 1 ∷ []) $ done !)
  lend (pass_shr cp p S ys e) i =
      qed 𝓛 (‵ (Shr S ys) ∷ ‵ (Tok S) ∷ []) ∵ updating ! $ copied ! (cp M 𝓤 𝓛) S ys $ at_once ! $ show ! (λ (c : ℕ × GName). Lending (pass_shr cp p S ys e) i c) (zero, S.name) $ move ! (2 ∷ 0 ∷ 1 ∷ []) $ done !

  -- and back, from w, what the callee's contract binds
  abbrev after : (x : Pass) (i : ℕ) (κ : Lft) (δ : GName) → Last ((lent_at i (theirs x) κ).exit yes) (ref x i κ δ) → Fml
  after (lend_mut p S ys e) i κ δ w = Own S w
  after (lend_shr cp p S ys e) i κ δ w = Own S ys
  after (pass_shr cp p S ys e) i κ δ w = Shr S ys

  abbrev LongFor : (x : Pass) (i : ℕ) (κ : Lft) (δ : GName) → Last ((lent_at i (theirs x) κ).exit yes) (ref x i κ δ) → Type 0
  LongFor (lend_mut p S ys e) i κ δ w = length w ≡ S.count
  LongFor (lend_shr cp p S ys e) i κ δ w = Unit {0}
  LongFor (pass_shr cp p S ys e) i κ δ w = Unit {0}

  abbrev Backed : (x : Pass) (i : ℕ) (κ : Lft) (ν : ℕ) (δ : GName) → Type 1
  Backed x i κ ν δ = (w : Last ((lent_at i (theirs x) κ).exit yes) (ref x i κ δ))
      → ent 𝓤 (sep 𝓤 (sem 𝓛 (flft κ (share x))) (sep 𝓤 (sem 𝓛 (left ((lent_at i (theirs x) κ).exit yes) (ref x i κ δ) w)) (sem 𝓛 (kept x ν δ))))
      (H.⇛ (guard 𝓤 (LongFor x i κ δ w) (sep 𝓤 (sem 𝓛 (after x i κ δ w)) (sem 𝓛 (token x)))))

  back : (x : Pass) (i ν : ℕ) (δ : GName) → Backed x i (life x ν) ν δ
  back (lend_mut {R} p S ys e) i ν δ w =
      qed 𝓛 (‵ (flft (ν ∷ []) full_share) ∷ ‵ (fsep (fsep (finally R δ w) (feq ℕ (length w) (length ys))) (fbor (ν ∷ []) (Held R (length ys) S.block S.offset δ))) ∷ ‵ (LentMut S (ν ∷ []) ys δ) ∷ []) ∵
      updating ! $ lft_end ! tt $ move ! (1 ∷ []) $ fsplit ! $ move ! (1 ∷ []) $ drop ! $ fsplit ! $ move ! (1 ∷ []) $ feq_l ! (λ same. move ! (1 ∷ 2 ∷ 0 ∷ []) $
      use3 𝓛 (later (‵ (Own S w) ⊛ ‵ (Tok S))) (mut_back S (ν ∷ []) ys 𝓛 e δ w same) $ await ! tt $ at_once ! $ suffices ! (sep 𝓤 (sem 𝓛 (Own S w)) (sem 𝓛 (Tok S))) (guard_i 𝓤 _ _ (same ∙ e)) $ done !)
  back (lend_shr cp p S ys e) i ν δ w =
      qed 𝓛 (‵ (flft (ν ∷ []) full_share) ∷ ‵ ftrue ∷ ‵ (LentShr S (ν ∷ []) ys) ∷ []) ∵ updating ! $ lft_end ! tt $ move ! (1 ∷ []) $ drop ! $
      use2 𝓛 (later (‵ (Own S ys) ⊛ ‵ (Tok S))) (shr_back S (ν ∷ []) ys 𝓛 e) $ await ! tt $ at_once ! $ suffices ! (sep 𝓤 (sem 𝓛 (Own S ys)) (sem 𝓛 (Tok S))) (guard_i 𝓤 _ _ tt) $ done !
  back (pass_shr cp p S ys e) i ν δ w =
      qed 𝓛 (‵ (Tok S) ∷ ‵ ftrue ∷ ‵ (Shr S ys) ∷ []) ∵ updating ! $ at_once ! $ move ! (1 ∷ []) $ drop ! $ suffices ! (sep 𝓤 (sem 𝓛 (Shr S ys)) (sem 𝓛 (Tok S))) (guard_i 𝓤 _ _ tt) $ move ! (1 ∷ 0 ∷ []) $ done !

-- ---- all slices
-- the new lifetime and the new name of each
abbrev Choices : List Pass → Type 0
Choices [] = Unit {0}
Choices (x ∷ xs) = (ℕ × GName) × Choices xs

abbrev lives_of : (xs : List Pass) → Choices xs → Lfts (lives (taken xs))
lives_of [] c = tt
lives_of (x ∷ xs) c = (life x c.0.0, lives_of xs c.1)

abbrev shares_of : (xs : List Pass) → Shares (lives (taken xs))
shares_of [] = tt
shares_of (x ∷ xs) = (share x, shares_of xs)

-- what stands at them is taken out of the context, and put in again
module _ {M : Type 1} {𝓤 : Ura M} (𝓛 : Logic 𝓤) where
  abbrev Both : List (Item 𝓤 × Item 𝓤) → SProp 𝓤
  Both [] = emp 𝓤
  Both (i ∷ is) = sep 𝓤 (sep 𝓤 (mean 𝓛 i.0) (mean 𝓛 i.1)) (Both is)

  module _ where
    take_out : (n : ℕ) (Γ : List (Item 𝓤)) → ent 𝓤 (⋆ 𝓛 Γ) (sep 𝓤 (mean 𝓛 (nth 𝓛 n Γ)) (⋆ 𝓛 (put 𝓛 n (‵ ftrue) Γ)))
    take_out n Γ = via 𝓤 _ (pull 𝓛 n Γ) (mono_r 𝓤 (mean 𝓛 (nth 𝓛 n Γ)) (via 𝓤 _ (emp∗ 𝓤 (⋆ 𝓛 (del 𝓛 n Γ))) (fill 𝓛 n (‵ ftrue) Γ)))

    put_in : (n : ℕ) (i : Item 𝓤) (Γ : List (Item 𝓤)) → ent 𝓤 (sep 𝓤 (mean 𝓛 i) (⋆ 𝓛 Γ)) (⋆ 𝓛 (put 𝓛 n i Γ))
    put_in n i Γ = via 𝓤 _ (mono_r 𝓤 (mean 𝓛 i) (via 𝓤 _ (pull 𝓛 n Γ) (snd∗ 𝓤 (mean 𝓛 (nth 𝓛 n Γ)) (⋆ 𝓛 (del 𝓛 n Γ))))) (fill 𝓛 n i Γ)

    all_out : (xs : List Pass) (Γ : List (Item 𝓤)) → ent 𝓤 (⋆ 𝓛 Γ) (sep 𝓤 (Both (looks 𝓛 xs Γ)) (⋆ 𝓛 (blank 𝓛 xs Γ)))
    all_out [] Γ = emp∗ 𝓤 (⋆ 𝓛 Γ)
    all_out (x ∷ xs) Γ =
        let n : ℕ = twice (number x) in
        let Γ₁ : List (Item 𝓤) = put 𝓛 n (‵ ftrue) Γ in
        let Γ₂ : List (Item 𝓤) = gone 𝓛 x Γ in
        qed 𝓛 (raw (⋆ 𝓛 Γ) ∷ []) ∵ use1 𝓛 (nth 𝓛 n Γ ⊛ raw (⋆ 𝓛 Γ₁)) (take_out n Γ) $ split ! $ move ! (1 ∷ []) $
        use1 𝓛 (nth 𝓛 (suc n) Γ₁ ⊛ raw (⋆ 𝓛 Γ₂)) (take_out (suc n) Γ₁) $ split ! $ move ! (1 ∷ []) $
        use1 𝓛 (raw (Both (looks 𝓛 xs Γ₂)) ⊛ raw (⋆ 𝓛 (blank 𝓛 xs Γ₂))) (all_out xs Γ₂) $ split ! $ move ! (3 ∷ 2 ∷ []) $ join ! $ join ! $ done !

    all_in : (xs : List Pass) (is : List (Item 𝓤 × Item 𝓤)) (Γ : List (Item 𝓤)) → ent 𝓤 (sep 𝓤 (Both is) (⋆ 𝓛 (blank 𝓛 xs Γ))) (⋆ 𝓛 (laid 𝓛 xs is Γ))
    all_in [] is Γ = snd∗ 𝓤 (Both is) (⋆ 𝓛 Γ)
    all_in (x ∷ xs) [] Γ = snd∗ 𝓤 (emp 𝓤) (⋆ 𝓛 (blank 𝓛 (x ∷ xs) Γ))
    all_in (x ∷ xs) (i ∷ is) Γ =
        let n : ℕ = twice (number x) in
        let Γ₁ : List (Item 𝓤) = laid 𝓛 xs is (gone 𝓛 x Γ) in
        let Γ₂ : List (Item 𝓤) = put 𝓛 (suc n) i.1 Γ₁ in
        qed 𝓛 (((i.0 ⊛ i.1) ⊛ raw (Both is)) ∷ raw (⋆ 𝓛 (blank 𝓛 (x ∷ xs) Γ)) ∷ []) ∵ split ! $ move ! (1 ∷ 2 ∷ []) $
        use2 𝓛 (raw (⋆ 𝓛 Γ₁)) (all_in xs is (gone 𝓛 x Γ)) $ move ! (1 ∷ []) $ split ! $ move ! (1 ∷ 2 ∷ []) $
        use2 𝓛 (raw (⋆ 𝓛 Γ₂)) (put_in (suc n) i.1 Γ₁) $ move ! (1 ∷ 0 ∷ []) $ by ! (put_in n i.0 Γ₂)

-- all are lent
module _ {M : Type 1} {𝓤 : Ura M} (𝓛 : Logic 𝓤) where
  open 𝓛 use {H}

  abbrev Lent-all : (xs : List Pass) → ℕ → Choices xs → SProp 𝓤
  Lent-all [] i c = emp 𝓤
  Lent-all (x ∷ xs) i c = sep 𝓤 (sep 𝓤 (sem 𝓛 (flft (life x c.0.0) (share x))) (sem 𝓛 (lent_to x i (life x c.0.0) c.0.1))) (Lent-all xs (suc i) c.1)

  abbrev Kept-all : (xs : List Pass) → Choices xs → SProp 𝓤
  Kept-all [] c = emp 𝓤
  Kept-all (x ∷ xs) c = sep 𝓤 (sem 𝓛 (kept x c.0.0 c.0.1)) (Kept-all xs c.1)

  lend_all : (xs : List Pass) (i : ℕ) → ent 𝓤 (Both 𝓛 (wants 𝓛 xs)) (H.⇛ (ex 𝓤 (λ (c : Choices xs). sep 𝓤 (Lent-all xs i c) (Kept-all xs c))))
  lend_all [] i = qed 𝓛 (‵ ftrue ∷ []) ∵ updating ! $ at_once ! $ show ! (λ (c : Unit {0}). sep 𝓤 (emp 𝓤) (emp 𝓤)) tt $ nothing ! $ done !
  lend_all (x ∷ xs) i =
      qed 𝓛 ((‵ (here x) ⊛ ‵ (token x)) ∷ raw (Both 𝓛 (wants 𝓛 xs)) ∷ []) ∵ updating ! $
      use1 𝓛 (later (some (λ (c : ℕ × GName). ‵ (flft (life x c.0) (share x)) ⊛ ‵ (lent_to x i (life x c.0) c.1) ⊛ ‵ (kept x c.0 c.1)))) (lend 𝓛 x i) $ await ! tt $ pick ! (λ c. split ! $ move ! (1 ∷ []) $ split ! $ move ! (3 ∷ []) $
      use1 𝓛 (later (some (λ (cs : Choices xs). raw (Lent-all xs (suc i) cs) ⊛ raw (Kept-all xs cs)))) (lend_all xs (suc i)) $ await ! tt $ pick ! (λ cs. split ! $ at_once ! $
      show ! (λ (d : Choices (x ∷ xs)). sep 𝓤 (Lent-all (x ∷ xs) i d) (Kept-all (x ∷ xs) d)) (c, cs) $
      -- [the others lent; the others kept; what is lent; what is kept; the token]
      move ! (3 ∷ 1 ∷ []) $ join ! $ move ! (3 ∷ 2 ∷ []) $ join ! $ move ! (0 ∷ 2 ∷ []) $ join ! $ done !))

  -- as the callee's parameters
  module _ (n : ℕ) (ks : List Datum) (κs : Lfts n) (b : Denots (rows_of n ks κs)) where
    abbrev refs : (xs : List Pass) (i : ℕ) (π : Lfts n → Lfts (lives (taken xs))) → Choices xs → Denots (types_of n ks κs (taken xs) i π)
    refs [] i π c = b
    refs (x ∷ xs) i π c = (ref x i (π κs).0 c.0.1, refs xs (suc i) (λ κs. (π κs).1) c.1)

    abbrev vals_for : (xs : List Pass) (i : ℕ) (π : Lfts n → Lfts (lives (taken xs))) → Valss (types_of n ks κs (taken xs) i π)
    vals_for [] i π = vals_of n ks κs b
    vals_for (x ∷ xs) i π = (counted x ∷ [], vals_for xs (suc i) (λ κs. (π κs).1))

    given_is : (xs : List Pass) (i : ℕ) (π : Lfts n → Lfts (lives (taken xs))) (c : Choices xs) → lists_of n ks κs (taken xs) i π (refs xs i π c) ≡ given xs
    given_is [] i π c = refl
    given_is (lend_mut p S ys e ∷ xs) i π c = ap (λ (X : Lists (taken xs)). (ys, X)) (given_is xs (suc i) (λ κs. (π κs).1) c.1)
    given_is (lend_shr cp p S ys e ∷ xs) i π c = ap (λ (X : Lists (taken xs)). (ys, X)) (given_is xs (suc i) (λ κs. (π κs).1) c.1)
    given_is (pass_shr cp p S ys e ∷ xs) i π c = ap (λ (X : Lists (taken xs)). (ys, X)) (given_is xs (suc i) (λ κs. (π κs).1) c.1)

    plain_is : (xs : List Pass) (i : ℕ) (π : Lfts n → Lfts (lives (taken xs))) (c : Choices xs) → plains_of n ks κs (taken xs) i π (refs xs i π c) ≡ b
    plain_is [] i π c = refl
    plain_is (x ∷ xs) i π c = plain_is xs (suc i) (λ κs. (π κs).1) c.1

    vals_are : (xs : List Pass) (i : ℕ) (π : Lfts n → Lfts (lives (taken xs))) → flat (types_of n ks κs (taken xs) i π) (vals_for xs i π) ≡ wides xs (flat (rows_of n ks κs) (vals_of n ks κs b))
    vals_are [] i π = refl
    vals_are (x ∷ xs) i π = ap (λ (v : Val). v ∷ flat (types_of n ks κs (taken xs) (suc i) (λ κs. (π κs).1)) (vals_for xs (suc i) (λ κs. (π κs).1))) (counted_is x) ∙ ap (λ (vs : List Val). wide x ∷ vs) (vals_are xs (suc i) (λ κs. (π κs).1))

    abbrev Asked : (xs : List Pass) (i : ℕ) (π : Lfts n → Lfts (lives (taken xs))) → Choices xs → SProp 𝓤
    Asked xs i π c = sep 𝓤 (toks 𝓛 (lives (taken xs)) (π κs) (shares_of xs)) (sem 𝓛 (owns (types_of n ks κs (taken xs) i π) (refs xs i π c) (vals_for xs i π)))

    one_more : (x : Pass) (i : ℕ) (c : ℕ × GName) (κ : Lft) → κ ≡ life x c.0 → (P Q : SProp 𝓤) (G : Fml) → ent 𝓤 P (sep 𝓤 Q (sem 𝓛 G))
        → ent 𝓤 (sep 𝓤 (sep 𝓤 (sem 𝓛 (flft (life x c.0) (share x))) (sem 𝓛 (lent_to x i (life x c.0) c.1))) P) (sep 𝓤 (sep 𝓤 (sem 𝓛 (flft κ (share x))) Q) (sem 𝓛 (fsep (lent_to x i κ c.1) G)))
    one_more x i c κ e P Q G h =
        let T : Fml = flft (life x c.0) (share x) in
        let O : Fml = lent_to x i (life x c.0) c.1 in
        subst (λ (κ : Lft). ent 𝓤 (sep 𝓤 (sep 𝓤 (sem 𝓛 T) (sem 𝓛 O)) P) (sep 𝓤 (sep 𝓤 (sem 𝓛 (flft κ (share x))) Q) (sem 𝓛 (fsep (lent_to x i κ c.1) G)))) (sym e)
        (qed 𝓛 ((‵ T ⊛ ‵ O) ∷ raw P ∷ []) ∵ split ! $ move ! (2 ∷ []) $ use1 𝓛 (raw Q ⊛ ‵ G) h $ split ! $ move ! (2 ∷ 0 ∷ []) $ join ! $ move ! (2 ∷ 1 ∷ []) $ fjoin ! $ move ! (1 ∷ 0 ∷ []) $ done !)

    hands : ent 𝓤 (emp 𝓤) (sem 𝓛 (owns (rows_of n ks κs) b (vals_of n ks κs b))) → (xs : List Pass) (i : ℕ) (π : Lfts n → Lfts (lives (taken xs))) (c : Choices xs) → π κs ≡ lives_of xs c → ent 𝓤 (Lent-all xs i c) (Asked xs i π c)
    hands h [] i π c e = via 𝓤 _ (emp∗ 𝓤 (emp 𝓤)) (mono_r 𝓤 (emp 𝓤) h)
    hands h (x ∷ xs) i π c e =
        let π' : Lfts n → Lfts (lives (taken xs)) = λ κs. (π κs).1 in
        one_more x i c.0 (π κs).0 (ap (λ v. v.0) e) (Lent-all xs (suc i) c.1) (toks 𝓛 (lives (taken xs)) (π' κs) (shares_of xs)) (owns (types_of n ks κs (taken xs) (suc i) π') (refs xs (suc i) π' c.1) (vals_for xs (suc i) π'))
        (hands h xs (suc i) π' c.1 (ap (λ v. v.1) e))

    -- and come back
    abbrev LastsFor : (xs : List Pass) (i : ℕ) (π : Lfts n → Lfts (lives (taken xs))) → Choices xs → Type 0
    LastsFor xs i π c = Fins κs (params_of n ks (taken xs) i π) (all yes (params_of n ks (taken xs) i π)) (refs xs i π c)

    abbrev last_for : (xs : List Pass) (i : ℕ) (π : Lfts n → Lfts (lives (taken xs))) (c : Choices xs) → LastsFor xs i π c → Fml
    last_for xs i π c ws = lasts_of κs (params_of n ks (taken xs) i π) (all yes (params_of n ks (taken xs) i π)) (refs xs i π c) ws

    abbrev left_for : (xs : List Pass) (i : ℕ) (π : Lfts n → Lfts (lives (taken xs))) (c : Choices xs) → LastsFor xs i π c → Lefts (taken xs)
    left_for xs i π c ws = lefts_of n ks κs (taken xs) i π (outs κs (params_of n ks (taken xs) i π) (all yes (params_of n ks (taken xs) i π)) (refs xs i π c) ws)

    abbrev Comes : (xs : List Pass) (i : ℕ) (π : Lfts n → Lfts (lives (taken xs))) (c : Choices xs) → LastsFor xs i π c → Type 1
    Comes xs i π c ws = ent 𝓤 (sep 𝓤 (toks 𝓛 (lives (taken xs)) (π κs) (shares_of xs)) (sep 𝓤 (sem 𝓛 (last_for xs i π c ws)) (Kept-all xs c))) (H.⇛ (guard 𝓤 (LeftFor xs (left_for xs i π c ws)) (Both 𝓛 (lefts 𝓛 xs (left_for xs i π c ws)))))

    -- one, and the others
    one_comes : (x : Pass) (xs : List Pass) (i : ℕ) (π : Lfts n → Lfts (lives (taken (x ∷ xs)))) (c : Choices (x ∷ xs)) → π κs ≡ lives_of (x ∷ xs) c
        → (w : Last ((lent_at i (theirs x) (π κs).0).exit yes) (ref x i (π κs).0 c.0.1)) (ws : LastsFor xs (suc i) (λ κs. (π κs).1) c.1) {χ : Type 0} → (LongFor 𝓛 x i (π κs).0 c.0.1 w → LeftFor xs (left_for xs (suc i) (λ κs. (π κs).1) c.1 ws) → χ) → Comes xs (suc i) (λ κs. (π κs).1) c.1 ws
        → ent 𝓤 (sep 𝓤 (toks 𝓛 (lives (taken (x ∷ xs))) (π κs) (shares_of (x ∷ xs))) (sep 𝓤 (sem 𝓛 (fsep (left ((lent_at i (theirs x) (π κs).0).exit yes) (ref x i (π κs).0 c.0.1) w) (last_for xs (suc i) (λ κs. (π κs).1) c.1 ws))) (Kept-all (x ∷ xs) c)))
        (H.⇛ (guard 𝓤 χ (sep 𝓤 (sep 𝓤 (sem 𝓛 (after 𝓛 x i (π κs).0 c.0.1 w)) (sem 𝓛 (token x))) (Both 𝓛 (lefts 𝓛 xs (left_for xs (suc i) (λ κs. (π κs).1) c.1 ws))))))
    one_comes x xs i π c e w ws {χ} both h =
        let κ : Lft = (π κs).0 in
        let π' : Lfts n → Lfts (lives (taken xs)) = λ κs. (π κs).1 in
        let δ : GName = c.0.1 in
        let Z : Lefts (taken xs) = left_for xs (suc i) π' c.1 ws in
        let L : Fml = left ((lent_at i (theirs x) κ).exit yes) (ref x i κ δ) w in
        let G : Fml = last_for xs (suc i) π' c.1 ws in
        let F : Fml = after 𝓛 x i κ δ w in
        let Q : SProp 𝓤 = toks 𝓛 (lives (taken xs)) (π' κs) (shares_of xs) in
        let P : SProp 𝓤 = Kept-all xs c.1 in
        let P' : SProp 𝓤 = Both 𝓛 (lefts 𝓛 xs Z) in
        qed 𝓛 ((‵ (flft κ (share x)) ⊛ raw Q) ∷ ‵ (fsep L G) ∷ (‵ (kept x c.0.0 δ) ⊛ raw P) ∷ []) ∵ updating ! $ split ! $ move ! (2 ∷ []) $ fsplit ! $ move ! (4 ∷ []) $ split ! $
        -- [what is kept; P; what is said at exit; G; the token; Q]
        move ! (4 ∷ 2 ∷ 0 ∷ []) $
        use3 𝓛 (later (provided (LongFor 𝓛 x i κ δ w) (‵ F ⊛ ‵ (token x)))) (subst (λ (κ : Lft). Backed 𝓛 x i κ c.0.0 δ) (sym (ap (λ v. v.0) e)) (back 𝓛 x i c.0.0 δ) w) $ await ! tt $ learn ! (λ long. move ! (3 ∷ 2 ∷ 1 ∷ []) $
        use3 𝓛 (later (provided (LeftFor xs Z) (raw P'))) h $ await ! tt $ learn ! (λ others. at_once ! $ suffices ! (sep 𝓤 (sep 𝓤 (sem 𝓛 F) (sem 𝓛 (token x))) P') (guard_i 𝓤 χ _ (both long others)) $ move ! (1 ∷ 0 ∷ []) $ done !))

    comes : (xs : List Pass) (i : ℕ) (π : Lfts n → Lfts (lives (taken xs))) (c : Choices xs) → π κs ≡ lives_of xs c → (ws : LastsFor xs i π c) → Comes xs i π c ws
    comes [] i π c e ws = via 𝓤 _ (via 𝓤 _ (top 𝓤 _) (guard_i 𝓤 (Unit {0}) (emp 𝓤) tt)) (𝓛.laws.⇛_intro _)
    comes (lend_mut p S ys l ∷ xs) i π c e ws = one_comes (lend_mut p S ys l) xs i π c e ws.0 ws.1 (λ long others. (long, others)) (comes xs (suc i) (λ κs. (π κs).1) c.1 (ap (λ v. v.1) e) ws.1)
    comes (lend_shr cp p S ys l ∷ xs) i π c e ws = one_comes (lend_shr cp p S ys l) xs i π c e ws.0 ws.1 (λ _ others. others) (comes xs (suc i) (λ κs. (π κs).1) c.1 (ap (λ v. v.1) e) ws.1)
    comes (pass_shr cp p S ys l ∷ xs) i π c e ws = one_comes (pass_shr cp p S ys l) xs i π c e ws.0 ws.1 (λ _ others. others) (comes xs (suc i) (λ κs. (π κs).1) c.1 (ap (λ v. v.1) e) ws.1)

-- ---- the call
module _ {M : Type 1} {𝓤 : Ura M} {𝓛 : Logic 𝓤} {K : Type 0} {Γ : List (Item 𝓤)} {E : Env 𝓤 𝓛.H} {P : Post 𝓤 𝓛.H} {f : Callee} {xs : List Operand} {d : Place} {B : Body} where
  -- that the slices stand at their numbers is `λ _. refl`
  open 𝓛 use {H}

  pub calls_slices : K → (𝓣 : Tables 𝓤 H) (ps : List Pass) → Stand 𝓛 ps Γ → (s : Site f xs d B) (F : SlicesFn (taken ps)) → Triple 𝓤 (𝓣.C f) (ContractSlices F 𝓛) → (a : Data F.takes) → Known F.takes a → Met F.asks (given ps) a
      → ((P' R' : SProp 𝓤) → Opds K 𝓛 (raw P' ∷ raw R' ∷ blank 𝓛 ps Γ) E xs (wides ps (machine F.takes a)))
      → ((r : F.gives.row.Denot) (Z : Lefts (taken ps)) → Is F.gives.row r (F.gives.val r ∷ []) → Typed F.gives.row.mir (F.gives.val r ∷ []) → LeftFor ps Z → F.says (given ps) a r Z → Seq K 𝓛 (left_at 𝓛 ps Z Γ) (landing s 𝓣.C 𝓣.Λ E (F.gives.val r) P))
      → Seq K 𝓛 Γ (runs 𝓣.C 𝓣.Λ E B P)
  calls_slices t 𝓣 ps there s F known a are pre os k =
      let n : ℕ = lives (taken ps) in
      let ks : List Datum = F.takes in
      let π : Lfts n → Lfts n = λ κs. κs in
      let out : ent 𝓤 (⋆ 𝓛 Γ) (sep 𝓤 (Both 𝓛 (wants 𝓛 ps)) (⋆ 𝓛 (blank 𝓛 ps Γ))) = subst (λ (is : List (Item 𝓤 × Item 𝓤)). ent 𝓤 (⋆ 𝓛 Γ) (sep 𝓤 (Both 𝓛 is) (⋆ 𝓛 (blank 𝓛 ps Γ)))) (ap (λ v. v.0) (there (still ps))) (all_out 𝓛 ps Γ) in
      changes t (raw (Both 𝓛 (wants 𝓛 ps)) ∷ blank 𝓛 ps Γ) (via 𝓤 _ out (push 𝓛 (raw (Both 𝓛 (wants 𝓛 ps))) (blank 𝓛 ps Γ))) $
      use1 𝓛 (later (some (λ (c : Choices ps). raw (Lent-all 𝓛 ps 0 c) ⊛ raw (Kept-all 𝓛 ps c)))) (lend_all 𝓛 ps 0) $ await t tt $ pick t (λ c. split t $
      let κs : Lfts n = lives_of ps c in
      let b : Denots (rows_of n ks κs) = at n ks κs a in
      let x : Denots (types_of n ks κs (taken ps) 0 π) = refs 𝓛 n ks κs b ps 0 π c in
      let y : (ContractSlices F 𝓛).Ghost = ((κs, shares_of ps, tt, x, vals_for 𝓛 n ks κs b ps 0 π), tt) in
      let lists-are : entered F κs x ≡ given ps = given_is 𝓛 n ks κs b ps 0 π c in
      let plain_are : passed F κs x ≡ a = ap (from n ks κs) (plain_is 𝓛 n ks κs b ps 0 π c) ∙ from_at n ks κs a in
      let met : Met F.asks (entered F κs x) (passed F κs x) = subst (λ (X : Lists (taken ps)). Met F.asks X (passed F κs x)) (sym lists-are) (subst (Met F.asks (given ps)) (sym plain_are) pre) in
      use1 𝓛 (raw ((ContractSlices F 𝓛).pre y))
      (qed 𝓛 (raw (Lent-all 𝓛 ps 0 c) ∷ []) ∵ use1 𝓛 (raw (Asked 𝓛 n ks κs b ps 0 π c)) (hands 𝓛 n ks κs b (had n 𝓛 ks κs a are) ps 0 π c refl) $
      use0 𝓛 (raw (asked 𝓤 F.asks (entered F κs x) (passed F κs x))) (ask_in 𝓤 F.asks (entered F κs x) (passed F κs x) met) $ move ! (1 ∷ 0 ∷ []) $ done !) $
      calls_there t s (fm_of 𝓤 H 𝓛.laws 𝓣) (ContractSlices F 𝓛) known y
      (subst (λ (vs : List Val). Opds K 𝓛 (raw ((ContractSlices F 𝓛).pre y) ∷ raw (Kept-all 𝓛 ps c) ∷ blank 𝓛 ps Γ) E xs vs) (sym (vals_are 𝓛 n ks κs b ps 0 π ∙ ap (wides ps) (flat_at n ks κs a))) (os _ _)) (λ w.
      let says : F.gives.row.Denot → Lasts (slices_t F) κs x → Type 0 = λ r ws. F.says (entered F κs x) (passed F κs x) r (left_for 𝓛 n ks κs b ps 0 π c ws) in
      use1 𝓛 (later (some (λ (r : F.gives.row.Denot). (raw (toks 𝓛 n κs (shares_of ps)) ⊛ ‵ (F.gives.row.own_val r (w ∷ []))) ⊛ some (λ (ws : Lasts (slices_t F) κs x). ‵ (lasts (slices_t F) κs x ws) ⊛ raw (fact 𝓤 (says r ws)))))) (id⊢ 𝓤 _) $ await t (soaks s 𝓣.C 𝓣.Λ E w P) $ pick t (λ r.
      split t $ move t (1 ∷ []) $ pick t (λ ws. split t $ move t (1 ∷ []) $ heard t (says r ws) (λ e.
      -- [what is said of the lists; the tokens and the result; what is kept; the others]
      let Z : Lefts (taken ps) = left_for 𝓛 n ks κs b ps 0 π c ws in
      move t (1 ∷ []) $ split t $ move t (1 ∷ []) $ result s 𝓣.C 𝓣.Λ E P t F.gives r w (λ is ty.
      use3 𝓛 (later (provided (LeftFor ps Z) (raw (Both 𝓛 (lefts 𝓛 ps Z))))) (comes 𝓛 n ks κs b ps 0 π c refl ws) $ await t (soaks s 𝓣.C 𝓣.Λ E (F.gives.val r) P) $ learn t (λ long.
      changes t (left_at 𝓛 ps Z Γ) (subst (λ (Δ : List (Item 𝓤)). ent 𝓤 (⋆ 𝓛 (raw (Both 𝓛 (lefts 𝓛 ps Z)) ∷ blank 𝓛 ps Γ)) (⋆ 𝓛 Δ)) (ap (λ v. v.1) (there Z)) (via 𝓤 _ (pop 𝓛 (raw (Both 𝓛 (lefts 𝓛 ps Z))) (blank 𝓛 ps Γ)) (all_in 𝓛 ps (lefts 𝓛 ps Z) Γ))) $
      k r Z is ty long (subst (λ (X : Lists (taken ps)). F.says X a r Z) lists-are (subst (λ (c : Data ks). F.says (entered F κs x) c r Z) plain_are e)))))))))

-- ---- few slices, at the head of the context
module _ {M : Type 1} {𝓤 : Ura M} {𝓛 : Logic 𝓤} {K : Type 0} {Γ : List (Item 𝓤)} {E : Env 𝓤 𝓛.H} {xs : List Operand} {vs : List Val} where
  -- what an operand reads does not turn on what the entries before the locals are
  hidden : (P : SProp 𝓤) (Φ : List (Item 𝓤)) → Opds K 𝓛 (raw P ∷ raw (⋆ 𝓛 Φ) ∷ Γ) E xs vs → Opds K 𝓛 (raw P ∷ Φ ++ Γ) E xs vs
  hidden P Φ o = record {
    go = λ Kt h. via 𝓤 _ (under⊢ 𝓛 (raw P) (Φ ++ Γ) (raw (⋆ 𝓛 Φ) ∷ Γ) (pack⊢ 𝓛 Φ Γ)) (o.go Kt (via 𝓤 _ (under⊢ 𝓛 (raw P) (raw (⋆ 𝓛 Φ) ∷ Γ) (Φ ++ Γ) (unpack⊢ 𝓛 Φ Γ)) h));
  }

  joined : (P R : SProp 𝓤) → Opds K 𝓛 (raw (sep 𝓤 P R) ∷ Γ) E xs vs → Opds K 𝓛 (raw P ∷ raw R ∷ Γ) E xs vs
  joined P R o = record { go = λ Kt h. via 𝓤 _ (pack⊢ 𝓛 (raw P ∷ raw R ∷ []) Γ) (o.go Kt (via 𝓤 _ (unpack⊢ 𝓛 (raw P ∷ raw R ∷ []) Γ) h)) }

module _ {M : Type 1} {𝓤 : Ura M} {𝓛 : Logic 𝓤} {K : Type 0} {Γ : List (Item 𝓤)} {E : Env 𝓤 𝓛.H} {P : Post 𝓤 𝓛.H} {f : Callee} {xs : List Operand} {d : Place} {B : Body} where
  open 𝓛 use {H}

  module _ (𝓣 : Tables 𝓤 H) {R : RattleType} (S : View R) (ys : List R.Denot) where
    pub calls_mut : K → (s : Site f xs d B) (F : MutFn R) → Triple 𝓤 (𝓣.C f) (ContractSlices (of_mut F) 𝓛) → (a : Data F.takes) → Known F.takes a → length ys ≡ S.count → Met F.asks ys a
        → ((P' R' : SProp 𝓤) → Opds K 𝓛 (raw P' ∷ raw R' ∷ Γ) E xs (fat S ∷ machine F.takes a))
        → ((r : F.gives.row.Denot) (zs : List R.Denot) → Is F.gives.row r (F.gives.val r ∷ []) → Typed F.gives.row.mir (F.gives.val r ∷ []) → length zs ≡ S.count → F.says ys a r zs → Seq K 𝓛 (‵ (Own S zs) ∷ ‵ (Tok S) ∷ Γ) (landing s 𝓣.C 𝓣.Λ E (F.gives.val r) P))
        → Seq K 𝓛 (‵ (Own S ys) ∷ ‵ (Tok S) ∷ Γ) (runs 𝓣.C 𝓣.Λ E B P)
    calls_mut t s F known a are l pre os k = calls_slices t 𝓣 (lend_mut 0 S ys l ∷ []) (λ _. refl) s (of_mut F) known a are (met_in (λ X. X.0) (ys, tt) a F.asks pre) (λ P' R'. hidden P' (raw R' ∷ ‵ ftrue ∷ ‵ ftrue ∷ []) (os _ _)) (λ r Z is ty long e. k r Z.0 is ty long.0 e)

    pub calls_shared : K → Copies R → (s : Site f xs d B) (F : ShrFn R) → Triple 𝓤 (𝓣.C f) (ContractSlices (of_shr F) 𝓛) → (a : Data F.takes) → Known F.takes a → length ys ≡ S.count → Met F.asks ys a
        → ((P' R' : SProp 𝓤) → Opds K 𝓛 (raw P' ∷ raw R' ∷ Γ) E xs (fat S ∷ machine F.takes a))
        → ((r : F.gives.row.Denot) → Is F.gives.row r (F.gives.val r ∷ []) → Typed F.gives.row.mir (F.gives.val r ∷ []) → F.says ys a r → Seq K 𝓛 (‵ (Own S ys) ∷ ‵ (Tok S) ∷ Γ) (landing s 𝓣.C 𝓣.Λ E (F.gives.val r) P))
        → Seq K 𝓛 (‵ (Own S ys) ∷ ‵ (Tok S) ∷ Γ) (runs 𝓣.C 𝓣.Λ E B P)
    calls_shared t cp s F known a are l pre os k = calls_slices t 𝓣 (lend_shr cp 0 S ys l ∷ []) (λ _. refl) s (of_shr F) known a are (met_in (λ X. X.0) (ys, tt) a F.asks pre) (λ P' R'. hidden P' (raw R' ∷ ‵ ftrue ∷ ‵ ftrue ∷ []) (os _ _)) (λ r _ is ty _ e. k r is ty e)

    pub calls_shr : K → Copies R → (s : Site f xs d B) (F : ShrFn R) → Triple 𝓤 (𝓣.C f) (ContractSlices (of_shr F) 𝓛) → (a : Data F.takes) → Known F.takes a → length ys ≡ S.count → Met F.asks ys a
        → ((P' R' : SProp 𝓤) → Opds K 𝓛 (raw P' ∷ raw R' ∷ Γ) E xs (fat S ∷ machine F.takes a))
        → ((r : F.gives.row.Denot) → Is F.gives.row r (F.gives.val r ∷ []) → Typed F.gives.row.mir (F.gives.val r ∷ []) → F.says ys a r → Seq K 𝓛 (‵ (Shr S ys) ∷ ‵ (Tok S) ∷ Γ) (landing s 𝓣.C 𝓣.Λ E (F.gives.val r) P))
        → Seq K 𝓛 (‵ (Shr S ys) ∷ ‵ (Tok S) ∷ Γ) (runs 𝓣.C 𝓣.Λ E B P)
    calls_shr t cp s F known a are l pre os k = calls_slices t 𝓣 (pass_shr cp 0 S ys l ∷ []) (λ _. refl) s (of_shr F) known a are (met_in (λ X. X.0) (ys, tt) a F.asks pre) (λ P' R'. hidden P' (raw R' ∷ ‵ ftrue ∷ ‵ ftrue ∷ []) (os _ _)) (λ r _ is ty _ e. k r is ty e)

    pub calls_both : K → Copies R → {D : RattleType} (O : View D) (os : List D.Denot) (s : Site f xs d B) (F : BothFn R D) → Triple 𝓤 (𝓣.C f) (ContractSlices (of_both F) 𝓛) → (a : Data F.takes) → Known F.takes a → length ys ≡ S.count → length os ≡ O.count → Met F.asks (ys, os) a
        → ((P' R' : SProp 𝓤) → Opds K 𝓛 (raw P' ∷ raw R' ∷ Γ) E xs (fat S ∷ fat O ∷ machine F.takes a))
        → ((r : F.gives.row.Denot) (zs : List D.Denot) → Is F.gives.row r (F.gives.val r ∷ []) → Typed F.gives.row.mir (F.gives.val r ∷ []) → length zs ≡ O.count → F.says ys os a r zs → Seq K 𝓛 (‵ (Shr S ys) ∷ ‵ (Tok S) ∷ ‵ (Own O zs) ∷ ‵ (Tok O) ∷ Γ) (landing s 𝓣.C 𝓣.Λ E (F.gives.val r) P))
        → Seq K 𝓛 (‵ (Shr S ys) ∷ ‵ (Tok S) ∷ ‵ (Own O os) ∷ ‵ (Tok O) ∷ Γ) (runs 𝓣.C 𝓣.Λ E B P)
    calls_both t cp O os s F known a are l l-o pre opds k = calls_slices t 𝓣 (pass_shr cp 0 S ys l ∷ lend_mut 1 O os l-o ∷ []) (λ _. refl) s (of_both F) known a are (met_in (λ X. (X.0, X.1.0)) (ys, (os, tt)) a F.asks pre)
        (λ P' R'. hidden P' (raw R' ∷ ‵ ftrue ∷ ‵ ftrue ∷ ‵ ftrue ∷ ‵ ftrue ∷ []) (opds _ _)) (λ r Z is ty long e. k r Z.0 is ty long.0 e)

  -- of a function with no slice
  pub calls_plain : K → (𝓣 : Tables 𝓤 H) (s : Site f xs d B) (F : PlainFn) → Triple 𝓤 (𝓣.C f) (ContractSlices (of_plain F) 𝓛) → (a : Data F.takes) → Known F.takes a → Met F.asks tt a
      → ((P' : SProp 𝓤) → Opds K 𝓛 (raw P' ∷ Γ) E xs (machine F.takes a))
      → ((r : F.gives.row.Denot) → Is F.gives.row r (F.gives.val r ∷ []) → Typed F.gives.row.mir (F.gives.val r ∷ []) → F.says a r → Seq K 𝓛 Γ (landing s 𝓣.C 𝓣.Λ E (F.gives.val r) P))
      → Seq K 𝓛 Γ (runs 𝓣.C 𝓣.Λ E B P)
  calls_plain t 𝓣 s F known a are pre os k = calls_slices t 𝓣 [] (λ _. refl) s (of_plain F) known a are (met_in (λ X. X) tt a F.asks pre) (λ P' R'. joined P' R' (os _)) (λ r _ is ty _ e. k r is ty e)
