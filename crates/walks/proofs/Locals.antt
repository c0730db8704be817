-- The locals of a walk: how a function is entered and left, and how a local is read and written.
--     Cell             what a local holds: a value, or nothing
--     slots E cs Γ     the locals of the environment E, holding cs, in front of Γ.        lay, deaths      the same as one formula; and that each local dies
--     index k Γ        where local k stands in the context Γ. What stands before the first local (slices, tokens, what a call holds) is passed over, so no walk counts places
--     front, cells, spots, Laid     what stands before the locals; what the locals hold, and where they lie, as the context shows it; and that the context is made of just these. `refl` shows it
--     starts           a function is entered: its locals are laid out, and its arguments stored.        returns      it returns: its locals are freed
--     keeps            all but the first locals are forgotten.
--     opd, part        a local is read, and a field of one.        sets, sets_last, lands_in, lands_last      a local is written, by an assignment or by a call, in the midst of a block or at its end
-- Assumes nothing. The rules of the logic, `Logic`, are an argument of each law.
use mathlib.Core.Path.{◌≡◌, refl, sym, ap, ◌∙◌, subst}
use Prim.Native.Nat.{ℕ, zero, suc, ◌+◌}
use mathlib.Core.List.{List, [], ◌∷◌, ◌++◌, map}
use mathlib.Core.Option.{some as just}
use seplogic.Ra.Ura.{Ura}
use base.Fraction.{full_share}
use lib.Dec.{T}
use mir.Syntax.{Sym, Ty, Tys, ty_struct, Opd as Operand, Local, local, Fn, Body, Rv as RValue, place, field, copy, seq, assign, return}
use mir.Val.{Val, Vals, vstruct, has_ty, WT}
use mir.Fields.{get_v, set_v}
use base.Logic.{SProp, ent, via, assoc∗, assoc', mono_l, mono_r, snd∗, emp∗}
use base.Fml.{Share, Fml, ftrue, ffalse, feq, flt, fsep, fand, for, fwand, fex, fall, fupd, fhide, fat, froom, fleft, fdies, flft, fdead, fobs, fauth, fres, fown, fbor, fobor, flent, fshr_bor, finv, fnamed, ftok, fkid, fme, fsent}
use prog.Memory.{field_at}
use prog.Wp.{Env, Calls, Loops, WpFn, Spot, spot_of, at_return, next, returns as returnsᴼ}
use types.Logic.{Logic, sem}
use types.Kit.{Go, !, Item, ‵, raw, ◌⊛◌, some, given, later, nth, put, Post, post, lands, settles, Goal, allocs, passes, params', frees, runs, at_ret, prop, Seq, Step, step, push, pop, mean, ⋆, ++⊢, ◌$◌, move, drop, fsplit, fjoin}
use types.Run.{Reads, Writes, Walks, alloc1, alloc0, params1, pass1, pass0, free1, free0, init, store, forget, enter, Opd, Opds, and_then, Rv, look, load, fld, from, stop, land, land_last, assigns, assigns_last, returns_within}
use types.Part.{Part, whole, sub, look_in}
use denote.Steps.{nothing}

-- the operands of a call
infixr 5 ◌&◌
pub ◌&◌ : {M : Type 1} {𝓤 : Ura M} {𝓛 : Logic 𝓤} {Γ : List (Item 𝓤)} {E : Env 𝓤 𝓛.H} {x : Operand} {xs : List Operand} {v : Val} {vs : List Val} → Opd (Go {0}) 𝓛 Γ E x v → Opds (Go {0}) 𝓛 Γ E xs vs → Opds (Go {0}) 𝓛 Γ E (x ∷ xs) (v ∷ vs)
o & os = and_then ! o os

-- ---- what a local holds
pub data Cell : Type 0 where
  none : Cell
  has : Val → Cell

abbrev pub first : List Cell → Cell
first [] = none
first (c ∷ cs) = c

abbrev pub others : List Cell → List Cell
others [] = []
others (c ∷ cs) = cs

abbrev pub cell : Ty × ℕ → Cell → Fml
cell e none = froom e.0 e.1 zero
cell e (has v) = fat full_share e.0 e.1 zero v

abbrev pub stored : List Val → List Cell
stored [] = []
stored (v ∷ vs) = has v ∷ stored vs

-- the first n
abbrev pub only : ℕ → List Cell → List Cell
only zero cs = []
only (suc n) cs = first cs ∷ only n (others cs)

abbrev pub lay : List (Ty × ℕ) → List Cell → Fml
lay [] cs = ftrue
lay (e ∷ E) cs = fsep (cell e (first cs)) (lay E (others cs))

abbrev pub deaths : List (Ty × ℕ) → Fml
deaths [] = ftrue
deaths (e ∷ E) = fsep (fdies e.0 e.1) (deaths E)

abbrev pub slots : {M : Type 1} {𝓤 : Ura M} → List (Ty × ℕ) → List Cell → List (Item 𝓤) → List (Item 𝓤)
slots [] cs Γ = Γ
slots (e ∷ E) cs Γ = ‵ (cell e (first cs)) ∷ slots E (others cs) Γ

-- what a walk has between two statements: a slice, its token, and the locals
abbrev pub holding : {M : Type 1} {𝓤 : Ura M} → Fml → Fml → List (Ty × ℕ) → List Cell → List (Item 𝓤)
holding s t E cs = ‵ s ∷ ‵ t ∷ slots E cs (‵ (deaths E) ∷ [])

-- where the locals lie
abbrev pub Blocks : List Local → Type 0
Blocks [] = Unit {0}
Blocks (l ∷ ls) = ℕ × Blocks ls

abbrev pub env : (ls : List Local) → Blocks ls → List (Ty × ℕ)
env [] bs = []
env (local τ h ∷ ls) bs = (τ, bs.0) ∷ env ls bs.1

-- the arguments are of the parameters' types
abbrev pub Suits : List (Ty × ℕ) → List Val → Type 0
Suits E [] = Unit {0}
Suits [] (v ∷ vs) = ⊥
Suits (e ∷ E) (v ∷ vs) = (T (has_ty e.0 v) × WT v) × Suits E vs

-- ---- the same, as a context shows it
-- an entry of a context: a local's cell, or something else
pub data Seen : Type 0 where
  else : Seen
  at : Ty × ℕ → Cell → Seen

abbrev seen : Fml → Seen
seen ftrue = else
seen ffalse = else
seen (feq x y z) = else
seen (flt x y) = else
seen (fsep x y) = else
seen (fand x y) = else
seen (for x y) = else
seen (fwand x y) = else
seen (fex x y) = else
seen (fall x y) = else
seen (fupd x) = else
seen (fhide x) = else
seen (fat q τ b o v) = at (τ, b) (has v)
seen (froom τ b o) = at (τ, b) none
seen (fleft q τ τs b o) = else
seen (fdies x y) = else
seen (flft x y) = else
seen (fdead x) = else
seen (fobs x y) = else
seen (fauth x y) = else
seen (fres x y) = else
seen (fown R x y) = else
seen (fbor x y) = else
seen (fobor x y z) = else
seen (flent x y) = else
seen (fshr_bor x y) = else
seen (finv x) = else
seen (fnamed x y) = else
seen (ftok x) = else
seen (fkid x y) = else
seen (fme x) = else
seen (fsent x) = else

abbrev pick {ℓ} : {X : Type ℓ} → Seen → (Ty × ℕ → Cell → X) → X → X
pick else f x = x
pick (at e c) f x = f e c

module _ {M : Type 1} {𝓤 : Ura M} where
  abbrev sees : Item 𝓤 → Seen
  sees (‵ F) = seen F
  sees (raw P) = else
  sees (i ⊛ j) = else
  sees (some I) = else
  sees (given X i) = else
  sees (later i) = else

  -- the cell there, or none
  abbrev pub held : Item 𝓤 → Cell
  held i = pick (sees i) (λ _ c. c) none

  abbrev pub index : ℕ → List (Item 𝓤) → ℕ
  index k [] = k
  index k (i ∷ Γ) = let there = suc (index k Γ) in pick (sees i) (λ _ _. k) there

  abbrev pub front : List (Item 𝓤) → List (Item 𝓤)
  front [] = []
  front (i ∷ Γ) = let more = i ∷ front Γ in pick (sees i) (λ _ _. []) more

  -- the locals, from the first on, where nothing else stands between them
  abbrev run : List (Item 𝓤) → List ((Ty × ℕ) × Cell)
  run [] = []
  run (i ∷ Γ) = pick (sees i) (λ e c. (e, c) ∷ run Γ) []

  abbrev locals : List (Item 𝓤) → List ((Ty × ℕ) × Cell)
  locals [] = []
  locals (i ∷ Γ) = let more = locals Γ in pick (sees i) (λ e c. (e, c) ∷ run Γ) more

  abbrev pub spots : List (Item 𝓤) → List (Ty × ℕ)
  spots Γ = map (λ x. x.0) (locals Γ)

  abbrev pub cells : List (Item 𝓤) → List Cell
  cells Γ = map (λ x. x.1) (locals Γ)

  abbrev pub Laid : List (Ty × ℕ) → List (Item 𝓤) → Type 2
  Laid E Γ = Γ ≡ front Γ ++ slots E (cells Γ) (‵ (deaths E) ∷ [])

-- local k's entry, and the context with j there. Each names the context once: what a step's context names twice, the next step goes through twice, and the step after it four times
module _ {M : Type 1} {𝓤 : Ura M} (𝓛 : Logic 𝓤) where
  abbrev pub local_at : ℕ → List (Item 𝓤) → Item 𝓤
  local_at k [] = ‵ ftrue
  local_at k (i ∷ Γ) = let more = local_at k Γ in pick (sees i) (λ _ _. nth 𝓛 k (i ∷ Γ)) more

  abbrev pub put_local : ℕ → Item 𝓤 → List (Item 𝓤) → List (Item 𝓤)
  put_local k j [] = []
  put_local k j (i ∷ Γ) = let more = i ∷ put_local k j Γ in pick (sees i) (λ _ _. put 𝓛 k j (i ∷ Γ)) more

  seen_at : (x : Seen) (k n : ℕ) (i : Item 𝓤) (Γ : List (Item 𝓤)) {j : Item 𝓤} → nth 𝓛 n Γ ≡ j → nth 𝓛 (pick x (λ _ _. k) (suc n)) (i ∷ Γ) ≡ pick x (λ _ _. nth 𝓛 k (i ∷ Γ)) j
  seen_at else k n i Γ e = e
  seen_at (at y c) k n i Γ e = refl

  pub at_index : (k : ℕ) (Γ : List (Item 𝓤)) → nth 𝓛 (index k Γ) Γ ≡ local_at k Γ
  at_index k [] = refl
  at_index k (i ∷ Γ) = seen_at (sees i) k (index k Γ) i Γ (at_index k Γ)

  seen_put : (x : Seen) (k n : ℕ) (j i : Item 𝓤) (Γ : List (Item 𝓤)) {Δ : List (Item 𝓤)} → put 𝓛 n j Γ ≡ Δ → put 𝓛 (pick x (λ _ _. k) (suc n)) j (i ∷ Γ) ≡ pick x (λ _ _. put 𝓛 k j (i ∷ Γ)) (i ∷ Δ)
  seen_put else k n j i Γ e = ap (λ (Θ : List (Item 𝓤)). i ∷ Θ) e
  seen_put (at y c) k n j i Γ e = refl

  pub put_index : (k : ℕ) (j : Item 𝓤) (Γ : List (Item 𝓤)) → put 𝓛 (index k Γ) j Γ ≡ put_local k j Γ
  put_index k j [] = refl
  put_index k j (i ∷ Γ) = seen_put (sees i) k (index k Γ) j i Γ (put_index k j Γ)

module _ {M : Type 1} {𝓤 : Ura M} (𝓛 : Logic 𝓤) (Γ : List (Item 𝓤)) (E : Env 𝓤 𝓛.H) (k : ℕ) where
  -- where local k lies; that the context has its cell; and the context with v in it
  open 𝓛 use {H}

  abbrev here : Ty × ℕ
  here = ((spot_of 𝓤 H E k).0, (spot_of 𝓤 H E k).1)

  abbrev pub Shown : Type 2
  Shown = local_at 𝓛 k Γ ≡ ‵ (cell here (held (local_at 𝓛 k Γ)))

  abbrev pub with : Val → List (Item 𝓤)
  with v = put_local 𝓛 k (‵ (fat full_share (spot_of 𝓤 H E k).0 (spot_of 𝓤 H E k).1 zero v)) Γ

  abbrev pub Fits : Val → Type 0
  Fits v = T (has_ty (spot_of 𝓤 H E k).0 v) × WT v

-- ---- the locals as one formula, and what stands before them as one entry
module _ {M : Type 1} {𝓤 : Ura M} (𝓛 : Logic 𝓤) where
  out⊢ : (E : List (Ty × ℕ)) (cs : List Cell) (Γ : List (Item 𝓤)) → ent 𝓤 (⋆ 𝓛 (‵ (lay E cs) ∷ Γ)) (⋆ 𝓛 (slots E cs Γ))
  out⊢ [] cs Γ = via 𝓤 _ (pop 𝓛 (‵ ftrue) Γ) (snd∗ 𝓤 (sem 𝓛 ftrue) (⋆ 𝓛 Γ))
  out⊢ (e ∷ E) cs Γ =
      let c : Fml = cell e (first cs) in
      let l : Fml = lay E (others cs) in
      via 𝓤 _ (via 𝓤 _ (pop 𝓛 (‵ (fsep c l)) Γ) (assoc∗ 𝓤 (sem 𝓛 c) (sem 𝓛 l) (⋆ 𝓛 Γ)))
      (via 𝓤 _ (mono_r 𝓤 (sem 𝓛 c) (via 𝓤 _ (push 𝓛 (‵ l) Γ) (out⊢ E (others cs) Γ))) (push 𝓛 (‵ c) (slots E (others cs) Γ)))

  pub under⊢ : (i : Item 𝓤) (Γ Δ : List (Item 𝓤)) → ent 𝓤 (⋆ 𝓛 Γ) (⋆ 𝓛 Δ) → ent 𝓤 (⋆ 𝓛 (i ∷ Γ)) (⋆ 𝓛 (i ∷ Δ))
  under⊢ i Γ Δ h = via 𝓤 _ (pop 𝓛 i Γ) (via 𝓤 _ (mono_r 𝓤 (mean 𝓛 i) h) (push 𝓛 i Δ))

  back⊢ : (E : List (Ty × ℕ)) (cs : List Cell) (Γ : List (Item 𝓤)) → ent 𝓤 (⋆ 𝓛 (slots E cs Γ)) (⋆ 𝓛 (‵ (lay E cs) ∷ Γ))
  back⊢ [] cs Γ = via 𝓤 _ (emp∗ 𝓤 (⋆ 𝓛 Γ)) (push 𝓛 (‵ ftrue) Γ)
  back⊢ (e ∷ E) cs Γ =
      let c : Fml = cell e (first cs) in
      let l : Fml = lay E (others cs) in
      via 𝓤 _ (via 𝓤 _ (pop 𝓛 (‵ c) (slots E (others cs) Γ)) (mono_r 𝓤 (sem 𝓛 c) (via 𝓤 _ (back⊢ E (others cs) Γ) (pop 𝓛 (‵ l) Γ))))
      (via 𝓤 _ (assoc' 𝓤 (sem 𝓛 c) (sem 𝓛 l) (⋆ 𝓛 Γ)) (push 𝓛 (‵ (fsep c l)) Γ))

  pub pack⊢ : (Δ Γ : List (Item 𝓤)) → ent 𝓤 (⋆ 𝓛 (Δ ++ Γ)) (⋆ 𝓛 (raw (⋆ 𝓛 Δ) ∷ Γ))
  pack⊢ [] Γ = via 𝓤 _ (emp∗ 𝓤 (⋆ 𝓛 Γ)) (push 𝓛 (raw (⋆ 𝓛 [])) Γ)
  pack⊢ (i ∷ Δ) Γ =
      via 𝓤 _ (via 𝓤 _ (pop 𝓛 i (Δ ++ Γ)) (mono_r 𝓤 (mean 𝓛 i) (via 𝓤 _ (pack⊢ Δ Γ) (pop 𝓛 (raw (⋆ 𝓛 Δ)) Γ))))
      (via 𝓤 _ (assoc' 𝓤 (mean 𝓛 i) (⋆ 𝓛 Δ) (⋆ 𝓛 Γ)) (via 𝓤 _ (mono_l 𝓤 (⋆ 𝓛 Γ) (push 𝓛 i Δ)) (push 𝓛 (raw (⋆ 𝓛 (i ∷ Δ))) Γ)))

  pub unpack⊢ : (Δ Γ : List (Item 𝓤)) → ent 𝓤 (⋆ 𝓛 (raw (⋆ 𝓛 Δ) ∷ Γ)) (⋆ 𝓛 (Δ ++ Γ))
  unpack⊢ Δ Γ = via 𝓤 _ (pop 𝓛 (raw (⋆ 𝓛 Δ)) Γ) (++⊢ 𝓛 Δ Γ)

module _ {M : Type 1} {𝓤 : Ura M} {𝓛 : Logic 𝓤} {K : Type 0} where
  -- [what stands before; the locals as one formula; Γ]
  open 𝓛 use {H}

  spread : K → {Γ : List (Item 𝓤)} {G : Goal 𝓤 H} (Δ : List (Item 𝓤)) (E : List (Ty × ℕ)) (cs : List Cell) → Step K 𝓛 (Δ ++ slots E cs Γ) G (raw (⋆ 𝓛 Δ) ∷ ‵ (lay E cs) ∷ Γ) G
  spread t {Γ} Δ E cs = step (λ s. record { prf = via 𝓤 _ (under⊢ 𝓛 (raw (⋆ 𝓛 Δ)) (‵ (lay E cs) ∷ Γ) (slots E cs Γ) (out⊢ 𝓛 E cs Γ)) (via 𝓤 _ (unpack⊢ 𝓛 Δ (slots E cs Γ)) s.prf) })

  gather : K → {Γ : List (Item 𝓤)} {G : Goal 𝓤 H} (Δ : List (Item 𝓤)) (E : List (Ty × ℕ)) (cs : List Cell) → Step K 𝓛 (raw (⋆ 𝓛 Δ) ∷ ‵ (lay E cs) ∷ Γ) G (Δ ++ slots E cs Γ) G
  gather t {Γ} Δ E cs = step (λ s. record { prf = via 𝓤 _ (pack⊢ 𝓛 Δ (slots E cs Γ)) (via 𝓤 _ (under⊢ 𝓛 (raw (⋆ 𝓛 Δ)) (slots E cs Γ) (‵ (lay E cs) ∷ Γ) (back⊢ 𝓛 E cs Γ)) s.prf) })

  emptied : K → {Γ : List (Item 𝓤)} {G : Goal 𝓤 H} (e : Ty × ℕ) (c : Cell) → Step K 𝓛 (‵ (cell e none) ∷ Γ) G (‵ (cell e c) ∷ Γ) G
  emptied t e none = step (λ s. s)
  emptied t e (has v) = forget t 0 refl

  laid : K → {Γ : List (Item 𝓤)} (ls : List Local) {Kt : Env 𝓤 H → Goal 𝓤 H} → ((bs : Blocks ls) → Seq K 𝓛 (‵ (lay (env ls bs) []) ∷ ‵ (deaths (env ls bs)) ∷ Γ) (Kt (env ls bs))) → Seq K 𝓛 Γ (allocs ls Kt)
  laid t {Γ} [] k = alloc0 t $ nothing t $ nothing t $ k tt
  laid t {Γ} (local τ h ∷ ls) k = alloc1 t (λ b. laid t {Γ = ‵ (froom τ b 0) ∷ ‵ (fdies τ b) ∷ Γ} ls (λ bs. move t (2 ∷ 0 ∷ []) $ fjoin t $ move t (2 ∷ 1 ∷ 0 ∷ []) $ fjoin t $ move t (1 ∷ 0 ∷ []) $ k (b, bs)))

  passed : K → {Γ : List (Item 𝓤)} (E : List (Ty × ℕ)) (vs : List Val) {g : Goal 𝓤 H} → Suits E vs → Step K 𝓛 (‵ (lay E (stored vs)) ∷ Γ) g (‵ (lay E []) ∷ Γ) (passes E vs g)
  passed t {Γ} E [] su = pass0 t
  passed t {Γ} [] (v ∷ vs) su = absurd su
  passed t {Γ} (e ∷ E) (v ∷ vs) su = step (λ s. fsplit t $ pass1 t (init t 0 refl su.0) $ move t (1 ∷ 0 ∷ []) $ passed t {Γ = ‵ (fat full_share e.0 e.1 zero v) ∷ Γ} E vs su.1 $ move t (1 ∷ 0 ∷ []) $ fjoin t $ s)

  freed : K → {Γ : List (Item 𝓤)} (E : List (Ty × ℕ)) (cs : List Cell) {g : Goal 𝓤 H} → Step K 𝓛 Γ g (‵ (lay E cs) ∷ ‵ (deaths E) ∷ Γ) (frees E g)
  freed t [] cs = step (λ s. drop t $ drop t $ free0 t $ s)
  freed t (e ∷ E) cs = step (λ s. fsplit t $ emptied t e (first cs) $ move t (2 ∷ []) $ fsplit t $ move t (2 ∷ 0 ∷ []) $ free1 t $ move t (1 ∷ 0 ∷ []) $ freed t E (others cs) $ s)

  kept : K → {Γ : List (Item 𝓤)} {G : Goal 𝓤 H} (n : ℕ) (E : List (Ty × ℕ)) (cs : List Cell) → Step K 𝓛 (‵ (lay E (only n cs)) ∷ Γ) G (‵ (lay E cs) ∷ Γ) G
  kept t {Γ} n [] cs = step (λ s. s)
  kept t {Γ} zero (e ∷ E) cs = step (λ s. fsplit t $ emptied t e (first cs) $ move t (1 ∷ 0 ∷ []) $ kept t {Γ = ‵ (cell e none) ∷ Γ} zero E (others cs) $ move t (1 ∷ 0 ∷ []) $ fjoin t $ s)
  kept t {Γ} (suc n) (e ∷ E) cs = step (λ s. fsplit t $ move t (1 ∷ 0 ∷ []) $ kept t {Γ = ‵ (cell e (first cs)) ∷ Γ} n E (others cs) $ move t (1 ∷ 0 ∷ []) $ fjoin t $ s)

  -- a function's result is local 0, and its parameters are the locals after it
  pub starts : K → (Δ : List (Item 𝓤)) (C : Calls 𝓤 H) (Λ : Loops 𝓤 H) (f : Fn) (vs : List Val) (Kf : Val → SProp 𝓤) (l : Local) (ls : List Local) → f.locals ≡ l ∷ ls
      → ((bs : Blocks ls) → Suits (env ls bs) vs)
      → ((bs : Blocks (l ∷ ls)) → Seq K 𝓛 (Δ ++ slots (env (l ∷ ls) bs) (none ∷ stored vs) (‵ (deaths (env (l ∷ ls) bs)) ∷ [])) (runs C Λ (env (l ∷ ls) bs) f.body (at_ret (env (l ∷ ls) bs) Kf)))
      → Seq K 𝓛 Δ (prop (WpFn 𝓤 H C Λ f vs Kf))
  starts t Δ C Λ f vs Kf (local τ h) ls is su k =
      let G : Seq K 𝓛 (raw (⋆ 𝓛 Δ) ∷ []) (prop (WpFn 𝓤 H C Λ f vs Kf)) = enter t C Λ f vs Kf $
      subst (λ (ms : List Local). Seq K 𝓛 (raw (⋆ 𝓛 Δ) ∷ []) (allocs ms (λ E. params' E vs (runs C Λ E f.body (at_ret E Kf))))) (sym is)
      (laid t (local τ h ∷ ls) (λ bs. params1 t $ fsplit t $ move t (1 ∷ 0 ∷ []) $ passed t (env ls bs.1) vs (su bs.1) $ move t (1 ∷ 0 ∷ []) $ fjoin t $ move t (2 ∷ []) $ spread t Δ (env (local τ h ∷ ls) bs) (none ∷ stored vs) $ k bs)) in
      record { prf = G.prf }

  leaves : K → {g : Goal 𝓤 H} (Δ : List (Item 𝓤)) (E : List (Ty × ℕ)) (cs : List Cell) → Step K 𝓛 (Δ ++ []) g (Δ ++ slots E cs (‵ (deaths E) ∷ [])) (frees E g)
  leaves t Δ E cs = step (λ s. gather t Δ E cs $ move t (1 ∷ 2 ∷ []) $ freed t E cs $ step (λ s'. record { prf = via 𝓤 _ (unpack⊢ 𝓛 Δ []) s'.prf }) $ s)

  module _ {Γ : List (Item 𝓤)} where
    pub keeps : K → {G : Goal 𝓤 H} (n : ℕ) → Laid (spots Γ) Γ → Step K 𝓛 (front Γ ++ slots (spots Γ) (only n (cells Γ)) (‵ (deaths (spots Γ)) ∷ [])) G Γ G
    keeps t {G} n e = step (λ s. subst (λ (Δ : List (Item 𝓤)). Seq K 𝓛 Δ G) (sym e) (gather t (front Γ) (spots Γ) (cells Γ) $ move t (1 ∷ []) $ kept t n (spots Γ) (cells Γ) $ move t (1 ∷ 0 ∷ []) $ spread t (front Γ) (spots Γ) (only n (cells Γ)) $ s))

    -- a place that is written, whatever stands there
    writes : K → (n : ℕ) {e : Ty × ℕ} (c : Cell) {v : Val} → nth 𝓛 n Γ ≡ ‵ (cell e c) → T (has_ty e.0 v) × WT v → Writes K 𝓛 Γ e.0 e.1 zero v (put 𝓛 n (‵ (fat full_share e.0 e.1 zero v)) Γ)
    writes t n none e ty = init t n e ty
    writes t n (has v) e ty = store t n e ty

    -- local k is read, and written
    pub looked : K → (k : ℕ) {q : Share} {τ : Ty} {b o : ℕ} {v : Val} → local_at 𝓛 k Γ ≡ ‵ (fat q τ b o v) → Reads K 𝓛 Γ τ b o v
    looked t k e = look t (index k Γ) (at_index 𝓛 k Γ ∙ e)

    pub stores : K → (k : ℕ) {e : Ty × ℕ} (c : Cell) {v : Val} → local_at 𝓛 k Γ ≡ ‵ (cell e c) → T (has_ty e.0 v) × WT v → Writes K 𝓛 Γ e.0 e.1 zero v (put_local 𝓛 k (‵ (fat full_share e.0 e.1 zero v)) Γ)
    stores t k {e} c {v} is ty = subst (λ (Δ : List (Item 𝓤)). Writes K 𝓛 Γ e.0 e.1 zero v Δ) (put_index 𝓛 k (‵ (fat full_share e.0 e.1 zero v)) Γ) (writes t (index k Γ) c (at_index 𝓛 k Γ ∙ is) ty)

    module _ {E : Env 𝓤 H} where
      pub opd : K → {k : ℕ} {q : Share} {v : Val} → local_at 𝓛 k Γ ≡ ‵ (fat q (spot_of 𝓤 H E k).0 (spot_of 𝓤 H E k).1 zero v) → Opd K 𝓛 Γ E (copy (place k [])) v
      opd t {k} e = load t (from t (stop t)) (looked t k e)

      -- field j of a local. Each equation is by computation
      pub part : K → {k j : ℕ} {q : Share} {ν : Sym} {τs : Tys} {l : ℕ} {vs : Vals} {τ : Ty} {o : ℕ} {v : Val} → local_at 𝓛 k Γ ≡ ‵ (fat q (ty_struct ν τs) l zero (vstruct vs)) → spot_of 𝓤 H E k ≡ (ty_struct ν τs, l, zero)
          → field_at zero τs j ≡ just (τ, o) → get_v vs j ≡ v → Opd K 𝓛 Γ E (copy (place k (field j ∷ []))) v
      part t {k} {j} {q} {ν} {τs} {l} {vs} {τ} {o} e at-k f is =
          subst (λ (w : Val). Opd K 𝓛 Γ E (copy (place k (field j ∷ []))) w) is
          (load t (from t (subst (λ (s : Spot 𝓤 H). Walks K 𝓛 Γ E s (field j ∷ []) (τ, l, zero + o)) (sym at-k) (fld t f (stop t))))
          (look_in t (index k Γ) (subst (λ (i : Item 𝓤). Part K 𝓛 i q τ l (zero + o) (get_v vs j) (λ (u : Val). ‵ (fat q (ty_struct ν τs) l zero (vstruct (set_v vs j u))))) (sym (at_index 𝓛 k Γ ∙ e)) (sub t j f (whole t)))))

      module _ {C : Calls 𝓤 H} {Λ : Loops 𝓤 H} {P : Post 𝓤 H} {k : ℕ} {v : Val} where
        pub sets : K → {rv : RValue} {rest : Body} → Rv K 𝓛 Γ E rv v → Shown 𝓛 Γ E k → Fits 𝓛 Γ E k v → Step K 𝓛 (with 𝓛 Γ E k v) (runs C Λ E rest P) Γ (runs C Λ E (seq (assign (place k []) rv) rest) P)
        sets t r e ty = assigns t r (from t (stop t)) (stores t k (held (local_at 𝓛 k Γ)) e ty)

        pub sets_last : K → {rv : RValue} → Rv K 𝓛 Γ E rv v → Shown 𝓛 Γ E k → Fits 𝓛 Γ E k v → Step K 𝓛 (with 𝓛 Γ E k v) (prop (post 𝓤 H P next)) Γ (runs C Λ E (assign (place k []) rv) P)
        sets_last t r e ty = assigns_last t r (from t (stop t)) (stores t k (held (local_at 𝓛 k Γ)) e ty)

        pub lands_in : K → {rest : Body} → Shown 𝓛 Γ E k → Fits 𝓛 Γ E k v → Step K 𝓛 (with 𝓛 Γ E k v) (runs C Λ E rest P) Γ (lands C Λ E (place k []) v rest P)
        lands_in t e ty = land t (from t (stop t)) (stores t k (held (local_at 𝓛 k Γ)) e ty)

      pub lands_last : K → {P : Post 𝓤 H} {k : ℕ} {v : Val} → Shown 𝓛 Γ E k → Fits 𝓛 Γ E k v → Step K 𝓛 (with 𝓛 Γ E k v) (prop (post 𝓤 H P next)) Γ (settles E (place k []) v P)
      lands_last t {k = k} e ty = land_last t (from t (stop t)) (stores t k (held (local_at 𝓛 k Γ)) e ty)

      -- `return`, anywhere in the function. Kf is what its caller waits for; that it is what the code here returns to is `refl`, or what the branches and loops around it hand down
      pub returns : K → {C : Calls 𝓤 H} {Λ : Loops 𝓤 H} {q : Post 𝓤 H} (Kf : Val → SProp 𝓤) {p : Share} {r : Val} → post 𝓤 H q returnsᴼ ≡ at_return 𝓤 H E Kf returnsᴼ
          → local_at 𝓛 zero Γ ≡ ‵ (fat p (spot_of 𝓤 H E zero).0 (spot_of 𝓤 H E zero).1 zero r) → Laid E Γ → Step K 𝓛 (front Γ ++ []) (prop (Kf r)) Γ (runs C Λ E return q)
      returns t Kf {r = r} to e l = step (λ s. returns_within t Kf to (looked t zero e) $ subst (λ (Δ : List (Item 𝓤)). Seq K 𝓛 Δ (frees E (prop (Kf r)))) (sym l) (leaves t (front Γ) E (cells Γ) $ s))
