-- An element of a slice is read, or written, through a pointer to its place, as steps of `Types/Kit.antt`'s calculus. The slice and its token are the head of the context, before it and after it.
-- Assumes nothing. The rules of the logic, `Logic`, are an argument of each law.
use mathlib.Core.Path.{◌≡◌, refl, sym, ap, ◌∙◌, subst}
use Prim.Native.Nat.{ℕ, zero, suc, ◌<◌, ◌+◌, ◌*◌}
use mathlib.Core.List.{List, [], ◌∷◌}
use lib.Dec.{T}
use lib.ListN.{length, get_or, set, length-set}
use seplogic.Ra.Ura.{Ura}
use base.Fraction.{full_share}
use mir.Syntax.{Ty, Body, place, deref, copy, rv_opd, seq, assign}
use mir.Val.{Val, vptr, has_ty, WT}
use mir.Raw.{raw as raw_ty}
use base.Fml.{Share, Fml, fat, froom}
use prog.Wp.{Env, Calls, Loops, spot_of}
use types.Logic.{Logic}
use types.Kit.{Item, ‵, Post, runs, nth, put, Seq, ◌$◌, move, drop, use0, rewrite, fsplit, fjoin}
use types.Run.{look, look_raw, store_raw, init, stop, hop, from, load, of_opd, assigns}
use denote.Shadow.{pure_l, pure_i}
use denote.Copied.{Copied}
use denote.Laws.{Is, Typed, shows}
use denote.Memory.{mem, cell_at}
use denote.Slice.{slice_val, Room, mut_slice_at, shr_slice_at}
use denote.Index.{place as spot, place_is, elem_out, elem_back, elem_put, opens_slice, closes_slice, looks_slice, shuts_slice}
use Rattle.walks.proofs.Lend.{View, fat as wide, named_at, bor_at, Tok, Own, Shr}
use Rattle.walks.proofs.Values.{Datum}
use Rattle.walks.proofs.Locals.{index}

-- one machine value in memory, as the machine sees it: by computation, at a type that is written out
abbrev pub Lone : Datum → Ty → Type 1
Lone k τ = (q : Share) (v : Val) (b o : ℕ) → cell_at q k.row.mir (v ∷ []) b o ≡ fat q (raw_ty τ) b o v

module _ {M : Type 1} {𝓤 : Ura M} {𝓛 : Logic 𝓤} {K : Type 0} {Γ : List (Item 𝓤)} {E : Env 𝓤 𝓛.H} {C : Calls 𝓤 𝓛.H} {Λ : Loops 𝓤 𝓛.H} {P : Post 𝓤 𝓛.H} {τ : Ty} {rest : Body} where
  -- the local y is the pointer, and x the one that is given the element
  open 𝓛 use {H}

  pub reads_at : K → (k : Datum) → Lone k τ → Copied 𝓛 k.row → (S : View k.row) (ys : List k.row.Denot) (i : ℕ) (e : k.row.Denot) → i < length ys → length ys ≡ S.count → {x y : ℕ}
      → nth 𝓛 (index y Γ) Γ ≡ ‵ (fat full_share (spot_of 𝓤 H E y).0 (spot_of 𝓤 H E y).1 zero (vptr S.block (i * (mem k.row).size + S.offset))) → nth 𝓛 (index x Γ) Γ ≡ ‵ (froom (spot_of 𝓤 H E x).0 (spot_of 𝓤 H E x).1 zero)
      → (Typed k.row.mir (k.val (get_or ys i e) ∷ []) → T (has_ty (spot_of 𝓤 H E x).0 (k.val (get_or ys i e))) × WT (k.val (get_or ys i e)))
      → (Is k.row (get_or ys i e) (k.val (get_or ys i e) ∷ []) → Typed k.row.mir (k.val (get_or ys i e) ∷ []) → Seq K 𝓛 (‵ (Shr S ys) ∷ ‵ (Tok S) ∷ put 𝓛 (index x Γ) (‵ (fat full_share (spot_of 𝓤 H E x).0 (spot_of 𝓤 H E x).1 zero (k.val (get_or ys i e)))) Γ) (runs C Λ E rest P))
      → Seq K 𝓛 (‵ (Shr S ys) ∷ ‵ (Tok S) ∷ Γ) (runs C Λ E (seq (assign (place x []) (rv_opd (copy (place y (deref τ ∷ []))))) rest) P)
  reads_at t k lone cp S ys i e l same {x} {y} ep' en suits s =
      let b : ℕ = S.block in
      let o : ℕ = S.offset in
      let at : ℕ = spot (mem k.row).size o i in
      let ep = ep' ∙ ap (λ (p : ℕ). ‵ (fat full_share (spot_of 𝓤 H E y).0 (spot_of 𝓤 H E y).1 zero (vptr b p))) (sym (place_is (mem k.row).size o i)) in
      let v : Val = k.val (get_or ys i e) in
      fsplit t $ pure_l t (shr_slice_at k.row (bor_at S ys) (wide S ∷ [])) (λ fact.
      looks_slice t tt k.row cp ys b o (λ q.
      elem_out t k.row (Is k.row) (shows 𝓛 k.row) (λ x. k.val x ∷ []) k.tells q ys i e b o l (λ is.
      let ty = (k.lawful 𝓛).typed (get_or ys i e) (v ∷ []) is in
      rewrite t 0 (λ (F : Fml). ‵ F) (lone q v b at) refl $
      -- [the element; what it owns; the others; what shuts; what the `&` holds; Γ]
      assigns t (of_opd t (load t (from t (hop t (look t (suc (suc (suc (suc (suc (index y Γ)))))) ep) (stop t))) (look_raw t 0 refl))) (from t (stop t)) (init t (suc (suc (suc (suc (suc (index x Γ)))))) en (suits ty)) $
      rewrite t 0 (λ (F : Fml). ‵ F) (sym (lone q v b at)) refl $ elem_back t k.row q ys i e (v ∷ []) b o l $ shuts_slice t tt k.row q ys b o $
      move t (1 ∷ []) $ pure_i t (shr_slice_at k.row (bor_at S ys) (wide S ∷ [])) (tt, (tt, tt)) fact $ fjoin t $ s is ty)))

  -- the local x is the one whose value v is stored
  pub writes_at : K → (k : Datum) → Lone k τ → (S : View k.row) (ys : List k.row.Denot) (i : ℕ) (e v : k.row.Denot) → i < length ys → length ys ≡ S.count → Is k.row v (k.val v ∷ []) → {x y : ℕ}
      → nth 𝓛 (index y Γ) Γ ≡ ‵ (fat full_share (spot_of 𝓤 H E y).0 (spot_of 𝓤 H E y).1 zero (vptr S.block (i * (mem k.row).size + S.offset))) → nth 𝓛 (index x Γ) Γ ≡ ‵ (fat full_share (spot_of 𝓤 H E x).0 (spot_of 𝓤 H E x).1 zero (k.val v))
      → (Typed k.row.mir (k.val v ∷ []) → T (has_ty τ (k.val v)) × WT (k.val v))
      → Seq K 𝓛 (‵ (Own S (set ys i v)) ∷ ‵ (Tok S) ∷ Γ) (runs C Λ E rest P) → Seq K 𝓛 (‵ (Own S ys) ∷ ‵ (Tok S) ∷ Γ) (runs C Λ E (seq (assign (place y (deref τ ∷ [])) (rv_opd (copy (place x [])))) rest) P)
  writes_at t k lone S ys i e v l same is {x} {y} ep' em suits s =
      let b : ℕ = S.block in
      let o : ℕ = S.offset in
      let at : ℕ = spot (mem k.row).size o i in
      let ep = ep' ∙ ap (λ (p : ℕ). ‵ (fat full_share (spot_of 𝓤 H E y).0 (spot_of 𝓤 H E y).1 zero (vptr b p))) (sym (place_is (mem k.row).size o i)) in
      let long : length (set ys i v) ≡ S.count = length-set ys i v ∙ same in
      fsplit t $ pure_l t (mut_slice_at k.row (named_at S S.name ys) (wide S ∷ [])) (λ _. fsplit t $ opens_slice t tt k.row ys b o $
      elem_out t k.row (Is k.row) (shows 𝓛 k.row) (λ x. k.val x ∷ []) k.tells full_share ys i e b o l (λ _.
      rewrite t 0 (λ (F : Fml). ‵ F) (lone full_share (k.val (get_or ys i e)) b at) refl $
      -- [the element; what it owns; the others; the open borrow; obs; auth; Γ]
      assigns t (of_opd t (load t (from t (stop t)) (look t (suc (suc (suc (suc (suc (suc (index x Γ))))))) em))) (from t (hop t (look t (suc (suc (suc (suc (suc (suc (index y Γ))))))) ep) (stop t))) (store_raw t 0 refl (suits ((k.lawful 𝓛).typed v (k.val v ∷ []) is))) $
      rewrite t 0 (λ (F : Fml). ‵ F) (sym (lone full_share (k.val v) b at)) refl $ move t (1 ∷ []) $ drop t $ use0 𝓛 (‵ (k.row.own_val v (k.val v ∷ []))) (k.makes 𝓛 v (k.val v ∷ []) is) $ move t (1 ∷ 0 ∷ []) $
      elem_put t k.row full_share ys i v (k.val v ∷ []) b o l $ closes_slice t tt k.row ys (set ys i v) (length-set ys i v) b o $
      fjoin t $ pure_i t (mut_slice_at k.row (named_at S S.name (set ys i v)) (wide S ∷ [])) (tt, (tt, tt)) (ap (λ (c : ℕ). slice_val (b, o) c ∷ []) (sym long), subst (Room k.row) (sym long) S.room) $ fjoin t $ s))
