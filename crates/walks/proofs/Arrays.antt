-- A local array of plain data: it is filled, lent as a slice around a call, and taken back.
--     array_val_lem        its machine value.        lent_view      where it lies while it is lent
--     fills            `_j = [x; n]`.        borrows      `&_x` and `&mut _x` as a slice
--     lends_array      its cell gives way to the loan: a `&mut [R]` and its token stand at the front.        takes_array      and back, at the list that the slice was left at
-- Assumes nothing. The rules of the logic, `Logic`, are an argument of each law.
use mathlib.Core.Path.{◌≡◌, refl, sym, ap, subst}
use Prim.Native.Nat.{ℕ, zero, suc, ◌<◌, ◌^◌}
use mathlib.Core.List.{List, [], ◌∷◌, map}
use lib.ListN.{length, replicate, length-replicate}
use seplogic.Ra.Ura.{Ura}
use base.Fraction.{full_share}
use mir.Syntax.{Width, w64, Ty, Lifetime, Mutability, Body, Opd as Operand, ty_ref, ty_array, place, copy, int_big, addr_of, aggregate, repeat, seq, assign, named}
use mir.Val.{Val, vint, vptr, bits, Fits}
use base.Logic.{ent, sep, ex, via, guard_i}
use base.Fml.{GName, Fml, fat, froom, fsep, fres, flent, fdead}
use prog.Wp.{Env, Calls, Loops, Spot, spot_of}
use types.Logic.{Logic, sem}
use types.Kit.{Item, ‵, ◌⊛◌, some, later, Post, Goal, runs, Soaks, ⋆, nth, put, del, pull, fill, push, pop, Seq, Step, step, ◌$◌, ◌∵◌, !, qed, move, use0, use1, use3, drop, split, pick, fsplit, fjoin, fpick, fpack, feq_l, feq_i, rewrite, await, updating, now as at_once, show, done}
use types.Tokens.{lft_new, lft_end}
use types.SemTy.{cells, Arr}
use types.Share.{arr_parts}
use types.Run.{Opd, Rv, Walks, Finds, stop, from, load, addr, and_then, no_more, assigns}
use types.Part.{rep, agg}
use denote.RattleType.{RattleType}
use denote.Shadow.{shadow, pure_l}
use denote.Laws.{Is, shows}
use denote.Memory.{lone, cell_at, part_of, part_at, mem, shares}
use denote.Array.{each, array_val, array_vals, Array-Tells, Array-Lawful, Array-Makes, Array}
use denote.ArrayMemory.{Single, Array-apart, Array-whole}
use denote.Slice.{slice_ty, slice_val, MutSlice, Room, heres, coded_holeys, finally, res-finally, mut_slice_at}
use denote.Lend.{Held, lends_slice, slice_back}
use denote.Index.{row, whole_out, whole_in}
use denote.Steps.{only, peeks}
use Rattle.walks.proofs.Locals.{none, local_at, put_local, looked, stores, under⊢}
use Rattle.walks.proofs.Lend.{View, fat as wide, named_at, Own, Tok}
use Rattle.walks.proofs.Values.{Datum}

abbrev pub array_val_lem : (k : Datum) → List k.row.Denot → Val
array_val_lem k xs = only (array_vals (λ x. k.val x ∷ []) xs)

abbrev pub array_ty : Datum → ℕ → Ty
array_ty k n = ty_array (lone k.row.mir) n

-- the array of the block b, lent for ν under the name δ
abbrev pub lent_view : (k : Datum) (n : ℕ) → Room k.row n → ℕ → ℕ → GName → View k.row
lent_view k n room b ν δ = record { life = ν ∷ []; share = full_share; block = b; offset = zero; name = δ; count = n; room = room }

-- what the lender keeps
abbrev pub array_lent : Datum → ℕ → ℕ → ℕ → GName → Fml
array_lent k n b ν δ = flent (ν ∷ []) (Held k.row n b zero δ)

-- n times the same
module _ (k : Datum) (x : k.row.Denot) where
  each_same : Is k.row x (k.val x ∷ []) → (n : ℕ) → shadow (each k.row.Denot k.row.own_val (replicate n x) (replicate n (k.val x)))
  each_same is zero = tt
  each_same is (suc n) = (is, each_same is n)

  vals_same : (n : ℕ) → replicate n (k.val x) ≡ map (λ y. k.val y) (replicate n x)
  vals_same zero = refl
  vals_same (suc n) = ap (λ vs. k.val x ∷ vs) (vals_same n)

-- ---- the loan, and the way back
module _ {M : Type 1} {𝓤 : Ura M} (𝓛 : Logic 𝓤) (k : Datum) (n : ℕ) (room : Room k.row n) (b ν : ℕ) where
  open 𝓛 use {H, A}

  abbrev R : RattleType
  R = k.row

  array_goes : Single R.mir → (xs : List R.Denot) → Is (Array R n) xs (array_val_lem k xs ∷ [])
      → ent 𝓤 (sem 𝓛 (fat full_share (array_ty k n) b zero (array_val_lem k xs))) (H.⇛ (ex 𝓤 (λ (δ : GName). sep 𝓤 (sem 𝓛 (Own (lent_view k n room b ν δ) xs)) (sem 𝓛 (array_lent k n b ν δ)))))
  unfolding part_of
  array_goes single xs is =
      let v : Val = array_val_lem k xs in
      qed 𝓛 (‵ (fat full_share (array_ty k n) b zero v) ∷ []) ∵ updating ! $
      use1 𝓛 (‵ (cell_at full_share (array_ty k n ∷ []) (v ∷ []) b zero)) (𝓛.laws.at_raw full_share (array_ty k n) b zero v) $
      use0 𝓛 (‵ ((Array R n).own_val xs (v ∷ []))) (Array-Makes 𝓛 R (k.makes 𝓛) n xs (v ∷ []) is) $ move ! (1 ∷ 0 ∷ []) $ fjoin ! $
      fpack ! (List Val) (λ vs. fsep (cell_at full_share (array_ty k n ∷ []) vs b zero) ((Array R n).own_val xs vs)) (v ∷ []) $
      use1 𝓛 (‵ ((arr_parts (shares R) n).part full_share xs b zero)) (Array-apart 𝓛 R full_share single n xs b zero) $ fsplit ! $ feq_l ! (λ long.
      use1 𝓛 (‵ (cells (mem R) xs b zero)) (whole_in 𝓛 R xs b zero) $
      use1 𝓛 (later (some (λ (δ : GName). ‵ ((MutSlice (named 0) (ν ∷ []) R).own_val (named_at (lent_view k n room b ν δ) δ xs) (slice_val (b, zero) (length xs) ∷ [])) ⊛ ‵ (flent (ν ∷ []) (Held R (length xs) b zero δ)))))
      (lends_slice 𝓛 R (named 0) (ν ∷ []) xs b zero (subst (Room R) (sym long) room)) $ await ! tt $ pick ! (λ δ. split ! $
      rewrite ! 0 (λ (m : ℕ). ‵ ((MutSlice (named 0) (ν ∷ []) R).own_val (named_at (lent_view k n room b ν δ) δ xs) (slice_val (b, zero) m ∷ []))) long refl $
      rewrite ! 1 (λ (m : ℕ). ‵ (flent (ν ∷ []) (Held R m b zero δ))) long refl $ at_once ! $
      show ! (λ (δ' : GName). sep 𝓤 (sem 𝓛 (Own (lent_view k n room b ν δ') xs)) (sem 𝓛 (array_lent k n b ν δ'))) δ $ done !))

  array_comes : (δ : GName) (zs : List R.Denot)
      → ent 𝓤 (sep 𝓤 (A.dead (ν ∷ [])) (sep 𝓤 (sem 𝓛 (array_lent k n b ν δ)) (sem 𝓛 (Own (lent_view k n room b ν δ) zs)))) (H.⇛ (sem 𝓛 (part_at (Array R n) full_share zs b zero)))
  array_comes δ zs =
      let S : View R = lent_view k n room b ν δ in
      qed 𝓛 (‵ (fdead (ν ∷ [])) ∷ ‵ (array_lent k n b ν δ) ∷ ‵ (Own S zs) ∷ []) ∵ updating ! $ move ! (2 ∷ []) $ fsplit ! $ pure_l ! (mut_slice_at R (named_at S δ zs) (wide S ∷ [])) (λ _. fsplit ! $
      use1 𝓛 (‵ (fres δ ((coded_holeys R).code (heres R zs)))) (𝓛.names.obs-res δ ((coded_holeys R).code (heres R zs))) $
      use1 𝓛 (‵ (finally R δ zs)) (res-finally 𝓛 (named 0) (ν ∷ []) R δ zs) $ move ! (2 ∷ 3 ∷ 0 ∷ []) $
      use3 𝓛 (later (‵ ((Arr (mem R) n).own_at zs b zero))) (slice_back 𝓛 R (ν ∷ []) δ zs n b zero) $ await ! tt $ fsplit ! $ feq_l ! (λ long.
      use1 𝓛 (‵ (row R full_share zs b zero)) (whole_out 𝓛 R zs b zero) $ feq_i ! ℕ (length zs) n long $ fjoin ! $
      use1 𝓛 (‵ (part_at (Array R n) full_share zs b zero)) (Array-whole 𝓛 R full_share n zs b zero) $ at_once ! $ move ! (1 ∷ []) $ drop ! $ done !))

-- ---- the steps
module _ {M : Type 1} {𝓤 : Ura M} (𝓛 : Logic 𝓤) (Γ : List (Item 𝓤)) (p : ℕ) where
  -- the entry at p to the front, and another into its place
  out⊢ : {i : Item 𝓤} → nth 𝓛 p Γ ≡ i → ent 𝓤 (⋆ 𝓛 Γ) (⋆ 𝓛 (i ∷ del 𝓛 p Γ))
  out⊢ e = subst (λ (i : Item 𝓤). ent 𝓤 (⋆ 𝓛 Γ) (⋆ 𝓛 (i ∷ del 𝓛 p Γ))) e (via 𝓤 _ (pull 𝓛 p Γ) (push 𝓛 (nth 𝓛 p Γ) (del 𝓛 p Γ)))

  in⊢ : (i : Item 𝓤) → ent 𝓤 (⋆ 𝓛 (i ∷ del 𝓛 p Γ)) (⋆ 𝓛 (put 𝓛 p i Γ))
  in⊢ i = via 𝓤 _ (pop 𝓛 i (del 𝓛 p Γ)) (fill 𝓛 p i Γ)

module _ {M : Type 1} {𝓤 : Ura M} {𝓛 : Logic 𝓤} {K : Type 0} {Γ : List (Item 𝓤)} {G : Goal 𝓤 𝓛.H} where
  -- the context replaced by what it entails
  pub changes : K → (Δ : List (Item 𝓤)) → ent 𝓤 (⋆ 𝓛 Γ) (⋆ 𝓛 Δ) → Step K 𝓛 Δ G Γ G
  changes t Δ h = step (λ s. record { prf = via 𝓤 _ h s.prf })

  beneath : K → (i j : Item 𝓤) (Δ : List (Item 𝓤)) → ent 𝓤 (⋆ 𝓛 Γ) (⋆ 𝓛 Δ) → Step K 𝓛 (i ∷ j ∷ Δ) G (i ∷ j ∷ Γ) G
  beneath t i j Δ h = step (λ s. record { prf = via 𝓤 _ (under⊢ 𝓛 i (j ∷ Γ) (j ∷ Δ) (under⊢ 𝓛 j Γ Δ h)) s.prf })

module _ {M : Type 1} {𝓤 : Ura M} {𝓛 : Logic 𝓤} {K : Type 0} {Γ : List (Item 𝓤)} {G : Goal 𝓤 𝓛.H} where
  -- the context, written out: what was put into it one after the other is then not gone through again by each step that follows
  pub restated : K → (Δ : List (Item 𝓤)) → Γ ≡ Δ → Step K 𝓛 Δ G Γ G
  restated t Δ e = step (λ s. subst (λ (Θ : List (Item 𝓤)). Seq K 𝓛 Θ G) (sym e) s)

  pub lends_array : K → Soaks G → (k : Datum) → Single k.row.mir → (n : ℕ) (room : Room k.row n) (xs : List k.row.Denot) → Is (Array k.row n) xs (array_val_lem k xs ∷ []) → (p : ℕ) {b : ℕ}
      → nth 𝓛 p Γ ≡ ‵ (fat full_share (array_ty k n) b zero (array_val_lem k xs))
      → ((ν : ℕ) (δ : GName) → Seq K 𝓛 (‵ (Own (lent_view k n room b ν δ) xs) ∷ ‵ (Tok (lent_view k n room b ν δ)) ∷ put 𝓛 p (‵ (array_lent k n b ν δ)) Γ) G) → Seq K 𝓛 Γ G
  lends_array t z k single n room xs is p {b} e s =
      changes t (‵ (fat full_share (array_ty k n) b zero (array_val_lem k xs)) ∷ del 𝓛 p Γ) (out⊢ 𝓛 Γ p e) $ lft_new t z (λ ν. move t (1 ∷ []) $
      use1 𝓛 (later (some (λ (δ : GName). ‵ (Own (lent_view k n room b ν δ) xs) ⊛ ‵ (array_lent k n b ν δ)))) (array_goes 𝓛 k n room b ν single xs is) $ await t z $ pick t (λ δ. split t $ move t (0 ∷ 2 ∷ 1 ∷ []) $
      beneath t (‵ (Own (lent_view k n room b ν δ) xs)) (‵ (Tok (lent_view k n room b ν δ))) (put 𝓛 p (‵ (array_lent k n b ν δ)) Γ) (in⊢ 𝓛 Γ p (‵ (array_lent k n b ν δ))) $ s ν δ))

  pub takes_array : K → Soaks G → (k : Datum) (n : ℕ) (room : Room k.row n) (zs : List k.row.Denot) (p : ℕ) {b ν : ℕ} {δ : GName}
      → nth 𝓛 p Γ ≡ ‵ (array_lent k n b ν δ)
      → (Is (Array k.row n) zs (array_val_lem k zs ∷ []) → Seq K 𝓛 (put 𝓛 p (‵ (fat full_share (array_ty k n) b zero (array_val_lem k zs))) Γ) G)
      → Seq K 𝓛 (‵ (Own (lent_view k n room b ν δ) zs) ∷ ‵ (Tok (lent_view k n room b ν δ)) ∷ Γ) G
  unfolding part_of
  takes_array t z k n room zs p {b} {ν} {δ} e s =
      let S : View k.row = lent_view k n room b ν δ in
      beneath t (‵ (Own S zs)) (‵ (Tok S)) (‵ (array_lent k n b ν δ) ∷ del 𝓛 p Γ) (out⊢ 𝓛 Γ p e) $ move t (1 ∷ []) $ lft_end t z $ move t (0 ∷ 2 ∷ 1 ∷ []) $
      use3 𝓛 (later (‵ (part_at (Array k.row n) full_share zs b zero))) (array_comes 𝓛 k n room b ν δ zs) $ await t z $ fpick t (λ vs. fsplit t $ move t (1 ∷ []) $
      peeks t (Array k.row n) (Is (Array k.row n)) (shows 𝓛 (Array k.row n)) zs vs (λ is. drop t $
      let same : vs ≡ array_val_lem k zs ∷ [] = Array-Tells k.row (λ x. k.val x ∷ []) k.tells n zs vs is in
      rewrite t 0 (λ (us : List Val). ‵ (cell_at full_share (array_ty k n ∷ []) us b zero)) same refl $
      use1 𝓛 (‵ (fat full_share (array_ty k n) b zero (array_val_lem k zs))) (𝓛.laws.raw_at full_share (array_ty k n) b zero (array_val_lem k zs)) $
      changes t (put 𝓛 p (‵ (fat full_share (array_ty k n) b zero (array_val_lem k zs))) Γ) (in⊢ 𝓛 Γ p (‵ (fat full_share (array_ty k n) b zero (array_val_lem k zs)))) $ s (subst (Is (Array k.row n) zs) same is)))

module _ {M : Type 1} {𝓤 : Ura M} {𝓛 : Logic 𝓤} {K : Type 0} {Γ : List (Item 𝓤)} {E : Env 𝓤 𝓛.H} where
  open 𝓛 use {H}

  big : K → {w : Width} {n : ℕ} → n < 2 ^ bits w → Opd K 𝓛 Γ E (int_big w n) (vint w n)
  big t {w} {n} less = record { go = λ Kt h. via 𝓤 (Kt (vint w n)) h (guard_i 𝓤 (Fits w n) (Kt (vint w n)) (record { fits = less })) }

  at_local : K → {x : ℕ} {sp : Spot 𝓤 H} → spot_of 𝓤 H E x ≡ sp → Finds K 𝓛 Γ E (place x []) sp
  at_local t {x} {sp} e = from t (subst (λ (s : Spot 𝓤 H). Walks K 𝓛 Γ E s [] sp) (sym e) (stop t))

module _ {M : Type 1} {𝓤 : Ura M} {𝓛 : Logic 𝓤} {K : Type 0} {Γ : List (Item 𝓤)} {E : Env 𝓤 𝓛.H} {C : Calls 𝓤 𝓛.H} {Λ : Loops 𝓤 𝓛.H} {P : Post 𝓤 𝓛.H} {rest : Body} where
  -- the local j is the array. Its list is handed on as one of which no more is seen than that it is n times x
  open 𝓛 use {H}

  pub fills : K → (k : Datum) (n : ℕ) (x : k.row.Denot) → Is k.row x (k.val x ∷ []) → {op : Operand} {j b : ℕ} → Opd K 𝓛 Γ E op (k.val x)
      → local_at 𝓛 j Γ ≡ ‵ (froom (array_ty k n) b zero) → spot_of 𝓤 H E j ≡ (array_ty k n, b, zero)
      → ((xs : List k.row.Denot) → xs ≡ replicate n x → Is (Array k.row n) xs (array_val_lem k xs ∷ []) → Seq K 𝓛 (put_local 𝓛 j (‵ (fat full_share (array_ty k n) b zero (array_val_lem k xs))) Γ) (runs C Λ E rest P))
      → Seq K 𝓛 Γ (runs C Λ E (seq (assign (place j []) (repeat op n)) rest) P)
  fills t k n x is {op} {j} {b} o e sp s =
      let xs : List k.row.Denot = replicate n x in
      let all : Is (Array k.row n) xs (array_val (replicate n (k.val x)) ∷ []) = (replicate n (k.val x), ((refl, length-replicate n x), each_same k x is n)) in
      let same : array_val (replicate n (k.val x)) ≡ array_val_lem k xs = ap array_val (vals_same k x n) in
      let is' : Is (Array k.row n) xs (array_val_lem k xs ∷ []) = subst (λ (v : Val). Is (Array k.row n) xs (v ∷ [])) same all in
      assigns t (subst (λ (v : Val). Rv K 𝓛 Γ E (repeat op n) v) same (rep t n o)) (at_local t sp)
      (stores t j none e ((Array-Lawful 𝓛 k.row (k.lawful 𝓛) n).typed xs (array_val_lem k xs ∷ []) is').0) $ s xs refl is'

-- `&_x` and `&mut _x` as a slice, where x is the array, and y and z the two locals that are made. Each equation is by computation
module _ {M : Type 1} {𝓤 : Ura M} {𝓛 : Logic 𝓤} {K : Type 0} {Γ : List (Item 𝓤)} {E : Env 𝓤 𝓛.H} {C : Calls 𝓤 𝓛.H} {Λ : Loops 𝓤 𝓛.H} {P : Post 𝓤 𝓛.H} {rest : Body} where
  open 𝓛 use {H}

  pub borrows : K → {x y z : ℕ} {ℓ' ℓ'' : Lifetime} {μ' μ'' : Mutability} {τ τ' τ'' : Ty} {l' l'' b n : ℕ} → n < 2 ^ 64
      → local_at 𝓛 y Γ ≡ ‵ (froom (ty_ref ℓ' μ' τ') l' zero)
      → local_at 𝓛 y (put_local 𝓛 y (‵ (fat full_share (ty_ref ℓ' μ' τ') l' zero (vptr b zero))) Γ) ≡ ‵ (fat full_share (ty_ref ℓ' μ' τ') l' zero (vptr b zero))
      → local_at 𝓛 z (put_local 𝓛 y (‵ (fat full_share (ty_ref ℓ' μ' τ') l' zero (vptr b zero))) Γ) ≡ ‵ (froom (slice_ty (ty_ref ℓ'' μ'' τ'')) l'' zero)
      → spot_of 𝓤 H E x ≡ (τ, b, zero) → spot_of 𝓤 H E y ≡ (ty_ref ℓ' μ' τ', l', zero) → spot_of 𝓤 H E z ≡ (slice_ty (ty_ref ℓ'' μ'' τ''), l'', zero)
      → Step K 𝓛 (put_local 𝓛 z (‵ (fat full_share (slice_ty (ty_ref ℓ'' μ'' τ'')) l'' zero (slice_val (b, zero) n))) (put_local 𝓛 y (‵ (fat full_share (ty_ref ℓ' μ' τ') l' zero (vptr b zero))) Γ)) (runs C Λ E rest P)
      Γ (runs C Λ E (seq (assign (place y []) (addr_of (place x []))) (seq (assign (place z []) (aggregate (copy (place y []) ∷ int_big w64 n ∷ []))) rest)) P)
  borrows t {y = y} {z} less ey ey' ez sx sy sz = step (λ s.
      assigns t (addr t (at_local t sx)) (at_local t sy) (stores t y none ey (tt, tt)) $
      assigns t (agg t (and_then t (load t (at_local t sy) (looked t y ey')) (and_then t (big t less) (no_more t)))) (at_local t sz) (stores t z none ez (tt, (tt, (record { fits = less }, tt)))) $ s)
