-- An enum in a local of a walk.
--     lands_as         a call's result, known to be another value, is stored as that: so a result that is known to be of one variant is seen as such
--     tag, within      the tag of an enum in a local is read, and a field of its live variant
--     matches          a `match`, or an `if let`, on a tag that is written out: the arm of that variant runs. It has what an arm of `forks` has (`Flow.antt`)
-- Assumes nothing. The rules of the logic, `Logic`, are an argument of each law.
use mathlib.Core.Path.{◌≡◌, refl, sym, ◌∙◌, subst}
use mathlib.Core.Bool.{Bool, true, false, cond}
use mathlib.Core.List.{List, [], ◌∷◌}
use mathlib.Core.Option.{Option, some as just, none as nothing, some-injective, none-ne-some}
use Prim.Native.Nat.{ℕ, zero, suc, ◌+◌}
use seplogic.Ra.Ura.{Ura}
use mir.Syntax.{Sym, Ty, Tys, Tyss, ty_int, ty_enum, w8, Width, Opd as Operand, Place, Body, Arms, arm, default, no_default, place, variant, field, copy, seq, switch}
use mir.Val.{Val, Vals, vint, has_key}
use mir.Fields.{get_v, set_v}
use base.Logic.{SProp, ent, id⊢, via}
use base.Fml.{Share, fat}
use prog.Memory.{field_at, field_of, variant_at, variant_of}
use prog.Wp.{Heap, Env, Calls, Loops, Out, Wp, WpArms, Spot, spot_of, after_seq, branch}
use types.Logic.{Logic}
use types.Kit.{Item, ‵, Post, post, any_q, lands, runs, Seq, Step, step, ◌$◌, regoal}
use types.Run.{Walks, Opd, load, fld, from, stop, first as into, switches_on}
use types.Part.{Part, whole, look_in}
use types.Match.{live, vrt, in_variant, look_tag}
use Rattle.walks.proofs.Locals.{index, local_at, at_index}
use Rattle.walks.proofs.Flow.{Arm}

-- the arm that runs at x
abbrev pub chosen : Arms → ℕ → Option Body
chosen (arm ks b arms) x = cond (has_key ks x) (just b) (chosen arms x)
chosen (default b) x = just b
chosen no_default x = nothing

module _ {M : Type 1} (𝓤 : Ura M) (H : Heap 𝓤) (C : Calls 𝓤 H) (Λ : Loops 𝓤 H) (E : Env 𝓤 H) (Q : Out → SProp 𝓤) where
  same : {a b : Body} → just b ≡ just a → ent 𝓤 (Wp 𝓤 H C Λ E a Q) (Wp 𝓤 H C Λ E b Q)
  same {a} {b} e = subst (λ (c : Body). ent 𝓤 (Wp 𝓤 H C Λ E c Q) (Wp 𝓤 H C Λ E b Q)) (some-injective b a e) (id⊢ 𝓤 _)

  at_key : (a b : Body) (arms : Arms) (x : ℕ) (z : Bool) → cond z (just b) (chosen arms x) ≡ just a → (chosen arms x ≡ just a → ent 𝓤 (Wp 𝓤 H C Λ E a Q) (WpArms 𝓤 H C Λ E arms x Q))
      → ent 𝓤 (Wp 𝓤 H C Λ E a Q) (branch 𝓤 H z (Wp 𝓤 H C Λ E b Q) (WpArms 𝓤 H C Λ E arms x Q))
  at_key a b arms x true e rest = same e
  at_key a b arms x false e rest = rest e

  runs_at : (arms : Arms) (x : ℕ) {a : Body} → chosen arms x ≡ just a → ent 𝓤 (Wp 𝓤 H C Λ E a Q) (WpArms 𝓤 H C Λ E arms x Q)
  runs_at (arm ks b arms) x {a} e = at_key a b arms x (has_key ks x) e (λ e'. runs_at arms x e')
  runs_at (default b) x e = same e
  runs_at no_default x {a} e = absurd (none-ne-some a e)

module _ {M : Type 1} {𝓤 : Ura M} {𝓛 : Logic 𝓤} {K : Type 0} {Γ : List (Item 𝓤)} {E : Env 𝓤 𝓛.H} where
  open 𝓛 use {H}

  pub lands_as : K → {C : Calls 𝓤 H} {Λ : Loops 𝓤 H} {P : Post 𝓤 H} {d : Place} {rest : Body} {v v' : Val} → v ≡ v' → Step K 𝓛 Γ (lands C Λ E d v' rest P) Γ (lands C Λ E d v rest P)
  lands_as t {C} {Λ} {P} {d} {rest} e = step (λ s. regoal t (λ (u : Val). lands C Λ E d u rest P) e refl $ s)

  pub tag : K → {k j : ℕ} {q : Share} {ν : Sym} {τss : Tyss} {l x : ℕ} {vs : Vals} {σ : Ty} → local_at 𝓛 k Γ ≡ ‵ (fat q (ty_enum ν τss) l zero (live x vs)) → spot_of 𝓤 H E k ≡ (ty_enum ν τss, l, zero)
      → variant_of (ty_enum ν τss) j ≡ just σ → field_of σ 0 ≡ just (ty_int w8, 0) → Opd K 𝓛 Γ E (copy (place k (variant j ∷ field 0 ∷ []))) (vint w8 x)
  tag t {k} {j} {q} {ν} {τss} {l} {x} {vs} e at-k has f =
      load t (from t (subst (λ (s : Spot 𝓤 H). Walks K 𝓛 Γ E s (variant j ∷ field 0 ∷ []) (ty_int w8, l, zero + 0)) (sym at-k) (vrt t has (fld t f (stop t)))))
      (look_tag t (index k Γ) (subst (λ (i : Item 𝓤). Part K 𝓛 i q (ty_enum ν τss) l zero (live x vs) (λ (u : Val). ‵ (fat q (ty_enum ν τss) l zero u))) (sym (at_index 𝓛 k Γ ∙ e)) (whole t)))

  pub within : K → {k x i : ℕ} {q : Share} {ν : Sym} {τss : Tyss} {l : ℕ} {vs : Vals} {σ : Ty} {τs : Tys} {τ : Ty} {d : ℕ} {v : Val} → local_at 𝓛 k Γ ≡ ‵ (fat q (ty_enum ν τss) l zero (live x vs)) → spot_of 𝓤 H E k ≡ (ty_enum ν τss, l, zero)
      → variant_of (ty_enum ν τss) x ≡ just σ → field_of σ (suc i) ≡ just (τ, d) → variant_at τss x ≡ just τs → field_at 1 τs i ≡ just (τ, d) → get_v vs i ≡ v → Opd K 𝓛 Γ E (copy (place k (variant x ∷ field (suc i) ∷ []))) v
  within t {k} {x} {i} {q} {ν} {τss} {l} {vs} {σ} {τs} {τ} {d} e at-k has f has' f' is =
      subst (λ (w : Val). Opd K 𝓛 Γ E (copy (place k (variant x ∷ field (suc i) ∷ []))) w) is
      (load t (from t (subst (λ (s : Spot 𝓤 H). Walks K 𝓛 Γ E s (variant x ∷ field (suc i) ∷ []) (τ, l, zero + d)) (sym at-k) (vrt t has (fld t f (stop t)))))
      (look_in t (index k Γ) (subst (λ (j : Item 𝓤). Part K 𝓛 j q τ l (zero + d) (get_v vs i) (λ (u : Val). ‵ (fat q (ty_enum ν τss) l zero (live x (set_v vs i u))))) (sym (at_index 𝓛 k Γ ∙ e)) (in_variant t x i has' f' (whole t)))))

  pub matches : K → {C : Calls 𝓤 H} {Λ : Loops 𝓤 H} {q : Post 𝓤 H} {c : Operand} {w : Width} {arms : Arms} {x : ℕ} {a b : Body} → Opd K 𝓛 Γ E c (vint w x) → chosen arms x ≡ just a → Arm K 𝓛 Γ C Λ E q b a → Seq K 𝓛 Γ (runs C Λ E (seq (switch c arms) b) q)
  matches t {C} {Λ} {q} {arms = arms} {x} {b = b} o e goes_on =
      let G : Post 𝓤 H = any_q (after_seq 𝓤 H (Wp 𝓤 H C Λ E b (post 𝓤 H q)) (post 𝓤 H q)) in
      into t $ switches_on t o $ record { prf = via 𝓤 _ (goes_on G refl (λ Δ. step (λ s. record { prf = s.prf }))).prf (runs_at 𝓤 H C Λ E (post 𝓤 H G) arms x e) }
