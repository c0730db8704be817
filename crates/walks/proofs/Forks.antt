-- Branches of a walk that something follows, and loops.
--     forks            `if c { a } else { a' }`, and then b.        guards      the same with no `else`: an early return, or something done only then
--     whiles           a `while`, whose test is one statement
-- An arm (`Arm` of `Flow.antt`) gets the fact that its test came out so. It ends in a `return`, for which it gets that its own end is the function's, or in `on`, after which b runs.
-- Assumes nothing. The rules of the logic, `Logic`, are an argument of each law.
use mathlib.Core.Path.{◌≡◌, refl}
use Prim.Native.Nat.{ℕ, zero, ◌<◌}
use mathlib.Core.List.{List, []}
use mathlib.Core.Bool.{Bool, true, false}
use mathlib.Core.WellFounded.InvImage
use lib.WfN.{lt-wf_rel}
use seplogic.Ra.Ura.{Ura}
use base.Fraction.{full_share}
use mir.Syntax.{Opd as Operand, Body, Rv as RValue, place, copy, seq, assign, block, loop, cond, skip, exit}
use mir.Val.{vbool}
use base.Fml.{fat, froom}
use prog.Wp.{Env, Calls, Loops, Tables, Wp, spot_of, next, returns as returnsᴼ, after_turn, after_block, after_seq}
use types.Logic.{Logic}
use types.Kit.{Item, ‵, Post, post, any_q, runs, prop, Seq, step, ◌$◌}
use types.Run.{Opd, Rv, load, from, stop, assigns, first as into, blocks, loops, again, Below, stays, leaves_loop, skips}
use Rattle.walks.proofs.Locals.{none, local_at, with, Fits, looked, stores}
use Rattle.walks.proofs.Flow.{Arm, decides}

module _ {M : Type 1} {𝓤 : Ura M} {𝓛 : Logic 𝓤} {K : Type 0} where
  open 𝓛 use {H}

  module _ {Γ : List (Item 𝓤)} {E : Env 𝓤 H} {C : Calls 𝓤 H} {Λ : Loops 𝓤 H} {q : Post 𝓤 H} {c : Operand} {y : Bool} where
    pub forks : K → {a a' b : Body} → Opd K 𝓛 Γ E c (vbool y) → (y ≡ true → Arm K 𝓛 Γ C Λ E q b a) → (y ≡ false → Arm K 𝓛 Γ C Λ E q b a') → Seq K 𝓛 Γ (runs C Λ E (seq (cond c a a') b) q)
    forks t {b = b} o held failed =
        let G : Post 𝓤 H = any_q (after_seq 𝓤 H (Wp 𝓤 H C Λ E b (post 𝓤 H q)) (post 𝓤 H q)) in
        into t $ decides t o (λ e. held e G refl (λ Δ. step (λ s. record { prf = s.prf }))) (λ e. failed e G refl (λ Δ. step (λ s. record { prf = s.prf })))

    pub guards : K → {a b : Body} → Opd K 𝓛 Γ E c (vbool y) → (y ≡ true → Arm K 𝓛 Γ C Λ E q b a) → (y ≡ false → Seq K 𝓛 Γ (runs C Λ E b q)) → Seq K 𝓛 Γ (runs C Λ E (seq (cond c a skip) b) q)
    guards t o held failed = forks t o held (λ e G _ on. skips t $ on Γ $ failed e)

  -- I x is what stands at the test, in the state x, of which μ is the measure. A turn ends in a state of a smaller measure, or returns
  module _ {E : Env 𝓤 H} {k : ℕ} {rv : RValue} {turn rest : Body} {q : Post 𝓤 H} {X : Type 0} (𝓣 : Tables 𝓤 H) (I : X → List (Item 𝓤)) (μ : X → ℕ) (test : X → Bool) where
    pub whiles : K → ((x : X) → local_at 𝓛 k (I x) ≡ ‵ (froom (spot_of 𝓤 H E k).0 (spot_of 𝓤 H E k).1 zero)) → ((x : X) (y : Bool) → Fits 𝓛 (I x) E k (vbool y))
        → ((x : X) (y : Bool) → local_at 𝓛 k (with 𝓛 (I x) E k (vbool y)) ≡ ‵ (fat full_share (spot_of 𝓤 H E k).0 (spot_of 𝓤 H E k).1 zero (vbool y)))
        → ((x : X) → Rv K 𝓛 (I x) E rv (vbool (test x)))
        → ((x : X) → test x ≡ true → (G : Post 𝓤 H) → post 𝓤 H G returnsᴼ ≡ post 𝓤 H q returnsᴼ → ((y : X) → μ y < μ x → Seq K 𝓛 (I y) (prop (post 𝓤 H G next))) → Seq K 𝓛 (with 𝓛 (I x) E k (vbool true)) (runs 𝓣.C 𝓣.Λ E turn G))
        → ((x : X) → test x ≡ false → Seq K 𝓛 (with 𝓛 (I x) E k (vbool false)) (runs 𝓣.C 𝓣.Λ E rest q))
        → (x : X) → Seq K 𝓛 (I x) (runs 𝓣.C 𝓣.Λ E (seq (block (loop (seq (assign (place k []) rv) (seq (cond (copy (place k [])) skip (exit 1)) turn)))) rest) q)
    unfolding after_turn
    whiles t empty fits there tests more done x₀ = into t $ blocks t $ loops t 𝓣 (λ y x. μ y < μ x) (InvImage.wf μ lt-wf_rel.wf) I (λ x.
        assigns t (tests x) (from t (stop t)) (stores t k none (empty x) (fits x (test x))) $ decide x (test x) refl) x₀
      where
        G : X → Post 𝓤 H
        G x = any_q (after_turn 𝓤 H (Below 𝓛 (λ y x. μ y < μ x) I x) (after_block 𝓤 H (after_seq 𝓤 H (Wp 𝓤 H 𝓣.C 𝓣.Λ E rest (post 𝓤 H q)) (post 𝓤 H q))))

        decide : (x : X) (y : Bool) → test x ≡ y → Seq K 𝓛 (with 𝓛 (I x) E k (vbool y)) (runs 𝓣.C 𝓣.Λ E (seq (cond (copy (place k [])) skip (exit 1)) turn) (G x))
        decide x true e = stays t (load t (from t (stop t)) (looked t k (there x true))) $ more x e (G x) refl (λ y l. record { prf = (again {𝓛 = 𝓛} t (λ y x. μ y < μ x) I x y l).prf })
        decide x false e = leaves_loop t (load t (from t (stop t)) (looked t k (there x false))) $ record { prf = (done x e).prf }
