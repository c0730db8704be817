-- Branches of a walk. `Forks.antt` has those that something follows, and loops.
--     decides          `if c { a } else { a' }` at the end of a block
--     Arm              what an arm of `Forks.antt` shows
-- An arm gets the fact that its test came out so.
-- Assumes nothing. The rules of the logic, `Logic`, are an argument of each law.
use mathlib.Core.Path.{◌≡◌, refl}
use mathlib.Core.List.{List}
use mathlib.Core.Bool.{Bool, true, false, not}
use seplogic.Ra.Ura.{Ura}
use lib.Dec.{T}
use mir.Syntax.{Opd as Operand, Body, cond}
use mir.Val.{vbool}
use prog.Wp.{Env, Calls, Loops, next, returns as returnsᴼ}
use types.Logic.{Logic}
use types.Kit.{Item, Post, post, runs, prop, Seq, Step}
use types.Run.{Opd, branches}

is_true : (y : Bool) → T y → y ≡ true
is_true true h = refl
is_true false h = absurd h

is_false : (y : Bool) → T (not y) → y ≡ false
is_false true h = absurd h
is_false false h = refl

-- what an arm a shows, where the function's end is q and b comes after the arms
abbrev pub Arm : {M : Type 1} {𝓤 : Ura M} (K : Type 0) (𝓛 : Logic 𝓤) → List (Item 𝓤) → Calls 𝓤 𝓛.H → Loops 𝓤 𝓛.H → Env 𝓤 𝓛.H → Post 𝓤 𝓛.H → Body → Body → Type 2
Arm {M} {𝓤} K 𝓛 Γ C Λ E q b a = (G : Post 𝓤 𝓛.H) → post 𝓤 𝓛.H G returnsᴼ ≡ post 𝓤 𝓛.H q returnsᴼ → ((Δ : List (Item 𝓤)) → Step K 𝓛 Δ (runs C Λ E b q) Δ (prop (post 𝓤 𝓛.H G next))) → Seq K 𝓛 Γ (runs C Λ E a G)

module _ {M : Type 1} {𝓤 : Ura M} {𝓛 : Logic 𝓤} {K : Type 0} where
  open 𝓛 use {H}

  module _ {Γ : List (Item 𝓤)} {E : Env 𝓤 H} {C : Calls 𝓤 H} {Λ : Loops 𝓤 H} {q : Post 𝓤 H} {c : Operand} {y : Bool} where
    pub decides : K → {a a' : Body} → Opd K 𝓛 Γ E c (vbool y) → (y ≡ true → Seq K 𝓛 Γ (runs C Λ E a q)) → (y ≡ false → Seq K 𝓛 Γ (runs C Λ E a' q)) → Seq K 𝓛 Γ (runs C Λ E (cond c a a') q)
    decides t o held failed = branches t o (λ h. held (is_true y h)) (λ h. failed (is_false y h))
