-- The slices of a call, for `Calls.antt`. Definitions alone: no law stands here.
--     Pass             a slice that the caller hands to the callee: lend_mut p S ys same, a `&mut` lent again as a `&mut`; lend_shr cp p S ys same, a `&mut` lent as a `&`; pass_shr cp p S ys same, a `&` passed on.
--                      p is the slice's number, from 0, as the slices stand at the front of the context, and cp says that a `&` to an element can be made and passed on, as `copied` of a `Datum` does
--     blank            the context while the callee has them.        lefts, left_at      what they are after it, and the context with them
--     Stand            that each stands at its number
-- Assumes nothing. The rules of the logic, `Logic`, are an argument of each definition that speaks of a context.
use mathlib.Core.Path.{◌≡◌}
use Prim.Native.Nat.{ℕ, zero, suc}
use mathlib.Core.List.{List, [], ◌∷◌}
use lib.ListN.{length}
use seplogic.Ra.Ura.{Ura}
use mir.Val.{Val}
use base.Fml.{Fml, ftrue}
use types.Logic.{Logic}
use types.Kit.{Item, ‵, nth, put}
use denote.RattleType.{RattleType}
use Rattle.walks.proofs.Lend.{View, fat, Tok, Own, Shr}
use Rattle.walks.proofs.Values.{Copies}
use Rattle.walks.proofs.Functions.{Lent, shr, mut, element, Lists, Lefts}

-- ---- the slices of a call
pub data Pass : Type 2 where
  lend_mut : {R : RattleType} → ℕ → (S : View R) (ys : List R.Denot) → length ys ≡ S.count → Pass
  lend_shr : {R : RattleType} → Copies R → ℕ → (S : View R) (ys : List R.Denot) → length ys ≡ S.count → Pass
  pass_shr : {R : RattleType} → Copies R → ℕ → (S : View R) (ys : List R.Denot) → length ys ≡ S.count → Pass

-- ---- one slice
abbrev pub theirs : Pass → Lent
theirs (lend_mut {R} p S ys e) = mut R
theirs (lend_shr {R} cp p S ys e) = shr R
theirs (pass_shr {R} cp p S ys e) = shr R

-- what the caller has of it, and the token
abbrev pub here : Pass → Fml
here (lend_mut p S ys e) = Own S ys
here (lend_shr cp p S ys e) = Own S ys
here (pass_shr cp p S ys e) = Shr S ys

abbrev pub token : Pass → Fml
token (lend_mut p S ys e) = Tok S
token (lend_shr cp p S ys e) = Tok S
token (pass_shr cp p S ys e) = Tok S

abbrev pub number : Pass → ℕ
number (lend_mut p S ys e) = p
number (lend_shr cp p S ys e) = p
number (pass_shr cp p S ys e) = p

-- its machine value, as the caller has it
abbrev pub wide : Pass → Val
wide (lend_mut p S ys e) = fat S
wide (lend_shr cp p S ys e) = fat S
wide (pass_shr cp p S ys e) = fat S

-- ---- all slices
abbrev pub taken : List Pass → List Lent
taken [] = []
taken (x ∷ xs) = theirs x ∷ taken xs

abbrev list_of : (x : Pass) → List (element (theirs x)).Denot
list_of (lend_mut p S ys e) = ys
list_of (lend_shr cp p S ys e) = ys
list_of (pass_shr cp p S ys e) = ys

abbrev pub given : (xs : List Pass) → Lists (taken xs)
given [] = tt
given (x ∷ xs) = (list_of x, given xs)

-- the lists of the `&mut` ones as they are
abbrev pub still : (xs : List Pass) → Lefts (taken xs)
still [] = tt
still (lend_mut p S ys e ∷ xs) = (ys, still xs)
still (lend_shr cp p S ys e ∷ xs) = still xs
still (pass_shr cp p S ys e ∷ xs) = still xs

abbrev pub wides : List Pass → List Val → List Val
wides [] vs = vs
wides (x ∷ xs) vs = wide x ∷ wides xs vs

abbrev pub LeftFor : (xs : List Pass) → Lefts (taken xs) → Type 0
LeftFor [] Z = Unit {0}
LeftFor (lend_mut p S ys e ∷ xs) Z = (length Z.0 ≡ S.count) × LeftFor xs Z.1
LeftFor (lend_shr cp p S ys e ∷ xs) Z = LeftFor xs Z
LeftFor (pass_shr cp p S ys e ∷ xs) Z = LeftFor xs Z

-- where they stand in the context: what is there, the context without them, and with others in their places
abbrev pub twice : ℕ → ℕ
twice zero = zero
twice (suc n) = suc (suc (twice n))

module _ {M : Type 1} {𝓤 : Ura M} (𝓛 : Logic 𝓤) where
  abbrev pub gone : Pass → List (Item 𝓤) → List (Item 𝓤)
  gone x Γ = put 𝓛 (suc (twice (number x))) (‵ ftrue) (put 𝓛 (twice (number x)) (‵ ftrue) Γ)

  abbrev pub blank : List Pass → List (Item 𝓤) → List (Item 𝓤)
  blank [] Γ = Γ
  blank (x ∷ xs) Γ = blank xs (gone x Γ)

  abbrev pub looks : List Pass → List (Item 𝓤) → List (Item 𝓤 × Item 𝓤)
  looks [] Γ = []
  looks (x ∷ xs) Γ = (nth 𝓛 (twice (number x)) Γ, nth 𝓛 (suc (twice (number x))) (put 𝓛 (twice (number x)) (‵ ftrue) Γ)) ∷ looks xs (gone x Γ)

  abbrev pub wants : List Pass → List (Item 𝓤 × Item 𝓤)
  wants [] = []
  wants (x ∷ xs) = (‵ (here x), ‵ (token x)) ∷ wants xs

  abbrev pub lefts : (xs : List Pass) → Lefts (taken xs) → List (Item 𝓤 × Item 𝓤)
  lefts [] Z = []
  lefts (lend_mut p S ys e ∷ xs) Z = (‵ (Own S Z.0), ‵ (Tok S)) ∷ lefts xs Z.1
  lefts (lend_shr cp p S ys e ∷ xs) Z = (‵ (Own S ys), ‵ (Tok S)) ∷ lefts xs Z
  lefts (pass_shr cp p S ys e ∷ xs) Z = (‵ (Shr S ys), ‵ (Tok S)) ∷ lefts xs Z

  abbrev pub laid : List Pass → List (Item 𝓤 × Item 𝓤) → List (Item 𝓤) → List (Item 𝓤)
  laid [] is Γ = Γ
  laid (x ∷ xs) [] Γ = blank (x ∷ xs) Γ
  laid (x ∷ xs) (i ∷ is) Γ = put 𝓛 (twice (number x)) i.0 (put 𝓛 (suc (twice (number x))) i.1 (laid xs is (gone x Γ)))

  abbrev pub left_at : (xs : List Pass) → Lefts (taken xs) → List (Item 𝓤) → List (Item 𝓤)
  left_at [] Z Γ = Γ
  left_at (lend_mut p S ys e ∷ xs) Z Γ = left_at xs Z.1 (put 𝓛 (twice p) (‵ (Own S Z.0)) Γ)
  left_at (lend_shr cp p S ys e ∷ xs) Z Γ = left_at xs Z Γ
  left_at (pass_shr cp p S ys e ∷ xs) Z Γ = left_at xs Z Γ

  -- that each slice stands at its number, and that the context with the lists of Z is what it is where they are put back one by one
  abbrev pub Stand : (xs : List Pass) → List (Item 𝓤) → Type 2
  Stand xs Γ = (Z : Lefts (taken xs)) → ◌≡◌ {A = List (Item 𝓤 × Item 𝓤) × List (Item 𝓤)} (looks xs Γ, laid xs (lefts xs Z) Γ) (wants xs, left_at xs Z Γ)
