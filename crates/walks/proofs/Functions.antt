-- Functions of slices and then plain data, as their authors write them down and their callers see them.
--     Asks             what a function asks: nothing, or a fact.        Met      that it holds
--     Lent             a slice parameter: shr R for `&[R]`, mut R for `&mut [R]`.        Lists, Lefts      the lists of all slices, and of the `&mut` ones alone, each a row that ends in `tt`
--     SlicesFn ls      a function of the slices ls: what it takes and gives, and what its contract asks and says, of the lists on entry, the plain arguments, the result and the lists that the `&mut` slices are left at
--     MutFn R          the same of one `&mut [R]`.        ShrFn R      of a `&[R]`.        BothFn R D      of a `&[R]` and a `&mut [D]`.        PlainFn      of no slice.        of_mut, of_shr, of_both, of_plain      each as a SlicesFn
--     ContractSlices   the contract. That which Rattle makes of a function computes to that of what its author writes down; where it does not, the line that cites it is refused
-- Assumes nothing.
use Prim.Native.Nat.{ℕ, zero, suc}
use mathlib.Core.List.{List, [], ◌∷◌}
use seplogic.Ra.Ura.{Ura}
use mir.Syntax.{named}
use base.Logic.{SProp, ent, sep, emp, id⊢, via, fst∗}
use base.Fml.{Lft}
use types.Logic.{Logic}
use contract.Monad.{fact, fact_i}
use contract.Lifetimes.{Lfts}
use denote.RattleType.{RattleType, Denots}
use denote.Exit.{yes}
use denote.Slice.{MutSlice, ShrSlice}
use denote.Signature.{Slot, plain, types_at}
use denote.Triple.End.{Outs, all}
use denote.Triple.Spec.{triple_of}
use denote.Triple.Statement.{Contract}
use denote.Triple.Walked.{needs}
use denote.Triple.Clauses.{Clauses, Ended, closing}
use Rattle.walks.proofs.Values.{Datum, Data, slots_of, rows_of, from}

pub data Asks (X Y : Type 0) : Type 1 where
  nothing_asked : Asks X Y
  that : (X → Y → Type 0) → Asks X Y

module _ {X Y : Type 0} where
  abbrev pub Met : Asks X Y → X → Y → Type 0
  Met nothing_asked x y = Unit {0}
  Met (that P) x y = P x y

  module _ {M : Type 1} (𝓤 : Ura M) where
    abbrev pub asked : Asks X Y → X → Y → SProp 𝓤
    asked nothing_asked x y = emp 𝓤
    asked (that P) x y = fact 𝓤 (P x y)

    pub ask_in : (p : Asks X Y) (x : X) (y : Y) → Met p x y → ent 𝓤 (emp 𝓤) (asked p x y)
    ask_in nothing_asked x y m = id⊢ 𝓤 (emp 𝓤)
    ask_in (that P) x y m = fact_i 𝓤 (P x y) (emp 𝓤) m

    pub ask_out : (p : Asks X Y) (x : X) (y : Y) (In : SProp 𝓤) {Out : SProp 𝓤} → (Met p x y → ent 𝓤 In Out) → ent 𝓤 (sep 𝓤 In (asked p x y)) Out
    ask_out nothing_asked x y In k = via 𝓤 In (fst∗ 𝓤 In (emp 𝓤)) (k tt)
    ask_out (that P) x y In k = needs 𝓤 (P x y) In k

-- what is asked of f x
abbrev pub asks_at : {X X' Y : Type 0} → (X → X') → Asks X' Y → Asks X Y
asks_at f nothing_asked = nothing_asked
asks_at f (that P) = that (λ x y. P (f x) y)

module _ {X X' Y : Type 0} (f : X → X') (x : X) (y : Y) where
  pub met_in : (p : Asks X' Y) → Met p (f x) y → Met (asks_at f p) x y
  met_in nothing_asked m = m
  met_in (that P) m = m

  pub met_out : (p : Asks X' Y) → Met (asks_at f p) x y → Met p (f x) y
  met_out nothing_asked m = m
  met_out (that P) m = m

pub data Lent : Type 2 where
  shr : RattleType → Lent
  mut : RattleType → Lent

abbrev pub element : Lent → RattleType
element (shr R) = R
element (mut R) = R

-- its type, as the i-th parameter, at the lifetime κ
abbrev pub lent_at : ℕ → Lent → Lft → RattleType
lent_at i (shr R) κ = ShrSlice (named i) κ R
lent_at i (mut R) κ = MutSlice (named i) κ R

-- one lifetime to a slice
abbrev pub lives : List Lent → ℕ
lives [] = zero
lives (l ∷ ls) = suc (lives ls)

abbrev pub Lists : List Lent → Type 0
Lists [] = Unit {0}
Lists (l ∷ ls) = List (element l).Denot × Lists ls

abbrev pub Lefts : List Lent → Type 0
Lefts [] = Unit {0}
Lefts (shr R ∷ ls) = Lefts ls
Lefts (mut R ∷ ls) = List R.Denot × Lefts ls

-- the lists at exit
abbrev pub ended : (ls : List Lent) → Lists ls → Lefts ls → Lists ls
ended [] X Z = tt
ended (shr R ∷ ls) X Z = (X.0, ended ls X.1 Z)
ended (mut R ∷ ls) X Z = (Z.0, ended ls X.1 Z.1)

pub record SlicesFn (ls : List Lent) : Type 3 where
  pub takes : List Datum
  pub gives : Datum
  pub asks : Asks (Lists ls) (Data takes)
  pub says : Lists ls → Data takes → gives.row.Denot → Lefts ls → Type 0

-- ---- functions of few slices
pub record MutFn (R : RattleType) : Type 3 where
  pub takes : List Datum
  pub gives : Datum
  pub asks : Asks (List R.Denot) (Data takes)
  pub says : List R.Denot → Data takes → gives.row.Denot → List R.Denot → Type 0

pub record ShrFn (R : RattleType) : Type 3 where
  pub takes : List Datum
  pub gives : Datum
  pub asks : Asks (List R.Denot) (Data takes)
  pub says : List R.Denot → Data takes → gives.row.Denot → Type 0

pub record PlainFn : Type 3 where
  pub takes : List Datum
  pub gives : Datum
  pub asks : Asks (Unit {0}) (Data takes)
  pub says : Data takes → gives.row.Denot → Type 0

pub record BothFn (R D : RattleType) : Type 3 where
  pub takes : List Datum
  pub gives : Datum
  pub asks : Asks (List R.Denot × List D.Denot) (Data takes)
  pub says : List R.Denot → List D.Denot → Data takes → gives.row.Denot → List D.Denot → Type 0

abbrev pub of_mut : {R : RattleType} → MutFn R → SlicesFn (mut R ∷ [])
of_mut F = record { takes = F.takes; gives = F.gives; asks = asks_at (λ X. X.0) F.asks; says = λ X a r Z. F.says X.0 a r Z.0 }

abbrev pub of_shr : {R : RattleType} → ShrFn R → SlicesFn (shr R ∷ [])
of_shr F = record { takes = F.takes; gives = F.gives; asks = asks_at (λ X. X.0) F.asks; says = λ X a r _. F.says X.0 a r }

abbrev pub of_both : {R D : RattleType} → BothFn R D → SlicesFn (shr R ∷ mut D ∷ [])
of_both F = record { takes = F.takes; gives = F.gives; asks = asks_at (λ X. (X.0, X.1.0)) F.asks; says = λ X a r Z. F.says X.0 X.1.0 a r Z.0 }

abbrev pub of_plain : PlainFn → SlicesFn []
of_plain F = record { takes = F.takes; gives = F.gives; asks = asks_at (λ X. X) F.asks; says = λ _ a r _. F.says a r }

-- ---- the parameters. The slices ls are those from the i-th on, and π has their lifetimes
module _ (n : ℕ) (ks : List Datum) where
  abbrev pub params_of : (ls : List Lent) → ℕ → (Lfts n → Lfts (lives ls)) → List (Slot n)
  params_of [] i π = slots_of ks
  params_of (l ∷ ls) i π = plain (λ κs. lent_at i l (π κs).0) ∷ params_of ls (suc i) (λ κs. (π κs).1)

  module _ (κs : Lfts n) where
    abbrev pub types_of : (ls : List Lent) → ℕ → (Lfts n → Lfts (lives ls)) → List RattleType
    types_of ls i π = types_at (params_of ls i π) κs

    -- of the arguments: the lists, and the plain ones
    abbrev pub lists_of : (ls : List Lent) (i : ℕ) (π : Lfts n → Lfts (lives ls)) → Denots (types_of ls i π) → Lists ls
    lists_of [] i π a = tt
    lists_of (shr R ∷ ls) i π a = (a.0.now, lists_of ls (suc i) (λ κs. (π κs).1) a.1)
    lists_of (mut R ∷ ls) i π a = (a.0.now, lists_of ls (suc i) (λ κs. (π κs).1) a.1)

    abbrev pub plains_of : (ls : List Lent) (i : ℕ) (π : Lfts n → Lfts (lives ls)) → Denots (types_of ls i π) → Denots (rows_of n ks κs)
    plains_of [] i π a = a
    plains_of (l ∷ ls) i π a = plains_of ls (suc i) (λ κs. (π κs).1) a.1

    -- of the parameters at exit: the lists of the `&mut` slices
    abbrev pub lefts_of : (ls : List Lent) (i : ℕ) (π : Lfts n → Lfts (lives ls)) → Outs κs (params_of ls i π) (all yes (params_of ls i π)) → Lefts ls
    lefts_of [] i π e = tt
    lefts_of (shr R ∷ ls) i π e = lefts_of ls (suc i) (λ κs. (π κs).1) e.1
    lefts_of (mut R ∷ ls) i π e = (e.0.now, lefts_of ls (suc i) (λ κs. (π κs).1) e.1)

-- ---- the contract
module _ {ls : List Lent} (F : SlicesFn ls) where
  abbrev pub slices_t : Ended
  slices_t = record {
    signature = record { lifetimes = lives ls; outlives = []; params = params_of (lives ls) F.takes ls 0 (λ κs. κs); result = plain (λ _. F.gives.row) };
    kept = all yes (params_of (lives ls) F.takes ls 0 (λ κs. κs));
  }

  -- the arguments, as the contract speaks of them
  abbrev pub entered : (κs : Lfts (lives ls)) → Denots (types_of (lives ls) F.takes κs ls 0 (λ κs. κs)) → Lists ls
  entered κs a = lists_of (lives ls) F.takes κs ls 0 (λ κs. κs) a

  abbrev pub passed : (κs : Lfts (lives ls)) → Denots (types_of (lives ls) F.takes κs ls 0 (λ κs. κs)) → Data F.takes
  passed κs a = from (lives ls) F.takes κs (plains_of (lives ls) F.takes κs ls 0 (λ κs. κs) a)

  module _ {M : Type 1} {𝓤 : Ura M} (𝓛 : Logic 𝓤) where
    abbrev pub slices_clauses : Clauses 𝓤 slices_t
    slices_clauses κs a = record {
      ghost = Unit {0};
      requires = λ _. asked 𝓤 F.asks (entered κs a) (passed κs a);
      ensures = λ _ r e. fact 𝓤 (F.says (entered κs a) (passed κs a) r (lefts_of (lives ls) F.takes κs ls 0 (λ κs. κs) e));
    }

    abbrev pub ContractSlices : Contract 𝓤
    ContractSlices = triple_of 𝓛 slices_t.signature (closing 𝓛 slices_t slices_clauses)
