-- From a walk to the contract, of a function of slices and then plain data (`Functions.antt`).
--     Views, Long, LeftLong      where the slices lie; that each list is as long as its slice's count, on entry and, of the `&mut` ones, at exit
--     held, over       what the slices own, and their tokens, as a context has them; and what a walk has between two statements
--     SlicesWalk       what the author shows: from the slices, their tokens and the locals, with the arguments in them, the body runs to a return.
--                      There the author has, from the walk's last argument, that a result r, and of each `&mut` a last list as long as the first, are enough, if they are what the contract says
--     slices_proved    so the function meets its contract.        mut_proved, shr_proved, both_proved      the same of few slices, each with names of its own in the walk
-- Assumes nothing. The rules of the logic, `Logic`, are an argument of each law.
use mathlib.Core.Path.{◌≡◌, refl, sym, ap, ◌∙◌, subst}
use Prim.Native.Nat.{ℕ, suc}
use mathlib.Core.List.{List, [], ◌∷◌, ◌++◌}
use lib.ListN.{length}
use seplogic.Ra.Ura.{Ura}
use mir.Syntax.{Ty, Local, Fn, named}
use mir.Val.{Val}
use base.Logic.{SProp, ent, sep, emp, id⊢, via, mono_r, fst∗, emp∗}
use base.Fml.{Lft, Fml, ftrue, fsep, fres, fbor}
use prog.Model.{Model}
use prog.Routine.{Callee, Env}
use prog.Wp.{WpFn, Tables, Closed}
use types.Logic.{Logic, sem}
use contract.Monad.{top, fact, fact_i}
use contract.Lifetimes.{Lfts, Shares, toks}
use contract.Running.{Running, tables, tables_of}
use types.Kit.{Item, ‵, raw, ◌⊛◌, prop, runs, at_ret, Sq, ◌$◌, ◌∵◌, !, qed, by, push, pop, ⋆, move, use0, use1, split, join, fsplit, fjoin, feq_i, frame, updating, now as at_once, keep, suffices, rewrite, done}
use sound.WpLaws.{WpFn-mono}
use denote.RattleType.{RattleType, Denots, Valss, flat, mirs, owns}
use denote.Exit.{Exit, unchanged, Last, left, yes}
use denote.Laws.{Is, Ises, Are, Spells, Tellss, Lawfuls, Typed, valss, all_Typed}
use denote.Ref.{at_last}
use denote.Lend.{Held}
use denote.Slice.{slice_val, MutSlice, ShrSlice, shr_slice_vals, mut_slice_vals, mut_slice_Tells, shr_slice_Tells, mut_slice_Lawful, shr_slice_Lawful, finally, res-finally, coded_holeys, heres}
use denote.Signature.{plain}
use denote.Steps.{nothing}
use denote.Triple.Entry.{on_entry}
use denote.Triple.End.{Fins, all, outs}
use denote.Triple.Statement.{Triple}
use denote.Triple.Clauses.{at_exit}
use denote.Triple.Table.{entered as entered_at}
use denote.Triple.Walked.{Stay, Stays, stay_dropped, fits_of, has_of, walk_of, Goes, AllGo, Goes-dropped, ends_at, walked, walk_Meets}
use Rattle.walks.proofs.Locals.{Cell, none, has, stored, slots, deaths, Blocks, env, Suits, starts}
use Rattle.walks.proofs.Lend.{View, fat, Tok, Own, Shr}
use Rattle.walks.proofs.Values.{Datum, Data, machine, Known, slots_of, rows_of, spells_of, tells_of, vals_of, from, flat_is, known_from, lawfuls_of}
use Rattle.walks.proofs.Arrays.{changes}
use Rattle.walks.proofs.Functions.{Met, ask_out, met_out, Lent, shr, mut, element, lives, Lists, Lefts, ended, SlicesFn, MutFn, ShrFn, BothFn, of_mut, of_shr, of_both, params_of, types_of, lists_of, plains_of, lefts_of, slices_t, entered, passed, slices_clauses, ContractSlices}

-- ---- the slices that a function holds
abbrev pub Views : List Lent → Type 0
Views [] = Unit {0}
Views (l ∷ ls) = View (element l) × Views ls

abbrev pub Long : (ls : List Lent) → Views ls → Lists ls → Type 0
Long [] S X = Unit {0}
Long (l ∷ ls) S X = (length X.0 ≡ S.0.count) × Long ls S.1 X.1

abbrev pub LeftLong : (ls : List Lent) → Views ls → Lefts ls → Type 0
LeftLong [] S Z = Unit {0}
LeftLong (shr R ∷ ls) S Z = LeftLong ls S.1 Z
LeftLong (mut R ∷ ls) S Z = (length Z.0 ≡ S.0.count) × LeftLong ls S.1 Z.1

-- their machine values, in front of vs
abbrev pub fats : (ls : List Lent) → Views ls → List Val → List Val
fats [] S vs = vs
fats (l ∷ ls) S vs = fat S.0 ∷ fats ls S.1 vs

abbrev kept_fats : (ls : List Lent) → Views ls → List Cell → List Cell
kept_fats [] S cs = cs
kept_fats (l ∷ ls) S cs = has (fat S.0) ∷ kept_fats ls S.1 cs

module _ {M : Type 1} {𝓤 : Ura M} where
  abbrev pub held : (ls : List Lent) → Views ls → Lists ls → List (Item 𝓤)
  held [] S X = []
  held (shr R ∷ ls) S X = ‵ (Shr S.0 X.0) ∷ ‵ (Tok S.0) ∷ held ls S.1 X.1
  held (mut R ∷ ls) S X = ‵ (Own S.0 X.0) ∷ ‵ (Tok S.0) ∷ held ls S.1 X.1

  -- what a walk has between two statements: the slices and their tokens, and the locals. The result has no value yet, the slices come next, and then the cells cs
  abbrev pub over : {ls : List Lent} → SlicesFn ls → Views ls → Lists ls → List (Ty × ℕ) → List Cell → List (Item 𝓤)
  over {ls} F S X E cs = held ls S X ++ slots E (none ∷ kept_fats ls S cs) (‵ (deaths E) ∷ [])

-- the same as one assertion
module _ {M : Type 1} {𝓤 : Ura M} (𝓛 : Logic 𝓤) where
  abbrev Holding : (ls : List Lent) → Views ls → Lists ls → SProp 𝓤
  Holding [] S X = emp 𝓤
  Holding (shr R ∷ ls) S X = sep 𝓤 (sem 𝓛 (Shr S.0 X.0)) (sep 𝓤 (sem 𝓛 (Tok S.0)) (Holding ls S.1 X.1))
  Holding (mut R ∷ ls) S X = sep 𝓤 (sem 𝓛 (Own S.0 X.0)) (sep 𝓤 (sem 𝓛 (Tok S.0)) (Holding ls S.1 X.1))

  two_in : (F G : Fml) (P : SProp 𝓤) (Γ : List (Item 𝓤)) → ent 𝓤 P (⋆ 𝓛 Γ) → ent 𝓤 (sep 𝓤 (sem 𝓛 F) (sep 𝓤 (sem 𝓛 G) P)) (⋆ 𝓛 (‵ F ∷ ‵ G ∷ Γ))
  two_in F G P Γ h = mono_r 𝓤 (sem 𝓛 F) (via 𝓤 _ (mono_r 𝓤 (sem 𝓛 G) h) (push 𝓛 (‵ G) Γ))

  two_out : (F G : Fml) (P : SProp 𝓤) (Γ : List (Item 𝓤)) → ent 𝓤 (⋆ 𝓛 Γ) P → ent 𝓤 (⋆ 𝓛 (‵ F ∷ ‵ G ∷ Γ)) (sep 𝓤 (sem 𝓛 F) (sep 𝓤 (sem 𝓛 G) P))
  two_out F G P Γ h = mono_r 𝓤 (sem 𝓛 F) (via 𝓤 _ (pop 𝓛 (‵ G) Γ) (mono_r 𝓤 (sem 𝓛 G) h))

  held_in : (ls : List Lent) (S : Views ls) (X : Lists ls) → ent 𝓤 (Holding ls S X) (⋆ 𝓛 (held ls S X))
  held_in [] S X = id⊢ 𝓤 (emp 𝓤)
  held_in (shr R ∷ ls) S X = two_in (Shr S.0 X.0) (Tok S.0) (Holding ls S.1 X.1) (held ls S.1 X.1) (held_in ls S.1 X.1)
  held_in (mut R ∷ ls) S X = two_in (Own S.0 X.0) (Tok S.0) (Holding ls S.1 X.1) (held ls S.1 X.1) (held_in ls S.1 X.1)

  held_out : (ls : List Lent) (S : Views ls) (X : Lists ls) → ent 𝓤 (⋆ 𝓛 (held ls S X)) (Holding ls S X)
  held_out [] S X = id⊢ 𝓤 (emp 𝓤)
  held_out (shr R ∷ ls) S X = two_out (Shr S.0 X.0) (Tok S.0) (Holding ls S.1 X.1) (held ls S.1 X.1) (held_out ls S.1 X.1)
  held_out (mut R ∷ ls) S X = two_out (Own S.0 X.0) (Tok S.0) (Holding ls S.1 X.1) (held ls S.1 X.1) (held_out ls S.1 X.1)

-- one slice and its token apart from what all own, and from all tokens; and back
module _ {M : Type 1} {𝓤 : Ura M} (𝓛 : Logic 𝓤) where
  apart : (F T G : Fml) (Q P : SProp 𝓤) → ent 𝓤 (sep 𝓤 Q (sem 𝓛 G)) P → ent 𝓤 (sep 𝓤 (sep 𝓤 (sem 𝓛 T) Q) (sem 𝓛 (fsep F G))) (sep 𝓤 (sem 𝓛 F) (sep 𝓤 (sem 𝓛 T) P))
  apart F T G Q P h = qed 𝓛 ((‵ T ⊛ raw Q) ∷ ‵ (fsep F G) ∷ []) ∵ split ! $ move ! (2 ∷ []) $ fsplit ! $ move ! (0 ∷ 2 ∷ 3 ∷ 1 ∷ []) $ frame ! $ frame ! $ by ! h

  together : (F F' T G : Fml) (Q P : SProp 𝓤) → ent 𝓤 (sem 𝓛 F) (sem 𝓛 F') → ent 𝓤 P (sep 𝓤 Q (sem 𝓛 G)) → ent 𝓤 (sep 𝓤 (sem 𝓛 F) (sep 𝓤 (sem 𝓛 T) P)) (sep 𝓤 (sep 𝓤 (sem 𝓛 T) Q) (sem 𝓛 (fsep F' G)))
  together F F' T G Q P f h = qed 𝓛 (‵ F ∷ ‵ T ∷ raw P ∷ []) ∵ use1 𝓛 (‵ F') f $ move ! (2 ∷ []) $ use1 𝓛 (raw Q ⊛ ‵ G) h $ split ! $ move ! (3 ∷ 0 ∷ []) $ join ! $ move ! (2 ∷ 1 ∷ []) $ fjoin ! $ move ! (1 ∷ 0 ∷ []) $ done !

-- ---- of plain data nothing is had at exit
abbrev stays_of : (n : ℕ) (ks : List Datum) → Stays {n = n} (slots_of ks) (all yes (slots_of ks))
stays_of n [] = tt
stays_of n (k ∷ ks) = (stay_dropped (plain (λ _. k.row)) yes, stays_of n ks)

silent : {D : Type 0} (e : Exit D) → e ≡ unchanged → (x : D) (f : Last e x) → left e x f ≡ ftrue
silent e p x = subst (λ (e' : Exit _). (f : Last e' x) → left e' x f ≡ ftrue) (sym p) (λ f. refl)

abbrev lasts_of : (n : ℕ) (ks : List Datum) (κs : Lfts n) (a : Denots (rows_of n ks κs)) → Fins κs (slots_of ks) (all yes (slots_of ks)) a
lasts_of n [] κs a = tt
lasts_of n (k ∷ ks) κs a = (subst (λ (e : Exit k.row.Denot). Last e a.0) (sym (k.still yes)) tt, lasts_of n ks κs a.1)

fits_all : (n : ℕ) (ks : List Datum) (κs : Lfts n) (a : Denots (rows_of n ks κs)) → fits_of κs (slots_of ks) (all yes (slots_of ks)) (stays_of n ks) a (lasts_of n ks κs a)
fits_all n [] κs a = tt
fits_all n (k ∷ ks) κs a = (tt, fits_all n ks κs a.1)

module _ {M : Type 1} {𝓤 : Ura M} (𝓛 : Logic 𝓤) where
  goes_of : (n : ℕ) (ks : List Datum) → AllGo 𝓛 n (slots_of ks) (all yes (slots_of ks)) (stays_of n ks)
  goes_of n [] = tt
  goes_of n (k ∷ ks) = (Goes-dropped 𝓛 n (plain (λ _. k.row)) yes (λ κs x f. silent (k.row.exit yes) (k.still yes) x f), goes_of n ks)

  had_of : (n : ℕ) (ks : List Datum) (κs : Lfts n) (a : Denots (rows_of n ks κs)) (vss : Valss (rows_of n ks κs)) → ent 𝓤 (emp 𝓤) (sem 𝓛 (has_of κs (slots_of ks) (all yes (slots_of ks)) (stays_of n ks) a (lasts_of n ks κs a) vss))
  had_of n [] κs a vss = id⊢ 𝓤 (emp 𝓤)
  had_of n (k ∷ ks) κs a vss = qed 𝓛 [] ∵ use0 𝓛 (‵ (has_of κs (slots_of ks) (all yes (slots_of ks)) (stays_of n ks) a.1 (lasts_of n ks κs a.1) vss.1)) (had_of n ks κs a.1 vss.1) $ nothing ! $ fjoin ! $ done !

-- ---- the parameters: their machine values, their laws, and what is had of them at exit
module _ (n : ℕ) (ks : List Datum) where
  -- a `&mut [R]` is still owned, at its last list
  abbrev stay_mut : (i : ℕ) (κ : Lfts n → Lft) (R : RattleType) → Stay {n = n} (plain (λ κs. MutSlice (named i) (κ κs) R)) yes
  stay_mut i κ R = record { fit = λ κs x ws. length ws ≡ length x.now; has = λ κs x ws. (MutSlice (named i) (κ κs) R).own_val (at_last x ws) }

  abbrev stays_in : (ls : List Lent) (i : ℕ) (π : Lfts n → Lfts (lives ls)) → Stays {n = n} (params_of n ks ls i π) (all yes (params_of n ks ls i π))
  stays_in [] i π = stays_of n ks
  stays_in (shr R ∷ ls) i π = (stay_dropped (plain (λ κs. ShrSlice (named i) (π κs).0 R)) yes, stays_in ls (suc i) (λ κs. (π κs).1))
  stays_in (mut R ∷ ls) i π = (stay_mut i (λ κs. (π κs).0) R, stays_in ls (suc i) (λ κs. (π κs).1))

  module _ (κs : Lfts n) where
    abbrev spells_in : (ls : List Lent) (i : ℕ) (π : Lfts n → Lfts (lives ls)) → Spells (types_of n ks κs ls i π)
    spells_in [] i π = spells_of n ks κs
    spells_in (shr R ∷ ls) i π = (shr_slice_vals, spells_in ls (suc i) (λ κs. (π κs).1))
    spells_in (mut R ∷ ls) i π = (mut_slice_vals, spells_in ls (suc i) (λ κs. (π κs).1))

    abbrev tells_in : (ls : List Lent) (i : ℕ) (π : Lfts n → Lfts (lives ls)) → Tellss (types_of n ks κs ls i π) (Ises (types_of n ks κs ls i π)) (spells_in ls i π)
    tells_in [] i π = tells_of n ks κs
    tells_in (shr R ∷ ls) i π = (shr_slice_Tells (named i) (π κs).0 R, tells_in ls (suc i) (λ κs. (π κs).1))
    tells_in (mut R ∷ ls) i π = (mut_slice_Tells (named i) (π κs).0 R, tells_in ls (suc i) (λ κs. (π κs).1))

    abbrev vals_in : (ls : List Lent) (i : ℕ) (π : Lfts n → Lfts (lives ls)) → Denots (types_of n ks κs ls i π) → Valss (types_of n ks κs ls i π)
    vals_in ls i π = valss (types_of n ks κs ls i π) (spells_in ls i π)

    -- what the parameters' machine values are
    abbrev AreIn : (ls : List Lent) (i : ℕ) (π : Lfts n → Lfts (lives ls)) → Denots (types_of n ks κs ls i π) → Type 0
    AreIn ls i π a = Are (types_of n ks κs ls i π) (Ises (types_of n ks κs ls i π)) a (vals_in ls i π a)

    abbrev views_of : (ls : List Lent) (i : ℕ) (π : Lfts n → Lfts (lives ls)) → Shares (lives ls) → (a : Denots (types_of n ks κs ls i π)) → AreIn ls i π a → Views ls
    views_of [] i π qs a are = tt
    views_of (shr R ∷ ls) i π qs a are =
        (record { life = (π κs).0; share = qs.0; block = a.0.ref_ptr.0; offset = a.0.ref_ptr.1; name = 0; count = length a.0.now; room = are.0.0.1 }, views_of ls (suc i) (λ κs. (π κs).1) qs.1 a.1 are.1)
    views_of (mut R ∷ ls) i π qs a are =
        (record { life = (π κs).0; share = qs.0; block = a.0.ref_ptr.0; offset = a.0.ref_ptr.1; name = a.0.ghost_name; count = length a.0.now; room = are.0.0.1 }, views_of ls (suc i) (λ κs. (π κs).1) qs.1 a.1 are.1)

    -- on entry each list is as long as its slice's count, since that is where the count is from
    long_in : (ls : List Lent) (i : ℕ) (π : Lfts n → Lfts (lives ls)) (qs : Shares (lives ls)) (a : Denots (types_of n ks κs ls i π)) (are : AreIn ls i π a) → Long ls (views_of ls i π qs a are) (lists_of n ks κs ls i π a)
    long_in [] i π qs a are = tt
    long_in (shr R ∷ ls) i π qs a are = (refl, long_in ls (suc i) (λ κs. (π κs).1) qs.1 a.1 are.1)
    long_in (mut R ∷ ls) i π qs a are = (refl, long_in ls (suc i) (λ κs. (π κs).1) qs.1 a.1 are.1)

    plain_are : (ls : List Lent) (i : ℕ) (π : Lfts n → Lfts (lives ls)) (a : Denots (types_of n ks κs ls i π)) → AreIn ls i π a → Known ks (from n ks κs (plains_of n ks κs ls i π a))
    plain_are [] i π a are = known_from n ks κs a are
    plain_are (shr R ∷ ls) i π a are = plain_are ls (suc i) (λ κs. (π κs).1) a.1 are.1
    plain_are (mut R ∷ ls) i π a are = plain_are ls (suc i) (λ κs. (π κs).1) a.1 are.1

    flat_in : (ls : List Lent) (i : ℕ) (π : Lfts n → Lfts (lives ls)) (qs : Shares (lives ls)) (a : Denots (types_of n ks κs ls i π)) (are : AreIn ls i π a)
        → flat (types_of n ks κs ls i π) (vals_in ls i π a) ≡ fats ls (views_of ls i π qs a are) (flat (rows_of n ks κs) (vals_of n ks κs (plains_of n ks κs ls i π a)))
    flat_in [] i π qs a are = refl
    flat_in (shr R ∷ ls) i π qs a are = ap (λ (vs : List Val). slice_val a.0.ref_ptr (length a.0.now) ∷ vs) (flat_in ls (suc i) (λ κs. (π κs).1) qs.1 a.1 are.1)
    flat_in (mut R ∷ ls) i π qs a are = ap (λ (vs : List Val). slice_val a.0.ref_ptr (length a.0.now) ∷ vs) (flat_in ls (suc i) (λ κs. (π κs).1) qs.1 a.1 are.1)

    -- the last lists, as the contract binds them
    abbrev lasts_in : (ls : List Lent) (i : ℕ) (π : Lfts n → Lfts (lives ls)) (a : Denots (types_of n ks κs ls i π)) → Lefts ls → Fins κs (params_of n ks ls i π) (all yes (params_of n ks ls i π)) a
    lasts_in [] i π a Z = lasts_of n ks κs a
    lasts_in (shr R ∷ ls) i π a Z = (tt, lasts_in ls (suc i) (λ κs. (π κs).1) a.1 Z)
    lasts_in (mut R ∷ ls) i π a Z = (Z.0, lasts_in ls (suc i) (λ κs. (π κs).1) a.1 Z.1)

    fits_in : (ls : List Lent) (i : ℕ) (π : Lfts n → Lfts (lives ls)) (qs : Shares (lives ls)) (a : Denots (types_of n ks κs ls i π)) (are : AreIn ls i π a) (Z : Lefts ls) → LeftLong ls (views_of ls i π qs a are) Z
        → fits_of κs (params_of n ks ls i π) (all yes (params_of n ks ls i π)) (stays_in ls i π) a (lasts_in ls i π a Z)
    fits_in [] i π qs a are Z long = fits_all n ks κs a
    fits_in (shr R ∷ ls) i π qs a are Z long = (tt, fits_in ls (suc i) (λ κs. (π κs).1) qs.1 a.1 are.1 Z long)
    fits_in (mut R ∷ ls) i π qs a are Z long = (long.0, fits_in ls (suc i) (λ κs. (π κs).1) qs.1 a.1 are.1 Z.1 long.1)

    lefts_are : (ls : List Lent) (i : ℕ) (π : Lfts n → Lfts (lives ls)) (a : Denots (types_of n ks κs ls i π)) (Z : Lefts ls)
        → lefts_of n ks κs ls i π (outs κs (params_of n ks ls i π) (all yes (params_of n ks ls i π)) a (lasts_in ls i π a Z)) ≡ Z
    lefts_are [] i π a Z = refl
    lefts_are (shr R ∷ ls) i π a Z = lefts_are ls (suc i) (λ κs. (π κs).1) a.1 Z
    lefts_are (mut R ∷ ls) i π a Z = ap (λ (Y : Lefts ls). (Z.0, Y)) (lefts_are ls (suc i) (λ κs. (π κs).1) a.1 Z.1)

  module _ {M : Type 1} {𝓤 : Ura M} (𝓛 : Logic 𝓤) where
    lawfuls_in : (κs : Lfts n) (ls : List Lent) (i : ℕ) (π : Lfts n → Lfts (lives ls)) → Lawfuls 𝓛 (types_of n ks κs ls i π)
    lawfuls_in κs [] i π = lawfuls_of n 𝓛 ks κs
    lawfuls_in κs (shr R ∷ ls) i π = (shr_slice_Lawful 𝓛 (named i) (π κs).0 R, lawfuls_in κs ls (suc i) (λ κs. (π κs).1))
    lawfuls_in κs (mut R ∷ ls) i π = (mut_slice_Lawful 𝓛 (named i) (π κs).0 R, lawfuls_in κs ls (suc i) (λ κs. (π κs).1))

    goes_mut : (i : ℕ) (κ : Lfts n → Lft) (R : RattleType) → Goes 𝓛 n (plain (λ κs. MutSlice (named i) (κ κs) R)) yes (stay_mut i κ R)
    goes_mut i κ R κs x f vs fits =
        qed 𝓛 (‵ ((MutSlice (named i) (κ κs) R).own_val (at_last x f) vs) ∷ []) ∵ updating ! $ at_once ! $ fsplit ! $ move ! (1 ∷ []) $ fsplit ! $
        use1 𝓛 (‵ (fres x.ghost_name ((coded_holeys R).code (heres R f)))) (𝓛.names.obs-res x.ghost_name ((coded_holeys R).code (heres R f))) $
        use1 𝓛 (‵ (finally R x.ghost_name f)) (res-finally 𝓛 (named i) (κ κs) R x.ghost_name f) $
        rewrite ! 1 (λ (m : ℕ). ‵ (fbor (κ κs) (Held R m x.ref_ptr.0 x.ref_ptr.1 x.ghost_name))) fits refl $
        keep ! (0 ∷ 1 ∷ []) $ feq_i ! ℕ (length f) (length x.now) fits $ move ! (1 ∷ 0 ∷ []) $ fjoin ! $ done !

    goes_in : (ls : List Lent) (i : ℕ) (π : Lfts n → Lfts (lives ls)) → AllGo 𝓛 n (params_of n ks ls i π) (all yes (params_of n ks ls i π)) (stays_in ls i π)
    goes_in [] i π = goes_of 𝓛 n ks
    goes_in (shr R ∷ ls) i π = (Goes-dropped 𝓛 n (plain (λ κs. ShrSlice (named i) (π κs).0 R)) yes (λ κs x f. refl), goes_in ls (suc i) (λ κs. (π κs).1))
    goes_in (mut R ∷ ls) i π = (goes_mut i (λ κs. (π κs).0) R, goes_in ls (suc i) (λ κs. (π κs).1))

    -- what is there on entry is what the walk holds, and what it holds at the end is what the contract wants
    module _ (κs : Lfts n) where
      abbrev Alive : (ls : List Lent) → (Lfts n → Lfts (lives ls)) → Shares (lives ls) → SProp 𝓤
      Alive ls π qs = toks 𝓛 (lives ls) (π κs) qs

      abbrev owned : (ls : List Lent) (i : ℕ) (π : Lfts n → Lfts (lives ls)) → Denots (types_of n ks κs ls i π) → Fml
      owned ls i π a = owns (types_of n ks κs ls i π) a (vals_in κs ls i π a)

      abbrev had : (ls : List Lent) (i : ℕ) (π : Lfts n → Lfts (lives ls)) → Denots (types_of n ks κs ls i π) → Lefts ls → Fml
      had ls i π a Z = has_of κs (params_of n ks ls i π) (all yes (params_of n ks ls i π)) (stays_in ls i π) a (lasts_in κs ls i π a Z) (vals_in κs ls i π a)

      enters : (ls : List Lent) (i : ℕ) (π : Lfts n → Lfts (lives ls)) (qs : Shares (lives ls)) (a : Denots (types_of n ks κs ls i π)) (are : AreIn κs ls i π a)
          → ent 𝓤 (sep 𝓤 (Alive ls π qs) (sem 𝓛 (owned ls i π a))) (Holding 𝓛 ls (views_of κs ls i π qs a are) (lists_of n ks κs ls i π a))
      enters [] i π qs a are = fst∗ 𝓤 (emp 𝓤) (sem 𝓛 (owned [] i π a))
      enters (shr R ∷ ls) i π qs a are =
          let π' : Lfts n → Lfts (lives ls) = λ κs. (π κs).1 in
          let S = views_of κs (shr R ∷ ls) i π qs a are in
          apart 𝓛 (Shr S.0 a.0.now) (Tok S.0) (owned ls (suc i) π' a.1) (Alive ls π' qs.1) (Holding 𝓛 ls S.1 (lists_of n ks κs ls (suc i) π' a.1)) (enters ls (suc i) π' qs.1 a.1 are.1)
      enters (mut R ∷ ls) i π qs a are =
          let π' : Lfts n → Lfts (lives ls) = λ κs. (π κs).1 in
          let S = views_of κs (mut R ∷ ls) i π qs a are in
          apart 𝓛 (Own S.0 a.0.now) (Tok S.0) (owned ls (suc i) π' a.1) (Alive ls π' qs.1) (Holding 𝓛 ls S.1 (lists_of n ks κs ls (suc i) π' a.1)) (enters ls (suc i) π' qs.1 a.1 are.1)

      leaves : (ls : List Lent) (i : ℕ) (π : Lfts n → Lfts (lives ls)) (qs : Shares (lives ls)) (a : Denots (types_of n ks κs ls i π)) (are : AreIn κs ls i π a) (Z : Lefts ls)
          → ent 𝓤 (Holding 𝓛 ls (views_of κs ls i π qs a are) (ended ls (lists_of n ks κs ls i π a) Z)) (sep 𝓤 (Alive ls π qs) (sem 𝓛 (had ls i π a Z)))
      leaves [] i π qs a are Z = via 𝓤 _ (emp∗ 𝓤 (emp 𝓤)) (mono_r 𝓤 (emp 𝓤) (had_of 𝓛 n ks κs a (vals_of n ks κs a)))
      leaves (shr R ∷ ls) i π qs a are Z =
          let π' : Lfts n → Lfts (lives ls) = λ κs. (π κs).1 in
          let S = views_of κs (shr R ∷ ls) i π qs a are in
          let P : SProp 𝓤 = Holding 𝓛 ls S.1 (ended ls (lists_of n ks κs ls (suc i) π' a.1) Z) in
          together 𝓛 (Shr S.0 a.0.now) ftrue (Tok S.0) (had ls (suc i) π' a.1 Z) (Alive ls π' qs.1) P (top 𝓤 (sem 𝓛 (Shr S.0 a.0.now))) (leaves ls (suc i) π' qs.1 a.1 are.1 Z)
      leaves (mut R ∷ ls) i π qs a are Z =
          let π' : Lfts n → Lfts (lives ls) = λ κs. (π κs).1 in
          let S = views_of κs (mut R ∷ ls) i π qs a are in
          let P : SProp 𝓤 = Holding 𝓛 ls S.1 (ended ls (lists_of n ks κs ls (suc i) π' a.1) Z.1) in
          together 𝓛 (Own S.0 Z.0) (Own S.0 Z.0) (Tok S.0) (had ls (suc i) π' a.1 Z.1) (Alive ls π' qs.1) P (id⊢ 𝓤 (sem 𝓛 (Own S.0 Z.0))) (leaves ls (suc i) π' qs.1 a.1 are.1 Z.1)

-- ---- the walk, and the contract from it
-- the arguments are of the types that the MIR has for the parameters, by computation
abbrev pub SlicesSuits : {ls : List Lent} → SlicesFn ls → List Local → Type 0
SlicesSuits {ls} F locals =
    let n : ℕ = lives ls in
    let ks : List Datum = F.takes in
    (κs : Lfts n) (S : Views ls) (a : Denots (rows_of n ks κs)) (bs : Blocks locals) → Typed (mirs (types_of n ks κs ls 0 (λ κs. κs))) (fats ls S (flat (rows_of n ks κs) (vals_of n ks κs a))) → Suits (env locals bs) (fats ls S (machine ks (from n ks κs a)))

module _ {M : Type 1} {𝓤 : Ura M} (𝓛 : Logic 𝓤) {ls : List Lent} (𝓣 : Tables 𝓤 𝓛.H) (fn : Fn) (l : Local) (locals : List Local) where
  open 𝓛 use {H}

  abbrev pub SlicesWalk : SlicesFn ls → Type 2
  SlicesWalk F = (S : Views ls) (X : Lists ls) (a : Data F.takes) → Known F.takes a → Long ls S X → Met F.asks X a → (bs : Blocks (l ∷ locals)) (Q : Val → SProp 𝓤)
      → ((r : F.gives.row.Denot) (Z : Lefts ls) → Is F.gives.row r (F.gives.val r ∷ []) → LeftLong ls S Z → F.says X a r Z → Sq 𝓛 (held ls S (ended ls X Z)) (prop (Q (F.gives.val r))))
      → Sq 𝓛 (held ls S X ++ slots (env (l ∷ locals) bs) (none ∷ stored (fats ls S (machine F.takes a))) (‵ (deaths (env (l ∷ locals) bs)) ∷ [])) (runs 𝓣.C 𝓣.Λ (env (l ∷ locals) bs) fn.body (at_ret (env (l ∷ locals) bs) Q))

  pub slices_meets : (F : SlicesFn ls) → fn.locals ≡ l ∷ locals → SlicesSuits F locals → SlicesWalk F → Triple 𝓤 (WpFn 𝓤 H 𝓣.C 𝓣.Λ fn) (ContractSlices F 𝓛)
  slices_meets F is suits walk =
      let n : ℕ = lives ls in
      let ks : List Datum = F.takes in
      let π : Lfts n → Lfts n = λ κs. κs in
      let run = WpFn 𝓤 H 𝓣.C 𝓣.Λ fn in
      walk_Meets 𝓛 (slices_t F) (stays_in n ks ls 0 π) (goes_in n ks 𝓛 ls 0 π) (slices_clauses F 𝓛) run (WpFn-mono 𝓤 H 𝓛.laws 𝓣 fn)
      (walked 𝓛 (slices_t F) (stays_in n ks ls 0 π) (slices_clauses F 𝓛) run (λ κs. spells_in n ks κs ls 0 π) (λ κs. tells_in n ks κs ls 0 π)
      (λ κs qs bounds a g are.
      let S : Views ls = views_of n ks κs ls 0 π qs a are in
      let X : Lists ls = entered F κs a in
      let d : Data ks = passed F κs a in
      let vss : Valss (types_of n ks κs ls 0 π) = vals_in n ks κs ls 0 π a in
      let In : SProp 𝓤 = on_entry 𝓛 (slices_t F).signature κs qs a vss in
      let Q : Val → SProp 𝓤 = (walk_of 𝓛 (slices_t F) (stays_in n ks ls 0 π) (slices_clauses F 𝓛)).post ((κs, qs, bounds, a, vss), g) in
      let vals_are : flat (types_of n ks κs ls 0 π) vss ≡ fats ls S (flat (rows_of n ks κs) (vals_of n ks κs (plains_of n ks κs ls 0 π a))) = flat_in n ks κs ls 0 π qs a are in
      ask_out 𝓤 F.asks X d In (λ pre.
      subst (λ (vs : List Val). ent 𝓤 In (run vs Q)) (sym (vals_are ∙ ap (fats ls S) (flat_is n ks κs (plains_of n ks κs ls 0 π a))))
      (let body : Sq 𝓛 (held ls S X) (prop (run (fats ls S (machine ks d)) Q)) =
      starts ! (held ls S X) 𝓣.C 𝓣.Λ fn (fats ls S (machine ks d)) Q l locals is
      (λ bs. suits κs S (plains_of n ks κs ls 0 π a) bs (subst (Typed (mirs (types_of n ks κs ls 0 π))) vals_are (all_Typed 𝓛 (types_of n ks κs ls 0 π) (lawfuls_in n ks 𝓛 κs ls 0 π) a vss are)))
      (λ bs. walk S X d (plain_are n ks κs ls 0 π a are) (long_in n ks κs ls 0 π qs a are) pre bs Q (λ r Z r-is long e.
      suffices ! _ (ends_at 𝓛 (slices_t F) (stays_in n ks ls 0 π) (slices_clauses F 𝓛) ((κs, qs, bounds, a, vss), g) (F.gives.val r) r (lasts_in n ks κs ls 0 π a Z) (fits_in n ks κs ls 0 π qs a are Z long)) $
      changes ! ((raw (Alive n ks 𝓛 κs ls π qs) ⊛ ‵ (had n ks 𝓛 κs ls 0 π a Z)) ∷ []) (via 𝓤 _ (held_out 𝓛 ls S (ended ls X Z)) (leaves n ks 𝓛 κs ls 0 π qs a are Z)) $ split ! $
      use0 𝓛 (‵ (F.gives.row.own_val r (F.gives.val r ∷ []))) (F.gives.makes 𝓛 r (F.gives.val r ∷ []) r-is) $ move ! (2 ∷ 0 ∷ []) $ join ! $ move ! (1 ∷ 0 ∷ []) $ join ! $
      use0 𝓛 (raw (fact 𝓤 (F.says X d r (lefts_of n ks κs ls 0 π (at_exit (slices_t F) κs a (lasts_in n ks κs ls 0 π a Z)))))) (fact_i 𝓤 _ (emp 𝓤) (subst (F.says X d r) (sym (lefts_are n ks κs ls 0 π a Z)) e)) $ move ! (1 ∷ 0 ∷ []) $ done !)) in
      via 𝓤 _ (enters n ks 𝓛 κs ls 0 π qs a are) (via 𝓤 _ (held_in 𝓛 ls S X) body.prf)))))

-- ---- of few slices
abbrev pub MutSuits : {R : RattleType} → MutFn R → List Local → Type 0
MutSuits {R} F locals = (κ : Lft) (v : Val) (a : Denots (rows_of 1 F.takes (κ, tt))) (bs : Blocks locals) → Typed (mirs (MutSlice (named 0) κ R ∷ rows_of 1 F.takes (κ, tt))) (v ∷ flat (rows_of 1 F.takes (κ, tt)) (vals_of 1 F.takes (κ, tt) a)) → Suits (env locals bs) (v ∷ machine F.takes (from 1 F.takes (κ, tt) a))

abbrev pub ShrSuits : {R : RattleType} → ShrFn R → List Local → Type 0
ShrSuits {R} F locals = (κ : Lft) (v : Val) (a : Denots (rows_of 1 F.takes (κ, tt))) (bs : Blocks locals) → Typed (mirs (ShrSlice (named 0) κ R ∷ rows_of 1 F.takes (κ, tt))) (v ∷ flat (rows_of 1 F.takes (κ, tt)) (vals_of 1 F.takes (κ, tt) a)) → Suits (env locals bs) (v ∷ machine F.takes (from 1 F.takes (κ, tt) a))

abbrev pub BothSuits : {R D : RattleType} → BothFn R D → List Local → Type 0
BothSuits {R} {D} F locals = (κ ν : Lft) (v w : Val) (a : Denots (rows_of 2 F.takes (κ, (ν, tt)))) (bs : Blocks locals) → Typed (mirs (ShrSlice (named 0) κ R ∷ MutSlice (named 1) ν D ∷ rows_of 2 F.takes (κ, (ν, tt)))) (v ∷ w ∷ flat (rows_of 2 F.takes (κ, (ν, tt))) (vals_of 2 F.takes (κ, (ν, tt)) a)) → Suits (env locals bs) (v ∷ w ∷ machine F.takes (from 2 F.takes (κ, (ν, tt)) a))

module _ {M : Type 1} {𝓤 : Ura M} (𝓛 : Logic 𝓤) {R : RattleType} (𝓣 : Tables 𝓤 𝓛.H) (fn : Fn) (l : Local) (locals : List Local) where
  abbrev pub MutWalk : MutFn R → Type 2
  MutWalk F = (S : View R) (ys : List R.Denot) (a : Data F.takes) → Known F.takes a → length ys ≡ S.count → Met F.asks ys a → (bs : Blocks (l ∷ locals)) (Q : Val → SProp 𝓤)
      → ((r : F.gives.row.Denot) (zs : List R.Denot) → Is F.gives.row r (F.gives.val r ∷ []) → length zs ≡ S.count → F.says ys a r zs → Sq 𝓛 (‵ (Own S zs) ∷ ‵ (Tok S) ∷ []) (prop (Q (F.gives.val r))))
      → Sq 𝓛 (‵ (Own S ys) ∷ ‵ (Tok S) ∷ slots (env (l ∷ locals) bs) (none ∷ has (fat S) ∷ stored (machine F.takes a)) (‵ (deaths (env (l ∷ locals) bs)) ∷ [])) (runs 𝓣.C 𝓣.Λ (env (l ∷ locals) bs) fn.body (at_ret (env (l ∷ locals) bs) Q))

  abbrev pub ShrWalk : ShrFn R → Type 2
  ShrWalk F = (S : View R) (ys : List R.Denot) (a : Data F.takes) → Known F.takes a → length ys ≡ S.count → Met F.asks ys a → (bs : Blocks (l ∷ locals)) (Q : Val → SProp 𝓤)
      → ((r : F.gives.row.Denot) → Is F.gives.row r (F.gives.val r ∷ []) → F.says ys a r → Sq 𝓛 (‵ (Shr S ys) ∷ ‵ (Tok S) ∷ []) (prop (Q (F.gives.val r))))
      → Sq 𝓛 (‵ (Shr S ys) ∷ ‵ (Tok S) ∷ slots (env (l ∷ locals) bs) (none ∷ has (fat S) ∷ stored (machine F.takes a)) (‵ (deaths (env (l ∷ locals) bs)) ∷ [])) (runs 𝓣.C 𝓣.Λ (env (l ∷ locals) bs) fn.body (at_ret (env (l ∷ locals) bs) Q))

  abbrev pub BothWalk : {D : RattleType} → BothFn R D → Type 2
  BothWalk {D} F = (S : View R) (O : View D) (ys : List R.Denot) (os : List D.Denot) (a : Data F.takes) → Known F.takes a → length ys ≡ S.count → length os ≡ O.count → Met F.asks (ys, os) a → (bs : Blocks (l ∷ locals)) (Q : Val → SProp 𝓤)
      → ((r : F.gives.row.Denot) (zs : List D.Denot) → Is F.gives.row r (F.gives.val r ∷ []) → length zs ≡ O.count → F.says ys os a r zs → Sq 𝓛 (‵ (Shr S ys) ∷ ‵ (Tok S) ∷ ‵ (Own O zs) ∷ ‵ (Tok O) ∷ []) (prop (Q (F.gives.val r))))
      → Sq 𝓛 (‵ (Shr S ys) ∷ ‵ (Tok S) ∷ ‵ (Own O os) ∷ ‵ (Tok O) ∷ slots (env (l ∷ locals) bs) (none ∷ has (fat S) ∷ has (fat O) ∷ stored (machine F.takes a)) (‵ (deaths (env (l ∷ locals) bs)) ∷ [])) (runs 𝓣.C 𝓣.Λ (env (l ∷ locals) bs) fn.body (at_ret (env (l ∷ locals) bs) Q))

-- so a function's entry meets its contract, from what its `Code` has
module _ {M : Type 1} {𝓤 : Ura M} (𝓛 : Logic 𝓤) (𝓜 : Model 𝓤 𝓛.H) (𝓡 : Running 𝓤 𝓛.H 𝓜) (γ : Env) (key : Callee) (fn : Fn) (l : Local) (locals : List Local) (closed : Closed 𝓤 𝓛.H (tables 𝓤 𝓛.H 𝓜 𝓡 γ).C (tables 𝓤 𝓛.H 𝓜 𝓡 γ).Λ key fn) where
  open 𝓛 use {H}

  pub slices_proved : {ls : List Lent} (F : SlicesFn ls) → fn.locals ≡ l ∷ locals → SlicesSuits F locals → SlicesWalk 𝓛 (tables_of 𝓤 H 𝓜 (tables 𝓤 H 𝓜 𝓡 γ)) fn l locals F → Triple 𝓤 ((tables 𝓤 H 𝓜 𝓡 γ).C key) (ContractSlices F 𝓛)
  unfolding tables_of
  slices_proved F is suits walk = entered_at 𝓤 H (ContractSlices F 𝓛) (tables 𝓤 H 𝓜 𝓡 γ).C (tables 𝓤 H 𝓜 𝓡 γ).Λ key fn closed (slices_meets 𝓛 (tables_of 𝓤 H 𝓜 (tables 𝓤 H 𝓜 𝓡 γ)) fn l locals F is suits walk)

  pub mut_proved : {R : RattleType} (F : MutFn R) → fn.locals ≡ l ∷ locals → MutSuits F locals → MutWalk 𝓛 (tables_of 𝓤 H 𝓜 (tables 𝓤 H 𝓜 𝓡 γ)) fn l locals F → Triple 𝓤 ((tables 𝓤 H 𝓜 𝓡 γ).C key) (ContractSlices (of_mut F) 𝓛)
  mut_proved F is suits walk = slices_proved (of_mut F) is (λ κs S a bs ty. suits κs.0 (fat S.0) a bs ty) (λ S X a are long pre bs Q return. walk S.0 X.0 a are long.0 (met_out (λ X. X.0) X a F.asks pre) bs Q (λ r zs r-is same e. return r (zs, tt) r-is (same, tt) e))

  pub shr_proved : {R : RattleType} (F : ShrFn R) → fn.locals ≡ l ∷ locals → ShrSuits F locals → ShrWalk 𝓛 (tables_of 𝓤 H 𝓜 (tables 𝓤 H 𝓜 𝓡 γ)) fn l locals F → Triple 𝓤 ((tables 𝓤 H 𝓜 𝓡 γ).C key) (ContractSlices (of_shr F) 𝓛)
  shr_proved F is suits walk = slices_proved (of_shr F) is (λ κs S a bs ty. suits κs.0 (fat S.0) a bs ty) (λ S X a are long pre bs Q return. walk S.0 X.0 a are long.0 (met_out (λ X. X.0) X a F.asks pre) bs Q (λ r r-is e. return r tt r-is tt e))

  pub both_proved : {R D : RattleType} (F : BothFn R D) → fn.locals ≡ l ∷ locals → BothSuits F locals → BothWalk 𝓛 (tables_of 𝓤 H 𝓜 (tables 𝓤 H 𝓜 𝓡 γ)) fn l locals F → Triple 𝓤 ((tables 𝓤 H 𝓜 𝓡 γ).C key) (ContractSlices (of_both F) 𝓛)
  both_proved F is suits walk = slices_proved (of_both F) is (λ κs S a bs ty. suits κs.0 κs.1.0 (fat S.0) (fat S.1.0) a bs ty)
      (λ S X a are long pre bs Q return. walk S.0 S.1.0 X.0 X.1.0 a are long.0 long.1.0 (met_out (λ X. (X.0, X.1.0)) X a F.asks pre) bs Q (λ r zs r-is same e. return r (zs, tt) r-is (same, tt) e))
