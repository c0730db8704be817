-- Types of plain data, as a walk knows them, and rows of values of such types.
--     Datum             a type of plain data: its machine value, that it is seen at exit as it was passed, that what it owns is had for nothing, and that a `&` to it can be made, read and passed on (`Copies`)
--     usize', u8', u32', f32', bool', unit'      those of the language.        struct', enum'      a declared type, from the laws that Rattle makes of it
--     struct_is, enum_is       the relation of a declared type, of a value that is put together
--     Data ks, machine, Known      values of such types, their machine values, and their relations
-- Assumes nothing. The rules of the logic, `Logic`, are an argument of each law.
use mathlib.Core.Path.{◌≡◌, refl, ap}
use Prim.Native.Nat.{ℕ}
use mathlib.Core.List.{List, [], ◌∷◌}
use seplogic.Ra.Ura.{Ura}
use mir.Syntax.{Width, w8, w32, w64}
use mir.Val.{Val, vunit, vbool, vint, vfloat}
use lib.Ieee.{binary32}
use base.Logic.{ent, emp}
use types.Logic.{Logic, sem}
use contract.Lifetimes.{Lfts}
use denote.RattleType.{RattleType, Denots, Valss, flat, owns}
use denote.Exit.{Kept, unchanged}
use denote.Laws.{Is, Ises, Are, Tells, Tellss, Spells, valss, Makes, Makess, Lawful, Lawfuls, owns_make}
use denote.Copied.{Copied, uint_Copied, float_Copied, bool_Copied, Nothing-Copied}
use denote.Plain.{UInt, uint_Tells, uint_Makes, uint_Lawful, bool_Tells, bool_Makes, bool_Lawful, Nothing-Tells, Nothing-Makes, Nothing-Lawful}
use denote.Floats.{float_Tells, float_Makes, float_Lawful}
use denote.Builtin.{f32, bool, unit}
use denote.Signature.{Slot, plain, types_at}
use denote.Struct.Struct.{Plains, AreAll}
use denote.Struct.Declared as Struct
use denote.Struct.Laws as StructLaws
use denote.Enum.Enum.{Few, Plainss}
use denote.Enum.Declared as Enum
use denote.Enum.Laws as EnumLaws

-- what Rattle asks of a type before a `&` to a value of it is made, read or passed on, in every model
abbrev pub Copies : RattleType → Type 2
Copies R = (M : Type 1) (𝓤 : Ura M) (𝓛 : Logic 𝓤) → Copied 𝓛 R

pub record Datum : Type 3 where
  pub row : RattleType
  pub val : row.Denot → Val
  pub tells : Tells row (Is row) (λ x. val x ∷ [])
  pub still : (k : Kept) → row.exit k ≡ unchanged
  pub makes : {M : Type 1} {𝓤 : Ura M} (𝓛 : Logic 𝓤) → Makes 𝓛 row (Is row)
  pub lawful : {M : Type 1} {𝓤 : Ura M} (𝓛 : Logic 𝓤) → Lawful 𝓛 row
  pub copied : Copies row

-- ---- the types of the language
abbrev uint' : Width → Datum
uint' w = record { row = UInt w; val = vint w; tells = uint_Tells w; still = λ _. refl; makes = λ 𝓛. uint_Makes 𝓛 w; lawful = λ 𝓛. uint_Lawful 𝓛 w; copied = λ M 𝓤 𝓛. uint_Copied 𝓛 w }

abbrev pub u8' : Datum
u8' = uint' w8

abbrev pub u32' : Datum
u32' = uint' w32

abbrev pub usize' : Datum
usize' = uint' w64

abbrev pub f32' : Datum
f32' = record { row = f32; val = vfloat binary32; tells = float_Tells binary32; still = λ _. refl; makes = λ 𝓛. float_Makes 𝓛 binary32; lawful = λ 𝓛. float_Lawful 𝓛 binary32; copied = λ M 𝓤 𝓛. float_Copied 𝓛 binary32 }

abbrev pub bool' : Datum
bool' = record { row = bool; val = vbool; tells = bool_Tells; still = λ _. refl; makes = λ 𝓛. bool_Makes 𝓛; lawful = λ 𝓛. bool_Lawful 𝓛; copied = λ M 𝓤 𝓛. bool_Copied 𝓛 }

abbrev pub unit' : Datum
unit' = record { row = unit; val = λ _. vunit; tells = Nothing-Tells; still = λ _. refl; makes = λ 𝓛. Nothing-Makes 𝓛; lawful = λ 𝓛. Nothing-Lawful 𝓛; copied = λ M 𝓤 𝓛. Nothing-Copied 𝓛 }

-- ---- declared types: `struct' T.the_type T'.the_laws T'.the_copy T'.the_plain`, T and T' being the type's module and its `Laws`
abbrev pub struct' : (T : Struct.Declared) → StructLaws.Laws T → StructLaws.Copyables T.parts → Plains (Struct.fields T) → Datum
struct' T L c p = record { row = Struct.row T; val = StructLaws.val T L; tells = StructLaws.tells T L; still = StructLaws.still T c; makes = λ 𝓛. StructLaws.makes T p 𝓛; lawful = λ 𝓛. StructLaws.lawful T L 𝓛; copied = λ M 𝓤 𝓛. StructLaws.copied T c 𝓛 }

-- the last argument, that it has at most 256 variants, is `tt`
abbrev pub enum' : (T : Enum.Declared) → EnumLaws.Laws T → EnumLaws.Copyabless T.parts → Plainss (Enum.variants T) → Few (Enum.shape T) → Datum
enum' T L c p few = record { row = Enum.row T; val = EnumLaws.val T L; tells = EnumLaws.tells T L; still = EnumLaws.still T c; makes = λ 𝓛. EnumLaws.makes T p 𝓛; lawful = λ 𝓛. EnumLaws.lawful T L 𝓛 few; copied = λ M 𝓤 𝓛. EnumLaws.copied T c 𝓛 }

-- what is to be shown of a value that is put together in a walk: of each field its own relation, in a row that ends in `tt`; of an enum, of the live variant's fields
pub struct_is : (T : Struct.Declared) (L : StructLaws.Laws T) (d : T.D) → AreAll (Struct.fields T) (T.to d) (valss (Struct.fields T) (StructLaws.spells T.parts L) (T.to d)) → Is (Struct.row T) d (StructLaws.val T L d ∷ [])
struct_is T L d h = StructLaws.owes T L d h

pub enum_is : (T : Enum.Declared) (L : EnumLaws.Laws T) (d : T.D) → EnumLaws.Fields (Enum.variants T) (EnumLaws.spellss T.parts L) (T.to d) → Is (Enum.row T) d (EnumLaws.val T L d ∷ [])
enum_is T L d h = EnumLaws.owes T L d h

-- ---- rows of values
abbrev pub Data : List Datum → Type 0
Data [] = Unit {0}
Data (k ∷ ks) = k.row.Denot × Data ks

abbrev pub machine : (ks : List Datum) → Data ks → List Val
machine [] a = []
machine (k ∷ ks) a = k.val a.0 ∷ machine ks a.1

abbrev pub Known : (ks : List Datum) → Data ks → Type 0
Known [] a = Unit {0}
Known (k ∷ ks) a = Is k.row a.0 (k.val a.0 ∷ []) × Known ks a.1

-- ---- the same, of a signature with n lifetimes
abbrev pub slots_of : {n : ℕ} → List Datum → List (Slot n)
slots_of [] = []
slots_of (k ∷ ks) = plain (λ _. k.row) ∷ slots_of ks

module _ (n : ℕ) where
  abbrev pub rows_of : List Datum → Lfts n → List RattleType
  rows_of ks κs = types_at {n = n} (slots_of ks) κs

  abbrev pub spells_of : (ks : List Datum) (κs : Lfts n) → Spells (rows_of ks κs)
  spells_of [] κs = tt
  spells_of (k ∷ ks) κs = ((λ x. k.val x ∷ []), spells_of ks κs)

  abbrev pub tells_of : (ks : List Datum) (κs : Lfts n) → Tellss (rows_of ks κs) (Ises (rows_of ks κs)) (spells_of ks κs)
  tells_of [] κs = tt
  tells_of (k ∷ ks) κs = (k.tells, tells_of ks κs)

  abbrev pub vals_of : (ks : List Datum) (κs : Lfts n) → Denots (rows_of ks κs) → Valss (rows_of ks κs)
  vals_of ks κs = valss (rows_of ks κs) (spells_of ks κs)

  abbrev pub at : (ks : List Datum) (κs : Lfts n) → Data ks → Denots (rows_of ks κs)
  at [] κs a = tt
  at (k ∷ ks) κs a = (a.0, at ks κs a.1)

  abbrev pub from : (ks : List Datum) (κs : Lfts n) → Denots (rows_of ks κs) → Data ks
  from [] κs a = tt
  from (k ∷ ks) κs a = (a.0, from ks κs a.1)

  pub from_at : (ks : List Datum) (κs : Lfts n) (a : Data ks) → from ks κs (at ks κs a) ≡ a
  from_at [] κs a = refl
  from_at (k ∷ ks) κs a = ap (λ (x : Data ks). (a.0, x)) (from_at ks κs a.1)

  pub flat_is : (ks : List Datum) (κs : Lfts n) (a : Denots (rows_of ks κs)) → flat (rows_of ks κs) (vals_of ks κs a) ≡ machine ks (from ks κs a)
  flat_is [] κs a = refl
  flat_is (k ∷ ks) κs a = ap (λ (vs : List Val). k.val a.0 ∷ vs) (flat_is ks κs a.1)

  pub flat_at : (ks : List Datum) (κs : Lfts n) (a : Data ks) → flat (rows_of ks κs) (vals_of ks κs (at ks κs a)) ≡ machine ks a
  flat_at [] κs a = refl
  flat_at (k ∷ ks) κs a = ap (λ (vs : List Val). k.val a.0 ∷ vs) (flat_at ks κs a.1)

  pub known_from : (ks : List Datum) (κs : Lfts n) (a : Denots (rows_of ks κs)) → Are (rows_of ks κs) (Ises (rows_of ks κs)) a (vals_of ks κs a) → Known ks (from ks κs a)
  known_from [] κs a are = tt
  known_from (k ∷ ks) κs a are = (are.0, known_from ks κs a.1 are.1)

  known_at : (ks : List Datum) (κs : Lfts n) (a : Data ks) → Known ks a → Are (rows_of ks κs) (Ises (rows_of ks κs)) (at ks κs a) (vals_of ks κs (at ks κs a))
  known_at [] κs a are = tt
  known_at (k ∷ ks) κs a are = (are.0, known_at ks κs a.1 are.1)

  module _ {M : Type 1} {𝓤 : Ura M} (𝓛 : Logic 𝓤) where
    makes_of : (ks : List Datum) (κs : Lfts n) → Makess 𝓛 (rows_of ks κs) (Ises (rows_of ks κs))
    makes_of [] κs = tt
    makes_of (k ∷ ks) κs = (k.makes 𝓛, makes_of ks κs)

    pub lawfuls_of : (ks : List Datum) (κs : Lfts n) → Lawfuls 𝓛 (rows_of ks κs)
    lawfuls_of [] κs = tt
    lawfuls_of (k ∷ ks) κs = (k.lawful 𝓛, lawfuls_of ks κs)

    -- what the arguments own
    pub had : (ks : List Datum) (κs : Lfts n) (a : Data ks) → Known ks a → ent 𝓤 (emp 𝓤) (sem 𝓛 (owns (rows_of ks κs) (at ks κs a) (vals_of ks κs (at ks κs a))))
    had ks κs a are = owns_make 𝓛 (rows_of ks κs) (Ises (rows_of ks κs)) (makes_of ks κs) (at ks κs a) (vals_of ks κs (at ks κs a)) (known_at ks κs a are)
