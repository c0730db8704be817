-- The words of a walk, from one place, and how a walk is written. Open this file first.
--
-- A proof by hand of a function with a parameter `&[Node]` or `&mut [Node]` goes through its MIR, one line to a statement. Where the prover's own walk of the code covers the function, none is needed.
-- `rt check --generated DIR` writes the MIR of the function f to proofs/f/Code/Mir.antt below DIR. `Values.antt` has the types of plain data, `Functions.antt` what a function takes, asks and says, `Calls.antt` (with `Passes.antt`), `Flow.antt`, `Forks.antt` and `Locals.antt` the steps.
--
-- 1. The shapes that the source wants
--   - The slices come first, each `&[R]` or `&mut [R]`, in any number and order, and then plain parameters. What a function gives back is plain data: a number, a bool, `()`, a struct or an enum.
--   - One clause in `requires`, or none, and one in `ensures`. Parts are joined with ×.
--   - A `while` whose test is one statement: `i < count`, `best.found`. Read `out.len()` into a local before the loop.
--   - An element is read by one function of the crate and written by one (`node_at`, `put_node`), and nowhere else; those two cite `reads_at` and `writes_at`. Elements of a slice of numbers are written by a covered function.
--   - Rules and arithmetic stand in covered functions over a record by value, which a walk calls by `calls_plain`.
--
-- 2. What the author writes down, in the crate's proofs/Types.antt: each type of the crate, and each function as its callers see it. With T and T' the type's module and its `TheLaws`:
--        node' : Datum
--        node' = struct' T.the_type T'.the_laws T'.the_copy T'.the_plain                            (an enum: enum' .. tt)
--        touch' : MutFn T.the_row
--        touch' = record { takes = usize' ∷ f32' ∷ []; gives = unit'; asks = that (λ xs a. a.0 < length xs); says = λ xs a _ zs. zs ≡ touch_of xs a.0 a.1.0 }
--   xs is the list on entry, zs at exit, a the row of plain arguments: a.0, a.1.0, a.1.1.0, and so on. A `requires` that is not there is `asks = nothing_asked`.
--   ShrFn is of one `&[R]`, and BothFn of a `&[R]` and then a `&mut [D]`. Any slices, here of `fn put_both(nodes: &mut [Node], links: &mut [u32], logs: &[f32], k: usize)`, are a SlicesFn:
--        put_both' : SlicesFn (mut T.the_row ∷ mut (UInt w32) ∷ shr f32 ∷ [])
--        put_both' = record { takes = usize' ∷ []; gives = unit'; asks = that (λ x a. a.0 < length x.0); says = λ x a _ z. (z.0 ≡ nodes_of x.0 x.1.1.0 a.0) × (z.1.0 ≡ links_of x.1.0 a.0) }
--   x is the row of all lists on entry: x.0, x.1.0, x.1.1.0; z that of the `&mut` slices alone at exit: z.0, z.1.0.
--   It must equal the contract by computation: write the same terms in the same order. Where the two differ, the line with `mut_proved`, or the one that calls the function, is refused.
--
-- 3. A walk, whole:
--        pub fn insert(nodes: &mut [Node], count: usize, n: Node) -> usize { put_node(nodes, count, n); count + 1 }
--
--        insert_spec 𝓤 𝓛 𝓜 𝓡 wired =
--            let 𝓣 = tables_of 𝓤 𝓛.H 𝓜 (tables 𝓤 𝓛.H 𝓜 𝓡 𝓡.env) in
--            let puts = put-node-thm.met 𝓤 𝓛 𝓜 𝓡 (code.calls-tree::put_node 𝓡.env wired) in
--            mut_proved 𝓛 𝓜 𝓡 𝓡.env insert.name code.function _ _ (code.unfolded 𝓤 𝓛.H 𝓜 𝓡 wired) insert' refl (λ _ _ _ _ ty. ty) (λ S ys a are same pre bs Q return.
--            let fits : a.0 + 1 < 2 ^ 64 = omega (arith, pre, same, S.room.0) in
--            reborrows ! S.room.0 refl refl refl refl refl refl refl refl $
--            calls_mut 𝓣 S ys ! then put_node' puts a are same pre (λ _ _. opd ! refl & opd ! refl & opd ! refl & no_more !) (λ _ zs _ ty same' said. lands_in ! refl ty.0 $
--            sets ! (bin ! (opd ! refl) (lit ! tt) (record { fits = fits })) refl (tt, record { fits = fits }) $
--            returns ! Q refl refl refl $ return _ zs (refl, fits) same' (refl, said)))
--
--   with `unfolding tables_of` above the equation, and `use` lines for the function's own `Key`, `Statement` and `Code` and for each callee's `Met`.
--   A function or a type of another crate is named through that crate's facade: `Rattle.refusal.proofs.check_room.Met`, `code.calls-refusal::check_room`, `Rattle.refusal.proofs.Checked.TheLaws`.
--   What the walk binds: S the slice (S.count, and S.room.0, that the count is below 2 ^ 64), ys its list, a the plain arguments, are what is known of them (are .0 .1 is the bound of a number),
--   same that ys is as long as S.count, pre the `requires`, bs where the locals lie, Q what the caller waits for, return the way out. Of a BothFn it is `both_proved` and S O ys os a are same same-o pre bs Q return, with `(λ _ _ _ _ _ _ ty. ty)` before it.
--   Of a SlicesFn it is `slices_proved`, and what there is of each slice stands in a row:
--            slices_proved 𝓛 𝓜 𝓡 𝓡.env put_both.name code.function _ _ (code.unfolded 𝓤 𝓛.H 𝓜 𝓡 wired) put_both' refl (λ _ _ _ _ ty. ty) (λ (S, (L, (G, _))) (ys, (ls, (gs, _))) a are (same, (same-l, (same-g, _))) pre bs Q return.
--            .. returns ! Q refl refl refl $ return r (zs, (ms, tt)) r-is (same', (same-l', tt)) said)
--   where zs and ms are the last lists of the `&mut` slices. What stands at a loop's test is `over put_both' (S, (L, (G, tt))) (zs, (ms, (gs, tt))) E cells`: the slices and their tokens, no result yet, the slices' own locals, and then the cells.
--
-- 4. The steps. A step reads what it needs of the context and leaves a context; `$` goes on. Locals are numbered as in the MIR, and a step finds the local that its statement names:
--   no place is counted, and `refl` says that the local is there and holds what it should. What stands before the locals, the slices and their tokens, is passed over.
--        _k = rvalue                  sets ! rvalue refl fits $                      sets_last, where it is the last statement of a block
--        _k = f(_x, ..)               calls_mut 𝓣 S ys ! then f' theorem arguments known same asked (λ _ _. operands) (λ r zs is ty same' said. lands_in ! refl ty.0 $ ..)        last and lands_last, where the call ends a block
--                                     calls_shared, of a `&mut` lent as `&`, and calls_shr, of a `&`: the same with node'.copied after the `!`, which says that a `&` to an element can be made and passed on, and with (λ r is ty said. ..)
--                                     calls_both 𝓣 S ys ! node'.copied O os then f' theorem arguments known same same-o asked (λ _ _. operands) (λ r zs is ty same' said. ..)
--                                     calls_plain ! 𝓣 then f' theorem arguments known asked (λ _. operands) (λ r is ty said. ..)
--                                     calls_slices ! 𝓣 (lend_mut 0 S ys same ∷ lend_shr u32'.copied 1 L ls same-l ∷ pass_shr f32'.copied 2 G gs same-g ∷ []) (λ _. refl) then f' theorem arguments known asked (λ _ _. operands) (λ r z is ty long said. ..)
--                                     for any slices, wherever they stand: the callee's in its own order, each with its number among those that the context begins with. lend_mut, a `&mut` is lent again; lend_shr, a `&mut` is lent as `&`; pass_shr, a `&` is passed on.
--                                     z and long are rows of what the callee left of those that are lent again. An f' that is a MutFn, a ShrFn or a BothFn is written of_mut f', of_shr f', of_both f'; a `reborrows` stands before it for each lend_mut and lend_shr
--        _y = &(*_x.0), _z = [_y, _x.1]      reborrows ! S.room.0 refl refl refl refl refl refl refl refl $
--        _j = [x; n]                  fills ! k n x known operand refl refl (λ xs same is. ..): the list xs is n times x, and stays so until it is lent as a `&mut`
--        _y = &_j, _z = [_y, n]       borrows ! (lit< tt) refl refl refl refl refl refl $ lends_array ! tt k tt n room xs is place refl (λ ν δ. ..), where the call takes it by `lent_view`, and before the result lands
--                                     takes_array ! tt k n room zs place refl (λ is. ..): place is that of the local's cell, what stands before the locals counted too. Lent, it is slice 0, and the others' numbers are one more. An array of at least 1024
--        if c { .. } else { .. } ..          forks, guards; decides at the end of a block. An arm is (λ fact G out on. ..): it ends in a `return`, to which `out` leads, or goes on with what follows by `on _ $`
--        if let X::Of(v) = _k { .. } ..      matches ! (tag ! refl refl refl refl) refl (λ G out on. ..), where the value of _k is known to be of one variant; an empty arm is `skips ! $ on _ $`, and v is read by `within ! refl refl refl refl refl refl refl`
--                                     A call's result is made such a value by cases over what the callee says, with `lands_as ! (ap k.val fact) $` in front of `lands_in`
--        while ..                     whiles 𝓣 (what stands at the test, in each state) (measure) (test) ! (λ _. refl) (λ _ _. (tt, tt)) (λ _ _. refl) (the test's rvalue) (a turn) (after the loop) (the first state)
--        return                       returns ! Q refl refl refl $ return result ..  inside a branch or a loop the first `refl` is what they handed down: `out`, or `out' ∙ out`
--   An rvalue is `of_opd ! operand`, `bin ! operand operand checked`, `un ! operand checked` or `agg ! (operand & .. & no_more !)`; an operand `opd ! refl` for a local, `part ! refl refl refl refl` for a field of one, or `lit ! tt`.
--   checked and fits are `tt` and `(tt, tt)` for a bool, and `record { fits = bound }` and `(tt, record { fits = bound })` for a number. A value of a declared type fits by `ty.0` of the call that gave it, or by `lawful .. .typed` and `struct_is`, `enum_is`.
--   A turn of a loop ends in `keeps ! n refl $ again state smaller`: n is the count of the locals that the state speaks of, the first n, and the others are forgotten.
--   What each step puts into the context is gone through again by every later one. Where that grows too dear, `keeps` and then `restated ! context refl $` write it out anew.
--   `calls_mut` and the others of few slices take those at the front: another is moved there, `move ! (2 ∷ 3 ∷ []) $`, and back after it, or `calls_slices` finds it by its number.
--
-- 5. The loop's state is a record: what changes, and the invariant as its last fields. One turn and the end are laws of their own, over lists and numbers, above the walk.
-- Not here: a `loop` with `break` inside a walk, a slice of structs inside a struct. Put those into a covered function.
-- Assumes nothing. The rules of the logic, `Logic`, are an argument of each law.
pub use mathlib.Core.Path.{◌≡◌, refl, sym, ap, ◌∙◌, subst}
pub use Prim.Native.Nat.{ℕ, ◌+◌, ◌-◌, ◌<◌, ◌≤◌, ◌^◌}
pub use native.Mathlib.Omega.{arith}
pub use mathlib.Core.Bool.{Bool, true, false}
pub use mathlib.Core.List.{List, [], ◌∷◌}
pub use lib.Dec.{ltb, leb, eqb, lit<}
pub use borrow.Author.Tests.{ltb-true, ltb-false, leb-true, leb-false, not-true, not-false}
pub use contract.Running.{tables}
pub use types.Kit.{◌$◌, !, ‵, move}
pub use types.Run.{skips, lit, float_lit, true_lit, false_lit, unit_lit, of_opd, bin, un, no_more}
pub use types.Part.{agg}
pub use denote.Triple.Table.{cited}
pub use Rattle.walks.proofs.Values.{usize', u8', u32', f32', bool', unit'}
pub use Rattle.walks.proofs.Locals.{none, has, holding, env, opd, part, ◌&◌, sets, sets_last, lands_in, lands_last, keeps, returns}
pub use Rattle.walks.proofs.Flow.{decides}
pub use Rattle.walks.proofs.Forks.{forks, guards, whiles}
pub use Rattle.walks.proofs.Enums.{lands_as, tag, within, matches}
pub use Rattle.walks.proofs.Reborrow.{reborrows}
pub use Rattle.walks.proofs.Elements.{reads_at, writes_at}
pub use Rattle.walks.proofs.Arrays.{array_val_lem, lent_view, restated, fills, borrows, lends_array, takes_array}
pub use Rattle.walks.proofs.Lend.{fat, Own, Shr, Tok}
pub use Rattle.walks.proofs.Functions.{of_mut, of_shr, of_both}
pub use Rattle.walks.proofs.Passes.{lend_mut, lend_shr, pass_shr}
pub use Rattle.walks.proofs.Calls.{then, last, calls_slices, calls_mut, calls_shared, calls_shr, calls_both, calls_plain}
pub use Rattle.walks.proofs.Meets.{over, slices_proved, mut_proved, shr_proved, both_proved}
