-- `block::fill` meets its contract: what a turn reads follows what was read before it.
-- Assumes nothing.
use Rattle.std.proofs.Common.{◌≡◌, refl, ℕ, zero, suc, ◌+◌, ◌-◌, ◌≤◌, List, ◌++◌, rules, arith, length, take, sym, ap, ◌∙◌, subst, length-take-le, Some, Result, Ok, Err}
use Rattle.std.proofs.Math.Seq.{take-append-add}
use Rattle.std.proofs.lemmas.List.{take-append-le}
use Rattle.std.specs.Io.KnownBytes.{Consumes, ReadConsumes}
use Rattle.std.proofs.KnownBytes.{Consumes-trans}
use Rattle.compare_lines.specs.Reading.{after_read}
use Rattle.std.specs.Io.{ReadsAtMost}
use borrow.Rule.Slice.PartMut.{put_mid, post_of}
use Rattle.compare_lines.proofs.block.fill.Goals as goal

-- the first a elements, and n of those that were stored behind them
joined : (a k n : ℕ) (xs ys : List ℕ) → a ≤ length xs → n ≤ length ys → take a xs ++ take n ys ≡ take (a + n) (put_mid a k xs ys)
joined a k n xs ys within fits =
    let rest = ys ++ post_of a k xs in
    let whole = subst (λ m. take (m + n) (take a xs ++ rest) ≡ take a xs ++ take n rest) (length-take-le a xs within) (take-append-add (take a xs) rest n) in
    sym (whole ∙ ap (λ l. take a xs ++ l) (take-append-le n ys (post_of a k xs) fits))

-- what a read gave after which the reading goes on
went_on : {E : Type 0} (at next : ℕ) (read : Result ℕ E) → after_read at read ≡ Ok (Some next) → (n : ℕ) × (read ≡ Ok n) × (1 ≤ n) × (at + n ≡ next)
went_on at next (Err e) h = cc
went_on at next (Ok zero) h = cc
went_on at next (Ok (suc n)) h = (suc n, refl, omega arith, cc)

pub loop-preserved : goal.loop-preserved
loop-preserved g c =
    let l = c.loop in
    let on = went_on l.got c.in-Some.next c.read-read.result (sym c.after.ensures ∙ c.in_ok-next.was ∙ ap (λ next. Ok next) c.in-Some.is) in
    let bound = subst (λ read. ReadsAtMost read c.read-read.new.buf) on.1 c.read-read.ensures.bound in
    let bytes = subst (λ read. ReadConsumes (g.R.Read.remaining l.input) (g.R.Read.remaining c.read-read.new.self) read c.read-read.new.buf) on.1 c.read-read.ensures.bytes in
    let more = joined l.got (length l.block - l.got) on.0 l.block c.read-read.new.buf l.invariant.1 bound.0 in
    let block = put_mid l.got (length l.block - l.got) l.block c.read-read.new.buf in
    let from = g.R.Read.remaining c.args.input.now in
    let left = g.R.Read.remaining c.read-read.new.self in
    subst (λ next. (length block ≡ length c.args.block.now) × (next ≤ length block) × (l.counter + 1 ≤ next) × Consumes from left (take next block)) on.3
    (search rules, search rules, omega (arith, on.2, l.invariant.2), subst (Consumes _ _) more (Consumes-trans _ _ _ _ _ l.invariant.3 bytes.0))
