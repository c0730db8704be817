-- `crafty_c::numbers::put_numbers` meets its contract: what is copied over a range is what `over` stores there.
-- Assumes nothing.
use Rattle.std.proofs.Common.{◌≡◌, ◌≤◌, ℕ, List, ◌++◌, length, drop, ap, sym, ◌∙◌, arith, zero-add}
use Rattle.text.specs.Over.{over}
use Rattle.text.specs.laws.Over.{over_is}
use Rattle.crafty_c.proofs.numbers.put_numbers.Goals as goal

-- from the start on
front : (numbers out : List ℕ) → length numbers ≤ length out → over out 0 numbers ≡ numbers ++ drop (length numbers) out
front numbers out h = rw (over_is numbers out 0 (omega arith), zero-add)

pub returns : goal.returns
returns c = ap (λ (l : List ℕ). l ++ drop (length c.args.numbers.now) c.args.out.now) c.copy_from_slice.ensures.after ∙ sym (front _ _ c.requires)
