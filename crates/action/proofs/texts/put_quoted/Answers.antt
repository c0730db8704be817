-- `action::texts::put_quoted` meets its contract: a quote, the label and a quote, or the label alone.
-- Assumes nothing.
use mathlib.Core.Path.{◌≡◌, sym, ap, ◌∙◌}
use mathlib.Core.List.{[], ◌∷◌, ◌++◌}
use Prim.Native.Nat.{◌+◌}
use native.Mathlib.Omega.{arith}
use lib.ListN.{length, length-append}
use Rattle.text.specs.laws.Over.{then, put_as}
use Rattle.action.specs.Names.{quoted_of}
use Rattle.action.specs.laws.Names.{quoted_spaced, quoted_plain}
use Rattle.action.proofs.texts.put_quoted.Goals as goal
use Rattle.action.proofs.texts.put_quoted.Goals.{Else-spaced, Then-spaced}

quotes : (c : Then-spaced) → quoted_of c.args.label.now ≡ 34 ∷ (c.args.label.now ++ (34 ∷ []))
quotes c = quoted_spaced _ (sym c.spaced.ensures ∙ c.if-spaced.true)

longer : (c : Then-spaced) → length (quoted_of c.args.label.now) ≡ length c.args.label.now + 2
longer c = ap length (quotes c) ∙ simp length-append (omega arith)

none : (c : Else-spaced) → quoted_of c.args.label.now ≡ c.args.label.now
none c = quoted_plain _ (sym c.spaced.ensures ∙ c.if-spaced.false)

pub put_byte-quote-requires : goal.put_byte-quote-requires
put_byte-quote-requires c = omega (arith, longer (goal.at.put_byte-quote-requires c).Then-spaced, c.requires)

pub put-end-requires : goal.put-end-requires
put-end-requires c = omega (arith, longer (goal.at.put-end-requires c).Then-spaced, c.requires, c.put_byte-quote.ensures.next, c.put_byte-quote.auto)

pub put_byte-requires : goal.put_byte-requires
put_byte-requires c = omega (arith, longer (goal.at.put_byte-requires c).Then-spaced, c.requires, c.put-end.ensures.next, c.put-end.auto, c.put_byte-quote.ensures.next, c.put_byte-quote.auto)

pub returns-then-spaced : goal.returns-then-spaced
returns-then-spaced c = put_as (sym (quotes (goal.at.returns-then-spaced c).Then-spaced)) (then c.put_byte-quote.ensures (then c.put-end.ensures c.put_byte.ensures))

pub put-requires : goal.put-requires
put-requires c = omega (arith, ap length (none (goal.at.put-requires c).Else-spaced), c.requires)

pub returns : goal.returns
returns c = put_as (sym (none (goal.at.returns c).Else-spaced)) c.put.ensures
