-- `action::texts::put_quoted_label` meets its contract: the label is lent from a room of its own.
-- Assumes nothing.
use mathlib.Core.Path.{ap}
use mathlib.Core.List.{List}
use Prim.Native.Nat.{ℕ}
use native.Mathlib.Omega.{arith}
use lib.ListN.{length}
use Rattle.text.specs.laws.Over.{put_as, Rendered, rendered}
use Rattle.action.specs.Names.{label_of, quoted_of}
use Rattle.action.specs.laws.Names.{label_short}
use Rattle.action.proofs.texts.put_quoted_label.Goals as goal
use Rattle.action.proofs.texts.put_quoted_label.Goals.{After-put_label-k}

lent : (c : After-put_label-k) → Rendered (label_of c.args.n) c.put_label-k.result c.put_label-k.new.out
lent c = rendered c.put_label-k.ensures (label_short _ c.requires.0)

pub put_label-k-requires : goal.put_label-k-requires
put_label-k-requires c = (c.requires.0, omega (arith, label_short c.args.n c.requires.0))

pub slice_bounds-label-end : goal.slice_bounds-label-end
slice_bounds-label-end c = (lent (goal.at.slice_bounds-label-end c).After-put_label-k).within

pub slice_bounds-put_quoted-end : goal.slice_bounds-put_quoted-end
slice_bounds-put_quoted-end c = (lent (goal.at.slice_bounds-put_quoted-end c).After-put_label-k).count

pub put_quoted-requires : goal.put_quoted-requires
put_quoted-requires c = omega (arith, ap (λ (l : List ℕ). length (quoted_of l)) (lent (goal.at.put_quoted-requires c).After-put_label-k).same, c.requires.1)

pub returns : goal.returns
returns c = put_as (ap quoted_of (lent (goal.at.returns c).After-put_label-k).same) c.put_quoted.ensures
