-- `rotation::reading::put_words` meets its contract: the rest of the actions, stored where the next one goes, are all of them stored at the start.
-- Assumes nothing.
use Rattle.std.proofs.Common.{◌≡◌, ◌∷◌, ◌∙◌, Ok, sym, ap, arith, length, length-set}
use Rattle.text.specs.Over.{over}
use Rattle.text.specs.laws.Over.{over_step}
use Rattle.rotation.specs.inner.Told.{told_from}
use Rattle.rotation.specs.laws.Told.{named}
use Rattle.rotation.proofs.reading.put_words.Goals as goal

pub loop-word-preserved-in-Ok : goal.loop-word-preserved-in-Ok
loop-word-preserved-in-Ok c =
    let l = c.loop-word in
    let more : told_from l.word-iterator ≡ Ok c.in-Ok.n ∷ told_from c.next.new.self = cc c.in-Some.ensures.steps in (
      tt,
      tt,
      sym (over_step _ _ _ _) ∙ sym (ap (λ w. over l.out l.k (named w)) more) ∙ l.invariant.2,
      omega (arith, ap (λ w. length (named w)) more),
      simp length-set l.invariant.4,
    )
