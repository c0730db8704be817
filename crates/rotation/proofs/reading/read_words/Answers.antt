-- `rotation::reading::read_words` meets its contract: what is counted and what is left decide as the whole text does, and the rest is stored where
-- the next word goes.
-- Assumes nothing.
use Rattle.std.proofs.Common.{◌≡◌, ◌∷◌, ◌∙◌, Ok, sym, ap, arith, length, length-set}
use Rattle.text.specs.Over.{over}
use Rattle.text.specs.laws.Over.{over_step}
use Rattle.rotation.specs.inner.Told.{told_from}
use Rattle.rotation.specs.laws.Told.{named, named_first, tally}
use Rattle.rotation.proofs.reading.read_words.Goals as goal

pub loop-word-preserved : goal.loop-word-preserved
loop-word-preserved c =
    let l = c.loop-word in
    let more : told_from l.word-iterator ≡ Ok c.in_ok-out.field-0 ∷ told_from c.next.new.self = cc (c.in-Some.ensures.steps, c.in_ok-out.was) in (
      tt,
      tt,
      sym (ap (tally l.k) more) ∙ l.invariant.2,
      omega (arith, ap (λ w. length (named w)) more),
      sym (over_step _ _ _ _) ∙ sym (ap (λ w. over l.out l.k (named_first w)) more) ∙ l.invariant.4,
      simp length-set l.invariant.5,
    )
