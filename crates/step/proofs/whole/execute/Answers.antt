-- `step::whole::execute` meets its contract.
-- Assumes nothing.
use Rattle.step.specs.Step.{executed_of}
use Rattle.step.specs.laws.Step.{progressing, touching, improved_durability, worn_durability, refreshed_payable, timed_durability}
use Rattle.step.proofs.whole.execute.Goals as goal

pub progressed-progressed-requires : goal.progressed-progressed-requires
unfolding executed_of
progressed-progressed-requires c = simp c.begun-begun.ensures (progressing _ _ _ _ c.args.candidate.bounds.1 c.requires)

pub improved-improved-requires : goal.improved-improved-requires
unfolding executed_of
improved-improved-requires c = simp (c.progressed-progressed.ensures, c.begun-begun.ensures) (touching _ _ _ _ c.args.candidate.bounds.1 c.requires, c.args.candidate.bounds.1.quality)

pub worn-worn-requires : goal.worn-worn-requires
unfolding executed_of
worn-worn-requires c = simp (c.improved-improved.ensures, c.progressed-progressed.ensures, c.begun-begun.ensures) (improved_durability _ _ _ _ c.args.candidate.bounds.1 c.requires, c.args.candidate.bounds.1.durability)

pub refreshed-refreshed-requires : goal.refreshed-refreshed-requires
unfolding executed_of
refreshed-refreshed-requires c = simp (c.worn-worn.ensures, c.improved-improved.ensures, c.progressed-progressed.ensures, c.begun-begun.ensures) (worn_durability _ _ _ _ c.args.candidate.bounds.1 c.requires)

pub paid-paid-requires : goal.paid-paid-requires
unfolding executed_of
paid-paid-requires c = simp (c.refreshed-refreshed.ensures, c.worn-worn.ensures, c.improved-improved.ensures, c.progressed-progressed.ensures, c.begun-begun.ensures) (refreshed_payable _ _ _ _ c.args.candidate.bounds.1 c.requires)

pub affected-requires : goal.affected-requires
unfolding executed_of
affected-requires c = simp (c.timed-timed.ensures, c.combined-combined.ensures, c.paid-paid.ensures, c.refreshed-refreshed.ensures, c.worn-worn.ensures, c.improved-improved.ensures, c.progressed-progressed.ensures, c.begun-begun.ensures) (timed_durability _ _ _ _ c.args.candidate.bounds.1 c.requires)

pub returns : goal.returns
unfolding executed_of
returns c = simp (c.affected.ensures, c.timed-timed.ensures, c.combined-combined.ensures, c.paid-paid.ensures, c.refreshed-refreshed.ensures, c.worn-worn.ensures, c.improved-improved.ensures, c.progressed-progressed.ensures, c.begun-begun.ensures)
