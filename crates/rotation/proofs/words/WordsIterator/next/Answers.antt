-- `rotation::words::Words` gives the next word of its text.
-- Assumes nothing.
use Rattle.std.proofs.Common.{ap, arith, length}
use Rattle.rotation.proofs.Next.{no_more, one_more}
use Rattle.rotation.proofs.words.WordsIterator.next.Goals as goal

pub returns-in_err-start-clause-steps : goal.returns-in_err-start-clause-steps
returns-in_err-start-clause-steps c =
    let none = no_more c.args.self.now.text.now c.args.self.now.within c.first_letter.ensures c.in_err-start.was in
    rw c.from_residual.ensures (none, none)

steps : goal.returns-clause-steps
steps c =
    rw c.ok_or.ensures.value
    (one_more c.args.self.now.text.now c.args.self.now.within c.first_letter.ensures c.in_ok-start.was c.first_gap.ensures c.unwrap_or.ensures c.from_name.ensures)

pub returns-clause-steps : goal.returns-clause-steps
returns-clause-steps = steps

pub returns-clause-goes : goal.returns-clause-goes
returns-clause-goes c = record { on = λ _. (tt, tt, omega (arith, ap length (steps c))); keeps = tt; rests = λ _. tt }
