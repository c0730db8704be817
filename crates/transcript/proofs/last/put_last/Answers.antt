-- `transcript::last::put_last` meets its contract.
-- Assumes nothing.
use Rattle.text.specs.laws.Over.{then, put_as}
use Rattle.text.specs.laws.Lengths.{right_none}
use Rattle.transcript.specs.Transcript.{last_line_of}
use Rattle.transcript.proofs.last.put_last.Goals as goal

pub returns : goal.returns
unfolding last_line_of
returns c =
    then
    (then
    (then
    (then (then c.put_result-word.ensures.0 c.put-number.ensures) (put_as (right_none _) c.put_number-of.ensures.0))
    c.put-most.ensures)
    (put_as (right_none _) c.put_number-end.ensures.0))
    c.put_byte.ensures
