-- `context_line::line::line_end` meets its contract.
-- Assumes nothing.
use Rattle.std.proofs.Common.{◌∙◌, rules, tests}
use Rattle.std.proofs.lemmas.Iterator.{YieldsList-from_slice}
use Rattle.std.proofs.lemmas.Iterator.Consumers.{count_from_yields_List}
use Rattle.std.proofs.lemmas.Iterator.Search.{YieldsList-from_take_while}
use Rattle.std.proofs.lemmas.List.Folds.{length-prefix_len}
use Rattle.context_line.specs.Shape.{in_line}
use Rattle.context_line.specs.laws.Runs.{front_prefix}
use Rattle.context_line.proofs.line.line_end.Goals as goal

pub returns : goal.returns
returns c =
    let input = c.args.input.now in
    count_from_yields_List c.take_while.result _ c.count.ensures.ran
    (YieldsList-from_take_while _ in_line (YieldsList-from_slice input cc) c.take_while.ensures.closure c.take_while.ensures.done (λ x b q k. search (rules, tests)))
    ∙ length-prefix_len in_line input ∙ front_prefix in_line input
