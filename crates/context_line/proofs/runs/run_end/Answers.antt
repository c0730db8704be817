-- `context_line::runs::run_end` meets its contract.
-- Assumes nothing.
use Rattle.std.proofs.Common.{ap, ◌+◌, drop, ◌∙◌, rules, arith}
use Rattle.std.proofs.lemmas.Iterator.{YieldsList-from_slice}
use Rattle.std.proofs.lemmas.Iterator.Consumers.{count_from_yields_List}
use Rattle.std.proofs.lemmas.Iterator.Search.{YieldsList-from_take_while}
use Rattle.std.proofs.lemmas.Grind.{common_steps}
use Rattle.std.proofs.lemmas.List.Folds.{length-prefix_len}
use Rattle.context_line.specs.Shape.{digit}
use Rattle.context_line.specs.laws.Runs.{front_prefix}
use Rattle.context_line.proofs.runs.run_end.Goals as goal

pub returns : goal.returns
returns c =
    let rest = drop c.args.at c.args.line.now in
    ap (c.args.at +◌)
    (count_from_yields_List c.take_while.result _ c.count.ensures.ran
    (YieldsList-from_take_while _ digit (YieldsList-from_slice rest (grind (arith, common_steps))) c.take_while.ensures.closure c.take_while.ensures.done (λ x b q k. search rules))
    ∙ length-prefix_len digit rest ∙ front_prefix digit rest)
