-- `crafty_c::trees::crafty_tree_backpropagate` meets its contract: the entry's answer is told in numbers.
-- Assumes nothing.
use Rattle.std.proofs.Common.{◌≡◌, rules, sym, subst}
use Rattle.crafty_c.specs.declared.answer.CraftyAnswer.{CraftyAnswer}
use Rattle.crafty_c.specs.Trees.{propagated_answer, TellsPropagated}
use Rattle.crafty_c.specs.laws.Trees.{propagated_told_lem}
use Rattle.crafty_c.proofs.trees.crafty_tree_backpropagate.Goals as goal

pub returns : goal.returns
returns c =
    let told : c.answer.result ≡ propagated_answer c.backpropagate.result = search rules in
    subst (λ (y : CraftyAnswer). TellsPropagated c.args.nodes.now c.args.count c.args.start c.args.target c.args.score y c.backpropagate.new.nodes)
    (sym told) (propagated_told_lem c.args.nodes.now c.args.count c.args.start c.args.target c.args.score c.backpropagate.ensures)
