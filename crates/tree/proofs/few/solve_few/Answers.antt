-- `tree::few::solve_few` meets its contract: the table gives the way down, and the actions down to the last record are stored.
-- Assumes nothing.
use Rattle.std.proofs.Common.{◌≡◌, ◌<◌, ◌≤◌, length, refl, ◌∙◌, arith}
use Rattle.std.proofs.lemmas.Grind.{common_steps}
use Rattle.refusal.specs.Judge.{judged}
use Rattle.text.specs.laws.Over.{put_one}
use Rattle.tree.specs.Tree.{best_of, solution_of}
use Rattle.tree.specs.inner.Few.{entry_at}
use Rattle.tree.specs.laws.Tree.{of_tree}
use Rattle.tree.specs.laws.Descent.{turned, down_more, down_none, down_on, down_end, stored_all}
use Rattle.tree.specs.laws.Few.{blank_table, table_rises, way_length}
use Rattle.tree.proofs.few.solve_few.Goals.{After-best_children, After-way_len-needed, In-loop-at}
use Rattle.tree.proofs.few.solve_few.Goals as goal

long : (c : After-best_children) → c.args.count ≤ length c.best_children.new.best
long c = omega (arith, c.requires.1, c.best_children.auto.best)

is : (c : After-way_len-needed) → c.way_len-needed.result ≡ length (solution_of c.args.nodes.now c.args.count)
is c = c.way_len-needed.ensures ∙ way_length _ _ c.requires.0 c.best_children.new.best (long (goal.at.After-way_len-needed c).After-best_children) c.best_children.ensures

-- there is a child, and the table has it
module _ (c : In-loop-at) where
  more : 0 < best_of c.args.count c.args.nodes.now c.loop-at.last
  more = down_more _ _ c.requires.0 c.loop-at.invariant.down (omega (arith, is (goal.at.In-loop-at c).After-way_len-needed))

  found : entry_at c.best_children.new.best c.loop-at.last ≡ best_of c.args.count c.args.nodes.now c.loop-at.last
  found = c.best_children.ensures c.loop-at.last (omega (arith, c.loop-at.invariant.down.inside, c.requires.1, c.best_children.auto.best))

pub best_children-requires : goal.best_children-requires
best_children-requires c = blank_table c.requires.0 c.requires.1 _ refl

pub way_len-needed-requires : goal.way_len-needed-requires
way_len-needed-requires c =
    let at_best_children = (goal.at.way_len-needed-requires c).After-best_children in
    (table_rises _ _ c.requires.0 c.best_children.new.best (long at_best_children) c.best_children.ensures, omega (arith, long at_best_children, c.requires.0.some))

pub returns-in_err-check_room : goal.returns-in_err-check_room
unfolding judged
returns-in_err-check_room c = grind (arith, common_steps, is (goal.at.returns-in_err-check_room c).After-way_len-needed, of_tree c.requires.0)

pub node_at-requires : goal.node_at-requires
node_at-requires c =
    let t = (goal.at.node_at-requires c).In-loop-at in
    let below = (down_on _ _ c.requires.0 c.loop-at.invariant.down (more t)).inside in
    omega (arith, found t, below, c.requires.0.room)

pub loop-at-preserved : goal.loop-at-preserved
loop-at-preserved c =
    let t = (goal.at.loop-at-preserved c).In-loop-at in
    let turn = turned _ _ c.requires.0 c.loop-at.invariant.down c.loop-at.invariant.stored (found t) (more t) (put_one _ _ _) in
    record { down = turn.down; stored = rw c.node_at.ensures turn.stored }

pub returns : goal.returns
unfolding judged
returns c =
    let needed = is (goal.at.returns c).After-way_len-needed in
    let end = down_none _ _ c.requires.0 c.loop-at.invariant.down (omega (arith, needed)) in
    let last = down_end _ _ c.requires.0 c.loop-at.invariant.down end in
    grind (arith, common_steps, needed, last, stored_all _ _ c.requires.0 c.loop-at.invariant.stored end, of_tree c.requires.0)
