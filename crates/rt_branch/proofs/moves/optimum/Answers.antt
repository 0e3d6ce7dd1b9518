use Rattle.std.proofs.Common.{subst}
use Rattle.rt_branch.specs.Ends.{IsPointOf}
use Rattle.rt_branch.proofs.Standings.{leave_whole, leave_pruned}
use Rattle.rt_branch.proofs.moves.optimum.Goals as goal

pub next_node-requires : goal.next_node-requires
next_node-requires g c =
    leave_whole g.standing c.args.path.now c.keep.new.best c.args.table.now c.in-Whole.at c.best_of.result c.requires.0 c.requires.1 (subst (IsPointOf c.args.table.now) c.in-Whole.is c.in_ok-at.ensures) c.best_of.ensures c.keep.ensures

pub next_node-requires-then-has_no_better : goal.next_node-requires-then-has_no_better
next_node-requires-then-has_no_better g c =
    leave_pruned g.standing c.args.path.now c.args.table.now c.in-Broken.j c.in-Broken.n c.requires.0 c.requires.1 (subst (IsPointOf c.args.table.now) c.in-Broken.is c.in_ok-at.ensures).1 c.if-has_no_better.ensures
