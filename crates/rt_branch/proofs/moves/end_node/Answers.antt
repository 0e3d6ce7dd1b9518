use Rattle.std.proofs.Common.{subst}
use Rattle.rt_simplex.specs.Runs.{IsEnd}
use Rattle.rt_branch.proofs.Standings.{leave_ray}
use Rattle.rt_branch.proofs.moves.end_node.Goals as goal

pub next_node-requires : goal.next_node-requires
next_node-requires g c = leave_ray g.standing c.args.path.now c.args.table.now c.in-Ray.row c.requires.0 (subst (IsEnd c.args.table.now) c.in-Ray.is c.requires.1)
