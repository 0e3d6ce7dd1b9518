use Rattle.rt_branch.proofs.moves.optimum.Given as goal

abbrev pub ghost-next_node : goal.ghost-next_node
ghost-next_node g a = g.standing

abbrev pub ghost-branch : goal.ghost-branch
ghost-branch g a = g.standing
