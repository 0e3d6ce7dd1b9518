use Rattle.rt_branch.proofs.moves.end_node.Given as goal

abbrev pub ghost-optimum : goal.ghost-optimum
ghost-optimum g a = g.standing

abbrev pub ghost-next_node : goal.ghost-next_node
ghost-next_node g a = g.standing
