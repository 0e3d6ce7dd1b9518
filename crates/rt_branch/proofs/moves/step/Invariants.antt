use Rattle.rt_branch.proofs.moves.step.Given as goal

abbrev pub ghost-pivot : goal.ghost-pivot
ghost-pivot g a = g.standing

abbrev pub ghost-end_node : goal.ghost-end_node
ghost-end_node g a = g.standing
