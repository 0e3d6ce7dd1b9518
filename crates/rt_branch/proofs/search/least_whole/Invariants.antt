use Rattle.rt_branch.proofs.search.least_whole.Given as goal

abbrev pub ghost-run : goal.ghost-run
ghost-run a = record { root = a.table.now; from = a.pivots.now; limit = a.limit; made = a.pivots.now }
