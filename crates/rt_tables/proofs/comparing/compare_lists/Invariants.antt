use Rattle.std.proofs.Common.{◌≡◌, ◌≤◌, length, drop}
use Rattle.rt_tables.specs.Forms.{list_difference}
use Rattle.rt_tables.proofs.comparing.compare_lists.Given as goal

abbrev pub invariant-loop-i : goal.invariant-loop-i
invariant-loop-i g l = record {
  within_theirs : l.i ≤ length l.theirs;
  rest_at_fault : list_difference (g.T.Compared.difference l.tables.source.now l.tables.target.now) 0 l.ours l.theirs ≡ list_difference (g.T.Compared.difference l.tables.source.now l.tables.target.now) l.i (drop l.i l.ours) (drop l.i l.theirs);
}
