use Rattle.std.proofs.Common.{◌≡◌, map, take}
use Rattle.rt_vtemplate.specs.Listing.{with_row}
use Rattle.rt_vtemplate.proofs.rows.with_rows.Given as goal

abbrev pub invariant-loop-name : goal.invariant-loop-name
invariant-loop-name l = l.rows ≡ map (with_row l.job) (take l.name-index l.names)
