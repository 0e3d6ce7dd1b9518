use Rattle.std.proofs.Common.{◌≡◌, ◌++◌, All}
use Rattle.gds_slabs.specs.Steps.{ShiftsWithin}
use Rattle.gds_flat.specs.Items.{all_moved}
use Rattle.gds_flat.specs.Drawn.{pieces_in}
use Rattle.gds_flat.specs.Building.{most_shift, all_steps}
use Rattle.gds_flat.proofs.placing.push_rows.Given as goal

abbrev pub invariant-loop-row : goal.invariant-loop-row
invariant-loop-row l = record {
  small : All (ShiftsWithin most_shift) (all_steps l.strides.orient l.strides.origin l.strides.across l.strides.up l.counts.0 l.row);
  items : pieces_in l.items ≡ pieces_in l.initial.items ++ all_moved (all_steps l.strides.orient l.strides.origin l.strides.across l.strides.up l.counts.0 l.row) (pieces_in l.inner);
}
