use Rattle.std.proofs.Common.{◌≡◌, ◌++◌, All}
use Rattle.gds_slabs.specs.Steps.{ShiftsWithin}
use Rattle.gds_flat.specs.Items.{all_moved}
use Rattle.gds_flat.specs.Drawn.{pieces_in}
use Rattle.gds_flat.specs.Building.{most_shift, row_steps}
use Rattle.gds_flat.proofs.placing.push_row.Given as goal

abbrev pub invariant-loop-column : goal.invariant-loop-column
invariant-loop-column l = record {
  small : All (ShiftsWithin most_shift) (row_steps l.strides.orient l.strides.origin l.strides.across l.strides.up l.column l.row);
  items : pieces_in l.items ≡ pieces_in l.initial.items ++ all_moved (row_steps l.strides.orient l.strides.origin l.strides.across l.strides.up l.column l.row) (pieces_in l.inner);
}
