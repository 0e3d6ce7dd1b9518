use Rattle.std.proofs.Common.{map}
use Rattle.std.specs.List.{AllWithin}
use Rattle.rt_layout.specs.declared.layout.Label.{Label}
use Rattle.rt_strips.specs.Placed.{placed}
use Rattle.rt_view.specs.Shapes.{Touches}
use Rattle.rt_shapes.specs.Cutting.{cells_by}
use Rattle.rt_shapes.proofs.labels.check_touched.Given as goal

abbrev pub invariant-loop-label : goal.invariant-loop-label
invariant-loop-label l = AllWithin (λ (label : Label). Touches (cells_by (map placed l.strips) label.mask) label.at.0 label.at.1) l.labels 0 l.label-index
