-- The labels of a flat cell lie so near to the axes that their points are coordinates.
use Rattle.std.proofs.Common.{◌≡◌, ℕ, ℤ, pos, negsuc, List, Some, All, sym, subst, arith}
use Rattle.std.proofs.lemmas.Int.{ints}
use Rattle.std.proofs.lemmas.Option.{same_Some}
use Rattle.rt_base.specs.Plane.{IsCoordinate, AreCoordinates}
use Rattle.rt_layout.specs.declared.layout.Label.{Label}
use Rattle.rt_layout.specs.declared.layout.Layout.{Layout}
use Rattle.rt_tech.specs.declared.table.Tech.{Tech}
use Rattle.gds_stream.specs.declared.library.Structure.{Structure as Part}
use Rattle.gds_flat.specs.Items.{Drawing, Piece, IsNear, DrawingIsNear, mark_of_drawing}
use Rattle.gds_flat.specs.Items.Drawing.{area_of, note_at}
use Rattle.gds_flat.specs.Reach.{Name}
use Rattle.gds_flat.specs.Refused.{IsFlattened}
use Rattle.gds_flat_laws.proofs.Marks.{marks_have}

-- what is near is a coordinate
near_coordinate : (z : ℤ) → IsNear z → IsCoordinate z
near_coordinate (pos k) near = record { low = omega (arith, ints, near); high = omega (arith, ints, near) }
near_coordinate (negsuc k) near = record { low = omega (arith, ints, near); high = omega (arith, ints, near) }

-- a drawing that is a label has its point among the coordinates
note_near : (mask : ℕ) (d : Drawing) (label : Label) → mark_of_drawing mask d ≡ Some label → DrawingIsNear d → AreCoordinates label.at
note_near mask (area_of r) label e near = absurd cc
note_near mask (note_at at text) label e near =
    subst (λ (l : Label). AreCoordinates l.at) (same_Some (record { mask = mask; at = at; text = text }) label e)
    (record { across = near_coordinate at.0 near.0; upwards = near_coordinate at.1 near.1 })

-- the points of the labels of a flat cell are coordinates
pub labels_are_near : (library : List Part) (top : Name) (tech : Tech) (layout : Layout) → IsFlattened library top tech layout
    → All (λ (label : Label). AreCoordinates label.at) layout.labels
labels_are_near library top tech layout flat =
    subst (λ (labels : List Label). All (λ (label : Label). AreCoordinates label.at) labels) (sym flat.flat.labels)
    (marks_have (λ (p : Piece). DrawingIsNear p.drawing) (λ (label : Label). AreCoordinates label.at) (λ p. note_near p.mask p.drawing) flat.flat.pieces flat.near)
