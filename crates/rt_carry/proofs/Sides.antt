-- A side in database units, as code reads it, and a shape from its parts.
use Rattle.std.proofs.Common.{◌≡◌, ℕ, ℤ, pos, ◌*ℤ◌, List, get_or, w32, w64, to_z, of_z, FitsSigned, Option, ap, ◌∙◌, arith}
use Rattle.std.proofs.lemmas.Int.{ints, to_z-of_z}
use Rattle.rt_cells.specs.Rectangles.{Rectangle}
use Rattle.rt_tech.specs.declared.table.Mask.{Mask}
use Rattle.gds_stream.specs.declared.cell.Shape.{Shape}
use Rattle.rt_carry.specs.Shapes.{layer_of_mask, datatype_of_mask, IsInExtent}

place_passed : (z : ℤ) → IsInExtent z → to_z w64 (of_z w64 z) ≡ z
place_passed z h = omega (arith, ints)

-- a side in database units, read from the list of sides
pub side_is : (grid side : ℤ) (read places : List ℤ) (i : ℕ) → read ≡ places → IsInExtent (get_or places i (pos 0)) → FitsSigned w32 side
    → side ≡ grid *ℤ to_z w64 (of_z w64 (get_or read i (pos 0))) → to_z w32 (of_z w32 side) ≡ grid *ℤ get_or places i (pos 0)
side_is grid side read places i same inside fits is =
    to_z-of_z w32 side fits
    ∙ is
    ∙ ap (λ xs. grid *ℤ to_z w64 (of_z w64 (get_or xs i (pos 0)))) same
    ∙ ap (λ z. grid *ℤ z) (place_passed (get_or places i (pos 0)) inside)

-- a shape on a mask, in a rectangle
pub shape_from : (o : Option Mask) (r : Rectangle) (layer datatype x1 y1 x2 y2 : ℤ) → layer ≡ layer_of_mask o → datatype ≡ datatype_of_mask o
    → x1 ≡ r.left → y1 ≡ r.bottom → x2 ≡ r.right → y2 ≡ r.top
    → ◌≡◌ {A = Shape} (record { layer = layer; datatype = datatype; x1 = x1; y1 = y1; x2 = x2; y2 = y2 })
    (record { layer = layer_of_mask o; datatype = datatype_of_mask o; x1 = r.left; y1 = r.bottom; x2 = r.right; y2 = r.top })
shape_from o r layer datatype x1 y1 x2 y2 a b c d e f = λ i. record { layer = a i; datatype = b i; x1 = c i; y1 = d i; x2 = e i; y2 = f i }
