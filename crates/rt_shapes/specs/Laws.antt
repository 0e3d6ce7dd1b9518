-- What is promised of the shapes of a layout.
use Rattle.std.specs.Prelude.{◌≡◌, ℕ, ℤ}
use Rattle.rt_base.specs.declared.plane.Rect.{Rect}
use Rattle.rt_cells.specs.Rectangles.{Rectangle}
use Rattle.rt_layout.specs.declared.layout.Layout.{Layout}
use Rattle.rt_layout.specs.Covering.{MaskCovers}
use Rattle.rt_tech.specs.declared.table.Tech.{Tech}
use Rattle.rt_view.specs.declared.shapes.Shape.{Shape}
use Rattle.rt_view.specs.Shapes.{IsAroundPiece, HasSoundShapes, IsFirstShape}

-- a first shape is never found in a layout whose shapes are sound
abbrev pub FirstShapeIsUnsound : Type 0
FirstShapeIsUnsound = (tech : Tech) (layout : Layout) (shape : Shape) (rect : Rect)
    → IsFirstShape tech (MaskCovers layout) layout.labels shape rect → HasSoundShapes tech (MaskCovers layout) layout.labels → ⊥

-- there is one least rectangle around the piece of a cell
abbrev pub OneRectangleAround : Type 0
OneRectangleAround = (layout : Layout) (m : ℕ) (x y : ℤ) (r q : Rectangle)
    → IsAroundPiece (MaskCovers layout m) x y r → IsAroundPiece (MaskCovers layout m) x y q → r ≡ q
