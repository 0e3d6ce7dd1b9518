-- What is written: polygons round the rectangles of a drawing, and behind them its labels as texts, on the layers of their masks.
use Rattle.std.specs.Prelude.{◌≡◌, ℕ, ℤ, List, [], ◌∷◌, ◌++◌, Some, slice_get}
use Rattle.std.specs.List.{AllZip}
use Rattle.rt_base.specs.declared.plane.Point.{Point}
use Rattle.rt_cells.specs.Rectangles.{Rectangle, IsNonempty}
use Rattle.gds_stream.specs.declared.library.Element.{Element}
use Rattle.gds_stream.specs.declared.library.Element.TheVariants.{Boundary, Label as Text}
use Rattle.gds_stream.specs.declared.library.Library.{Library}
use Rattle.rt_layout.specs.declared.layout.Label.{Label}
use Rattle.rt_tech.specs.declared.table.Mask.{Mask}
use Rattle.rt_tech.specs.declared.table.Tech.{Tech}
use Rattle.rt_tech.specs.Tech.{pair_of}
use Rattle.rt_strips.specs.Placed.{Placed}

-- mask number m of these masks is drawn on that layer, with that data type
pub record IsMaskOfPairIn (masks : List Mask) (layer datatype : ℤ) (m : ℕ) : Type 0 where
  pub mask : Mask
  pub is_mask : slice_get masks m ≡ Some mask
  pub pair : pair_of mask ≡ (layer, datatype)

-- mask number m of the table is drawn on that layer, with that data type
abbrev pub IsMaskOfPair : Tech → ℤ → ℤ → ℕ → Type 0
IsMaskOfPair tech layer datatype m = IsMaskOfPairIn tech.masks layer datatype m

-- mask number m of these masks, and no other, has its labels on that layer, with that text type
pub record IsMaskOfNoteIn (masks : List Mask) (layer texttype : ℤ) (m : ℕ) : Type 0 where
  pub mask : Mask
  pub is_mask : slice_get masks m ≡ Some mask
  pub note : mask.note ≡ Some (layer, texttype)
  pub alone : (k : ℕ) (other : Mask) → slice_get masks k ≡ Some other → other.note ≡ Some (layer, texttype) → k ≡ m

-- mask number m of the table, and no other, has its labels on that layer, with that text type
abbrev pub IsMaskOfNote : Tech → ℤ → ℤ → ℕ → Type 0
IsMaskOfNote tech layer texttype m = IsMaskOfNoteIn tech.masks layer texttype m

-- the corners of a rectangle, counterclockwise from the lower left one, which is also the last point
abbrev pub corners_of : Rectangle → List Point
corners_of r =
    record { x = r.left; y = r.bottom } ∷
    record { x = r.right; y = r.bottom } ∷
    record { x = r.right; y = r.top } ∷
    record { x = r.left; y = r.top } ∷
    record { x = r.left; y = r.bottom } ∷
    []

-- the element is a polygon round that rectangle, from its lower left corner counterclockwise,
-- on the layer and with the data type of its mask
pub record IsPolygonOf (tech : Tech) (element : Element) (rectangle : Placed) : Type 0 where
  pub offset : ℕ
  pub layer : ℤ
  pub datatype : ℤ
  pub is_polygon : element ≡ Boundary offset layer datatype (corners_of rectangle.area)
  pub on_mask : IsMaskOfPair tech layer datatype rectangle.mask
  pub nonempty : IsNonempty rectangle.area

-- the element is a text with that label's words at its point, on the layer and with the text type of its mask
pub record IsTextOf (tech : Tech) (element : Element) (label : Label) : Type 0 where
  pub offset : ℕ
  pub layer : ℤ
  pub texttype : ℤ
  pub is_text : element ≡ Text offset layer texttype (record { x = label.at.0; y = label.at.1 }) label.text
  pub on_mask : IsMaskOfNote tech layer texttype label.mask

-- the library is one structure of that name with these elements
abbrev pub IsOneStructure : Library → List ℕ → List Element → Type 0
IsOneStructure library cell elements = library.structures ≡ record { name = cell; elements = elements } ∷ []

-- the library is one structure of that name, and its elements are polygons round the rectangles of the layout, one by one, and behind them
-- the texts of the labels, one by one
pub record IsWrittenAs (tech : Tech) (library : Library) (cell : List ℕ) (layout : List Placed) (labels : List Label) : Type 0 where
  pub outlines : List Element
  pub notes : List Element
  pub one_structure : IsOneStructure library cell (outlines ++ notes)
  pub polygons : AllZip (IsPolygonOf tech) outlines layout
  pub texts : AllZip (IsTextOf tech) notes labels
