-- The stream of a cell that has shapes and texts alone.
use Rattle.std.specs.Prelude.{◌≡◌, ℕ, ◌%◌, ◌<◌, ◌≤◌, ℤ, ◌==◌, if◌then◌else◌, List, [], ◌∷◌, ◌++◌, length, replicate, All, FitsSigned}
use Rattle.std.specs.List.{flat_map, AllZip}
use Rattle.std.specs.Int.{w16, w32, cast_unsigned, to_be_bytes}
use Rattle.rt_base.specs.declared.plane.Point.{Point}
use Rattle.rt_base.specs.Text.{IsText}
use Rattle.gds_records.specs.declared.types.TheConstants.{NO_DATA, TWO_BYTES, FOUR_BYTES, REAL, CHARACTERS, HEADER, BGNLIB, LIBNAME, UNITS, ENDLIB, BGNSTR, STRNAME, ENDSTR, BOUNDARY, TEXT, LAYER, DATATYPE, XY, ENDEL, TEXTTYPE, STRING}
use Rattle.gds_records.specs.Records.{Item, flat}
use Rattle.gds_stream.specs.declared.cell.Flat.{Flat}
use Rattle.gds_stream.specs.declared.cell.Shape.{Shape}
use Rattle.gds_stream.specs.declared.cell.Note.{Note}
use Rattle.gds_stream.specs.declared.library.Element.{Element}
use Rattle.gds_stream.specs.declared.library.Element.TheVariants.{Boundary, Label}
use Rattle.gds_stream.specs.declared.library.Library.{Library}

-- the two bytes of a number
abbrev pub two_of : ℤ → List ℕ
two_of z = to_be_bytes w16 (cast_unsigned w16 z)

-- the four bytes of a number
abbrev pub four_of : ℤ → List ℕ
four_of z = to_be_bytes w32 (cast_unsigned w32 z)

-- a text with one zero behind it, where its length is odd
abbrev pub padded : List ℕ → List ℕ
padded text = if length text % 2 == 0 then text else text ++ 0 ∷ []

-- a record that isn't placed yet
abbrev pub item_of : ℕ → ℕ → List ℕ → Item
item_of code form body = record { at = 0; code = code; form = form; body = body }

-- the bytes of a shape's five points
unfoldable pub corner_bytes : Shape → List ℕ
corner_bytes s =
    four_of s.x1 ++ four_of s.y1 ++ four_of s.x2 ++ four_of s.y1 ++ four_of s.x2 ++ four_of s.y2 ++
    four_of s.x1 ++ four_of s.y2 ++ four_of s.x1 ++ four_of s.y1

-- the records of a shape
unfoldable pub shape_records : Shape → List Item
shape_records s =
    item_of BOUNDARY NO_DATA [] ∷
    item_of LAYER TWO_BYTES (two_of s.layer) ∷
    item_of DATATYPE TWO_BYTES (two_of s.datatype) ∷
    item_of XY FOUR_BYTES (corner_bytes s) ∷
    item_of ENDEL NO_DATA [] ∷
    []

-- the records of a text
unfoldable pub note_records : Note → List Item
note_records n =
    item_of TEXT NO_DATA [] ∷
    item_of LAYER TWO_BYTES (two_of n.layer) ∷
    item_of TEXTTYPE TWO_BYTES (two_of n.texttype) ∷
    item_of XY FOUR_BYTES (four_of n.x ++ four_of n.y) ∷
    item_of STRING CHARACTERS (padded n.text) ∷
    item_of ENDEL NO_DATA [] ∷
    []

-- the records up to the first element: version 600, and dates of zeros
unfoldable pub front_records : Flat → List Item
front_records cell =
    item_of HEADER TWO_BYTES (2 ∷ 88 ∷ []) ∷
    item_of BGNLIB TWO_BYTES (replicate 24 0) ∷
    item_of LIBNAME CHARACTERS (padded cell.library) ∷
    item_of UNITS REAL cell.units ∷
    item_of BGNSTR TWO_BYTES (replicate 24 0) ∷
    item_of STRNAME CHARACTERS (padded cell.name) ∷
    []

-- the records behind the last element
unfoldable pub end_records : List Item
end_records = item_of ENDSTR NO_DATA [] ∷ item_of ENDLIB NO_DATA [] ∷ []

-- the records of a cell
unfoldable pub records_of : Flat → List Item
records_of cell =
    front_records cell ++ flat_map shape_records cell.shapes ++ flat_map note_records cell.texts ++ end_records

-- the bytes of a cell
unfoldable pub written : Flat → List ℕ
written cell = flat (records_of cell)

-- the shape's numbers have their types' ranges
pub record FitsShape (s : Shape) : Type 0 where
  pub layer : FitsSigned w16 s.layer
  pub datatype : FitsSigned w16 s.datatype
  pub x1 : FitsSigned w32 s.x1
  pub y1 : FitsSigned w32 s.y1
  pub x2 : FitsSigned w32 s.x2
  pub y2 : FitsSigned w32 s.y2

-- the text's numbers have their types' ranges, and its bytes are printable and fit a record
pub record FitsNote (n : Note) : Type 0 where
  pub layer : FitsSigned w16 n.layer
  pub texttype : FitsSigned w16 n.texttype
  pub x : FitsSigned w32 n.x
  pub y : FitsSigned w32 n.y
  pub printable : IsText n.text
  pub short : length n.text ≤ 65530

-- the two names are printable and fit a record, the cell's isn't empty, and the units are 16 bytes
pub record FitsFront (cell : Flat) : Type 0 where
  pub named : 0 < length cell.name
  pub name_printable : IsText cell.name
  pub name_short : length cell.name ≤ 65530
  pub library_printable : IsText cell.library
  pub library_short : length cell.library ≤ 65530
  pub units_long : length cell.units ≡ 16
  pub units_bytes : All (λ b. b < 256) cell.units

-- what can be written
pub record FitsWriter (cell : Flat) : Type 0 where
  pub front : FitsFront cell
  pub shapes : All FitsShape cell.shapes
  pub texts : All FitsNote cell.texts

-- the five points round a shape: from (x1, y1) by (x2, y1), (x2, y2) and (x1, y2) back to (x1, y1)
abbrev pub five_points : Shape → List Point
five_points s =
    record { x = s.x1; y = s.y1 } ∷
    record { x = s.x2; y = s.y1 } ∷
    record { x = s.x2; y = s.y2 } ∷
    record { x = s.x1; y = s.y2 } ∷
    record { x = s.x1; y = s.y1 } ∷
    []

-- the element is the shape's, wherever it stands
abbrev pub IsMadeOf : Element → Shape → Type 0
IsMadeOf element s = (offset : ℕ) × (element ≡ Boundary offset s.layer s.datatype (five_points s))

-- the element is the text's, wherever it stands
abbrev pub IsLabelOf : Element → Note → Type 0
IsLabelOf element n = (offset : ℕ) × (element ≡ Label offset n.layer n.texttype (record { x = n.x; y = n.y }) n.text)

-- the library has the cell's library name and units, and one structure: of the cell's name, with the shapes and then the texts as its elements
pub record OneCell (library : Library) (cell : Flat) : Type 0 where
  pub drawn : List Element
  pub labels : List Element
  pub is_library : library ≡ record { name = cell.library; units = cell.units; structures = record { name = cell.name; elements = drawn ++ labels } ∷ [] }
  pub are_shapes : AllZip IsMadeOf drawn cell.shapes
  pub are_texts : AllZip IsLabelOf labels cell.texts
