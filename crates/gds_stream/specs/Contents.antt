-- What a stream holds. (GDSII Release 6.)
use Rattle.std.specs.Prelude.{◌≡◌, ℕ, ℤ, pos, ◌==◌, if◌then◌else◌, List, [], ◌∷◌, ◌++◌, map, take, drop, replicate, Option, Some, None, unwrap_or}
use Rattle.std.specs.List.{filter_map}
use Rattle.std.specs.Int.{w16, w32, cast_signed, from_be_bytes}
use Rattle.rt_base.specs.declared.plane.Point.{Point}
use Rattle.gds_records.specs.declared.types.TheConstants.{LIBNAME, UNITS, BGNSTR, STRNAME, ENDSTR, BOUNDARY, PATH, SREF, AREF, TEXT, LAYER, DATATYPE, WIDTH, XY, ENDEL, SNAME, COLROW, TEXTTYPE, STRING, STRANS, MAG, ANGLE, PATHTYPE, BOX, BOXTYPE}
use Rattle.gds_records.specs.Records.{Item, flat}
use Rattle.gds_stream.specs.declared.library.Place.{Place}
use Rattle.gds_stream.specs.declared.library.Element.{Element}
use Rattle.gds_stream.specs.declared.library.Element.TheVariants.{Boundary, Path, Sref, Aref, Label, BoxShape}
use Rattle.gds_stream.specs.declared.library.Structure.{Structure}
use Rattle.gds_stream.specs.declared.library.Library.{Library}
use Rattle.gds_grammar.specs.Conditions.{is_in, starts, trim, AreStream}

-- the data of the first record of a type
abbrev pub held : ℕ → List Item → Option (List ℕ)
held code [] = None
held code (i ∷ items) = if i.code == code then Some i.body else held code items

-- the pieces of a list, from a record that opens one to the next of the type that closes it; `piece` is the one that is open
abbrev pub pieces_from : List ℕ → ℕ → Option (List Item) → List Item → List (List Item)
pieces_from opening closing piece [] = []
pieces_from opening closing None (i ∷ items) =
    if is_in opening i.code then pieces_from opening closing (Some (i ∷ [])) items else pieces_from opening closing None items
pieces_from opening closing (Some piece) (i ∷ items) =
    if i.code == closing then (piece ++ i ∷ []) ∷ pieces_from opening closing None items
    else pieces_from opening closing (Some (piece ++ i ∷ [])) items

-- the pieces of a list, from a record of an opening type to the next of the closing type
abbrev pub pieces : List ℕ → ℕ → List Item → List (List Item)
pieces opening closing items = pieces_from opening closing None items

-- the data of the first record of a type, none where there is none
abbrev pub data_at : ℕ → List Item → List ℕ
data_at code items = unwrap_or (held code items) []

-- a number of two bytes, with a sign
abbrev pub two_bytes : List ℕ → ℤ
two_bytes bytes = cast_signed w16 (from_be_bytes w16 bytes)

-- a number of four bytes, with a sign
abbrev pub four_bytes : List ℕ → ℤ
four_bytes bytes = cast_signed w32 (from_be_bytes w32 bytes)

-- the number that the first record of a type holds
abbrev pub number_at : ℕ → List Item → ℤ
number_at code items = two_bytes (data_at code items)

-- the points that bytes hold, eight bytes each
abbrev pub points_in : List ℕ → List Point
points_in (a ∷ b ∷ c ∷ d ∷ e ∷ f ∷ g ∷ h ∷ bytes) =
    record { x = four_bytes (a ∷ b ∷ c ∷ d ∷ []); y = four_bytes (e ∷ f ∷ g ∷ h ∷ []) } ∷ points_in bytes
points_in _ = []

-- the points of an element
abbrev pub points_at : List Item → List Point
points_at items = points_in (data_at XY items)

-- the first of some points
abbrev pub first_of : List Point → Point
first_of [] = record { x = pos 0; y = pos 0 }
first_of (p ∷ points) = p

-- the real 1
abbrev pub real_one : List ℕ
real_one = 0x41 ∷ 0x10 ∷ 0 ∷ 0 ∷ 0 ∷ 0 ∷ 0 ∷ 0 ∷ []

-- how an element is placed: no flags where it doesn't say, the magnification 1, and the angle 0
abbrev pub place_in : List Item → Place
place_in items = record {
  flags = from_be_bytes w16 (unwrap_or (held STRANS items) (0 ∷ 0 ∷ []));
  mag = unwrap_or (held MAG items) real_one;
  angle = unwrap_or (held ANGLE items) (replicate 8 0);
}

-- a path's type, 0 where it doesn't say
abbrev pub pathtype_in : List Item → ℤ
pathtype_in items = two_bytes (unwrap_or (held PATHTYPE items) (0 ∷ 0 ∷ []))

-- a path's width, 0 where it doesn't say
abbrev pub width_in : List Item → ℤ
width_in items = four_bytes (unwrap_or (held WIDTH items) (0 ∷ 0 ∷ 0 ∷ 0 ∷ []))

-- an array's columns
abbrev pub columns_in : List Item → ℤ
columns_in items = two_bytes (take 2 (data_at COLROW items))

-- an array's rows
abbrev pub rows_in : List Item → ℤ
rows_in items = two_bytes (drop 2 (data_at COLROW items))

-- the element that records give, from the one that begins it on; a node gives none
abbrev pub element_of : List Item → Option Element
element_of [] = None
element_of (i ∷ items) =
    if i.code == BOUNDARY then Some (Boundary i.at (number_at LAYER items) (number_at DATATYPE items) (points_at items)) else
    if i.code == PATH then Some (Path i.at (number_at LAYER items) (number_at DATATYPE items) (pathtype_in items) (width_in items) (points_at items)) else
    if i.code == SREF then Some (Sref i.at (trim (data_at SNAME items)) (place_in items) (first_of (points_at items))) else
    if i.code == AREF then Some (Aref i.at (trim (data_at SNAME items)) (place_in items) (columns_in items) (rows_in items) (points_at items)) else
    if i.code == TEXT then Some (Label i.at (number_at LAYER items) (number_at TEXTTYPE items) (first_of (points_at items)) (trim (data_at STRING items))) else
    if i.code == BOX then Some (BoxShape i.at (number_at LAYER items) (number_at BOXTYPE items)) else None

-- the elements that records give, in order
abbrev pub elements_in : List Item → List Element
elements_in items = filter_map element_of (pieces starts ENDEL items)

-- the structure that records give
abbrev pub structure_of : List Item → Structure
structure_of items = record { name = trim (data_at STRNAME items); elements = elements_in items }

-- the library that records give
unfoldable pub library_of : List Item → Library
library_of items = record {
  name = trim (data_at LIBNAME items);
  units = data_at UNITS items;
  structures = map structure_of (pieces (BGNSTR ∷ []) ENDSTR items);
}

-- the bytes are a stream, and the library is what it holds: the bytes of a stream's records, and zeros behind them
pub record Stream (bytes : List ℕ) (library : Library) : Type 0 where
  pub items : List Item
  pub zeros : ℕ
  pub spells : bytes ≡ flat items ++ replicate zeros 0
  pub text : AreStream items
  pub holds : library ≡ library_of items
