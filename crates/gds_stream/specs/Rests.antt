-- What is left of an element's records, and of a stream's, behind their first ones, and what it gives.
use Rattle.std.specs.Prelude.{◌≡◌, ℕ, List, [], ◌∷◌, Option, Some}
use Rattle.gds_records.specs.declared.types.TheConstants.{UNITS, ENDLIB, ELFLAGS, PLEX, LAYER, WIDTH, XY, COLROW, PRESENTATION, STRING, PATHTYPE, BGNEXTN, ENDEXTN}
use Rattle.gds_records.specs.Records.{Item}
use Rattle.gds_grammar.specs.Grammar.{Grammar, ◌‣◌, many, type, maybe}
use Rattle.gds_grammar.specs.Format as rules
use Rattle.gds_grammar.specs.Conditions.{trim}
use Rattle.gds_stream.specs.declared.library.Element.{Element}
use Rattle.gds_stream.specs.declared.library.Element.TheVariants.{Path, Aref, Label}
use Rattle.gds_stream.specs.declared.library.Library.{Library}
use Rattle.gds_stream.specs.Contents.{held, data_at, two_bytes, points_at, first_of, place_in, pathtype_in, width_in, columns_in, rows_in}
use Rattle.gds_stream.specs.Gives.{structures_in}

-- an element of a layer, a type on the layer and points
abbrev pub area : ℕ → ℕ → Grammar
area start kind = type start ‣ rules.head ‣ type LAYER ‣ type kind ‣ type XY

-- the types of the other records that such an element may hold behind its first
abbrev pub beside_kind : List ℕ
beside_kind = ELFLAGS ∷ PLEX ∷ LAYER ∷ XY ∷ []

-- the records begin at the place with one of the first type, and hold these data of a layer, a type on it and points
pub record HoldsArea (at start kind : ℕ) (items : List Item) (layer number xy : List ℕ) : Type 0 where
  pub first : Item
  pub more : List Item
  pub begins : items ≡ first ∷ more
  pub stands : first.at ≡ at
  pub starts : first.code ≡ start
  pub on_layer : held LAYER more ≡ Some layer
  pub of_kind : held kind more ≡ Some number
  pub points : held XY more ≡ Some xy

-- a path from where it says by how much its ends go on
abbrev pub path_points : Grammar
path_points = maybe (type BGNEXTN) ‣ maybe (type ENDEXTN) ‣ type XY

-- the records hold these points
abbrev pub HoldsPoints : List Item → List ℕ → Type 0
HoldsPoints items body = held XY items ≡ Some body

-- a path from its type on
abbrev pub path_line : Grammar
path_line = maybe (type PATHTYPE) ‣ maybe (type WIDTH) ‣ path_points

-- the records give the path at the place, of this layer and data type
abbrev pub GivesLine : ℕ → List ℕ → List ℕ → List Item → Option Element → Type 0
GivesLine offset layer datatype items element =
    element ≡ Some (Path offset (two_bytes layer) (two_bytes datatype) (pathtype_in items) (width_in items) (points_at items))

-- an array from how it is placed on
abbrev pub array : Grammar
array = maybe rules.turn ‣ type COLROW ‣ type XY

-- the records give the array at the place, of the structure of this name
abbrev pub GivesArray : ℕ → List ℕ → List Item → Option Element → Type 0
GivesArray offset name items element =
    element ≡ Some (Aref offset (trim name) (place_in items) (columns_in items) (rows_in items) (points_at items))

-- a text from how it is placed on
abbrev pub label_text : Grammar
label_text = maybe rules.turn ‣ type XY ‣ type STRING

-- a text from how it is shown on
abbrev pub label_shown : Grammar
label_shown = maybe (type PRESENTATION) ‣ maybe (type PATHTYPE) ‣ maybe (type WIDTH) ‣ label_text

-- the records give the text at the place, of this layer and type
abbrev pub GivesText : ℕ → List ℕ → List ℕ → List Item → Option Element → Type 0
GivesText offset layer texttype items element =
    element ≡ Some (Label offset (two_bytes layer) (two_bytes texttype) (first_of (points_at items)) (trim (data_at STRING items)))

-- a stream from its units on
abbrev pub contents : Grammar
contents = type UNITS ‣ many rules.structure ‣ type ENDLIB

-- the records give the library of this name
abbrev pub GivesContents : List ℕ → List Item → Library → Type 0
GivesContents name items library = library ≡ record { name = trim name; units = data_at UNITS items; structures = structures_in items }
