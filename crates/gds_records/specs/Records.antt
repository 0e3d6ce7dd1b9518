-- Records of a stream where they stand, and their bytes. (GDSII Release 6.)
use Rattle.std.specs.Prelude.{◌≡◌, ℕ, ◌+◌, ◌%◌, ◌<◌, ◌≤◌, Bool, ◌||◌, ◌==◌, if◌then◌else◌, IsTrue, MatchBool, List, [], ◌∷◌, ◌++◌, length, All, Option, Some, None, is_some, IfSome}
use Rattle.std.specs.List.{flat_map, list_any}
use Rattle.std.specs.Int.{w16, to_be_bytes}
use Rattle.gds_records.specs.declared.types.TheConstants.{NO_DATA, BITS, TWO_BYTES, FOUR_BYTES, REAL, CHARACTERS, HEADER, BGNLIB, LIBNAME, UNITS, ENDLIB, BGNSTR, STRNAME, ENDSTR, BOUNDARY, PATH, SREF, AREF, TEXT, LAYER, DATATYPE, WIDTH, XY, ENDEL, SNAME, COLROW, NODE, TEXTTYPE, PRESENTATION, STRING, STRANS, MAG, ANGLE, PATHTYPE, ELFLAGS, NODETYPE, PROPATTR, PROPVALUE, BOX, BOXTYPE, SKIPPED, UNREAD}

-- a record: the place of its first byte, its type, its data type and its data
pub record Item : Type 0 where
  pub at : ℕ
  pub code : ℕ
  pub form : ℕ
  pub body : List ℕ

-- the bytes of a record: two of length, which counts the four before the data, its type, its data type, and the data
unfoldable pub spelled_as : ℕ → ℕ → List ℕ → List ℕ
spelled_as code form body = to_be_bytes w16 (4 + length body) ++ code ∷ form ∷ body

-- the bytes of a record
abbrev pub spelled : Item → List ℕ
spelled i = spelled_as i.code i.form i.body

-- the bytes of records, one after the other
abbrev pub flat : List Item → List ℕ
flat items = flat_map spelled items

-- the types whose data are looked at, each with its data type
abbrev pub table : List (ℕ × ℕ)
table =
    (HEADER, TWO_BYTES) ∷
    (BGNLIB, TWO_BYTES) ∷
    (LIBNAME, CHARACTERS) ∷
    (UNITS, REAL) ∷
    (ENDLIB, NO_DATA) ∷
    (BGNSTR, TWO_BYTES) ∷
    (STRNAME, CHARACTERS) ∷
    (ENDSTR, NO_DATA) ∷
    (BOUNDARY, NO_DATA) ∷
    (PATH, NO_DATA) ∷
    (SREF, NO_DATA) ∷
    (AREF, NO_DATA) ∷
    (TEXT, NO_DATA) ∷
    (LAYER, TWO_BYTES) ∷
    (DATATYPE, TWO_BYTES) ∷
    (WIDTH, FOUR_BYTES) ∷
    (XY, FOUR_BYTES) ∷
    (ENDEL, NO_DATA) ∷
    (SNAME, CHARACTERS) ∷
    (COLROW, TWO_BYTES) ∷
    (NODE, NO_DATA) ∷
    (TEXTTYPE, TWO_BYTES) ∷
    (PRESENTATION, BITS) ∷
    (STRING, CHARACTERS) ∷
    (STRANS, BITS) ∷
    (MAG, REAL) ∷
    (ANGLE, REAL) ∷
    (PATHTYPE, TWO_BYTES) ∷
    (ELFLAGS, BITS) ∷
    (NODETYPE, TWO_BYTES) ∷
    (PROPATTR, TWO_BYTES) ∷
    (PROPVALUE, CHARACTERS) ∷
    (BOX, NO_DATA) ∷
    (BOXTYPE, TWO_BYTES) ∷
    []

-- the data type that a table has for a type
abbrev pub data_in : List (ℕ × ℕ) → ℕ → Option ℕ
data_in [] code = None
data_in (row ∷ rows) code = if row.0 == code then Some row.1 else data_in rows code

-- the data type of a type, None where the data aren't looked at
abbrev pub data_of : ℕ → Option ℕ
data_of code = data_in table code

-- the types whose data aren't looked at: those of records that are skipped, and some of records that aren't
abbrev pub free_types : List ℕ
free_types = SKIPPED ++ UNREAD

-- whether the data of the type aren't looked at
abbrev pub is_free : ℕ → Bool
is_free code = list_any (λ c. c == code) free_types

-- whether there is such a type
abbrev pub known : ℕ → Bool
known code = is_some (data_of code) || is_free code

-- how many bytes one item of a data type has
abbrev pub unit : ℕ → ℕ
unit form =
    if form == BITS then 2 else
    if form == TWO_BYTES then 2 else
    if form == FOUR_BYTES then 4 else
    if form == REAL then 8 else 1

-- the data are whole items of the data type, and none where it has none
abbrev pub WholeItems : ℕ → List ℕ → Type 0
WholeItems form body = MatchBool (form == NO_DATA) (body ≡ []) (length body % unit form ≡ 0)

-- the record is one: of even length and no longer than its length can say, of a known type, with the type's data type and whole items, all bytes
pub record Framed (i : Item) : Type 0 where
  pub even : length i.body % 2 ≡ 0
  pub short : length i.body ≤ 65530
  pub type_is_known : IsTrue (known i.code)
  pub items : IfSome (data_of i.code) (λ form. (i.form ≡ form) × WholeItems form i.body)
  pub code_is_byte : i.code < 256
  pub form_is_byte : i.form < 256
  pub body_is_bytes : All (λ b. b < 256) i.body
