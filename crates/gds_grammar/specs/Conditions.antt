-- What a stream's records owe where they stand. (GDSII Release 6.)
use Rattle.std.specs.Prelude.{◌≡◌, ◌≢◌, ℕ, zero, suc, ◌+◌, ◌-◌, ◌*◌, ◌/◌, ◌%◌, ◌<◌, ◌≤◌, Bool, not, ◌&&◌, ◌==◌, if◌then◌else◌, MatchBool, List, [], ◌∷◌, ◌++◌, length, map, take, drop, replicate, AllPairs, Option, Some, None, unwrap_or, IfSome}
use Rattle.std.specs.Bool.{OnTrue}
use Rattle.std.specs.List.{list_any, filter_map}
use Rattle.rt_base.specs.Text.{IsText}
use Rattle.gds_records.specs.declared.types.TheConstants.{NO_DATA, BITS, TWO_BYTES, FOUR_BYTES, REAL, BGNLIB, LIBNAME, UNITS, BGNSTR, STRNAME, BOUNDARY, PATH, SREF, AREF, TEXT, XY, SNAME, COLROW, NODE, STRING, BOX, STARTS}
use Rattle.gds_records.specs.Records.{Item, spelled, flat, data_of, unit, Framed}
use Rattle.gds_grammar.specs.Grammar.{In}
use Rattle.gds_grammar.specs.Format.{stream}

-- whether the number is in the list
abbrev pub is_in : List ℕ → ℕ → Bool
is_in codes code = list_any (λ c. c == code) codes

-- the types that begin an element
abbrev pub starts : List ℕ
starts = STARTS

-- the type of the last element that began, behind a record
abbrev pub kind_after : Option ℕ → Item → Option ℕ
kind_after kind i = if is_in starts i.code then Some i.code else kind

-- a byte before others, left out where it is a zero and none follow
abbrev pub without_zero : ℕ → List ℕ → List ℕ
without_zero zero [] = []
without_zero (suc b) [] = suc b ∷ []
without_zero b (c ∷ bytes) = b ∷ c ∷ bytes

-- the bytes without the zeros at their end
abbrev pub trim : List ℕ → List ℕ
trim [] = []
trim (b ∷ bytes) = without_zero b (trim bytes)

-- the data type of a type, that of no data where there is none
abbrev pub form_of : ℕ → ℕ
form_of code = unwrap_or (data_of code) NO_DATA

-- whether the data are numbers, but for XY, whose points are counted by its element
abbrev pub is_number : ℕ → Bool
is_number code = is_in (BITS ∷ TWO_BYTES ∷ FOUR_BYTES ∷ REAL ∷ []) (form_of code) && not (code == XY)

-- how many numbers a record of the type has
abbrev pub number_count : ℕ → ℕ
number_count code =
    if is_in (BGNLIB ∷ BGNSTR ∷ []) code then 12 else
    if is_in (UNITS ∷ COLROW ∷ []) code then 2 else 1

-- the fewest points, and the most where there is a most, for each type of element
abbrev pub point_counts : List (ℕ × ℕ × Option ℕ)
point_counts =
    (BOUNDARY, 4, None) ∷
    (PATH, 2, None) ∷
    (SREF, 1, Some 1) ∷
    (AREF, 3, Some 3) ∷
    (TEXT, 1, Some 1) ∷
    (NODE, 1, None) ∷
    (BOX, 5, Some 5) ∷
    []

-- there are as many points as the table says
abbrev pub EnoughPoints : List (ℕ × ℕ × Option ℕ) → ℕ → ℕ → Type 0
EnoughPoints [] code n = Unit {0}
EnoughPoints (row ∷ rows) code n = MatchBool (row.0 == code) ((row.1 ≤ n) × IfSome row.2 (λ most. n ≤ most)) (EnoughPoints rows code n)

-- a record's points are whole, as many as its element wants, and a polygon's last point is its first
pub record AreCountedPoints (kind : Option ℕ) (body : List ℕ) : Type 0 where
  pub whole : length body % 8 ≡ 0
  pub enough : IfSome kind (λ code. EnoughPoints point_counts code (length body / 8))
  pub closed : IfSome kind (λ code. OnTrue (code == BOUNDARY) (take 8 body ≡ drop (length body - 8) body))

-- a record has as many numbers or points as its type and its element want, and names aren't empty
pub record Counted (kind : Option ℕ) (i : Item) : Type 0 where
  pub numbers : OnTrue (is_number i.code) (length i.body ≡ number_count i.code * unit (form_of i.code))
  pub points : OnTrue (i.code == XY) (AreCountedPoints kind i.body)
  pub names : OnTrue (is_in (STRNAME ∷ SNAME ∷ []) i.code) (0 < length (trim i.body))

-- a text that is looked at is printable, but for the zeros at its end
abbrev pub Readable : Item → Type 0
Readable i = OnTrue (is_in (LIBNAME ∷ STRNAME ∷ SNAME ∷ STRING ∷ []) i.code) (IsText (trim i.body))

-- each record is framed, counted by the element that it stands in, and readable
abbrev pub InContext : Option ℕ → List Item → Type 0
InContext kind [] = Unit {0}
InContext kind (i ∷ items) = Framed i × Counted kind i × Readable i × InContext (kind_after kind i) items

-- each record stands where the ones before it end, the first one at a place
abbrev pub Placed : ℕ → List Item → Type 0
Placed place [] = Unit {0}
Placed place (i ∷ items) = (i.at ≡ place) × Placed (place + length (spelled i)) items

-- the name of a record that names a structure
abbrev pub name_in : Item → Option (List ℕ)
name_in i = if i.code == STRNAME then Some (trim i.body) else None

-- the names of structures, in order
abbrev pub names_in : List Item → List (List ℕ)
names_in items = filter_map name_in items

-- the records are a whole stream's: where they stand, in their order, each in its context, and no two structures of one name
pub record AreStream (items : List Item) : Type 0 where
  pub placed : Placed 0 items
  pub grammar : In stream (map (λ i. i.code) items)
  pub each : InContext None items
  pub differ : AllPairs (λ a b. a ≢ b) (names_in items)

-- the bytes hold a stream: they are its records, with zeros behind them
pub record HoldStream (bytes : List ℕ) : Type 0 where
  pub items : List Item
  pub zeros : ℕ
  pub stream : AreStream items
  pub spells : bytes ≡ flat items ++ replicate zeros 0
