-- The record that bytes begin with, or why they begin with none. (GDSII Release 6.)
use Rattle.std.specs.Prelude.{◌≡◌, ◌≢◌, ℕ, ◌+◌, ◌-◌, ◌%◌, ◌<◌, ◌≤◌, Bool, true, false, not, ◌&&◌, ◌⊎◌, ◌==◌, nat_lt, if◌then◌else◌, List, [], ◌∷◌, ◌++◌, length, take, drop, MatchResult, Option, Some, None, Result, Ok, Err}
use Rattle.std.specs.Int.{w16, from_be_bytes}
use Rattle.gds_records.specs.declared.reading.Part.{Part}
use Rattle.gds_records.specs.declared.reading.RecordError.{RecordError}
use Rattle.gds_records.specs.declared.reading.RecordError.TheVariants.{Short, OddLength, LengthBelow4, UnknownType, WrongData}
use Rattle.gds_records.specs.declared.types.TheConstants.{NO_DATA}
use Rattle.gds_records.specs.Records.{Item, spelled, spelled_as, data_of, known, unit, WholeItems, Framed}

-- whether the data are whole items of the data type, and none where it has none
abbrev pub whole_items : ℕ → List ℕ → Bool
whole_items form body = if form == NO_DATA then length body == 0 else (length body % unit form == 0)

-- whether a record has the data type that is expected, if one is, and whole items of it
abbrev pub fits : Option ℕ → ℕ → List ℕ → Bool
fits None form body = true
fits (Some expected) form body = (form == expected) && whole_items expected body

-- whether the data are such as the type has
unfoldable pub has_its_data : ℕ → ℕ → List ℕ → Bool
has_its_data code form body = fits (data_of code) form body

-- the record at a place, of so many bytes in all, a type, a data type and what stands behind these
unfoldable pub framed_as : ℕ → ℕ → ℕ → ℕ → List ℕ → Result Item RecordError
framed_as at size code form more =
    if nat_lt size 4 then Err LengthBelow4 else
    if size % 2 == 1 then Err OddLength else
    if nat_lt (4 + length more) size then Err Short else
    if not (known code) then Err UnknownType else
    if not (has_its_data code form (take (size - 4) more)) then Err WrongData else
    Ok (record { at = at; code = code; form = form; body = take (size - 4) more })

-- the record at a place that the bytes begin with
unfoldable pub framing : ℕ → List ℕ → Result Item RecordError
framing at (high ∷ low ∷ code ∷ form ∷ more) = framed_as at (from_be_bytes w16 (high ∷ low ∷ [])) code form more
framing at _ = Err Short

-- the length that the first two bytes say
abbrev pub said_length : List ℕ → ℕ
said_length bytes = from_be_bytes w16 (take 2 bytes)

-- the bytes begin with a length, a type, a data type and data, of even length and no longer than a length can say
pub record BeginsAs (code form : ℕ) (body bytes : List ℕ) : Type 0 where
  pub behind : List ℕ
  pub spells : bytes ≡ spelled_as code form body ++ behind
  pub even : length body % 2 ≡ 0
  pub short : length body ≤ 65530

-- an allowed length is said, and fewer bytes are left
pub record IsCutOff (bytes : List ℕ) : Type 0 where
  pub begins : 4 ≤ length bytes
  pub above : 4 ≤ said_length bytes
  pub even : said_length bytes % 2 ≡ 0
  pub beyond : length bytes < said_length bytes

-- the length that is said doesn't count the four bytes that say it
pub record IsBelow4 (bytes : List ℕ) : Type 0 where
  pub begins : 4 ≤ length bytes
  pub below : said_length bytes < 4

-- the length that is said is odd
pub record IsOdd (bytes : List ℕ) : Type 0 where
  pub begins : 4 ≤ length bytes
  pub above : 4 ≤ said_length bytes
  pub odd : said_length bytes % 2 ≡ 1

-- the bytes begin as a record does, of a type that there isn't
pub record IsUnknown (bytes : List ℕ) : Type 0 where
  pub code : ℕ
  pub form : ℕ
  pub body : List ℕ
  pub begins : BeginsAs code form body bytes
  pub unknown : known code ≡ false

-- the bytes begin as a record does, of a type whose data are looked at, with another data type or parts of items
pub record IsWrong (bytes : List ℕ) : Type 0 where
  pub code : ℕ
  pub form : ℕ
  pub body : List ℕ
  pub begins : BeginsAs code form body bytes
  pub expected : ℕ
  pub expects : data_of code ≡ Some expected
  pub wrong : (form ≢ expected) ⊎ ¬ WholeItems expected body

-- why the bytes begin with no record
abbrev pub FramingFault : RecordError → List ℕ → Type 0
FramingFault Short bytes = (length bytes < 4) ⊎ IsCutOff bytes
FramingFault OddLength bytes = IsOdd bytes
FramingFault LengthBelow4 bytes = IsBelow4 bytes
FramingFault UnknownType bytes = IsUnknown bytes
FramingFault WrongData bytes = IsWrong bytes

-- the record that was read at a place
abbrev pub item_at : ℕ → Part → Item
item_at at p = record { at = at; code = p.code; form = p.form; body = p.body.now }

-- the bytes begin with the record, which is one and stands at the place
pub record BeginsWith (at : ℕ) (i : Item) (bytes : List ℕ) : Type 0 where
  pub framed : Framed i
  pub place : i.at ≡ at
  pub spells : bytes ≡ spelled i ++ drop (length (spelled i)) bytes

-- what bytes at a place begin with: a record, or a fault
abbrev pub Begin : ℕ → List ℕ → Result Item RecordError → Type 0
Begin at bytes outcome = MatchResult outcome (λ i. BeginsWith at i bytes) (λ e. FramingFault e bytes)

-- bytes at a place begin with exactly one record or fault
pub record BeginWithOne (at : ℕ) (bytes : List ℕ) : Type 0 where
  pub outcome : Result Item RecordError
  pub begin : Begin at bytes outcome
  pub only : (other : Result Item RecordError) → Begin at bytes other → other ≡ outcome
