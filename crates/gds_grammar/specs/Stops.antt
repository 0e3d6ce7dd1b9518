-- Where bytes stop being a stream, and why. (This project's own.)
use Rattle.std.specs.Prelude.{◌≡◌, ℕ, ◌+◌, ◌<◌, ◌⊎◌, List, [], ◌∷◌, ◌++◌, length, replicate, Contains, Option, None}
use Rattle.std.specs.List.{fold}
use Rattle.gds_records.specs.declared.reading.RecordError.TheVariants as framed
use Rattle.gds_records.specs.declared.types.TheConstants.{STRNAME}
use Rattle.gds_records.specs.Records.{Item, spelled, flat, Framed}
use Rattle.gds_records.specs.Framing.{FramingFault}
use Rattle.gds_grammar.specs.declared.cause.Cause.{Cause}
use Rattle.gds_grammar.specs.declared.cause.Cause.TheVariants.{Short, OddLength, LengthBelow4, UnknownType, WrongData, Unexpected, BadText, NotClosed, DuplicateName}
use Rattle.gds_grammar.specs.Conditions.{trim, kind_after, names_in, Counted, Readable, AreStream}

-- some stream begins with the records and has more
pub record GoesOn (items : List Item) : Type 0 where
  pub next : Item
  pub more : List Item
  pub stream : AreStream (items ++ next ∷ more)

-- some stream begins with the records and goes on with one of the type
pub record Admits (items : List Item) (code : ℕ) : Type 0 where
  pub next : Item
  pub more : List Item
  pub stream : AreStream (items ++ next ∷ more)
  pub of_type : next.code ≡ code

-- the type of the last element that began in the records
abbrev pub kind_of : List Item → Option ℕ
kind_of items = fold kind_after None items

-- a stream begins with the records, and the place is where they end
pub record EndsAt (items : List Item) (place : ℕ) : Type 0 where
  pub goes_on : GoesOn items
  pub here : place ≡ length (flat items)

-- the bytes begin with the record
pub record Begins (i : Item) (rest : List ℕ) : Type 0 where
  pub more : List ℕ
  pub spells : rest ≡ spelled i ++ more
  pub framed : Framed i

-- the bytes begin with a record of a type that no stream goes on with
pub record IsUnexpected (items : List Item) (rest : List ℕ) (code : ℕ) : Type 0 where
  pub item : Item
  pub begins : Begins item rest
  pub of_type : item.code ≡ code
  pub never : ¬ Admits items code

-- the bytes begin with a record of a type that a stream goes on with, and it has another count than it should have there
pub record IsMiscounted (items : List Item) (rest : List ℕ) : Type 0 where
  pub item : Item
  pub begins : Begins item rest
  pub admitted : Admits items item.code
  pub miscounted : ¬ Counted (kind_of items) item

-- the bytes begin with a record of a type that a stream goes on with, as long as it should be, whose text isn't printable
pub record IsUnreadable (items : List Item) (rest : List ℕ) : Type 0 where
  pub item : Item
  pub begins : Begins item rest
  pub admitted : Admits items item.code
  pub counted : Counted (kind_of items) item
  pub unreadable : ¬ Readable item

-- the bytes begin with a printable name for a structure, where a stream goes on with one, that a structure before has
pub record IsRepeated (items : List Item) (rest : List ℕ) : Type 0 where
  pub item : Item
  pub begins : Begins item rest
  pub admitted : Admits items item.code
  pub counted : Counted (kind_of items) item
  pub readable : Readable item
  pub names : item.code ≡ STRNAME
  pub before : Contains (names_in items) (trim item.body)

-- the records are a whole stream, and behind some zeros a byte stands that is none
pub record HasByteBehind (items : List Item) (rest : List ℕ) (place byte : ℕ) : Type 0 where
  pub stream : AreStream items
  pub zeros : ℕ
  pub more : List ℕ
  pub stands : rest ≡ replicate zeros 0 ++ byte ∷ more
  pub no_zero : 0 < byte
  pub here : place ≡ length (flat items) + zeros

-- bytes are there that are no record
pub record IsUnframed (why : Rattle.gds_records.specs.declared.reading.RecordError.RecordError) (rest : List ℕ) : Type 0 where
  pub some : 0 < length rest
  pub fault : FramingFault why rest

-- why the records aren't followed by one more of a stream
abbrev pub Why : Cause → List Item → List ℕ → ℕ → Type 0
Why NotClosed items rest place = EndsAt items place × (rest ≡ [])
Why Short items rest place = EndsAt items place × IsUnframed framed.Short rest
Why LengthBelow4 items rest place = EndsAt items place × IsUnframed framed.LengthBelow4 rest
Why OddLength items rest place = EndsAt items place × IsUnframed framed.OddLength rest
Why UnknownType items rest place = EndsAt items place × IsUnframed framed.UnknownType rest
Why (Unexpected code) items rest place = (EndsAt items place × IsUnexpected items rest code) ⊎ HasByteBehind items rest place code
Why WrongData items rest place = EndsAt items place × (IsUnframed framed.WrongData rest ⊎ IsMiscounted items rest)
Why BadText items rest place = EndsAt items place × IsUnreadable items rest
Why DuplicateName items rest place = EndsAt items place × IsRepeated items rest

-- the bytes begin with whole records that begin a stream, and at the place behind them they don't go on as one, for this cause
pub record Stops (bytes : List ℕ) (place : ℕ) (cause : Cause) : Type 0 where
  pub items : List Item
  pub rest : List ℕ
  pub front : bytes ≡ flat items ++ rest
  pub why : Why cause items rest place

-- the bytes stop being a stream at some place, for some cause
pub record StopSomewhere (bytes : List ℕ) : Type 0 where
  pub place : ℕ
  pub cause : Cause
  pub stops : Stops bytes place cause
