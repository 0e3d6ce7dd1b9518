-- What the parts of the reader answer, by the rules of the grammar that they read.
use Rattle.std.specs.Prelude.{◌≡◌, ℕ, ◌+◌, ◌-◌, ◌*◌, ◌<◌, ◌≤◌, take, drop, replicate, ◌==◌, Bool, true, length, List, [], ◌∷◌, ◌++◌, map, Option, Some, None, Result, Ok, Err}
use Rattle.gds_records.specs.declared.reading.Part.{Part}
use Rattle.gds_records.specs.Records.{Item, unit}
use Rattle.gds_records.specs.Framing.{item_at}
use Rattle.gds_grammar.specs.declared.cause.Cause.{Cause}
use Rattle.gds_grammar.specs.declared.cause.Cause.TheVariants.{Unexpected}
use Rattle.gds_stream.specs.declared.reader.Ahead.{Ahead}
use Rattle.gds_grammar.specs.Grammar.{Grammar, ◌∣◌}
use Rattle.gds_grammar.specs.Format.{boundary, path, sref, aref, label, node, box}
use Rattle.gds_grammar.specs.Conditions.{is_in, starts, is_number, number_count, form_of, trim, AreCountedPoints}
use Rattle.rt_base.specs.Text.{IsText}
use Rattle.std.specs.Bool.{OnTrue}
use Rattle.gds_records.specs.declared.types.TheConstants.{BGNSTR, ENDSTR, LIBNAME, STRNAME, SNAME, STRING, XY}
use Rattle.gds_grammar.specs.Tests.{counted, readable}
use Rattle.gds_grammar.specs.Reading.{Cursor, Fault, peek, take_one, read}
use Rattle.gds_stream.specs.declared.error.StreamError.{StreamError}
use Rattle.gds_stream.specs.declared.library.Element.{Element}
use Rattle.gds_stream.specs.declared.library.Structure.{Structure}
use Rattle.std.specs.List.{cons_option}
use Rattle.gds_stream.specs.Contents.{element_of, elements_in, structure_of, pieces}
use Rattle.gds_stream.specs.declared.error.StreamError.TheVariants.{At, OutOfMemory}

-- the data of a record that begins at one place and ends at another
abbrev pub body_between : List ℕ → ℕ → ℕ → List ℕ
body_between bytes at next = take (next - (at + 4)) (drop (at + 4) bytes)

-- reading at a place of some bytes, before any element and any name
abbrev pub standing : List ℕ → ℕ → Cursor
standing bytes at = record { at = at; rest = drop at bytes; kind = None; names = [] }

-- the record at a place, which ends within the bytes
pub record IsAhead (bytes : List ℕ) (at : ℕ) (a : Ahead) : Type 0 where
  pub begins : at + 4 ≤ a.next
  pub ends : a.next ≤ length bytes
  pub comes : peek (standing bytes at) ≡ Ok (record { at = at; code = a.code; form = a.form; body = body_between bytes at a.next })

-- the record at a place, or why none comes
abbrev pub Finds : List ℕ → ℕ → Result Ahead Cause → Type 0
Finds bytes at (Ok a) = IsAhead bytes at a
Finds bytes at (Err cause) = peek (standing bytes at) ≡ Err (record { place = at; cause = cause })

-- the refusal is the fault, or memory ran out
abbrev pub IsFault : {A : Type 0} → Result A Fault → StreamError → Type 0
IsFault answer (At place cause) = answer ≡ Err (record { place = place; cause = cause })
IsFault answer OutOfMemory = Unit {0}

-- the record that comes next, or the fault in its place
abbrev pub Peeks : Cursor → Result Part StreamError → Type 0
Peeks c (Ok p) = peek c ≡ Ok (item_at c.at p)
Peeks c (Err e) = IsFault (peek c) e

-- whether the record that comes next has one of these types, or the fault in its place
abbrev pub Sees : List ℕ → Cursor → Result Bool StreamError → Type 0
Sees codes c (Ok seen) = (i : Item) × (peek c ≡ Ok i) × (seen ≡ is_in codes i.code)
Sees codes c (Err e) = IsFault (peek c) e

-- the record ends before the bytes that are left do, and the next one begins behind it
pub record IsWithin (p : Part) (c : Cursor) : Type 0 where
  pub next : p.next ≡ c.at + (4 + length p.body.now)
  pub room : 4 + length p.body.now ≤ length c.rest

-- the record comes next, has one of these types, and is as it should be where it stands, but for its name
pub record IsAccepted (codes : List ℕ) (c : Cursor) (i : Item) : Type 0 where
  pub next : peek c ≡ Ok i
  pub of_type : is_in codes i.code ≡ true
  pub counts : counted c.kind i ≡ true
  pub reads : readable i ≡ true

-- such a record, or the fault in its place
abbrev pub Accepts : List ℕ → Cursor → Result Part StreamError → Type 0
Accepts codes c (Ok p) = IsAccepted codes c (item_at c.at p)
Accepts codes c (Err e) = IsFault (take_one codes c) e

-- a record of one of these types, read from the one place to the other
abbrev pub Takes : List ℕ → Cursor → Cursor → Result Part StreamError → Type 0
Takes codes old new (Ok p) = take_one codes old ≡ Ok (item_at old.at p, new)
Takes codes old new (Err e) = IsFault (take_one codes old) e

-- reading by a rule gives records of which this holds, from the one place to the other, or the fault
abbrev pub Gives : {A : Type 0} → Grammar → (List Item → A → Type 0) → Cursor → Cursor → Result A StreamError → Type 0
Gives rule Holds old new (Ok x) = (items : List Item) × (read rule old ≡ Ok (items, new)) × Holds items x
Gives rule Holds old new (Err e) = IsFault (read rule old) e

-- the records are one alone, of this type and with these data
abbrev pub IsOne : ℕ → ℕ → List ℕ → List Item → Type 0
IsOne at code body items = (form : ℕ) × (items ≡ record { at = at; code = code; form = form; body = body } ∷ [])

-- the records are one alone, of this type and with these data, or none where there are no data
abbrev pub IsOneOrNone : ℕ → ℕ → Option (List ℕ) → List Item → Type 0
IsOneOrNone at code None items = items ≡ []
IsOneOrNone at code (Some body) items = IsOne at code body items

-- data as a record of the type has them where this element began last
pub record Has (kind : Option ℕ) (code : ℕ) (body : List ℕ) : Type 0 where
  pub numbers : OnTrue (is_number code) (length body ≡ number_count code * unit (form_of code))
  pub points : OnTrue (code == XY) (AreCountedPoints kind body)
  pub text : OnTrue (is_in (LIBNAME ∷ STRNAME ∷ SNAME ∷ STRING ∷ []) code) (IsText (trim body))

-- the records begin with one that begins an element, and give this one, if any
pub record IsShape (items : List Item) (element : Option Element) : Type 0 where
  pub first : Item
  pub more : List Item
  pub begins : items ≡ first ∷ more
  pub starts : is_in starts first.code ≡ true
  pub gives : element_of items ≡ element

-- an element without its properties and its end
abbrev pub shape : Grammar
shape = boundary ∣ path ∣ sref ∣ aref ∣ label ∣ node ∣ box

-- before any others the records give this element more, if any
pub record AddsElement (items : List Item) (element : Option Element) : Type 0 where
  pub adds : (more : List Item) → elements_in (items ++ more) ≡ cons_option element (elements_in more)

-- before any others the records give these elements more
pub record AddElements (items : List Item) (elements : List Element) : Type 0 where
  pub add : (more : List Item) → elements_in (items ++ more) ≡ elements ++ elements_in more

-- the structures that records give, in order
abbrev pub structures_in : List Item → List Structure
structures_in items = map structure_of (pieces (BGNSTR ∷ []) ENDSTR items)

-- before any others the records give this structure more
pub record AddsStructure (items : List Item) (structure : Structure) : Type 0 where
  pub adds : (more : List Item) → structures_in (items ++ more) ≡ structure ∷ structures_in more

-- before any others the records give these structures more
pub record AddStructures (items : List Item) (structures : List Structure) : Type 0 where
  pub add : (more : List Item) → structures_in (items ++ more) ≡ structures ++ structures_in more

-- nothing but zeros
abbrev pub AreZeros : List ℕ → Type 0
AreZeros bytes = (n : ℕ) × (bytes ≡ replicate n 0)

-- behind some zeros this byte stands, which is none
pub record IsBehindZeros (bytes : List ℕ) (zeros byte : ℕ) : Type 0 where
  pub more : List ℕ
  pub stands : bytes ≡ replicate zeros 0 ++ byte ∷ more
  pub some : 0 < byte

-- the refusal is the first byte that isn't 0, or memory ran out
abbrev pub IsOther : Cursor → StreamError → Type 0
IsOther c (At place cause) = (zeros : ℕ) × (byte : ℕ) × IsBehindZeros c.rest zeros byte × (place ≡ c.at + zeros) × (cause ≡ Unexpected byte)
IsOther c OutOfMemory = Unit {0}
