-- Reading records by a grammar, with one record of look-ahead.
use Rattle.std.specs.Prelude.{ℕ, zero, suc, ◌+◌, not, if◌then◌else◌, List, [], ◌∷◌, ◌++◌, length, drop, Option, None, Result, Ok, Err}
use Rattle.gds_records.specs.declared.reading.RecordError.{RecordError}
use Rattle.gds_records.specs.declared.reading.RecordError.TheVariants as framed
use Rattle.gds_records.specs.Records.{Item, spelled}
use Rattle.gds_records.specs.Framing.{framing}
use Rattle.gds_grammar.specs.declared.cause.Cause.{Cause}
use Rattle.gds_grammar.specs.declared.cause.Cause.TheVariants.{Short, OddLength, LengthBelow4, UnknownType, WrongData, Unexpected, BadText, NotClosed, DuplicateName}
use Rattle.gds_grammar.specs.Grammar.{Grammar, nothing, one_of, ◌‣◌, ◌∣◌, many}
use Rattle.gds_grammar.specs.Words.{firsts}
use Rattle.gds_grammar.specs.Conditions.{is_in, kind_after, names_in}
use Rattle.gds_grammar.specs.Tests.{counted, readable, is_repeated}

-- where reading stands: the place, the bytes from there on, the element that began last, and the names of the structures before
pub record Cursor : Type 0 where
  pub at : ℕ
  pub rest : List ℕ
  pub kind : Option ℕ
  pub names : List (List ℕ)

-- where reading stops, and why
pub record Fault : Type 0 where
  pub place : ℕ
  pub cause : Cause

-- the cause of a fault of framing
abbrev pub cause_of : RecordError → Cause
cause_of framed.Short = Short
cause_of framed.OddLength = OddLength
cause_of framed.LengthBelow4 = LengthBelow4
cause_of framed.UnknownType = UnknownType
cause_of framed.WrongData = WrongData

-- the start of the bytes
abbrev pub start : List ℕ → Cursor
start bytes = record { at = 0; rest = bytes; kind = None; names = [] }

-- behind a record
abbrev pub behind : Cursor → Item → Cursor
behind c i = record {
  at = c.at + length (spelled i);
  rest = drop (length (spelled i)) c.rest;
  kind = kind_after c.kind i;
  names = c.names ++ names_in (i ∷ []);
}

-- the fault of this cause where reading stands
abbrev pub fault : Cursor → Cause → Fault
fault c cause = record { place = c.at; cause = cause }

-- the record, or its fault of framing
abbrev pub or_fault : Cursor → Result Item RecordError → Result Item Fault
or_fault c (Ok i) = Ok i
or_fault c (Err e) = Err (fault c (cause_of e))

-- the record that comes next, or the fault that stands in its place
abbrev pub peeked : Cursor → List ℕ → Result Item Fault
peeked c [] = Err (fault c NotClosed)
peeked c (b ∷ bytes) = or_fault c (framing c.at (b ∷ bytes))

unfoldable pub peek : Cursor → Result Item Fault
peek c = peeked c c.rest

-- the record, unless its type isn't one of these or it isn't as it should be here
abbrev pub accepted : List ℕ → Cursor → Result Item Fault → Result (Item × Cursor) Fault
accepted codes c (Err f) = Err f
accepted codes c (Ok i) =
    if not (is_in codes i.code) then Err (fault c (Unexpected i.code)) else
    if not (counted c.kind i) then Err (fault c WrongData) else
    if not (readable i) then Err (fault c BadText) else
    if is_repeated c.names i then Err (fault c DuplicateName) else
    Ok (i, behind c i)

-- a record of one of these types is read
unfoldable pub take_one : List ℕ → Cursor → Result (Item × Cursor) Fault
take_one codes c = accepted codes c (peek c)

-- records that are read, and where reading stands behind them
abbrev pub Taken : Type 0
Taken = Result (List Item × Cursor) Fault

-- one record as a list
abbrev pub alone : Result (Item × Cursor) Fault → Taken
alone (Err f) = Err f
alone (Ok r) = Ok (r.0 ∷ [], r.1)

-- records before those that are read
abbrev pub after : List Item → Taken → Taken
after items (Err f) = Err f
after items (Ok r) = Ok (items ++ r.0, r.1)

-- reading goes on where records are read
abbrev pub then_read : Taken → (Cursor → Taken) → Taken
then_read (Err f) next = Err f
then_read (Ok r) next = after r.0 (next r.1)

-- the first of two ways where the next record has one of the types, else the second
abbrev pub choose : List ℕ → Result Item Fault → Taken → Taken → Taken
choose codes (Err f) a b = Err f
choose codes (Ok i) a b = if is_in codes i.code then a else b

-- again and again, as long as the next record has one of the types; at most so many times
abbrev pub rounds : ℕ → List ℕ → (Cursor → Taken) → Cursor → Taken
rounds zero codes once c = choose codes (peek c) (Err (fault c NotClosed)) (Ok ([], c))
rounds (suc n) codes once c = choose codes (peek c) (then_read (once c) (rounds n codes once)) (Ok ([], c))

-- records are read as the grammar says
abbrev pub read : Grammar → Cursor → Taken
read nothing c = Ok ([], c)
read (one_of code codes) c = alone (take_one (code ∷ codes) c)
read (a ‣ b) c = then_read (read a c) (read b)
read (a ∣ b) c = choose (firsts a) (peek c) (read a c) (read b c)
read (many a) c = rounds (length c.rest) (firsts a) (read a) c
