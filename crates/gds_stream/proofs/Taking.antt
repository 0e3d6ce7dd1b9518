-- A record is taken where it passes the tests, in their order.
use Rattle.std.proofs.Common.{◌≡◌, ℕ, true, false, List, [], ◌∷◌, ◌++◌, Ok, Err, refl, ap, ◌∙◌}
use Rattle.gds_records.specs.declared.reading.Part.{Part}
use Rattle.gds_records.specs.Framing.{item_at}
use Rattle.gds_records.specs.Records.{Item}
use Rattle.gds_grammar.specs.declared.cause.Cause.TheVariants.{WrongData, Unexpected, BadText, DuplicateName}
use Rattle.gds_grammar.specs.Conditions.{is_in, names_in}
use Rattle.gds_grammar.specs.Tests.{counted, readable, is_repeated}
use Rattle.gds_grammar.specs.Reading.{Cursor, Fault, fault, behind, peek, accepted, take_one}
use Rattle.gds_stream.specs.declared.error.StreamError.{StreamError}
use Rattle.gds_stream.specs.declared.error.StreamError.TheVariants.{At, OutOfMemory}
use Rattle.gds_stream.specs.Gives.{IsFault, IsAccepted}

-- no record is there
pub take-no_record : (codes : List ℕ) (c : Cursor) (f : Fault) → peek c ≡ Err f → take_one codes c ≡ Err f
unfolding take_one
take-no_record codes c f is = ap (accepted codes c) is

-- another type
pub take-unexpected : (codes : List ℕ) (c : Cursor) (i : Item) → peek c ≡ Ok i → is_in codes i.code ≡ false → take_one codes c ≡ Err (fault c (Unexpected i.code))
unfolding take_one
take-unexpected codes c i is other = rw (is, other) refl

-- a wrong count
pub take-miscounted : (codes : List ℕ) (c : Cursor) (i : Item) → peek c ≡ Ok i → is_in codes i.code ≡ true → counted c.kind i ≡ false → take_one codes c ≡ Err (fault c WrongData)
unfolding take_one
take-miscounted codes c i is one miscounted = rw (is, one, miscounted) refl

-- bytes that aren't printable
pub take-unreadable : (codes : List ℕ) (c : Cursor) (i : Item) → peek c ≡ Ok i → is_in codes i.code ≡ true → counted c.kind i ≡ true → readable i ≡ false → take_one codes c ≡ Err (fault c BadText)
unfolding take_one
take-unreadable codes c i is one counts unreadable = rw (is, one, counts, unreadable) refl

-- a name that was there
pub take-repeated : (codes : List ℕ) (c : Cursor) (i : Item) → IsAccepted codes c i → is_repeated c.names i ≡ true → take_one codes c ≡ Err (fault c DuplicateName)
unfolding take_one
take-repeated codes c i is repeated = rw (is.next, is.of_type, is.counts, is.reads, repeated) refl

-- no fault
pub take-passes : (codes : List ℕ) (c : Cursor) (i : Item) → IsAccepted codes c i → is_repeated c.names i ≡ false → take_one codes c ≡ Ok (i, behind c i)
unfolding take_one
take-passes codes c i is new = rw (is.next, is.of_type, is.counts, is.reads, new) refl

-- what stands in the record's place
pub fault_taken : (codes : List ℕ) (c : Cursor) (e : StreamError) → IsFault (peek c) e → IsFault (take_one codes c) e
fault_taken codes c (At place cause) is = take-no_record codes c (record { place = place; cause = cause }) is
fault_taken codes c OutOfMemory is = tt

-- behind the record, once its name is among the names
pub lands : (c d e : Cursor) (p : Part) → d ≡ record c { names = c.names ++ names_in (item_at c.at p ∷ []) } → e ≡ record (behind d (item_at d.at p)) { names = d.names } → e ≡ behind c (item_at c.at p)
lands c d e p is_d is_e = is_e ∙ ap (λ (x : Cursor). let y : Cursor = record (behind x (item_at x.at p)) { names = x.names } in y) is_d
