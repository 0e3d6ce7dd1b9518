-- What reading tells of the bytes.
use Rattle.std.proofs.Common.{◌≡◌, ℕ, ◌+◌, ◌^◌, ◌<◌, List, ◌++◌, length, Result, Ok, Err, IfErr, sym, ap, ◌∙◌, subst}
use Rattle.gds_records.specs.Records.{Item, flat}
use Rattle.gds_grammar.specs.declared.cause.Cause.{Cause}
use Rattle.gds_grammar.specs.Format.{stream}
use Rattle.gds_grammar.specs.Reading.{Cursor, start, read}
use Rattle.gds_grammar.specs.Stops.{Stops}
use Rattle.gds_grammar.proofs.Predicting.{AreBytes}
use Rattle.gds_grammar.proofs.Streaming.{read_gives, read_stops, byte_behind}
use Rattle.gds_grammar.proofs.Unique.{one_stream, no_stream_stops}
use Rattle.gds_stream.specs.declared.library.Library.{Library}
use Rattle.gds_stream.specs.declared.error.StreamError.{StreamError}
use Rattle.gds_stream.specs.declared.error.StreamError.TheVariants.{At, OutOfMemory}
use Rattle.gds_stream.specs.Contents.{library_of, Stream}
use Rattle.gds_stream.specs.Gives.{IsFault, AreZeros, IsOther}
use Rattle.gds_stream.specs.Refusals.{IsRefused}

-- a stream's records and zeros behind them
pub is_stream_read : (bytes : List ℕ) (c d : Cursor) (library : Library) (items : List Item) → AreBytes bytes → c ≡ start bytes → read stream c ≡ Ok (items, d) → library ≡ library_of items → AreZeros d.rest → Stream bytes library
is_stream_read bytes c d library items are from is holds zeros =
    let g = read_gives bytes items d are (ap (read stream) (sym from) ∙ is) in
    record {
      items = items;
      zeros = zeros.0;
      spells = g.follows.spells ∙ ap (λ (l : List ℕ). flat items ++ l) zeros.1;
      text = g.stream;
      holds = holds;
    }

-- the reader's fault
pub is_refused_read : (bytes : List ℕ) (c : Cursor) (e : StreamError) → AreBytes bytes → length bytes < 2 ^ 63 → c ≡ start bytes → IsFault (read stream c) e → IsRefused bytes e
is_refused_read bytes c (At place cause) are short from is = read_stops bytes (record { place = place; cause = cause }) are short (ap (read stream) (sym from) ∙ is)
is_refused_read bytes c OutOfMemory are short from is = tt

-- the byte behind
pub is_refused_behind : (bytes : List ℕ) (c d : Cursor) (items : List Item) (e : StreamError) → AreBytes bytes → c ≡ start bytes → read stream c ≡ Ok (items, d) → IsOther d e → IsRefused bytes e
is_refused_behind bytes c d items (At place cause) are from is other =
    let g = read_gives bytes items d are (ap (read stream) (sym from) ∙ is) in
    let Refused : ℕ → Cause → Type 0 = λ p q. Stops bytes p q in
    subst (λ (p : ℕ). Refused p cause) (sym other.3) (subst (Refused (d.at + other.0)) (sym other.4) (byte_behind bytes items d other.0 other.1 other.2.more g other.2.stands other.2.some))
is_refused_behind bytes c d items OutOfMemory are from is other = tt

-- a refused call
pub refuses : {A : Type 0} (bytes : List ℕ) (r : Result A StreamError) (e f : StreamError) → r ≡ Err e → e ≡ f → IsRefused bytes f → IfErr r (λ x. IsRefused bytes x)
refuses bytes r e f is same refused = let because : IsRefused bytes e = subst (IsRefused bytes) (sym same) refused in rw is because

-- ---- laws

pub one_library : (bytes : List ℕ) (a b : Library) → Stream bytes a → Stream bytes b → a ≡ b
one_library bytes a b one other =
    one.holds ∙ ap library_of (one_stream bytes one.items other.items one.zeros other.zeros one.text other.text one.spells other.spells).0 ∙ sym other.holds

pub nowhere : (bytes : List ℕ) (library : Library) (place : ℕ) (cause : Cause) → Stream bytes library → Stops bytes place cause → ⊥
nowhere bytes library place cause holds stops = no_stream_stops bytes holds.items holds.zeros place cause holds.text holds.spells stops
