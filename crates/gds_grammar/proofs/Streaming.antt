-- Reading a stream: what is read is one, and where reading stops the bytes stop being one.
use Rattle.std.proofs.Common.{◌≡◌, ◌≢◌, ℕ, ◌+◌, ◌^◌, ◌<◌, ◌≤◌, List, ◌∷◌, ◌++◌, length, drop, Contains, Option, Ok, Err, refl, sym, ap, ◌∙◌, subst, inl, inr, length-append, le_trans, replicate, arith}
use Rattle.std.specs.Prelude.{AllPairs}
use Rattle.std.proofs.lemmas.List.{map-append}
use Rattle.gds_records.specs.Records.{Item, spelled, flat}
use Rattle.gds_records.specs.Framing.{BeginsWith}
use Rattle.gds_grammar.specs.declared.cause.Cause.{Cause}
use Rattle.gds_grammar.specs.declared.cause.Cause.TheVariants.{Short, OddLength, LengthBelow4, UnknownType, WrongData, Unexpected, BadText, NotClosed, DuplicateName}
use Rattle.gds_grammar.specs.Grammar.{Grammar, In}
use Rattle.gds_grammar.specs.Format.{stream}
use Rattle.gds_grammar.specs.Conditions.{trim, names_in, Counted, AreStream}
use Rattle.gds_grammar.specs.Reading.{Cursor, Fault, start, peek, read}
use Rattle.gds_grammar.specs.Stops.{Admits, kind_of, EndsAt, Begins, Why, Stops}
use Rattle.gds_grammar.proofs.Predicting.{AreBytes, Goes, Left, Follows, next_type, type_of}
use Rattle.gds_grammar.proofs.GrammarLaws.{some_word, some_word_in, some_word_begins}
use Rattle.gds_grammar.proofs.Following.{codes}
use Rattle.gds_grammar.proofs.Causes.{Because, because_like}
use Rattle.gds_grammar.proofs.WordsRead.{read_follows, read_word}
use Rattle.gds_grammar.proofs.Predicts.{May, Never, peeks_spelled}
use Rattle.gds_grammar.proofs.Viable.{viable_admits, admits_goes_on, few_names}
use Rattle.gds_grammar.proofs.Ending.{StopsIn, StopsThere, stops_there, stream_final, stream_closes}

-- different names behind none
differ_from_start : (bytes : List ℕ) (items : List Item) (d : Cursor) → Follows (start bytes) items d → AllPairs (λ a b. a ≢ b) (names_in items)
differ_from_start bytes items d follows = subst (AllPairs (λ a b. a ≢ b)) follows.names (follows.differ (λ i j e before within. absurd (omega arith)))

-- ---- what is read

-- these records were read from the start of the bytes to the place, and they are a stream's
pub record GivesStream (bytes : List ℕ) (items : List Item) (d : Cursor) : Type 0 where
  pub stream : AreStream items
  pub follows : Follows (start bytes) items d

-- what is read are a stream's records
pub read_gives : (bytes : List ℕ) (items : List Item) (d : Cursor) → AreBytes bytes → read stream (start bytes) ≡ Ok (items, d) → GivesStream bytes items d
read_gives bytes items d are e =
    let follows = read_follows stream (start bytes) d items are e in
    record {
      stream = record {
        placed = follows.placed;
        grammar = read_word stream (start bytes) d items are e;
        each = follows.each;
        differ = differ_from_start bytes items d follows;
      };
      follows = follows;
    }

-- ---- where reading stops

begun : (there : Cursor) (i : Item) → BeginsWith there.at i there.rest → Begins i there.rest
begun there i b = record { more = drop (length (spelled i)) there.rest; spells = b.spells; framed = b.framed }

-- the cause, said of the records before
stops_why : (items : List Item) (there : Cursor) (place : ℕ) (cause : Cause) → there.kind ≡ kind_of items → there.names ≡ names_in items → EndsAt items place
    → Because (Admits items) (λ code. ¬ Admits items code) there cause → Why cause items there.rest place
stops_why items there place NotClosed kind names ends b = (ends, b)
stops_why items there place Short kind names ends b = (ends, b)
stops_why items there place LengthBelow4 kind names ends b = (ends, b)
stops_why items there place OddLength kind names ends b = (ends, b)
stops_why items there place UnknownType kind names ends b = (ends, b)
stops_why items there place (Unexpected code) kind names ends b =
    inl (
      ends,
      record {
        item = b.item;
        begins = begun there b.item b.begins;
        of_type = b.of_type;
        never = λ admitted. b.never (subst (Admits items) (sym b.of_type) admitted);
      },
    )
stops_why items there place WrongData kind names ends (inl b) = (ends, inl b)
stops_why items there place WrongData kind names ends (inr b) = (
  ends,
  inr (record {
    item = b.item;
    begins = begun there b.item b.begins;
    admitted = b.may;
    miscounted = λ counts. b.miscounted (subst (λ (k : Option ℕ). Counted k b.item) (sym kind) counts);
  }),
)
stops_why items there place BadText kind names ends b = (
  ends,
  record {
    item = b.item;
    begins = begun there b.item b.begins;
    admitted = b.may;
    counted = subst (λ (k : Option ℕ). Counted k b.item) kind b.counted;
    unreadable = b.unreadable;
  },
)
stops_why items there place DuplicateName kind names ends b = (
  ends,
  record {
    item = b.item;
    begins = begun there b.item b.begins;
    admitted = b.may;
    counted = subst (λ (k : Option ℕ). Counted k b.item) kind b.counted;
    readable = b.readable;
    names = b.names;
    before = subst (λ (ns : List (List ℕ)). Contains ns (trim b.item.body)) names b.before;
  },
)

-- a stream goes on with what is left of the grammar
goes_on : (bytes : List ℕ) (f : Fault) (s : StopsIn stream (start bytes) f) (code : ℕ) (w : List ℕ) → length bytes < 2 ^ 63 → In s.want (code ∷ w) → length (code ∷ w) ≤ length (some_word s.want) → Admits s.items code
goes_on bytes f s code w size here short =
    let whole : length bytes ≡ length (flat s.items) + length s.there.rest = ap length s.follows.spells ∙ length-append (flat s.items) s.there.rest in
    let closes : length (some_word s.want) ≤ 8 = le_trans s.short stream_closes in
    viable_admits s.items code w s.follows.placed s.follows.each (differ_from_start bytes s.items s.there s.follows) (s.left.into (code ∷ w) here) (omega (arith, few_names s.items))

-- what no word of the grammar goes on with no stream does
never_admits : (items : List Item) (there : Cursor) (want : Grammar) (i : Item) → Left stream (codes items) (next_type there) want → BeginsWith there.at i there.rest
    → Never want i.code → ¬ Admits items i.code
never_admits items there want i left begins never a =
    let found : peek there ≡ Ok i = peeks_spelled there i (drop (length (spelled i)) there.rest) begins.framed begins.place begins.spells in
    let types : List ℕ = codes a.more in
    let same : codes (items ++ a.next ∷ a.more) ≡ codes items ++ i.code ∷ types =
    map-append (λ (j : Item). j.code) items (a.next ∷ a.more) ∙ ap (λ (c : ℕ). codes items ++ c ∷ types) a.of_type in
    let goes : Goes (next_type there) (i.code ∷ types) = subst (λ r. Goes (type_of r) (i.code ∷ types)) (sym found) (types, refl) in
    never.none types (left.only (i.code ∷ types) (subst (In stream) same a.stream.grammar) goes)

stopped : (bytes : List ℕ) (f : Fault) → StopsIn stream (start bytes) f → length bytes < 2 ^ 63 → Stops bytes f.place f.cause
stopped bytes f s size =
    let word = some_word_begins s.want s.some in
    let begins : In s.want (word.0 ∷ word.1) = subst (In s.want) word.2 (some_word_in s.want) in
    let first = goes_on bytes f s word.0 word.1 size begins (let n = ap length word.2 in omega arith) in
    let why = because_like (May s.want) (Never s.want) (Admits s.items) (λ code. ¬ Admits s.items code) s.there f.cause
    (λ code may. goes_on bytes f s code may.more size may.word may.short)
    (λ i begins never. never_admits s.items s.there s.want i s.left begins never)
    s.why in
    record {
      items = s.items;
      rest = s.there.rest;
      front = s.follows.spells;
      why = stops_why s.items s.there f.place f.cause s.follows.kind s.follows.names
          (record { goes_on = admits_goes_on s.items word.0 first; here = let place = s.place ∙ s.follows.at in omega arith })
          why;
    }

-- where reading stops the bytes stop being a stream
pub read_stops : (bytes : List ℕ) (f : Fault) → AreBytes bytes → length bytes < 2 ^ 63 → read stream (start bytes) ≡ Err f → Stops bytes f.place f.cause
read_stops bytes f are size e = stopped bytes f (subst (StopsThere stream (start bytes)) e (stops_there stream (start bytes) stream_final are)) size

-- a byte that isn't 0 behind the zeros behind a stream
pub byte_behind : (bytes : List ℕ) (items : List Item) (d : Cursor) (zeros byte : ℕ) (more : List ℕ) → GivesStream bytes items d → d.rest ≡ replicate zeros 0 ++ byte ∷ more → 0 < byte
    → Stops bytes (d.at + zeros) (Unexpected byte)
byte_behind bytes items d zeros byte more g stands some = record {
  items = items;
  rest = d.rest;
  front = g.follows.spells;
  why = inr (record { stream = g.stream; zeros = zeros; more = more; stands = stands; no_zero = some; here = let place = g.follows.at in omega arith });
}
