-- What comes next, and why reading one record stops.
use Rattle.std.proofs.Common.{◌≡◌, ℕ, ◌<◌, true, false, not, ◌⊎◌, inl, inr, List, [], ◌∷◌, length, Contains, Result, Ok, Err, refl, sym, ap, subst, arith}
use Rattle.std.proofs.lemmas.Bool.{cond_both, not-true, not-false}
use Rattle.gds_records.specs.declared.reading.RecordError.{RecordError}
use Rattle.gds_records.specs.declared.reading.RecordError.TheVariants as framed
use Rattle.gds_records.specs.declared.types.TheConstants.{STRNAME}
use Rattle.gds_records.specs.Records.{Item}
use Rattle.gds_records.specs.Framing.{framing, BeginsWith, Begin}
use Rattle.gds_records.proofs.Deciding.{framing_begins}
use Rattle.gds_grammar.specs.declared.cause.Cause.{Cause}
use Rattle.gds_grammar.specs.declared.cause.Cause.TheVariants.{Short, OddLength, LengthBelow4, UnknownType, WrongData, Unexpected, BadText, NotClosed, DuplicateName}
use Rattle.gds_grammar.specs.Conditions.{is_in, trim, Counted, Readable}
use Rattle.gds_grammar.specs.Tests.{counted, readable, is_repeated}
use Rattle.gds_grammar.specs.Reading.{Cursor, Fault, Taken, or_fault, peeked, peek, behind, accepted, take_one, choose}
use Rattle.gds_grammar.specs.Stops.{IsUnframed}
use Rattle.gds_grammar.proofs.Predicting.{AreBytes}
use Rattle.gds_grammar.proofs.Decided.{counted_true, counted_false, readable_true, readable_false, repeated_true}

-- ---- why

-- a record comes next of a type that can't stand here
pub record IsOther (Never : ℕ → Type 0) (c : Cursor) (code : ℕ) : Type 0 where
  pub item : Item
  pub begins : BeginsWith c.at item c.rest
  pub of_type : item.code ≡ code
  pub never : Never item.code

-- a record comes next of a type that can stand here, and it has another count than it should have
pub record HasOtherCount (May : ℕ → Type 0) (c : Cursor) : Type 0 where
  pub item : Item
  pub begins : BeginsWith c.at item c.rest
  pub may : May item.code
  pub miscounted : ¬ Counted c.kind item

-- a record comes next of a type that can stand here, as long as it should be, whose text isn't printable
pub record HasOtherText (May : ℕ → Type 0) (c : Cursor) : Type 0 where
  pub item : Item
  pub begins : BeginsWith c.at item c.rest
  pub may : May item.code
  pub counted : Counted c.kind item
  pub unreadable : ¬ Readable item

-- a printable name for a structure comes next where one can stand, and a structure before has it
pub record HasKnownName (May : ℕ → Type 0) (c : Cursor) : Type 0 where
  pub item : Item
  pub begins : BeginsWith c.at item c.rest
  pub may : May item.code
  pub counted : Counted c.kind item
  pub readable : Readable item
  pub names : item.code ≡ STRNAME
  pub before : Contains c.names (trim item.body)

-- why reading stops where some types can stand and some never
abbrev pub Because : (ℕ → Type 0) → (ℕ → Type 0) → Cursor → Cause → Type 0
Because May Never c NotClosed = c.rest ≡ []
Because May Never c Short = IsUnframed framed.Short c.rest
Because May Never c LengthBelow4 = IsUnframed framed.LengthBelow4 c.rest
Because May Never c OddLength = IsUnframed framed.OddLength c.rest
Because May Never c UnknownType = IsUnframed framed.UnknownType c.rest
Because May Never c (Unexpected code) = IsOther Never c code
Because May Never c WrongData = IsUnframed framed.WrongData c.rest ⊎ HasOtherCount May c
Because May Never c BadText = HasOtherText May c
Because May Never c DuplicateName = HasKnownName May c

-- where more can stand and more never, the same cause holds
pub because_like : (May Never Can Not : ℕ → Type 0) (c : Cursor) (cause : Cause) → ((code : ℕ) → May code → Can code) → ((i : Item) → BeginsWith c.at i c.rest → Never i.code → Not i.code)
    → Because May Never c cause → Because Can Not c cause
because_like May Never Can Not c NotClosed can none b = b
because_like May Never Can Not c Short can none b = b
because_like May Never Can Not c LengthBelow4 can none b = b
because_like May Never Can Not c OddLength can none b = b
because_like May Never Can Not c UnknownType can none b = b
because_like May Never Can Not c (Unexpected code) can none b = record { item = b.item; begins = b.begins; of_type = b.of_type; never = none b.item b.begins b.never }
because_like May Never Can Not c WrongData can none (inl b) = inl b
because_like May Never Can Not c WrongData can none (inr b) = inr (record { item = b.item; begins = b.begins; may = can b.item.code b.may; miscounted = b.miscounted })
because_like May Never Can Not c BadText can none b = record {
  item = b.item;
  begins = b.begins;
  may = can b.item.code b.may;
  counted = b.counted;
  unreadable = b.unreadable;
}
because_like May Never Can Not c DuplicateName can none b = record {
  item = b.item;
  begins = b.begins;
  may = can b.item.code b.may;
  counted = b.counted;
  readable = b.readable;
  names = b.names;
  before = b.before;
}

-- ---- what comes next

-- no type
abbrev pub Nowhere : ℕ → Type 0
Nowhere code = ⊥

-- a record that comes next, or why none does
abbrev pub Peeked : Cursor → Result Item Fault → Type 0
Peeked c (Ok i) = BeginsWith c.at i c.rest
Peeked c (Err f) = (f.place ≡ c.at) × Because Nowhere Nowhere c f.cause

-- where no record comes next nothing is asked of its type
pub because_anyhow : (May Never : ℕ → Type 0) (c : Cursor) (cause : Cause) → Because Nowhere Nowhere c cause → Because May Never c cause
because_anyhow May Never c cause b = because_like Nowhere Nowhere May Never c cause (λ code e. absurd e) (λ i begins e. absurd e) b

framed_or_fault : (c : Cursor) (r : Result Item RecordError) → 0 < length c.rest → Begin c.at c.rest r → Peeked c (or_fault c r)
framed_or_fault c (Ok i) some begin = begin
framed_or_fault c (Err framed.Short) some begin = (refl, record { some = some; fault = begin })
framed_or_fault c (Err framed.OddLength) some begin = (refl, record { some = some; fault = begin })
framed_or_fault c (Err framed.LengthBelow4) some begin = (refl, record { some = some; fault = begin })
framed_or_fault c (Err framed.UnknownType) some begin = (refl, record { some = some; fault = begin })
framed_or_fault c (Err framed.WrongData) some begin = (refl, inl (record { some = some; fault = begin }))

peeks_at : (c : Cursor) (rest : List ℕ) → rest ≡ c.rest → AreBytes c.rest → Peeked c (peeked c rest)
peeks_at c [] same bytes = (refl, sym same)
peeks_at c (b ∷ rest) same bytes =
    framed_or_fault c (framing c.at (b ∷ rest)) (let n = ap length same in omega arith)
    (subst (λ (l : List ℕ). Begin c.at l (framing c.at (b ∷ rest))) same (framing_begins c.at (b ∷ rest) (subst AreBytes (sym same) bytes)))

pub peeks : (c : Cursor) → AreBytes c.rest → Peeked c (peek c)
unfolding peek
peeks c bytes = peeks_at c c.rest refl bytes

pub peeks_record : (c : Cursor) (i : Item) → AreBytes c.rest → peek c ≡ Ok i → BeginsWith c.at i c.rest
peeks_record c i bytes e = subst (Peeked c) e (peeks c bytes)

pub peeks_fault : (c : Cursor) (f : Fault) → AreBytes c.rest → peek c ≡ Err f → (f.place ≡ c.at) × Because Nowhere Nowhere c f.cause
peeks_fault c f bytes e = subst (Peeked c) e (peeks c bytes)

-- ---- one record

-- a record of one of the types was read
pub record IsTaken (types : List ℕ) (c : Cursor) (i : Item) (d : Cursor) : Type 0 where
  pub begins : BeginsWith c.at i c.rest
  pub allowed : is_in types i.code ≡ true
  pub counted : Counted c.kind i
  pub readable : Readable i
  pub unused : is_repeated c.names i ≡ false
  pub there : d ≡ behind c i

-- one record is read, or why not
abbrev pub Takes : List ℕ → Cursor → Result (Item × Cursor) Fault → Type 0
Takes types c (Ok r) = IsTaken types c r.0 r.1
Takes types c (Err f) = (f.place ≡ c.at) × Because (λ code. is_in types code ≡ true) (λ code. is_in types code ≡ false) c f.cause

accepts : (types : List ℕ) (c : Cursor) (p : Result Item Fault) → Peeked c p → Takes types c (accepted types c p)
accepts types c (Err f) here = (here.0, because_anyhow (λ code. is_in types code ≡ true) (λ code. is_in types code ≡ false) c f.cause here.1)
accepts types c (Ok i) here =
    cond_both (not (is_in types i.code)) _ _ (Takes types c)
    (λ e. (refl, record { item = i; begins = here; of_type = refl; never = not-true _ e }))
    (λ e1. cond_both (not (counted c.kind i)) _ _ (Takes types c)
    (λ e. (refl, inr (record { item = i; begins = here; may = not-false _ e1; miscounted = counted_false c.kind i (not-true _ e) })))
    (λ e2. cond_both (not (readable i)) _ _ (Takes types c)
    (λ e. (refl, record { item = i; begins = here; may = not-false _ e1; counted = counted_true c.kind i (not-false _ e2); unreadable = readable_false i (not-true _ e) }))
    (λ e3. cond_both (is_repeated c.names i) _ _ (Takes types c)
    (λ e.
    let repeats = repeated_true c.names i e in (
      refl,
      record {
        item = i;
        begins = here;
        may = not-false _ e1;
        counted = counted_true c.kind i (not-false _ e2);
        readable = readable_true i (not-false _ e3);
        names = repeats.0;
        before = repeats.1;
      },
    ))
    (λ e4. record {
      begins = here;
      allowed = not-false _ e1;
      counted = counted_true c.kind i (not-false _ e2);
      readable = readable_true i (not-false _ e3);
      unused = e4;
      there = refl;
    }))))

pub takes : (types : List ℕ) (c : Cursor) → AreBytes c.rest → Takes types c (take_one types c)
unfolding take_one
takes types c bytes = accepts types c (peek c) (peeks c bytes)

-- ---- one of two ways

-- what holds of each way holds of the one that is chosen
pub chosen : (Holds : Taken → Type 0) (types : List ℕ) (p : Result Item Fault) (x y : Taken)
    → ((f : Fault) → p ≡ Err f → Holds (Err f))
    → ((i : Item) → p ≡ Ok i → is_in types i.code ≡ true → Holds x)
    → ((i : Item) → p ≡ Ok i → is_in types i.code ≡ false → Holds y)
    → Holds (choose types p x y)
chosen Holds types (Err f) x y by_fault by_first by_second = by_fault f refl
chosen Holds types (Ok i) x y by_fault by_first by_second = cond_both (is_in types i.code) x y Holds (by_first i refl) (by_second i refl)
