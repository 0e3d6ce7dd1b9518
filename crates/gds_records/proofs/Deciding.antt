-- Which record or fault bytes begin with: each one is found, and nothing else is.
use Rattle.std.proofs.Common.{◌≡◌, ◌≢◌, ℕ, zero, suc, ◌+◌, ◌-◌, ◌%◌, ◌<◌, ◌≤◌, true, false, not, inl, inr, eqb, ltb, List, [], ◌∷◌, ◌++◌, length, take, drop, replicate, get_or, is_some, Result, Ok, Err, MatchResult, IfOk, IfErr, All, refl, sym, ap, ◌∙◌, subst, arith}
use Rattle.std.specs.Int.{w16, from_be_bytes}
use Rattle.std.proofs.lemmas.List.{take_at, drop_at, drop-drop}
use Rattle.std.proofs.lemmas.List.Elements.{All-head, All-tail, All-take, All-drop}
use Rattle.std.proofs.lemmas.Bool.{cond-true, cond-false, cond_both, lt-ltb, le-ltb, ltb-true, ltb-false, eqb-true, eqb-false, eq-eqb, ne_eqb, not-true, not-false, not_from_true, not_from_false, or_left}
use Rattle.gds_records.specs.declared.reading.Part.{Part}
use Rattle.gds_records.specs.declared.reading.RecordError.{RecordError}
use Rattle.gds_records.specs.declared.reading.RecordError.TheVariants.{Short, OddLength, LengthBelow4, UnknownType, WrongData}
use Rattle.gds_records.specs.Records.{Item, spelled, spelled_as, known, is_free, data_of, Framed}
use Rattle.gds_records.specs.Framing.{framing, framed_as, fits, has_its_data, said_length, BeginsAs, BeginsWith, Begin, BeginWithOne, FramingFault, item_at}
use Rattle.gds_records.proofs.Framed.{framing_nothing}
use Rattle.gds_records.proofs.DataTests.{fits_true, true_fits, fits_false, false_fits}
use Rattle.gds_records.proofs.Spelled.{begins, said_again, answer, framing_begun}

-- ---- what is found

-- the record's bytes, and what is behind them
spells_all : (i : Item) (bytes : List ℕ) → BeginsAs i.code i.form i.body bytes → bytes ≡ spelled i ++ drop (length (spelled i)) bytes
spells_all i bytes b =
    let rest : drop (length (spelled i)) bytes ≡ b.behind = ap (drop (length (spelled i))) b.spells ∙ drop_at (spelled i) b.behind _ refl in
    b.spells ∙ ap (λ (l : List ℕ). spelled i ++ l) (sym rest)

-- bytes that begin as a record does begin with what is answered
begun : (at code form : ℕ) (body bytes : List ℕ) → code < 256 → form < 256 → All (λ b. b < 256) body → BeginsAs code form body bytes → Begin at bytes (answer at code form body)
unfolding has_its_data
begun at code form body bytes c f bs b =
    cond_both (not (known code)) _ _ (Begin at bytes)
    (λ no. record { code = code; form = form; body = body; begins = b; unknown = not-true _ no })
    (λ yes. cond_both (not (fits (data_of code) form body)) _ _ (Begin at bytes)
    (λ no.
    let w = fits_false (data_of code) form body (not-true _ no) in
    record { code = code; form = form; body = body; begins = b; expected = w.0; expects = w.1; wrong = w.2 })
    (λ whole. record {
      framed = record {
        even = b.even;
        short = b.short;
        type_is_known = not-false _ yes;
        items = fits_true (data_of code) form body (not-false _ whole);
        code_is_byte = c;
        form_is_byte = f;
        body_is_bytes = bs;
      };
      place = refl;
      spells = spells_all (record { at = at; code = code; form = form; body = body }) bytes b;
    }))

-- what is answered holds
pub framing_begins : (at : ℕ) (bytes : List ℕ) → All (λ b. b < 256) bytes → Begin at bytes (framing at bytes)
unfolding framing framed_as
framing_begins at [] all = inl (omega arith)
framing_begins at (a ∷ []) all = inl (omega arith)
framing_begins at (a ∷ (b ∷ [])) all = inl (omega arith)
framing_begins at (a ∷ (b ∷ (c ∷ []))) all = inl (omega arith)
framing_begins at (high ∷ (low ∷ (code ∷ (form ∷ more)))) all =
    let IsByte : ℕ → Type 0 = λ b. b < 256 in
    let h : high < 256 = All-head IsByte high (low ∷ code ∷ form ∷ more) all in
    let all1 = All-tail IsByte high (low ∷ code ∷ form ∷ more) all in
    let l : low < 256 = All-head IsByte low (code ∷ form ∷ more) all1 in
    let all2 = All-tail IsByte low (code ∷ form ∷ more) all1 in
    let c : code < 256 = All-head IsByte code (form ∷ more) all2 in
    let all3 = All-tail IsByte code (form ∷ more) all2 in
    let f : form < 256 = All-head IsByte form more all3 in
    let bs = All-tail IsByte form more all3 in
    let size : ℕ = from_be_bytes w16 (high ∷ low ∷ []) in
    let P : Result Item RecordError → Type 0 = Begin at (high ∷ low ∷ code ∷ form ∷ more) in
    cond_both (ltb size 4) _ _ P
    (λ e. record { begins = omega arith; below = ltb-true _ _ e })
    (λ above. cond_both (eqb (size % 2) 1) _ _ P
    (λ e. record { begins = omega arith; above = ltb-false _ _ above; odd = eqb-true _ _ e })
    (λ even.
    let four : 4 ≤ size = ltb-false _ _ above in
    let odd : size % 2 ≢ 1 = eqb-false _ _ even in
    let two : size % 2 ≡ 0 = omega arith in
    cond_both (ltb (4 + length more) size) _ _ P
    (λ e.
    let beyond : 4 + length more < size = ltb-true _ _ e in
    inr (record { begins = omega arith; above = four; even = two; beyond = omega arith }))
    (λ within.
    let enough : size ≤ 4 + length more = ltb-false _ _ within in
    begun at code form (take (size - 4) more) (high ∷ low ∷ code ∷ form ∷ more) c f (All-take IsByte (size - 4) more bs)
    (begins high low code form more h l four two enough))))

pub framing_record : (at : ℕ) (bytes : List ℕ) (i : Item) → All (λ b. b < 256) bytes → framing at bytes ≡ Ok i → BeginsWith at i bytes
framing_record at bytes i all found = subst (Begin at bytes) found (framing_begins at bytes all)

pub framing_fault : (at : ℕ) (bytes : List ℕ) (e : RecordError) → All (λ b. b < 256) bytes → framing at bytes ≡ Err e → FramingFault e bytes
framing_fault at bytes e all found = subst (Begin at bytes) found (framing_begins at bytes all)

-- ---- nothing else is found

-- four bytes are a header, of the length that they say
header : (at : ℕ) (bytes : List ℕ) → 4 ≤ length bytes → (code form : ℕ) × (more : List ℕ) × (length bytes ≡ 4 + length more) × (framing at bytes ≡ framed_as at (said_length bytes) code form more)
unfolding framing
header at [] enough = absurd (omega arith)
header at (a ∷ []) enough = absurd (omega arith)
header at (a ∷ (b ∷ [])) enough = absurd (omega arith)
header at (a ∷ (b ∷ (c ∷ []))) enough = absurd (omega arith)
header at (a ∷ (b ∷ (c ∷ (d ∷ more)))) enough = (c, d, more, omega arith, refl)

framed_below4 : (at size code form : ℕ) (more : List ℕ) → size < 4 → framed_as at size code form more ≡ Err LengthBelow4
unfolding framed_as
framed_below4 at size code form more below = cond-true _ _ _ (lt-ltb size 4 below)

framed_odd : (at size code form : ℕ) (more : List ℕ) → 4 ≤ size → size % 2 ≡ 1 → framed_as at size code form more ≡ Err OddLength
unfolding framed_as
framed_odd at size code form more above odd = cond-false _ _ _ (le-ltb size 4 above) ∙ cond-true _ _ _ (eq-eqb (size % 2) 1 odd)

framed_cut : (at size code form : ℕ) (more : List ℕ) → 4 ≤ size → size % 2 ≡ 0 → 4 + length more < size → framed_as at size code form more ≡ Err Short
unfolding framed_as
framed_cut at size code form more above even beyond =
    cond-false _ _ _ (le-ltb size 4 above)
    ∙ cond-false _ _ _ (ne_eqb (size % 2) 1 (λ odd. omega arith))
    ∙ cond-true _ _ _ (lt-ltb (4 + length more) size beyond)

-- a fault that there is is the one that is found
pub fault_framing : (at : ℕ) (bytes : List ℕ) (e : RecordError) → FramingFault e bytes → framing at bytes ≡ Err e
unfolding has_its_data
fault_framing at bytes Short (inl few) = framing_nothing at bytes few
fault_framing at bytes Short (inr cut) =
    let h = header at bytes cut.begins in
    h.4 ∙ framed_cut at (said_length bytes) h.0 h.1 h.2 cut.above cut.even (omega (arith, h.3, cut.beyond))
fault_framing at bytes LengthBelow4 fault = let h = header at bytes fault.begins in h.4 ∙ framed_below4 at (said_length bytes) h.0 h.1 h.2 fault.below
fault_framing at bytes OddLength fault = let h = header at bytes fault.begins in h.4 ∙ framed_odd at (said_length bytes) h.0 h.1 h.2 fault.above fault.odd
fault_framing at bytes UnknownType fault =
    framing_begun at fault.code fault.form fault.body bytes fault.begins ∙ cond-true _ _ _ (not_from_false _ fault.unknown)
fault_framing at bytes WrongData fault =
    let is_known : known fault.code ≡ true = or_left (is_some (data_of fault.code)) (is_free fault.code) (ap is_some fault.expects) in
    let wrong : fits (data_of fault.code) fault.form fault.body ≡ false = false_fits (data_of fault.code) fault.form fault.expected fault.body fault.expects fault.wrong in
    framing_begun at fault.code fault.form fault.body bytes fault.begins
    ∙ cond-false _ _ _ (not_from_true _ is_known)
    ∙ cond-true _ _ _ (not_from_false _ wrong)

-- a record behind which anything stands is the one that is found
pub record_framing : (i : Item) (more : List ℕ) → Framed i → framing i.at (spelled i ++ more) ≡ Ok i
unfolding has_its_data
record_framing i more f =
    framing_begun i.at i.code i.form i.body (spelled i ++ more) (record { behind = more; spells = refl; even = f.even; short = f.short })
    ∙ cond-false _ _ _ (not_from_true _ f.type_is_known)
    ∙ cond-false _ _ _ (not_from_true _ (true_fits (data_of i.code) i.form i.body f.items))

-- what bytes begin with is what is found
pub begin_framing : (at : ℕ) (bytes : List ℕ) (outcome : Result Item RecordError) → Begin at bytes outcome → framing at bytes ≡ outcome
begin_framing at bytes (Ok i) b =
    ap (λ (n : ℕ). framing n bytes) (sym b.place) ∙ ap (framing i.at) b.spells ∙ record_framing i (drop (length (spelled i)) bytes) b.framed
begin_framing at bytes (Err e) b = fault_framing at bytes e b

-- bytes begin with exactly one record or fault
pub begin_with_one : (at : ℕ) (bytes : List ℕ) → All (λ b. b < 256) bytes → BeginWithOne at bytes
begin_with_one at bytes all = record {
  outcome = framing at bytes;
  begin = framing_begins at bytes all;
  only = λ other b. sym (begin_framing at bytes other b);
}

-- what a part that was read says of the bytes
pub part_holds : (at : ℕ) (bytes front : List ℕ) (r : Result Part RecordError) → All (λ b. b < 256) bytes → front ≡ drop at bytes
    → MatchResult r (λ p. (framing at front ≡ Ok (item_at at p)) × (p.next ≡ at + 4 + length p.body.now)) (λ e. framing at front ≡ Err e)
    → IfOk r (λ p. Framed (item_at at p) × (drop at bytes ≡ spelled (item_at at p) ++ drop p.next bytes))
unfolding spelled_as
part_holds at bytes front (Ok p) all same exact =
    let i : Item = item_at at p in
    let rest : List ℕ = drop at bytes in
    let b = framing_record at rest i (All-drop (λ b. b < 256) at bytes all) (ap (framing at) (sym same) ∙ exact.0) in
    let next : at + length (spelled i) ≡ p.next = omega (arith, exact.1) in
    (b.framed, b.spells ∙ ap (λ (l : List ℕ). spelled i ++ l) (drop-drop (length (spelled i)) at bytes ∙ ap (λ (n : ℕ). drop n bytes) next))
part_holds at bytes front (Err e) all same exact = tt

pub fault_holds : (at : ℕ) (bytes front : List ℕ) (r : Result Part RecordError) → All (λ b. b < 256) bytes → front ≡ drop at bytes
    → MatchResult r (λ p. (framing at front ≡ Ok (item_at at p)) × (p.next ≡ at + 4 + length p.body.now)) (λ e. framing at front ≡ Err e)
    → IfErr r (λ e. FramingFault e (drop at bytes))
fault_holds at bytes front (Ok p) all same exact = tt
fault_holds at bytes front (Err e) all same exact = framing_fault at (drop at bytes) e (All-drop (λ b. b < 256) at bytes all) (ap (framing at) (sym same) ∙ exact)

-- ---- the bytes of records apart

-- how many bytes a record has
pub length_spelled : (i : Item) → length (spelled i) ≡ 4 + length i.body
unfolding spelled_as
length_spelled i = omega arith

-- two records that bytes begin with are one, but for their place
pub prefix_code : (i j : Item) (a b : List ℕ) → Framed i → Framed j → spelled i ++ a ≡ spelled j ++ b → (i.code ≡ j.code) × (i.form ≡ j.form) × (i.body ≡ j.body) × (a ≡ b)
unfolding spelled_as
prefix_code i j a b f g e =
    let sizes : 4 + length i.body ≡ 4 + length j.body = sym (said_again i.code i.form i.body a f.short) ∙ ap said_length e ∙ said_again j.code j.form j.body b g.short in
    let same : length j.body ≡ length i.body = omega arith in
    let rests : i.body ++ a ≡ j.body ++ b = ap (drop 4) e in (
      ap (λ (l : List ℕ). get_or l 2 0) e,
      ap (λ (l : List ℕ). get_or l 3 0) e,
      sym (take_at i.body a (length i.body) refl) ∙ ap (take (length i.body)) rests ∙ take_at j.body b (length i.body) same,
      sym (drop_at i.body a (length i.body) refl) ∙ ap (drop (length i.body)) rests ∙ drop_at j.body b (length i.body) same,
    )

said_zeros : (n : ℕ) → said_length (replicate n 0) ≡ 0
said_zeros zero = refl
said_zeros (suc zero) = refl
said_zeros (suc (suc n)) = refl

-- the bytes of a record aren't zeros
pub spelled_nonzero : (i : Item) (a : List ℕ) (n : ℕ) → Framed i → spelled i ++ a ≢ replicate n 0
spelled_nonzero i a n f e =
    let size : said_length (replicate n 0) ≡ 4 + length i.body = ap said_length (sym e) ∙ said_again i.code i.form i.body a f.short in
    omega (arith, said_zeros n)
