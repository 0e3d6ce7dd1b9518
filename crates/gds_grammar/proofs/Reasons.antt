-- Why records aren't followed by one more of a stream: the one cause that their types and the bytes behind them decide.
use Rattle.std.proofs.Common.{◌≡◌, ◌≢◌, ℕ, ◌+◌, Bool, true, false, not, cond, ◌⊎◌, inl, inr, List, [], ◌∷◌, ◌++◌, length, Contains, AllPairs, Option, Some, None, Result, Ok, Err, refl, sym, ap, ◌∙◌, subst, arith}
use Rattle.std.specs.Bool.{Decides}
use Rattle.std.specs.List.{fold, cons_option}
use Rattle.std.proofs.lemmas.Bool.{true≢false, cond-true, cond-false, eq-eqb, not_from_true, not_from_false, false_from_ne_true}
use Rattle.std.proofs.lemmas.Bool.Decides.{same_from_decides}
use Rattle.std.proofs.lemmas.Option.{same_Some, none-some}
use Rattle.std.proofs.lemmas.List.{get_or_append_left, get_or-append-add, length-append}
use Rattle.std.proofs.lemmas.List.Elements.{filter_map-append}
use Rattle.gds_records.specs.declared.reading.RecordError.{RecordError}
use Rattle.gds_records.specs.declared.reading.RecordError.TheVariants as framed
use Rattle.gds_records.specs.declared.types.TheConstants.{STRNAME}
use Rattle.gds_records.specs.Records.{Item, spelled, spelled_as, Framed}
use Rattle.gds_records.specs.Framing.{framing}
use Rattle.gds_records.proofs.Deciding.{record_framing, fault_framing}
use Rattle.gds_grammar.specs.declared.cause.Cause.{Cause}
use Rattle.gds_grammar.specs.declared.cause.Cause.TheVariants.{Short, OddLength, LengthBelow4, UnknownType, WrongData, Unexpected, BadText, NotClosed, DuplicateName}
use Rattle.gds_grammar.specs.Conditions.{trim, kind_after, name_in, names_in, Counted, Readable, InContext, AreStream}
use Rattle.gds_grammar.specs.Tests.{counted, readable, is_repeated}
use Rattle.gds_grammar.specs.Reading.{cause_of}
use Rattle.gds_grammar.specs.Stops.{Admits, kind_of, EndsAt, Begins, IsUnframed, HasByteBehind, Why}
use Rattle.gds_grammar.proofs.Decided.{counted_decides, readable_decides, repeated_decides}

-- ---- what comes next

-- the record at place 0
abbrev pub at_zero : Item → Item
at_zero i = record { at = 0; code = i.code; form = i.form; body = i.body }

abbrev pub or_cause : Result Item RecordError → Result Item Cause
or_cause (Ok i) = Ok i
or_cause (Err e) = Err (cause_of e)

-- the record that comes next, at place 0, or why none does
abbrev pub next : List ℕ → Result Item Cause
next [] = Err NotClosed
next (b ∷ bytes) = or_cause (framing 0 (b ∷ bytes))

framed_at_zero : (i : Item) → Framed i → Framed (at_zero i)
framed_at_zero i f = record { even = f.even; short = f.short; type_is_known = f.type_is_known; items = f.items; code_is_byte = f.code_is_byte; form_is_byte = f.form_is_byte; body_is_bytes = f.body_is_bytes }

next_record : (i : Item) (more : List ℕ) → Framed i → next (spelled i ++ more) ≡ Ok (at_zero i)
unfolding spelled_as
next_record i more f = ap or_cause (record_framing (at_zero i) more (framed_at_zero i f))

next_fault : (e : RecordError) (rest : List ℕ) → IsUnframed e rest → next rest ≡ Err (cause_of e)
next_fault e [] u = absurd (omega (arith, u.some))
next_fault e (b ∷ bytes) u = ap or_cause (fault_framing 0 (b ∷ bytes) e u.fault)

-- ---- the cause

-- the cause, where a type's being admitted, the kind of element and the names are known; none where the record goes on
abbrev pub verdict : Bool → Option ℕ → List (List ℕ) → Result Item Cause → Option Cause
verdict admits kind names (Err c) = Some c
verdict admits kind names (Ok i) =
    cond (not admits) (Some (Unexpected i.code))
    (cond (not (counted kind i)) (Some WrongData)
    (cond (not (readable i)) (Some BadText)
    (cond (is_repeated names i) (Some DuplicateName) None)))

-- the cause is the one that what comes next gives
pub record Reason (items : List Item) (rest : List ℕ) (cause : Cause) : Type 0 where
  pub admits : Bool
  pub right : (i : Item) → next rest ≡ Ok i → Decides admits (Admits items i.code)
  pub found : verdict admits (kind_of items) (names_in items) (next rest) ≡ Some cause

same_verdict : (items : List Item) (n : Result Item Cause) (a b : Bool) (c d : Cause)
    → ((i : Item) → n ≡ Ok i → Decides a (Admits items i.code)) → ((i : Item) → n ≡ Ok i → Decides b (Admits items i.code))
    → verdict a (kind_of items) (names_in items) n ≡ Some c → verdict b (kind_of items) (names_in items) n ≡ Some d → c ≡ d
same_verdict items (Err x) a b c d r s e f = same_Some c d (sym e ∙ f)
same_verdict items (Ok i) a b c d r s e f =
    let same : a ≡ b = same_from_decides a b (r i refl) (s i refl) in
    same_Some c d (sym e ∙ ap (λ (t : Bool). verdict t (kind_of items) (names_in items) (Ok i)) same ∙ f)

-- there is one
pub one_reason : (items : List Item) (rest : List ℕ) (c d : Cause) → Reason items rest c → Reason items rest d → c ≡ d
one_reason items rest c d r s = same_verdict items (next rest) r.admits s.admits c d r.right s.right r.found s.found

ok_not_err : (r : Result Item Cause) (c : Cause) (i : Item) → r ≡ Err c → r ≡ Ok i → ⊥
ok_not_err r c i e f = cc

-- nothing comes next but a cause
fault_reason : (items : List Item) (rest : List ℕ) (c : Cause) → next rest ≡ Err c → Reason items rest c
fault_reason items rest c e = record {
  admits = true;
  right = λ i f. absurd (ok_not_err (next rest) c i e f);
  found = ap (verdict true (kind_of items) (names_in items)) e;
}

same_code : (i j : Item) (r : Result Item Cause) → r ≡ Ok i → r ≡ Ok j → i.code ≡ j.code
same_code i j r e f = ap (λ (x : Result Item Cause). elim x as (λ _. ℕ) [ Ok k ↦ k.code | Err c ↦ 0 ]) (sym e ∙ f)

-- a record comes next that doesn't go on
record_reason : (items : List Item) (rest : List ℕ) (c : Cause) (i : Item) (admits : Bool) → Begins i rest → Decides admits (Admits items i.code)
    → verdict admits (kind_of items) (names_in items) (Ok (at_zero i)) ≡ Some c → Reason items rest c
record_reason items rest c i admits b decides v =
    let here : next rest ≡ Ok (at_zero i) = ap next b.spells ∙ next_record i b.more b.framed in
    record {
      admits = admits;
      right = λ j e. subst (λ (code : ℕ). Decides admits (Admits items code)) (same_code (at_zero i) j (next rest) here e) decides;
      found = ap (verdict admits (kind_of items) (names_in items)) here ∙ v;
    }

admitted : (items : List Item) (code : ℕ) → Admits items code → Decides true (Admits items code)
admitted items code a = (λ e. a, λ h. refl)

-- ---- each cause has its reason

-- the records begin a stream, which goes on otherwise; or they are one, and a byte stands behind them
abbrev pub Reasoned : Cause → List Item → List ℕ → ℕ → Type 0
Reasoned c items rest place = (EndsAt items place × Reason items rest c) ⊎ ((code : ℕ) × (c ≡ Unexpected code) × HasByteBehind items rest place code)

pub reasoned : (c : Cause) (items : List Item) (rest : List ℕ) (place : ℕ) → Why c items rest place → Reasoned c items rest place
unfolding counted readable is_repeated
reasoned NotClosed items rest place w = inl (w.0, fault_reason items rest NotClosed (ap next w.1))
reasoned Short items rest place w = inl (w.0, fault_reason items rest Short (next_fault framed.Short rest w.1))
reasoned LengthBelow4 items rest place w = inl (w.0, fault_reason items rest LengthBelow4 (next_fault framed.LengthBelow4 rest w.1))
reasoned OddLength items rest place w = inl (w.0, fault_reason items rest OddLength (next_fault framed.OddLength rest w.1))
reasoned UnknownType items rest place w = inl (w.0, fault_reason items rest UnknownType (next_fault framed.UnknownType rest w.1))
reasoned (Unexpected code) items rest place (inl w) =
    let u = w.1 in
    inl (
      w.0,
      record_reason items rest (Unexpected code) u.item false u.begins
          (λ e. absurd (true≢false (sym e)), λ h. absurd (u.never (subst (Admits items) u.of_type h)))
          (ap (λ (x : ℕ). Some (Unexpected x)) u.of_type),
    )
reasoned (Unexpected code) items rest place (inr w) = inr (code, refl, w)
reasoned WrongData items rest place w =
    elim w.1 [
      | inl u ↦ inl (w.0, fault_reason items rest WrongData (next_fault framed.WrongData rest u))
      | inr m ↦
          let wrong : counted (kind_of items) m.item ≡ false = false_from_ne_true _ (λ t. m.miscounted ((counted_decides (kind_of items) m.item).0 t)) in
          inl (w.0, record_reason items rest WrongData m.item true m.begins (admitted items m.item.code m.admitted) (cond-true _ _ _ (not_from_false _ wrong)))
    ]
reasoned BadText items rest place w =
    let u = w.1 in
    let right : counted (kind_of items) u.item ≡ true = (counted_decides (kind_of items) u.item).1 u.counted in
    let bad : readable u.item ≡ false = false_from_ne_true _ (λ t. u.unreadable ((readable_decides u.item).0 t)) in
    inl (
      w.0,
      record_reason items rest BadText u.item true u.begins (admitted items u.item.code u.admitted)
          (cond-false _ _ _ (not_from_true _ right) ∙ cond-true _ _ _ (not_from_false _ bad)),
    )
reasoned DuplicateName items rest place w =
    let u = w.1 in
    let right : counted (kind_of items) u.item ≡ true = (counted_decides (kind_of items) u.item).1 u.counted in
    let good : readable u.item ≡ true = (readable_decides u.item).1 u.readable in
    let again : is_repeated (names_in items) u.item ≡ true = (repeated_decides (names_in items) u.item).1 (u.names, u.before) in
    inl (
      w.0,
      record_reason items rest DuplicateName u.item true u.begins (admitted items u.item.code u.admitted)
          (cond-false _ _ _ (not_from_true _ right) ∙ cond-false _ _ _ (not_from_true _ good) ∙ cond-true _ _ _ again),
    )

-- ---- where a stream goes on there is none

-- a record is framed, counted and readable behind those before it
pub context_behind : (kind : Option ℕ) (items : List Item) (i : Item) (more : List Item) → InContext kind (items ++ i ∷ more) → Framed i × Counted (fold kind_after kind items) i × Readable i
context_behind kind [] i more each = (each.0, each.1, each.2)
context_behind kind (j ∷ items) i more each = context_behind (kind_after kind j) items i more each.3

-- an element of a list of different ones isn't before itself
pub not_before : {X : Type 0} (xs : List X) (x : X) (ys : List X) → AllPairs (λ a b. a ≢ b) (xs ++ x ∷ ys) → Contains xs x → ⊥
not_before xs x ys differ here =
    differ here.0 (length xs + 0) x (omega (arith, here.1)) (omega (arith, length-append xs (x ∷ ys)))
    (get_or_append_left xs (x ∷ ys) x here.0 here.1 ∙ here.2 ∙ sym (get_or-append-add xs (x ∷ ys) 0 x))

-- a structure's name isn't among those before it
new_name : (items : List Item) (i : Item) (more : List Item) → AllPairs (λ a b. a ≢ b) (names_in (items ++ i ∷ more)) → i.code ≡ STRNAME → Contains (names_in items) (trim i.body) → ⊥
new_name items i more differ named here =
    let own : name_in i ≡ Some (trim i.body) = cond-true _ _ _ (eq-eqb i.code STRNAME named) in
    let split : names_in (items ++ i ∷ more) ≡ names_in items ++ trim i.body ∷ names_in more = filter_map-append name_in items (i ∷ more) ∙ ap (λ (o : Option (List ℕ)). names_in items ++ cons_option o (names_in more)) own in
    not_before (names_in items) (trim i.body) (names_in more) (subst (AllPairs (λ a b. a ≢ b)) split differ) here

pub no_reason : (items : List Item) (rest : List ℕ) (c : Cause) (i : Item) (more : List Item) (tail : List ℕ) → Reason items rest c → AreStream (items ++ i ∷ more) → rest ≡ spelled i ++ tail → ⊥
unfolding counted readable is_repeated
no_reason items rest c i more tail r s e =
    let kind : Option ℕ = kind_of items in
    let names : List (List ℕ) = names_in items in
    let owed = context_behind None items i more s.each in
    let here : next rest ≡ Ok (at_zero i) = ap next e ∙ next_record i tail owed.0 in
    let admits : r.admits ≡ true = (r.right (at_zero i) here).1 (record { next = i; more = more; stream = s; of_type = refl }) in
    let right : counted kind i ≡ true = (counted_decides kind i).1 owed.1 in
    let good : readable i ≡ true = (readable_decides i).1 owed.2 in
    let new : is_repeated names i ≡ false = false_from_ne_true _ (λ t. let again = (repeated_decides names i).0 t in new_name items i more s.differ again.0 again.1) in
    let none : verdict true kind names (Ok (at_zero i)) ≡ None =
    cond-false _ _ _ (not_from_true _ right) ∙ cond-false _ _ _ (not_from_true _ good) ∙ cond-false _ _ _ new in
    let found : verdict true kind names (Ok (at_zero i)) ≡ Some c =
    ap (λ (t : Bool). verdict t kind names (Ok (at_zero i))) (sym admits) ∙ ap (verdict r.admits kind names) (sym here) ∙ r.found in
    none-some c (sym none ∙ found)
