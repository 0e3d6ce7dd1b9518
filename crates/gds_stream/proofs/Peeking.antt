-- The record that comes next in bytes, from a place on.
use Rattle.std.proofs.Common.{◌≡◌, ℕ, ◌+◌, ◌-◌, ◌<◌, List, [], ◌∷◌, ◌++◌, length, take, drop, Option, Some, Result, Ok, Err, refl, sym, ap, ap₂, ◌∙◌, subst, arith, length-drop, length-append, if◌then◌else◌}
use Rattle.std.proofs.Math.Seq.{take-append_seam}
use Rattle.std.proofs.lemmas.List.{drop-drop}
use Rattle.gds_records.specs.Records.{Item, spelled, spelled_as}
use Rattle.gds_records.specs.declared.reading.RecordError.{RecordError}
use Rattle.gds_records.specs.Framing.{framing, item_at}
use Rattle.gds_records.specs.declared.reading.Part.{Part}
use Rattle.gds_records.proofs.Deciding.{length_spelled}
use Rattle.gds_grammar.specs.Conditions.{is_in, starts}
use Rattle.gds_grammar.specs.declared.cause.Cause.{Cause}
use Rattle.gds_grammar.specs.declared.cause.Cause.TheVariants.{NotClosed}
use Rattle.gds_grammar.specs.Reading.{Cursor, cause_of, fault, or_fault, behind, peeked, peek}
use Rattle.gds_stream.specs.declared.reader.Ahead.{Ahead}
use Rattle.gds_stream.specs.Gives.{IsWithin, IsAhead, Finds, standing, body_between}

-- where bytes are left, their framing says what comes
peeked-some : (c : Cursor) (rest : List ℕ) → 0 < length rest → peeked c rest ≡ or_fault c (framing c.at rest)
peeked-some c [] some = absurd (omega arith)
peeked-some c (b ∷ bytes) some = refl

-- no bytes are left
peeked-none : (c : Cursor) (rest : List ℕ) → length rest ≡ 0 → peeked c rest ≡ Err (fault c NotClosed)
peeked-none c [] none = refl
peeked-none c (b ∷ bytes) none = absurd (omega arith)

-- at the end of the bytes nothing comes
pub none_ahead : (bytes : List ℕ) (at : ℕ) → at ≡ length bytes → Finds bytes at (Err NotClosed)
unfolding peek
none_ahead bytes at end = peeked-none (standing bytes at) (drop at bytes) (length-drop at bytes ∙ omega arith)

-- before the end their framing says what comes
before : (bytes : List ℕ) (at : ℕ) → at < length bytes → peek (standing bytes at) ≡ or_fault (standing bytes at) (framing at (drop at bytes))
unfolding peek
before bytes at some = peeked-some (standing bytes at) (drop at bytes) (rw (length-drop at bytes) (omega arith))

-- no record comes where its framing fails
pub fault_ahead : (bytes : List ℕ) (at : ℕ) (e : RecordError) → at < length bytes → framing at (drop at bytes) ≡ Err e → Finds bytes at (Err (cause_of e))
fault_ahead bytes at e some is = before bytes at some ∙ ap (or_fault (standing bytes at)) is

-- what stands behind the four bytes of a record's header is its data, and what follows
behind_header : (code form : ℕ) (body more : List ℕ) → take (length body) (drop 4 (spelled_as code form body ++ more)) ≡ body
unfolding spelled_as
behind_header code form body more = take-append_seam body more

-- a record that is framed comes
pub one_ahead : (bytes : List ℕ) (at : ℕ) (p : Part) (a : Ahead) → at < length bytes → framing at (drop at bytes) ≡ Ok (item_at at p) → p.next ≡ at + 4 + length p.body.now
    → drop at bytes ≡ spelled (item_at at p) ++ drop p.next bytes → a ≡ record { code = p.code; form = p.form; next = p.next } → IsAhead bytes at a
one_ahead bytes at p a some is next spells is_a =
    let long : length (drop at bytes) ≡ length (spelled (item_at at p)) + length (drop p.next bytes) = ap length spells ∙ length-append (spelled (item_at at p)) (drop p.next bytes) in
    let so_long : p.next - (at + 4) ≡ length p.body.now = omega arith in
    let body : body_between bytes at p.next ≡ p.body.now =
    ap (λ (n : ℕ). take n (drop (at + 4) bytes)) so_long
    ∙ ap (take (length p.body.now)) (sym (drop-drop 4 at bytes) ∙ ap (drop 4) spells)
    ∙ behind_header p.code p.form p.body.now (drop p.next bytes) in
    let IsIt : Ahead → Type 0 = IsAhead bytes at in
    subst IsIt (sym is_a) (record {
      begins = omega arith;
      ends = omega (arith, length_spelled (item_at at p), length-drop at bytes, length-drop p.next bytes);
      comes = before bytes at some ∙ ap (or_fault (standing bytes at)) is
          ∙ ap (λ (b : List ℕ). let i : Item = record { at = at; code = p.code; form = p.form; body = b } in Ok i) (sym body);
    })

-- what comes doesn't depend on the element that began last, nor on names
as_standing : (at : ℕ) (bytes : List ℕ) (kind : Option ℕ) (names : List (List ℕ)) (c : Cursor) → record { at = at; rest = drop at bytes; kind = kind; names = names } ≡ c → peek c ≡ peek (standing bytes at)
unfolding peek
as_standing at bytes kind names c same = ap peek (sym same)

-- the record that was found comes
pub comes : (at : ℕ) (bytes : List ℕ) (kind : Option ℕ) (names : List (List ℕ)) (c : Cursor) (found : Result Ahead Cause) (a : Ahead) (body : List ℕ) → record { at = at; rest = drop at bytes; kind = kind; names = names } ≡ c
    → Finds bytes at found → found ≡ Ok a → body ≡ body_between bytes at a.next → peek c ≡ Ok (record { at = c.at; code = a.code; form = a.form; body = body })
comes at bytes kind names c found a body same finds is is_body =
    let Is : ℕ → List ℕ → Item = λ n b. record { at = n; code = a.code; form = a.form; body = b } in
    let here : IsAhead bytes at a = subst (Finds bytes at) is finds in
    as_standing at bytes kind names c same ∙ here.comes ∙ ap (λ (b : List ℕ). Ok (Is at b)) (sym is_body) ∙ ap (λ (d : Cursor). Ok (Is d.at body)) same

-- where a fault was found, it stands in the record's place
pub comes_not : (at : ℕ) (bytes : List ℕ) (kind : Option ℕ) (names : List (List ℕ)) (c : Cursor) (found : Result Ahead Cause) (cause : Cause) → record { at = at; rest = drop at bytes; kind = kind; names = names } ≡ c
    → Finds bytes at found → found ≡ Err cause → peek c ≡ Err (fault c cause)
comes_not at bytes kind names c found cause same finds is =
    let here : Finds bytes at (Err cause) = subst (Finds bytes at) is finds in
    as_standing at bytes kind names c same ∙ here ∙ ap (λ (d : Cursor). Err (fault d cause)) same

-- behind the record
pub behind-is : (at : ℕ) (bytes : List ℕ) (kind after : Option ℕ) (names : List (List ℕ)) (c : Cursor) (p : Part) → record { at = at; rest = drop at bytes; kind = kind; names = names } ≡ c
    → IsWithin p c → after ≡ (if is_in starts p.code then Some p.code else kind)
    → record { at = p.next; rest = drop p.next bytes; kind = after; names = names } ≡ record (behind c (item_at c.at p)) { names = c.names }
behind-is at bytes kind after names c p same w is =
    let Behind : Cursor → Type 0 = λ d. record { at = p.next; rest = drop p.next bytes; kind = after; names = names } ≡ record (behind d (item_at d.at p)) { names = d.names } in
    let here : c.at ≡ at = ap (λ (d : Cursor). d.at) (sym same) in
    let next : p.next ≡ at + length (spelled (item_at at p)) = omega (arith, length_spelled (item_at at p), w.next) in
    subst Behind same
    (ap₂ (λ (n : ℕ) (r : List ℕ). let d : Cursor = record { at = n; rest = r; kind = after; names = names } in d) next (ap (λ n. drop n bytes) next ∙ sym (drop-drop (length (spelled (item_at at p))) at bytes))
    ∙ ap (λ (k : Option ℕ). let d : Cursor = record { at = at + length (spelled (item_at at p)); rest = drop (length (spelled (item_at at p))) (drop at bytes); kind = k; names = names } in d) is)
