-- What the records of elements, structures and a library give.
use Rattle.std.proofs.Common.{◌≡◌, ℕ, Bool, true, false, not, ◌&&◌, eqb, inl, inr, List, [], ◌∷◌, ◌++◌, map, Option, Some, None, refl, sym, ap, ◌∙◌, subst, append_assoc, append-nil}
use Rattle.std.specs.List.{filter_map, AllByRecursion}
use Rattle.std.specs.Option.{option_to_list}
use Rattle.std.specs.Prelude.{unwrap_or}
use Rattle.std.proofs.lemmas.Bool.{true≢false, both_ways, cond-true, cond-false, eqb-true, or_cases, not-true, and_parts, false_from_ne_true}
use Rattle.gds_records.specs.declared.types.TheConstants.{HEADER, BGNLIB, LIBNAME, UNITS, ENDLIB, BGNSTR, STRNAME, ENDSTR, ENDEL, PROPATTR, PROPVALUE}
use Rattle.gds_records.specs.Records.{Item}
use Rattle.gds_grammar.specs.Grammar.{Grammar, ◌∣◌, many, In}
use Rattle.gds_grammar.specs.Format.{skipped, head, turn, boundary, path, sref, aref, label, node, box, property, element, structure}
use Rattle.gds_grammar.specs.Conditions.{is_in, starts, trim}
use Rattle.gds_grammar.proofs.Following.{codes}
use Rattle.gds_grammar.proofs.GrammarLaws.{nullable_empty, firsts_has}
use Rattle.gds_grammar.proofs.Last.{types}
use Rattle.gds_stream.specs.declared.library.Element.{Element}
use Rattle.gds_stream.specs.declared.library.Structure.{Structure}
use Rattle.gds_stream.specs.Contents.{pieces, pieces_from, element_of, elements_in, structure_of, library_of}
use Rattle.gds_stream.specs.Gives.{IsOne, structures_in}
use Rattle.gds_stream.proofs.Holding.{inside}
use Rattle.gds_stream_laws.specs.Values.{AreOf, closing_types, AreElements, AreStructures}
use Rattle.gds_stream_laws.proofs.Held.{Part, ArePart, joined, held_part, held_one, held_first, one_of_type, are_of_both, are_of_left, are_of_right}
use Rattle.gds_stream_laws.proofs.Words.{types_of}

-- ---- pieces

-- whether none of the types is among the others
abbrev pub apart : List ℕ → List ℕ → Bool
apart [] others = true
apart (c ∷ types) others = not (is_in others c) && apart types others

pub apart_at : (types others : List ℕ) (code : ℕ) → apart types others ≡ true → is_in types code ≡ true → is_in others code ≡ false
apart_at [] others code none is = absurd (true≢false (sym is))
apart_at (c ∷ types) others code none is =
    let both = and_parts (not (is_in others c)) (apart types others) none in
    elim (or_cases (eqb c code) (is_in types code) is) [
      | inl here ↦ subst (λ (n : ℕ). is_in others n ≡ false) (eqb-true c code here) (not-true (is_in others c) both.0)
      | inr later ↦ apart_at types others code both.1 later
    ]

-- records of which none opens a piece are left out
pub outside : (opening : List ℕ) (closing : ℕ) (types : List ℕ) (items more : List Item) → apart types opening ≡ true → AreOf types items
    → pieces opening closing (items ++ more) ≡ pieces opening closing more
outside opening closing types [] more none these = refl
outside opening closing types (i ∷ items) more none these =
    cond-false (is_in opening i.code) (pieces_from opening closing (Some (i ∷ [])) (items ++ more)) (pieces opening closing (items ++ more)) (apart_at types opening i.code none these.0)
    ∙ outside opening closing types items more none these.1

none_closes : (closing : ℕ) (types : List ℕ) (items : List Item) → is_in types closing ≡ false → AreOf types items → AllByRecursion (λ i. eqb i.code closing ≡ false) items
none_closes closing types [] none these = tt
none_closes closing types (i ∷ items) none these = (
  false_from_ne_true (eqb i.code closing) (λ same. both_ways (is_in types closing) none (subst (λ (n : ℕ). is_in types n ≡ true) (eqb-true i.code closing same) these.0)),
  none_closes closing types items none these.1,
)

-- from one that opens a piece to one that closes it is a piece
pub one_piece : (opening : List ℕ) (closing : ℕ) (types : List ℕ) (i e : Item) (inner more : List Item) → is_in opening i.code ≡ true → eqb e.code closing ≡ true → is_in types closing ≡ false → AreOf types inner
    → pieces opening closing (i ∷ (inner ++ e ∷ more)) ≡ (i ∷ (inner ++ e ∷ [])) ∷ pieces opening closing more
one_piece opening closing types i e inner more opens closes none these =
    cond-true (is_in opening i.code) (pieces_from opening closing (Some (i ∷ [])) (inner ++ e ∷ more)) (pieces opening closing (inner ++ e ∷ more)) opens
    ∙ inside opening closing (i ∷ []) inner (e ∷ more) (none_closes closing types inner none these)
    ∙ cond-true (eqb e.code closing) ((i ∷ (inner ++ e ∷ [])) ∷ pieces opening closing more) (pieces_from opening closing (Some (i ∷ (inner ++ e ∷ []))) more) closes

-- ---- elements

-- the seven kinds of element
abbrev pub kinds : Grammar
kinds = boundary ∣ path ∣ sref ∣ aref ∣ label ∣ node ∣ box

with_element : (element : Option Element) (elements : List Element) (p : List Item) (ps : List (List Item)) → element_of p ≡ element → filter_map element_of ps ≡ elements
    → filter_map element_of (p ∷ ps) ≡ option_to_list element ++ elements
with_element None elements p ps one others = rw one others
with_element (Some x) elements p ps one others = rw one (ap (λ (es : List Element). x ∷ es) others)

-- one of the seven kinds, its properties and its end
pub kind_gives : (at form : ℕ) (none : List ℕ) (found : Option Element) (shape properties more : List Item) → In kinds (codes shape) → In (many property) (codes properties)
    → let e : Item = record { at = at; code = ENDEL; form = form; body = none } in element_of (shape ++ (properties ++ e ∷ [])) ≡ found → elements_in ((shape ++ (properties ++ e ∷ [])) ++ more) ≡ option_to_list found ++ elements_in more
unfolding property box node label aref sref path boundary turn head
kind_gives at form none found [] properties more kind others gives = absurd (true≢false (sym (nullable_empty kinds kind)))
kind_gives at form none found (i ∷ rest) properties more kind others gives =
    let e : Item = record { at = at; code = ENDEL; form = form; body = none } in
    let of_property = types_of (many property) properties others in
    let inner = types_of kinds (i ∷ rest) kind in
    let inside_types : List ℕ = types kinds ++ (PROPATTR ∷ PROPVALUE ∷ []) in
    let inner_types : AreOf inside_types (rest ++ properties) =
    are_of_both inside_types rest properties (are_of_left (types kinds) (PROPATTR ∷ PROPVALUE ∷ []) rest inner.1) (are_of_right (types kinds) (PROPATTR ∷ PROPVALUE ∷ []) properties of_property) in
    let lies : (rest ++ (properties ++ e ∷ [])) ++ more ≡ (rest ++ properties) ++ e ∷ more =
    append_assoc rest (properties ++ e ∷ []) more ∙ ap (λ (l : List Item). rest ++ l) (append_assoc properties (e ∷ []) more) ∙ sym (append_assoc rest properties (e ∷ more)) in
    ap (λ (l : List Item). elements_in (i ∷ l)) lies
    ∙ ap (filter_map element_of) (one_piece starts ENDEL inside_types i e (rest ++ properties) more (firsts_has kinds i.code (codes rest) kind) refl refl inner_types)
    ∙ with_element found (elements_in more) (i ∷ ((rest ++ properties) ++ e ∷ [])) (pieces starts ENDEL more)
    (ap (λ (l : List Item). element_of (i ∷ l)) (append_assoc rest properties (e ∷ [])) ∙ gives) refl

-- properties and the end stand behind one of the kinds
pub closes_element : (e : Item) (properties : List Item) → is_in (ENDEL ∷ []) e.code ≡ true → In (many property) (codes properties) → AreOf closing_types (properties ++ e ∷ [])
unfolding property
closes_element e properties is_end others =
    are_of_both closing_types properties (e ∷ []) (are_of_left (PROPATTR ∷ PROPVALUE ∷ []) (ENDEL ∷ []) properties (types_of (many property) properties others))
    (are_of_right (PROPATTR ∷ PROPVALUE ∷ []) (ENDEL ∷ []) (e ∷ []) (is_end, tt))

-- no elements, and elements with more behind them
pub no_elements : AreElements [] []
no_elements = λ more. refl

pub more_elements : (items others : List Item) (elements found : List Element) → AreElements items elements → AreElements others found → AreElements (items ++ others) (elements ++ found)
more_elements items others elements found these those = λ more.
    ap elements_in (append_assoc items others more) ∙ these (others ++ more) ∙ ap (λ (es : List Element). elements ++ es) (those more) ∙ sym (append_assoc elements found (elements_in more))

-- ---- structures

-- what the records of a structure give, from the one that begins it to the one that ends it
structure_of_parts : (b e form last : ℕ) (dates none : List ℕ) (n : ℕ) (name : List ℕ) (names skips middle : List Item) (elements : List Element)
    → IsOne n STRNAME name names → In (many skipped) (codes skips) → AreElements middle elements
    → let begins : Item = record { at = b; code = BGNSTR; form = form; body = dates } in
    let ends : Item = record { at = e; code = ENDSTR; form = last; body = none } in
    structure_of (begins ∷ (names ++ (skips ++ (middle ++ ends ∷ [])))) ≡ record { name = trim name; elements = elements }
unfolding skipped
structure_of_parts b e form last dates none n name names skips middle elements is_name others are =
    let ends : Item = record { at = e; code = ENDSTR; form = last; body = none } in
    let rest : List Item = skips ++ (middle ++ ends ∷ []) in
    let name_is = held_first STRNAME name names rest (held_one n STRNAME name names is_name) in
    let elements_are : elements_in (names ++ rest) ≡ elements =
    ap (filter_map element_of) (outside starts ENDEL (STRNAME ∷ []) names rest refl (one_of_type n STRNAME name names is_name)
    ∙ outside starts ENDEL (types (many skipped)) skips (middle ++ ends ∷ []) refl (types_of (many skipped) skips others))
    ∙ are (ends ∷ []) ∙ append-nil elements in
    λ i. record { name = trim (unwrap_or (name_is i) []); elements = elements_are i }

-- a structure whose first and last record are given
structure_between : (b e form last : ℕ) (dates none : List ℕ) (n : ℕ) (name : List ℕ) (names skips middle more : List Item) (elements : List Element)
    → IsOne n STRNAME name names → In (many skipped) (codes skips) → In (many element) (codes middle) → AreElements middle elements
    → let begins : Item = record { at = b; code = BGNSTR; form = form; body = dates } in
    let ends : Item = record { at = e; code = ENDSTR; form = last; body = none } in
    structures_in (begins ∷ ((names ++ (skips ++ (middle ++ ends ∷ []))) ++ more)) ≡ record { name = trim name; elements = elements } ∷ structures_in more
unfolding element property box node label aref sref path boundary turn head skipped
structure_between b e form last dates none n name names skips middle more elements is_name others words are =
    let begins : Item = record { at = b; code = BGNSTR; form = form; body = dates } in
    let ends : Item = record { at = e; code = ENDSTR; form = last; body = none } in
    let inner : List Item = names ++ (skips ++ middle) in
    let inside_types : List ℕ = (STRNAME ∷ []) ++ (types (many skipped) ++ types (many element)) in
    let those : AreOf (types (many skipped) ++ types (many element)) (skips ++ middle) =
    are_of_both (types (many skipped) ++ types (many element)) skips middle
    (are_of_left (types (many skipped)) (types (many element)) skips (types_of (many skipped) skips others))
    (are_of_right (types (many skipped)) (types (many element)) middle (types_of (many element) middle words)) in
    let these : AreOf inside_types inner =
    are_of_both inside_types names (skips ++ middle)
    (are_of_left (STRNAME ∷ []) (types (many skipped) ++ types (many element)) names (one_of_type n STRNAME name names is_name))
    (are_of_right (STRNAME ∷ []) (types (many skipped) ++ types (many element)) (skips ++ middle) those) in
    let lies : names ++ (skips ++ (middle ++ ends ∷ [])) ≡ inner ++ ends ∷ [] =
    sym (append_assoc names (skips ++ middle) (ends ∷ []) ∙ ap (λ (l : List Item). names ++ l) (append_assoc skips middle (ends ∷ []))) in
    ap (λ (l : List Item). structures_in (begins ∷ (l ++ more))) lies
    ∙ ap (λ (l : List Item). structures_in (begins ∷ l)) (append_assoc inner (ends ∷ []) more)
    ∙ ap (map structure_of) (one_piece (BGNSTR ∷ []) ENDSTR inside_types begins ends inner more refl refl refl these)
    ∙ ap (λ (s : Structure). s ∷ structures_in more)
    (ap (λ (l : List Item). structure_of (begins ∷ l)) (sym lies) ∙ structure_of_parts b e form last dates none n name names skips middle elements is_name others are)

pub structure_gives : (b n e : ℕ) (dates name none : List ℕ) (begins names skips middle ends : List Item) (elements : List Element)
    → IsOne b BGNSTR dates begins → IsOne n STRNAME name names → In (many skipped) (codes skips) → In (many element) (codes middle) → AreElements middle elements → IsOne e ENDSTR none ends
    → AreStructures (begins ++ (names ++ (skips ++ (middle ++ ends)))) (record { name = trim name; elements = elements } ∷ [])
structure_gives b n e dates name none begins names skips middle ends elements is_begin is_name others words are is_end = λ more.
    subst (λ (l : List Item). structures_in ((l ++ (names ++ (skips ++ (middle ++ ends)))) ++ more) ≡ record { name = trim name; elements = elements } ∷ structures_in more) (sym is_begin.1)
    (ap (λ (l : List Item). structures_in ((record { at = b; code = BGNSTR; form = is_begin.0; body = dates } ∷ (names ++ (skips ++ (middle ++ l)))) ++ more)) is_end.1
    ∙ structure_between b e is_begin.0 is_end.0 dates none n name names skips middle more elements is_name others words are)

-- no structures, and structures with more behind them
pub no_structures : AreStructures [] []
no_structures = λ more. refl

pub more_structures : (items others : List Item) (structures found : List Structure) → AreStructures items structures → AreStructures others found → AreStructures (items ++ others) (structures ++ found)
more_structures items others structures found these those = λ more.
    ap structures_in (append_assoc items others more) ∙ these (others ++ more) ∙ ap (λ (ss : List Structure). structures ++ ss) (those more) ∙ sym (append_assoc structures found (structures_in more))

-- ---- the library

abbrev part : List ℕ → List Item → Part
part of items = record { codes = of; items = items }

-- the records before the structures give none
front_gives_none : (h b n u : ℕ) (version dates name units : List ℕ) (headers begins skips names others unit_items more : List Item)
    → IsOne h HEADER version headers → IsOne b BGNLIB dates begins → In (many skipped) (codes skips) → IsOne n LIBNAME name names → In (many skipped) (codes others) → IsOne u UNITS units unit_items
    → structures_in (headers ++ (begins ++ (skips ++ (names ++ (others ++ (unit_items ++ more)))))) ≡ structures_in more
unfolding skipped
front_gives_none h b n u version dates name units headers begins skips names others unit_items more is_header is_begin are_skipped is_name are_others is_units =
    ap (map structure_of)
    (outside (BGNSTR ∷ []) ENDSTR (HEADER ∷ []) headers (begins ++ (skips ++ (names ++ (others ++ (unit_items ++ more))))) refl (one_of_type h HEADER version headers is_header)
    ∙ outside (BGNSTR ∷ []) ENDSTR (BGNLIB ∷ []) begins (skips ++ (names ++ (others ++ (unit_items ++ more)))) refl (one_of_type b BGNLIB dates begins is_begin)
    ∙ outside (BGNSTR ∷ []) ENDSTR (types (many skipped)) skips (names ++ (others ++ (unit_items ++ more))) refl (types_of (many skipped) skips are_skipped)
    ∙ outside (BGNSTR ∷ []) ENDSTR (LIBNAME ∷ []) names (others ++ (unit_items ++ more)) refl (one_of_type n LIBNAME name names is_name)
    ∙ outside (BGNSTR ∷ []) ENDSTR (types (many skipped)) others (unit_items ++ more) refl (types_of (many skipped) others are_others)
    ∙ outside (BGNSTR ∷ []) ENDSTR (UNITS ∷ []) unit_items more refl (one_of_type u UNITS units unit_items is_units))

-- the library of a whole stream's records
pub library_gives : (h b n u e : ℕ) (version dates name units none : List ℕ) (headers begins skips names others unit_items middle ends : List Item) (structures : List Structure)
    → IsOne h HEADER version headers → IsOne b BGNLIB dates begins → In (many skipped) (codes skips) → IsOne n LIBNAME name names → In (many skipped) (codes others) → IsOne u UNITS units unit_items
    → In (many structure) (codes middle) → AreStructures middle structures → IsOne e ENDLIB none ends
    → library_of (headers ++ (begins ++ (skips ++ (names ++ (others ++ (unit_items ++ (middle ++ ends))))))) ≡ record { name = trim name; units = units; structures = structures }
unfolding library_of structure element property box node label aref sref path boundary turn head skipped
library_gives h b n u e version dates name units none headers begins skips names others unit_items middle ends structures is_header is_begin are_skipped is_name are_others is_units words are is_end =
    let parts : List Part =
    part (HEADER ∷ []) headers ∷ part (BGNLIB ∷ []) begins ∷ part (types (many skipped)) skips ∷ part (LIBNAME ∷ []) names ∷ part (types (many skipped)) others
    ∷ part (UNITS ∷ []) unit_items ∷ part (types (many structure)) middle ∷ part (ENDLIB ∷ []) ends ∷ [] in
    let are_parts : AllByRecursion ArePart parts = (
      one_of_type h HEADER version headers is_header,
      (
        one_of_type b BGNLIB dates begins is_begin,
        (
          types_of (many skipped) skips are_skipped,
          (
            one_of_type n LIBNAME name names is_name,
            (types_of (many skipped) others are_others, (one_of_type u UNITS units unit_items is_units, (types_of (many structure) middle words, (one_of_type e ENDLIB none ends is_end, tt)))),
          ),
        ),
      ),
    ) in
    let name_is = held_part LIBNAME parts refl are_parts ∙ held_one n LIBNAME name names is_name in
    let units_are = held_part UNITS parts refl are_parts ∙ held_one u UNITS units unit_items is_units in
    let behind : structures_in ends ≡ [] =
    ap structures_in (sym (append-nil ends)) ∙ ap (map structure_of) (outside (BGNSTR ∷ []) ENDSTR (ENDLIB ∷ []) ends [] refl (one_of_type e ENDLIB none ends is_end)) in
    let structures_are : structures_in (joined parts) ≡ structures =
    front_gives_none h b n u version dates name units headers begins skips names others unit_items (middle ++ ends) is_header is_begin are_skipped is_name are_others is_units
    ∙ are ends ∙ ap (λ (ss : List Structure). structures ++ ss) behind ∙ append-nil structures in
    λ i. record { name = trim (unwrap_or (name_is i) []); units = unwrap_or (units_are i) []; structures = structures_are i }
