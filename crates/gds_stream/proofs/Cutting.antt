-- What pieces of records give: elements, structures, a library.
use Rattle.std.proofs.Common.{◌≡◌, ℕ, true, false, eqb, List, [], ◌∷◌, ◌++◌, map, Option, Some, None, option_to_list, refl, sym, ap, ap₂, ◌∙◌, subst, append_assoc, append-nil}
use Rattle.std.specs.List.{cons_option, filter_map}
use Rattle.std.proofs.lemmas.Bool.{cond_both, cond-true, cond-false, eq-eqb, eqb-false, ne_eqb, or_from}
use Rattle.gds_records.specs.declared.types.TheConstants.{HEADER, BGNLIB, LIBNAME, ENDLIB, UNITS, BGNSTR, STRNAME, ENDSTR, ENDEL, LAYER, DATATYPE, WIDTH, XY, SNAME, COLROW, TEXTTYPE, STRING, STRANS, MAG, ANGLE, PATHTYPE, BOXTYPE}
use Rattle.gds_records.specs.Records.{Item}
use Rattle.gds_grammar.specs.Conditions.{is_in, starts, trim}
use Rattle.gds_stream.specs.declared.library.Element.{Element}
use Rattle.gds_stream.specs.declared.library.Structure.{Structure}
use Rattle.gds_stream.specs.Contents.{held, pieces_from, element_of, elements_in, structure_of, library_of}
use Rattle.gds_stream.specs.Gives.{IsOne, IsShape, AddsElement, AddElements, AddsStructure, AddStructures, structures_in}
use Rattle.gds_stream.specs.Rests.{GivesContents}
use Rattle.gds_stream.specs.declared.library.Library.{Library}
use Rattle.gds_stream.proofs.Lacking.{or_else, held-append, same_held}
use Rattle.gds_stream.proofs.Values.{Nothing, Only}

-- a record of another type before others
held_cons : (code : ℕ) (i : Item) (items : List Item) → held code (i ∷ items) ≡ None → (eqb i.code code ≡ false) × (held code items ≡ None)
held_cons code i items =
    cond_both (eqb i.code code) (Some i.body) (held code items) (λ o. o ≡ None → (eqb i.code code ≡ false) × (held code items ≡ None))
    (λ e is. absurd (let clash : Some i.body ≡ None = is in cc))
    (λ e is. (e, is))

-- no record of these types
abbrev pub Absent : List ℕ → List Item → Type 0
Absent [] items = Unit {0}
Absent (code ∷ codes) items = (held code items ≡ None) × Absent codes items

other : (a b : ℕ) → eqb a b ≡ false → eqb b a ≡ false
other a b different = ne_eqb b a (λ e. eqb-false a b different (sym e))

absent_head : (codes : List ℕ) (i : Item) (items : List Item) → Absent codes (i ∷ items) → is_in codes i.code ≡ false
absent_head [] i items is = refl
absent_head (code ∷ codes) i items is =
    or_from (eqb code i.code) (is_in codes i.code) (other i.code code (held_cons code i items is.0).0) (absent_head codes i items is.1)

absent_tail : (codes : List ℕ) (i : Item) (items : List Item) → Absent codes (i ∷ items) → Absent codes items
absent_tail [] i items is = tt
absent_tail (code ∷ codes) i items is = ((held_cons code i items is.0).1, absent_tail codes i items is.1)

-- records of which none opens a piece are passed
pub passed : (opening : List ℕ) (closing : ℕ) (items rest : List Item) → Absent opening items → pieces_from opening closing None (items ++ rest) ≡ pieces_from opening closing None rest
passed opening closing [] rest is = refl
passed opening closing (i ∷ items) rest is =
    cond-false (is_in opening i.code) _ _ (absent_head opening i items is) ∙ passed opening closing items rest (absent_tail opening i items is)

-- a piece closes
closed : (opening : List ℕ) (closing : ℕ) (piece middle rest : List Item) (e : Item) → held closing middle ≡ None → e.code ≡ closing
    → pieces_from opening closing (Some piece) (middle ++ e ∷ rest) ≡ (piece ++ middle ++ e ∷ []) ∷ pieces_from opening closing None rest
closed opening closing piece [] rest e none is =
    cond-true (eqb e.code closing) _ _ (eq-eqb e.code closing is) ∙ ap (λ (p : List Item). (p ++ e ∷ []) ∷ pieces_from opening closing None rest) (sym (append-nil piece))
closed opening closing piece (i ∷ middle) rest e none is =
    let parts = held_cons closing i middle none in
    cond-false (eqb i.code closing) _ _ parts.0
    ∙ closed opening closing (piece ++ i ∷ []) middle rest e parts.1 is
    ∙ ap (λ (p : List Item). (p ++ e ∷ []) ∷ pieces_from opening closing None rest) (append_assoc piece (i ∷ []) middle)

-- a piece from its first record to its last
pub whole : (opening : List ℕ) (closing : ℕ) (first last : Item) (middle rest : List Item) → is_in opening first.code ≡ true → held closing middle ≡ None → last.code ≡ closing
    → pieces_from opening closing None (first ∷ (middle ++ last ∷ rest)) ≡ (first ∷ (middle ++ last ∷ [])) ∷ pieces_from opening closing None rest
whole opening closing first last middle rest opens none closes =
    cond-true (is_in opening first.code) _ _ opens ∙ closed opening closing (first ∷ []) middle rest last none closes

-- what is looked up in an element isn't behind it
pub same_element : (first : Item) (items more : List Item) → Nothing more → element_of (first ∷ (items ++ more)) ≡ element_of (first ∷ items)
same_element first items more lack =
    let all : List Item = items in
    simp (
      same_held LAYER all more lack.layer,
      same_held DATATYPE all more lack.datatype,
      same_held TEXTTYPE all more lack.texttype,
      same_held BOXTYPE all more lack.boxtype,
      same_held PATHTYPE all more lack.pathtype,
      same_held WIDTH all more lack.width,
      same_held XY all more lack.xy,
      same_held SNAME all more lack.sname,
      same_held COLROW all more lack.colrow,
      same_held STRING all more lack.string,
      same_held STRANS all more lack.strans,
      same_held MAG all more lack.mag,
      same_held ANGLE all more lack.angle,
    ) refl

-- ---- an element

nothing_ends : (at form : ℕ) (body : List ℕ) (items : List Item) → Nothing items → Nothing (items ++ record { at = at; code = ENDEL; form = form; body = body } ∷ [])
nothing_ends at form body items lack =
    let last : List Item = record { at = at; code = ENDEL; form = form; body = body } ∷ [] in
    let none : (code : ℕ) → held code items ≡ None → held code last ≡ None → held code (items ++ last) ≡ None = λ code a b. held-append code items last ∙ ap₂ or_else a b in
    record {
      layer = none LAYER lack.layer refl;
      datatype = none DATATYPE lack.datatype refl;
      texttype = none TEXTTYPE lack.texttype refl;
      boxtype = none BOXTYPE lack.boxtype refl;
      pathtype = none PATHTYPE lack.pathtype refl;
      width = none WIDTH lack.width refl;
      xy = none XY lack.xy refl;
      sname = none SNAME lack.sname refl;
      colrow = none COLROW lack.colrow refl;
      string = none STRING lack.string refl;
      strans = none STRANS lack.strans refl;
      mag = none MAG lack.mag refl;
      angle = none ANGLE lack.angle refl;
    }

regroup : (a b more : List Item) (last : Item) → (a ++ (b ++ last ∷ [])) ++ more ≡ (a ++ b) ++ last ∷ more
regroup a b more last =
    append_assoc a (b ++ last ∷ []) more
    ∙ ap (λ (l : List Item). a ++ l) (append_assoc b (last ∷ []) more)
    ∙ sym (append_assoc a b (last ∷ more))

neither : (code : ℕ) (a b : List Item) → held code a ≡ None → held code b ≡ None → held code (a ++ b) ≡ None
neither code a b no_a no_b = held-append code a b ∙ ap₂ or_else no_a no_b

element_cut : (first : Item) (at form : ℕ) (body : List ℕ) (middle properties more : List Item) (o : Option Element) → is_in starts first.code ≡ true → element_of (first ∷ middle) ≡ o
    → held ENDEL (first ∷ middle) ≡ None → held ENDEL properties ≡ None → Nothing properties
    → elements_in ((first ∷ (middle ++ (properties ++ record { at = at; code = ENDEL; form = form; body = body } ∷ []))) ++ more) ≡ cons_option o (elements_in more)
element_cut first at form body middle properties more o begins gives no_end none lack =
    let last : Item = record { at = at; code = ENDEL; form = form; body = body } in
    let open_still = neither ENDEL middle properties (held_cons ENDEL first middle no_end).1 none in
    let cut = whole starts ENDEL first last (middle ++ properties) more begins open_still refl in
    let piece : element_of (first ∷ ((middle ++ properties) ++ last ∷ [])) ≡ o =
    ap (λ (l : List Item). element_of (first ∷ l)) (append_assoc middle properties (last ∷ []))
    ∙ same_element first middle (properties ++ last ∷ []) (nothing_ends at form body properties lack)
    ∙ gives in
    ap (λ (l : List Item). elements_in (first ∷ l)) (regroup middle properties more last)
    ∙ ap (λ (ps : List (List Item)). filter_map element_of ps) cut
    ∙ ap (λ (e : Option Element). cons_option e (elements_in more)) piece

-- a shape, properties and an end are an element
pub element_adds : (s p e : List Item) (o : Option Element) (at : ℕ) (body : List ℕ) → IsShape s o → held ENDEL s ≡ None → held ENDEL p ≡ None → Nothing p → IsOne at ENDEL body e → AddsElement (s ++ (p ++ e)) o
element_adds s p e o at body is_s no_end none lack is_e =
    let Adds : List Item → List Item → Type 0 = λ a z. AddsElement (a ++ (p ++ z)) o in
    let last : List Item = record { at = at; code = ENDEL; form = is_e.0; body = body } ∷ [] in
    let with_first : Adds (is_s.first ∷ is_s.more) last =
    record {
      adds = λ more.
          element_cut is_s.first at is_e.0 body is_s.more p more o is_s.starts (ap element_of (sym is_s.begins) ∙ is_s.gives)
          (ap (held ENDEL) (sym is_s.begins) ∙ no_end) none lack;
    } in
    subst (λ (z : List Item). Adds s z) (sym is_e.1) (subst (λ (a : List Item). Adds a last) (sym is_s.begins) with_first)

-- ---- elements

pub no_elements : AddElements [] []
no_elements = record { add = λ more. refl }

cons_list : (o : Option Element) (elements : List Element) → cons_option o elements ≡ option_to_list o ++ elements
cons_list None elements = refl
cons_list (Some e) elements = refl

pub one_more_element : (items one : List Item) (elements : List Element) (o : Option Element) → AddElements items elements → AddsElement one o → AddElements (items ++ one) (elements ++ option_to_list o)
one_more_element items one elements o are is = record {
  add = λ more.
      ap elements_in (append_assoc items one more)
      ∙ are.add (one ++ more)
      ∙ ap (λ (es : List Element). elements ++ es) (is.adds more ∙ cons_list o (elements_in more))
      ∙ sym (append_assoc elements (option_to_list o) (elements_in more));
}

-- ---- a structure

structure_cut : (a1 f1 a2 f2 a3 f3 : ℕ) (b1 name b3 : List ℕ) (skips es more : List Item) (elements : List Element) → Absent starts skips → held ENDSTR skips ≡ None → AddElements es elements → held ENDSTR es ≡ None
    → structures_in ((record { at = a1; code = BGNSTR; form = f1; body = b1 } ∷ (record { at = a2; code = STRNAME; form = f2; body = name } ∷ (skips ++ (es ++ record { at = a3; code = ENDSTR; form = f3; body = b3 } ∷ [])))) ++ more)
    ≡ record { name = trim name; elements = elements } ∷ structures_in more
structure_cut a1 f1 a2 f2 a3 f3 b1 name b3 skips es more elements no_start open_skips are open_es =
    let first : Item = record { at = a1; code = BGNSTR; form = f1; body = b1 } in
    let second : Item = record { at = a2; code = STRNAME; form = f2; body = name } in
    let last : Item = record { at = a3; code = ENDSTR; form = f3; body = b3 } in
    let cut = whole (BGNSTR ∷ []) ENDSTR first last (second ∷ (skips ++ es)) more refl (neither ENDSTR skips es open_skips open_es) refl in
    let inside : elements_in ((skips ++ es) ++ last ∷ []) ≡ elements =
    ap elements_in (append_assoc skips es (last ∷ []))
    ∙ ap (filter_map element_of) (passed starts ENDEL skips (es ++ last ∷ []) no_start)
    ∙ are.add (last ∷ [])
    ∙ append-nil elements in
    ap (λ (l : List Item). structures_in (first ∷ (second ∷ l))) (regroup skips es more last)
    ∙ ap (map structure_of) cut
    ∙ ap (λ (es : List Element). let s : Structure = record { name = trim name; elements = es } in s ∷ structures_in more) inside

pub structure_adds : (b n k s e : List Item) (a1 a2 a3 : ℕ) (b1 name b3 text : List ℕ) (elements : List Element) → IsOne a1 BGNSTR b1 b → IsOne a2 STRNAME name n → Absent starts k → held ENDSTR k ≡ None
    → AddElements s elements → held ENDSTR s ≡ None → IsOne a3 ENDSTR b3 e → text ≡ trim name → AddsStructure (b ++ (n ++ (k ++ (s ++ e)))) (record { name = text; elements = elements })
structure_adds b n k s e a1 a2 a3 b1 name b3 text elements is_b is_n no_start open_k are open_s is_e is_text =
    let St : List ℕ → Structure = λ t. record { name = t; elements = elements } in
    let last : List Item = record { at = a3; code = ENDSTR; form = is_e.0; body = b3 } ∷ [] in
    let second : List Item = record { at = a2; code = STRNAME; form = is_n.0; body = name } ∷ [] in
    let first : List Item = record { at = a1; code = BGNSTR; form = is_b.0; body = b1 } ∷ [] in
    let made : AddsStructure (first ++ (second ++ (k ++ (s ++ last)))) (St (trim name)) =
    record { adds = λ more. structure_cut a1 is_b.0 a2 is_n.0 a3 is_e.0 b1 name b3 k s more elements no_start open_k are open_s } in
    subst (λ (t : List ℕ). AddsStructure (b ++ (n ++ (k ++ (s ++ e)))) (St t)) (sym is_text)
    (subst (λ (x : List Item). AddsStructure (x ++ (n ++ (k ++ (s ++ e)))) (St (trim name))) (sym is_b.1)
    (subst (λ (x : List Item). AddsStructure (first ++ (x ++ (k ++ (s ++ e)))) (St (trim name))) (sym is_n.1)
    (subst (λ (x : List Item). AddsStructure (first ++ (second ++ (k ++ (s ++ x)))) (St (trim name))) (sym is_e.1) made)))

-- ---- structures

pub no_structures : AddStructures [] []
no_structures = record { add = λ more. refl }

pub one_more_structure : (items one : List Item) (structures : List Structure) (s : Structure) → AddStructures items structures → AddsStructure one s → AddStructures (items ++ one) (structures ++ s ∷ [])
one_more_structure items one structures s are is = record {
  add = λ more.
      ap structures_in (append_assoc items one more)
      ∙ are.add (one ++ more)
      ∙ ap (λ (ss : List Structure). structures ++ ss) (is.adds more)
      ∙ sym (append_assoc structures (s ∷ []) (structures_in more));
}

-- ---- a library

-- records that hold nothing of a library
pub record Quiet (items : List Item) : Type 0 where
  pub libname : held LIBNAME items ≡ None
  pub units : held UNITS items ≡ None
  pub bgnstr : held BGNSTR items ≡ None

skip_piece : (items rest : List Item) → held BGNSTR items ≡ None → structures_in (items ++ rest) ≡ structures_in rest
skip_piece items rest none = ap (map structure_of) (passed (BGNSTR ∷ []) ENDSTR items rest (none, tt))

pub contents_are : (u s e : List Item) (c8 name reals text units : List ℕ) (structures : List Structure) → Only UNITS (Some reals) u → AddStructures s structures → Only ENDLIB (Some c8) e → text ≡ trim name → units ≡ reals
    → GivesContents name (u ++ (s ++ e)) (record { name = text; units = units; structures = structures })
contents_are u s e c8 name reals text units structures is_u are is_e is_text are_units =
    let has_units : held UNITS (u ++ (s ++ e)) ≡ Some reals = simp (held-append, is_u.held_is) refl in
    let has_structures : structures_in (u ++ (s ++ e)) ≡ structures =
    skip_piece u (s ++ e) (is_u.held_is BGNSTR)
    ∙ are.add e
    ∙ ap (λ (ss : List Structure). structures ++ ss) (ap structures_in (sym (append-nil e)) ∙ skip_piece e [] (is_e.held_is BGNSTR))
    ∙ append-nil structures in
    rw (is_text, are_units, has_units, has_structures) refl

pub library_is : (h b k l j r : List Item) (c1 c2 name : List ℕ) (library : Library) → Only HEADER (Some c1) h → Only BGNLIB (Some c2) b → Quiet k → Only LIBNAME (Some name) l → Quiet j → GivesContents name r library
    → library ≡ library_of (h ++ (b ++ (k ++ (l ++ (j ++ r)))))
unfolding library_of
library_is h b k l j r c1 c2 name library is_h is_b no_k is_l no_j is =
    let items : List Item = h ++ (b ++ (k ++ (l ++ (j ++ r)))) in
    let has_name : held LIBNAME items ≡ Some name = simp (held-append, is_h.held_is, is_b.held_is, no_k.libname, is_l.held_is) refl in
    let has_units : held UNITS items ≡ held UNITS r = simp (held-append, is_h.held_is, is_b.held_is, no_k.units, is_l.held_is, no_j.units) refl in
    let has_structures : structures_in items ≡ structures_in r =
    skip_piece h (b ++ (k ++ (l ++ (j ++ r)))) (is_h.held_is BGNSTR)
    ∙ skip_piece b (k ++ (l ++ (j ++ r))) (is_b.held_is BGNSTR)
    ∙ skip_piece k (l ++ (j ++ r)) no_k.bgnstr
    ∙ skip_piece l (j ++ r) (is_l.held_is BGNSTR)
    ∙ skip_piece j r no_j.bgnstr in
    is ∙ rw (has_name, has_units, has_structures) refl
