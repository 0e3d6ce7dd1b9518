-- What a stream holds is lawful.
use Rattle.std.proofs.Common.{◌≡◌, ◌≢◌, ℕ, zero, suc, ◌<◌, ◌≤◌, true, false, eqb, inl, inr, List, [], ◌∷◌, ◌++◌, map, length, All, Option, Some, None, IfSome, refl, sym, ap, ◌∙◌, subst, append-nil, arith}
use Rattle.std.specs.Prelude.{AllPairs, unwrap_or}
use Rattle.std.specs.List.{concat, AllByRecursion}
use Rattle.std.specs.Option.{option_to_list}
use Rattle.std.proofs.lemmas.Bool.{cond-true, cond-false, cases_Bool, OnTrue_at, both_ways, false_from_ne_true, eqb-true, eq-eqb}
use Rattle.std.proofs.lemmas.List.{map-append, get_or-map, length-map}
use Rattle.std.proofs.lemmas.List.Elements.{All-nil, All-append, All-from_recursion, filter_map-append}
use Rattle.gds_records.specs.declared.types.TheConstants.{HEADER, BGNLIB, LIBNAME, UNITS, ENDLIB, BGNSTR, STRNAME, ENDSTR, ENDEL, BOUNDARY, PATH, SREF, AREF, TEXT, NODE, BOX, XY, SNAME, LAYER, DATATYPE, WIDTH, COLROW, TEXTTYPE, PRESENTATION, STRING, PATHTYPE, NODETYPE, BOXTYPE, BGNEXTN, ENDEXTN}
use Rattle.gds_records.specs.Records.{Item, Framed}
use Rattle.gds_grammar.specs.Grammar.{Grammar, ◌‣◌, many, type, maybe, In}
use Rattle.gds_grammar.specs.Format.{skipped, head, turn, boundary, path, sref, aref, label, node, box, property, element, structure, stream}
use Rattle.gds_grammar.specs.Conditions.{is_in, starts, kind_after, trim, without_zero, name_in, names_in, Counted, InContext, AreCountedPoints, AreStream}
use Rattle.gds_grammar.proofs.Following.{codes}
use Rattle.gds_grammar.proofs.GrammarLaws.{is_in_left}
use Rattle.gds_grammar.proofs.Last.{types}
use Rattle.gds_stream.specs.declared.library.Element.{Element}
use Rattle.gds_stream.specs.declared.library.Structure.{Structure}
use Rattle.gds_stream.specs.declared.library.Library.{Library}
use Rattle.gds_stream.specs.Contents.{held, data_at, element_of, library_of, Stream}
use Rattle.gds_stream_laws.specs.Values.{AreOf, closing_types, AreElements, AreStructures}
use Rattle.gds_stream_laws.specs.Lawful.{IsLawfulElement, IsLawfulStructure, IsLawful}
use Rattle.gds_stream_laws.proofs.Held.{one_of_type, are_of_both, are_of_left, are_of_right}
use Rattle.gds_stream_laws.proofs.Words.{types_of}
use Rattle.gds_stream_laws.proofs.PieceValues.{kinds, apart, kind_gives, closes_element, no_elements, more_elements, structure_gives, no_structures, more_structures, library_gives}
use Rattle.gds_stream_laws.proofs.PointCounts.{polygon, two_or_more, three_points}
use Rattle.gds_stream_laws.proofs.Contexts.{split, no_items, both, Single, single, is_one, always, always_has, context_left, context_right, Owes, owes}

-- ---- data that fit a record

one_more_byte : (b : ℕ) (bytes : List ℕ) → length (without_zero b bytes) ≤ suc (length bytes)
one_more_byte zero [] = omega arith
one_more_byte (suc b) [] = omega arith
one_more_byte zero (c ∷ bytes) = omega arith
one_more_byte (suc b) (c ∷ bytes) = omega arith

trim_short : (bytes : List ℕ) → length (trim bytes) ≤ length bytes
trim_short [] = omega arith
trim_short (b ∷ bytes) = let shorter = trim_short bytes in let one = one_more_byte b (trim bytes) in omega (arith, shorter, one)

-- the data of a type fit a record
data_short : (code : ℕ) (kind : Option ℕ) (items : List Item) → InContext kind items → length (data_at code items) ≤ 65530
data_short code kind [] each = omega arith
data_short code kind (i ∷ items) each =
    let Short : Option (List ℕ) → Type 0 = λ o. length (unwrap_or o []) ≤ 65530 in
    elim (cases_Bool (eqb i.code code)) [
      | inl same ↦ subst Short (sym (cond-true (eqb i.code code) (Some i.body) (held code items) same)) each.0.short
      | inr differs ↦ subst Short (sym (cond-false (eqb i.code code) (Some i.body) (held code items) differs)) (data_short code (kind_after kind i) items each.3)
    ]

-- and so does the text that they are
text_short : (items : List Item) → length (data_at STRING items) ≤ 65530 → length (trim (data_at STRING items)) ≤ 65530
text_short items short = omega (arith, trim_short (data_at STRING items), short)

-- ---- elements

-- the points of an element are counted
counted_at : (code : ℕ) (items : List Item) (body : List ℕ) → held XY items ≡ Some body → Owes (Some code) XY body → AreCountedPoints (Some code) (data_at XY items)
counted_at code items body is owes_it =
    let Points : List ℕ → Type 0 = AreCountedPoints (Some code) in
    subst Points (sym (ap (λ (o : Option (List ℕ)). unwrap_or o []) is))
    (subst Points owes_it.is_body (OnTrue_at (ap (λ (c : ℕ). eqb c XY) owes_it.of_type) owes_it.counted.points))

-- an element of one kind is lawful, if it is where its points are counted and its text fits a record
of_kind : (code : ℕ) (g : Grammar) (k : Option ℕ) (shape behind : List Item) → is_in starts code ≡ true → always XY g ≡ true → apart (types g ++ closing_types) starts ≡ true
    → ((at form : ℕ) (body : List ℕ) (items : List Item) → AreCountedPoints (Some code) (data_at XY items) → length (data_at STRING items) ≤ 65530
    → IfSome (element_of (record { at = at; code = code; form = form; body = body } ∷ items)) IsLawfulElement)
    → In (type code ‣ g) (codes shape) → InContext k (shape ++ behind) → AreOf closing_types behind → IfSome (element_of (shape ++ behind)) IsLawfulElement
of_kind code g k shape behind begins has_xy none enough word each closing =
    let parts = both (type code) g shape word in
    let start = single code parts.first parts.is_first in
    let i : Item = start.item in
    let rest : List Item = parts.second in
    let lies : shape ++ behind ≡ i ∷ (rest ++ behind) = ap (λ (l : List Item). l ++ behind) (parts.whole ∙ ap (λ (l : List Item). l ++ rest) start.whole) in
    let there : InContext k (i ∷ (rest ++ behind)) = subst (InContext k) lies each in
    let opens : is_in starts i.code ≡ true = ap (is_in starts) start.of_type ∙ begins in
    let inner : InContext (Some code) (rest ++ behind) =
    subst (λ (o : Option ℕ). InContext o (rest ++ behind)) (cond-true (is_in starts i.code) (Some i.code) k opens ∙ ap Some start.of_type) there.3 in
    let these : AreOf (types g ++ closing_types) (rest ++ behind) =
    are_of_both (types g ++ closing_types) rest behind (are_of_left (types g) closing_types rest (types_of g rest parts.is_second)) (are_of_right (types g) closing_types behind closing) in
    let xy : is_in (codes (rest ++ behind)) XY ≡ true =
    ap (λ (l : List ℕ). is_in l XY) (map-append (λ (j : Item). j.code) rest behind) ∙ is_in_left (codes rest) (codes behind) XY (always_has XY g (codes rest) has_xy parts.is_second) in
    let owed = owes XY (Some code) (types g ++ closing_types) (rest ++ behind) none these inner xy in
    let Fine : List Item → Type 0 = λ l. IfSome (element_of l) IsLawfulElement in
    let at_code : Fine (record i { code = code } ∷ (rest ++ behind)) = enough i.at i.form i.body (rest ++ behind) (counted_at code (rest ++ behind) owed.0 owed.1 owed.2)
    (data_short STRING (Some code) (rest ++ behind) inner) in
    subst Fine (sym lies) (subst (λ (n : ℕ). Fine (record i { code = n } ∷ (rest ++ behind))) (sym start.of_type) at_code)

-- an element is lawful
kind_lawful : (k : Option ℕ) (shape behind : List Item) → In kinds (codes shape) → InContext k (shape ++ behind) → AreOf closing_types behind → IfSome (element_of (shape ++ behind)) IsLawfulElement
unfolding box node label aref sref path boundary turn head
kind_lawful k shape behind (inl word) = of_kind BOUNDARY (head ‣ type LAYER ‣ type DATATYPE ‣ type XY) k shape behind refl refl refl (λ at form body items counted text. polygon (data_at XY items) counted) word
kind_lawful k shape behind (inr (inl word)) =
    of_kind PATH (head ‣ type LAYER ‣ type DATATYPE ‣ maybe (type PATHTYPE) ‣ maybe (type WIDTH) ‣ maybe (type BGNEXTN) ‣ maybe (type ENDEXTN) ‣ type XY) k shape behind refl refl refl
    (λ at form body items counted text. two_or_more (data_at XY items) counted) word
kind_lawful k shape behind (inr (inr (inl word))) = of_kind SREF (head ‣ type SNAME ‣ maybe turn ‣ type XY) k shape behind refl refl refl (λ at form body items counted text. tt) word
kind_lawful k shape behind (inr (inr (inr (inl word)))) =
    of_kind AREF (head ‣ type SNAME ‣ maybe turn ‣ type COLROW ‣ type XY) k shape behind refl refl refl (λ at form body items counted text. three_points (data_at XY items) counted) word
kind_lawful k shape behind (inr (inr (inr (inr (inl word))))) =
    of_kind TEXT (head ‣ type LAYER ‣ type TEXTTYPE ‣ maybe (type PRESENTATION) ‣ maybe (type PATHTYPE) ‣ maybe (type WIDTH) ‣ maybe turn ‣ type XY ‣ type STRING) k shape behind refl refl refl
    (λ at form body items counted text. text_short items text) word
kind_lawful k shape behind (inr (inr (inr (inr (inr (inl word)))))) = of_kind NODE (head ‣ type LAYER ‣ type NODETYPE ‣ type XY) k shape behind refl refl refl (λ at form body items counted text. tt) word
kind_lawful k shape behind (inr (inr (inr (inr (inr (inr word)))))) = of_kind BOX (head ‣ type LAYER ‣ type BOXTYPE ‣ type XY) k shape behind refl refl refl (λ at form body items counted text. tt) word

-- records that give lawful elements
record HasElements (items : List Item) : Type 0 where
  elements : List Element
  are : AreElements items elements
  lawful : All IsLawfulElement elements

listed_lawful : (found : Option Element) → IfSome found IsLawfulElement → All IsLawfulElement (option_to_list found)
listed_lawful None lawful = All-nil IsLawfulElement
listed_lawful (Some x) lawful = All-from_recursion IsLawfulElement (x ∷ []) (lawful, tt)

one_element : (k : Option ℕ) (items : List Item) → In element (codes items) → InContext k items → HasElements items
unfolding element
one_element k items word each =
    let parts = both kinds (many property ‣ type ENDEL) items word in
    let tail = both (many property) (type ENDEL) parts.second parts.is_second in
    let last = single ENDEL tail.second tail.is_second in
    let is_end = is_one ENDEL tail.second last in
    let e : Item = record last.item { code = ENDEL; form = is_end.0 } in
    let behind : List Item = tail.first ++ e ∷ [] in
    let lies : items ≡ parts.first ++ behind = parts.whole ∙ ap (λ (l : List Item). parts.first ++ l) (tail.whole ∙ ap (λ (l : List Item). tail.first ++ l) is_end.1) in
    let found : Option Element = element_of (parts.first ++ behind) in
    let is_lawful : IfSome found IsLawfulElement = kind_lawful k parts.first behind parts.is_first (subst (InContext k) lies each) (closes_element e tail.first refl tail.is_first) in
    record {
      elements = option_to_list found;
      are = subst (λ (l : List Item). AreElements l (option_to_list found)) (sym lies) (λ more. kind_gives e.at e.form e.body found parts.first tail.first more parts.is_first tail.is_first refl);
      lawful = listed_lawful found is_lawful;
    }

-- ---- the same of each of many words

many_hold : (a : Grammar) (Holds : List Item → Type 0) → Holds [] → ((first second : List Item) → Holds first → Holds second → Holds (first ++ second))
    → ((k : Option ℕ) (items : List Item) → In a (codes items) → InContext k items → Holds items)
    → (us : List (List ℕ)) (k : Option ℕ) (items : List Item) → AllByRecursion (In a) us → codes items ≡ concat us → InContext k items → Holds items
many_hold a Holds none more one [] k items words e each = subst Holds (sym (no_items items e)) none
many_hold a Holds none more one (u ∷ us) k items words e each =
    let parts = split items u (concat us) e in
    let there : InContext k (parts.first ++ parts.second) = subst (InContext k) parts.whole each in
    let further = context_right k parts.first parts.second there in
    subst Holds (sym parts.whole)
    (more parts.first parts.second
    (one k parts.first (subst (In a) (sym parts.first_codes) words.0) (context_left k parts.first parts.second there))
    (many_hold a Holds none more one us further.0 parts.second words.1 parts.second_codes further.1))

many_elements : (k : Option ℕ) (items : List Item) → In (many element) (codes items) → InContext k items → HasElements items
many_elements k items words each =
    many_hold element HasElements (record { elements = []; are = no_elements; lawful = All-nil IsLawfulElement })
    (λ first second these those. record {
      elements = these.elements ++ those.elements;
      are = more_elements first second these.elements those.elements these.are those.are;
      lawful = All-append IsLawfulElement these.elements those.elements these.lawful those.lawful;
    })
    one_element words.0 k items words.1 words.2 each

-- ---- names

-- records without names before others
names_behind : (ts : List ℕ) (items more : List Item) → is_in ts STRNAME ≡ false → AreOf ts items → names_in (items ++ more) ≡ names_in more
names_behind ts [] more none these = refl
names_behind ts (i ∷ items) more none these =
    let other : eqb i.code STRNAME ≡ false = false_from_ne_true (eqb i.code STRNAME) (λ same. both_ways (is_in ts STRNAME) none (subst (λ (n : ℕ). is_in ts n ≡ true) (eqb-true i.code STRNAME same) these.0)) in
    rw other (names_behind ts items more none these.1)

-- a record that names a structure
names_here : (s : List Item) (more : List Item) (n : Item) → s ≡ n ∷ [] → n.code ≡ STRNAME → names_in (s ++ more) ≡ trim n.body ∷ names_in more
names_here s more n is of_type =
    let same : eqb n.code STRNAME ≡ true = eq-eqb n.code STRNAME of_type in
    ap (λ (l : List Item). names_in (l ++ more)) is ∙ rw same refl

-- one record that names no structure
names_behind_one : (code : ℕ) (items more : List Item) → is_in (code ∷ []) STRNAME ≡ false → Single code items → names_in (items ++ more) ≡ names_in more
names_behind_one code items more none one = names_behind (code ∷ []) items more none (one_of_type one.item.at code one.item.body items (is_one code items one))

-- the one name that a structure's records have
names_of_structure : (begins names skips middle ends : List Item) → Single BGNSTR begins → (naming : Single STRNAME names) → Single ENDSTR ends → In (many skipped) (codes skips) → In (many element) (codes middle)
    → names_in (begins ++ (names ++ (skips ++ (middle ++ ends)))) ≡ trim naming.item.body ∷ []
unfolding element property box node label aref sref path boundary turn head skipped
names_of_structure begins names skips middle ends begin naming end others words =
    names_behind_one BGNSTR begins (names ++ (skips ++ (middle ++ ends))) refl begin
    ∙ names_here names (skips ++ (middle ++ ends)) naming.item naming.whole naming.of_type
    ∙ ap (λ (l : List (List ℕ)). trim naming.item.body ∷ l)
    (names_behind (types (many skipped)) skips (middle ++ ends) refl (types_of (many skipped) skips others)
    ∙ names_behind (types (many element)) middle ends refl (types_of (many element) middle words)
    ∙ ap names_in (sym (append-nil ends))
    ∙ names_behind_one ENDSTR ends [] refl end)

-- ---- structures

-- records that give lawful structures of these names
record HasStructures (items : List Item) : Type 0 where
  structures : List Structure
  are : AreStructures items structures
  lawful : All IsLawfulStructure structures
  named : names_in items ≡ map (λ s. s.name) structures

-- a record that names a structure is neither empty nor too long
name_lawful : (k : Option ℕ) (n : Item) → n.code ≡ STRNAME → Framed n → Counted k n → (0 < length (trim n.body)) × (length (trim n.body) ≤ 65530)
name_lawful k n of_type framed counted = (
  OnTrue_at (ap (is_in (STRNAME ∷ SNAME ∷ [])) of_type) counted.names,
  omega (arith, trim_short n.body, framed.short),
)

one_structure : (k : Option ℕ) (items : List Item) → In structure (codes items) → InContext k items → HasStructures items
unfolding structure
one_structure k items word each =
    let a = both (type BGNSTR) (type STRNAME ‣ many skipped ‣ many element ‣ type ENDSTR) items word in
    let b = both (type STRNAME) (many skipped ‣ many element ‣ type ENDSTR) a.second a.is_second in
    let c = both (many skipped) (many element ‣ type ENDSTR) b.second b.is_second in
    let d = both (many element) (type ENDSTR) c.second c.is_second in
    let begins = single BGNSTR a.first a.is_first in
    let naming = single STRNAME b.first b.is_first in
    let ends = single ENDSTR d.second d.is_second in
    let is_begin = is_one BGNSTR a.first begins in
    let is_name = is_one STRNAME b.first naming in
    let is_end = is_one ENDSTR d.second ends in
    let inner : b.second ≡ c.first ++ (d.first ++ d.second) = c.whole ∙ ap (λ (l : List Item). c.first ++ l) d.whole in
    let there : List Item = a.first ++ (b.first ++ (c.first ++ (d.first ++ d.second))) in
    let lies : items ≡ there = a.whole ∙ ap (λ (l : List Item). a.first ++ l) (b.whole ∙ ap (λ (l : List Item). b.first ++ l) inner) in
    let from_name = context_right k a.first (b.first ++ (c.first ++ (d.first ++ d.second))) (subst (InContext k) {x = items} {y = there} lies each) in
    let name_there : InContext from_name.0 (naming.item ∷ []) = subst (InContext from_name.0) naming.whole (context_left from_name.0 b.first (c.first ++ (d.first ++ d.second)) from_name.1) in
    let from_skips = context_right from_name.0 b.first (c.first ++ (d.first ++ d.second)) from_name.1 in
    let from_middle = context_right from_skips.0 c.first (d.first ++ d.second) from_skips.1 in
    let found = many_elements from_middle.0 d.first d.is_first (context_left from_middle.0 d.first d.second from_middle.1) in
    let name = name_lawful from_name.0 naming.item naming.of_type name_there.0 name_there.1 in
    let s : Structure = record { name = trim naming.item.body; elements = found.elements } in
    let whole : AreStructures there (s ∷ []) =
    structure_gives begins.item.at naming.item.at ends.item.at begins.item.body naming.item.body ends.item.body a.first b.first c.first d.first d.second found.elements is_begin is_name c.is_first d.is_first found.are is_end in
    let named : names_in there ≡ trim naming.item.body ∷ [] = names_of_structure a.first b.first c.first d.first d.second begins naming ends c.is_first d.is_first in
    record {
      structures = s ∷ [];
      are = subst (λ (l : List Item). AreStructures l (s ∷ [])) {x = there} {y = items} (sym {a = items} {b = there} lies) whole;
      lawful = All-from_recursion IsLawfulStructure (s ∷ []) (record { named = name.0; short = name.1; elements = found.lawful }, tt);
      named = ap names_in lies ∙ named;
    }

more_names : (first second : List Item) (these those : List Structure) → names_in first ≡ map (λ s. s.name) these → names_in second ≡ map (λ s. s.name) those → names_in (first ++ second) ≡ map (λ s. s.name) (these ++ those)
more_names first second these those a b =
    let names : List Structure → List (List ℕ) = map (λ s. s.name) in
    filter_map-append name_in first second ∙ ap (λ (l : List (List ℕ)). l ++ names_in second) a ∙ ap (λ (l : List (List ℕ)). names these ++ l) b ∙ sym (map-append (λ (s : Structure). s.name) these those)

many_structures : (k : Option ℕ) (items : List Item) → In (many structure) (codes items) → InContext k items → HasStructures items
many_structures k items words each =
    many_hold structure HasStructures (record { structures = []; are = no_structures; lawful = All-nil IsLawfulStructure; named = refl })
    (λ first second these those. record {
      structures = these.structures ++ those.structures;
      are = more_structures first second these.structures those.structures these.are those.are;
      lawful = All-append IsLawfulStructure these.structures those.structures these.lawful those.lawful;
      named = more_names first second these.structures those.structures these.named those.named;
    })
    one_structure words.0 k items words.1 words.2 each

-- ---- the library

-- different names of values make the values different
differ_by : (f : Structure → List ℕ) (xs : List Structure) → AllPairs (λ (a b : List ℕ). a ≢ b) (map f xs) → AllPairs (λ (a b : Structure). f a ≢ f b) xs
differ_by f xs differ = λ i j d lt below same.
    differ i j (f d) lt (omega (arith, below, length-map xs f)) (get_or-map f xs i d (f d) (omega (arith, lt, below)) ∙ same ∙ sym (get_or-map f xs j d (f d) below))

-- the parts of a whole stream's records
record Whole (items : List Item) : Type 0 where
  headers : List Item
  begins : List Item
  skips : List Item
  names : List Item
  others : List Item
  unit_items : List Item
  middle : List Item
  ends : List Item
  lies : items ≡ headers ++ (begins ++ (skips ++ (names ++ (others ++ (unit_items ++ (middle ++ ends))))))
  header : Single HEADER headers
  begin : Single BGNLIB begins
  skipped_first : In (many skipped) (codes skips)
  name : Single LIBNAME names
  skipped_then : In (many skipped) (codes others)
  units : Single UNITS unit_items
  structures : In (many structure) (codes middle)
  end : Single ENDLIB ends

-- two parts, of which the second has two
lies_further : (items first second third fourth : List Item) → items ≡ first ++ second → second ≡ third ++ fourth → items ≡ first ++ (third ++ fourth)
lies_further items first second third fourth whole behind = whole ∙ ap (λ (l : List Item). first ++ l) behind

whole_of : (items : List Item) → In stream (codes items) → Whole items
unfolding stream
whole_of items word =
    let a = both (type HEADER) (type BGNLIB ‣ many skipped ‣ type LIBNAME ‣ many skipped ‣ type UNITS ‣ many structure ‣ type ENDLIB) items word in
    let b = both (type BGNLIB) (many skipped ‣ type LIBNAME ‣ many skipped ‣ type UNITS ‣ many structure ‣ type ENDLIB) a.second a.is_second in
    let c = both (many skipped) (type LIBNAME ‣ many skipped ‣ type UNITS ‣ many structure ‣ type ENDLIB) b.second b.is_second in
    let d = both (type LIBNAME) (many skipped ‣ type UNITS ‣ many structure ‣ type ENDLIB) c.second c.is_second in
    let e = both (many skipped) (type UNITS ‣ many structure ‣ type ENDLIB) d.second d.is_second in
    let f = both (type UNITS) (many structure ‣ type ENDLIB) e.second e.is_second in
    let g = both (many structure) (type ENDLIB) f.second f.is_second in
    let lies_f = lies_further e.second f.first f.second g.first g.second f.whole g.whole in
    let lies_e = lies_further d.second e.first e.second f.first (g.first ++ g.second) e.whole lies_f in
    let lies_d = lies_further c.second d.first d.second e.first (f.first ++ (g.first ++ g.second)) d.whole lies_e in
    let lies_c = lies_further b.second c.first c.second d.first (e.first ++ (f.first ++ (g.first ++ g.second))) c.whole lies_d in
    let lies_b = lies_further a.second b.first b.second c.first (d.first ++ (e.first ++ (f.first ++ (g.first ++ g.second)))) b.whole lies_c in
    record {
      headers = a.first;
      begins = b.first;
      skips = c.first;
      names = d.first;
      others = e.first;
      unit_items = f.first;
      middle = g.first;
      ends = g.second;
      lies = lies_further items a.first a.second b.first (c.first ++ (d.first ++ (e.first ++ (f.first ++ (g.first ++ g.second))))) a.whole lies_b;
      header = single HEADER a.first a.is_first;
      begin = single BGNLIB b.first b.is_first;
      skipped_first = c.is_first;
      name = single LIBNAME d.first d.is_first;
      skipped_then = e.is_first;
      units = single UNITS f.first f.is_first;
      structures = g.is_first;
      end = single ENDLIB g.second g.is_second;
    }

names_of_whole : (items : List Item) (w : Whole items) → names_in items ≡ names_in w.middle
unfolding skipped
names_of_whole items w =
    let from_units : List Item = w.unit_items ++ (w.middle ++ w.ends) in
    let from_names : List Item = w.names ++ (w.others ++ from_units) in
    ap names_in w.lies
    ∙ names_behind_one HEADER w.headers (w.begins ++ (w.skips ++ from_names)) refl w.header
    ∙ names_behind_one BGNLIB w.begins (w.skips ++ from_names) refl w.begin
    ∙ names_behind (types (many skipped)) w.skips from_names refl (types_of (many skipped) w.skips w.skipped_first)
    ∙ names_behind_one LIBNAME w.names (w.others ++ from_units) refl w.name
    ∙ names_behind (types (many skipped)) w.others from_units refl (types_of (many skipped) w.others w.skipped_then)
    ∙ names_behind_one UNITS w.unit_items (w.middle ++ w.ends) refl w.units
    ∙ filter_map-append name_in w.middle w.ends
    ∙ ap (λ (l : List (List ℕ)). names_in w.middle ++ l) (ap names_in (sym (append-nil w.ends)) ∙ names_behind_one ENDLIB w.ends [] refl w.end)
    ∙ append-nil (names_in w.middle)

library_of_whole : (items : List Item) (w : Whole items) (structures : List Structure) → AreStructures w.middle structures → library_of items ≡ record { name = trim w.name.item.body; units = w.units.item.body; structures = structures }
library_of_whole items w structures are =
    ap library_of w.lies
    ∙ library_gives w.header.item.at w.begin.item.at w.name.item.at w.units.item.at w.end.item.at w.header.item.body w.begin.item.body w.name.item.body w.units.item.body w.end.item.body
    w.headers w.begins w.skips w.names w.others w.unit_items w.middle w.ends structures
    (is_one HEADER w.headers w.header) (is_one BGNLIB w.begins w.begin) w.skipped_first (is_one LIBNAME w.names w.name) w.skipped_then (is_one UNITS w.unit_items w.units)
    w.structures are (is_one ENDLIB w.ends w.end)

-- the library's name and its structures stand somewhere in the stream
contexts_of_whole : (items : List Item) (w : Whole items) → InContext None items → ((k : Option ℕ) × InContext k w.names) × ((k : Option ℕ) × InContext k w.middle)
contexts_of_whole items w each =
    let from_middle : List Item = w.middle ++ w.ends in
    let from_others : List Item = w.others ++ (w.unit_items ++ from_middle) in
    let from_skips : List Item = w.skips ++ (w.names ++ from_others) in
    let b = context_right None w.headers (w.begins ++ from_skips) (subst (InContext None) w.lies each) in
    let c = context_right b.0 w.begins from_skips b.1 in
    let d = context_right c.0 w.skips (w.names ++ from_others) c.1 in
    let e = context_right d.0 w.names from_others d.1 in
    let f = context_right e.0 w.others (w.unit_items ++ from_middle) e.1 in
    let g = context_right f.0 w.unit_items from_middle f.1 in
    ((d.0, context_left d.0 w.names from_others d.1), (g.0, context_left g.0 w.middle w.ends g.1))

items_lawful : (items : List Item) → AreStream items → IsLawful (library_of items)
items_lawful items text =
    let w = whole_of items text.grammar in
    let there = contexts_of_whole items w text.each in
    let found = many_structures there.1.0 w.middle w.structures there.1.1 in
    let name_there : InContext there.0.0 (w.name.item ∷ []) = subst (InContext there.0.0) w.name.whole there.0.1 in
    subst IsLawful (sym (library_of_whole items w found.structures found.are)) (record {
      short = omega (arith, trim_short w.name.item.body, name_there.0.short);
      structures = found.lawful;
      differ = differ_by (λ s. s.name) found.structures (subst (AllPairs (λ (a b : List ℕ). a ≢ b)) (names_of_whole items w ∙ found.named) text.differ);
    })

-- what a stream holds is lawful
pub stream_is_lawful : (bytes : List ℕ) (library : Library) → Stream bytes library → IsLawful library
stream_is_lawful bytes library s = subst IsLawful (sym s.holds) (items_lawful s.items s.text)
