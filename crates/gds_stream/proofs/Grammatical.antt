-- The records of a cell are in the stream's order.
use Rattle.std.proofs.Common.{◌≡◌, ℕ, List, [], ◌∷◌, ◌++◌, map, refl, sym, ap, subst, ◌∙◌, inl, inr, lit<, append_assoc}
use Rattle.std.specs.List.{flat_map}
use Rattle.std.proofs.lemmas.List.{append-nil, map-append}
use Rattle.gds_records.specs.declared.types.TheConstants.{HEADER, BGNLIB, LIBNAME, UNITS, ENDLIB, BGNSTR, STRNAME, ENDSTR, BOUNDARY, TEXT, LAYER, DATATYPE, XY, ENDEL, TEXTTYPE, STRING}
use Rattle.gds_records.specs.Records.{Item}
use Rattle.gds_stream.specs.declared.cell.Flat.{Flat}
use Rattle.gds_stream.specs.declared.cell.Shape.{Shape}
use Rattle.gds_stream.specs.declared.cell.Note.{Note}
use Rattle.gds_grammar.specs.Grammar.{Grammar, ◌‣◌, ◌∣◌, many, type, maybe, In}
use Rattle.gds_grammar.specs.Format.{head, boundary, label, element, structure, stream}
use Rattle.gds_stream.specs.Written.{shape_records, note_records, front_records, end_records, records_of}

-- the types of records
abbrev pub codes : List Item → List ℕ
codes items = map (λ i. i.code) items

-- the types are a word of the grammar
record IsWord (g : Grammar) (types : List ℕ) : Type 0 where
  is : In g types

-- one record
one : (code : ℕ) → IsWord (type code) (code ∷ [])
one code = record { is = (code, refl, (0, lit< tt, refl)) }

-- a part before another
both : {a b : Grammar} (first second : List ℕ) → IsWord a first → IsWord b second → IsWord (a ‣ b) (first ++ second)
both first second here there = record { is = (first, second, refl, here.is, there.is) }

-- a record before a part
one_then : {b : Grammar} {types : List ℕ} (code : ℕ) → IsWord b types → IsWord (type code ‣ b) (code ∷ types)
one_then code there = both (code ∷ []) _ (one code) there

-- a part that isn't there before another
none_then : {a b : Grammar} {types : List ℕ} → IsWord a [] → IsWord b types → IsWord (a ‣ b) types
none_then here there = both [] _ here there

-- a part that may be there, and isn't
absent : {a : Grammar} → IsWord (maybe a) []
absent = record { is = inr refl }

-- the first way, and the second
this : {a b : Grammar} {types : List ℕ} → IsWord a types → IsWord (a ∣ b) types
this here = record { is = inl here.is }

other : {a b : Grammar} {types : List ℕ} → IsWord b types → IsWord (a ∣ b) types
other here = record { is = inr here.is }

-- a part no times, and once more
none : {a : Grammar} → IsWord (many a) []
none = record { is = ([], tt, refl) }

more : {a : Grammar} (first others : List ℕ) → IsWord a first → IsWord (many a) others → IsWord (many a) (first ++ others)
more first others here there = record { is = (first ∷ there.is.0, (here.is, there.is.1), ap (λ (types : List ℕ). first ++ types) there.is.2) }

no_head : IsWord head []
unfolding head
no_head = none_then absent absent

-- a shape's records are an element
shape_in : IsWord element (BOUNDARY ∷ LAYER ∷ DATATYPE ∷ XY ∷ ENDEL ∷ [])
unfolding element boundary
shape_in = both (BOUNDARY ∷ LAYER ∷ DATATYPE ∷ XY ∷ []) (ENDEL ∷ []) (this (one_then BOUNDARY (none_then no_head (one_then LAYER (one_then DATATYPE (one XY)))))) (none_then none (one ENDEL))

-- a text's records are one
note_in : IsWord element (TEXT ∷ LAYER ∷ TEXTTYPE ∷ XY ∷ STRING ∷ ENDEL ∷ [])
unfolding element label
note_in =
    let shown = none_then absent (none_then absent (none_then absent (none_then absent (one_then XY (one STRING))))) in
    let text = one_then TEXT (none_then no_head (one_then LAYER (one_then TEXTTYPE shown))) in
    both (TEXT ∷ LAYER ∷ TEXTTYPE ∷ XY ∷ STRING ∷ []) (ENDEL ∷ []) (other (other (other (other (this text))))) (none_then none (one ENDEL))

notes_in : (notes : List Note) → IsWord (many element) (codes (flat_map note_records notes))
unfolding note_records
notes_in [] = none
notes_in (n ∷ notes) = more (TEXT ∷ LAYER ∷ TEXTTYPE ∷ XY ∷ STRING ∷ ENDEL ∷ []) (codes (flat_map note_records notes)) note_in (notes_in notes)

shapes_in : (shapes : List Shape) (others : List ℕ) → IsWord (many element) others → IsWord (many element) (codes (flat_map shape_records shapes) ++ others)
unfolding shape_records
shapes_in [] others there = there
shapes_in (s ∷ shapes) others there = more (BOUNDARY ∷ LAYER ∷ DATATYPE ∷ XY ∷ ENDEL ∷ []) (codes (flat_map shape_records shapes) ++ others) shape_in (shapes_in shapes others there)

-- elements between a structure's first records and its last
structure_in : (elements : List ℕ) → IsWord (many element) elements → IsWord structure (BGNSTR ∷ STRNAME ∷ (elements ++ ENDSTR ∷ []))
unfolding structure
structure_in elements there = one_then BGNSTR (one_then STRNAME (none_then none (both elements (ENDSTR ∷ []) there (one ENDSTR))))

-- a structure between a stream's first records and its last
stream_in : (body : List ℕ) → IsWord structure body → IsWord stream (HEADER ∷ BGNLIB ∷ LIBNAME ∷ UNITS ∷ (body ++ ENDLIB ∷ []))
unfolding stream
stream_in body there =
    let structures : IsWord (many structure) body = record { is = (body ∷ [], (there.is, tt), sym (append-nil body)) } in
    one_then HEADER (one_then BGNLIB (none_then none (one_then LIBNAME (none_then none (one_then UNITS (both body (ENDLIB ∷ []) structures (one ENDLIB)))))))

-- the records of a cell are a stream's
pub records_in : (cell : Flat) → In stream (codes (records_of cell))
unfolding records_of front_records end_records
records_in cell =
    let shapes = flat_map shape_records cell.shapes in
    let notes = flat_map note_records cell.texts in
    let elements : List ℕ = codes shapes ++ codes notes in
    let regrouped : codes (shapes ++ notes ++ end_records) ≡ (elements ++ ENDSTR ∷ []) ++ ENDLIB ∷ [] =
    map-append (λ (i : Item). i.code) (shapes ++ notes) end_records
    ∙ ap (λ (types : List ℕ). types ++ (ENDSTR ∷ ENDLIB ∷ [])) (map-append (λ (i : Item). i.code) shapes notes)
    ∙ sym (append_assoc elements (ENDSTR ∷ []) (ENDLIB ∷ [])) in
    subst (λ (types : List ℕ). In stream (HEADER ∷ BGNLIB ∷ LIBNAME ∷ UNITS ∷ BGNSTR ∷ STRNAME ∷ types)) (sym regrouped)
    (stream_in (BGNSTR ∷ STRNAME ∷ (elements ++ ENDSTR ∷ [])) (structure_in elements (shapes_in cell.shapes (codes notes) (notes_in cell.texts)))).is
