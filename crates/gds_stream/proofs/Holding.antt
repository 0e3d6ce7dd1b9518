-- The library that the records of a cell hold.
use Rattle.std.proofs.Common.{◌≡◌, ◌≢◌, ℕ, replicate, subst, arith, false, eqb, List, [], ◌∷◌, ◌++◌, None, Some, map, All, refl, sym, ap, ◌∙◌, append_assoc}
use Rattle.std.specs.List.{flat_map, filter_map, AllZip, AllByRecursion}
use Rattle.std.proofs.lemmas.List.{append-nil}
use Rattle.std.proofs.lemmas.List.Elements.{All-head, All-tail}
use Rattle.gds_records.specs.declared.types.TheConstants.{HEADER, BGNLIB, LIBNAME, UNITS, REAL, BGNSTR, ENDSTR, STRNAME, ENDEL, NO_DATA, TWO_BYTES, CHARACTERS}
use Rattle.gds_records.specs.Records.{Item, flat}
use Rattle.gds_stream.specs.declared.cell.Flat.{Flat}
use Rattle.gds_stream.specs.declared.cell.Shape.{Shape}
use Rattle.gds_stream.specs.declared.cell.Note.{Note}
use Rattle.gds_stream.specs.declared.library.Element.{Element}
use Rattle.gds_stream.specs.declared.library.Element.TheVariants.{Boundary, Label}
use Rattle.gds_stream.specs.declared.library.Structure.{Structure}
use Rattle.gds_stream.specs.declared.library.Library.{Library}
use Rattle.std.specs.Prelude.{AllPairs}
use Rattle.gds_grammar.specs.Grammar.{In}
use Rattle.gds_grammar.specs.Format.{stream}
use Rattle.gds_grammar.specs.Conditions.{starts, trim}
use Rattle.gds_stream.specs.Contents.{pieces, pieces_from, two_bytes, four_bytes, points_in, element_of, structure_of, library_of, Stream}
use Rattle.gds_stream.specs.Written.{two_of, four_of, padded, corner_bytes, item_of, shape_records, note_records, front_records, end_records, records_of, five_points, IsMadeOf, IsLabelOf, FitsShape, FitsNote, FitsWriter, OneCell, written}
use Rattle.gds_stream.proofs.Numbers.{two_back, four_back}
use Rattle.gds_stream.proofs.Texts.{trim_padded}
use Rattle.gds_stream.proofs.Placing.{at_place, placed, end_of, placed-append, flat_placed, Placed_there, codes_placed, names_placed, InContext_there}
use Rattle.gds_stream.proofs.Grammatical.{records_in}
use Rattle.gds_stream.proofs.Contextual.{records_context, records_names}

-- the elements that begin somewhere in the records
abbrev elements_from : List Item → List Element
elements_from items = filter_map element_of (pieces_from starts ENDEL None items)

-- ---- elements

points_back : (s : Shape) → FitsShape s → points_in (corner_bytes s) ≡ five_points s
unfolding corner_bytes
points_back s fits =
    let x1 = four_back s.x1 fits.x1 in
    let y1 = four_back s.y1 fits.y1 in
    let x2 = four_back s.x2 fits.x2 in
    let y2 = four_back s.y2 fits.y2 in
    λ i. record { x = x1 i; y = y1 i } ∷ record { x = x2 i; y = y1 i } ∷ record { x = x2 i; y = y2 i } ∷ record { x = x1 i; y = y2 i } ∷ record { x = x1 i; y = y1 i } ∷ []

shape_back : (n : ℕ) (s : Shape) → FitsShape s → Boundary n (two_bytes (two_of s.layer)) (two_bytes (two_of s.datatype)) (points_in (corner_bytes s)) ≡ Boundary n s.layer s.datatype (five_points s)
shape_back n s fits =
    let layer = two_back s.layer fits.layer in
    let datatype = two_back s.datatype fits.datatype in
    let points = points_back s fits in
    λ i. Boundary n (layer i) (datatype i) (points i)

note_back : (n : ℕ) (t : Note) → FitsNote t
    → Label n (two_bytes (two_of t.layer)) (two_bytes (two_of t.texttype)) (record { x = four_bytes (four_of t.x); y = four_bytes (four_of t.y) }) (trim (padded t.text))
    ≡ Label n t.layer t.texttype (record { x = t.x; y = t.y }) t.text
note_back n t fits =
    let layer = two_back t.layer fits.layer in
    let texttype = two_back t.texttype fits.texttype in
    let x = four_back t.x fits.x in
    let y = four_back t.y fits.y in
    let text = trim_padded t.text fits.printable in
    λ i. Label n (layer i) (texttype i) (record { x = x i; y = y i }) (text i)

-- the texts' elements, and what follows
notes_labelled : (notes : List Note) (n : ℕ) (others : List Item) → All FitsNote notes
    → (labels : List Element) × (elements_from (placed n (flat_map note_records notes) ++ others) ≡ labels ++ elements_from others) × AllZip IsLabelOf labels notes
unfolding note_records
notes_labelled [] n others fits = ([], refl, tt)
notes_labelled (t ∷ notes) n others fits =
    let next = notes_labelled notes (end_of n (note_records t)) others (All-tail FitsNote t notes fits) in
    let label : Element = Label n t.layer t.texttype (record { x = t.x; y = t.y }) t.text in (
      label ∷ next.0,
      ap (λ (e : Element). e ∷ elements_from (placed (end_of n (note_records t)) (flat_map note_records notes) ++ others)) (note_back n t (All-head FitsNote t notes fits))
          ∙ ap (λ (es : List Element). label ∷ es) next.1,
      ((n, refl), next.2),
    )

-- the shapes' elements, and what follows
shapes_drawn : (shapes : List Shape) (n : ℕ) (more others : List Item) → All FitsShape shapes
    → (m : ℕ) × (drawn : List Element) × (elements_from (placed n (flat_map shape_records shapes ++ more) ++ others) ≡ drawn ++ elements_from (placed m more ++ others)) × AllZip IsMadeOf drawn shapes
unfolding shape_records
shapes_drawn [] n more others fits = (n, [], refl, tt)
shapes_drawn (s ∷ shapes) n more others fits =
    let next = shapes_drawn shapes (end_of n (shape_records s)) more others (All-tail FitsShape s shapes fits) in
    let shape : Element = Boundary n s.layer s.datatype (five_points s) in (
      next.0,
      shape ∷ next.1,
      ap (λ (e : Element). e ∷ elements_from (placed (end_of n (shape_records s)) (flat_map shape_records shapes ++ more) ++ others)) (shape_back n s (All-head FitsShape s shapes fits))
          ∙ ap (λ (es : List Element). shape ∷ es) next.2,
      ((n, refl), next.3),
    )

-- ---- the structure

-- records of which none closes are taken into the piece that is open
pub inside : (opening : List ℕ) (closing : ℕ) (piece middle others : List Item) → AllByRecursion (λ i. eqb i.code closing ≡ false) middle
    → pieces_from opening closing (Some piece) (middle ++ others) ≡ pieces_from opening closing (Some (piece ++ middle)) others
inside opening closing piece [] others open_still = ap (λ (p : List Item). pieces_from opening closing (Some p) others) (sym (append-nil piece))
inside opening closing piece (i ∷ middle) others open_still =
    rw open_still.0 (inside opening closing (piece ++ i ∷ []) middle others open_still.1 ∙ ap (λ (p : List Item). pieces_from opening closing (Some p) others) (append_assoc piece (i ∷ []) middle))

notes_open : (notes : List Note) (n : ℕ) → AllByRecursion (λ i. eqb i.code ENDSTR ≡ false) (placed n (flat_map note_records notes))
unfolding note_records
notes_open [] n = tt
notes_open (t ∷ notes) n = (refl, (refl, (refl, (refl, (refl, (refl, notes_open notes (end_of n (note_records t))))))))

shapes_open : (shapes : List Shape) (n : ℕ) (more : List Item) → ((m : ℕ) → AllByRecursion (λ i. eqb i.code ENDSTR ≡ false) (placed m more))
    → AllByRecursion (λ i. eqb i.code ENDSTR ≡ false) (placed n (flat_map shape_records shapes ++ more))
unfolding shape_records
shapes_open [] n more open_still = open_still n
shapes_open (s ∷ shapes) n more open_still = (refl, (refl, (refl, (refl, (refl, shapes_open shapes (end_of n (shape_records s)) more open_still)))))

-- ---- the library

abbrev items_of : Flat → List Item
items_of cell = front_records cell ++ ((flat_map shape_records cell.shapes ++ flat_map note_records cell.texts) ++ end_records)

-- the records before the structure
abbrev library_items : Flat → List Item
library_items cell = item_of HEADER TWO_BYTES (2 ∷ 88 ∷ []) ∷ item_of BGNLIB TWO_BYTES (replicate 24 0) ∷ item_of LIBNAME CHARACTERS (padded cell.library) ∷ item_of UNITS REAL cell.units ∷ []

held_is : (cell : Flat) → FitsWriter cell → OneCell (library_of (placed 0 (items_of cell))) cell
unfolding library_of front_records end_records
held_is cell fits =
    let shapes = flat_map shape_records cell.shapes in
    let notes = flat_map note_records cell.texts in
    let n : ℕ = end_of 0 (front_records cell) in
    let m : ℕ = end_of n (shapes ++ notes) in
    let middle : List Item = placed n (shapes ++ notes) in
    let start : ℕ = end_of 0 (library_items cell) in
    let begins : Item = at_place start (item_of BGNSTR TWO_BYTES (replicate 24 0)) in
    let named : Item = at_place (end_of start (item_of BGNSTR TWO_BYTES (replicate 24 0) ∷ [])) (item_of STRNAME CHARACTERS (padded cell.name)) in
    let ends : Item = at_place m (item_of ENDSTR NO_DATA []) in
    let piece : List Item = begins ∷ named ∷ (middle ++ ends ∷ []) in
    let one_piece : pieces (BGNSTR ∷ []) ENDSTR (placed 0 (items_of cell)) ≡ piece ∷ [] =
    ap (pieces_from (BGNSTR ∷ []) ENDSTR (Some (begins ∷ named ∷ []))) (placed-append n (shapes ++ notes) end_records)
    ∙ inside (BGNSTR ∷ []) ENDSTR (begins ∷ named ∷ []) middle (placed m end_records) (shapes_open cell.shapes n notes (notes_open cell.texts)) in
    let drawn = shapes_drawn cell.shapes n notes (ends ∷ []) fits.shapes in
    let labels = notes_labelled cell.texts drawn.0 (ends ∷ []) fits.texts in
    let elements : elements_from (middle ++ ends ∷ []) ≡ drawn.1 ++ labels.0 =
    drawn.2 ∙ ap (λ (es : List Element). drawn.1 ++ es) (labels.1 ∙ append-nil labels.0) in
    let library_name = trim_padded cell.library fits.front.library_printable in
    let name = trim_padded cell.name fits.front.name_printable in
    let structure : structure_of piece ≡ record { name = cell.name; elements = drawn.1 ++ labels.0 } = λ i. record { name = name i; elements = elements i } in
    let structures : map structure_of (pieces (BGNSTR ∷ []) ENDSTR (placed 0 (items_of cell))) ≡ record { name = cell.name; elements = drawn.1 ++ labels.0 } ∷ [] =
    ap (map structure_of) one_piece ∙ ap (λ (s : Structure). s ∷ []) structure in
    record {
      drawn = drawn.1;
      labels = labels.0;
      is_library = λ i. record { name = library_name i; units = cell.units; structures = structures i };
      are_shapes = drawn.3;
      are_texts = labels.2;
    }

items_are : (cell : Flat) → records_of cell ≡ items_of cell
unfolding records_of
items_are cell =
    let shapes = flat_map shape_records cell.shapes in
    let notes = flat_map note_records cell.texts in
    ap (λ (items : List Item). items ++ end_records) (append_assoc (front_records cell) shapes notes)
    ∙ append_assoc (front_records cell) (shapes ++ notes) end_records

-- what is written is a stream, and what it holds is the cell
pub written_holds : (cell : Flat) → FitsWriter cell → (library : Library) × Stream (written cell) library × OneCell library cell
unfolding written
written_holds cell fits =
    let items : List Item = placed 0 (records_of cell) in
    let is_same : placed 0 (items_of cell) ≡ items = ap (placed 0) (sym (items_are cell)) in (
      library_of items,
      record {
        items = items;
        zeros = 0;
        spells = sym (append-nil (flat items) ∙ flat_placed 0 (records_of cell));
        text = record {
          placed = Placed_there 0 (records_of cell);
          grammar = subst (In stream) (sym (codes_placed 0 (records_of cell))) (records_in cell);
          each = InContext_there 0 None (records_of cell) (records_context cell fits);
          differ = subst (AllPairs (λ (a b : List ℕ). a ≢ b)) (sym (names_placed 0 (records_of cell) ∙ records_names cell)) (λ i j d lt below. absurd (omega arith));
        };
        holds = refl;
      },
      subst (λ (rs : List Item). OneCell (library_of rs) cell) is_same (held_is cell fits),
    )

-- so it is of these bytes
pub is_stream : (cell : Flat) (items : List ℕ) → items ≡ written cell → FitsWriter cell → (library : Library) × Stream items library × OneCell library cell
is_stream cell items same fits = subst (λ (bytes : List ℕ). (library : Library) × Stream bytes library × OneCell library cell) (sym same) (written_holds cell fits)
