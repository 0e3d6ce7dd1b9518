-- Each record of a cell is framed, counted and readable.
use Rattle.std.proofs.Common.{◌≡◌, ℕ, ◌%◌, ◌<◌, ◌≤◌, ℤ, true, List, [], ◌∷◌, ◌++◌, None, length, replicate, All, Option, refl, sym, ap, subst, ◌∙◌, lit<, lit≤, append_assoc, arith}
use Rattle.std.specs.Prelude.{IfSome}
use Rattle.std.specs.List.{flat_map}
use Rattle.std.proofs.lemmas.List.Elements.{All-from_recursion, All-append, All-nil, All-head, All-tail, All-replicate, All-push}
use Rattle.std.proofs.lemmas.Bool.{cond_both}
use Rattle.rt_base.specs.Text.{IsText}
use Rattle.gds_records.specs.declared.types.TheConstants.{HEADER, BGNLIB, LIBNAME, UNITS, ENDLIB, BGNSTR, STRNAME, ENDSTR, BOUNDARY, TEXT, LAYER, DATATYPE, XY, ENDEL, TEXTTYPE, STRING, NO_DATA, TWO_BYTES, FOUR_BYTES, REAL, CHARACTERS}
use Rattle.gds_records.specs.Records.{Item, Framed, WholeItems, known, data_of}
use Rattle.gds_stream.specs.declared.cell.Flat.{Flat}
use Rattle.gds_stream.specs.declared.cell.Shape.{Shape}
use Rattle.gds_stream.specs.declared.cell.Note.{Note}
use Rattle.gds_grammar.specs.Conditions.{InContext, trim, names_in}
use Rattle.gds_stream.specs.Written.{two_of, four_of, padded, corner_bytes, item_of, shape_records, note_records, front_records, end_records, records_of, FitsNote, FitsFront, FitsWriter}
use Rattle.gds_stream.proofs.Texts.{trim_padded, even_padded, short_padded}

-- ---- bytes

abbrev AreBytes : List ℕ → Type 0
AreBytes body = All (λ b. b < 256) body

two_bytes_of : (z : ℤ) → AreBytes (two_of z)
two_bytes_of z = All-from_recursion (λ (b : ℕ). b < 256) (two_of z) (omega arith, (omega arith, tt))

four_bytes_of : (z : ℤ) → AreBytes (four_of z)
four_bytes_of z = All-from_recursion (λ (b : ℕ). b < 256) (four_of z) (omega arith, (omega arith, (omega arith, (omega arith, tt))))

both : (a b : List ℕ) → AreBytes a → AreBytes b → AreBytes (a ++ b)
both a b p q = All-append (λ (x : ℕ). x < 256) a b p q

corners_are_bytes : (s : Shape) → AreBytes (corner_bytes s)
unfolding corner_bytes
corners_are_bytes s =
    let x1 = four_bytes_of s.x1 in
    let y1 = four_bytes_of s.y1 in
    let x2 = four_bytes_of s.x2 in
    let y2 = four_bytes_of s.y2 in
    both (four_of s.x1 ++ four_of s.y1 ++ four_of s.x2 ++ four_of s.y1 ++ four_of s.x2 ++ four_of s.y2 ++ four_of s.x1 ++ four_of s.y2 ++ four_of s.x1) (four_of s.y1)
    (both (four_of s.x1 ++ four_of s.y1 ++ four_of s.x2 ++ four_of s.y1 ++ four_of s.x2 ++ four_of s.y2 ++ four_of s.x1 ++ four_of s.y2) (four_of s.x1)
    (both (four_of s.x1 ++ four_of s.y1 ++ four_of s.x2 ++ four_of s.y1 ++ four_of s.x2 ++ four_of s.y2 ++ four_of s.x1) (four_of s.y2)
    (both (four_of s.x1 ++ four_of s.y1 ++ four_of s.x2 ++ four_of s.y1 ++ four_of s.x2 ++ four_of s.y2) (four_of s.x1)
    (both (four_of s.x1 ++ four_of s.y1 ++ four_of s.x2 ++ four_of s.y1 ++ four_of s.x2) (four_of s.y2)
    (both (four_of s.x1 ++ four_of s.y1 ++ four_of s.x2 ++ four_of s.y1) (four_of s.x2)
    (both (four_of s.x1 ++ four_of s.y1 ++ four_of s.x2) (four_of s.y1)
    (both (four_of s.x1 ++ four_of s.y1) (four_of s.x2)
    (both (four_of s.x1) (four_of s.y1) x1 y1) x2) y1) x2) y2) x1) y2) x1) y1

text_is_bytes : (text : List ℕ) → IsText text → AreBytes text
text_is_bytes text printable k d lt = let here = printable k d lt in omega (arith, here.1)

padded_is_bytes : (text : List ℕ) → IsText text → AreBytes (padded text)
padded_is_bytes text printable =
    cond_both _ text (text ++ 0 ∷ []) AreBytes
    (λ e. text_is_bytes text printable)
    (λ e. All-push (λ (b : ℕ). b < 256) text 0 (text_is_bytes text printable) (lit< tt))

-- ---- records

framed : (code form : ℕ) (body : List ℕ) → known code ≡ true → IfSome (data_of code) (λ f. (form ≡ f) × WholeItems f body) → code < 256 → form < 256
    → length body % 2 ≡ 0 → length body ≤ 65530 → AreBytes body → Framed (item_of code form body)
framed code form body there items small small_form even short bytes = record {
  even = even;
  short = short;
  type_is_known = there;
  items = items;
  code_is_byte = small;
  form_is_byte = small_form;
  body_is_bytes = bytes;
}

framed_text : (code : ℕ) (text : List ℕ) → known code ≡ true → IfSome (data_of code) (λ f. (CHARACTERS ≡ f) × WholeItems f (padded text)) → code < 256 → IsText text → length text ≤ 65530
    → Framed (item_of code CHARACTERS (padded text))
framed_text code text there items small printable short = framed code CHARACTERS (padded text) there items small (lit< tt) (even_padded text) (short_padded text short) (padded_is_bytes text printable)

by_one : (n : ℕ) → n % 1 ≡ 0
by_one n = omega arith

-- ---- elements

shape_context : (s : Shape) (kind : Option ℕ) (others : List Item) → ((k : Option ℕ) → InContext k others) → InContext kind (shape_records s ++ others)
unfolding shape_records corner_bytes
shape_context s kind others there = (
  framed BOUNDARY NO_DATA [] refl (refl, refl) (lit< tt) (lit< tt) refl (lit≤ tt) (All-nil _),
  record { numbers = tt; points = tt; names = tt },
  tt,
  (
    framed LAYER TWO_BYTES (two_of s.layer) refl (refl, refl) (lit< tt) (lit< tt) refl (lit≤ tt) (two_bytes_of s.layer),
    record { numbers = refl; points = tt; names = tt },
    tt,
    (
      framed DATATYPE TWO_BYTES (two_of s.datatype) refl (refl, refl) (lit< tt) (lit< tt) refl (lit≤ tt) (two_bytes_of s.datatype),
      record { numbers = refl; points = tt; names = tt },
      tt,
      (
        framed XY FOUR_BYTES (corner_bytes s) refl (refl, refl) (lit< tt) (lit< tt) refl (lit≤ tt) (corners_are_bytes s),
        record { numbers = tt; points = record { whole = refl; enough = (lit≤ tt, tt); closed = refl }; names = tt },
        tt,
        (
          framed ENDEL NO_DATA [] refl (refl, refl) (lit< tt) (lit< tt) refl (lit≤ tt) (All-nil _),
          record { numbers = tt; points = tt; names = tt },
          tt,
          there _,
        ),
      ),
    ),
  ),
)

note_context : (n : Note) (kind : Option ℕ) (others : List Item) → FitsNote n → ((k : Option ℕ) → InContext k others) → InContext kind (note_records n ++ others)
unfolding note_records
note_context n kind others fits there = (
  framed TEXT NO_DATA [] refl (refl, refl) (lit< tt) (lit< tt) refl (lit≤ tt) (All-nil _),
  record { numbers = tt; points = tt; names = tt },
  tt,
  (
    framed LAYER TWO_BYTES (two_of n.layer) refl (refl, refl) (lit< tt) (lit< tt) refl (lit≤ tt) (two_bytes_of n.layer),
    record { numbers = refl; points = tt; names = tt },
    tt,
    (
      framed TEXTTYPE TWO_BYTES (two_of n.texttype) refl (refl, refl) (lit< tt) (lit< tt) refl (lit≤ tt) (two_bytes_of n.texttype),
      record { numbers = refl; points = tt; names = tt },
      tt,
      (
        framed XY FOUR_BYTES (four_of n.x ++ four_of n.y) refl (refl, refl) (lit< tt) (lit< tt) refl (lit≤ tt) (both (four_of n.x) (four_of n.y) (four_bytes_of n.x) (four_bytes_of n.y)),
        record { numbers = tt; points = record { whole = refl; enough = (lit≤ tt, lit≤ tt); closed = tt }; names = tt },
        tt,
        (
          framed_text STRING n.text refl (refl, by_one _) (lit< tt) fits.printable fits.short,
          record { numbers = tt; points = tt; names = tt },
          subst IsText (sym (trim_padded n.text fits.printable)) fits.printable,
          (
            framed ENDEL NO_DATA [] refl (refl, refl) (lit< tt) (lit< tt) refl (lit≤ tt) (All-nil _),
            record { numbers = tt; points = tt; names = tt },
            tt,
            there _,
          ),
        ),
      ),
    ),
  ),
)

shapes_context : (shapes : List Shape) (others : List Item) → ((k : Option ℕ) → InContext k others) → (kind : Option ℕ) → InContext kind (flat_map shape_records shapes ++ others)
unfolding shape_records
shapes_context [] others there kind = there kind
shapes_context (s ∷ shapes) others there kind = shape_context s kind (flat_map shape_records shapes ++ others) (shapes_context shapes others there)

notes_context : (notes : List Note) (others : List Item) → All FitsNote notes → ((k : Option ℕ) → InContext k others) → (kind : Option ℕ) → InContext kind (flat_map note_records notes ++ others)
unfolding note_records
notes_context [] others fits there kind = there kind
notes_context (n ∷ notes) others fits there kind =
    note_context n kind (flat_map note_records notes ++ others) (All-head FitsNote n notes fits) (notes_context notes others (All-tail FitsNote n notes fits) there)

end_context : (kind : Option ℕ) → InContext kind end_records
unfolding end_records
end_context kind = (
  framed ENDSTR NO_DATA [] refl (refl, refl) (lit< tt) (lit< tt) refl (lit≤ tt) (All-nil _),
  record { numbers = tt; points = tt; names = tt },
  tt,
  (framed ENDLIB NO_DATA [] refl (refl, refl) (lit< tt) (lit< tt) refl (lit≤ tt) (All-nil _), record { numbers = tt; points = tt; names = tt }, tt, tt),
)

zeros_are_bytes : AreBytes (replicate 24 0)
zeros_are_bytes = All-replicate (λ (b : ℕ). b < 256) 24 0 (lit< tt)

front_context : (cell : Flat) (others : List Item) → FitsFront cell → InContext None others → InContext None (front_records cell ++ others)
unfolding front_records
front_context cell others fits there = (
  framed HEADER TWO_BYTES (2 ∷ 88 ∷ []) refl (refl, refl) (lit< tt) (lit< tt) refl (lit≤ tt) (All-from_recursion (λ (b : ℕ). b < 256) (2 ∷ 88 ∷ []) (lit< tt, (lit< tt, tt))),
  record { numbers = refl; points = tt; names = tt },
  tt,
  (
    framed BGNLIB TWO_BYTES (replicate 24 0) refl (refl, refl) (lit< tt) (lit< tt) refl (lit≤ tt) zeros_are_bytes,
    record { numbers = refl; points = tt; names = tt },
    tt,
    (
      framed_text LIBNAME cell.library refl (refl, by_one _) (lit< tt) fits.library_printable fits.library_short,
      record { numbers = tt; points = tt; names = tt },
      subst IsText (sym (trim_padded cell.library fits.library_printable)) fits.library_printable,
      (
        framed UNITS REAL cell.units refl (refl, ap (λ (n : ℕ). n % 8) fits.units_long) (lit< tt) (lit< tt) (ap (λ (n : ℕ). n % 2) fits.units_long) (omega arith) fits.units_bytes,
        record { numbers = fits.units_long; points = tt; names = tt },
        tt,
        (
          framed BGNSTR TWO_BYTES (replicate 24 0) refl (refl, refl) (lit< tt) (lit< tt) refl (lit≤ tt) zeros_are_bytes,
          record { numbers = refl; points = tt; names = tt },
          tt,
          (
            framed_text STRNAME cell.name refl (refl, by_one _) (lit< tt) fits.name_printable fits.name_short,
            record { numbers = tt; points = tt; names = subst (λ (text : List ℕ). 0 < length text) (sym (trim_padded cell.name fits.name_printable)) fits.named },
            subst IsText (sym (trim_padded cell.name fits.name_printable)) fits.name_printable,
            there,
          ),
        ),
      ),
    ),
  ),
)

-- the records of a cell, each in its context
pub records_context : (cell : Flat) → FitsWriter cell → InContext None (records_of cell)
unfolding records_of
records_context cell fits =
    let shapes = flat_map shape_records cell.shapes in
    let notes = flat_map note_records cell.texts in
    let body : InContext None (shapes ++ (notes ++ end_records)) =
    shapes_context cell.shapes (notes ++ end_records) (notes_context cell.texts end_records fits.texts end_context) None in
    let regrouped : records_of cell ≡ front_records cell ++ (shapes ++ (notes ++ end_records)) =
    append_assoc (front_records cell ++ shapes) notes end_records ∙ append_assoc (front_records cell) shapes (notes ++ end_records) in
    subst (InContext None) (sym regrouped) (front_context cell (shapes ++ (notes ++ end_records)) fits.front body)

-- ---- names

shape_names : (shapes : List Shape) (others : List Item) → names_in (flat_map shape_records shapes ++ others) ≡ names_in others
unfolding shape_records
shape_names [] others = refl
shape_names (s ∷ shapes) others = shape_names shapes others

note_names : (notes : List Note) (others : List Item) → names_in (flat_map note_records notes ++ others) ≡ names_in others
unfolding note_records
note_names [] others = refl
note_names (n ∷ notes) others = note_names notes others

-- there is one name
pub records_names : (cell : Flat) → names_in (records_of cell) ≡ trim (padded cell.name) ∷ []
unfolding records_of front_records end_records
records_names cell =
    let shapes = flat_map shape_records cell.shapes in
    let notes = flat_map note_records cell.texts in
    let regrouped : (shapes ++ notes) ++ end_records ≡ shapes ++ (notes ++ end_records) = append_assoc shapes notes end_records in
    ap (λ (items : List Item). trim (padded cell.name) ∷ names_in items) regrouped
    ∙ ap (λ (names : List (List ℕ)). trim (padded cell.name) ∷ names) (shape_names cell.shapes (notes ++ end_records) ∙ note_names cell.texts end_records)
