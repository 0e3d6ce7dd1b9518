-- Which types of records the parts of a stream don't have.
use Rattle.std.proofs.Common.{◌≡◌, List, None, Ok, refl}
use Rattle.gds_records.specs.declared.types.TheConstants.{LIBNAME, UNITS, BGNSTR, ENDSTR, ENDEL, BOUNDARY, PATH, SREF, AREF, TEXT, NODE, BOX, LAYER, DATATYPE, WIDTH, XY, SNAME, COLROW, TEXTTYPE, STRING, STRANS, MAG, ANGLE, PATHTYPE, BOXTYPE}
use Rattle.gds_records.specs.Records.{Item}
use Rattle.gds_grammar.specs.Grammar.{many}
use Rattle.gds_grammar.specs.Format.{skipped, head, turn, boundary, path, sref, aref, label, node, box, property, element}
use Rattle.gds_grammar.specs.Conditions.{starts}
use Rattle.gds_grammar.specs.Reading.{Cursor, read}
use Rattle.gds_stream.specs.Contents.{held}
use Rattle.gds_stream.specs.Gives.{shape}
use Rattle.gds_stream.proofs.Lacking.{not_held}
use Rattle.gds_stream.proofs.Values.{Nothing}
use Rattle.gds_stream.proofs.Cutting.{Absent, Quiet}

pub skipped_quiet : (c d : Cursor) (items : List Item) → read (many skipped) c ≡ Ok (items, d) → Quiet items
unfolding skipped
skipped_quiet c d items is =
    let never = not_held (many skipped) in record { libname = never LIBNAME c d items is refl; units = never UNITS c d items is refl; bgnstr = never BGNSTR c d items is refl }

pub skipped_starts_none : (c d : Cursor) (items : List Item) → read (many skipped) c ≡ Ok (items, d) → Absent starts items
unfolding skipped
skipped_starts_none c d items is =
    let never = not_held (many skipped) in (
      never BOUNDARY c d items is refl,
      (never PATH c d items is refl, (never SREF c d items is refl, (never AREF c d items is refl, (never TEXT c d items is refl, (never NODE c d items is refl, (never BOX c d items is refl, tt)))))),
    )

pub skipped_ends_none : (c d : Cursor) (items : List Item) → read (many skipped) c ≡ Ok (items, d) → held ENDSTR items ≡ None
unfolding skipped
skipped_ends_none c d items is = not_held (many skipped) ENDSTR c d items is refl

pub elements_end_none : (c d : Cursor) (items : List Item) → read (many element) c ≡ Ok (items, d) → held ENDSTR items ≡ None
unfolding element boundary path sref aref label node box head turn property
elements_end_none c d items is = not_held (many element) ENDSTR c d items is refl

pub shape_ends_none : (c d : Cursor) (items : List Item) → read shape c ≡ Ok (items, d) → held ENDEL items ≡ None
unfolding boundary path sref aref label node box head turn
shape_ends_none c d items is = not_held shape ENDEL c d items is refl

pub properties_end_none : (c d : Cursor) (items : List Item) → read (many property) c ≡ Ok (items, d) → held ENDEL items ≡ None
unfolding property
properties_end_none c d items is = not_held (many property) ENDEL c d items is refl

pub properties_nothing : (c d : Cursor) (items : List Item) → read (many property) c ≡ Ok (items, d) → Nothing items
unfolding property
properties_nothing c d items is =
    let never = not_held (many property) in
    record {
      layer = never LAYER c d items is refl;
      datatype = never DATATYPE c d items is refl;
      texttype = never TEXTTYPE c d items is refl;
      boxtype = never BOXTYPE c d items is refl;
      pathtype = never PATHTYPE c d items is refl;
      width = never WIDTH c d items is refl;
      xy = never XY c d items is refl;
      sname = never SNAME c d items is refl;
      colrow = never COLROW c d items is refl;
      string = never STRING c d items is refl;
      strans = never STRANS c d items is refl;
      mag = never MAG c d items is refl;
      angle = never ANGLE c d items is refl;
    }
