-- From the parts of a run to the stages of the files, and to what an answer says of them.
use Rattle.std.proofs.Common.{◌≡◌, ℕ, ◌≤◌, ℤ, pos, List, [], None, All, length, map, inr, arith}
use Rattle.std.proofs.lemmas.List.{length-map}
use Rattle.gds_flat.specs.declared.error.FlatError.{FlatError}
use Rattle.gds_flat.specs.declared.error.FlatError.TheVariants as flat
use Rattle.gds_flat.specs.Refused.{IsFlattened, FlatRefused}
use Rattle.gds_stream.specs.declared.library.Library.{Library}
use Rattle.gds_stream.specs.Contents.{Stream}
use Rattle.gds_stream_laws.proofs.LawfulValues.{stream_is_lawful}
use Rattle.rt_base.specs.declared.plane.Cell.{Cell}
use Rattle.rt_base.specs.declared.plane.Rect.{Rect}
use Rattle.rt_drc.specs.Rows.{cells_of}
use Rattle.rt_keys.specs.declared.error.TableError.{TableError}
use Rattle.rt_keys.specs.declared.error.TableError.TheVariants as table
use Rattle.rt_base.specs.Plane.{AreCoordinates}
use Rattle.rt_layout.specs.declared.layout.Label.{Label}
use Rattle.rt_layout.specs.declared.layout.Layout.{Layout}
use Rattle.rt_layout.specs.Covering.{MaskCovers}
use Rattle.rt_view.specs.declared.shapes.View.{View}
use Rattle.rt_view.specs.View.{IsViewOf}
use Rattle.rt_view.specs.declared.shapes.Shape.{Shape}
use Rattle.rt_view.specs.Shapes.{IsFirstShape}
use Rattle.rt_rules.specs.Pairs.{HasMeasuredPairs}
use Rattle.rt_rules.specs.Rules.{BreaksNoRule, IsFirstBreach}
use Rattle.rt_rules.proofs.Alike.{breaks_none_alike, first_breach_alike}
use Rattle.rt_rules.proofs.Measured.{pairs_measured}
use Rattle.rt_shapes.specs.Touching.{ArePlain}
use Rattle.rt_sizes.specs.Refusals.{RefusesSizes}
use Rattle.rt_sizes.specs.Wishes.{wishes_fault}
use Rattle.rt_strips.specs.declared.listing.Strip.{Strip}
use Rattle.rt_strips.specs.declared.listing.Strips.{Strips}
use Rattle.rt_strips.specs.Channels.{IsStripsOf}
use Rattle.rt_strips.specs.Placed.{placed}
use Rattle.rt_tables.specs.Tables.{IsTechOf}
use Rattle.rt_tables.proofs.Alike.{same_mask_count}
use Rattle.rt_tables.proofs.Valid.{valid_table}
use Rattle.rt_tech.specs.declared.rules.RuleName.{RuleName}
use Rattle.rt_tech.specs.declared.table.Tech.{Tech}
use Rattle.rt_tech.specs.declared.table.Which.{Which}
use Rattle.rt_tech.specs.declared.table.Which.TheVariants.{Source, Target}
use Rattle.rt_tech.proofs.Measured.{measured}
use Rattle.rt_retarget.specs.declared.answer.Fault.{Fault}
use Rattle.rt_retarget.specs.declared.answer.Fault.TheVariants.{SourceShape, SourceRule}
use Rattle.rt_retarget.specs.declared.inputs.Inputs.{Inputs}
use Rattle.rt_retarget.specs.declared.source.TheConstants.{STRIP_LIMIT}
use Rattle.rt_retarget.specs.Files.{Given}
use Rattle.rt_retarget.specs.Stages.{AreRead, IsParsed, IsLaid, IsStripped, IsShaped, IsSound, IsWished}
use Rattle.rt_retarget.specs.Jobs.{IsUsable, AreMatched, IsFlatRefusal, IsTableRefusal, IsFaultOfParsed, IsFaultOfLaid, IsFaultOfSound, IsFaultOfView, IsSoundView, IsCheckedCell, IsReadSource}
use Rattle.rt_retarget.proofs.Cells.{IsCellOf, reached_cell}
use Rattle.rt_retarget.proofs.Stripped.{covered_alike}

-- a table that is read is valid, and so what the layers below ask
usable : (which : Which) (bytes : List ℕ) (table : Tech) → IsTechOf which bytes table → IsUsable table
usable which bytes table read =
    let valid = valid_table which bytes table read in
    record { valid = valid; measured = measured table valid; pairs = pairs_measured table valid }

-- labels whose points are coordinates are plain
pub plain : (labels : List Label) → All (λ (label : Label). AreCoordinates label.at) labels → ArePlain labels
plain labels near i d h = record { point = near i d h }

-- the tables of files are matched
pub matched : (files : Given) (inputs : Inputs) → AreRead files inputs → AreMatched inputs.tables.source inputs.tables.target
matched files inputs read =
    let tables = read.files_are.tables in
    record {
      source = usable Source files.stable inputs.tables.source tables.source_read;
      target = usable Target files.ttable inputs.tables.target tables.target_read;
      same_form = tables.same_form;
      same_masks = same_mask_count inputs.tables.source inputs.tables.target tables.same_form;
    }

-- a refusal of the flattening is one of the files
pub flat_fault : (inputs : Inputs) (library : Library) (error : FlatError) (fault : Fault)
    → FlatRefused library.structures inputs.asked.cell inputs.tables.source error → IsFlatRefusal error fault → IsFaultOfParsed inputs library fault
flat_fault inputs library (flat.Unsupported offset odd) fault refused e files parsed = rw e (record { inputs = inputs; library = library; parsed = parsed; refused = refused })
flat_fault inputs library (flat.NoSuchStructure name) fault refused e files parsed = rw e (record { inputs = inputs; library = library; parsed = parsed; refused = refused })
flat_fault inputs library (flat.Cyclic names) fault refused e files parsed = rw e (record { inputs = inputs; library = library; parsed = parsed; refused = refused })
flat_fault inputs library (flat.UnmappedLayer layer number) fault refused e files parsed = rw e (record { inputs = inputs; library = library; parsed = parsed; refused = refused })
flat_fault inputs library (flat.ArrayStep offset) fault refused e files parsed = rw e (record { inputs = inputs; library = library; parsed = parsed; refused = refused })
flat_fault inputs library (flat.CoordinateRange offset) fault refused e files parsed = rw e (record { inputs = inputs; library = library; parsed = parsed; refused = refused })
flat_fault inputs library (flat.TooMany count) fault refused e files parsed = rw e (record { inputs = inputs; library = library; parsed = parsed; refused = refused })
flat_fault inputs library flat.TooDeep fault refused e files parsed = rw e (record { inputs = inputs; library = library; parsed = parsed; refused = refused })
flat_fault inputs library flat.OutOfMemory fault refused e files parsed = rw e tt

-- a refusal of stray sizes is one of the files
pub stray_fault : (inputs : Inputs) (error : TableError) (fault : Fault) → RefusesSizes (wishes_fault inputs.asked []) error → IsTableRefusal Target error fault
    → IsFaultOfSound inputs fault
stray_fault inputs (table.BadSizes key cause) fault refused e files library layout strips sound =
    rw e (inr (record { inputs = inputs; library = library; layout = layout; strips = strips; sound = sound; refused = refused }))
stray_fault inputs table.OutOfMemory fault refused e files library layout strips sound = rw e tt
stray_fault inputs table.BadToml fault refused e files library layout strips sound = absurd refused
stray_fault inputs (table.BadTable key cause) fault refused e files library layout strips sound = absurd refused
stray_fault inputs (table.TablesDiffer key) fault refused e files library layout strips sound = absurd refused

module _ (inputs : Inputs) (pairs : HasMeasuredPairs inputs.tables.source) (layout : Layout) (view : View) (is : IsViewOf layout inputs.tables.source view) where
  -- a view that breaks no rule is of a layout that breaks none
  pub clean_layout : BreaksNoRule (pos 1) inputs.tables.source (cells_of view.strips.list) → BreaksNoRule (pos 1) inputs.tables.source (MaskCovers layout)
  clean_layout none =
      breaks_none_alike (pos 1) inputs.tables.source pairs (cells_of view.strips.list) (MaskCovers layout)
      (covered_alike layout inputs.tables.source (map placed view.strips.list) is.strips.strips_are) none

  -- the first rule that it breaks is the first that the layout breaks
  pub broken_layout : (rule : RuleName) (p q : Cell) (found needed : ℤ)
      → IsFirstBreach (pos 1) inputs.tables.source (cells_of view.strips.list) rule p q found needed
      → IsFirstBreach (pos 1) inputs.tables.source (MaskCovers layout) rule p q found needed
  broken_layout rule p q found needed first =
      first_breach_alike (pos 1) inputs.tables.source pairs (cells_of view.strips.list) (MaskCovers layout)
      (covered_alike layout inputs.tables.source (map placed view.strips.list) is.strips.strips_are) rule p q found needed first

-- a rule that the view breaks is a refusal of the files
pub rule_fault : (inputs : Inputs) (view : View) (rule : RuleName) (p q : Cell) (found needed : ℤ)
    → IsFirstBreach (pos 1) inputs.tables.source (cells_of view.strips.list) rule p q found needed
    → IsFaultOfView inputs view (SourceRule rule p q found needed)
rule_fault inputs view rule p q found needed first files library layout is shaped = record {
  inputs = inputs;
  library = library;
  layout = layout;
  strips = map placed view.strips.list;
  shaped = shaped;
  broken = broken_layout inputs (matched files inputs shaped.stripped.laid.parsed.read).source.pairs layout view is rule p q found needed first;
}

pub few_placed : (strips : List Strip) → length strips ≤ STRIP_LIMIT → length (map placed strips) ≤ STRIP_LIMIT
few_placed strips few = omega (arith, few, length-map strips placed)

-- the strips of a layout, and few
stripped : (files : Given) (inputs : Inputs) (library : Library) (layout : Layout) (strips : Strips) → IsLaid files inputs library layout
    → IsStripsOf layout inputs.tables.source strips → length strips.list ≤ STRIP_LIMIT → IsStripped files inputs library layout (map placed strips.list)
stripped files inputs library layout strips laid are few =
    record { laid = laid; are_strips = are.strips_are; few = few_placed strips.list few }

-- a shape that a sound source doesn't have is a refusal of the files
pub shape_fault : (inputs : Inputs) (layout : Layout) (strips : Strips) (shape : Shape) (rect : Rect) → IsStripsOf layout inputs.tables.source strips
    → length strips.list ≤ STRIP_LIMIT → IsFirstShape inputs.tables.source (MaskCovers layout) layout.labels shape rect
    → IsFaultOfLaid inputs layout (SourceShape shape rect)
shape_fault inputs layout strips shape rect are few first files library laid = record {
  inputs = inputs;
  library = library;
  layout = layout;
  strips = map placed strips.list;
  stripped = stripped files inputs library layout strips laid are few;
  first = first;
}

-- the shapes of a layout that has a view with few strips are sound
pub shaped : (files : Given) (inputs : Inputs) (library : Library) (layout : Layout) (view : View) → IsLaid files inputs library layout
    → IsViewOf layout inputs.tables.source view → length view.strips.list ≤ STRIP_LIMIT → IsShaped files inputs library layout (map placed view.strips.list)
shaped files inputs library layout view laid is few =
    record { stripped = stripped files inputs library layout view.strips laid is.strips few; sound_shapes = is.sound }

-- a sound layout
pub sound : (files : Given) (inputs : Inputs) (library : Library) (layout : Layout) (view : View) → IsLaid files inputs library layout
    → IsSoundView inputs layout view → IsSound files inputs library layout (map placed view.strips.list)
sound files inputs library layout view laid is =
    record { shaped = shaped files inputs library layout view laid is.is_view is.few; clean = is.clean }

-- the cell that is checked
pub checked : (inputs : Inputs) (library : Library) (layout : Layout) (view : View)
    → IsFlattened library.structures inputs.asked.cell inputs.tables.source layout → IsSoundView inputs layout view
    → wishes_fault inputs.asked [] ≡ None → IsCheckedCell inputs library view
checked inputs library layout view flattened is none = record {
  layout = layout;
  flattened = flattened;
  is_view = is.is_view;
  few = is.few;
  clean = is.clean;
  no_strays = none;
}

-- a source that is read, of files that are read, has passed all stages
pub wished : (files : Given) (inputs : Inputs) (library : Library) (view : View) → AreRead files inputs → (is : IsReadSource files.source inputs library view)
    → IsWished files inputs library is.cell.layout (map placed view.strips.list)
wished files inputs library view read is = record {
  sound = record {
    shaped = shaped files inputs library is.cell.layout view
        (record { parsed = record { read = read; built = is.built; stream = is.stream }; flattened = is.cell.flattened }) is.cell.is_view is.cell.few;
    clean = is.cell.clean;
  };
  no_strays = is.cell.no_strays;
}

-- the library's name fits a record
pub library_short : (source : List ℕ) (library : Library) → Stream source library → length library.name ≤ 65530
library_short source library stream = (stream_is_lawful source library stream).short

-- the cell that is flattened is one of the library's: its name isn't empty and fits a record
pub cell_of : (source : List ℕ) (inputs : Inputs) (library : Library) (view : View) → IsReadSource source inputs library view → IsCellOf inputs.asked.cell
cell_of source inputs library view is =
    let sound = is.cell.flattened.accepted.sound in
    reached_cell library.structures inputs.asked.cell sound.order (stream_is_lawful source library is.stream).structures sound.reached
