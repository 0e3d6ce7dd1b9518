-- The job of the four files, what is written for it, and what functions on the way are told and tell.
use Rattle.std.specs.Prelude.{◌≡◌, ℕ, ℤ, pos, ◌≤◌, List, [], None, length, map, All}
use Rattle.gds_flat.specs.declared.error.FlatError.{FlatError}
use Rattle.gds_flat.specs.declared.error.FlatError.TheVariants as flat
use Rattle.gds_flat.specs.Refused.{IsFlattened}
use Rattle.gds_stream.specs.declared.cell.Flat.{Flat}
use Rattle.gds_stream.specs.declared.library.Library.{Library}
use Rattle.gds_stream.specs.Contents.{Stream}
use Rattle.gds_stream.specs.Written.{OneCell, written}
use Rattle.rt_keys.specs.declared.error.TableError.{TableError}
use Rattle.rt_keys.specs.declared.error.TableError.TheVariants as table
use Rattle.rt_layout.specs.declared.layout.Label.{Label}
use Rattle.rt_layout.specs.declared.layout.Layout.{Layout}
use Rattle.rt_layout.specs.Covering.{MaskCovers}
use Rattle.rt_view.specs.declared.shapes.View.{View}
use Rattle.rt_view.specs.View.{IsViewOf}
use Rattle.rt_view.specs.declared.job.Job.{Job}
use Rattle.rt_view.specs.Job.{IsJobOf}
use Rattle.rt_rows.specs.declared.row.Var.{Var}
use Rattle.rt_rules.specs.Pairs.{HasMeasuredPairs}
use Rattle.rt_rules.specs.Rules.{BreaksNoRule}
use Rattle.rt_sizes.specs.SizesFile.{IsFaultySizes}
use Rattle.rt_sizes.specs.Wishes.{wishes_fault}
use Rattle.rt_strips.specs.Placed.{Placed, placed}
use Rattle.rt_tables.specs.Forms.{AreParted, HaveSameForm}
use Rattle.rt_tables.specs.Tables.{IsTechOf, HasTableFault}
use Rattle.rt_tech.specs.declared.sizes.Sizes.{Sizes}
use Rattle.rt_tech.specs.declared.table.Tech.{Tech}
use Rattle.rt_tech.specs.declared.table.Which.{Which}
use Rattle.rt_tech.specs.declared.table.Which.TheVariants.{Source, Target}
use Rattle.rt_tech.specs.Tech.{mask_count, IsMeasured, IsValidTech}
use Rattle.rt_template.specs.Horizontal.{IsLeastAcross}
use Rattle.rt_template.specs.Vertical.{IsLeastUpwards}
use Rattle.rt_carry.specs.Drawings.{IsDrawingOf}
use Rattle.rt_carry.specs.Texts.{AreNoted}
use Rattle.rt_retarget.specs.declared.answer.Fault.{Fault}
use Rattle.rt_retarget.specs.declared.answer.Fault.TheVariants.{TableToml, BadTable, TablesDiffer, SizesToml, BadSizes, Unsupported, NoSuchStructure, Cyclic, UnmappedLayer, ArrayStep, CoordinateRange, TooDeep, TooMany, OutOfMemory}
use Rattle.rt_retarget.specs.declared.answer.What.TheVariants.{Items}
use Rattle.rt_retarget.specs.declared.inputs.Inputs.{Inputs}
use Rattle.rt_retarget.specs.declared.source.TheConstants.{STRIP_LIMIT}
use Rattle.rt_retarget.specs.Files.{Given, AreBuilt}
use Rattle.rt_retarget.specs.Stages.{AreRead, IsParsed, IsLaid, IsStripped, IsShaped, IsSound}
use Rattle.rt_retarget.specs.Answers.{IsNoDocument, IsFaultOf}

-- a valid table, and what the layers below ask of it
pub record IsUsable (table : Tech) : Type 0 where
  pub valid : IsValidTech table
  pub measured : IsMeasured table
  pub pairs : HasMeasuredPairs table

-- two valid tables of one form
pub record AreMatched (source_table target_table : Tech) : Type 0 where
  pub source : IsUsable source_table
  pub target : IsUsable target_table
  pub same_form : HaveSameForm source_table target_table
  pub same_masks : mask_count source_table ≡ mask_count target_table

-- a refusal of a table, as a refusal of the job
abbrev pub IsTableRefusal : Which → TableError → Fault → Type 0
IsTableRefusal which table.BadToml fault = fault ≡ TableToml which
IsTableRefusal which (table.BadTable key cause) fault = fault ≡ BadTable which key cause
IsTableRefusal which (table.TablesDiffer key) fault = fault ≡ TablesDiffer key
IsTableRefusal which (table.BadSizes key cause) fault = fault ≡ BadSizes key cause
IsTableRefusal which table.OutOfMemory fault = fault ≡ OutOfMemory

-- a refusal of a sizes file, as a refusal of the job
abbrev pub IsSizesRefusal : TableError → Fault → Type 0
IsSizesRefusal table.BadToml fault = fault ≡ SizesToml
IsSizesRefusal error fault = IsTableRefusal Target error fault

-- a refusal of a cell that isn't flattened, as a refusal of the job: want of memory is the job's own
abbrev pub IsFlatRefusal : FlatError → Fault → Type 0
IsFlatRefusal (flat.Unsupported offset odd) fault = fault ≡ Unsupported offset odd
IsFlatRefusal (flat.NoSuchStructure name) fault = fault ≡ NoSuchStructure name
IsFlatRefusal (flat.Cyclic names) fault = fault ≡ Cyclic names
IsFlatRefusal (flat.UnmappedLayer layer number) fault = fault ≡ UnmappedLayer layer number
IsFlatRefusal (flat.ArrayStep offset) fault = fault ≡ ArrayStep offset
IsFlatRefusal (flat.CoordinateRange offset) fault = fault ≡ CoordinateRange offset
IsFlatRefusal (flat.TooMany count) fault = fault ≡ TooMany Items count
IsFlatRefusal flat.TooDeep fault = fault ≡ TooDeep
IsFlatRefusal flat.OutOfMemory fault = fault ≡ OutOfMemory

-- of a table
abbrev pub IsTableFaultOf : Which → List ℕ → Fault → Type 0
IsTableFaultOf which bytes (TableToml w) = (w ≡ which) × IsNoDocument bytes
IsTableFaultOf which bytes (BadTable w key cause) = (w ≡ which) × HasTableFault which bytes (table.BadTable key cause)
IsTableFaultOf which bytes OutOfMemory = Unit {0}
IsTableFaultOf which bytes _ = ⊥

-- of two tables that were read
abbrev pub IsFormFaultOf : Tech → Tech → Fault → Type 0
IsFormFaultOf source target (TablesDiffer key) = AreParted source target key
IsFormFaultOf source target OutOfMemory = Unit {0}
IsFormFaultOf source target _ = ⊥

-- of a sizes file, for a target table
abbrev pub IsSizesFaultOf : Tech → List ℕ → Fault → Type 0
IsSizesFaultOf target bytes SizesToml = IsNoDocument bytes
IsSizesFaultOf target bytes (BadSizes key cause) = IsFaultySizes target bytes (table.BadSizes key cause)
IsSizesFaultOf target bytes OutOfMemory = Unit {0}
IsSizesFaultOf target bytes _ = ⊥

-- four files by their bytes
abbrev pub given : List ℕ → List ℕ → List ℕ → List ℕ → Given
given source stable ttable sizes = record { source = source; stable = stable; ttable = ttable; sizes = sizes }

-- of a target's table, beside a source's table that was read: a refusal of the files, whatever else they hold
abbrev pub IsFaultOfTarget : Tech → List ℕ → Fault → Type 0
IsFaultOfTarget source_table ttable fault = (source stable sizes : List ℕ) → IsTechOf Source stable source_table → IsFaultOf (given source stable ttable sizes) fault

-- of the two tables: a refusal of the files, whatever the source and the sizes file hold
abbrev pub IsFaultOfTables : List ℕ → List ℕ → Fault → Type 0
IsFaultOfTables stable ttable fault = (source sizes : List ℕ) → IsFaultOf (given source stable ttable sizes) fault

-- of the tables and the sizes file: a refusal of the files, whatever the source holds
abbrev pub IsFaultOfInputs : List ℕ → List ℕ → List ℕ → Fault → Type 0
IsFaultOfInputs stable ttable sizes fault = (source : List ℕ) → IsFaultOf (given source stable ttable sizes) fault

-- of a source, by inputs that were read: a refusal of the files that they were read from
abbrev pub IsFaultOfRead : List ℕ → Inputs → Fault → Type 0
IsFaultOfRead source inputs fault = (stable ttable sizes : List ℕ) → AreRead (given source stable ttable sizes) inputs → IsFaultOf (given source stable ttable sizes) fault

-- the same at the stages behind it
abbrev pub IsFaultOfParsed : Inputs → Library → Fault → Type 0
IsFaultOfParsed inputs library fault = (files : Given) → IsParsed files inputs library → IsFaultOf files fault

abbrev pub IsFaultOfLaid : Inputs → Layout → Fault → Type 0
IsFaultOfLaid inputs layout fault = (files : Given) (library : Library) → IsLaid files inputs library layout → IsFaultOf files fault

abbrev pub IsFaultOfView : Inputs → View → Fault → Type 0
IsFaultOfView inputs view fault = (files : Given) (library : Library) (layout : Layout) → IsViewOf layout inputs.tables.source view
    → IsShaped files inputs library layout (map placed view.strips.list) → IsFaultOf files fault

abbrev pub IsFaultOfSound : Inputs → Fault → Type 0
IsFaultOfSound inputs fault = (files : Given) (library : Library) (layout : Layout) (strips : List Placed)
    → IsSound files inputs library layout strips → IsFaultOf files fault

-- the view of a layout that has few strips and breaks no rule of the source's table
pub record IsSoundView (inputs : Inputs) (layout : Layout) (view : View) : Type 0 where
  pub is_view : IsViewOf layout inputs.tables.source view
  pub few : length view.strips.list ≤ STRIP_LIMIT
  pub clean : BreaksNoRule (pos 1) inputs.tables.source (MaskCovers layout)

-- the view is that of the library's cell, which is sound
pub record IsCheckedCell (inputs : Inputs) (library : Library) (view : View) : Type 0 where
  pub layout : Layout
  pub flattened : IsFlattened library.structures inputs.asked.cell inputs.tables.source layout
  pub is_view : IsViewOf layout inputs.tables.source view
  pub few : length view.strips.list ≤ STRIP_LIMIT
  pub clean : BreaksNoRule (pos 1) inputs.tables.source (MaskCovers layout)
  pub no_strays : wishes_fault inputs.asked [] ≡ None

-- what is read of a source whose cell is moved, by inputs that were read
pub record IsReadSource (source : List ℕ) (inputs : Inputs) (library : Library) (view : View) : Type 0 where
  pub built : AreBuilt inputs.tables.source inputs.asked
  pub stream : Stream source library
  pub cell : IsCheckedCell inputs library view

-- the inputs of a job: its tables, and what is asked for
abbrev pub inputs_of : Job → Sizes → Inputs
inputs_of job asked = record { tables = record { source = job.source; target = job.target }; asked = asked }

-- the job of the four files: its tables and what is asked are read from them, and its view is that of the source
pub record IsJobOfFiles (files : Given) (library : Library) (asked : Sizes) (job : Job) : Type 0 where
  pub read : AreRead files (inputs_of job asked)
  pub source_read : IsReadSource files.source (inputs_of job asked) library job.view
  pub job_of : IsJobOf source_read.cell.layout job

-- each label of a job can be written: the target has a layer and a text type for its mask, and its text fits a record
pub record LabelsFit (job : Job) : Type 0 where
  pub noted : AreNoted job.target job.view.labels
  pub short : All (λ (label : Label). length label.text ≤ 65530) job.view.labels

-- the cell is the drawing of a job at its least positions
pub record IsDrawnFor (job : Job) (library_name cell : List ℕ) (flat : Flat) : Type 0 where
  pub at : Var → ℤ
  pub across : IsLeastAcross job at
  pub upwards : IsLeastUpwards job at at
  pub drawing : IsDrawingOf job at library_name cell flat

-- the bytes are those that are written for the drawing of a job at its least positions, and a stream of it
pub record IsWrittenFor (job : Job) (library_name cell : List ℕ) (bytes : List ℕ) : Type 0 where
  pub flat : Flat
  pub drawn : IsDrawnFor job library_name cell flat
  pub exact : bytes ≡ written flat
  pub library : Library
  pub stream : Stream bytes library
  pub one_cell : OneCell library flat
