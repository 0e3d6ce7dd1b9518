-- What each answer of a retargeting means, of the four files.
use Rattle.std.specs.Prelude.{◌≡◌, ℕ, ℤ, pos, ◌⊎◌, List, []}
use Rattle.rt_base.specs.declared.plane.Axis.{Axis}
use Rattle.rt_base.specs.declared.plane.Cell.{Cell}
use Rattle.rt_base.specs.declared.plane.Rect.{Rect}
use Rattle.gds_grammar.specs.declared.cause.Cause.{Cause}
use Rattle.gds_grammar.specs.Stops.{Stops}
use Rattle.gds_stream.specs.declared.library.Library.{Library}
use Rattle.gds_flat.specs.declared.error.FlatError.{FlatError}
use Rattle.gds_flat.specs.declared.error.FlatError.TheVariants as flat
use Rattle.gds_flat.specs.Refused.{FlatRefused}
use Rattle.rt_layout.specs.declared.layout.Layout.{Layout}
use Rattle.rt_layout.specs.Covering.{MaskCovers}
use Rattle.toml.specs.Data.{Members}
use Rattle.rt_keys.specs.declared.error.TableError.TheVariants as table
use Rattle.rt_keys.specs.Document.{IsDocument}
use Rattle.rt_view.specs.declared.job.Job.{Job}
use Rattle.rt_view.specs.declared.shapes.Shape.{Shape}
use Rattle.rt_view.specs.Shapes.{IsFirstShape}
use Rattle.rt_place.specs.Placing.{NoneMeetOf}
use Rattle.rt_rules.specs.Rules.{IsFirstBreach}
use Rattle.rt_strips.specs.Channels.{AreTooMany}
use Rattle.rt_strips.specs.Placed.{Placed}
use Rattle.rt_tables.specs.Tables.{IsTechOf, HasTableFault}
use Rattle.rt_tables.specs.Forms.{AreParted}
use Rattle.rt_sizes.specs.Refusals.{RefusesSizes}
use Rattle.rt_sizes.specs.SizesFile.{IsFaultySizes}
use Rattle.rt_sizes.specs.Wishes.{wishes_fault}
use Rattle.rt_tech.specs.declared.rules.RuleName.{RuleName}
use Rattle.rt_tech.specs.declared.table.TableCause.{TableCause}
use Rattle.rt_tech.specs.declared.table.Tech.{Tech}
use Rattle.rt_tech.specs.declared.table.Which.{Which}
use Rattle.rt_tech.specs.declared.table.Which.TheVariants.{Source, Target}
use Rattle.rt_retarget.specs.declared.answer.Outcome.{Outcome}
use Rattle.rt_retarget.specs.declared.answer.Outcome.TheVariants.{Done, Infeasible}
use Rattle.rt_retarget.specs.declared.answer.What.{What}
use Rattle.rt_retarget.specs.declared.answer.What.TheVariants.{Items, Strips}
use Rattle.rt_retarget.specs.declared.answer.Fault.{Fault}
use Rattle.rt_retarget.specs.declared.answer.Fault.TheVariants.{TableToml, BadTable, TablesDiffer, SizesToml, BadSizes, NotBuilt, BadStream, Unsupported, NoSuchStructure, Cyclic, UnmappedLayer, ArrayStep, CoordinateRange, TooDeep, TooMany, SourceShape, SourceRule, OutOfMemory}
use Rattle.rt_retarget.specs.declared.inputs.Inputs.{Inputs}
use Rattle.rt_retarget.specs.declared.source.TheConstants.{STRIP_LIMIT}
use Rattle.rt_retarget.specs.Files.{Given, AreTables, AreBuilt}
use Rattle.rt_retarget.specs.Stages.{AreRead, IsParsed, IsLaid, IsStripped, IsShaped, IsSound, IsWished}
use Rattle.rt_retarget.specs.Moved.{IsMovedJob, Moved}

-- the bytes aren't a TOML document
abbrev pub IsNoDocument : List ℕ → Type 0
IsNoDocument bytes = (members : Members) → IsDocument bytes members → ⊥

-- the source's file is a valid table
abbrev pub SourceIsValid : List ℕ → Type 0
SourceIsValid stable = (source_table : Tech) × IsTechOf Source stable source_table

-- a table isn't TOML; where it is the target's, the source's is valid
abbrev pub IsNoTable : Given → Which → Type 0
IsNoTable files Source = IsNoDocument files.stable
IsNoTable files Target = SourceIsValid files.stable × IsNoDocument files.ttable

-- a table isn't valid, and the key and the cause are its first fault; where it is the target's, the source's is valid
abbrev pub IsBadTable : Given → Which → List ℕ → TableCause → Type 0
IsBadTable files Source key cause = HasTableFault Source files.stable (table.BadTable key cause)
IsBadTable files Target key cause = SourceIsValid files.stable × HasTableFault Target files.ttable (table.BadTable key cause)

-- the tables are valid, but not of one form: the key is that of their first difference
pub record AreOfTwoForms (files : Given) (key : List ℕ) : Type 0 where
  pub source_table : Tech
  pub target_table : Tech
  pub source_read : IsTechOf Source files.stable source_table
  pub target_read : IsTechOf Target files.ttable target_table
  pub parted : AreParted source_table target_table key

-- the tables are valid and of one form, and the sizes file isn't TOML
pub record HasNoSizes (files : Given) : Type 0 where
  pub source_table : Tech
  pub target_table : Tech
  pub tables : AreTables files.stable files.ttable source_table target_table
  pub no_document : IsNoDocument files.sizes

-- the tables are valid and of one form, and the sizes file isn't valid for the target's: its first fault
pub record HasBadSizes (files : Given) (key : List ℕ) (cause : TableCause) : Type 0 where
  pub source_table : Tech
  pub target_table : Tech
  pub tables : AreTables files.stable files.ttable source_table target_table
  pub faulty : IsFaultySizes target_table files.sizes (table.BadSizes key cause)

-- the tables and the sizes file ask for what isn't built yet
pub record AskForMore (files : Given) : Type 0 where
  pub inputs : Inputs
  pub read : AreRead files inputs
  pub more : AreBuilt inputs.tables.source inputs.asked → ⊥

-- they ask for what is built, and the source stops being a stream at the place, for the cause
pub record IsNoStream (files : Given) (offset : ℕ) (cause : Cause) : Type 0 where
  pub inputs : Inputs
  pub read : AreRead files inputs
  pub built : AreBuilt inputs.tables.source inputs.asked
  pub stops : Stops files.source offset cause

-- the source is a stream, but its cell isn't flattened by the source's table, for this reason
pub record IsNotFlattened (files : Given) (error : FlatError) : Type 0 where
  pub inputs : Inputs
  pub library : Library
  pub parsed : IsParsed files inputs library
  pub refused : FlatRefused library.structures inputs.asked.cell inputs.tables.source error

-- the cell is flattened, but its layout has more strips than are taken: so many
pub record HasTooManyStrips (files : Given) (count : ℕ) : Type 0 where
  pub inputs : Inputs
  pub library : Library
  pub layout : Layout
  pub laid : IsLaid files inputs library layout
  pub many : AreTooMany layout inputs.tables.source STRIP_LIMIT count

-- there are too many of these
abbrev pub AreTooManyOf : Given → What → ℕ → Type 0
AreTooManyOf files Items count = IsNotFlattened files (flat.TooMany count)
AreTooManyOf files Strips count = HasTooManyStrips files count

-- the strips are few, and the shape is the first of a sound source that the layout hasn't; the rectangle shows where
pub record IsMisshapen (files : Given) (shape : Shape) (rect : Rect) : Type 0 where
  pub inputs : Inputs
  pub library : Library
  pub layout : Layout
  pub strips : List Placed
  pub stripped : IsStripped files inputs library layout strips
  pub first : IsFirstShape inputs.tables.source (MaskCovers layout) layout.labels shape rect

-- the shapes are sound, and the rule is the first of the source's table that its layout breaks; two cells and the number found show it
pub record IsUnsound (files : Given) (rule : RuleName) (p q : Cell) (found needed : ℤ) : Type 0 where
  pub inputs : Inputs
  pub library : Library
  pub layout : Layout
  pub strips : List Placed
  pub shaped : IsShaped files inputs library layout strips
  pub broken : IsFirstBreach (pos 1) inputs.tables.source (MaskCovers layout) rule p q found needed

-- the layout is sound, but the sizes file asks for sizes of devices that the cell doesn't have: the first such entry
pub record HasStraySizes (files : Given) (key : List ℕ) (cause : TableCause) : Type 0 where
  pub inputs : Inputs
  pub library : Library
  pub layout : Layout
  pub strips : List Placed
  pub sound : IsSound files inputs library layout strips
  pub refused : RefusesSizes (wishes_fault inputs.asked []) (table.BadSizes key cause)

-- nothing is refused, and the bytes are the source, moved
pub record IsDone (files : Given) (out : List ℕ) : Type 0 where
  pub inputs : Inputs
  pub library : Library
  pub layout : Layout
  pub strips : List Placed
  pub wished : IsWished files inputs library layout strips
  pub moved : Moved files out

-- nothing is refused, but no positions meet the template of the axis; upwards none do at the least columns
pub record IsInfeasible (files : Given) (axis : Axis) : Type 0 where
  pub inputs : Inputs
  pub library : Library
  pub layout : Layout
  pub strips : List Placed
  pub wished : IsWished files inputs library layout strips
  pub job : Job
  pub from : IsMovedJob files inputs.asked library job
  pub none_meet : NoneMeetOf job axis

-- what an outcome says of the files
abbrev pub IsOutcomeOf : Given → Outcome → Type 0
IsOutcomeOf files (Done gds cert report) = IsDone files gds × (cert ≡ []) × (report ≡ [])
IsOutcomeOf files (Infeasible axis cert) = IsInfeasible files axis × (cert ≡ [])

-- what a refusal says of the files
abbrev pub IsFaultOf : Given → Fault → Type 0
IsFaultOf files (TableToml which) = IsNoTable files which
IsFaultOf files (BadTable which key cause) = IsBadTable files which key cause
IsFaultOf files (TablesDiffer key) = AreOfTwoForms files key
IsFaultOf files SizesToml = HasNoSizes files
IsFaultOf files (BadSizes key cause) = HasBadSizes files key cause ⊎ HasStraySizes files key cause
IsFaultOf files NotBuilt = AskForMore files
IsFaultOf files (BadStream offset cause) = IsNoStream files offset cause
IsFaultOf files (Unsupported offset odd) = IsNotFlattened files (flat.Unsupported offset odd)
IsFaultOf files (NoSuchStructure name) = IsNotFlattened files (flat.NoSuchStructure name)
IsFaultOf files (Cyclic names) = IsNotFlattened files (flat.Cyclic names)
IsFaultOf files (UnmappedLayer layer number) = IsNotFlattened files (flat.UnmappedLayer layer number)
IsFaultOf files (ArrayStep offset) = IsNotFlattened files (flat.ArrayStep offset)
IsFaultOf files (CoordinateRange offset) = IsNotFlattened files (flat.CoordinateRange offset)
IsFaultOf files TooDeep = IsNotFlattened files flat.TooDeep
IsFaultOf files (TooMany what count) = AreTooManyOf files what count
IsFaultOf files (SourceShape shape rect) = IsMisshapen files shape rect
IsFaultOf files (SourceRule rule p q found needed) = IsUnsound files rule p q found needed
IsFaultOf files OutOfMemory = Unit {0}
