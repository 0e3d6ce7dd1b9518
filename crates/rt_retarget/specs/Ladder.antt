-- What is refused at a stage isn't at the next one. Each stage holds the one before, and each answer holds the stage that it was given at:
-- so of two answers of different stages one at most is true of the files, want of memory aside.
use Rattle.std.specs.Prelude.{◌≢◌, ℕ, ℤ, List}
use Rattle.rt_base.specs.declared.plane.Cell.{Cell}
use Rattle.rt_base.specs.declared.plane.Rect.{Rect}
use Rattle.gds_grammar.specs.declared.cause.Cause.{Cause}
use Rattle.gds_stream.specs.declared.library.Library.{Library}
use Rattle.gds_flat.specs.declared.error.FlatError.{FlatError}
use Rattle.gds_flat.specs.declared.error.FlatError.TheVariants.{OutOfMemory}
use Rattle.rt_layout.specs.declared.layout.Layout.{Layout}
use Rattle.rt_strips.specs.Placed.{Placed}
use Rattle.rt_tech.specs.declared.rules.RuleName.{RuleName}
use Rattle.rt_tech.specs.declared.table.TableCause.{TableCause}
use Rattle.rt_tech.specs.declared.table.Which.{Which}
use Rattle.rt_view.specs.declared.shapes.Shape.{Shape}
use Rattle.rt_retarget.specs.declared.inputs.Inputs.{Inputs}
use Rattle.rt_retarget.specs.Files.{Given}
use Rattle.rt_retarget.specs.Stages.{AreRead, IsParsed, IsLaid, IsStripped, IsShaped, IsSound, IsWished}
use Rattle.rt_retarget.specs.Answers.{IsNoTable, IsBadTable, AreOfTwoForms, HasNoSizes, HasBadSizes, AskForMore, IsNoStream, IsNotFlattened, HasTooManyStrips, IsMisshapen, IsUnsound, HasStraySizes}

-- files of which a table is refused aren't read
abbrev pub NoTableIsntRead : Type 0
NoTableIsntRead = (files : Given) (inputs : Inputs) (which : Which) → IsNoTable files which → AreRead files inputs → ⊥

abbrev pub BadTableIsntRead : Type 0
BadTableIsntRead = (files : Given) (inputs : Inputs) (which : Which) (key : List ℕ) (cause : TableCause) → IsBadTable files which key cause → AreRead files inputs → ⊥

-- nor are those of two forms
abbrev pub TwoFormsArentRead : Type 0
TwoFormsArentRead = (files : Given) (inputs : Inputs) (key : List ℕ) → AreOfTwoForms files key → AreRead files inputs → ⊥

-- nor those of which the sizes file is refused
abbrev pub NoSizesArentRead : Type 0
NoSizesArentRead = (files : Given) (inputs : Inputs) → HasNoSizes files → AreRead files inputs → ⊥

abbrev pub BadSizesArentRead : Type 0
BadSizesArentRead = (files : Given) (inputs : Inputs) (key : List ℕ) (cause : TableCause) → HasBadSizes files key cause → AreRead files inputs → ⊥

-- files that ask for more than is built, or whose source is no stream, aren't parsed
abbrev pub MoreIsntParsed : Type 0
MoreIsntParsed = (files : Given) (inputs : Inputs) (library : Library) → AskForMore files → IsParsed files inputs library → ⊥

abbrev pub NoStreamIsntParsed : Type 0
NoStreamIsntParsed = (files : Given) (inputs : Inputs) (library : Library) (offset : ℕ) (cause : Cause) → IsNoStream files offset cause → IsParsed files inputs library → ⊥

-- files whose cell isn't flattened have no layout
abbrev pub UnflattenedIsntLaid : Type 0
UnflattenedIsntLaid = (files : Given) (inputs : Inputs) (library : Library) (layout : Layout) (error : FlatError) → error ≢ OutOfMemory
    → IsNotFlattened files error → IsLaid files inputs library layout → ⊥

-- files with too many strips don't have few
abbrev pub TooManyIsntStripped : Type 0
TooManyIsntStripped = (files : Given) (inputs : Inputs) (library : Library) (layout : Layout) (strips : List Placed) (count : ℕ)
    → HasTooManyStrips files count → IsStripped files inputs library layout strips → ⊥

-- files whose layout has another shape than a sound source don't have its shapes
abbrev pub MisshapenIsntShaped : Type 0
MisshapenIsntShaped = (files : Given) (inputs : Inputs) (library : Library) (layout : Layout) (strips : List Placed) (shape : Shape) (rect : Rect)
    → IsMisshapen files shape rect → IsShaped files inputs library layout strips → ⊥

-- files whose layout breaks a rule aren't sound
abbrev pub UnsoundIsntSound : Type 0
UnsoundIsntSound = (files : Given) (inputs : Inputs) (library : Library) (layout : Layout) (strips : List Placed) (rule : RuleName) (p q : Cell) (found needed : ℤ)
    → IsUnsound files rule p q found needed → IsSound files inputs library layout strips → ⊥

-- files with stray sizes don't ask for what the cell has
abbrev pub StraysArentWished : Type 0
StraysArentWished = (files : Given) (inputs : Inputs) (library : Library) (layout : Layout) (strips : List Placed) (key : List ℕ) (cause : TableCause)
    → HasStraySizes files key cause → IsWished files inputs library layout strips → ⊥
