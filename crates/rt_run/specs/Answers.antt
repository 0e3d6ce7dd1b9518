-- The answers of a run: the status and the line of each, and what it means for the words, the files and the desk.
use Rattle.std.specs.Prelude.{◌≡◌, ℕ, List, [], codes}
use Rattle.rt_desk.specs.declared.outside.DeskError.{DeskError}
use Rattle.rt_desk.specs.declared.outside.DeskError.TheVariants as unfetched
use Rattle.rt_desk.specs.Desk.{Outside, IsStored, IsFailedStore, IsSaid, IsSaidInPart, IsFailedSay}
use Rattle.rt_lines.specs.Lines.{usage_line, bad_stream_line, table_fault_line, table_not_toml_line, tables_differ_line, sizes_fault_line, sizes_not_toml_line, source_shape_line, source_rule_line, unfetched_line, not_built_line, unsupported_line, no_such_structure_line, cyclic_line, unmapped_layer_line, array_step_line, coordinate_range_line, too_many_line, too_deep_line, infeasible_line}
use Rattle.gds_flat.specs.declared.error.Odd.{Odd}
use Rattle.gds_flat.specs.declared.error.Odd.TheVariants.{PathType, PathWidth, BoxElement, Magnification, Angle, Absolute, Slanted}
use Rattle.rt_view.specs.declared.shapes.Shape.{Shape}
use Rattle.rt_view.specs.declared.shapes.Shape.TheVariants.{CutShape, CutUpper, CutLower, Background, BentChannel, NoKind, TapChannel, StrayLabel}
use Rattle.rt_retarget.specs.declared.answer.Fault.{Fault}
use Rattle.rt_retarget.specs.declared.answer.Fault.TheVariants.{TableToml, BadTable, TablesDiffer, SizesToml, BadSizes, NotBuilt, BadStream, Unsupported, NoSuchStructure, Cyclic, UnmappedLayer, ArrayStep, CoordinateRange, TooDeep, TooMany, SourceShape, SourceRule}
use Rattle.rt_retarget.specs.declared.answer.Fault.TheVariants as refused
use Rattle.rt_retarget.specs.declared.answer.What.{What}
use Rattle.rt_retarget.specs.declared.answer.What.TheVariants.{Items, Strips}
use Rattle.rt_retarget.specs.Answers.{IsDone, IsInfeasible, IsFaultOf}
use Rattle.rt_retarget.specs.Files.{Given}
use Rattle.rt_tables.specs.Tables.{IsTechOf}
use Rattle.rt_tech.specs.declared.table.Tech.{Tech}
use Rattle.rt_tech.specs.declared.table.Which.TheVariants.{Source}
use Rattle.rt_run.specs.Naming.{rule_names}
use Rattle.rt_run.specs.declared.answer.Answer.{Answer}
use Rattle.rt_run.specs.declared.answer.Answer.TheVariants.{Done, Usage, Refused, Infeasible, NotFetched, NotStored, OutOfMemory}
use Rattle.rt_run.specs.declared.answer.TheConstants.{NOT_STORED, NO_MEMORY}
use Rattle.rt_run.specs.Words.{Names, AreWordsFor}
use Rattle.rt_run.specs.Fetched.{AreFetched, IsNotFetched, fetched_names}

-- the status of each refusal of the files
abbrev pub number_of_refusal : Fault → ℕ
number_of_refusal (BadStream offset cause) = 3
number_of_refusal (TableToml which) = 4
number_of_refusal (BadTable which key cause) = 4
number_of_refusal (TablesDiffer key) = 4
number_of_refusal SizesToml = 5
number_of_refusal (BadSizes key cause) = 5
number_of_refusal (Unsupported offset odd) = 6
number_of_refusal (NoSuchStructure name) = 6
number_of_refusal (Cyclic names) = 6
number_of_refusal (UnmappedLayer layer number) = 6
number_of_refusal (ArrayStep offset) = 6
number_of_refusal (CoordinateRange offset) = 6
number_of_refusal TooDeep = 6
number_of_refusal (SourceShape shape rect) = 7
number_of_refusal (SourceRule rule p q found needed) = 7
number_of_refusal (TooMany what count) = 14
number_of_refusal refused.OutOfMemory = NO_MEMORY
number_of_refusal NotBuilt = 30

-- the status where a file wasn't fetched, by the error of the fetch
abbrev pub number_of_unfetched : DeskError → ℕ
number_of_unfetched unfetched.Failed = 11
number_of_unfetched unfetched.Missing = 11
number_of_unfetched unfetched.TooLong = 11
number_of_unfetched unfetched.OutOfMemory = NO_MEMORY

-- the status of each answer
abbrev pub number_of : Answer → ℕ
number_of Done = 0
number_of Usage = 2
number_of (Refused refusal) = number_of_refusal refusal.fault
number_of (Infeasible axis) = 8
number_of (NotFetched file) = number_of_unfetched file.error
number_of NotStored = NOT_STORED
number_of OutOfMemory = NO_MEMORY

-- what isn't taken in an element, as its variant is spelled
abbrev pub odd_word : Odd → List ℕ
odd_word PathType = codes "PathType"
odd_word PathWidth = codes "PathWidth"
odd_word BoxElement = codes "BoxElement"
odd_word Magnification = codes "Magnification"
odd_word Angle = codes "Angle"
odd_word Absolute = codes "Absolute"
odd_word Slanted = codes "Slanted"

-- a shape that a sound source doesn't have, as its variant is spelled
abbrev pub shape_word : Shape → List ℕ
shape_word CutShape = codes "CutShape"
shape_word CutUpper = codes "CutUpper"
shape_word CutLower = codes "CutLower"
shape_word Background = codes "Background"
shape_word BentChannel = codes "BentChannel"
shape_word NoKind = codes "NoKind"
shape_word TapChannel = codes "TapChannel"
shape_word StrayLabel = codes "StrayLabel"

-- of what there are too many
abbrev pub what_word : What → List ℕ
what_word Items = codes "items"
what_word Strips = codes "strips"

-- the line of each refusal of the files, with the names of the masks of a broken rule; want of memory has none
abbrev pub line_of_refusal : Fault → List (List ℕ) → List ℕ
line_of_refusal (BadStream offset cause) names = bad_stream_line offset cause
line_of_refusal (TableToml which) names = table_not_toml_line which
line_of_refusal (BadTable which key cause) names = table_fault_line which key cause
line_of_refusal (TablesDiffer key) names = tables_differ_line key
line_of_refusal SizesToml names = sizes_not_toml_line
line_of_refusal (BadSizes key cause) names = sizes_fault_line key cause
line_of_refusal (Unsupported offset odd) names = unsupported_line offset (odd_word odd)
line_of_refusal (NoSuchStructure name) names = no_such_structure_line name
line_of_refusal (Cyclic ring) names = cyclic_line ring
line_of_refusal (UnmappedLayer layer number) names = unmapped_layer_line layer number
line_of_refusal (ArrayStep offset) names = array_step_line offset
line_of_refusal (CoordinateRange offset) names = coordinate_range_line offset
line_of_refusal TooDeep names = too_deep_line
line_of_refusal (TooMany what count) names = too_many_line count (what_word what)
line_of_refusal (SourceShape shape rect) names = source_shape_line (shape_word shape) rect
line_of_refusal (SourceRule rule p q found needed) names = source_rule_line rule names p q found needed
line_of_refusal refused.OutOfMemory names = []
line_of_refusal NotBuilt names = not_built_line

-- the line of each answer; a moved cell, a failed store and want of memory have none
abbrev pub line_of : Answer → List ℕ
line_of Done = []
line_of Usage = usage_line
line_of (Refused refusal) = line_of_refusal refusal.fault refusal.names
line_of (Infeasible axis) = infeasible_line axis
line_of (NotFetched file) = unfetched_line file.error file.name.now
line_of NotStored = []
line_of OutOfMemory = []

-- the names that a refusal's line says: of a broken rule those of its masks in the source's table, of another refusal none
abbrev pub AreNamesFor : List ℕ → Fault → List (List ℕ) → Type 0
AreNamesFor stable (SourceRule rule p q found needed) names = (table : Tech) × IsTechOf Source stable table × (names ≡ rule_names table rule)
AreNamesFor stable fault names = names ≡ []

-- a broken rule is one of a source's table that is valid
abbrev pub IsBrokenIn : List ℕ → Fault → Type 0
IsBrokenIn stable (SourceRule rule p q found needed) = (table : Tech) × IsTechOf Source stable table
IsBrokenIn stable fault = Unit {0}

-- what an answer means for a refusal: it is the refusal with its names, or there was no memory for them
abbrev pub MeansOfRefusal : List ℕ → Fault → Answer → Type 0
MeansOfRefusal stable fault (Refused refusal) = (refusal.fault ≡ fault) × AreNamesFor stable refusal.fault refusal.names
MeansOfRefusal stable fault OutOfMemory = Unit {0}
MeansOfRefusal stable fault _ = ⊥

module _ (contents : Given) where
  -- the cell of the files was moved to these bytes
  abbrev pub AreMovedTo : List ℕ → Type 0
  AreMovedTo bytes = IsDone contents bytes

  -- the cell was moved to these bytes, OUT holds them, and every other file is as it was
  pub record IsStoredDone (out : List ℕ) (before after : Outside) : Type 0 where
    pub bytes : List ℕ
    pub moved : AreMovedTo bytes
    pub stored : IsStored before.files after.files out bytes

  -- the cell was moved, but OUT wasn't stored: the store was a fault, and OUT's file alone may differ
  pub record IsNotStored (out : List ℕ) (before after : Outside) : Type 0 where
    pub bytes : List ℕ
    pub moved : AreMovedTo bytes
    pub failed : IsFailedStore before after out

  -- what an answer means for the contents of the files, and for the outside before and after
  abbrev pub MeansOfContents : List ℕ → Outside → Outside → Answer → Type 0
  MeansOfContents out before after Done = IsStoredDone out before after
  MeansOfContents out before after NotStored = IsNotStored out before after
  MeansOfContents out before after (Refused refusal) =
      IsFaultOf contents refusal.fault × AreNamesFor contents.stable refusal.fault refusal.names × (after.files ≡ before.files)
  MeansOfContents out before after (Infeasible axis) = IsInfeasible contents axis × (after.files ≡ before.files)
  MeansOfContents out before after OutOfMemory = after.files ≡ before.files
  MeansOfContents out before after Usage = ⊥
  MeansOfContents out before after (NotFetched file) = ⊥

-- what an answer means for the store of the moved cell
abbrev pub MeansOfStore : Outside → Outside → List ℕ → List ℕ → Answer → Type 0
MeansOfStore before after out bytes Done = IsStored before.files after.files out bytes
MeansOfStore before after out bytes NotStored = IsFailedStore before after out
MeansOfStore before after out bytes OutOfMemory = after.files ≡ before.files
MeansOfStore before after out bytes _ = ⊥

-- the four files were fetched, and the answer means this for their contents
pub record MeansOfFetched (names : Names) (before after : Outside) (answer : Answer) : Type 0 where
  pub contents : Given
  pub fetched : AreFetched before.files names contents
  pub means : MeansOfContents contents names.out before after answer

-- what an answer means for the named files
abbrev pub MeansOfNames : Names → Outside → Outside → Answer → Type 0
MeansOfNames names before after Done = MeansOfFetched names before after Done
MeansOfNames names before after NotStored = MeansOfFetched names before after NotStored
MeansOfNames names before after (Refused refusal) = MeansOfFetched names before after (Refused refusal)
MeansOfNames names before after (Infeasible axis) = MeansOfFetched names before after (Infeasible axis)
MeansOfNames names before after (NotFetched file) =
    IsNotFetched before after (fetched_names names) file.name.now file.error × (after.files ≡ before.files)
MeansOfNames names before after OutOfMemory = after.files ≡ before.files
MeansOfNames names before after Usage = ⊥

-- the words are of the form, and the answer means this for the files that they name
pub record MeansOfWords (words : List (List ℕ)) (before after : Outside) (answer : Answer) : Type 0 where
  pub names : Names
  pub form : AreWordsFor words names
  pub means : MeansOfNames names before after answer

-- the words are of no form, and the files are as they were
pub record IsUsage (words : List (List ℕ)) (before after : Outside) : Type 0 where
  pub no_form : (names : Names) → ¬ AreWordsFor words names
  pub files : after.files ≡ before.files

-- what an answer means
abbrev pub Means : List (List ℕ) → Outside → Outside → Answer → Type 0
Means words before after Usage = IsUsage words before after
Means words before after Done = MeansOfWords words before after Done
Means words before after NotStored = MeansOfWords words before after NotStored
Means words before after (Refused refusal) = MeansOfWords words before after (Refused refusal)
Means words before after (Infeasible axis) = MeansOfWords words before after (Infeasible axis)
Means words before after (NotFetched file) = MeansOfWords words before after (NotFetched file)
Means words before after OutOfMemory = MeansOfWords words before after OutOfMemory

-- nothing was said, and no say was a fault
pub record IsSilent (before after : Outside) : Type 0 where
  pub said : after.said ≡ before.said
  pub say_faults : after.say_faults ≡ before.say_faults

-- how a run ends: the line was said, or a first part of it where a say was a fault, and the status is the answer's; or there
-- is a line, but there was no memory to say all of it, and the status is 13
pub data Ends (old new : Outside) (line : List ℕ) (number : ℕ) : ℕ → Type 0 where
  said : IsSaid old new line → Ends old new line number number
  failed : IsFailedSay old new line → Ends old new line number number
  no_memory : (line ≡ [] → ⊥) → (count : ℕ) → IsSaidInPart old new line count → Ends old new line number NO_MEMORY

-- a run: all that its answer means holds, and the answer's line and status end it
pub record IsRunOf (words : List (List ℕ)) (before after : Outside) (status : ℕ) : Type 0 where
  pub answer : Answer
  pub means : Means words before after answer
  pub ends : Ends before after (line_of answer) (number_of answer) status
