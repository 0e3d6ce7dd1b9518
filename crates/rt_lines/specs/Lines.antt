-- The lines that the program says.
use Rattle.std.specs.Prelude.{ℕ, ℤ, List, [], ◌∷◌, ◌++◌, codes, decimal}
use Rattle.std.specs.List.{flat_map}
use Rattle.std.specs.Fmt.{signed_decimal}
use Rattle.rt_base.specs.declared.plane.Axis.{Axis}
use Rattle.rt_base.specs.declared.plane.Axis.TheVariants.{Across, Upwards}
use Rattle.rt_base.specs.declared.plane.Cell.{Cell}
use Rattle.rt_base.specs.declared.plane.Rect.{Rect}
use Rattle.gds_grammar.specs.declared.cause.Cause.{Cause}
use Rattle.gds_grammar.specs.declared.cause.Cause.TheVariants.{Short, OddLength, LengthBelow4, UnknownType, WrongData, Unexpected, BadText, NotClosed, DuplicateName}
use Rattle.rt_tech.specs.declared.table.TableCause.{TableCause}
use Rattle.rt_tech.specs.declared.table.TableCause.TheVariants.{Missing as MissingKey, Form, Range, Duplicate, Name, Role, Clash, Unknown}
use Rattle.rt_tech.specs.declared.table.Which.{Which}
use Rattle.rt_tech.specs.declared.table.Which.TheVariants.{Source, Target}
use Rattle.rt_tech.specs.declared.rules.RuleName.{RuleName}
use Rattle.rt_tech.specs.declared.rules.RuleName.TheVariants.{Width, Space, Size, Enclose, Cap, Ext, Cross, Apart}
use Rattle.rt_desk.specs.declared.outside.DeskError.{DeskError}
use Rattle.rt_desk.specs.declared.outside.DeskError.TheVariants.{Failed, Missing, TooLong, OutOfMemory}

-- the parts, one after another, and a line feed behind them
abbrev pub line : List (List ℕ) → List ℕ
line [] = codes "\n"
line (part ∷ parts) = part ++ line parts

-- the cause in a stream, as its variant is spelled
abbrev pub stream_cause : Cause → List ℕ
stream_cause Short = codes "Short"
stream_cause OddLength = codes "OddLength"
stream_cause LengthBelow4 = codes "LengthBelow4"
stream_cause UnknownType = codes "UnknownType"
stream_cause WrongData = codes "WrongData"
stream_cause (Unexpected code) = codes "Unexpected"
stream_cause BadText = codes "BadText"
stream_cause NotClosed = codes "NotClosed"
stream_cause DuplicateName = codes "DuplicateName"

-- the cause in a table or a sizes file, as its variant is spelled
abbrev pub table_cause : TableCause → List ℕ
table_cause MissingKey = codes "Missing"
table_cause Form = codes "Form"
table_cause Range = codes "Range"
table_cause Duplicate = codes "Duplicate"
table_cause Name = codes "Name"
table_cause Role = codes "Role"
table_cause Clash = codes "Clash"
table_cause Unknown = codes "Unknown"

-- which of the two tables
abbrev pub table_word : Which → List ℕ
table_word Source = codes "source table: "
table_word Target = codes "target table: "

-- the kind of a rule, before the names of its masks
abbrev pub rule_word : RuleName → List ℕ
rule_word (Width mask) = codes "width"
rule_word (Space mask) = codes "space"
rule_word (Size mask) = codes "size"
rule_word (Enclose place) = codes "enclose"
rule_word Cap = codes "cap"
rule_word Ext = codes "ext"
rule_word Cross = codes "cross"
rule_word (Apart place) = codes "apart"

-- the words are of none of the forms
abbrev pub usage_line : List ℕ
usage_line = line (codes "usage: retarget or check SOURCE STABLE TTABLE SIZES OUT CERT, or make N OUT" ∷ [])

-- the bytes of the source stop being a stream at the offset
abbrev pub bad_stream_line : ℕ → Cause → List ℕ
bad_stream_line offset cause = line (codes "bad stream at " ∷ decimal offset ∷ codes ": " ∷ stream_cause cause ∷ [])

-- a table isn't valid at the key
abbrev pub table_fault_line : Which → List ℕ → TableCause → List ℕ
table_fault_line which key cause = line (table_word which ∷ key ∷ codes ": " ∷ table_cause cause ∷ [])

-- a table isn't TOML
abbrev pub table_not_toml_line : Which → List ℕ
table_not_toml_line which = line (table_word which ∷ codes "not toml" ∷ [])

-- the two tables differ in form at the key
abbrev pub tables_differ_line : List ℕ → List ℕ
tables_differ_line key = line (codes "tables differ: " ∷ key ∷ [])

-- the sizes file isn't valid at the key
abbrev pub sizes_fault_line : List ℕ → TableCause → List ℕ
sizes_fault_line key cause = line (codes "sizes: " ∷ key ∷ codes ": " ∷ table_cause cause ∷ [])

-- the sizes file isn't TOML
abbrev pub sizes_not_toml_line : List ℕ
sizes_not_toml_line = line (codes "sizes: not toml" ∷ [])

-- the source has no axis to mirror at
abbrev pub no_axis_line : List ℕ
no_axis_line = line (codes "no axis" ∷ [])

-- an element of the source isn't taken
abbrev pub unsupported_line : ℕ → List ℕ → List ℕ
unsupported_line offset odd = line (codes "unsupported at " ∷ decimal offset ∷ codes ": " ∷ odd ∷ [])

-- no structure has the name
abbrev pub no_such_structure_line : List ℕ → List ℕ
no_such_structure_line name = line (codes "no such structure: " ∷ name ∷ [])

-- a name behind a space
abbrev pub named : List ℕ → List ℕ
named name = codes " " ++ name

-- structures that reference each other in a ring: each name behind a space
abbrev pub cyclic_line : List (List ℕ) → List ℕ
cyclic_line names = line (codes "cyclic:" ∷ flat_map named names ∷ [])

-- the source table neither maps nor ignores the layer and its second number
abbrev pub unmapped_layer_line : ℤ → ℤ → List ℕ
unmapped_layer_line layer number = line (codes "unmapped layer: " ∷ signed_decimal layer ∷ codes " " ∷ signed_decimal number ∷ [])

-- the step of an array isn't whole
abbrev pub array_step_line : ℕ → List ℕ
array_step_line offset = line (codes "array step at " ∷ decimal offset ∷ [])

-- a placed coordinate is too large
abbrev pub coordinate_range_line : ℕ → List ℕ
coordinate_range_line offset = line (codes "coordinate range at " ∷ decimal offset ∷ [])

-- a chain of references is too long
abbrev pub too_deep_line : List ℕ
too_deep_line = line (codes "too deep" ∷ [])

-- the two numbers of a cell
abbrev pub cell_parts : Cell → List (List ℕ) → List (List ℕ)
cell_parts cell parts = signed_decimal cell.x ∷ codes " " ∷ signed_decimal cell.y ∷ parts

-- the four sides of a rectangle: left, bottom, right and top
abbrev pub rect_parts : Rect → List (List ℕ)
rect_parts rect = signed_decimal rect.x1 ∷ codes " " ∷ signed_decimal rect.y1 ∷ codes " " ∷ signed_decimal rect.x2 ∷ codes " " ∷ signed_decimal rect.y2 ∷ []

-- the source has a shape that a sound one doesn't have, and the rectangle shows it
abbrev pub source_shape_line : List ℕ → Rect → List ℕ
source_shape_line shape rect = line (codes "source shape: " ∷ shape ∷ codes " at " ∷ rect_parts rect)

-- between which cells a rule is broken, and what was found and needed
abbrev pub breach_parts : Cell → Cell → ℤ → ℤ → List (List ℕ)
breach_parts p q found needed = codes " at " ∷ cell_parts p (codes " and " ∷ cell_parts q
    (codes ": found " ∷ signed_decimal found ∷ codes ", needed " ∷ signed_decimal needed ∷ []))

-- the source breaks a rule between two cells; the rule goes by its kind and the names of its masks: one, two or none
abbrev pub source_rule_line : RuleName → List (List ℕ) → Cell → Cell → ℤ → ℤ → List ℕ
source_rule_line rule names p q found needed =
    line (codes "source rule: " ∷ rule_word rule ∷ flat_map named names ∷ breach_parts p q found needed)

-- the file of that name wasn't fetched; want of memory has no line
abbrev pub unfetched_line : DeskError → List ℕ → List ℕ
unfetched_line Failed name = line (codes "read fault: " ∷ name ∷ [])
unfetched_line Missing name = line (codes "missing: " ∷ name ∷ [])
unfetched_line TooLong name = line (codes "too long: " ∷ name ∷ [])
unfetched_line OutOfMemory name = []

-- there are too many of these: so many
abbrev pub too_many_line : ℕ → List ℕ → List ℕ
too_many_line count what = line (codes "too many: " ∷ decimal count ∷ codes " " ∷ what ∷ [])

-- the files ask for what isn't built yet
abbrev pub not_built_line : List ℕ
not_built_line = line (codes "not built" ∷ [])

-- no positions meet the template of the axis
abbrev pub infeasible_line : Axis → List ℕ
infeasible_line Across = line (codes "infeasible across" ∷ [])
infeasible_line Upwards = line (codes "infeasible upwards" ∷ [])
