-- How a run ends, by what saying its line answered.
use Rattle.std.proofs.Common.{◌≡◌, ℕ, ℤ, List, [], Result, refl}
use Rattle.rt_base.specs.declared.plane.Cell.{Cell}
use Rattle.rt_tech.specs.declared.rules.RuleName.{RuleName}
use Rattle.rt_desk.specs.declared.outside.DeskError.{DeskError}
use Rattle.rt_desk.specs.Desk.{Outside, IsSaid, IsSaidInPart, IsFailedSay}
use Rattle.rt_lines.specs.Lines.{source_rule_line, unmapped_layer_line}
use Rattle.rt_lines.specs.Said.{SaysLine}
use Rattle.rt_lines.proofs.LineLemmas.{none_said}
use Rattle.rt_run.specs.Answers.{IsSilent, Ends, said, failed, no_memory}

-- a line that was said ends it
pub said_ends : (old new : Outside) (line : List ℕ) (number status : ℕ) → IsSaid old new line → status ≡ number → Ends old new line number status
said_ends old new line number status is e = rw e (said is)

-- a say that failed ends it
pub failed_ends : (old new : Outside) (line : List ℕ) (number status : ℕ) → IsFailedSay old new line → status ≡ number → Ends old new line number status
failed_ends old new line number status is e = rw e (failed is)

-- want of memory for a line ends it
pub no_memory_ends : (old new : Outside) (line : List ℕ) (number : ℕ)
    → (line ≡ [] → ⊥) → (count : ℕ) × IsSaidInPart old new line count → Ends old new line number 13
no_memory_ends old new line number some (count, is) = no_memory some count is

-- an answer without a line ends with nothing said
pub nothing_ends : (old : Outside) (line : List ℕ) (number status : ℕ) → line ≡ [] → status ≡ number → Ends old old line number status
nothing_ends old line number status none e = rw (e, none) (said (none_said old old refl))

-- what was said before counts from a moment at which as much was said
silent_said : (old mid new : Outside) (line : List ℕ) → IsSilent old mid → IsSaid mid new line → IsSaid old new line
silent_said old mid new line silent is = rw silent.said at is

silent_part : (old mid new : Outside) (line : List ℕ) (count : ℕ) → IsSilent old mid → IsSaidInPart mid new line count → IsSaidInPart old new line count
silent_part old mid new line count silent part = record { within = part.within; prefix = rw silent.said at part.prefix }

-- the end of a run from a moment at which as much was said
pub silent_ends : (old mid new : Outside) (line : List ℕ) (number status : ℕ) → IsSilent old mid → Ends mid new line number status → Ends old new line number status
silent_ends old mid new line number _ silent (said is) = said (silent_said old mid new line silent is)
silent_ends old mid new line number _ silent (failed is) =
    failed (record { rose = rw silent.say_faults at is.rose; said = (is.said.0, silent_part old mid new line is.said.0 silent is.said.1) })
silent_ends old mid new line number _ silent (no_memory some count part) = no_memory some count (silent_part old mid new line count silent part)

-- the line of a broken rule, where the two numbers are known as others
pub rule_line : (old new : Outside) (rule : RuleName) (names : List (List ℕ)) (p q : Cell) (found needed f n : ℤ) (result : Result (Unit {0}) DeskError)
    → f ≡ found → n ≡ needed → SaysLine old new (source_rule_line rule names p q f n) result
    → SaysLine old new (source_rule_line rule names p q found needed) result
rule_line old new rule names p q found needed f n result e d says = rw (e, d) at says

-- the line of a layer of no mask, where the two numbers are known as others
pub layer_line : (old new : Outside) (layer number l n : ℤ) (result : Result (Unit {0}) DeskError)
    → l ≡ layer → n ≡ number → SaysLine old new (unmapped_layer_line l n) result
    → SaysLine old new (unmapped_layer_line layer number) result
layer_line old new layer number l n result e d says = rw (e, d) at says
