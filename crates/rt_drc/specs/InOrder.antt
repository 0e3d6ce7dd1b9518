-- Rules in their order: that cells keep them all, which one is the first that they break, and what is said of one rule.
use Rattle.std.specs.Prelude.{◌≡◌, ℕ, ℤ, pos, List, ◌∷◌, ◌++◌, All, Some}
use Rattle.rt_base.specs.declared.plane.Cell.{Cell}
use Rattle.rt_tech.specs.declared.rules.RuleName.{RuleName}
use Rattle.rt_tech.specs.declared.rules.RuleName.TheVariants.{Enclose, Apart}
use Rattle.rt_tech.specs.declared.rules.RuleError.{RuleError}
use Rattle.rt_tech.specs.declared.rules.RuleError.TheVariants.{Broken, OutOfMemory}
use Rattle.rt_tech.specs.declared.table.Apart.{Apart as Distance}
use Rattle.rt_tech.specs.declared.table.Enclose.{Enclose as Enclosure}
use Rattle.rt_tech.specs.declared.table.Tech.{Tech}
use Rattle.rt_rules.specs.Rules.{numbered, needed_by, Keeps, Shows, ShowsEnclose, ShowsDistance}
use Rattle.rt_drc.specs.declared.rows.Witness.{Witness}

-- the rules of a table that are of two masks: its enclosures, then its distances
abbrev pub pair_rules : Tech → List RuleName
pair_rules tech = numbered Enclose 0 tech.encloses ++ numbered Apart 0 tech.aparts

module _ (tech : Tech) (cells : ℕ → ℤ → ℤ → Type 0) where
  -- the cells keep each of the rules
  pub record KeepAll (rules : List RuleName) : Type 0 where
    pub kept : All (Keeps (pos 1) tech cells) rules

  -- the rule is the first of the list that the cells break: those before it are kept, and the two cells and the number show it
  pub record IsFirstOf (rules : List RuleName) (rule : RuleName) (p q : Cell) (found needed : ℤ) : Type 0 where
    pub before : List RuleName
    pub after : List RuleName
    pub in_order : rules ≡ before ++ rule ∷ after
    pub kept : All (Keeps (pos 1) tech cells) before
    pub shown : Shows (pos 1) tech cells rule p q found
    pub number : needed ≡ needed_by (pos 1) tech rule

  -- what a refusal says of the rules
  abbrev pub IsRefusal : List RuleName → RuleError → Type 0
  IsRefusal rules (Broken rule p q found needed) = IsFirstOf rules rule p q found needed
  IsRefusal rules OutOfMemory = Unit {0}

-- what a refusal says of one rule and the number that it asks for: the two cells and the number found are those of a witness that shows it broken
abbrev pub IsBrokenBy : RuleName → ℤ → (Witness → Type 0) → RuleError → Type 0
IsBrokenBy rule number shows (Broken broken p q found needed) = (broken ≡ rule) × (needed ≡ number) × shows (record { p = p; q = q; found = found })
IsBrokenBy rule number shows OutOfMemory = Unit {0}

-- the witness shows that the cells break the enclosure, and the distance
abbrev pub ShowsEnclosed : Tech → (ℕ → ℤ → ℤ → Type 0) → Enclosure → Witness → Type 0
ShowsEnclosed tech cells enclose witness = ShowsEnclose (pos 1) tech cells (Some enclose) witness.p witness.q witness.found

abbrev pub ShowsDistant : Tech → (ℕ → ℤ → ℤ → Type 0) → Distance → Witness → Type 0
ShowsDistant tech cells apart witness = ShowsDistance (pos 1) tech cells (Some apart) witness.p witness.q witness.found
