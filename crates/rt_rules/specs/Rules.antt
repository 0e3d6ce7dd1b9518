-- The rules of a table in their order, over what each mask covers, and the first of them that is broken. A rule that is to come is one
-- line in `rules_of`, `Keeps`, `Shows` and `needed_by`.
use Rattle.std.specs.Prelude.{◌≡◌, ℕ, ◌+◌, ℤ, pos, ◌*ℤ◌, List, [], ◌∷◌, ◌++◌, All, Option, Some, None}
use Rattle.rt_base.specs.declared.plane.Cell.{Cell}
use Rattle.rt_layout.specs.declared.layout.Layout.{Layout}
use Rattle.rt_layout.specs.Covering.{MaskCovers}
use Rattle.rt_tech.specs.declared.rules.RuleName.{RuleName}
use Rattle.rt_tech.specs.declared.rules.RuleName.TheVariants.{Width, Space, Size, Enclose, Apart}
use Rattle.rt_tech.specs.declared.rules.RuleError.{RuleError}
use Rattle.rt_tech.specs.declared.rules.RuleError.TheVariants.{Broken, OutOfMemory}
use Rattle.rt_tech.specs.declared.table.Apart.{Apart as Distance}
use Rattle.rt_tech.specs.declared.table.Enclose.{Enclose as Enclosure}
use Rattle.rt_tech.specs.declared.table.Mask.{Mask}
use Rattle.rt_tech.specs.declared.table.Role.{Role as MaskRole}
use Rattle.rt_tech.specs.declared.table.Role.TheVariants.{Cut}
use Rattle.rt_tech.specs.declared.table.Tech.{Tech}
use Rattle.rt_tech.specs.Tech.{width_of, space_of}
use Rattle.rt_rules.specs.Width.{KeepsWidth, WidthBreach}
use Rattle.rt_rules.specs.Space.{KeepsSpace, SpaceBreach}
use Rattle.rt_rules.specs.Cuts.{KeepsSize, SizeBreach, KeepsEnclosed, EnclosureBreach, KeepsApart, ApartBreach}
use Rattle.rt_rules.specs.Pairs.{enclose_at, apart_at, enclose_number, apart_number, lower_of}
use Rattle.rt_rules.specs.Pieces.{LiesIn}

-- the rule of the shapes of a mask: of a cut the size of its squares, of another mask its width. A table has both under one key
abbrev pub rule_by_role : MaskRole → ℕ → RuleName
rule_by_role Cut m = Size m
rule_by_role _ m = Width m

abbrev pub shape_rule : ℕ → Mask → RuleName
shape_rule m mask = rule_by_role mask.role m

-- the rules of masks of which the first has number m: of each that of its shapes, then its space
abbrev pub mask_rules : ℕ → List Mask → List RuleName
mask_rules m [] = []
mask_rules m (mask ∷ masks) = shape_rule m mask ∷ Space m ∷ mask_rules (m + 1) masks

-- a rule for each entry of a list of which the first has number n
abbrev pub numbered : {X : Type 0} → (ℕ → RuleName) → ℕ → List X → List RuleName
numbered rule n [] = []
numbered rule n (x ∷ xs) = rule n ∷ numbered rule (n + 1) xs

-- the rules of a table, in the order in which they are tested: those of its masks, its enclosures, its distances
abbrev pub rules_of : Tech → List RuleName
rules_of tech = mask_rules 0 tech.masks ++ (numbered Enclose 0 tech.encloses ++ numbered Apart 0 tech.aparts)

-- the number of a rule, where a number of the table is so many units of the layout. A rule that isn't listed has none
abbrev pub needed_by : ℤ → Tech → RuleName → ℤ
needed_by unit tech (Width m) = unit *ℤ width_of tech m
needed_by unit tech (Space m) = unit *ℤ space_of tech m
needed_by unit tech (Size m) = unit *ℤ width_of tech m
needed_by unit tech (Enclose n) = unit *ℤ enclose_number (enclose_at tech n)
needed_by unit tech (Apart n) = unit *ℤ apart_number (apart_at tech n)
needed_by unit tech _ = pos 0

-- the cells of mask m that a rule counts: all of them, or those of the pieces that lie in a lower mask
abbrev pub part_of : (cells : ℕ → ℤ → ℤ → Type 0) → ℕ → Option ℕ → ℤ → ℤ → Type 0
part_of cells m None = cells m
part_of cells m (Some lower) = LiesIn (cells m) (cells lower)

module _ (unit : ℤ) (tech : Tech) (cells : ℕ → ℤ → ℤ → Type 0) where
  -- the cells keep an enclosure, and a distance; one that isn't in the table is kept by none
  abbrev pub KeepsEnclose : Option Enclosure → Type 0
  KeepsEnclose (Some e) = KeepsEnclosed (unit *ℤ e.number) (part_of cells e.cut (lower_of tech e)) (cells e.mask)
  KeepsEnclose None = ⊥

  abbrev pub KeepsDistance : Option Distance → Type 0
  KeepsDistance (Some a) = KeepsApart (unit *ℤ a.number) (part_of cells a.a a.on) (cells a.b)
  KeepsDistance None = ⊥

  -- the two cells and the number found show that the cells break it
  abbrev pub ShowsEnclose : Option Enclosure → Cell → Cell → ℤ → Type 0
  ShowsEnclose (Some e) p q found = EnclosureBreach (unit *ℤ e.number) (part_of cells e.cut (lower_of tech e)) (cells e.mask) p.x p.y q.x q.y found
  ShowsEnclose None p q found = ⊥

  abbrev pub ShowsDistance : Option Distance → Cell → Cell → ℤ → Type 0
  ShowsDistance (Some a) p q found = ApartBreach (unit *ℤ a.number) (part_of cells a.a a.on) (cells a.b) p.x p.y q.x q.y found
  ShowsDistance None p q found = ⊥

  -- the cells keep the rule; a rule that isn't listed is kept by none
  abbrev pub Keeps : RuleName → Type 0
  Keeps (Width m) = KeepsWidth (unit *ℤ width_of tech m) (cells m)
  Keeps (Space m) = KeepsSpace (unit *ℤ space_of tech m) (cells m)
  Keeps (Size m) = KeepsSize (unit *ℤ width_of tech m) (cells m)
  Keeps (Enclose n) = KeepsEnclose (enclose_at tech n)
  Keeps (Apart n) = KeepsDistance (apart_at tech n)
  Keeps _ = ⊥

  -- the two cells and the number found show that the cells break the rule
  abbrev pub Shows : RuleName → Cell → Cell → ℤ → Type 0
  Shows (Width m) p q found = WidthBreach (unit *ℤ width_of tech m) (cells m) p.x p.y q.x q.y found
  Shows (Space m) p q found = SpaceBreach (unit *ℤ space_of tech m) (cells m) p.x p.y q.x q.y found
  Shows (Size m) p q found = SizeBreach (unit *ℤ width_of tech m) (cells m) p.x p.y q.x q.y found
  Shows (Enclose n) p q found = ShowsEnclose (enclose_at tech n) p q found
  Shows (Apart n) p q found = ShowsDistance (apart_at tech n) p q found
  Shows _ p q found = ⊥

  -- the cells keep every rule of the table
  pub record BreaksNoRule : Type 0 where
    pub all : All Keeps (rules_of tech)

  -- the rule is the first that the cells break: it is in the list, those before it are kept, and the two cells and the number show it
  pub record IsFirstBreach (rule : RuleName) (p q : Cell) (found needed : ℤ) : Type 0 where
    pub before : List RuleName
    pub after : List RuleName
    pub in_order : rules_of tech ≡ before ++ rule ∷ after
    pub kept : All Keeps before
    pub shown : Shows rule p q found
    pub number : needed ≡ needed_by unit tech rule

  -- what a refusal of a check says
  abbrev pub IsBreachOf : RuleError → Type 0
  IsBreachOf (Broken rule p q found needed) = IsFirstBreach rule p q found needed
  IsBreachOf OutOfMemory = Unit {0}

-- a first breach is never found in a layout that breaks no rule
abbrev pub FirstBreachBreaks : Type 0
FirstBreachBreaks = (unit : ℤ) (tech : Tech) (layout : Layout) (rule : RuleName) (p q : Cell) (found needed : ℤ)
    → IsFirstBreach unit tech (MaskCovers layout) rule p q found needed → BreaksNoRule unit tech (MaskCovers layout) → ⊥
