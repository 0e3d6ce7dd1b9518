-- The two rules of one mask: that of its shapes, which is the size of a cut and the width of another mask, before its space.
use Rattle.std.specs.Prelude.{ℕ, ℤ, ◌⊎◌}
use Rattle.rt_tech.specs.declared.rules.RuleName.TheVariants.{Space}
use Rattle.rt_tech.specs.declared.rules.RuleError.{RuleError}
use Rattle.rt_tech.specs.declared.table.Mask.{Mask}
use Rattle.rt_tech.specs.declared.table.Role.{Role as MaskRole}
use Rattle.rt_tech.specs.declared.table.Role.TheVariants.{Cut}
use Rattle.rt_rules.specs.Cuts.{KeepsSize}
use Rattle.rt_rules.specs.Rules.{shape_rule}
use Rattle.rt_rules.specs.Space.{KeepsSpace}
use Rattle.rt_rules.specs.Width.{KeepsWidth}
use Rattle.rt_drc.specs.declared.rows.Witness.{Witness}
use Rattle.rt_drc.specs.InOrder.{IsBrokenBy}
use Rattle.rt_drc.specs.Rows.{ShowsWidth, ShowsSpace}
use Rattle.rt_drc.specs.Squares.{ShowsSize}

-- the cells of a mask with the role keep the rule of its shapes
abbrev pub KeepsShape : MaskRole → ℤ → (ℤ → ℤ → Type 0) → Type 0
KeepsShape Cut size cells = KeepsSize size cells
KeepsShape _ width cells = KeepsWidth width cells

-- the witness shows that they break it
abbrev pub ShowsShape : MaskRole → ℤ → (ℤ → ℤ → Type 0) → Witness → Type 0
ShowsShape Cut size cells = ShowsSize size cells
ShowsShape _ width cells = ShowsWidth width cells

-- the cells of the mask keep both rules
pub record KeepsBoth (mask : Mask) (cells : ℤ → ℤ → Type 0) : Type 0 where
  pub keeps_shape : KeepsShape mask.role mask.width cells
  pub keeps_space : KeepsSpace mask.space cells

-- what a refusal says of mask number m: the rule of its shapes is broken, or that is kept and its space is broken
pub record IsMaskRefusal (m : ℕ) (mask : Mask) (cells : ℤ → ℤ → Type 0) (error : RuleError) : Type 0 where
  pub either : IsBrokenBy (shape_rule m mask) mask.width (ShowsShape mask.role mask.width cells) error
      ⊎ (KeepsShape mask.role mask.width cells × IsBrokenBy (Space m) mask.space (ShowsSpace mask.space cells) error)
