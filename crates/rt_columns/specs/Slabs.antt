-- The names that a slab of columns shows, by its bars and those that go on beyond it.
use Rattle.std.specs.Prelude.{ℤ, ◌⊎◌, List}
use Rattle.rt_sweep.specs.declared.bar.Bar.{Bar}
use Rattle.rt_rows.specs.declared.name.Name.{Name}
use Rattle.rt_strips.specs.Placed.{Placed}
use Rattle.rt_columns.specs.Adding.{Adds}
use Rattle.rt_columns.specs.Bars.{ArePassing, IsGapAmong, IsRunAmong}

-- the name is of a gap or a run of the bars, or of a run of those that go on
abbrev pub IsSlabName : List Placed → List Bar → List Bar → Name → Type 0
IsSlabName strips active through name = IsGapAmong strips active name ⊎ (IsRunAmong strips active name ⊎ IsRunAmong strips through name)

-- the names of a slab that ends at the column are added
pub record AddsSlab (strips : List Placed) (active : List Bar) (column : ℤ) (before after : List Name) : Type 0 where
  pub through : List Bar
  pub passing : ArePassing active column through
  pub adds : Adds (IsSlabName strips active through) before after
