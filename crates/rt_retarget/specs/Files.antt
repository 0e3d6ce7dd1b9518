-- The four files, and what the tables and the sizes file hold.
use Rattle.std.specs.Prelude.{◌≡◌, ℕ, List, All}
use Rattle.rt_tech.specs.declared.table.Tech.{Tech}
use Rattle.rt_tech.specs.declared.table.Which.TheVariants.{Source, Target}
use Rattle.rt_tech.specs.declared.sizes.Mirror.TheVariants as mirror
use Rattle.rt_tech.specs.declared.sizes.Sizes.{Sizes}
use Rattle.rt_tables.specs.Tables.{IsTechOf}
use Rattle.rt_tables.specs.Forms.{HaveSameForm}
use Rattle.rt_sizes.specs.SizesFile.{DescribesSizes}
use Rattle.rt_view.specs.Shapes.{IsWiring}

-- the bytes of the four files
pub record Given : Type 0 where
  pub source : List ℕ
  pub stable : List ℕ
  pub ttable : List ℕ
  pub sizes : List ℕ

-- the two files are rule tables of one form
pub record AreTables (stable ttable : List ℕ) (source_table target_table : Tech) : Type 0 where
  pub source_read : IsTechOf Source stable source_table
  pub target_read : IsTechOf Target ttable target_table
  pub same_form : HaveSameForm source_table target_table

-- the file is a target's rule table of the form of the source's
pub record IsTargetOf (source_table : Tech) (ttable : List ℕ) (target_table : Tech) : Type 0 where
  pub target_read : IsTechOf Target ttable target_table
  pub same_form : HaveSameForm source_table target_table

-- the three files are rule tables of one form, and a sizes file for the target's
pub record AreFiles (stable ttable sizes : List ℕ) (source_table target_table : Tech) (asked : Sizes) : Type 0 where
  pub tables : AreTables stable ttable source_table target_table
  pub sizes_read : DescribesSizes target_table sizes asked

-- what is built so far: masks of metal and cuts alone, no mirror
pub record AreBuilt (source_table : Tech) (asked : Sizes) : Type 0 where
  pub wiring : All IsWiring source_table.masks
  pub no_mirror : asked.mirror ≡ mirror.None
