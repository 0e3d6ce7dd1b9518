-- What the tables, the sizes file and the source hold is one at most.
use Rattle.std.proofs.Common.{◌≡◌, ℕ, List, subst, sym, ap, ◌∙◌}
use Rattle.rt_tech.specs.declared.table.Tech.{Tech}
use Rattle.rt_tech.specs.declared.table.Which.TheVariants.{Source, Target}
use Rattle.rt_tech.specs.declared.sizes.Sizes.{Sizes}
use Rattle.rt_sizes.specs.SizesFile.{DescribesSizes, sizes_of}
use Rattle.rt_tables.proofs.Valid.{same_table}
use Rattle.rt_retarget.specs.Files.{AreFiles}

pub same_sizes : (target : Tech) (bytes : List ℕ) (a b : Sizes) → DescribesSizes target bytes a → DescribesSizes target bytes b → a ≡ b
same_sizes target bytes a b x y =
    let file : x.file ≡ y.file = cc (x.document.reads, y.document.reads) in
    x.told ∙ ap (sizes_of target) file ∙ sym y.told

-- the tables and the sizes are the same
pub record AreSameFiles (s t : Tech) (asked : Sizes) (s' t' : Tech) (asked' : Sizes) : Type 0 where
  pub source : s ≡ s'
  pub target : t ≡ t'
  pub sizes : asked ≡ asked'

pub one_reading : (stable ttable sizes : List ℕ) (s t : Tech) (asked : Sizes) (s' t' : Tech) (asked' : Sizes)
    → AreFiles stable ttable sizes s t asked → AreFiles stable ttable sizes s' t' asked' → AreSameFiles s t asked s' t' asked'
one_reading stable ttable sizes s t asked s' t' asked' a b =
    let target = same_table Target ttable t t' a.tables.target_read b.tables.target_read in
    record {
      source = same_table Source stable s s' a.tables.source_read b.tables.source_read;
      target = target;
      sizes = same_sizes t' sizes asked asked' (subst (λ (z : Tech). DescribesSizes z sizes asked) target a.sizes_read) b.sizes_read;
    }
