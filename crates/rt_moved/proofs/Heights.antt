-- Each strip is drawn with a row at least, and one of a cut as high as its size.
use Rattle.std.proofs.Common.{ℕ, ℤ, pos, ◌+ℤ◌, ◌≤ℤ◌, Bool, true, false, cond, arith}
use Rattle.std.proofs.lemmas.Int.{ints}
use Rattle.rt_view.specs.declared.job.Job.{Job}
use Rattle.rt_view.specs.Job.{strips_of}
use Rattle.rt_rows.specs.declared.row.Var.{Var}
use Rattle.rt_rows.specs.declared.row.Var.TheVariants.{B, T}
use Rattle.rt_rows.specs.declared.name.Name.TheVariants.{Tall}
use Rattle.rt_rows.proofs.Rows.{beyond_met}
use Rattle.rt_strips.specs.Placed.{mask_of}
use Rattle.rt_strips.specs.Standing.{IsStrip}
use Rattle.rt_tech.specs.Tech.{IsMeasured}
use Rattle.rt_tech.proofs.Lengths.{width_is_length}
use Rattle.rt_template.specs.Between.{is_of_cut, least_height}
use Rattle.rt_template.specs.Vertical.{RowUpwards, MeetsUpwards}

one_at_least : (b : Bool) (size : ℤ) → pos 1 ≤ℤ size → pos 1 ≤ℤ cond b size (pos 1)
one_at_least true size h = h
one_at_least false size h = omega (arith, ints)

no_less : (low more by high : ℤ) → more ≤ℤ by → (low +ℤ by) ≤ℤ high → (low +ℤ more) ≤ℤ high
no_less low more by high h k = omega (arith, ints)

module _ (job : Job) (at : Var → ℤ) (upwards : MeetsUpwards job at at) (i : ℕ) (strip : IsStrip (strips_of job) i) where
  -- a strip is drawn as high as it has to be alone
  pub as_high : (at (B i) +ℤ least_height job i) ≤ℤ at (T i)
  as_high = beyond_met at (B i) (T i) (least_height job i) (upwards.meets (Tall i) _ (RowUpwards.tall i strip))

  -- that is a row at least
  pub some_height : IsMeasured job.target → (at (B i) +ℤ pos 1) ≤ℤ at (T i)
  some_height target =
      no_less (at (B i)) (pos 1) (least_height job i) (at (T i))
      (one_at_least (is_of_cut job i) _ (width_is_length job.target target (mask_of (strips_of job) i)).low) as_high
