-- Positions that meet both templates carry each mask, in steps and in database units.
use Rattle.std.proofs.Common.{ℕ, ◌<◌, ℤ, ◌*ℤ◌, suc, length, refl}
use Rattle.rt_cells.specs.Rectangles.{Rectangle, scaled}
use Rattle.rt_family.specs.Carried.{IsCarried, IsCarriedInColumns}
use Rattle.rt_family.specs.Strips.{CoveredBy}
use Rattle.rt_family.proofs.Offered.{rows_carry, scaling_carries}
use Rattle.rt_view.specs.declared.job.Job.{Job}
use Rattle.rt_view.specs.Job.{strips_of, IsJob}
use Rattle.rt_rows.specs.declared.row.Var.{Var}
use Rattle.rt_strips.specs.Channels.{IsStripCell}
use Rattle.rt_strips.specs.Placed.{mask_of}
use Rattle.rt_tech.specs.Tech.{mask_count, width_of, space_of}
use Rattle.rt_tech.proofs.Lengths.{width_is_length, space_is_length}
use Rattle.rt_template.specs.Between.{IsStripOf, source_area}
use Rattle.rt_template.specs.Horizontal.{MeetsAcross}
use Rattle.rt_template.specs.Vertical.{MeetsUpwards}
use Rattle.rt_moved.proofs.Source.{is_drawn, source_family}
use Rattle.rt_moved.proofs.Drawn.{in_steps}
use Rattle.rt_moved.proofs.Rows.{meets_rows}
use Rattle.rt_moved.proofs.Chains.{meets_runs}

-- the rectangle of strip i as it is drawn, in database units
abbrev pub in_units : Job → (Var → ℤ) → ℕ → Rectangle
in_units job at i = scaled job.target.grid (in_steps at i)

-- the cells that the drawn strips of a mask hold
abbrev pub drawn_cells : Job → (Var → ℤ) → ℕ → ℤ → ℤ → Type 0
drawn_cells job at m = CoveredBy (IsStripOf job m) (in_units job at)

module _ (job : Job) (is : IsJob job) (at : Var → ℤ) (across : MeetsAcross job at) (upwards : MeetsUpwards job at at)
    (m : ℕ) (below : m < mask_count job.target) where
  -- the mask is carried in steps, in columns too
  pub mask_carried : IsCarried (IsStripOf job m) (source_area job) (in_steps at) (width_of job.target m) (λ i j. space_of job.target m)
  mask_carried =
      rows_carry (length (strips_of job)) (mask_of (strips_of job)) m (source_area job) (in_steps at) (width_of job.target m) (λ i j. space_of job.target m)
      (record {
        some_width = (width_is_length job.target is.job_of.target m).low;
        some_space = λ i j h k. (space_is_length job.target is.job_of.target m).low;
        even_space = λ i j h k. refl;
      })
      (source_family job is m)
      (meets_rows job (IsStripCell is.layout job.source) (suc (mask_count job.source)) is.job_of.view.strips.strips_are at m (is_drawn job is m below) is.job_of.target across upwards)

  pub mask_carried_in_columns : IsCarriedInColumns (IsStripOf job m) (source_area job) (in_steps at) (width_of job.target m)
  mask_carried_in_columns =
      meets_runs job (IsStripCell is.layout job.source) (suc (mask_count job.source)) is.job_of.view.strips.strips_are at m (is_drawn job is m below) upwards

  -- and in database units
  pub mask_scaled : IsCarried (IsStripOf job m) (source_area job) (in_units job at) (job.target.grid *ℤ width_of job.target m) (λ i j. job.target.grid *ℤ space_of job.target m)
      × IsCarriedInColumns (IsStripOf job m) (source_area job) (in_units job at) (job.target.grid *ℤ width_of job.target m)
  mask_scaled =
      let carries = scaling_carries (length (strips_of job)) (mask_of (strips_of job)) m (source_area job) (in_steps at) (width_of job.target m) (λ i j. space_of job.target m)
      job.target.grid is.job_of.target.grid.low mask_carried in
      (carries.0, carries.1 mask_carried_in_columns)
