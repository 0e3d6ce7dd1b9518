-- Positions that meet both templates draw a layout that breaks no rule of the target's table.
use Rattle.std.proofs.Common.{◌≡◌, ℕ, ◌<◌, ℤ, ◌*ℤ◌, ◌≤ℤ◌, Some, length, refl, ◌∙◌, arith}
use Rattle.std.proofs.lemmas.Int.{ints}
use Rattle.std.proofs.lemmas.Option.{slice_get_within}
use Rattle.rt_family.proofs.Offered.{carried_keeps_width, carried_keeps_space}
use Rattle.rt_cuts.proofs.Offered.{cut_keeps_size, scaling_keeps_squares}
use Rattle.rt_view.specs.declared.job.Job.{Job}
use Rattle.rt_view.proofs.Opened.{sound_source}
use Rattle.rt_view.specs.Job.{strips_of, IsJob}
use Rattle.rt_view.specs.Shapes.{IsCut}
use Rattle.rt_rows.specs.declared.row.Var.{Var}
use Rattle.rt_rules.proofs.Alike.{breaks_none_alike}
use Rattle.rt_rules.specs.Cuts.{KeepsSize}
use Rattle.rt_rules.specs.Rules.{rule_by_role, Keeps, BreaksNoRule}
use Rattle.rt_rules.specs.Width.{KeepsWidth}
use Rattle.rt_rules.proofs.Listed.{KeepsMask, all_kept}
use Rattle.rt_strips.specs.Placed.{mask_of, covered_by}
use Rattle.rt_tech.specs.declared.table.Mask.{Mask}
use Rattle.rt_tech.specs.declared.table.Role.{Role as MaskRole}
use Rattle.rt_tech.specs.declared.table.Role.TheVariants.{Metal, Gate, Active, Cut, Background}
use Rattle.rt_tech.specs.Tech.{mask_count, mask_at, width_of, space_of}
use Rattle.rt_template.specs.Between.{source_area}
use Rattle.rt_template.specs.Drawing.{drawn}
use Rattle.rt_template.specs.Horizontal.{MeetsAcross}
use Rattle.rt_template.specs.Vertical.{MeetsUpwards}
use Rattle.rt_moved.specs.Laws.{MovedBreaksNoRule}
use Rattle.rt_moved.proofs.Carrying.{in_units, drawn_cells, mask_scaled}
use Rattle.rt_moved.proofs.Drawn.{in_steps, drawn_alike}
use Rattle.rt_moved.proofs.Pairs.{enclosures_kept, distances_kept}
use Rattle.rt_moved.proofs.SameForm.{source_mask}
use Rattle.rt_moved.proofs.Sizes.{square_in_steps}
use Rattle.rt_moved.proofs.Source.{source_unstacked, source_rectangles}

itself : (n : ℤ) → n ≤ℤ n
itself n = omega (arith, ints)

module _ (job : Job) (is : IsJob job) (at : Var → ℤ) (across : MeetsAcross job at) (upwards : MeetsUpwards job at at) where
  module _ (m : ℕ) (below : m < mask_count job.target) where
    -- a mask keeps its width, and a cut its size
    width_kept : KeepsWidth (job.target.grid *ℤ width_of job.target m) (drawn_cells job at m)
    width_kept =
        let carried = mask_scaled job is at across upwards m below in
        carried_keeps_width (length (strips_of job)) (mask_of (strips_of job)) m (source_area job) (in_units job at)
        (job.target.grid *ℤ width_of job.target m) (λ i j. job.target.grid *ℤ space_of job.target m) carried.0 carried.1

    size_kept : IsCut job.source m → KeepsSize (job.target.grid *ℤ width_of job.target m) (drawn_cells job at m)
    size_kept cut =
        cut_keeps_size (length (strips_of job)) (mask_of (strips_of job)) m (source_area job) (in_units job at)
        (job.target.grid *ℤ width_of job.target m) (λ i j. job.target.grid *ℤ space_of job.target m)
        (record { carried = (mask_scaled job is at across upwards m below).0; rectangles = source_rectangles job is m cut; unstacked = source_unstacked job is m })
        (job.target.grid *ℤ width_of job.target m)
        (λ i h. scaling_keeps_squares job.target.grid (width_of job.target m) (in_steps at i) is.job_of.target.grid.low (square_in_steps job at across upwards m cut i h))

    shapes_kept : (role : MaskRole) → (role ≡ Cut → IsCut job.source m) → Keeps job.target.grid job.target (drawn_cells job at) (rule_by_role role m)
    shapes_kept Cut cut = size_kept (cut refl)
    shapes_kept Metal cut = width_kept
    shapes_kept Gate cut = width_kept
    shapes_kept Active cut = width_kept
    shapes_kept Background cut = width_kept

  mask_kept : (m : ℕ) (mask : Mask) → mask_at job.target m ≡ Some mask → KeepsMask job.target.grid job.target (drawn_cells job at) m mask
  mask_kept m mask there =
      let below = slice_get_within job.target.masks m mask there in
      let (own, is_own, role) = source_mask job.source job.target (sound_source job is).same_form m mask there in
      let space = job.target.grid *ℤ space_of job.target m in
      record {
        shape = shapes_kept m below mask.role (λ cut. record { mask = own; there = is_own; of_role = role ∙ cut });
        space = carried_keeps_space (length (strips_of job)) (mask_of (strips_of job)) m (source_area job) (in_units job at)
            (job.target.grid *ℤ width_of job.target m) (λ i j. space) (mask_scaled job is at across upwards m below).0 space (λ i j h k. itself space);
      }

  -- the strips at the positions break no rule
  none_broken : BreaksNoRule job.target.grid job.target (drawn_cells job at)
  none_broken =
      all_kept job.target.grid job.target (drawn_cells job at) mask_kept (enclosures_kept job is at across upwards) (distances_kept job is at across upwards)

-- so their drawing doesn't
pub moved_breaks_no_rule : MovedBreaksNoRule
moved_breaks_no_rule job is at across upwards =
    let grid = job.target.grid in
    breaks_none_alike grid job.target is.job_of.target_pairs (drawn_cells job at) (λ m. covered_by m (drawn grid at (strips_of job)))
    (λ m below. drawn_alike grid at (strips_of job) m) (none_broken job is at across upwards)
