-- Positions that meet both templates lie in the extents.
use Rattle.std.proofs.Common.{ℕ, ℤ, pos, ◌+ℤ◌, ◌*ℤ◌, ◌≤ℤ◌, arith}
use Rattle.std.proofs.lemmas.Int.{ints}
use Rattle.rt_cells.specs.Rectangles.{Rectangle, scaled}
use Rattle.rt_cells.proofs.Times.{times_le, times_lt, not_negative, product_not_negative}
use Rattle.rt_cells.proofs.Lines.{past, past_one}
use Rattle.rt_view.specs.declared.job.Job.{Job}
use Rattle.rt_view.specs.Job.{strips_of, IsJob}
use Rattle.rt_rows.specs.declared.positions.TheConstants.{EXTENT_LIMIT}
use Rattle.rt_rows.specs.declared.row.Var.{Var}
use Rattle.rt_rows.specs.declared.row.Var.TheVariants.{L, R, B, T, Width, Height}
use Rattle.rt_rows.specs.declared.name.Name.TheVariants.{Lo, Hi, Zero, Top, Wide}
use Rattle.rt_rows.proofs.Rows.{at_least_met, at_most_met, beyond_met}
use Rattle.rt_strips.specs.Placed.{mask_of}
use Rattle.rt_strips.specs.Standing.{IsStrip}
use Rattle.rt_tech.proofs.Lengths.{width_is_length}
use Rattle.rt_template.specs.Horizontal.{width_across, RowAcross, MeetsAcross}
use Rattle.rt_template.specs.Vertical.{RowUpwards, MeetsUpwards}
use Rattle.rt_moved.specs.Laws.{LiesIn, IsExtent, MovedFits}
use Rattle.rt_moved.proofs.Drawn.{in_steps}
use Rattle.rt_moved.proofs.Heights.{some_height}

ends_in : (high extent : ℤ) → (high +ℤ pos 0) ≤ℤ extent → high ≤ℤ extent
ends_in high extent h = omega (arith, ints)

-- what lies in extents does so on a finer grid
on_grid : (grid width height : ℤ) (r : Rectangle) → pos 1 ≤ℤ grid → LiesIn width height r → LiesIn (grid *ℤ width) (grid *ℤ height) (scaled grid r)
on_grid grid width height r some h =
    let whole = not_negative grid some in
    record {
      nonempty = record { across = times_lt grid r.left r.right some h.nonempty.across; upwards = times_lt grid r.bottom r.top some h.nonempty.upwards };
      left = product_not_negative grid r.left whole h.left;
      right = times_le grid r.right width whole h.right;
      bottom = product_not_negative grid r.bottom whole h.bottom;
      top = times_le grid r.top height whole h.top;
    }

module _ (job : Job) (is : IsJob job) (at : Var → ℤ) (across : MeetsAcross job at) (upwards : MeetsUpwards job at at) where
  -- each strip lies in the extents, in steps
  pub strip_fits : (i : ℕ) → IsStrip (strips_of job) i → LiesIn (at Width) (at Height) (in_steps at i)
  strip_fits i h =
      let width = (width_is_length job.target is.job_of.target (mask_of (strips_of job) i)).low in
      record {
        nonempty = record {
          across = past (at (L i)) (width_across job i) (at (R i)) width
              (beyond_met at (L i) (R i) (width_across job i) (across.meets (Wide i) _ (RowAcross.wide i h)));
          upwards = past_one (at (B i)) (at (T i)) (some_height job at upwards i h is.job_of.target);
        };
        left = at_least_met at (L i) (pos 0) (across.meets (Lo i) _ (RowAcross.lo i h));
        right = ends_in (at (R i)) (at Width) (beyond_met at (R i) Width (pos 0) (across.meets (Hi i) _ (RowAcross.hi i h)));
        bottom = at_least_met at (B i) (pos 0) (upwards.meets (Lo i) _ (RowUpwards.lo i h));
        top = ends_in (at (T i)) (at Height) (beyond_met at (T i) Height (pos 0) (upwards.meets (Hi i) _ (RowUpwards.hi i h)));
      }

  pub width_fits : IsExtent (at Width)
  width_fits = record {
    low = at_least_met at Width (pos 0) (across.meets Zero _ RowAcross.zero);
    high = at_most_met at Width EXTENT_LIMIT (across.meets Top _ RowAcross.top);
  }

  pub height_fits : IsExtent (at Height)
  height_fits = record {
    low = at_least_met at Height (pos 0) (upwards.meets Zero _ RowUpwards.zero);
    high = at_most_met at Height EXTENT_LIMIT (upwards.meets Top _ RowUpwards.top);
  }

-- positions that meet both templates fit
pub moved_fits : MovedFits
moved_fits job is at across upwards = record {
  grid = is.job_of.target.grid;
  width = width_fits job is at across upwards;
  height = height_fits job is at across upwards;
  strips = λ i h. on_grid job.target.grid (at Width) (at Height) (in_steps at i) is.job_of.target.grid.low (strip_fits job is at across upwards i h);
}
