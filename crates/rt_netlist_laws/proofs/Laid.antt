-- Strips of cuts, in the source and in the drawing: each is a piece, and lies in that lower mask alone which the view tells.
use Rattle.std.proofs.Common.{◌≡◌, ℕ, ◌<◌, ℤ, pos, ◌*ℤ◌, length, sym, subst}
use Rattle.std.proofs.lemmas.Option.{slice_get_within}
use Rattle.rt_cells.specs.Rectangles.{Rectangle}
use Rattle.rt_tech.specs.Tech.{mask_count}
use Rattle.rt_rules.specs.Pieces.{IsPiece}
use Rattle.rt_family.specs.Strips.{CoveredBy}
use Rattle.rt_family.proofs.Drawn.{drawn_family}
use Rattle.rt_cuts.specs.Laws.{LiesInMask}
use Rattle.rt_cuts.proofs.Offered.{cut_keeps_lower_mask}
use Rattle.rt_cuts.proofs.Pieces.{strip_is_piece, none_stands_drawn}
use Rattle.rt_strips.specs.Placed.{mask_of}
use Rattle.rt_view.proofs.Opened.{sound_source}
use Rattle.rt_view.specs.declared.job.Job.{Job}
use Rattle.rt_view.specs.Job.{strips_of, IsJob}
use Rattle.rt_view.specs.Shapes.{IsCut, IsLower}
use Rattle.rt_rows.specs.declared.row.Var.{Var}
use Rattle.rt_template.specs.Between.{IsStripOf, source_area}
use Rattle.rt_template.specs.Horizontal.{MeetsAcross}
use Rattle.rt_template.specs.Vertical.{MeetsUpwards}
use Rattle.rt_moved.proofs.Carrying.{in_units, mask_scaled}
use Rattle.rt_moved.proofs.Lowers.{lower_kept}
use Rattle.rt_moved.proofs.Lying.{told_lower, cut_with_lower, cut_stands_on_none, told_lies, lies_told}
use Rattle.rt_moved.proofs.Source.{source_family}
use Rattle.rt_netlist_laws.proofs.Told.{lower_below}

-- by the rectangles each strip of a cut is a piece, and lies in a lower mask exactly where the view tells it
pub record AreLaid (job : Job) (box : ℕ → Rectangle) : Type 0 where
  pub pieces : (m : ℕ) → IsCut job.source m → (i : ℕ) → IsStripOf job m i → IsPiece (CoveredBy (IsStripOf job m) box) (box i)
  pub lies : (m l : ℕ) → IsLower job.source m l → (i : ℕ) → IsStripOf job m i → told_lower job i ≡ l
      → LiesInMask (length (strips_of job)) (mask_of (strips_of job)) m l box i
  pub told : (m l : ℕ) → IsLower job.source m l → (i : ℕ) → LiesInMask (length (strips_of job)) (mask_of (strips_of job)) m l box i → told_lower job i ≡ l

module _ (job : Job) (is : IsJob job) where
  there : (m l : ℕ) → IsLower job.source m l → l < mask_count job.source
  there m l lower = lower_below job.source (sound_source job is).valid is.job_of.source_pairs m l lower

  pub laid_in_source : AreLaid job (source_area job)
  laid_in_source = record {
    pieces = λ m cut i strip. strip_is_piece (IsStripOf job m) (source_area job) (source_family job is m) (cut_stands_on_none job is m cut) i strip;
    lies = λ m l lower i strip e. told_lies job is m (cut_with_lower job.source m l lower) l (there m l lower) i strip e;
    told = λ m l lower i s. lies_told job is m (cut_with_lower job.source m l lower) l (there m l lower) lower i s;
  }

  module _ (at : Var → ℤ) (across : MeetsAcross job at) (upwards : MeetsUpwards job at at) where
    drawn_piece : (m : ℕ) → IsCut job.source m → (i : ℕ) → IsStripOf job m i → IsPiece (CoveredBy (IsStripOf job m) (in_units job at)) (in_units job at i)
    drawn_piece m cut i strip =
        let below = slice_get_within job.source.masks m cut.mask cut.there in
        let carried = (mask_scaled job is at across upwards m (subst (λ n. m < n) (sym is.job_of.same_masks) below)).0 in
        strip_is_piece (IsStripOf job m) (in_units job at) (drawn_family (IsStripOf job m) (source_area job) (in_units job at) _ _ carried)
        (none_stands_drawn (IsStripOf job m) (source_area job) (in_units job at) _ _ carried (cut_stands_on_none job is m cut)) i strip

    pub laid_in_drawing : AreLaid job (in_units job at)
    laid_in_drawing = record {
      pieces = drawn_piece;
      lies = λ m l lower i strip e.
          let on = lower_kept job is at across upwards m l lower in
          (cut_keeps_lower_mask (length (strips_of job)) (mask_of (strips_of job)) m l (told_lower job) (source_area job) (in_units job at) on.near on.number (pos 1) (job.target.grid *ℤ pos 1) on.kept i).0
          (laid_in_source.lies m l lower i strip e);
      told = λ m l lower i s.
          let on = lower_kept job is at across upwards m l lower in
          laid_in_source.told m l lower i
          ((cut_keeps_lower_mask (length (strips_of job)) (mask_of (strips_of job)) m l (told_lower job) (source_area job) (in_units job at) on.near on.number (pos 1) (job.target.grid *ℤ pos 1) on.kept i).1 s);
    }
