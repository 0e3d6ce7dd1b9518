-- The nets of what is moved: the layout that is read back has the netlist of the source.
use Rattle.std.proofs.Common.{◌≡◌, ℕ, ℤ, List, length, map, Some, IsSomeAnd, MatchOption, sym, ap, ◌∙◌, subst}
use Rattle.std.specs.Prelude.{slice_get}
use Rattle.std.specs.List.{AllZip}
use Rattle.std.proofs.lemmas.List.Elements.{length_all_zip}
use Rattle.std.proofs.lemmas.Slice.Zip.{AllZip-left}
use Rattle.rt_carry.specs.Texts.{IsDrawnLabel}
use Rattle.rt_layout.specs.declared.layout.Label.{Label}
use Rattle.rt_layout.specs.declared.layout.Layout.{Layout}
use Rattle.rt_layout.specs.Covering.{MaskCovers}
use Rattle.rt_netlist.proofs.Alike.{net_alike}
use Rattle.rt_netlist.proofs.Offered.{same_cells, extracts_alike}
use Rattle.rt_netlist_laws.specs.Laws.{drawing, IsDrawnAtStrip, AreDrawnAtStrips}
use Rattle.rt_netlist_laws.proofs.Offered.{moved_keeps_nets, moved_keeps_numbers}
use Rattle.rt_rows.specs.declared.row.Var.{Var}
use Rattle.rt_rules.proofs.Alike.{AreAlike, alike_back}
use Rattle.rt_template.specs.Horizontal.{MeetsAcross}
use Rattle.rt_template.specs.Vertical.{MeetsUpwards}
use Rattle.rt_view.specs.declared.job.Job.{Job}
use Rattle.rt_view.specs.Job.{strips_of, IsJobOf}
use Rattle.rt_written.specs.ReadBack.{IsLayoutOf}
use Rattle.rt_written.proofs.ReadBack.{layout_covers_alike}
use Rattle.rt_retarget.specs.Moved.{drawing_of, KeepsNets}
use Rattle.rt_retarget.proofs.Texts.{same_names}

module _ (old : Layout) (job : Job) (of : IsJobOf old job) (at : Var → ℤ) (across : MeetsAcross job at) (upwards : MeetsUpwards job at at)
    (drawn : List Label) (are_drawn : AllZip (IsDrawnLabel job.target.grid (strips_of job) at) job.view.labels drawn)
    (new : Layout) (is : IsLayoutOf job.target (drawing_of job at) drawn new) where
  -- what is read back covers what is drawn
  to_new : (m : ℕ) → AreAlike (drawing job at m) (MaskCovers new m)
  to_new m = record {
    to = λ x y c. (layout_covers_alike job.target (drawing_of job at) drawn new is m x y).1 c;
    from = λ x y c. (layout_covers_alike job.target (drawing_of job at) drawn new is m x y).0 c;
  }

  from_new : (m : ℕ) → AreAlike (MaskCovers new m) (drawing job at m)
  from_new m = alike_back (drawing job at m) (MaskCovers new m) (to_new m)

  -- its labels are those of the source, each drawn at a strip that it touches
  labels_drawn : AllZip (IsDrawnLabel job.target.grid (strips_of job) at) old.labels new.labels
  labels_drawn =
      subst (λ (labels : List Label). AllZip (IsDrawnLabel job.target.grid (strips_of job) at) labels new.labels) of.view.labels
      (subst (AllZip (IsDrawnLabel job.target.grid (strips_of job) at) job.view.labels) (sym is.labels_are) are_drawn)

  drawn_at : (label other : Label) → IsDrawnLabel job.target.grid (strips_of job) at label other → IsDrawnAtStrip job at label other
  drawn_at label other d = record {
    one_mask = ap (λ (l : Label). l.mask) d.is;
    strip = d.strip;
    touches = d.first_touched.touches;
    left = ap (λ (l : Label). l.at.0) d.is;
    bottom = ap (λ (l : Label). l.at.1) d.is;
  }

  at_strips : AreDrawnAtStrips job at old.labels new.labels
  at_strips = record {
    counted = length_all_zip (IsDrawnLabel job.target.grid (strips_of job) at) old.labels new.labels labels_drawn;
    each = λ a label other here there.
        drawn_at label other (rw (here, there) at (AllZip-left (IsDrawnLabel job.target.grid (strips_of job) at) old.labels new.labels labels_drawn a));
  }

  -- it has the netlist of the source
  pub keeps_nets : KeepsNets job at old new
  keeps_nets = record {
    nets = λ p q r t one two.
        let kept = moved_keeps_nets old job of at across upwards p q r t one two in (
          λ walk. net_alike job.target job.target (drawing job at) (MaskCovers new) (same_cells job.target (drawing job at) (MaskCovers new) to_new) r t (kept.0 walk),
          λ walk. kept.1 (net_alike job.target job.target (MaskCovers new) (drawing job at) (same_cells job.target (MaskCovers new) (drawing job at) from_new) r t walk),
        );
    names = same_names job.target.grid (strips_of job) at old.labels new.labels labels_drawn;
    numbers = λ numbers.
        let kept = moved_keeps_numbers old job of at across upwards old.labels new.labels at_strips numbers in (
          λ e. extracts_alike job.target (drawing job at) (MaskCovers new) to_new new.labels numbers (kept.0 e),
          λ e. kept.1 (extracts_alike job.target (MaskCovers new) (drawing job at) from_new new.labels numbers e),
        );
  }
