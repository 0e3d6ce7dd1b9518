-- A cut keeps each of its lower masks: what lies in it is kept within it, and what lies in another one away from it.
use Rattle.std.proofs.Common.{◌≡◌, ℕ, ◌<◌, ℤ, pos, ◌*ℤ◌, ◌≤ℤ◌, ◌⊎◌, Some, IfSome, length, sym, ap, subst, inl, inr, arith}
use Rattle.std.proofs.lemmas.Bool.{cases_order}
use Rattle.std.proofs.lemmas.Int.{ints}
use Rattle.rt_rules.specs.Cuts.{KeepsEnclosed}
use Rattle.rt_rules.specs.Pairs.{lower_if, lower_of}
use Rattle.rt_rules.specs.Pieces.{LiesIn}
use Rattle.rt_rules.specs.Rules.{part_of}
use Rattle.rt_rules.proofs.Measured.{enclose_named}
use Rattle.rt_cuts.specs.Laws.{KeepsCutOn}
use Rattle.rt_cuts.proofs.Offered.{scaling_keeps_cuts}
use Rattle.rt_tech.specs.declared.table.Enclose.{Enclose as Enclosure}
use Rattle.rt_tech.specs.Tech.{mask_count, width_of, space_of}
use Rattle.rt_tech.proofs.Demanded.{cuts_enclosed}
use Rattle.rt_view.specs.declared.job.Job.{Job}
use Rattle.rt_view.proofs.Opened.{sound_source}
use Rattle.rt_view.specs.Job.{strips_of, IsJob}
use Rattle.rt_view.specs.Shapes.{IsCut, IsLower}
use Rattle.rt_rows.specs.declared.row.Var.{Var}
use Rattle.rt_strips.specs.Placed.{mask_of}
use Rattle.rt_template.specs.Between.{IsStripOf, source_area, IsEnclosed}
use Rattle.rt_template.specs.Horizontal.{MeetsAcross}
use Rattle.rt_template.specs.Vertical.{MeetsUpwards}
use Rattle.rt_moved.proofs.Carrying.{in_units, mask_carried}
use Rattle.rt_moved.proofs.Drawn.{in_steps}
use Rattle.rt_moved.proofs.Elsewhere.{LiesInOther, reach_of, others_apart, others_clear}
use Rattle.rt_moved.proofs.Enclosures.{hosts_around}
use Rattle.rt_moved.proofs.Entries.{kept_enclosure}
use Rattle.rt_moved.proofs.Lying.{cut_with_lower, lower_among, IsLyingIn, told_lower, told_lies, lying_piece, lies_told}
use Rattle.rt_moved.proofs.SameForm.{IsEnclosure, enclosure_of}
use Rattle.rt_moved.proofs.Source.{source_cells, source_family, source_unstacked, source_keeps, source_rectangles}

one_is_some : pos 1 ≤ℤ pos 1
one_is_some = omega (arith, ints)

module _ (job : Job) (is : IsJob job) (at : Var → ℤ) (across : MeetsAcross job at) (upwards : MeetsUpwards job at at)
    (q : ℕ) (e : Enclosure) (both : IsEnclosure job.source job.target (sound_source job is).same_form q e) (lower : IsLower job.source e.cut e.mask) where
  -- both masks are there, and the enclosure is one of a lower mask
  cut : IsCut job.source e.cut
  cut = cut_with_lower job.source e.cut e.mask lower

  lower_is : lower_of job.source e ≡ Some e.mask
  lower_is = ap (λ b. lower_if b e.mask) lower

  cut_there : e.cut < mask_count job.source
  cut_there = (enclose_named job.source is.job_of.source_pairs q e both.here).0

  mask_there : e.mask < mask_count job.source
  mask_there = (enclose_named job.source is.job_of.source_pairs q e both.here).2

  on_target : (m : ℕ) → m < mask_count job.source → m < mask_count job.target
  on_target m h = subst (λ n. m < n) (sym is.job_of.same_masks) h

  -- the enclosure speaks of the strips that lie in the lower mask
  spoken : (i : ℕ) → IsLyingIn job e.cut e.mask i → IsEnclosed job e i
  spoken i s = record {
    of_mask = s.strip;
    lies = subst (λ o. IfSome o (λ l. told_lower job i ≡ l)) (sym lower_is) (lies_told job is e.cut cut e.mask mask_there lower i s);
  }

  -- the source keeps it
  encloses : KeepsEnclosed e.number (LiesIn (source_cells job e.cut) (source_cells job e.mask)) (source_cells job e.mask)
  encloses = subst (λ o. KeepsEnclosed e.number (part_of (source_cells job) e.cut o) (source_cells job e.mask)) lower_is (kept_enclosure job.source (source_cells job) (source_keeps job is) q e both.here)

  -- a strip of the cut lies in this lower mask or in another one
  here_or_elsewhere : (i : ℕ) → IsStripOf job e.cut i → IsLyingIn job e.cut e.mask i ⊎ LiesInOther job is e.cut e.mask lower i
  here_or_elsewhere i h =
      elim (cases_order (told_lower job i) e.mask) [
        | inl same ↦ inl (told_lies job is e.cut cut e.mask mask_there i h same)
        | inr (inl less) ↦ inr (record { strip = h; elsewhere = λ same. omega (arith, less, same) })
        | inr (inr more) ↦ inr (record { strip = h; elsewhere = λ same. omega (arith, more, same) })
      ]

  -- in steps
  cut_on : KeepsCutOn (length (strips_of job)) (mask_of (strips_of job)) e.cut e.mask (told_lower job) (source_area job) (in_steps at) e.number both.other.number (pos 1) (pos 1)
  cut_on = record {
    width = width_of job.target e.cut;
    space = λ i j. space_of job.target e.cut;
    cut = record {
      carried = mask_carried job is at across upwards e.cut (on_target e.cut cut_there);
      rectangles = source_rectangles job is e.cut cut;
      unstacked = source_unstacked job is e.cut;
    };
    lower_width = width_of job.target e.mask;
    lower_space = λ i j. space_of job.target e.mask;
    lower_mask = mask_carried job is at across upwards e.mask (on_target e.mask mask_there);
    kept = record {
      some_near = reach_of job.source is.job_of.source_pairs q e both.here;
      some_number = reach_of job.target is.job_of.target_pairs q both.other both.there;
      some_reach = one_is_some;
      some_clear = one_is_some;
      one_or_other = here_or_elsewhere;
      others = λ i o. o.strip;
      encloses = encloses;
      apart = others_apart job is e.cut e.mask lower;
      inside = hosts_around job at across upwards q e both.other both.here both.there (source_family job is e.mask) (IsLyingIn job e.cut e.mask) spoken
          (λ i s. (source_family job is e.cut).nonempty i s.strip) (reach_of job.source is.job_of.source_pairs q e both.here)
          (λ x y u v c near. encloses x y u v (lying_piece job is e.cut cut e.mask mask_there x y c) near);
      kept_clear = others_clear job is e.cut e.mask lower at across upwards;
    };
  }

  -- and in database units
  pub cut_on_scaled : KeepsCutOn (length (strips_of job)) (mask_of (strips_of job)) e.cut e.mask (told_lower job) (source_area job) (in_units job at)
      e.number (job.target.grid *ℤ both.other.number) (pos 1) (job.target.grid *ℤ pos 1)
  cut_on_scaled =
      scaling_keeps_cuts (length (strips_of job)) (mask_of (strips_of job)) e.cut e.mask (told_lower job) (source_area job) (in_steps at) e.number both.other.number (pos 1) (pos 1)
      job.target.grid is.job_of.target.grid.low cut_on

-- cut m keeps its lower mask l in the drawing, in database units, whatever the numbers of their enclosure are
pub record IsKeptOn (job : Job) (at : Var → ℤ) (m l : ℕ) : Type 0 where
  pub near : ℤ
  pub number : ℤ
  pub kept : KeepsCutOn (length (strips_of job)) (mask_of (strips_of job)) m l (told_lower job) (source_area job) (in_units job at) near number (pos 1) (job.target.grid *ℤ pos 1)

-- each cut keeps each of its lower masks, since a valid table has an enclosure of it there
pub lower_kept : (job : Job) → IsJob job → (at : Var → ℤ) → MeetsAcross job at → MeetsUpwards job at at → (m l : ℕ) → IsLower job.source m l → IsKeptOn job at m l
lower_kept job is at across upwards m l lower =
    let cut = cut_with_lower job.source m l lower in
    let there = (cuts_enclosed job.source (sound_source job is).valid).lowers m cut.mask (record { there = cut.there; role_is = cut.of_role }) l (lower_among job.source m l cut lower) in
    let e = there.enclose in
    let both = enclosure_of job.source job.target (sound_source job is).same_form there.place e there.there in
    let own : IsLower job.source e.cut e.mask =
    subst (λ k. IsLower job.source k e.mask) (sym there.of_cut) (subst (IsLower job.source m) (sym there.in_mask) lower) in
    subst (λ k. IsKeptOn job at k l) there.of_cut
    (subst (IsKeptOn job at e.cut) there.in_mask
    (record { near = e.number; number = job.target.grid *ℤ both.other.number; kept = cut_on_scaled job is at across upwards there.place e both own }))
