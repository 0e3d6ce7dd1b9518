-- The drawing keeps the enclosures and the distances of the target's table, over the strips of masks.
use Rattle.std.proofs.Common.{◌≡◌, ℕ, ◌<◌, ℤ, ◌*ℤ◌, Bool, true, false, Option, Some, None, IfSome, length, refl, sym, ap, subst}
use Rattle.rt_cells.specs.Rectangles.{IsNonempty}
use Rattle.rt_rules.specs.Cuts.{KeepsEnclosed, KeepsApart}
use Rattle.rt_rules.specs.Pairs.{enclose_at, apart_at, lower_if, lower_of}
use Rattle.rt_rules.specs.Rules.{part_of, KeepsEnclose, KeepsDistance}
use Rattle.rt_rules.proofs.Measured.{enclose_named, apart_named}
use Rattle.rt_family.specs.Carried.{IsKeptClear}
use Rattle.rt_cuts.proofs.Offered.{hosts_keep_enclosure, masks_keep_distance, cut_keeps_enclosure, cut_keeps_distance}
use Rattle.rt_cuts.proofs.Scaled.{scaled_inside, scaled_clear}
use Rattle.rt_tech.specs.declared.table.Apart.{Apart as Distance}
use Rattle.rt_tech.specs.declared.table.Enclose.{Enclose as Enclosure}
use Rattle.rt_tech.specs.Rules.{has_lower}
use Rattle.rt_tech.specs.Tech.{mask_count, width_of, space_of}
use Rattle.rt_view.specs.declared.job.Job.{Job}
use Rattle.rt_view.proofs.Opened.{sound_source}
use Rattle.rt_view.specs.Job.{strips_of, IsJob}
use Rattle.rt_view.specs.Shapes.{IsLower}
use Rattle.rt_rows.specs.declared.row.Var.{Var}
use Rattle.rt_strips.specs.Placed.{mask_of}
use Rattle.rt_template.specs.Between.{IsStripOf, IsStripIn, source_area}
use Rattle.rt_template.specs.Horizontal.{MeetsAcross}
use Rattle.rt_template.specs.Vertical.{MeetsUpwards}
use Rattle.rt_moved.proofs.Carrying.{in_units, drawn_cells, mask_scaled}
use Rattle.rt_moved.proofs.Distances.{clear_of_these, sides_clear}
use Rattle.rt_moved.proofs.Drawn.{in_steps}
use Rattle.rt_moved.proofs.Elsewhere.{reach_of, some_distance, lower_of_distance}
use Rattle.rt_moved.proofs.Enclosures.{hosts_around}
use Rattle.rt_moved.proofs.Entries.{kept_enclosure, kept_distance}
use Rattle.rt_moved.proofs.Lowers.{cut_on_scaled, lower_kept}
use Rattle.rt_moved.proofs.Lying.{IsLyingIn, cut_with_lower, told_lower, lies_told}
use Rattle.rt_moved.proofs.SameForm.{IsEnclosure, IsDistance, source_enclosure, source_distance}
use Rattle.rt_moved.proofs.Source.{source_cells, source_family, source_keeps}

module _ (job : Job) (is : IsJob job) (at : Var → ℤ) (across : MeetsAcross job at) (upwards : MeetsUpwards job at at) where
  full : (m i : ℕ) → IsStripOf job m i → IsNonempty (source_area job i)
  full m = (source_family job is m).nonempty

  -- an enclosure in an upper mask, and one in a lower mask
  module _ (q : ℕ) (e : Enclosure) (both : IsEnclosure job.source job.target (sound_source job is).same_form q e) where
    drawn_in_upper : lower_of job.source e ≡ None → KeepsEnclosed (job.target.grid *ℤ both.other.number) (drawn_cells job at e.cut) (drawn_cells job at e.mask)
    drawn_in_upper none =
        let there = subst (λ n. e.mask < n) (sym is.job_of.same_masks) (enclose_named job.source is.job_of.source_pairs q e both.here).2 in
        let some = reach_of job.source is.job_of.source_pairs q e both.here in
        let keeps = subst (λ o. KeepsEnclosed e.number (part_of (source_cells job) e.cut o) (source_cells job e.mask)) none (kept_enclosure job.source (source_cells job) (source_keeps job is) q e both.here) in
        let spoken : (i : ℕ) → IsStripOf job e.cut i → IsStripIn job e.cut (lower_of job.source e) i =
        λ i h. record { of_mask = h; lies = subst (λ o. IfSome o (λ l. told_lower job i ≡ l)) (sym none) (record {}) } in
        hosts_keep_enclosure (length (strips_of job)) (mask_of (strips_of job)) e.cut e.mask (source_area job) (in_units job at)
        (job.target.grid *ℤ width_of job.target e.mask) (λ i j. job.target.grid *ℤ space_of job.target e.mask)
        (mask_scaled job is at across upwards e.mask there).0 (full e.cut) e.number (job.target.grid *ℤ both.other.number) some
        (scaled_inside job.target.grid is.job_of.target.grid.low (IsStripOf job e.cut) (IsStripOf job e.mask) (source_area job) (in_steps at) e.number both.other.number
        (hosts_around job at across upwards q e both.other both.here both.there (source_family job is e.mask) (IsStripOf job e.cut) spoken (full e.cut) some keeps))
        keeps

    drawn_enclosed : (b : Bool) → has_lower job.source.masks e.cut e.mask ≡ b
        → KeepsEnclosed (job.target.grid *ℤ both.other.number) (part_of (drawn_cells job at) e.cut (lower_if b e.mask)) (drawn_cells job at e.mask)
    drawn_enclosed true lower =
        cut_keeps_enclosure (length (strips_of job)) (mask_of (strips_of job)) e.cut e.mask (told_lower job) (source_area job) (in_units job at) _ _ _ _
        (cut_on_scaled job is at across upwards q e both lower)
    drawn_enclosed false none = drawn_in_upper (ap (λ b. lower_if b e.mask) none)

  abbrev EnclosedBy : ℤ → ℕ → Option ℕ → ℕ → Type 0
  EnclosedBy number m on n = KeepsEnclosed (job.target.grid *ℤ number) (part_of (drawn_cells job at) m on) (drawn_cells job at n)

  -- each enclosure of the target is kept
  pub enclosures_kept : (q : ℕ) → q < length job.target.encloses → KeepsEnclose job.target.grid job.target (drawn_cells job at) (enclose_at job.target q)
  enclosures_kept q below =
      let (e, both) = source_enclosure job.source job.target (sound_source job is).same_form q below in
      let o = both.other in
      subst (KeepsEnclose job.target.grid job.target (drawn_cells job at)) (sym both.there)
      (subst (λ m. EnclosedBy o.number m (lower_of job.target o) o.mask) both.cut
      (subst (λ on. EnclosedBy o.number e.cut on o.mask) both.lower
      (subst (EnclosedBy o.number e.cut (lower_of job.source e)) both.mask (drawn_enclosed q e both (has_lower job.source.masks e.cut e.mask) refl))))

  -- a distance of a mask, and one of a cut that stands on a lower mask
  module _ (q : ℕ) (a : Distance) (both : IsDistance job.source job.target (sound_source job is).same_form q a) where
    -- in database units, strip by strip
    these_clear : (on : Option ℕ) → a.on ≡ on → (these : ℕ → Type 0) → ((i : ℕ) → these i → IsStripIn job a.a on i)
        → IsKeptClear these (IsStripOf job a.b) (source_area job) (in_units job at) a.number (job.target.grid *ℤ both.other.number)
    these_clear on is_on these of =
        scaled_clear job.target.grid is.job_of.target.grid.low these (IsStripOf job a.b) (source_area job) (in_steps at) a.number both.other.number
        (clear_of_these these (IsStripIn job a.a on) (IsStripOf job a.b) (source_area job) (in_steps at) a.number both.other.number of
        (subst (λ o. IsKeptClear (IsStripIn job a.a o) (IsStripOf job a.b) (source_area job) (in_steps at) a.number both.other.number) is_on
        (sides_clear job at across upwards q a both.other both.here both.there)))

    source_apart : (on : Option ℕ) → a.on ≡ on → KeepsApart a.number (part_of (source_cells job) a.a on) (source_cells job a.b)
    source_apart on is_on = subst (λ o. KeepsApart a.number (part_of (source_cells job) a.a o) (source_cells job a.b)) is_on (kept_distance job.source (source_cells job) (source_keeps job is) q a both.here)

    drawn_on_lower : (l : ℕ) → a.on ≡ Some l → KeepsApart (job.target.grid *ℤ both.other.number) (part_of (drawn_cells job at) a.a (Some l)) (drawn_cells job at a.b)
    drawn_on_lower l is_on =
        let lower : IsLower job.source a.a l =
        subst (λ o. IfSome o (IsLower job.source a.a)) is_on (lower_of_distance job.source is.job_of.source_pairs q a both.here) in
        let there = subst (λ o. IfSome o (λ k. k < mask_count job.source)) is_on (apart_named job.source is.job_of.source_pairs q a both.here).1 in
        let cut = cut_with_lower job.source a.a l lower in
        let on = lower_kept job is at across upwards a.a l lower in
        cut_keeps_distance (length (strips_of job)) (mask_of (strips_of job)) a.a l a.b (told_lower job) (source_area job) (in_units job at) on.near on.number _ _ on.kept
        (full a.b) a.number (job.target.grid *ℤ both.other.number) (some_distance job.source is.job_of.source_pairs q a both.here)
        (these_clear (Some l) is_on (IsLyingIn job a.a l) (λ i s. record { of_mask = s.strip; lies = lies_told job is a.a cut l there lower i s }))
        (source_apart (Some l) is_on)

    drawn_apart : (on : Option ℕ) → a.on ≡ on → KeepsApart (job.target.grid *ℤ both.other.number) (part_of (drawn_cells job at) a.a on) (drawn_cells job at a.b)
    drawn_apart (Some l) is_on = drawn_on_lower l is_on
    drawn_apart None is_on =
        masks_keep_distance (length (strips_of job)) (mask_of (strips_of job)) a.a a.b (source_area job) (in_units job at) (full a.a) (full a.b)
        a.number (job.target.grid *ℤ both.other.number) (some_distance job.source is.job_of.source_pairs q a both.here)
        (these_clear None is_on (IsStripOf job a.a) (λ i h. record { of_mask = h; lies = record {} }))
        (source_apart None is_on)

  abbrev ApartBy : ℤ → ℕ → Option ℕ → ℕ → Type 0
  ApartBy number m on n = KeepsApart (job.target.grid *ℤ number) (part_of (drawn_cells job at) m on) (drawn_cells job at n)

  -- each distance of the target is kept
  pub distances_kept : (q : ℕ) → q < length job.target.aparts → KeepsDistance job.target.grid job.target (drawn_cells job at) (apart_at job.target q)
  distances_kept q below =
      let (a, both) = source_distance job.source job.target (sound_source job is).same_form q below in
      let o = both.other in
      subst (KeepsDistance job.target.grid job.target (drawn_cells job at)) (sym both.there)
      (subst (λ m. ApartBy o.number m o.on o.b) both.first
      (subst (λ on. ApartBy o.number a.a on o.b) both.lower
      (subst (ApartBy o.number a.a a.on) both.second (drawn_apart q a both a.on refl))))
