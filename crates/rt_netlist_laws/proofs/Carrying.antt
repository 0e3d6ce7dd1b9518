-- The strips of a job as wires: which conduct, and which are cuts between two of them. Positions that meet both templates carry them.
use Rattle.std.proofs.Common.{◌≡◌, ℕ, ◌<◌, ℤ, pos, ◌*ℤ◌, ◌≤ℤ◌, ◌&&◌, nat_lt, None, IfSome, IsTrue, length, refl, sym, ap, subst, ◌∙◌, true, arith}
use Rattle.std.proofs.lemmas.Bool.{and_parts}
use Rattle.std.proofs.lemmas.Bool.Decides.{nat_tests}
use Rattle.std.proofs.lemmas.Option.{slice_get_within}
use Rattle.rt_cells.specs.Rectangles.{Rectangle, IsNonempty}
use Rattle.rt_cells.proofs.Lines.{first_place}
use Rattle.rt_tech.specs.declared.table.Enclose.{Enclose as Enclosure}
use Rattle.rt_tech.specs.declared.table.Role.TheVariants.{Metal, Cut}
use Rattle.rt_tech.specs.Rules.{is_role_at, has_lower}
use Rattle.rt_tech.specs.Tech.{mask_count, mask_at, width_of, space_of}
use Rattle.rt_tech.proofs.Demanded.{cuts_enclosed}
use Rattle.rt_rules.specs.Cuts.{KeepsEnclosed}
use Rattle.rt_rules.specs.Pairs.{lower_if, lower_of}
use Rattle.rt_rules.specs.Rules.{part_of}
use Rattle.rt_family.specs.Strips.{CoveredBy}
use Rattle.rt_family.proofs.Drawn.{drawn_family}
use Rattle.rt_cuts.specs.Cuts.{IsKeptInside}
use Rattle.rt_cuts.proofs.Scaled.{scaled_inside, scaled_not_negative}
use Rattle.rt_strips.specs.Placed.{mask_of}
use Rattle.rt_links.specs.Wires.{Wires, IsKeptWithin, IsKeptCut, CarriesWires}
use Rattle.rt_view.proofs.Opened.{sound_source}
use Rattle.rt_view.specs.declared.job.Job.{Job}
use Rattle.rt_view.specs.Job.{strips_of, IsJob}
use Rattle.rt_view.specs.Shapes.{IsCut, IsLower}
use Rattle.rt_rows.specs.declared.row.Var.{Var}
use Rattle.rt_template.specs.Between.{IsStripOf, IsEnclosed, source_area, is_of_cut}
use Rattle.rt_template.specs.Horizontal.{MeetsAcross}
use Rattle.rt_template.specs.Vertical.{MeetsUpwards}
use Rattle.rt_moved.proofs.Carrying.{in_units, mask_scaled}
use Rattle.rt_moved.proofs.Drawn.{in_steps}
use Rattle.rt_moved.proofs.Elsewhere.{reach_of}
use Rattle.rt_moved.proofs.Enclosures.{grown_covered, hosts_around}
use Rattle.rt_moved.proofs.Entries.{kept_enclosure}
use Rattle.rt_moved.proofs.Lowers.{lower_kept}
use Rattle.rt_moved.proofs.Lying.{IsLyingIn, told_lower, told_at, told_lies, lying_piece}
use Rattle.rt_moved.proofs.SameForm.{IsEnclosure, enclosure_of}
use Rattle.rt_moved.proofs.Source.{source_cells, source_family, source_keeps}
use Rattle.rt_netlist_laws.proofs.Told.{role_is, upper_at, upper_conducts, upper_is_no_lower, lower_conducts, lower_below}

-- the metals conduct, and each strip of a cut lies on its upper mask and on the lower mask that the view tells
abbrev pub wires_of : Job → Wires
wires_of job = record {
  count = length (strips_of job);
  mask = mask_of (strips_of job);
  conducting = λ m. is_role_at Metal job.source.masks m;
  cuts = λ i. nat_lt i (length (strips_of job)) && is_of_cut job i;
  upper = λ i. upper_at (mask_at job.source (mask_of (strips_of job) i));
  lower = told_lower job;
}

-- some of the strips that are kept inside of their hosts are so too
some_inside : (first some host : ℕ → Type 0) (source drawn : ℕ → Rectangle) (near number : ℤ) → ((i : ℕ) → some i → first i)
    → IsKeptInside first host source drawn near number → IsKeptInside some host source drawn near number
some_inside first some host source drawn near number of kept = record {
  left = λ i h m t. kept.left i h (of i m) t;
  right = λ i h m t. kept.right i h (of i m) t;
  bottom = λ i h m t row. kept.bottom i h (of i m) t row;
  top = λ i h m t ends. kept.top i h (of i m) t ends;
}

-- a strip of a cut is one of its mask
pub strip_of_cut : (job : Job) (c : ℕ) → IsTrue ((wires_of job).cuts c) → IsStripOf job (mask_of (strips_of job) c) c
strip_of_cut job c is =
    let test = (and_parts (nat_lt c (length (strips_of job))) (is_of_cut job c) is).0 in
    record { below = grind (arith, nat_tests, test); of_mask = refl }

pub mask_of_cut : (job : Job) (c : ℕ) → IsTrue ((wires_of job).cuts c) → IsCut job.source (mask_of (strips_of job) c)
mask_of_cut job c is = role_is job.source Cut (mask_of (strips_of job) c) (and_parts (nat_lt c (length (strips_of job))) (is_of_cut job c) is).1

-- the view tells one of its lower masks
pub lower_told : (job : Job) → IsJob job → (m : ℕ) → IsCut job.source m → (c : ℕ) → IsStripOf job m c → IsLower job.source m (told_lower job c)
lower_told job is m cut c strip =
    let n = (source_family job is m).nonempty c strip in
    (told_at job is m cut c strip _ _ (record { column = first_place _ _ n.across; row = first_place _ _ n.upwards })).lower

module _ (job : Job) (is : IsJob job) (at : Var → ℤ) (across : MeetsAcross job at) (upwards : MeetsUpwards job at at) where
  on_target : (m : ℕ) → m < mask_count job.source → m < mask_count job.target
  on_target m h = subst (λ n. m < n) (sym is.job_of.same_masks) h

  module _ (m : ℕ) (cut : IsCut job.source m) (c : ℕ) (strip : IsStripOf job m c) where
    full : (i : ℕ) → i ≡ c → IsNonempty (source_area job i)
    full i e = (source_family job is m).nonempty i (subst (IsStripOf job m) (sym e) strip)

    -- an enclosure of the cut in a mask that isn't below it keeps the strip within that mask
    module _ (q : ℕ) (e : Enclosure) (both : IsEnclosure job.source job.target (sound_source job is).same_form q e) (of_cut : e.cut ≡ m) (none : lower_of job.source e ≡ None) where
      some : pos 0 ≤ℤ e.number
      some = reach_of job.source is.job_of.source_pairs q e both.here

      around : KeepsEnclosed e.number (source_cells job e.cut) (source_cells job e.mask)
      around = subst (λ o. KeepsEnclosed e.number (part_of (source_cells job) e.cut o) (source_cells job e.mask)) none (kept_enclosure job.source (source_cells job) (source_keeps job is) q e both.here)

      own : (i : ℕ) → i ≡ c → IsStripOf job e.cut i
      own i same = subst (λ k. IsStripOf job k i) (sym of_cut) (subst (IsStripOf job m) (sym same) strip)

      enclosed : KeepsEnclosed e.number (CoveredBy (λ i. i ≡ c) (source_area job)) (source_cells job e.mask)
      enclosed x y u v k near = around x y u v (record { number = k.number; holds = record { strip = own k.number k.holds.strip; cell = k.holds.cell } }) near

      spoken : (i : ℕ) → i ≡ c → IsEnclosed job e i
      spoken i same = record { of_mask = own i same; lies = subst (λ o. IfSome o (λ l. told_lower job i ≡ l)) (sym none) (record {}) }

      within_by : is_role_at Metal job.source.masks e.mask ≡ true → IsKeptWithin (wires_of job) (source_area job) (in_units job at) c e.mask
      within_by conducts = record {
        conducts = conducts;
        near = e.number;
        number = job.target.grid *ℤ both.other.number;
        some_near = some;
        some_number = scaled_not_negative job.target.grid is.job_of.target.grid.low both.other.number (reach_of job.target is.job_of.target_pairs q both.other both.there);
        covered = grown_covered (λ i. i ≡ c) (IsStripOf job e.mask) (source_area job) (source_family job is e.mask) full e.number some enclosed c refl;
        inside = scaled_inside job.target.grid is.job_of.target.grid.low (λ i. i ≡ c) (IsStripOf job e.mask) (source_area job) (in_steps at) e.number both.other.number
            (hosts_around job at across upwards q e both.other both.here both.there (source_family job is e.mask) (λ i. i ≡ c) spoken full some enclosed);
      }

    within_upper : IsKeptWithin (wires_of job) (source_area job) (in_units job at) c (upper_at (mask_at job.source m))
    within_upper =
        let there = (cuts_enclosed job.source (sound_source job is).valid).upper m cut.mask (record { there = cut.there; role_is = cut.of_role }) in
        let e = there.enclose in
        let both = enclosure_of job.source job.target (sound_source job is).same_form there.place e there.there in
        let none : lower_of job.source e ≡ None =
        subst (λ k. lower_if (has_lower job.source.masks k e.mask) e.mask ≡ None) (sym there.of_cut)
        (subst (λ k. lower_if (has_lower job.source.masks m k) k ≡ None) (sym there.in_mask)
        (ap (λ b. lower_if b cut.mask.upper) (upper_is_no_lower job.source (sound_source job is).valid m cut))) in
        let conducts = subst (λ k. is_role_at Metal job.source.masks k ≡ true) (sym there.in_mask) (upper_conducts job.source (sound_source job is).valid m cut) in
        subst (IsKeptWithin (wires_of job) (source_area job) (in_units job at) c) (there.in_mask ∙ sym (ap upper_at cut.there))
        (within_by there.place e both there.of_cut none conducts)

    within_lower : IsKeptWithin (wires_of job) (source_area job) (in_units job at) c (told_lower job c)
    within_lower =
        let l = told_lower job c in
        let lower = lower_told job is m cut c strip in
        let below = lower_below job.source (sound_source job is).valid is.job_of.source_pairs m l lower in
        let on = lower_kept job is at across upwards m l lower in
        let keeps = on.kept.kept in
        let lying = told_lies job is m cut l below c strip refl in
        record {
          conducts = lower_conducts job.source (sound_source job is).valid m cut (sound_source job is).wiring l lower;
          near = on.near;
          number = on.number;
          some_near = keeps.some_near;
          some_number = keeps.some_number;
          covered = grown_covered (IsLyingIn job m l) (IsStripOf job l) (source_area job) (source_family job is l) (λ i s. (source_family job is m).nonempty i s.strip) on.near keeps.some_near
              (λ x y u v k near. keeps.encloses x y u v (lying_piece job is m cut l below x y k) near) c lying;
          inside = some_inside (IsLyingIn job m l) (λ i. i ≡ c) (IsStripOf job l) (source_area job) (in_units job at) on.near on.number
              (λ i e. subst (IsLyingIn job m l) (sym e) lying) keeps.inside;
        }

    cut_kept : IsKeptCut (wires_of job) (source_area job) (in_units job at) c
    cut_kept =
        let below = slice_get_within job.source.masks m cut.mask cut.there in
        record {
          source_cell = (source_family job is m).nonempty c strip;
          drawn_cell = (drawn_family (IsStripOf job m) (source_area job) (in_units job at) _ _ (mask_scaled job is at across upwards m (on_target m below)).0).nonempty c strip;
          in_upper = subst (λ k. IsKeptWithin (wires_of job) (source_area job) (in_units job at) c (upper_at (mask_at job.source k))) (sym strip.of_mask) within_upper;
          in_lower = within_lower;
        }

  -- positions that meet both templates carry the wires, in database units
  pub wires_carried : CarriesWires (wires_of job) (source_area job) (in_units job at)
  wires_carried = record {
    width = λ m. job.target.grid *ℤ width_of job.target m;
    space = λ m i j. job.target.grid *ℤ space_of job.target m;
    carried = λ m conducts.
        let metal = role_is job.source Metal m conducts in
        (mask_scaled job is at across upwards m (on_target m (slice_get_within job.source.masks m metal.mask metal.there))).0;
    cuts = λ c k. cut_kept (mask_of (strips_of job) c) (mask_of_cut job c k) c (strip_of_cut job c k);
  }
