-- The source of a job by its strips: they are on masks of its table, cover what these cover, and keep its rules; pieces of cuts are rectangles.
use Rattle.std.proofs.Common.{◌≡◌, ℕ, suc, ◌<◌, ℤ, pos, [], ◌∷◌, All, inl, inr, refl, sym, ◌∙◌, subst, arith}
use Rattle.std.proofs.lemmas.List.Elements.{All-head}
use Rattle.std.proofs.lemmas.Option.{get_or_from_slice_get, slice_get_within}
use Rattle.rt_cells.proofs.Lines.{first_place}
use Rattle.rt_layout.specs.Covering.{MaskCovers}
use Rattle.rt_rules.specs.Pieces.{HasRectangles}
use Rattle.rt_rules.specs.Rules.{BreaksNoRule}
use Rattle.rt_rules.proofs.Alike.{AreAlike, alike_back, piece_at_alike, breaks_none_alike}
use Rattle.rt_family.specs.Strips.{CoveredBy, IsFamily}
use Rattle.rt_cuts.specs.Cuts.{AreUnstacked}
use Rattle.rt_view.specs.declared.job.Job.{Job}
use Rattle.rt_view.specs.declared.shapes.Shape.TheVariants.{CutShape, CutUpper, CutLower, StrayLabel}
use Rattle.rt_view.proofs.Opened.{sound_source}
use Rattle.rt_view.specs.Job.{strips_of, IsJob}
use Rattle.rt_view.specs.Shapes.{IsWiring, IsCut, HasNo}
use Rattle.rt_strips.specs.Channels.{IsOfRole, IsInChannel, IsStripCell}
use Rattle.rt_strips.specs.Placed.{mask_of, left_of, bottom_of}
use Rattle.rt_strips.specs.Standing.{IsStrip}
use Rattle.rt_strips.proofs.Family.{covered_at, covered_by_family, is_family, stands_from_family}
use Rattle.rt_strips.proofs.OneList.{held_cell}
use Rattle.rt_tech.specs.declared.table.Role.TheVariants.{Metal, Gate, Cut}
use Rattle.rt_tech.specs.declared.table.Tech.{Tech}
use Rattle.rt_tech.specs.Tech.{mask_count}
use Rattle.rt_template.specs.Between.{IsStripOf, source_area}

-- the cells that the strips of a mask hold
abbrev pub source_cells : Job → ℕ → ℤ → ℤ → Type 0
source_cells job m = CoveredBy (IsStripOf job m) (source_area job)

-- a table of metals and cuts has no gate
no_gate : (tech : Tech) → All IsWiring tech.masks → (m : ℕ) → IsOfRole tech Gate m → ⊥
no_gate tech wiring m gate =
    let kind = subst IsWiring (get_or_from_slice_get tech.masks m gate.mask gate.mask gate.there) (wiring m gate.mask (slice_get_within tech.masks m gate.mask gate.there)) in
    elim kind [ inl e ↦ no_metal (sym gate.of_role ∙ e) | inr e ↦ no_cut (sym gate.of_role ∙ e) ]
  where
    no_metal : Gate ≡ Metal → ⊥
    no_metal e = cc

    no_cut : Gate ≡ Cut → ⊥
    no_cut e = cc

module _ (job : Job) (is : IsJob job) where
  no_channel : (x y : ℤ) → IsInChannel is.layout job.source x y → ⊥
  no_channel x y c = let cell = c.piece.inside x y c.holds in no_gate job.source (sound_source job is).wiring cell.gate cell.is_gate

  -- each strip is of a mask of the target
  pub on_target : (i : ℕ) → IsStrip (strips_of job) i → mask_of (strips_of job) i < mask_count job.target
  on_target i h =
      let of = is.job_of in
      let are = of.view.strips.strips_are in
      let strips = strips_of job in
      let nonempty = are.nonempty i h in
      elim (held_cell (IsStripCell is.layout job.source) (suc (mask_count job.source)) strips are (mask_of strips i) i (left_of strips i) (bottom_of strips i) (are.on_masks i h)
      (record { below = h.below_count; of_mask = refl })
      (record { column = first_place _ _ nonempty.across; row = first_place _ _ nonempty.upwards })).of_mask_or_channel [
        | inl of_mask ↦ subst (λ n. mask_of strips i < n) (sym of.same_masks) of_mask.0
        | inr channel ↦ absurd (no_channel _ _ channel.1)
      ]

  -- so each mask of the target is one that is drawn
  pub is_drawn : (m : ℕ) → m < mask_count job.target → m < job.view.strips.masks
  is_drawn m h = subst (λ n. m < n) (is.job_of.same_masks ∙ sym is.job_of.view.strips.counted) h

  -- the strips of a mask are a family, and none stands on another of its columns
  pub source_family : (m : ℕ) → IsFamily (IsStripOf job m) (source_area job)
  source_family m = is_family (IsStripCell is.layout job.source) (suc (mask_count job.source)) (strips_of job) is.job_of.view.strips.strips_are m

  pub source_unstacked : (m : ℕ) → AreUnstacked (IsStripOf job m) (source_area job)
  source_unstacked m i j stands left right =
      let are = is.job_of.view.strips.strips_are in
      are.unstacked i j (stands_from_family (IsStripCell is.layout job.source) (suc (mask_count job.source)) (strips_of job) are m i j stands) left right

  -- the strips of a mask cover what it does
  pub source_alike : (m : ℕ) → m < mask_count job.source → AreAlike (source_cells job m) (MaskCovers is.layout m)
  source_alike m below =
      let are = is.job_of.view.strips.strips_are in
      let listed : m < suc (mask_count job.source) = omega (arith, below) in
      record {
        to = λ x y c.
            elim ((are.same_cells m x y listed).1 (covered_at (strips_of job) m c.number x y c.holds.strip c.holds.cell)).of_mask_or_channel [
              | inl of_mask ↦ of_mask.1
              | inr channel ↦ absurd (no_channel x y channel.1)
            ];
        from = λ x y c. (covered_by_family (strips_of job) m x y).0 ((are.same_cells m x y listed).0 (record { of_mask_or_channel = inl (below, c) }));
      }

  -- they keep the rules of the source's table
  pub source_keeps : BreaksNoRule (pos 1) job.source (source_cells job)
  source_keeps =
      breaks_none_alike (pos 1) job.source is.job_of.source_pairs (MaskCovers is.layout) (source_cells job)
      (λ m below. alike_back (source_cells job m) (MaskCovers is.layout m) (source_alike m below)) (sound_source job is).clean

  -- the pieces of a cut are rectangles
  pub source_rectangles : (m : ℕ) → IsCut job.source m → HasRectangles (source_cells job m)
  source_rectangles m cut x y c =
      let alike = source_alike m (slice_get_within job.source.masks m cut.mask cut.there) in
      let shaped : HasRectangles (MaskCovers is.layout m) =
      (All-head (HasNo job.source (MaskCovers is.layout) is.layout.labels) CutShape (CutUpper ∷ CutLower ∷ StrayLabel ∷ []) is.job_of.view.sound.all).shaped m cut in
      let (r, at) = shaped x y (alike.to x y c) in
      (r, piece_at_alike (MaskCovers is.layout m) (source_cells job m) (alike_back _ _ alike) x y r at)
