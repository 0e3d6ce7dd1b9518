-- Which lower mask each strip of a cut lies in, as the view tells it, and that it lies there by the strips.
use Rattle.std.proofs.Common.{◌≡◌, ℕ, ◌<◌, ℤ, true, false, Contains, length, slice_index, ◌==◌, sym, subst, inl, inr, arith}
use Rattle.std.specs.Option.{option_map_or}
use Rattle.std.proofs.lemmas.Bool.{and_parts}
use Rattle.std.proofs.lemmas.Bool.Decides.{nat_tests}
use Rattle.std.proofs.lemmas.Map.Views.{Contains-from_any}
use Rattle.std.proofs.lemmas.Option.{slice_get_cases, slice_get_within}
use Rattle.rt_cells.specs.Cells.Joined.{here}
use Rattle.rt_cells.specs.Rectangles.{Holds}
use Rattle.rt_layout.specs.Covering.{MaskCovers}
use Rattle.rt_rules.specs.Pieces.{LiesIn}
use Rattle.rt_rules.proofs.Alike.{alike_back, lies_alike}
use Rattle.rt_family.specs.Strips.{CoveredBy, StandsOn}
use Rattle.rt_family.proofs.Strips.{some_cell}
use Rattle.rt_cuts.specs.Laws.{LiesInMask}
use Rattle.rt_cuts.proofs.Clear.{lies_on}
use Rattle.rt_cuts.proofs.Pieces.{none_stands}
use Rattle.rt_view.specs.declared.job.Job.{Job}
use Rattle.rt_view.specs.Job.{strips_of, IsJob}
use Rattle.rt_view.specs.Shapes.{IsCut, IsLower, LiesInOne}
use Rattle.rt_strips.specs.Placed.{mask_of}
use Rattle.rt_tech.specs.declared.table.Role.TheVariants.{Cut}
use Rattle.rt_tech.specs.declared.table.Tech.{Tech}
use Rattle.rt_tech.specs.Rules.{is_lower_of}
use Rattle.rt_tech.specs.Tech.{mask_count}
use Rattle.rt_tech.proofs.Tests.{role_same}
use Rattle.rt_template.specs.Between.{IsStripOf, source_area}
use Rattle.rt_moved.proofs.Source.{source_cells, source_family, source_unstacked, source_alike, source_rectangles}

-- a mask with a lower mask is a cut
pub cut_with_lower : (tech : Tech) (m l : ℕ) → IsLower tech m l → IsCut tech m
cut_with_lower tech m l lower =
    elim (slice_get_cases tech.masks m).1 [
      | inl (mask, below, is, at) ↦ record { mask = mask; there = is; of_role = role_same mask.role Cut (and_parts _ _ (subst (λ o. option_map_or (λ k. is_lower_of k l) o false ≡ true) is lower)).0 }
      | inr (past, none) ↦ absurd (never (subst (λ o. option_map_or (λ k. is_lower_of k l) o false ≡ true) none lower))
    ]
  where
    never : false ≡ true → ⊥
    never e = cc

-- and has it among its lower masks
pub lower_among : (tech : Tech) (m l : ℕ) (cut : IsCut tech m) → IsLower tech m l → Contains cut.mask.lowers l
lower_among tech m l cut lower =
    let test : is_lower_of cut.mask l ≡ true = subst (λ o. option_map_or (λ k. is_lower_of k l) o false ≡ true) cut.there lower in
    Contains-from_any {eq = λ x y. x == y} (λ x y e. grind (arith, nat_tests, e)) l cut.mask.lowers (and_parts _ _ test).1

-- the lower mask that the view tells of a strip
abbrev pub told_lower : Job → ℕ → ℕ
told_lower job i = slice_index job.view.lowers i

-- strip i of cut m lies in mask l
abbrev pub IsLyingIn : Job → ℕ → ℕ → ℕ → Type 0
IsLyingIn job m l = LiesInMask (length (strips_of job)) (mask_of (strips_of job)) m l (source_area job)

module _ (job : Job) (is : IsJob job) (m : ℕ) (cut : IsCut job.source m) where
  cut_below : m < mask_count job.source
  cut_below = slice_get_within job.source.masks m cut.mask cut.there

  -- of each cell of a strip it is told in which lower mask its piece lies
  pub told_at : (i : ℕ) → IsStripOf job m i → (x y : ℤ) → Holds (source_area job i) x y → LiesInOne job.source (MaskCovers is.layout) m (told_lower job i) x y
  told_at i h x y holds =
      subst (λ k. LiesInOne job.source (MaskCovers is.layout) k (told_lower job i) x y) h.of_mask
      (is.job_of.view.lowers.of_cuts i (record { below_count = h.below }) (subst (IsCut job.source) (sym h.of_mask) cut) x y holds)

  -- no strip of the cut stands on another
  pub cut_stands_on_none : (i j : ℕ) → StandsOn (IsStripOf job m) (source_area job) i j → ⊥
  cut_stands_on_none = none_stands (IsStripOf job m) (source_area job) (source_family job is m) (source_rectangles job is m cut) (source_unstacked job is m)

  module _ (l : ℕ) (below : l < mask_count job.source) where
    -- the strip lies in the lower mask that is told
    pub told_lies : (i : ℕ) → IsStripOf job m i → told_lower job i ≡ l → IsLyingIn job m l i
    told_lies i h e = record {
      strip = h;
      lies = λ x y holds.
          let one = subst (λ k. LiesInOne job.source (MaskCovers is.layout) m k x y) e (told_at i h x y holds) in
          (source_alike job is l below).from x y (one.lies.lies x y (here one.lies.cell));
    }

    -- and so do the pieces of its cells
    pub told_piece : (i : ℕ) → IsStripOf job m i → told_lower job i ≡ l → (x y : ℤ) → Holds (source_area job i) x y
        → LiesIn (source_cells job m) (source_cells job l) x y
    told_piece i h e x y holds =
        let one = subst (λ k. LiesInOne job.source (MaskCovers is.layout) m k x y) e (told_at i h x y holds) in
        lies_alike (MaskCovers is.layout m) (source_cells job m) (MaskCovers is.layout l) (source_cells job l)
        (alike_back _ _ (source_alike job is m cut_below)) (alike_back _ _ (source_alike job is l below)) x y one.lies

    -- a cell of a strip that lies in a mask is of a piece that does
    pub lying_piece : (x y : ℤ) → CoveredBy (IsLyingIn job m l) (source_area job) x y
        → LiesIn (source_cells job m) (source_cells job l) x y
    lying_piece = lies_on (IsStripOf job m) (source_area job) (source_family job is m) cut_stands_on_none (source_cells job l)

    -- the lower mask that a strip lies in is told
    pub lies_told : IsLower job.source m l → (i : ℕ) → IsLyingIn job m l i → told_lower job i ≡ l
    lies_told lower i s =
        let cell = some_cell (IsStripOf job m) (source_area job) (source_family job is m) i s.strip in
        let on = lying_piece _ _ (record { number = i; holds = record { strip = s; cell = cell.cell } }) in
        sym ((told_at i s.strip _ _ cell.cell).alone l lower
        (lies_alike (source_cells job m) (MaskCovers is.layout m) (source_cells job l) (MaskCovers is.layout l)
        (source_alike job is m cut_below) (source_alike job is l below) _ _ on))
