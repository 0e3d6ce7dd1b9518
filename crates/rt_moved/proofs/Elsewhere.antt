-- Strips of a cut that lie in other lower masks than one are apart from it, in the source and in the drawing: a valid table asks for a distance.
use Rattle.std.proofs.Common.{◌≡◌, ℕ, ◌<◌, ℤ, pos, ◌+ℤ◌, ◌≤ℤ◌, ◌<ℤ◌, List, All, Option, Some, IfSome, length, slice_get, refl, subst, inl, inr, arith}
use Rattle.std.proofs.lemmas.Int.{ints}
use Rattle.std.proofs.lemmas.List.Elements.{All-get_or}
use Rattle.std.proofs.lemmas.Option.{get_or_from_slice_get, slice_get_within}
use Rattle.rt_cells.specs.Line.{between}
use Rattle.rt_cells.specs.Rectangles.{columns_between, rows_between}
use Rattle.rt_rules.specs.Cuts.{KeepsApart}
use Rattle.rt_rules.specs.Pairs.{enclose_at, apart_at, IsMeasuredEnclose, IsMeasuredApart, HasMeasuredPairs}
use Rattle.rt_rules.specs.Pieces.{LiesIn}
use Rattle.rt_rules.specs.Rules.{part_of}
use Rattle.rt_rules.proofs.Measured.{apart_named}
use Rattle.rt_family.specs.Carried.{IsKeptClear}
use Rattle.rt_family.specs.Strips.{CoveredBy}
use Rattle.rt_family.proofs.Strips.{some_cell}
use Rattle.rt_cuts.specs.Laws.{LiesElsewhere}
use Rattle.rt_tech.specs.declared.table.Apart.{Apart as Distance}
use Rattle.rt_tech.specs.declared.table.Enclose.{Enclose as Enclosure}
use Rattle.rt_tech.specs.declared.table.Tech.{Tech}
use Rattle.rt_tech.specs.Demands.{AreKeptApart as AreDemandedApart}
use Rattle.rt_tech.specs.Tech.{mask_count}
use Rattle.rt_tech.proofs.Demanded.{lowers_apart}
use Rattle.rt_view.specs.declared.job.Job.{Job}
use Rattle.rt_view.proofs.Opened.{sound_source}
use Rattle.rt_view.specs.Job.{strips_of, IsJob}
use Rattle.rt_view.specs.Shapes.{IsCut, IsLower}
use Rattle.rt_rows.specs.declared.row.Var.{Var}
use Rattle.rt_rows.specs.declared.row.Var.TheVariants.{L, R, B, T}
use Rattle.rt_strips.specs.Placed.{mask_of}
use Rattle.rt_template.specs.Between.{IsStripOf, IsStripIn, source_area}
use Rattle.rt_template.specs.Horizontal.{MeetsAcross}
use Rattle.rt_template.specs.Vertical.{MeetsUpwards}
use Rattle.rt_moved.proofs.Distances.{sides_clear}
use Rattle.rt_moved.proofs.Drawn.{in_steps}
use Rattle.rt_moved.proofs.Entries.{kept_distance}
use Rattle.rt_moved.proofs.Lying.{cut_with_lower, lower_among, told_lower, told_at, told_piece}
use Rattle.rt_moved.proofs.SameForm.{distance_of}
use Rattle.rt_moved.proofs.Source.{source_cells, source_family, source_keeps}

-- what holds of all entries of a list holds of the one of a number
entry_of : {X : Type 0} (P : X → Type 0) (xs : List X) (n : ℕ) (x : X) → All P xs → slice_get xs n ≡ Some x → P x
entry_of P xs n x all there = subst P (get_or_from_slice_get xs n x x there) (All-get_or P xs n x (slice_get_within xs n x there) all)

-- an enclosure of a measured table has a number that isn't negative, and a distance one that is positive
pub reach_of : (tech : Tech) → HasMeasuredPairs tech → (n : ℕ) (e : Enclosure) → enclose_at tech n ≡ Some e → pos 0 ≤ℤ e.number
reach_of tech pairs n e there = (entry_of (IsMeasuredEnclose tech) tech.encloses n e pairs.encloses there).number.low

pub some_distance : (tech : Tech) → HasMeasuredPairs tech → (n : ℕ) (a : Distance) → apart_at tech n ≡ Some a → pos 1 ≤ℤ a.number
some_distance tech pairs n a there = (entry_of (IsMeasuredApart tech) tech.aparts n a pairs.aparts there).number.low

-- the lower mask that it names is one of its cut
pub lower_of_distance : (tech : Tech) → HasMeasuredPairs tech → (n : ℕ) (a : Distance) → apart_at tech n ≡ Some a → IfSome a.on (IsLower tech a.a)
lower_of_distance tech pairs n a there = (entry_of (IsMeasuredApart tech) tech.aparts n a pairs.aparts there).lower

-- what holds of the masks of a distance that is there holds of the masks that are demanded
by_masks : (P : ℕ → Option ℕ → ℕ → Type 0) (tech : Tech) (a : ℕ) (on : Option ℕ) (b : ℕ) (kept : AreDemandedApart tech a on b) → P kept.apart.a kept.apart.on kept.apart.b → P a on b
by_masks P tech a on b kept h = subst (λ m. P m on b) kept.first (subst (λ o. P kept.apart.a o b) kept.lower (subst (P kept.apart.a kept.apart.on) kept.second h))

by_one : (low by high : ℤ) → pos 1 ≤ℤ by → (low +ℤ by) ≤ℤ high → (low +ℤ pos 1) ≤ℤ high
by_one low by high h k = omega (arith, ints)

fewer : (n by : ℤ) → pos 1 ≤ℤ by → n <ℤ pos 1 → n <ℤ by
fewer n by h k = omega (arith, ints)

no_less : (by n : ℤ) → pos 1 ≤ℤ by → by ≤ℤ n → pos 1 ≤ℤ n
no_less by n h k = omega (arith, ints)

module _ (job : Job) (is : IsJob job) (m l : ℕ) (lower : IsLower job.source m l) where
  -- the strips of the cut that lie in another lower mask
  abbrev pub LiesInOther : ℕ → Type 0
  LiesInOther = LiesElsewhere (length (strips_of job)) (mask_of (strips_of job)) m l (told_lower job)

  cut : IsCut job.source m
  cut = cut_with_lower job.source m l lower

  -- the table has a distance from this lower mask of the cut where it lies in the other one
  demanded : (i : ℕ) → LiesInOther i → AreDemandedApart job.source m (Some (told_lower job i)) l
  demanded i o =
      let cell = (some_cell (IsStripOf job m) (source_area job) (source_family job is m) i o.strip).cell in
      lowers_apart job.source (sound_source job is).valid m cut.mask (record { there = cut.there; role_is = cut.of_role }) (told_lower job i) l
      (lower_among job.source m (told_lower job i) cut (told_at job is m cut i o.strip _ _ cell).lower) (lower_among job.source m l cut lower) o.elsewhere

  -- that other mask is there
  other_there : (i : ℕ) → LiesInOther i → told_lower job i < mask_count job.source
  other_there i o =
      let kept = demanded i o in
      by_masks (λ a on b. IfSome on (λ k. k < mask_count job.source)) job.source m (Some (told_lower job i)) l kept
      (apart_named job.source is.job_of.source_pairs kept.place kept.apart kept.there).1

  -- which the source keeps
  pub others_apart : KeepsApart (pos 1) (CoveredBy LiesInOther (source_area job)) (source_cells job l)
  others_apart x y u v c d =
      let i = c.number in
      let o = c.holds.strip in
      let kept = demanded i o in
      let some = some_distance job.source is.job_of.source_pairs kept.place kept.apart kept.there in
      let apart : KeepsApart kept.apart.number (LiesIn (source_cells job m) (source_cells job (told_lower job i))) (source_cells job l) =
      by_masks (λ a on b. KeepsApart kept.apart.number (part_of (source_cells job) a on) (source_cells job b)) job.source m (Some (told_lower job i)) l kept
      (kept_distance job.source (source_cells job) (source_keeps job is) kept.place kept.apart kept.there) in
      elim (apart x y u v (told_piece job is m cut (told_lower job i) (other_there i o) i o.strip refl x y c.holds.cell) d) [
        | inl h ↦ inl (no_less kept.apart.number (between x u) some h)
        | inr h ↦ inr (no_less kept.apart.number (between y v) some h)
      ]

  module _ (at : Var → ℤ) (across : MeetsAcross job at) (upwards : MeetsUpwards job at at) where
    -- a strip is kept clear of the lower mask by positive numbers
    record IsClear (i : ℕ) : Type 0 where
      near : ℤ
      clear : ℤ
      some_near : pos 1 ≤ℤ near
      some_clear : pos 1 ≤ℤ clear
      kept : IsKeptClear (IsStripIn job m (Some (told_lower job i))) (IsStripOf job l) (source_area job) (in_steps at) near clear

    -- since both tables have that distance
    is_clear : (i : ℕ) → LiesInOther i → IsClear i
    is_clear i o =
        let kept = demanded i o in
        let both = distance_of job.source job.target (sound_source job is).same_form kept.place kept.apart kept.there in
        record {
          near = kept.apart.number;
          clear = both.other.number;
          some_near = some_distance job.source is.job_of.source_pairs kept.place kept.apart kept.there;
          some_clear = some_distance job.target is.job_of.target_pairs kept.place both.other both.there;
          kept = by_masks (λ a on b. IsKeptClear (IsStripIn job a on) (IsStripOf job b) (source_area job) (in_steps at) kept.apart.number both.other.number)
              job.source m (Some (told_lower job i)) l kept (sides_clear job at across upwards kept.place kept.apart both.other kept.there both.there);
        }

    in_other : (i : ℕ) → LiesInOther i → IsStripIn job m (Some (told_lower job i)) i
    in_other i o = record { of_mask = o.strip; lies = refl }

    -- so all these strips are drawn clear of it, by a step
    pub others_clear : IsKeptClear LiesInOther (IsStripOf job l) (source_area job) (in_steps at) (pos 1) (pos 1)
    others_clear = record {
      right = λ i j o s beside rows.
          let c = is_clear i o in
          by_one (at (R i)) c.clear (at (L j)) c.some_clear
          (c.kept.right i j (in_other i o) s beside (fewer (rows_between (source_area job i) (source_area job j)) c.near c.some_near rows));
      left = λ i j o s beside rows.
          let c = is_clear i o in
          by_one (at (R j)) c.clear (at (L i)) c.some_clear
          (c.kept.left i j (in_other i o) s beside (fewer (rows_between (source_area job i) (source_area job j)) c.near c.some_near rows));
      above = λ i j o s above columns.
          let c = is_clear i o in
          by_one (at (T i)) c.clear (at (B j)) c.some_clear
          (c.kept.above i j (in_other i o) s above (fewer (columns_between (in_steps at i) (in_steps at j)) c.clear c.some_clear columns));
      below = λ i j o s below columns.
          let c = is_clear i o in
          by_one (at (T j)) c.clear (at (B i)) c.some_clear
          (c.kept.below i j (in_other i o) s below (fewer (columns_between (in_steps at i) (in_steps at j)) c.clear c.some_clear columns));
    }
