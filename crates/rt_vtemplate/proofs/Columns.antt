-- Which strips are near each other, by their intervals of columns.
use Rattle.std.proofs.Common.{◌≡◌, ℕ, ◌<◌, ℤ, pos, ◌<ℤ◌, List, [], ◌∷◌, length, map, get_or, sym, ap, subst, subst₂, ◌∙◌, arith}
use Rattle.std.proofs.lemmas.List.{get_or-map, length-map}
use Rattle.std.proofs.lemmas.List.Sorted.{Contains-permutation, IsPermutation-sym}
use Rattle.std.proofs.lemmas.Option.{slice_get-get_or}
use Rattle.std.specs.List.Sorted.{IsPermutation}
use Rattle.rt_cells.specs.Line.{gap_of}
use Rattle.rt_near.specs.declared.near.Sides.{Sides}
use Rattle.rt_near.specs.Near.{AreNear, ListsNearPairs}
use Rattle.rt_rows.specs.declared.row.Var.{Var}
use Rattle.rt_tech.specs.declared.table.Mask.{Mask}
use Rattle.rt_tech.specs.declared.table.Tech.{Tech}
use Rattle.rt_tech.specs.Tech.{mask_count, space_of, space_of_mask}
use Rattle.rt_strips.specs.Placed.{mask_of}
use Rattle.rt_view.specs.declared.job.Job.{Job}
use Rattle.rt_view.specs.Job.{strips_of, IsJob}
use Rattle.rt_template.specs.Vertical.{columns_apart}
use Rattle.rt_strips.proofs.Placed.{strip_there, strip_below}
use Rattle.rt_vtemplate.specs.Kinds.{AreNearStrips}
use Rattle.rt_vtemplate.specs.Steps.{columns_of, AreColumnsOf, ListsNearStrips}

-- near pairs in another order are the near pairs
pub pairs_ordered : (sides : List Sides) (reaches : List ℤ) (pairs ordered : List (ℕ × ℕ)) → IsPermutation pairs ordered → ListsNearPairs sides reaches pairs
    → ListsNearPairs sides reaches ordered
pairs_ordered sides reaches pairs ordered moved lists = record {
  exact = λ i j. (
    λ c. (lists.exact i j).0 (Contains-permutation ordered pairs (i, j) (IsPermutation-sym pairs ordered moved) c),
    λ near. Contains-permutation pairs ordered (i, j) moved ((lists.exact i j).1 near),
  );
}

-- two intervals are of one group and near by its reach
record AreNearBy (spaces : List ℤ) (a b : Sides) : Type 0 where
  one_group : a.group ≡ b.group
  group : a.group < length spaces
  near : gap_of a.low a.high b.low b.high <ℤ get_or spaces a.group (pos 0)

get_or_there : {X : Type 0} (xs : List X) (i : ℕ) → i < length xs → X
get_or_there [] i h = absurd (none i h)
  where
    none : (i : ℕ) → i < 0 → ⊥
    none i h = omega arith
get_or_there (x ∷ xs) i h = x

space_in : (tech : Tech) (m : ℕ) → m < mask_count tech → get_or (map (λ (mask : Mask). mask.space) tech.masks) m (pos 0) ≡ space_of tech m
space_in tech m h =
    let d : Mask = get_or_there tech.masks m h in
    get_or-map (λ (mask : Mask). mask.space) tech.masks m d (pos 0) h ∙ sym (ap space_of_mask (slice_get-get_or tech.masks m d h))

module _ (job : Job) (is_job : IsJob job) (columns : Var → ℤ) (sides : List Sides) (spaces : List ℤ)
    (are : AreColumnsOf job columns (length job.view.strips.list) sides) (of_masks : spaces ≡ map (λ (mask : Mask). mask.space) job.target.masks) where
  spaces_counted : length spaces ≡ job.view.strips.masks
  spaces_counted =
      let of = is_job.job_of in
      ap length of_masks ∙ length-map job.target.masks (λ (mask : Mask). mask.space) ∙ of.same_masks ∙ sym of.view.strips.counted

  space_at : (m : ℕ) → m < length spaces → get_or spaces m (pos 0) ≡ space_of job.target m
  space_at m h =
      let there : m < mask_count job.target = omega (arith, h, ap length of_masks, length-map job.target.masks (λ (mask : Mask). mask.space)) in
      ap (λ (xs : List ℤ). get_or xs m (pos 0)) of_masks ∙ space_in job.target m there

  -- two intervals that are near are of strips that are
  near_from : (i j : ℕ) → AreNear sides spaces i j → (i < j) × AreNearStrips job columns i j
  near_from i j n =
      let hj : j < length job.view.strips.list = omega (arith, are.one_each, n.there) in
      let hi : i < length job.view.strips.list = omega (arith, hj, n.ordered) in
      let t = subst₂ (AreNearBy spaces) (are.each i hi) (are.each j hj) (record { one_group = n.one_group; group = n.group; near = n.near }) in (
        n.ordered,
        record {
          of_one_mask = record {
            one_mask = record { first = strip_there job.view.strips.list i hi; second = strip_there job.view.strips.list j hj; one_mask = t.one_group };
            is_drawn = subst (λ k. mask_of (strips_of job) i < k) spaces_counted t.group;
          };
          near = subst (λ z. columns_apart job columns i j <ℤ z) (space_at (mask_of (strips_of job) i) t.group) t.near;
        },
      )

  -- and the other way round
  near_to : (i j : ℕ) → i < j → AreNearStrips job columns i j → AreNear sides spaces i j
  near_to i j h n =
      let one = n.of_one_mask.one_mask in
      let hi = strip_below job.view.strips.list i one.first in
      let hj = strip_below job.view.strips.list j one.second in
      let g : mask_of (strips_of job) i < length spaces = subst (λ k. mask_of (strips_of job) i < k) (sym spaces_counted) n.of_one_mask.is_drawn in
      let by : AreNearBy spaces (columns_of job columns i) (columns_of job columns j) = record {
        one_group = one.one_mask;
        group = g;
        near = subst (λ z. columns_apart job columns i j <ℤ z) (sym (space_at (mask_of (strips_of job) i) g)) n.near;
      } in
      let t = subst₂ (AreNearBy spaces) (sym (are.each i hi)) (sym (are.each j hj)) by in
      record { ordered = h; there = omega (arith, are.one_each, hj); one_group = t.one_group; group = t.group; near = t.near }

  -- the near intervals are those of the near strips
  pub lists_near : (pairs : List (ℕ × ℕ)) → ListsNearPairs sides spaces pairs → ListsNearStrips job columns pairs
  lists_near pairs lists = record {
    exact = λ i j. (λ c. near_from i j ((lists.exact i j).0 c), λ (n : (i < j) × AreNearStrips job columns i j). (lists.exact i j).1 (near_to i j n.0 n.1));
  }
