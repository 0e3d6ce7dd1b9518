-- Strips that keep their distance across are near each other in rows.
use Rattle.std.proofs.Common.{◌≡◌, ℕ, ◌<◌, ℤ, pos, ◌≤ℤ◌, ◌<ℤ◌, List, length, map, get_or, sym, ap, subst, ◌∙◌, arith, inl, inr}
use Rattle.std.specs.Int.{int_max, int_min}
use Rattle.std.proofs.lemmas.Bool.{cases_order}
use Rattle.std.proofs.lemmas.Int.{ints, clamps}
use Rattle.std.proofs.lemmas.Option.{slice_get_cases}
use Rattle.std.proofs.lemmas.List.{get_or-map, length-map}
use Rattle.rt_cells.specs.Line.{gap_of}
use Rattle.rt_cells.proofs.Lines.{gap_back}
use Rattle.rt_tech.specs.declared.table.Mask.{Mask}
use Rattle.rt_tech.specs.declared.table.Tech.{Tech}
use Rattle.rt_tech.specs.Tech.{mask_count, space_of, space_of_mask}
use Rattle.rt_near.specs.Near.{AreNear as AreNearSides, ListsNearPairs}
use Rattle.rt_view.specs.declared.job.Job.{Job}
use Rattle.rt_view.specs.Job.{strips_of, IsJob}
use Rattle.rt_strips.specs.Placed.{strip_at, mask_of, left_of, right_of, bottom_of, top_of}
use Rattle.rt_strips.specs.Standing.{rows_apart}
use Rattle.rt_strips.proofs.Placed.{strip_below}
use Rattle.rt_template.specs.Horizontal.{IsKeptRightOf, AreNear, near_between}
use Rattle.rt_between.specs.Pairing.{side_of}
use Rattle.rt_between.proofs.Grouped.{near_sides}
use Rattle.rt_between.proofs.Among.{rows_of, side_is}
use Rattle.rt_htemplate.specs.Near.{space_in, HoldKeptPairs}

space_is : (tech : Tech) (m : ℕ) → m < mask_count tech → get_or (map space_in tech.masks) m (pos 0) ≡ space_of tech m
space_is tech m h =
    elim (slice_get_cases tech.masks m).1 [
      | inl (x, lt, is, at) ↦ get_or-map space_in tech.masks m x (pos 0) lt ∙ ap space_in at ∙ sym (ap space_of_mask is)
      | inr (past, is) ↦ absurd (omega (arith, past, h))
    ]

no_gap : (b t b' t' s : ℤ) → int_max b b' <ℤ int_min t t' → pos 1 ≤ℤ s → gap_of b t b' t' <ℤ s
no_gap b t b' t' s h g = omega (arith, ints, clamps)

not_beside : (l r : ℤ) → l <ℤ r → r ≤ℤ l → ⊥
not_beside l r h g = omega (arith, ints)

module _ (job : Job) (is : IsJob job) where
  some_space : (m : ℕ) → m < mask_count job.source → pos 1 ≤ℤ space_of job.source m
  some_space m h =
      elim (slice_get_cases job.source.masks m).1 [
        | inl (x, lt, there, at) ↦ subst (λ o. pos 1 ≤ℤ space_of_mask o) (sym there) (subst (λ (k : Mask). pos 1 ≤ℤ k.space) at (is.job_of.source.masks m x lt).space.low)
        | inr (past, there) ↦ absurd (omega (arith, past, h))
      ]

  drawn : (i j : ℕ) → IsKeptRightOf job i j → mask_of (strips_of job) i < mask_count job.source
  drawn i j kept = subst (λ n. mask_of (strips_of job) i < n) is.job_of.view.strips.counted kept.of_one_mask.is_drawn

  few_rows : (i j : ℕ) → pos 1 ≤ℤ near_between job i j → AreNear job i j → rows_apart (strips_of job) i j <ℤ near_between job i j
  few_rows i j some (inl s) =
      no_gap (bottom_of (strips_of job) i) (top_of (strips_of job) i) (bottom_of (strips_of job) j) (top_of (strips_of job) j) (near_between job i j) s.common some
  few_rows i j some (inr (h, _, _)) = h

  itself_beside : (i j : ℕ) → IsKeptRightOf job i j → i ≡ j → ⊥
  itself_beside i j kept e =
      not_beside (left_of (strips_of job) i) (right_of (strips_of job) i)
      (is.job_of.view.strips.strips_are.nonempty i kept.of_one_mask.one_mask.first).across
      (subst (λ k. right_of (strips_of job) i ≤ℤ left_of (strips_of job) k) (sym e) kept.beside)

  module _ (i j : ℕ) (kept : IsKeptRightOf job i j) where
    there_first : i < length job.view.strips.list
    there_first = strip_below job.view.strips.list i kept.of_one_mask.one_mask.first

    there_second : j < length job.view.strips.list
    there_second = strip_below job.view.strips.list j kept.of_one_mask.one_mask.second

    near_rows : rows_apart (strips_of job) i j <ℤ get_or (map space_in job.source.masks) (mask_of (strips_of job) i) (pos 0)
    near_rows =
        let m = drawn i j kept in
        subst (λ z. rows_apart (strips_of job) i j <ℤ z) (sym (space_is job.source (mask_of (strips_of job) i) m))
        (few_rows i j (some_space (mask_of (strips_of job) i) m) kept.near)

    first_near : i < j → AreNearSides (map side_of job.view.strips.list) (map space_in job.source.masks) i j
    first_near h =
        near_sides (map side_of job.view.strips.list) (map space_in job.source.masks) i j (rows_of (strip_at (strips_of job) i)) (rows_of (strip_at (strips_of job) j))
        (side_is job.view.strips.list i there_first) (side_is job.view.strips.list j there_second) h
        (omega (arith, there_second, length-map job.view.strips.list side_of)) kept.of_one_mask.one_mask.one_mask
        (omega (arith, drawn i j kept, length-map job.source.masks space_in)) near_rows

    second_near : j < i → AreNearSides (map side_of job.view.strips.list) (map space_in job.source.masks) j i
    second_near h =
        let one = kept.of_one_mask.one_mask.one_mask in
        near_sides (map side_of job.view.strips.list) (map space_in job.source.masks) j i (rows_of (strip_at (strips_of job) j)) (rows_of (strip_at (strips_of job) i))
        (side_is job.view.strips.list j there_second) (side_is job.view.strips.list i there_first) h
        (omega (arith, there_first, length-map job.view.strips.list side_of)) (sym one)
        (omega (arith, drawn i j kept, length-map job.source.masks space_in, one))
        (subst (λ m. gap_of (bottom_of (strips_of job) j) (top_of (strips_of job) j) (bottom_of (strips_of job) i) (top_of (strips_of job) i) <ℤ get_or (map space_in job.source.masks) m (pos 0)) one
        (gap_back (bottom_of (strips_of job) i) (top_of (strips_of job) i) (bottom_of (strips_of job) j) (top_of (strips_of job) j) _ near_rows))

  pub hold_kept : (pairs : List (ℕ × ℕ)) → ListsNearPairs (map side_of job.view.strips.list) (map space_in job.source.masks) pairs → HoldKeptPairs job pairs
  hold_kept pairs lists = record {
    every = λ i j kept. elim (cases_order i j) [
      | inl e ↦ absurd (itself_beside i j kept e)
      | inr (inl h) ↦ inl ((lists.exact i j).1 (first_near i j kept h))
      | inr (inr h) ↦ inr ((lists.exact j i).1 (second_near i j kept h))
    ];
  }
