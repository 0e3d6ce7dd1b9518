-- Lists of rectangles that cover the same cells, part by part.
use Rattle.std.proofs.Common.{◌≡◌, ◌∙◌, ℤ, List, ◌⊎◌, ◌++◌, map, inl, inr, ap, sym, subst}
use Rattle.std.specs.List.{Contains}
use Rattle.std.proofs.lemmas.List.{map-append, append_assoc}
use Rattle.std.proofs.lemmas.List.Elements.{Contains-append_left, Contains-append_right, Contains-append_cases}
use Rattle.std.proofs.lemmas.List.Sorted.{IsPermutation-map, IsPermutation-sym, Contains-permutation}
use Rattle.std.specs.List.Sorted.{IsPermutation}
use Rattle.std.proofs.Math.Logic.{◌↔◌}
use Rattle.rt_cells.specs.Rectangles.{Covers}
use Rattle.rt_base.specs.declared.plane.Rect.{Rect}
use Rattle.rt_base.specs.Plane.{area}
use Rattle.rt_strips.specs.OneMask.{CoverTheSame, AreAllStrips}

-- a list covers what it covers
pub the_same : (list other : List Rect) → list ≡ other → CoverTheSame (map area list) (map area other)
the_same list other e = subst (λ rs. CoverTheSame (map area list) (map area rs)) e (λ x y. (λ c. c, λ c. c))

-- in another order too
pub in_another_order : (list other : List Rect) → IsPermutation list other → CoverTheSame (map area other) (map area list)
in_another_order list other same x y =
    let moved = IsPermutation-map area list other same in (
      λ c. (c.0, Contains-permutation (map area other) (map area list) c.0 (IsPermutation-sym (map area list) (map area other) moved) c.1, c.2),
      λ c. (c.0, Contains-permutation (map area list) (map area other) c.0 moved c.1, c.2),
    )

-- two lists together cover what one of them does
covered_by_either : (first second : List Rect) (x y : ℤ) → Covers (map area (first ++ second)) x y ↔ (Covers (map area first) x y ⊎ Covers (map area second) x y)
covered_by_either first second x y =
    let both = map-append area first second in (
      λ c. elim (Contains-append_cases (map area first) (map area second) c.0 (subst (λ areas. Contains areas c.0) both c.1)) [
        | inl l ↦ inl (c.0, l, c.2)
        | inr l ↦ inr (c.0, l, c.2)
      ],
      λ c. elim c [
        | inl l ↦ (l.0, subst (λ areas. Contains areas l.0) (sym both) (Contains-append_left (map area first) (map area second) l.0 l.1), l.2)
        | inr l ↦ (l.0, subst (λ areas. Contains areas l.0) (sym both) (Contains-append_right (map area first) (map area second) l.0 l.1), l.2)
      ],
    )

module _ (list other : List Rect) (same : CoverTheSame (map area list) (map area other)) where
  -- lists that cover the same do so behind a list
  same_behind : (before : List Rect) → CoverTheSame (map area (before ++ list)) (map area (before ++ other))
  same_behind before x y =
      let a = covered_by_either before list x y in
      let b = covered_by_either before other x y in (
        λ c. elim (a.0 c) [ inl l ↦ b.1 (inl l) | inr l ↦ b.1 (inr ((same x y).0 l)) ],
        λ c. elim (b.0 c) [ inl l ↦ a.1 (inl l) | inr l ↦ a.1 (inr ((same x y).1 l)) ],
      )

  -- and before one
  same_before : (after : List Rect) → CoverTheSame (map area (list ++ after)) (map area (other ++ after))
  same_before after x y =
      let a = covered_by_either list after x y in
      let b = covered_by_either other after x y in (
        λ c. elim (a.0 c) [ inl l ↦ b.1 (inl ((same x y).0 l)) | inr l ↦ b.1 (inr l) ],
        λ c. elim (b.0 c) [ inl l ↦ a.1 (inl ((same x y).1 l)) | inr l ↦ a.1 (inr l) ],
      )

-- the strips of a part are appended in its place
pub strips_added : (before part strips after : List Rect) → AreAllStrips (Covers (map area part)) (map area strips) → after ≡ before ++ strips
    → CoverTheSame (map area after) (map area (before ++ part))
strips_added before part strips after are appended =
    subst (λ rs. CoverTheSame (map area rs) (map area (before ++ part))) (sym appended)
    (same_behind strips part (λ x y. ((are.same_cells x y).1, (are.same_cells x y).0)) before)

-- a part goes from the rest to what is merged
pub one_part : (all merged rest merged' part later : List Rect) → rest ≡ part ++ later → CoverTheSame (map area (merged ++ rest)) (map area all)
    → CoverTheSame (map area merged') (map area (merged ++ part)) → CoverTheSame (map area (merged' ++ later)) (map area all)
one_part all merged rest merged' part later parts before added x y =
    let moved : (merged ++ part) ++ later ≡ merged ++ rest = append_assoc merged part later ∙ sym (ap (λ (rs : List Rect). merged ++ rs) parts) in
    let now : Covers (map area (merged' ++ later)) x y ↔ Covers (map area (merged ++ rest)) x y =
    subst (λ rs. Covers (map area (merged' ++ later)) x y ↔ Covers (map area rs) x y) moved (same_before merged' (merged ++ part) added later x y) in (
      λ c. (before x y).0 (now.0 c),
      λ c. now.1 ((before x y).1 c),
    )
