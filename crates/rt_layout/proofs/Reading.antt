-- What a list of rectangles covers, one by one.
use Rattle.std.proofs.Common.{◌≡◌, ℕ, ◌+◌, ◌<◌, ◌≤◌, ℤ, List, length, map, take, get_or, sym, subst, inl, inr}
use Rattle.std.specs.Prelude.{Contains}
use Rattle.std.proofs.lemmas.List.{map_more, take_all}
use Rattle.std.proofs.lemmas.List.Elements.{Contains-push_cases}
use Rattle.rt_base.specs.declared.plane.Rect.{Rect}
use Rattle.rt_base.specs.Plane.{area}
use Rattle.rt_cells.specs.Rectangles.{Rectangle, Holds, Covers}

-- none so far holds the cell, and not this one
pub none_more : (rs : List Rect) (i : ℕ) (r : Rect) (x y : ℤ) → i < length rs → r ≡ get_or rs i r → (Covers (map area (take i rs)) x y → ⊥)
    → (Holds (area r) x y → ⊥) → Covers (map area (take (i + 1) rs)) x y → ⊥
none_more rs i r x y h e before here (q, c, holds) =
    elim (Contains-push_cases (map area (take i rs)) (area (get_or rs i r)) q (subst (λ (l : List Rectangle). Contains l q) (map_more area rs i r h) c)) [
      | inl there ↦ before (q, there, holds)
      | inr same ↦ here (subst (λ (p : Rect). Holds (area p) x y) (sym e) (subst (λ (p : Rectangle). Holds p x y) (sym same) holds))
    ]

-- none of all
pub none_of_all : (rs : List Rect) (i : ℕ) (x y : ℤ) → length rs ≤ i → (Covers (map area (take i rs)) x y → ⊥) → Covers (map area rs) x y → ⊥
none_of_all rs i x y h none covers = none (subst (λ (l : List Rect). Covers (map area l) x y) (sym (take_all i rs h)) covers)
