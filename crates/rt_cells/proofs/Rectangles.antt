-- Cells of a rectangle are joined, and what shares a cell or a side is shared with.
use Rattle.std.proofs.Common.{◌≡◌, ℤ, refl}
use mathlib.Core.Logic.{inl, inr}
use Rattle.rt_cells.specs.Cells.{Adjacent, Joined}
use Rattle.rt_cells.specs.Cells.Joined.{here, onward}
use Rattle.rt_cells.specs.Rectangles.{Rectangle, Holds}
use Rattle.rt_cells.proofs.Lines.{passed_along}

-- two cells of a rectangle are joined wherever its cells are covered
pub joined_inside : (cells : ℤ → ℤ → Type 0) (r : Rectangle) → ((x y : ℤ) → Holds r x y → cells x y)
    → (x y u v : ℤ) → Holds r x y → Holds r u v → Joined cells x y u v
joined_inside cells r covered x y u v h k =
    let across : Joined cells x y u y =
    passed_along (λ z. Joined cells x y z y) r.left r.right
    (λ z t hz ht near j. onward z y t y j (inl (near, refl)) (covered t y (record { column = ht; row = h.row })))
    x u h.column k.column (here (covered x y h)) in
    passed_along (λ z. Joined cells x y u z) r.bottom r.top
    (λ z t hz ht near j. onward u z u t j (inr (refl, near)) (covered u t (record { column = k.column; row = ht })))
    y v h.row k.row across

-- rectangles with the same sides are one
pub same_sides : (r q : Rectangle) → r.left ≡ q.left → r.right ≡ q.right → r.bottom ≡ q.bottom → r.top ≡ q.top → r ≡ q
same_sides r q a b c d = λ i. record { left = a i; right = b i; bottom = c i; top = d i }

adjacent_back : (p q : ℤ) → Adjacent p q → Adjacent q p
adjacent_back p q (inl e) = inr e
adjacent_back p q (inr e) = inl e
