-- The strips of a drawing, one for each strip, and what a mask of it covers.
use Rattle.std.proofs.Common.{◌≡◌, ℕ, suc, zero, ◌+◌, ◌<◌, ℤ, List, [], ◌∷◌, length, get_or, refl, sym, ap, subst, ◌∙◌, arith}
use Rattle.rt_cells.specs.Rectangles.{Rectangle, Holds, scaled}
use Rattle.rt_family.specs.Strips as family
use Rattle.rt_rows.specs.declared.row.Var.{Var}
use Rattle.rt_rows.specs.declared.row.Var.TheVariants.{L, R, B, T}
use Rattle.rt_rules.proofs.Alike.{AreAlike}
use Rattle.rt_strips.specs.Placed.{Placed, no_strip, strip_at, mask_of, covered_by}
use Rattle.rt_strips.proofs.Family.{IsOfMask, covered_from, covered_at}
use Rattle.rt_template.specs.Drawing.{drawn_area, drawn_from, drawn}

-- the rectangle of strip i at the positions, in steps
abbrev pub in_steps : (Var → ℤ) → ℕ → Rectangle
in_steps at i = record { left = at (L i); right = at (R i); bottom = at (B i); top = at (T i) }

-- a drawing has a rectangle for each strip
pub length_drawn_from : (grid : ℤ) (at : Var → ℤ) (n : ℕ) (strips : List Placed) → length (drawn_from grid at n strips) ≡ length strips
length_drawn_from grid at n [] = refl
length_drawn_from grid at n (strip ∷ strips) = ap suc (length_drawn_from grid at (suc n) strips)

-- the rectangle number i of a drawing
pub drawn_from_at : (grid : ℤ) (at : Var → ℤ) (n : ℕ) (strips : List Placed) (i : ℕ) (d : Placed) → i < length strips
    → get_or (drawn_from grid at n strips) i d ≡ record { mask = mask_of strips i; area = drawn_area grid at (n + i) }
drawn_from_at grid at n [] i d h = absurd (omega arith)
drawn_from_at grid at n (strip ∷ strips) zero d h = ap (λ k. record { mask = strip.mask; area = drawn_area grid at k }) (omega arith)
drawn_from_at grid at n (strip ∷ strips) (suc i) d h =
    drawn_from_at grid at (suc n) strips i d (omega arith)
    ∙ ap (λ k. record { mask = mask_of strips i; area = drawn_area grid at k }) (omega arith)

module _ (grid : ℤ) (at : Var → ℤ) (strips : List Placed) where
  -- strip i as it is drawn
  pub drawn_at : (i : ℕ) → i < length strips → strip_at (drawn grid at strips) i ≡ record { mask = mask_of strips i; area = drawn_area grid at i }
  drawn_at i h =
      drawn_from_at grid at 0 strips i no_strip h
      ∙ ap (λ k. record { mask = mask_of strips i; area = drawn_area grid at k }) (omega arith)

  -- it is of its strip's mask
  drawn_of_mask : (m i : ℕ) → IsOfMask strips m i → IsOfMask (drawn grid at strips) m i
  drawn_of_mask m i h = record {
    below = subst (λ n. i < n) (sym (length_drawn_from grid at 0 strips)) h.below;
    of_mask = ap (λ (p : Placed). p.mask) (drawn_at i h.below) ∙ h.of_mask;
  }

  strip_of_mask : (m i : ℕ) → IsOfMask (drawn grid at strips) m i → IsOfMask strips m i
  strip_of_mask m i h =
      let below : i < length strips = subst (λ n. i < n) (length_drawn_from grid at 0 strips) h.below in
      record { below = below; of_mask = sym (ap (λ (p : Placed). p.mask) (drawn_at i below)) ∙ h.of_mask }

  -- a mask of the drawing covers what its strips hold at the positions, on the grid
  pub drawn_alike : (m : ℕ) → AreAlike (family.CoveredBy (IsOfMask strips m) (λ i. scaled grid (in_steps at i))) (covered_by m (drawn grid at strips))
  drawn_alike m = record {
    to = λ x y c.
        let member = c.holds.strip in
        covered_at (drawn grid at strips) m c.number x y (drawn_of_mask m c.number member)
        (subst (λ (p : Placed). Holds p.area x y) (sym (drawn_at c.number member.below)) c.holds.cell);
    from = λ x y c.
        let d = covered_from (drawn grid at strips) m x y c in
        let member = strip_of_mask m d.0 d.1 in
        record { number = d.0; holds = record { strip = member; cell = subst (λ (p : Placed). Holds p.area x y) (drawn_at d.0 member.below) d.2 } };
  }
