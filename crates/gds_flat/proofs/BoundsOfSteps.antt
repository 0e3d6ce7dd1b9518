-- How far steps reach, and how far moved pieces lie.
use Rattle.std.proofs.Common.{◌≡◌, ℕ, zero, suc, ◌*◌, ◌%◌, ◌^◌, ◌<◌, ◌≤◌, Bool, true, false, ℤ, pos, negsuc, neg_ℤ, ◌+ℤ◌, ◌*ℤ◌, ◌≤ℤ◌, unsigned_abs, List, length, get_or, All, to_z, of_z, w64, sym, ap, subst, ◌∙◌, arith}
use Rattle.std.specs.Int.RustNames.{int_div}
use Rattle.std.specs.Int.Signed.{quot_z}
use Rattle.std.proofs.Math.IntN.{*ℤ_comm}
use Rattle.std.proofs.Math.Nat.{mul-mod_right, le-mul_of_pos_right}
use Rattle.std.proofs.lemmas.Int.{ints, quot-rem, unsigned_abs-mul}
use Rattle.std.proofs.lemmas.List.Elements.{All-contains}
use Rattle.rt_base.specs.Plane.{area, AreCoordinates, reflected, turned_by}
use Rattle.rt_base.specs.declared.plane.Rect.{Rect}
use Rattle.rt_cells.specs.Rectangles.{Rectangle}
use Rattle.gds_slabs.specs.declared.step.Step.{Step}
use Rattle.gds_slabs.specs.Steps.{moved_point, moved_rect, IsWithin, ShiftsWithin}
use Rattle.gds_slabs.proofs.Placing.{moved_within}
use Rattle.gds_flat.specs.declared.item.Drawn.{Drawn}
use Rattle.gds_flat.specs.declared.item.Drawn.TheVariants.{Area, Note}
use Rattle.gds_flat.specs.declared.item.Item.{Item}
use Rattle.gds_flat.specs.Items.{Drawing, area_of, note_at, Piece, drawing_moved, piece_moved}
use Rattle.gds_flat.specs.Drawn.{drawing_of, piece_of, pieces_in}
use Rattle.gds_flat.specs.Building.{SpotWithin, DrawingWithin, PieceWithin, most_shift, most_reach}
use Rattle.gds_flat.proofs.Coming.{entry_is}
use Rattle.rt_cells.proofs.Lists.{mapped}
use Rattle.rt_cells.proofs.Times.{times_le}
use Rattle.rt_cells.proofs.Entries.{contains_at}
use Rattle.gds_flat.proofs.Leading.{rem_none}

-- ---- parts and products

-- what is so many equal parts is so many times the quotient
pub quotient_is : (c d p : ℤ) → c *ℤ p ≡ d → c *ℤ int_div d c ≡ d
quotient_is c d p e =
    let even : unsigned_abs d % unsigned_abs c ≡ 0 =
    ap (λ x. unsigned_abs x % unsigned_abs c) (sym e) ∙ ap (λ m. m % unsigned_abs c) (unsigned_abs-mul c p) ∙ mul-mod_right (unsigned_abs c) (unsigned_abs p) in
    let r = rem_none d c even in
    let q = quot-rem d c in
    let m = *ℤ_comm c (int_div d c) in
    omega (arith, ints, q, r, m)

-- so many steps of at most 2^32 either way
pub product_near : (n : ℕ) (s : ℤ) → n < 2 ^ 16 → neg_ℤ (pos (2 ^ 32)) ≤ℤ s → s ≤ℤ pos (2 ^ 32)
    → (neg_ℤ (pos (2 ^ 48)) ≤ℤ (pos n *ℤ s)) × ((pos n *ℤ s) ≤ℤ pos (2 ^ 48))
product_near n s few low high =
    let some : pos 0 ≤ℤ pos n = omega (arith, ints) in
    let up = times_le (pos n) s (pos (2 ^ 32)) some high in
    let down = times_le (pos n) (neg_ℤ (pos (2 ^ 32))) s some low in
    (omega (arith, ints), omega (arith, ints))

small_abs : (z : ℤ) (n : ℕ) → neg_ℤ (pos n) ≤ℤ z → z ≤ℤ pos n → unsigned_abs z ≤ n
small_abs (pos a) n low high = omega (arith, ints)
small_abs (negsuc a) n low high = omega (arith, ints)

abs_low : (z : ℤ) (n : ℕ) → unsigned_abs z ≤ n → neg_ℤ (pos n) ≤ℤ z
abs_low (pos a) n h = omega (arith, ints)
abs_low (negsuc a) n h = omega (arith, ints)

abs_high : (z : ℤ) (n : ℕ) → unsigned_abs z ≤ n → z ≤ℤ pos n
abs_high (pos a) n h = omega (arith, ints)
abs_high (negsuc a) n h = omega (arith, ints)

some_abs : (c : ℤ) → pos 1 ≤ℤ c → 0 < unsigned_abs c
some_abs (pos a) h = omega (arith, ints)
some_abs (negsuc a) h = omega (arith, ints)

-- a part is no farther than the whole
part_abs : (c q d : ℤ) (n : ℕ) → pos 1 ≤ℤ c → c *ℤ q ≡ d → neg_ℤ (pos n) ≤ℤ d → d ≤ℤ pos n → unsigned_abs q ≤ n
part_abs c q d n some e low high =
    let whole : unsigned_abs c * unsigned_abs q ≡ unsigned_abs d = sym (unsigned_abs-mul c q) ∙ ap unsigned_abs e in
    let bound = small_abs d n low high in
    let more = le-mul_of_pos_right {m = unsigned_abs c} (unsigned_abs q) (some_abs c some) in
    grind (arith, whole, bound, more)

pub part_low : (c q d : ℤ) (n : ℕ) → pos 1 ≤ℤ c → c *ℤ q ≡ d → neg_ℤ (pos n) ≤ℤ d → d ≤ℤ pos n → neg_ℤ (pos n) ≤ℤ q
part_low c q d n some e low high = abs_low q n (part_abs c q d n some e low high)

pub part_high : (c q d : ℤ) (n : ℕ) → pos 1 ≤ℤ c → c *ℤ q ≡ d → neg_ℤ (pos n) ≤ℤ d → d ≤ℤ pos n → q ≤ℤ pos n
part_high c q d n some e low high = abs_high q n (part_abs c q d n some e low high)

-- a part, as it is computed
pub part_is : (c d w n : ℤ) → pos 1 ≤ℤ c → (p : ℤ) × (c *ℤ p ≡ d) → neg_ℤ (pos (2 ^ 32)) ≤ℤ d → d ≤ℤ pos (2 ^ 32) → w ≡ d → n ≡ c
    → to_z w64 (of_z w64 (quot_z w n)) ≡ quot_z d c
part_is c d w n some whole low high we ne =
    let q = quotient_is c d whole.0 whole.1 in
    let l = part_low c (quot_z d c) d (2 ^ 32) some q low high in
    let h = part_high c (quot_z d c) d (2 ^ 32) some q low high in
    let back : to_z w64 (of_z w64 (quot_z d c)) ≡ quot_z d c = omega (arith, ints, l, h) in
    ap (λ x. to_z w64 (of_z w64 (quot_z x n))) we ∙ ap (λ x. to_z w64 (of_z w64 (quot_z d x))) ne ∙ back

-- a coordinate after steps, as it is computed, is near
pub record IsAlong (at found : ℤ) : Type 0 where
  pub value : found ≡ at
  pub low : neg_ℤ most_shift ≤ℤ found
  pub high : found ≤ℤ most_shift

along_is : (g f a b x y : ℤ) → g ≡ f → neg_ℤ (pos (2 ^ 31)) ≤ℤ f → f ≤ℤ pos (2 ^ 31) → neg_ℤ (pos (2 ^ 48)) ≤ℤ a → a ≤ℤ pos (2 ^ 48)
    → neg_ℤ (pos (2 ^ 48)) ≤ℤ b → b ≤ℤ pos (2 ^ 48) → a ≡ x → b ≡ y
    → to_z w64 (of_z w64 (to_z w64 (of_z w64 (to_z w64 (of_z w64 g) +ℤ to_z w64 (of_z w64 a))) +ℤ to_z w64 (of_z w64 b))) ≡ (f +ℤ x) +ℤ y
along_is g f a b x y e fl fh al ah bl bh ax by = omega (arith, ints)

along_low : (f a b x y : ℤ) → neg_ℤ (pos (2 ^ 31)) ≤ℤ f → neg_ℤ (pos (2 ^ 48)) ≤ℤ a → neg_ℤ (pos (2 ^ 48)) ≤ℤ b → a ≡ x → b ≡ y
    → neg_ℤ most_shift ≤ℤ ((f +ℤ x) +ℤ y)
along_low f a b x y fl al bl ax by = omega (arith, ints)

along_high : (f a b x y : ℤ) → f ≤ℤ pos (2 ^ 31) → a ≤ℤ pos (2 ^ 48) → b ≤ℤ pos (2 ^ 48) → a ≡ x → b ≡ y → ((f +ℤ x) +ℤ y) ≤ℤ most_shift
along_high f a b x y fh ah bh ax by = omega (arith, ints)

pub along_there : (g f a b x y : ℤ) → g ≡ f → neg_ℤ (pos (2 ^ 31)) ≤ℤ f → f ≤ℤ pos (2 ^ 31) → neg_ℤ (pos (2 ^ 48)) ≤ℤ a → a ≤ℤ pos (2 ^ 48)
    → neg_ℤ (pos (2 ^ 48)) ≤ℤ b → b ≤ℤ pos (2 ^ 48) → a ≡ x → b ≡ y
    → IsAlong ((f +ℤ x) +ℤ y) (to_z w64 (of_z w64 (to_z w64 (of_z w64 (to_z w64 (of_z w64 g) +ℤ to_z w64 (of_z w64 a))) +ℤ to_z w64 (of_z w64 b))))
along_there g f a b x y e fl fh al ah bl bh ax by =
    let is = along_is g f a b x y e fl fh al ah bl bh ax by in
    let Low : ℤ → Type 0 = λ z. neg_ℤ most_shift ≤ℤ z in
    let High : ℤ → Type 0 = λ z. z ≤ℤ most_shift in
    record { value = is; low = subst Low (sym is) (along_low f a b x y fl al bl ax by); high = subst High (sym is) (along_high f a b x y fh ah bh ax by) }

-- ---- what is moved

-- within a reach is within a wider one
pub rect_wider : (a b : ℤ) (r : Rectangle) → a ≤ℤ b → IsWithin a r → IsWithin b r
rect_wider a b r wide h = record {
  left = omega (arith, ints, h.left);
  right = omega (arith, ints, h.right);
  bottom = omega (arith, ints, h.bottom);
  top = omega (arith, ints, h.top);
}

pub spot_wider : (a b : ℤ) (p : ℤ × ℤ) → a ≤ℤ b → SpotWithin a p → SpotWithin b p
spot_wider a b p wide h = record {
  left = omega (arith, ints, h.left);
  right = omega (arith, ints, h.right);
  down = omega (arith, ints, h.down);
  up = omega (arith, ints, h.up);
}

drawing_wider : (a b : ℤ) (d : Drawing) → a ≤ℤ b → DrawingWithin a d → DrawingWithin b d
drawing_wider a b (area_of r) wide h = rect_wider a b r wide h
drawing_wider a b (note_at p text) wide h = spot_wider a b p wide h

pub piece_wider : (a b : ℤ) (p : Piece) → a ≤ℤ b → PieceWithin a p → PieceWithin b p
piece_wider a b p wide h = record { within = drawing_wider a b p.drawing wide h.within }

spot_reflected : (reach : ℤ) (b : Bool) (p : ℤ × ℤ) → SpotWithin reach p → SpotWithin reach (reflected b p)
spot_reflected reach true p h = record { left = h.left; right = h.right; down = omega (arith, ints, h.up); up = omega (arith, ints, h.down) }
spot_reflected reach false p h = h

spot_turned : (reach : ℤ) (n : ℕ) (p : ℤ × ℤ) → SpotWithin reach p → SpotWithin reach (turned_by n p)
spot_turned reach zero p h = h
spot_turned reach (suc n) p h =
    let k = spot_turned reach n p h in
    record { left = omega (arith, ints, k.up); right = omega (arith, ints, k.down); down = k.left; up = k.right }

-- a step moves a point no further from the axes than by its shift
pub spot_moved : (step : Step) (p : ℤ × ℤ) (reach shift : ℤ) → SpotWithin reach p → ShiftsWithin shift step → SpotWithin (reach +ℤ shift) (moved_point step p)
spot_moved step p reach shift h s =
    let k = spot_turned reach step.orient.quarters (reflected step.orient.reflect p) (spot_reflected reach step.orient.reflect p h) in
    record {
      left = omega (arith, ints, k.left, s.left);
      right = omega (arith, ints, k.right, s.right);
      down = omega (arith, ints, k.down, s.down);
      up = omega (arith, ints, k.up, s.up);
    }

drawing_moved_within : (step : Step) (d : Drawing) (reach shift : ℤ) → DrawingWithin reach d → ShiftsWithin shift step → DrawingWithin (reach +ℤ shift) (drawing_moved step d)
drawing_moved_within step (area_of r) reach shift h s = moved_within step r reach shift h s
drawing_moved_within step (note_at p text) reach shift h s = spot_moved step p reach shift h s

pub piece_moved_within : (step : Step) (p : Piece) (reach shift : ℤ) → PieceWithin reach p → ShiftsWithin shift step → PieceWithin (reach +ℤ shift) (piece_moved step p)
piece_moved_within step p reach shift h s = record { within = drawing_moved_within step p.drawing reach shift h.within s }

-- a rectangle that is moved fits
pub area_fits : (step : Step) (d : Drawn) (rect : Rect) → d ≡ Area rect → ShiftsWithin most_shift step → DrawingWithin most_reach (drawing_of d)
    → IsWithin (pos (2 ^ 61)) (moved_rect step (area rect))
area_fits step d rect is small near =
    let P : Drawn → Type 0 = λ x. DrawingWithin most_reach (drawing_of x) in
    rect_wider (most_reach +ℤ most_shift) (pos (2 ^ 61)) (moved_rect step (area rect)) (omega (arith, ints)) (moved_within step (area rect) most_reach most_shift (subst P is near) small)

-- a point that is moved fits
pub note_fits : (step : Step) (d : Drawn) (at : ℤ × ℤ) (text : List ℕ) → d ≡ Note at text → ShiftsWithin most_shift step → DrawingWithin most_reach (drawing_of d)
    → AreCoordinates (moved_point step at)
note_fits step d at text is small near =
    let P : Drawn → Type 0 = λ x. DrawingWithin most_reach (drawing_of x) in
    let h : SpotWithin (most_reach +ℤ most_shift) (moved_point step at) = spot_moved step at most_reach most_shift (subst P is near) small in
    record {
      across = record { low = omega (arith, ints, h.left); high = omega (arith, ints, h.right) };
      upwards = record { low = omega (arith, ints, h.down); high = omega (arith, ints, h.up) };
    }

-- one of the items is near
pub item_near : (inner : List Item) (i : ℕ) (item : Item) → i < length inner → item ≡ get_or inner i item → All (PieceWithin most_reach) (pieces_in inner)
    → PieceWithin most_reach (piece_of item)
item_near inner i item below is near =
    All-contains (PieceWithin most_reach) (pieces_in inner) (piece_of item) near (mapped piece_of inner item (contains_at inner i item (entry_is inner i item below is)))
