-- What a breach shows is not so where the rule is kept.
use Rattle.std.proofs.Common.{◌≡◌, ℤ, pos, ◌+ℤ◌, ◌-ℤ◌, ◌≤ℤ◌, ◌<ℤ◌, subst, arith}
use Rattle.std.proofs.lemmas.Int.{ints, clamps}
use Rattle.std.specs.Int.{int_max, int_min}
use mathlib.Core.Logic.{inl, inr}
use Rattle.rt_cells.specs.Line.{between}
use Rattle.rt_cells.specs.Cells.{transposed}
use Rattle.rt_cells.specs.Rectangles.{Holds}
use Rattle.rt_cells.proofs.Lines.{first_place}
use Rattle.rt_rules.specs.Cuts.{IsSquare, KeepsSize, SizeBreach, KeepsEnclosed, EnclosureBreach, KeepsApart, ApartBreach}
use Rattle.rt_rules.proofs.Pieces.{one_piece}
use Rattle.rt_rules.specs.Width.{KeepsWidthAlongRows, KeepsWidth, WidthBreachAlongRows, WidthBreach}
use Rattle.rt_rules.specs.Space.{KeepsGapsAlongRows, KeepsSpace, IsNarrowGap, SpaceBreach}

too_short : (w a b found : ℤ) → found ≡ (b -ℤ a) → found <ℤ w → w ≤ℤ (b -ℤ a) → ⊥
too_short w a b found e h k = omega (arith, ints)

too_short_at : (w a b low high found : ℤ) → a ≡ low → b ≡ high → found ≡ (b -ℤ a) → found <ℤ w → w ≤ℤ (high -ℤ low) → ⊥
too_short_at w a b low high found p q e h k = omega (arith, ints)

width_breach_along_rows : (w : ℤ) (cells : ℤ → ℤ → Type 0) (x y u v found : ℤ) → WidthBreachAlongRows w cells x y u v found → KeepsWidthAlongRows w cells → ⊥
width_breach_along_rows w cells x y u v found (inl b) k = too_short w x (u +ℤ pos 1) found b.cells_found b.short (k.runs y x (u +ℤ pos 1) b.run)
width_breach_along_rows w cells x y u v found (inr b) k =
    too_short_at w x (u +ℤ pos 1) (int_max b.low b.low') (int_min b.high b.high') found b.first_end b.last_end b.columns_found b.short (k.shared b.row b.low b.high b.low' b.high' b.run b.next_run b.touch)

-- a breach of the width rule shows that the rule is not kept
pub width_breach_breaks : (w : ℤ) (cells : ℤ → ℤ → Type 0) (x y u v found : ℤ) → WidthBreach w cells x y u v found → KeepsWidth w cells → ⊥
width_breach_breaks w cells x y u v found (inl b) k = width_breach_along_rows w cells x y u v found b k.rows
width_breach_breaks w cells x y u v found (inr b) k = width_breach_along_rows w (transposed cells) y x v u found b k.columns

narrow_gap_breaks : (s : ℤ) (cells : ℤ → ℤ → Type 0) (x y u v found : ℤ) → IsNarrowGap s cells x y u v found → KeepsGapsAlongRows s cells → ⊥
narrow_gap_breaks s cells x y u v found b k = too_short s (x +ℤ pos 1) u found b.cells_found b.short (k y (x +ℤ pos 1) u b.gap)

too_near_across : (s a b found : ℤ) → found ≡ int_max a b → found <ℤ s → s ≤ℤ a → ⊥
too_near_across s a b found e h k = omega (arith, ints, clamps)

too_near_upwards : (s a b found : ℤ) → found ≡ int_max a b → found <ℤ s → s ≤ℤ b → ⊥
too_near_upwards s a b found e h k = omega (arith, ints, clamps)

-- a breach of the space rule shows that the rule is not kept
pub space_breach_breaks : (s : ℤ) (cells : ℤ → ℤ → Type 0) (x y u v found : ℤ) → SpaceBreach s cells x y u v found → KeepsSpace s cells → ⊥
space_breach_breaks s cells x y u v found (inl (inl b)) k = narrow_gap_breaks s cells x y u v found b k.rows
space_breach_breaks s cells x y u v found (inl (inr b)) k = narrow_gap_breaks s (transposed cells) y x v u found b k.columns
space_breach_breaks s cells x y u v found (inr (inl b)) k =
    elim (k.pieces x y u v b.first b.second) [
      | inl joined ↦ b.different joined
      | inr (inl across) ↦ too_near_across s (between x u) (between y v) found b.gap_found b.short across
      | inr (inr upwards) ↦ too_near_upwards s (between x u) (between y v) found b.gap_found b.short upwards
    ]
space_breach_breaks s cells x y u v found (inr (inr b)) k = k.corners x y u v b.contact

other_extent : (a b found size : ℤ) → found ≡ (b -ℤ a) → (a +ℤ size) ≡ b → found ≡ size
other_extent a b found size e h = omega (arith, ints)

-- a breach of the size rule shows that the rule is not kept
pub size_breach_breaks : (size : ℤ) (cells : ℤ → ℤ → Type 0) (x y u v found : ℤ) → SizeBreach size cells x y u v found → KeepsSize size cells → ⊥
size_breach_breaks size cells x y u v found b k =
    let corner : Holds b.r b.r.left b.r.bottom = record { column = first_place _ _ b.piece.nonempty.across; row = first_place _ _ b.piece.nonempty.upwards } in
    let (square, sized, at) = k b.r.left b.r.bottom (b.piece.inside b.r.left b.r.bottom corner) in
    let same = one_piece cells square b.r at.piece b.piece b.r.left b.r.bottom at.holds corner in
    let is : IsSquare size b.r = subst (IsSquare size) same sized in
    elim b.extent_found [
      | inl across ↦ b.another (other_extent b.r.left b.r.right found size across is.across)
      | inr upwards ↦ b.another (other_extent b.r.bottom b.r.top found size upwards is.upwards)
    ]

-- a breach of the rule of enclosure, and of the rule of distance, shows that the rule is not kept
pub enclosure_breach_breaks : (number : ℤ) (cells mask : ℤ → ℤ → Type 0) (x y u v found : ℤ) → EnclosureBreach number cells mask x y u v found → KeepsEnclosed number cells mask → ⊥
enclosure_breach_breaks number cells mask x y u v found b k = b.missing (k x y u v b.first b.within)

pub apart_breach_breaks : (number : ℤ) (cells others : ℤ → ℤ → Type 0) (x y u v found : ℤ) → ApartBreach number cells others x y u v found → KeepsApart number cells others → ⊥
apart_breach_breaks number cells others x y u v found b k =
    elim (k x y u v b.first b.second) [
      | inl across ↦ too_near_across number (between x u) (between y v) found b.gap_found b.short across
      | inr upwards ↦ too_near_upwards number (between x u) (between y v) found b.gap_found b.short upwards
    ]
