-- Strips of a cut are its pieces; which of them are squares of the size.
use Rattle.std.proofs.Common.{◌≡◌, ℕ, ◌<◌, ℤ, pos, ◌+ℤ◌, ◌-ℤ◌, ◌<ℤ◌, List, length, get_or, map, sym, subst, ◌∙◌, arith, refl}
use Rattle.std.proofs.lemmas.Int.{ints, clamps}
use Rattle.std.specs.Int.{int_max, int_min}
use Rattle.rt_rules.specs.Cuts.{KeepsSize, SizeBreach}
use Rattle.rt_rules.specs.Pieces.{HasRectangles}
use Rattle.rt_strips.specs.declared.listing.Strip.{Strip}
use Rattle.rt_strips.specs.Placed.{Placed, placed, strip_at, covered_by}
use Rattle.rt_strips.specs.StripsOf.{AreStrips}
use Rattle.rt_strips.proofs.Placed.{strip_is, strip_there, strip_below}
use Rattle.rt_family.specs.Strips.{CoveredBy, StandsOn}
use Rattle.rt_cuts.proofs.Pieces.{none_stands, strip_is_piece}
use Rattle.rt_drc.specs.declared.rows.Witness.{Witness}
use Rattle.rt_pieces.specs.Members.{IsOf, box_of, held_by}
use Rattle.rt_drc.specs.Squares.{AreOwnPieces, IsSquareOn, IsOddOn, ShowsSize}
use Rattle.rt_drc.proofs.Cornered.{shown}
use Rattle.rt_pieces.proofs.Families.{strips_family}

common_columns : (low high low' high' : ℤ) → low <ℤ high → low' <ℤ high' → low <ℤ high' → low' <ℤ high → int_max low low' <ℤ int_min high high'
common_columns low high low' high' a b c d = omega (arith, ints, clamps)

-- no strip of a cut whose pieces are rectangles stands on another
pub none_stands_here : (m : ℕ) (strips : List Placed) → AreStrips strips → HasRectangles (CoveredBy (IsOf m strips) (box_of strips))
    → (i j : ℕ) → StandsOn (IsOf m strips) (box_of strips) i j → ⊥
none_stands_here m strips are shaped =
    let family = strips_family (λ k. covered_by k strips) are.masks strips are.strips_are m in
    none_stands (IsOf m strips) (box_of strips) family shaped
    (λ i j stands left right.
    let a = family.nonempty i stands.lower in
    let b = family.nonempty j stands.upper in
    are.strips_are.unstacked i j
    (record {
      strips_of_one_mask = record { first = stands.lower.strip; second = stands.upper.strip; one_mask = stands.lower.mask ∙ sym stands.upper.mask };
      adjoin = stands.adjoin;
      over = record { common = common_columns _ _ _ _ a.across b.across stands.over.first stands.over.second };
    })
    left right)

-- so each strip of it is a piece
pub own_pieces : (m : ℕ) (strips : List Strip) → AreStrips (map placed strips) → HasRectangles (held_by m strips) → AreOwnPieces m strips
own_pieces m strips are shaped = record {
  piece = strip_is_piece (IsOf m (map placed strips)) (box_of (map placed strips))
      (strips_family (λ k. covered_by k (map placed strips)) are.masks (map placed strips) are.strips_are m)
      (none_stands_here m (map placed strips) are shaped);
}

after_last : (z : ℤ) → ((z -ℤ pos 1) +ℤ pos 1) ≡ z
after_last z = omega (arith, ints)

-- a strip of the code that isn't a square of the size
pub odd_shows : (m : ℕ) (size : ℤ) (strips : List Strip) (i : ℕ) (strip : Strip) (witness : Witness) → AreOwnPieces m strips → i < length strips
    → strip ≡ get_or strips i strip → IsOddOn m size (placed strip) witness → ShowsSize size (held_by m strips) witness
odd_shows m size strips i strip witness own h is odd_here =
    let odd : IsOddOn m size (strip_at (map placed strips) i) witness = subst (λ (p : Placed). IsOddOn m size p witness) (sym (strip_is strips i strip h is)) odd_here in
    let r = box_of (map placed strips) i in
    shown (SizeBreach size (held_by m strips)) _ _ _ _ _ witness odd.shown (record {
      r = r;
      piece = own.piece i (record { strip = strip_there strips i h; mask = odd.on_mask });
      left = refl;
      bottom = refl;
      right = after_last r.right;
      top = after_last r.top;
      extent_found = odd.extent;
      another = odd.another;
    })

-- a strip of the code that is one, by its number
pub square_is : (m : ℕ) (size : ℤ) (strips : List Strip) (i : ℕ) (strip : Strip) → i < length strips → strip ≡ get_or strips i strip → IsSquareOn m size (placed strip)
    → IsSquareOn m size (strip_at (map placed strips) i)
square_is m size strips i strip h is square = subst (λ (p : Placed). IsSquareOn m size p) (sym (strip_is strips i strip h is)) square

-- a cut whose strips are all squares of the size keeps it
pub squares_keep : (m : ℕ) (size : ℤ) (strips : List Strip) → AreOwnPieces m strips → ((i : ℕ) → i < length strips → IsSquareOn m size (strip_at (map placed strips) i))
    → KeepsSize size (held_by m strips)
squares_keep m size strips own all x y c =
    let i = c.number in
    let of = c.holds.strip in (
      box_of (map placed strips) i,
      (all i (strip_below strips i of.strip)).square of.mask,
      record { piece = own.piece i of; holds = c.holds.cell },
    )
