-- In a cut whose pieces are rectangles no strip stands on another, so its drawn pieces are its drawn strips.
use Rattle.std.proofs.Common.{ℕ, ℤ, pos, ◌-ℤ◌, refl, sym, ◌∙◌, subst, inl, inr}
use Rattle.std.specs.Int.{int_max}
use Rattle.rt_cells.specs.Rectangles.{Rectangle, Holds}
use Rattle.rt_cells.proofs.Lines.{first_place, last_place, one_before}
use Rattle.rt_rules.specs.Cuts.{IsSquare, KeepsSize}
use Rattle.rt_rules.specs.Pieces.{IsPiece, IsPieceAt, HasRectangles}
use Rattle.rt_rules.proofs.Pieces.{piece_row}
use Rattle.rt_family.specs.Strips.{HoldsCell, CoveredBy, IsFamily, StandsOn}
use Rattle.rt_family.specs.Carried.{IsCarried}
use Rattle.rt_family.proofs.Strips.{held_covered, common_place, holder_of_run, neighbours_touch}
use Rattle.rt_family.proofs.Drawn.{drawn_family, source_stands}
use Rattle.rt_cuts.specs.Cuts.{AreUnstacked}

-- strips of which one stands on the other aren't in a piece that is a rectangle: both would have its columns
pub stands_bent : (member : ℕ → Type 0) (source : ℕ → Rectangle) → IsFamily member source → AreUnstacked member source → (i j : ℕ) → StandsOn member source i j
    → (r : Rectangle) → IsPieceAt (CoveredBy member source) (int_max (source i).left (source j).left) (source j).bottom r → ⊥
stands_bent member source family unstacked i j stands r at =
    let cells = CoveredBy member source in
    let low = family.nonempty i stands.lower in
    let high = family.nonempty j stands.upper in
    let z = int_max (source i).left (source j).left in
    let column = common_place (source i) (source j) low high stands.over in
    let p : HoldsCell member source i z ((source i).top -ℤ pos 1) = record { strip = stands.lower; cell = record { column = column.0; row = last_place _ _ low.upwards } } in
    let q : HoldsCell member source j z (source j).bottom = record { strip = stands.upper; cell = record { column = column.1; row = first_place _ _ high.upwards } } in
    let below : Holds r z ((source i).top -ℤ pos 1) =
    at.piece.alone z (source j).bottom z ((source i).top -ℤ pos 1) at.holds (inr (refl, inr (sym stands.adjoin ∙ one_before (source i).top))) (held_covered member source family i _ _ p) in
    let upper = holder_of_run member source family j z (source j).bottom r.left r.right (piece_row cells r at.piece (source j).bottom at.holds.row) at.holds.column q in
    let lower = holder_of_run member source family i z ((source i).top -ℤ pos 1) r.left r.right (piece_row cells r at.piece ((source i).top -ℤ pos 1) below.row) below.column p in
    unstacked i j stands (lower.0 ∙ sym upper.0) (lower.1 ∙ sym upper.1)

-- the cell of the upper one of two such strips, in the first column that they have in common
pub standing_cell : (member : ℕ → Type 0) (source : ℕ → Rectangle) → IsFamily member source → (i j : ℕ) → StandsOn member source i j
    → HoldsCell member source j (int_max (source i).left (source j).left) (source j).bottom
standing_cell member source family i j stands =
    let high = family.nonempty j stands.upper in
    record {
      strip = stands.upper;
      cell = record { column = (common_place (source i) (source j) (family.nonempty i stands.lower) high stands.over).1; row = first_place _ _ high.upwards };
    }

-- no strip of a cut stands on another
pub none_stands : (member : ℕ → Type 0) (source : ℕ → Rectangle) → IsFamily member source → HasRectangles (CoveredBy member source) → AreUnstacked member source
    → (i j : ℕ) → StandsOn member source i j → ⊥
none_stands member source family shaped unstacked i j stands =
    let (r, at) = shaped _ _ (held_covered member source family j _ _ (standing_cell member source family i j stands)) in
    stands_bent member source family unstacked i j stands r at

-- a strip of a family in which none stands on another is a piece
pub strip_is_piece : (member : ℕ → Type 0) (box : ℕ → Rectangle) → IsFamily member box → ((i j : ℕ) → StandsOn member box i j → ⊥)
    → (i : ℕ) → member i → IsPiece (CoveredBy member box) (box i)
strip_is_piece member box family none i m = record {
  nonempty = family.nonempty i m;
  inside = λ x y h. record { number = i; holds = record { strip = m; cell = h } };
  alone = λ x y u v h next c.
      elim (neighbours_touch member box family i c.number x y u v (record { strip = m; cell = h }) c.holds next) [
        | inl e ↦ (subst (λ k. HoldsCell member box k u v) (sym e) c.holds).cell
        | inr (inl stands) ↦ absurd (none i c.number stands)
        | inr (inr stands) ↦ absurd (none c.number i stands)
      ];
}

-- where none stands in the source none does in the drawing
pub none_stands_drawn : (member : ℕ → Type 0) (source drawn : ℕ → Rectangle) (w : ℤ) (s : ℕ → ℕ → ℤ) → IsCarried member source drawn w s
    → ((i j : ℕ) → StandsOn member source i j → ⊥) → (i j : ℕ) → StandsOn member drawn i j → ⊥
none_stands_drawn member source drawn w s carried none i j stands = none i j (source_stands member source drawn w s carried i j stands)

-- drawn strips of the size keep the rule of size
pub size_kept : (member : ℕ → Type 0) (source drawn : ℕ → Rectangle) (w : ℤ) (s : ℕ → ℕ → ℤ) → IsCarried member source drawn w s
    → ((i j : ℕ) → StandsOn member source i j → ⊥)
    → (size : ℤ) → ((i : ℕ) → member i → IsSquare size (drawn i)) → KeepsSize size (CoveredBy member drawn)
size_kept member source drawn w s carried none size sized x y c = (
  drawn c.number,
  sized c.number c.holds.strip,
  record {
    piece = strip_is_piece member drawn (drawn_family member source drawn w s carried) (none_stands_drawn member source drawn w s carried none) c.number c.holds.strip;
    holds = c.holds.cell;
  },
)
