-- Pieces of cells: what is joined to a cell of one lies in it, its rows are runs, and a cell has one piece.
use Rattle.std.proofs.Common.{◌≡◌, ℤ, pos, ◌+ℤ◌, ◌-ℤ◌, ◌≤ℤ◌, refl, arith, inl, inr}
use Rattle.std.proofs.lemmas.Int.{ints}
use Rattle.rt_cells.specs.Line.{Within, IsRun}
use Rattle.rt_cells.specs.Cells.{row_of, Joined}
use Rattle.rt_cells.specs.Cells.Joined.{here, onward}
use Rattle.rt_cells.specs.Rectangles.{Rectangle, Holds}
use Rattle.rt_cells.proofs.Lines.{first_place, last_place, antisymmetric, not_before, not_after}
use Rattle.rt_cells.proofs.Rectangles.{joined_inside, same_sides}
use Rattle.rt_rules.specs.Pieces.{IsPiece}

-- a piece of some cells is one of others that are the same
pub piece_along : (cells others : ℤ → ℤ → Type 0) → ((x y : ℤ) → cells x y → others x y) → ((x y : ℤ) → others x y → cells x y) → (r : Rectangle) → IsPiece cells r → IsPiece others r
piece_along cells others there back r piece = record {
  nonempty = piece.nonempty;
  inside = λ x y h. there x y (piece.inside x y h);
  alone = λ x y u v h side c. piece.alone x y u v h side (back u v c);
}

-- what is joined to a cell of a piece lies in it
pub stays_in : (cells : ℤ → ℤ → Type 0) (r : Rectangle) → IsPiece cells r → (x y u v : ℤ) → Holds r x y → Joined cells x y u v → Holds r u v
stays_in cells r piece x y u v h (here c) = h
stays_in cells r piece x y u v h (onward p q _ _ walk side c) = piece.alone p q u v (stays_in cells r piece x y p q h walk) side c

pub above_it : (z : ℤ) → z ≡ (z -ℤ pos 1) +ℤ pos 1
above_it z = omega (arith, ints)

-- a row of a piece is a run
pub piece_row : (cells : ℤ → ℤ → Type 0) (r : Rectangle) → IsPiece cells r → (y : ℤ) → Within r.bottom r.top y → IsRun (row_of cells y) r.left r.right
piece_row cells r piece y h = record {
  nonempty = piece.nonempty.across;
  inside = λ x k. piece.inside x y (record { column = k; row = h });
  before = λ c. not_before r.left r.right (piece.alone r.left y (r.left -ℤ pos 1) y (record { column = first_place _ _ piece.nonempty.across; row = h }) (inl (inr (above_it r.left), refl)) c).column;
  after = λ c. not_after r.left r.right (piece.alone (r.right -ℤ pos 1) y r.right y (record { column = last_place _ _ piece.nonempty.across; row = h }) (inl (inl (above_it r.right), refl)) c).column;
}

-- a rectangle within another
record IsIn (r q : Rectangle) : Type 0 where
  left : q.left ≤ℤ r.left
  right : r.right ≤ℤ q.right
  bottom : q.bottom ≤ℤ r.bottom
  top : r.top ≤ℤ q.top

up_to : (low high a : ℤ) → Within low high (a -ℤ pos 1) → a ≤ℤ high
up_to low high a h = omega (arith, ints, h.to)

-- a piece with a cell of another lies in it
piece_in : (cells : ℤ → ℤ → Type 0) (r q : Rectangle) → IsPiece cells r → IsPiece cells q → (x y : ℤ) → Holds r x y → Holds q x y → IsIn r q
piece_in cells r q piece other x y h k =
    let all : (u v : ℤ) → Holds r u v → Holds q u v = λ u v g. stays_in cells q other x y u v k (joined_inside cells r piece.inside x y u v h g) in
    let low = all r.left r.bottom (record { column = first_place _ _ piece.nonempty.across; row = first_place _ _ piece.nonempty.upwards }) in
    let high = all (r.right -ℤ pos 1) (r.top -ℤ pos 1) (record { column = last_place _ _ piece.nonempty.across; row = last_place _ _ piece.nonempty.upwards }) in
    record { left = low.column.from; right = up_to _ _ r.right high.column; bottom = low.row.from; top = up_to _ _ r.top high.row }

-- a cell has one piece
pub one_piece : (cells : ℤ → ℤ → Type 0) (r q : Rectangle) → IsPiece cells r → IsPiece cells q → (x y : ℤ) → Holds r x y → Holds q x y → r ≡ q
one_piece cells r q piece other x y h k =
    let there = piece_in cells r q piece other x y h k in
    let back = piece_in cells q r other piece x y k h in
    same_sides r q (antisymmetric _ _ back.left there.left) (antisymmetric _ _ there.right back.right)
    (antisymmetric _ _ back.bottom there.bottom) (antisymmetric _ _ there.top back.top)
