-- The pieces of a slab: the runs of the columns that some bars cover there, as rectangles over its rows.
use Rattle.std.specs.Prelude.{◌≡◌, ℕ, ◌<◌, ◌-◌, ℤ, ◌≤ℤ◌, ◌<ℤ◌, ◌⊎◌, List, [], ◌∷◌, ◌++◌, length, All, Contains, slice_set}
use Rattle.std.specs.Int.{int_max, int_min}
use Rattle.rt_cells.specs.Line.{IsRun, Within}
use Rattle.rt_cells.specs.Rectangles.{Rectangle}
use Rattle.rt_sweep.specs.declared.bar.Bar.{Bar}
use Rattle.rt_strips.specs.Stacks.{area_at, AreRow}

-- a bar with the tag has the column
pub record IsColumnOf (bars : List Bar) (tag : ℕ) (x : ℤ) : Type 0 where
  pub bar : Bar
  pub listed : Contains bars bar
  pub tagged : bar.tag ≡ tag
  pub within : Within bar.at.x1 bar.at.x2 x

-- bars of both tags, 0 and 1, have the column
abbrev pub IsBothColumn : List Bar → ℤ → Type 0
IsBothColumn bars x = IsColumnOf bars 0 x × IsColumnOf bars 1 x

-- one of the pieces has the column
pub record IsInPiece (pieces : List Rectangle) (x : ℤ) : Type 0 where
  pub piece : Rectangle
  pub listed : Contains pieces piece
  pub within : Within piece.left piece.right x

-- the pieces are the runs of the line, from left to right, over the rows from bottom up to, and without, top
pub record ArePieces (line : ℤ → Type 0) (bottom top : ℤ) (pieces : List Rectangle) : Type 0 where
  pub row : AreRow bottom top pieces
  pub runs : All (λ p. IsRun line p.left p.right) pieces
  pub every : (x : ℤ) → line x → IsInPiece pieces x

-- the last of the pieces
abbrev pub last_piece : List Rectangle → Rectangle
last_piece pieces = area_at pieces (length pieces - 1)

-- the same rectangle up to another column
abbrev pub stretched : Rectangle → ℤ → Rectangle
stretched r right = record { left = r.left; right = right; bottom = r.bottom; top = r.top }

-- the columns from left on meet or adjoin the last piece
pub record MeetsLast (left : ℤ) (pieces : List Rectangle) : Type 0 where
  pub some : 0 < length pieces
  pub meets : left ≤ℤ (last_piece pieces).right

-- they lie to the right of it, where there is one
pub record IsRightOfLast (left : ℤ) (pieces : List Rectangle) : Type 0 where
  pub apart : 0 < length pieces → (last_piece pieces).right <ℤ left

-- the last piece is stretched up to a column, where it doesn't reach it
pub record IsStretched (right : ℤ) (before after : List Rectangle) : Type 0 where
  pub either : ((right ≤ℤ (last_piece before).right) × (after ≡ before))
      ⊎ (((last_piece before).right <ℤ right) × (after ≡ slice_set before (length before - 1) (stretched (last_piece before) right)))

-- the columns meet or adjoin the last piece, which is stretched to them
pub record StretchesLast (left right : ℤ) (before after : List Rectangle) : Type 0 where
  pub last : MeetsLast left before
  pub after_is : IsStretched right before after

-- they lie to the right of it, and begin a piece
pub record BeginsPiece (left right bottom top : ℤ) (before after : List Rectangle) : Type 0 where
  pub last : IsRightOfLast left before
  pub after_is : after ≡ before ++ record { left = left; right = right; bottom = bottom; top = top } ∷ []

-- the columns from left up to, and without, right are added to the pieces
abbrev pub AddsColumns : ℤ → ℤ → ℤ → ℤ → List Rectangle → List Rectangle → Type 0
AddsColumns left right bottom top before after = StretchesLast left right before after ⊎ BeginsPiece left right bottom top before after

-- pieces of two rows have the column
pub record IsInBoth (first second : List Rectangle) (x : ℤ) : Type 0 where
  pub in_first : IsInPiece first x
  pub in_second : IsInPiece second x

-- the common part of two pieces is appended, where there is one
pub record AddsCommon (a b : Rectangle) (before after : List Rectangle) : Type 0 where
  pub some : int_max a.left b.left <ℤ int_min a.right b.right
      → after ≡ before ++ record { left = int_max a.left b.left; right = int_min a.right b.right; bottom = a.bottom; top = a.top } ∷ []
  pub none : int_min a.right b.right ≤ℤ int_max a.left b.left → after ≡ before

-- the pieces are the common parts of two rows of pieces over the same rows
abbrev pub AreCommon : List Rectangle → List Rectangle → List Rectangle → Type 0
AreCommon first second both = (bottom top : ℤ) → AreRow bottom top first → AreRow bottom top second → ArePieces (IsInBoth first second) bottom top both
