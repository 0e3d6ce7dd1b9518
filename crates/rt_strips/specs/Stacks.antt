-- Strips row by row: those found so far, and which of them can be continued by the next row's pieces.
use Rattle.std.specs.Prelude.{◌≡◌, ℕ, suc, ◌<◌, ◌≤◌, ◌-◌, ◌^◌, min, ℤ, pos, ◌≤ℤ◌, ◌<ℤ◌, ◌⊎◌, ◌↔◌, List, [], ◌∷◌, ◌++◌, length, take, map, All, AllPairs, slice_index_or, slice_set}
use Rattle.rt_cells.specs.Line.{IsRun}
use Rattle.rt_cells.specs.Cells.{row_of}
use Rattle.rt_cells.specs.Rectangles.{Rectangle, Covers}
use Rattle.rt_strips.specs.OneMask.{IsBefore}

-- the row has the columns as a run
abbrev pub HasRun : (ℤ → ℤ → Type 0) → ℤ → ℤ → ℤ → Type 0
HasRun cells left right y = IsRun (row_of cells y) left right

-- the rectangle is a strip of the cells: its rows are a longest interval of rows that have its columns as a run
pub record IsStripOf (cells : ℤ → ℤ → Type 0) (r : Rectangle) : Type 0 where
  pub rows : IsRun (HasRun cells r.left r.right) r.bottom r.top

-- the rectangles are strips of what they cover, in order of bottom, then left
pub record AreStacked (strips : List Rectangle) : Type 0 where
  pub each : All (IsStripOf (Covers strips)) strips
  pub in_order : AllPairs IsBefore strips

-- stands for a strip that isn't there
abbrev pub no_area : Rectangle
no_area = record { left = pos 0; right = pos 0; bottom = pos 0; top = pos 0 }

-- the strip at a place
abbrev pub area_at : List Rectangle → ℕ → Rectangle
area_at strips k = slice_index_or strips k no_area

-- the same rectangle up to another height
abbrev pub raised : Rectangle → ℤ → Rectangle
raised r top = record { left = r.left; right = r.right; bottom = r.bottom; top = top }

-- a strip that ends at the present height: its place in the list, its columns and its top
pub record Opened : Type 0 where
  pub place : ℕ
  pub left : ℤ
  pub right : ℤ
  pub top : ℤ

-- stands for one that isn't there
abbrev pub none_opened : Opened
none_opened = record { place = 0; left = pos 0; right = pos 0; top = pos 0 }

-- the one at a number
abbrev pub opened_at : List Opened → ℕ → Opened
opened_at opened j = slice_index_or opened j none_opened

-- it tells the columns and the top of the strip at its place
pub record IsOpenedOf (strips : List Rectangle) (o : Opened) : Type 0 where
  pub inside : o.place < length strips
  pub left : (area_at strips o.place).left ≡ o.left
  pub right : (area_at strips o.place).right ≡ o.right
  pub top : (area_at strips o.place).top ≡ o.top

-- one of them tells of the strip at place k
pub record IsToldOf (opened : List Opened) (k : ℕ) : Type 0 where
  pub number : ℕ
  pub inside : number < length opened
  pub is : (opened_at opened number).place ≡ k

-- the strips that end at the height, in order of their left ends; there may be others among them
pub record AreOpened (strips : List Rectangle) (height : ℤ) (opened : List Opened) : Type 0 where
  pub each : All (IsOpenedOf strips) opened
  pub every : (k : ℕ) → k < length strips → (area_at strips k).top ≡ height → IsToldOf opened k
  pub across : AllPairs (λ a b. a.left <ℤ b.left) opened

-- what is kept: the first strips, how many strips there are, and those that end at the present height
pub record Pile : Type 0 where
  pub kept : List Rectangle
  pub count : ℕ
  pub going : List Opened

-- the first strips are kept, at most so many, and all are counted; a count past its type stands at its end
pub record IsKeptOf (most : ℕ) (strips kept : List Rectangle) (count : ℕ) : Type 0 where
  pub kept_first : kept ≡ take most strips
  pub counted : count ≡ min (length strips) (2 ^ 64 - 1)

-- the same, where strips that aren't kept have the place behind those that are
abbrev pub told_within : ℕ → Opened → Opened
told_within most o = record { place = min o.place most; left = o.left; right = o.right; top = o.top }

-- the pile tells of these strips, all found up to the height
pub record IsPileOf (most : ℕ) (strips : List Rectangle) (height : ℤ) (opened : List Opened) (pile : Pile) : Type 0 where
  pub keeps : IsKeptOf most strips pile.kept pile.count
  pub tells : pile.going ≡ map (told_within most) opened
  pub stacked : AreStacked strips
  pub below : All (λ s. s.top ≤ℤ height) strips
  pub ends : AreOpened strips height opened

-- the pieces fill whole runs of the rows from bottom up to, and without, top: between two of them lies a column
pub record AreRow (bottom top : ℤ) (pieces : List Rectangle) : Type 0 where
  pub rows : All (λ p. (p.bottom ≡ bottom) × (p.top ≡ top)) pieces
  pub across : All (λ p. p.left <ℤ p.right) pieces
  pub apart : AllPairs (λ a b. a.right <ℤ b.left) pieces

-- the pile tells of strips that cover what the others covered and the pieces
pub record HasRow (most : ℕ) (strips : List Rectangle) (top : ℤ) (pieces : List Rectangle) (pile : Pile) : Type 0 where
  pub more : List Rectangle
  pub opened : List Opened
  pub of : IsPileOf most more top opened pile
  pub covers : (x y : ℤ) → Covers more x y ↔ (Covers strips x y ⊎ Covers pieces x y)

-- a row of pieces is put onto the pile, at its height or above it
abbrev pub PutsRow : ℕ → List Rectangle → Pile → Pile → Type 0
PutsRow most pieces before after = (strips : List Rectangle) (height bottom top : ℤ) (opened : List Opened) → IsPileOf most strips height opened before
    → height ≤ℤ bottom → bottom <ℤ top → AreRow bottom top pieces → HasRow most strips top pieces after

-- the numbers from one on up to another have begun to the left of a column, and the one at that other number hasn't
pub record IsFirstFrom (going : List Opened) (from : ℕ) (left : ℤ) (number : ℕ) : Type 0 where
  pub onward : from ≤ number
  pub inside : number ≤ length going
  pub before : (j : ℕ) → from ≤ j → j < number → (opened_at going j).left <ℤ left
  pub after : number < length going → left ≤ℤ (opened_at going number).left

-- the piece goes on with the strip
pub record GoesOn (o : Opened) (piece : Rectangle) : Type 0 where
  pub left : o.left ≡ piece.left
  pub right : o.right ≡ piece.right
  pub top : o.top ≡ piece.bottom

-- the strip at a place of those kept, if it is there, goes up to the top of the piece on it
pub record IsRaised (place : ℕ) (piece : Rectangle) (before after : List Rectangle) : Type 0 where
  pub there : place < length before → (area_at before place).top ≡ piece.bottom → after ≡ slice_set before place (raised (area_at before place) piece.top)
  pub none : length before ≤ place → after ≡ before

-- the piece is appended where there is room, and counted
pub record IsBegun (most : ℕ) (piece : Rectangle) (before : List Rectangle) (count : ℕ) (after : List Rectangle) (count' : ℕ) (place : ℕ) : Type 0 where
  pub placed : place ≡ length before
  pub room : length before < most → after ≡ before ++ piece ∷ []
  pub none : most ≤ length before → after ≡ before
  pub counted : count' ≡ min (suc count) (2 ^ 64 - 1)

-- the strip at number i goes on with the piece
pub record HasGoneOn (going : List Opened) (i : ℕ) (piece : Rectangle) (before : List Rectangle) (count : ℕ) (after : List Rectangle) (count' : ℕ) (place : ℕ) : Type 0 where
  pub inside : i < length going
  pub goes_on : GoesOn (opened_at going i) piece
  pub place_is : place ≡ (opened_at going i).place
  pub raises : IsRaised place piece before after
  pub same_count : count' ≡ count

-- it doesn't, and the piece begins a strip
pub record HasBegun (most : ℕ) (going : List Opened) (i : ℕ) (piece : Rectangle) (before : List Rectangle) (count : ℕ) (after : List Rectangle) (count' : ℕ) (place : ℕ) : Type 0 where
  pub alone : i < length going → ¬ GoesOn (opened_at going i) piece
  pub begun : IsBegun most piece before count after count' place

-- a piece is put where a strip goes on with it, or begins one
abbrev pub PutsPiece : ℕ → List Opened → ℕ → Rectangle → List Rectangle → ℕ → List Rectangle → ℕ → ℕ → Type 0
PutsPiece most going i piece before count after count' place =
    HasGoneOn going i piece before count after count' place ⊎ HasBegun most going i piece before count after count' place
