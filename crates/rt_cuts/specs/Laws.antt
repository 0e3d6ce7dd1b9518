-- What is promised of cuts, of two masks and of labels. Strips are numbered, `mask` tells the mask of each, `source` and `drawn` its rectangle
-- in the source and in the drawing; `width` and `space` are those that the masks are carried with.
use Rattle.std.specs.Prelude.{◌≡◌, ℕ, ℤ, pos, ◌*ℤ◌, ◌≤ℤ◌, ◌↔◌}
use Rattle.rt_cells.specs.Cells.{MeetAtCornerAlone}
use Rattle.rt_cells.specs.Rectangles.{Rectangle, IsNonempty, scaled}
use Rattle.rt_rules.specs.Cuts.{IsSquare, KeepsSize, KeepsEnclosed, KeepsApart}
use Rattle.rt_rules.specs.Pieces.{IsPiece, HasRectangles, LiesIn}
use Rattle.rt_family.specs.Strips.{HoldsCell, CoveredBy, AreConnected}
use Rattle.rt_family.specs.Carried.{IsCarried, IsKeptClear}
use Rattle.rt_family.specs.Laws.{IsOfMask}
use Rattle.rt_cuts.specs.Cuts.{AreUnstacked, StripLiesIn, IsKeptInside, KeepsLowerMask}
use Rattle.rt_cuts.specs.Labels.{IsAtPoint, TouchesStrip}

-- the cells that mask m covers, as its strips are drawn by `box`
abbrev pub cells_of : (count : ℕ) (mask : ℕ → ℕ) (m : ℕ) (box : ℕ → Rectangle) → ℤ → ℤ → Type 0
cells_of count mask m box = CoveredBy (IsOfMask count mask m) box

-- the cells of the pieces of cut m that lie in mask l
abbrev pub cells_lying : (count : ℕ) (mask : ℕ → ℕ) (m l : ℕ) (box : ℕ → Rectangle) → ℤ → ℤ → Type 0
cells_lying count mask m l box = LiesIn (cells_of count mask m box) (cells_of count mask l box)

-- strip i of cut m lies in mask l
abbrev pub LiesInMask : (count : ℕ) (mask : ℕ → ℕ) (m l : ℕ) (box : ℕ → Rectangle) → ℕ → Type 0
LiesInMask count mask m l box = StripLiesIn (IsOfMask count mask m) box (cells_of count mask l box)

-- strip i is of cut m, and its lower mask isn't l
pub record LiesElsewhere (count : ℕ) (mask : ℕ → ℕ) (m l : ℕ) (lower : ℕ → ℕ) (i : ℕ) : Type 0 where
  pub strip : IsOfMask count mask m i
  pub elsewhere : ¬ (lower i ≡ l)

-- mask m is a cut: it is carried, each of its pieces in the source is a rectangle, and none of its strips stands on another of its columns
pub record IsCarriedCut (count : ℕ) (mask : ℕ → ℕ) (m : ℕ) (source drawn : ℕ → Rectangle) (width : ℤ) (space : ℕ → ℕ → ℤ) : Type 0 where
  pub carried : IsCarried (IsOfMask count mask m) source drawn width space
  pub rectangles : HasRectangles (cells_of count mask m source)
  pub unstacked : AreUnstacked (IsOfMask count mask m) source

-- each strip of a cut is a piece, in the source and in the drawing
abbrev pub CutPiecesAreStrips : Type 0
CutPiecesAreStrips = (count : ℕ) (mask : ℕ → ℕ) (m : ℕ) (source drawn : ℕ → Rectangle) (width : ℤ) (space : ℕ → ℕ → ℤ)
    → IsCarriedCut count mask m source drawn width space → (i : ℕ) → IsOfMask count mask m i
    → IsPiece (cells_of count mask m source) (source i) × IsPiece (cells_of count mask m drawn) (drawn i)

-- a cut whose strips are drawn as squares of the size keeps the rule of size
abbrev pub CutKeepsSize : Type 0
CutKeepsSize = (count : ℕ) (mask : ℕ → ℕ) (m : ℕ) (source drawn : ℕ → Rectangle) (width : ℤ) (space : ℕ → ℕ → ℤ)
    → IsCarriedCut count mask m source drawn width space → (size : ℤ) → ((i : ℕ) → IsOfMask count mask m i → IsSquare size (drawn i))
    → KeepsSize size (cells_of count mask m drawn)

-- what mask n encloses by `near` in the source, it encloses by the number in the drawing
abbrev pub HostsKeepEnclosure : Type 0
HostsKeepEnclosure = (count : ℕ) (mask : ℕ → ℕ) (m n : ℕ) (source drawn : ℕ → Rectangle) (width : ℤ) (space : ℕ → ℕ → ℤ)
    → IsCarried (IsOfMask count mask n) source drawn width space → ((i : ℕ) → IsOfMask count mask m i → IsNonempty (source i))
    → (near number : ℤ) → pos 0 ≤ℤ near → IsKeptInside (IsOfMask count mask m) (IsOfMask count mask n) source drawn near number
    → KeepsEnclosed near (cells_of count mask m source) (cells_of count mask n source)
    → KeepsEnclosed number (cells_of count mask m drawn) (cells_of count mask n drawn)

-- masks that are `near` apart in the source are `clear` apart in the drawing
abbrev pub MasksKeepDistance : Type 0
MasksKeepDistance = (count : ℕ) (mask : ℕ → ℕ) (m n : ℕ) (source drawn : ℕ → Rectangle)
    → ((i : ℕ) → IsOfMask count mask m i → IsNonempty (source i)) → ((i : ℕ) → IsOfMask count mask n i → IsNonempty (source i))
    → (near clear : ℤ) → pos 1 ≤ℤ near → IsKeptClear (IsOfMask count mask m) (IsOfMask count mask n) source drawn near clear
    → KeepsApart near (cells_of count mask m source) (cells_of count mask n source)
    → KeepsApart clear (cells_of count mask m drawn) (cells_of count mask n drawn)

-- cut m and its lower mask l, both carried; lower mask l is kept, where `lower` tells the lower mask of each strip of the cut
pub record KeepsCutOn (count : ℕ) (mask : ℕ → ℕ) (m l : ℕ) (lower : ℕ → ℕ) (source drawn : ℕ → Rectangle) (near number reach clear : ℤ) : Type 0 where
  pub width : ℤ
  pub space : ℕ → ℕ → ℤ
  pub cut : IsCarriedCut count mask m source drawn width space
  pub lower_width : ℤ
  pub lower_space : ℕ → ℕ → ℤ
  pub lower_mask : IsCarried (IsOfMask count mask l) source drawn lower_width lower_space
  pub kept : KeepsLowerMask (IsOfMask count mask m) (IsOfMask count mask l) (LiesElsewhere count mask m l lower) source drawn near number reach clear

-- a strip of a cut lies in the lower mask in the drawing exactly where it does in the source
abbrev pub CutKeepsLowerMask : Type 0
CutKeepsLowerMask = (count : ℕ) (mask : ℕ → ℕ) (m l : ℕ) (lower : ℕ → ℕ) (source drawn : ℕ → Rectangle) (near number reach clear : ℤ)
    → KeepsCutOn count mask m l lower source drawn near number reach clear
    → (i : ℕ) → LiesInMask count mask m l source i ↔ LiesInMask count mask m l drawn i

-- the lower mask encloses by the number the drawn pieces of the cut that lie in it
abbrev pub CutKeepsEnclosure : Type 0
CutKeepsEnclosure = (count : ℕ) (mask : ℕ → ℕ) (m l : ℕ) (lower : ℕ → ℕ) (source drawn : ℕ → Rectangle) (near number reach clear : ℤ)
    → KeepsCutOn count mask m l lower source drawn near number reach clear
    → KeepsEnclosed number (cells_lying count mask m l drawn) (cells_of count mask l drawn)

-- pieces of the cut that lie in the lower mask and are `far` apart from mask n in the source are `drawn_far` apart from it in the drawing
abbrev pub CutKeepsDistance : Type 0
CutKeepsDistance = (count : ℕ) (mask : ℕ → ℕ) (m l n : ℕ) (lower : ℕ → ℕ) (source drawn : ℕ → Rectangle) (near number reach clear : ℤ)
    → KeepsCutOn count mask m l lower source drawn near number reach clear
    → ((i : ℕ) → IsOfMask count mask n i → IsNonempty (source i))
    → (far drawn_far : ℤ) → pos 1 ≤ℤ far → IsKeptClear (LiesInMask count mask m l source) (IsOfMask count mask n) source drawn far drawn_far
    → KeepsApart far (cells_lying count mask m l source) (cells_of count mask n source)
    → KeepsApart drawn_far (cells_lying count mask m l drawn) (cells_of count mask n drawn)

-- a square of the size in steps is one in database units, with so many of them a step
abbrev pub ScalingKeepsSquares : Type 0
ScalingKeepsSquares = (grid size : ℤ) (r : Rectangle) → pos 1 ≤ℤ grid → IsSquare size r → IsSquare (grid *ℤ size) (scaled grid r)

-- strips that are kept inside of their hosts in steps are so in database units
abbrev pub ScalingKeepsHosts : Type 0
ScalingKeepsHosts = (count : ℕ) (mask : ℕ → ℕ) (m n : ℕ) (source drawn : ℕ → Rectangle) (near number grid : ℤ) → pos 1 ≤ℤ grid
    → IsKeptInside (IsOfMask count mask m) (IsOfMask count mask n) source drawn near number
    → IsKeptInside (IsOfMask count mask m) (IsOfMask count mask n) source (λ i. scaled grid (drawn i)) near (grid *ℤ number)

-- masks that are kept clear in steps are so in database units
abbrev pub ScalingKeepsDistances : Type 0
ScalingKeepsDistances = (count : ℕ) (mask : ℕ → ℕ) (m n : ℕ) (source drawn : ℕ → Rectangle) (near clear grid : ℤ) → pos 1 ≤ℤ grid
    → IsKeptClear (IsOfMask count mask m) (IsOfMask count mask n) source drawn near clear
    → IsKeptClear (IsOfMask count mask m) (IsOfMask count mask n) source (λ i. scaled grid (drawn i)) near (grid *ℤ clear)

-- a cut with its lower mask that is kept in steps is so in database units
abbrev pub ScalingKeepsCuts : Type 0
ScalingKeepsCuts = (count : ℕ) (mask : ℕ → ℕ) (m l : ℕ) (lower : ℕ → ℕ) (source drawn : ℕ → Rectangle) (near number reach clear grid : ℤ) → pos 1 ≤ℤ grid
    → KeepsCutOn count mask m l lower source drawn near number reach clear
    → KeepsCutOn count mask m l lower source (λ i. scaled grid (drawn i)) near (grid *ℤ number) reach (grid *ℤ clear)

-- a label that touches strip f is drawn at the lower left corner of f. Every strip with a cell at the label is of the piece of f, in the source
-- and in the drawing: so the label is on one piece, whichever of its strips f is, and the piece is the same one
abbrev pub LabelKeepsPiece : Type 0
LabelKeepsPiece = (count : ℕ) (mask : ℕ → ℕ) (m : ℕ) (source drawn : ℕ → Rectangle) (width : ℤ) (space : ℕ → ℕ → ℤ)
    → IsCarried (IsOfMask count mask m) source drawn width space
    → ((x y u v : ℤ) → ¬ MeetAtCornerAlone (cells_of count mask m source) x y u v)
    → (f : ℕ) (x y : ℤ) → TouchesStrip (IsOfMask count mask m) source x y f
    → ((j : ℕ) (u v : ℤ) → HoldsCell (IsOfMask count mask m) source j u v → IsAtPoint x y u v → AreConnected (IsOfMask count mask m) source f j)
    × ((j : ℕ) (u v : ℤ) → HoldsCell (IsOfMask count mask m) drawn j u v → IsAtPoint (drawn f).left (drawn f).bottom u v → AreConnected (IsOfMask count mask m) source f j)
