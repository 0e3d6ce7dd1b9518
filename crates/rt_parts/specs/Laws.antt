-- What is promised of strips that channels cut: a source and its drawing have the same nets of cells.
use Rattle.std.specs.Prelude.{ℕ, ℤ, List, Contains}
use Rattle.rt_cells.specs.Line.{Within}
use Rattle.rt_cells.specs.Cells.{Joined}
use Rattle.rt_cells.specs.Rectangles.{Rectangle, IsNonempty}
use Rattle.rt_family.specs.Strips.{CoveredBy, StandsOn, IsChain}
use Rattle.rt_family.specs.Laws.{IsOfMask}
use Rattle.rt_parts.specs.Parts.{Part, Cuts, IsBare, IsInPart, IsBesideCut, IsCutting}

-- a layout whose strips of the mask m are cut where strips of the mask g cover them; which strips stand on each other is said by `model`
abbrev pub CutsOfMasks : (count : ℕ) (mask : ℕ → ℕ) (m g : ℕ) (model box channel : ℕ → Rectangle) → Cuts → Type 0
CutsOfMasks count mask m g model box channel cuts =
    IsCutting (IsOfMask count mask m) box channel (CoveredBy (IsOfMask count mask g) box) (StandsOn (IsOfMask count mask m) model) cuts

-- two cells of the mask m that aren't of g are of one piece
abbrev pub OfOnePiece : (count : ℕ) (mask : ℕ → ℕ) (m g : ℕ) (model box channel : ℕ → Rectangle) → Cuts → ℤ → ℤ → ℤ → ℤ → Type 0
OfOnePiece count mask m g model box channel cuts x y u v =
    Joined (IsBare (IsOfMask count mask m) box channel (CoveredBy (IsOfMask count mask g) box) (StandsOn (IsOfMask count mask m) model) cuts) x y u v

abbrev pub InPartOf : (count : ℕ) (mask : ℕ → ℕ) (m g : ℕ) (model box channel : ℕ → Rectangle) → Cuts → Part → ℤ → ℤ → Type 0
InPartOf count mask m g model box channel cuts u x y =
    IsInPart (IsOfMask count mask m) box channel (CoveredBy (IsOfMask count mask g) box) (StandsOn (IsOfMask count mask m) model) cuts u x y

-- cells of two parts are of one piece in the source exactly where such cells are in the drawing
abbrev pub PartsKeepPieces : Type 0
PartsKeepPieces = (count : ℕ) (mask : ℕ → ℕ) (m g : ℕ) (source drawn channel drawn_channel : ℕ → Rectangle) (cuts : Cuts)
    → CutsOfMasks count mask m g source source channel cuts → CutsOfMasks count mask m g source drawn drawn_channel cuts
    → (u v : Part) (x y p q : ℤ) → InPartOf count mask m g source source channel cuts u x y → InPartOf count mask m g source source channel cuts v p q
    → (z w s t : ℤ) → InPartOf count mask m g source drawn drawn_channel cuts u z w → InPartOf count mask m g source drawn drawn_channel cuts v s t
    → (OfOnePiece count mask m g source source channel cuts x y p q → OfOnePiece count mask m g source drawn drawn_channel cuts z w s t)
    × (OfOnePiece count mask m g source drawn drawn_channel cuts z w s t → OfOnePiece count mask m g source source channel cuts x y p q)

-- a cut that each of its hosts has on the same side of its channels in two layouts stays in its piece: hosts that lead upwards, from the one
-- that its lowest row begins in, in the first layout, to the one that it begins in, in the second. Its lower left cell is of the first host's
-- part in the first layout and of the last host's part in the second, and these two parts are of one piece in the first
abbrev pub CutsStayInParts : Type 0
CutsStayInParts = (count : ℕ) (mask : ℕ → ℕ) (m g : ℕ) (model box channel other other_channel : ℕ → Rectangle) (cuts : Cuts)
    → CutsOfMasks count mask m g model box channel cuts → CutsOfMasks count mask m g model other other_channel cuts
    → (cut other_cut : Rectangle) → IsNonempty cut → IsNonempty other_cut → (place : ℕ → ℕ)
    → (first : ℕ) (chain : List ℕ) (last : ℕ) → IsChain (IsOfMask count mask m) box first chain last
    → ((h : ℕ) → Contains chain h → IsBesideCut (IsOfMask count mask m) box channel cuts place cut h × IsBesideCut (IsOfMask count mask m) other other_channel cuts place other_cut h)
    → Within (box first).bottom (box first).top cut.bottom → Within (other last).bottom (other last).top other_cut.bottom
    → InPartOf count mask m g model box channel cuts (record { strip = first; place = place first }) cut.left cut.bottom
    × InPartOf count mask m g model other other_channel cuts (record { strip = last; place = place last }) other_cut.left other_cut.bottom
    × ((x y : ℤ) → InPartOf count mask m g model box channel cuts (record { strip = last; place = place last }) x y
    → OfOnePiece count mask m g model box channel cuts cut.left cut.bottom x y)
