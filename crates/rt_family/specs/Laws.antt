-- What is promised of the strips of a mask, of their hosts, and of drawings that carry them.
use Rattle.std.specs.Prelude.{◌≡◌, ℕ, ◌<◌, ℤ, pos, ◌-ℤ◌, ◌*ℤ◌, ◌≤ℤ◌, ◌⊎◌, ◌↔◌, List, All, Contains, length, get_or}
use Rattle.rt_cells.specs.Line.{Within, IsRun, IsGap}
use Rattle.rt_cells.specs.Cells.{row_of, transposed, Joined}
use Rattle.rt_cells.specs.Rectangles.{Rectangle, IsNonempty, Holds, Covers, scaled}
use Rattle.rt_rules.specs.Width.{KeepsWidth}
use Rattle.rt_rules.specs.Space.{KeepsPiecesApart, KeepsSpace}
use Rattle.rt_family.specs.Strips.{ShareColumn, ShareRow, SpansColumns, HoldsCell, CoveredBy, IsFamily, AreConnected, IsChain, AreHosts}
use Rattle.rt_family.specs.Carried.{AreFar, AreNumbers, IsCarried, IsCarriedInColumns, IsKeptClear}
use Rattle.rt_family.specs.Rows.{MeetsRows, IsUntouched}

-- strip i, of so many, is of the mask
pub record IsOfMask (count : ℕ) (mask : ℕ → ℕ) (m i : ℕ) : Type 0 where
  pub below : i < count
  pub of_mask : mask i ≡ m

-- nonempty rectangles that cover cells once and whose rows are whole runs are a family
abbrev pub WholeRunsAreAFamily : Type 0
WholeRunsAreAFamily = (count : ℕ) (mask : ℕ → ℕ) (m : ℕ) (box : ℕ → Rectangle)
    → ((i : ℕ) → IsOfMask count mask m i → IsNonempty (box i))
    → ((i j : ℕ) (x y : ℤ) → HoldsCell (IsOfMask count mask m) box i x y → HoldsCell (IsOfMask count mask m) box j x y → i ≡ j)
    → ((i : ℕ) (y : ℤ) → IsOfMask count mask m i → Within (box i).bottom (box i).top y
    → IsRun (row_of (CoveredBy (IsOfMask count mask m) box) y) (box i).left (box i).right)
    → IsFamily (IsOfMask count mask m) box

-- a rectangle that a family covers has hosts
abbrev pub CoveredHasHosts : Type 0
CoveredHasHosts = (count : ℕ) (mask : ℕ → ℕ) (m : ℕ) (box : ℕ → Rectangle) → IsFamily (IsOfMask count mask m) box
    → (area : Rectangle) → IsNonempty area → ((x y : ℤ) → Holds area x y → CoveredBy (IsOfMask count mask m) box x y)
    → (first : ℕ) × (last : ℕ) × (chain : List ℕ) × AreHosts (IsOfMask count mask m) box area first last chain

-- a mask whose rows are met is carried
abbrev pub RowsCarry : Type 0
RowsCarry = (count : ℕ) (mask : ℕ → ℕ) (m : ℕ) (source drawn : ℕ → Rectangle) (width : ℤ) (space : ℕ → ℕ → ℤ)
    → AreNumbers (IsOfMask count mask m) width space → IsFamily (IsOfMask count mask m) source → MeetsRows (IsOfMask count mask m) source drawn width space
    → IsCarried (IsOfMask count mask m) source drawn width space

-- strips of which none stands on another, and whose rows are met, are carried, in columns too
abbrev pub UntouchedIsCarried : Type 0
UntouchedIsCarried = (count : ℕ) (mask : ℕ → ℕ) (m : ℕ) (source drawn : ℕ → Rectangle) (width : ℤ) (space : ℕ → ℕ → ℤ)
    → IsUntouched (IsOfMask count mask m) source drawn width space
    → IsCarried (IsOfMask count mask m) source drawn width space × IsCarriedInColumns (IsOfMask count mask m) source drawn width

-- a carried mask is drawn with its width
abbrev pub CarriedKeepsWidth : Type 0
CarriedKeepsWidth = (count : ℕ) (mask : ℕ → ℕ) (m : ℕ) (source drawn : ℕ → Rectangle) (width : ℤ) (space : ℕ → ℕ → ℤ)
    → IsCarried (IsOfMask count mask m) source drawn width space → IsCarriedInColumns (IsOfMask count mask m) source drawn width
    → KeepsWidth width (CoveredBy (IsOfMask count mask m) drawn)

-- a carried mask is drawn with a space that none of its spaces falls below
abbrev pub CarriedKeepsSpace : Type 0
CarriedKeepsSpace = (count : ℕ) (mask : ℕ → ℕ) (m : ℕ) (source drawn : ℕ → Rectangle) (width : ℤ) (space : ℕ → ℕ → ℤ)
    → IsCarried (IsOfMask count mask m) source drawn width space → (least : ℤ) → ((i j : ℕ) → IsOfMask count mask m i → IsOfMask count mask m j → least ≤ℤ space i j)
    → KeepsSpace least (CoveredBy (IsOfMask count mask m) drawn)

-- cells of its drawing are joined exactly where their strips are connected in the source
abbrev pub CarriedKeepsPieces : Type 0
CarriedKeepsPieces = (count : ℕ) (mask : ℕ → ℕ) (m : ℕ) (source drawn : ℕ → Rectangle) (width : ℤ) (space : ℕ → ℕ → ℤ)
    → IsCarried (IsOfMask count mask m) source drawn width space → (i j : ℕ) (x y u v : ℤ)
    → HoldsCell (IsOfMask count mask m) drawn i x y → HoldsCell (IsOfMask count mask m) drawn j u v
    → Joined (CoveredBy (IsOfMask count mask m) drawn) x y u v ↔ AreConnected (IsOfMask count mask m) source i j

-- its pieces keep a space that only strips of one piece fall below
abbrev pub CarriedKeepsPiecesApart : Type 0
CarriedKeepsPiecesApart = (count : ℕ) (mask : ℕ → ℕ) (m : ℕ) (source drawn : ℕ → Rectangle) (width : ℤ) (space : ℕ → ℕ → ℤ)
    → IsCarried (IsOfMask count mask m) source drawn width space
    → (least : ℤ) → ((i j : ℕ) → IsOfMask count mask m i → IsOfMask count mask m j → AreConnected (IsOfMask count mask m) source i j ⊎ (least ≤ℤ space i j))
    → KeepsPiecesApart least (CoveredBy (IsOfMask count mask m) drawn)

-- a gap within a piece, along a row or a column, isn't narrower than a notch that no space of connected strips falls below
pub record KeepsNotch (notch : ℤ) (cells : ℤ → ℤ → Type 0) : Type 0 where
  pub rows : (y a b : ℤ) → IsGap (row_of cells y) a b → Joined cells (a -ℤ pos 1) y b y → notch ≤ℤ (b -ℤ a)
  pub columns : (x a b : ℤ) → IsGap (row_of (transposed cells) x) a b → Joined cells x (a -ℤ pos 1) x b → notch ≤ℤ (b -ℤ a)

abbrev pub CarriedKeepsNotch : Type 0
CarriedKeepsNotch = (count : ℕ) (mask : ℕ → ℕ) (m : ℕ) (source drawn : ℕ → Rectangle) (width : ℤ) (space : ℕ → ℕ → ℤ)
    → IsCarried (IsOfMask count mask m) source drawn width space
    → (notch : ℤ) → ((i j : ℕ) → AreConnected (IsOfMask count mask m) source i j → notch ≤ℤ space i j)
    → KeepsNotch notch (CoveredBy (IsOfMask count mask m) drawn)

-- the drawn strips of a chain of the source cover each rectangle whose columns they span and whose rows lie between the chain's ends
abbrev pub CarriedHostsCover : Type 0
CarriedHostsCover = (count : ℕ) (mask : ℕ → ℕ) (m : ℕ) (source drawn : ℕ → Rectangle) (width : ℤ) (space : ℕ → ℕ → ℤ)
    → IsCarried (IsOfMask count mask m) source drawn width space
    → (first last : ℕ) (chain : List ℕ) → IsChain (IsOfMask count mask m) source first chain last
    → (area : Rectangle) → All (λ k. SpansColumns (drawn k) area) chain → (drawn first).bottom ≤ℤ area.bottom → area.top ≤ℤ (drawn last).top
    → (x y : ℤ) → Holds area x y → (k : ℕ) × Contains chain k × HoldsCell (IsOfMask count mask m) drawn k x y

-- strips of two masks that are kept clear share a cell in the source, or are drawn so far apart
abbrev pub ClearStaysClear : Type 0
ClearStaysClear = (count : ℕ) (mask : ℕ → ℕ) (m n : ℕ) (source drawn : ℕ → Rectangle) (near clear : ℤ) → pos 1 ≤ℤ near
    → IsKeptClear (IsOfMask count mask m) (IsOfMask count mask n) source drawn near clear
    → (i j : ℕ) → IsOfMask count mask m i → IsOfMask count mask n j → IsNonempty (source i) → IsNonempty (source j)
    → (ShareColumn (source i) (source j) × ShareRow (source i) (source j)) ⊎ AreFar clear (drawn i) (drawn j)

-- a mask that is carried in steps is carried in database units, with so many of them a step
abbrev pub ScalingCarries : Type 0
ScalingCarries = (count : ℕ) (mask : ℕ → ℕ) (m : ℕ) (source drawn : ℕ → Rectangle) (width : ℤ) (space : ℕ → ℕ → ℤ) (grid : ℤ) → pos 1 ≤ℤ grid
    → IsCarried (IsOfMask count mask m) source drawn width space
    → IsCarried (IsOfMask count mask m) source (λ i. scaled grid (drawn i)) (grid *ℤ width) (λ i j. grid *ℤ space i j)
    × (IsCarriedInColumns (IsOfMask count mask m) source drawn width
    → IsCarriedInColumns (IsOfMask count mask m) source (λ i. scaled grid (drawn i)) (grid *ℤ width))

-- a number of an entry of a list
pub record IsNumber (count i : ℕ) : Type 0 where
  pub below : i < count

-- a list of rectangles that covers the cells of its entries keeps the rules that these keep
abbrev pub ListKeepsRules : Type 0
ListKeepsRules = (rectangles : List Rectangle) (none : Rectangle) (number : ℤ)
    → (KeepsWidth number (CoveredBy (IsNumber (length rectangles)) (λ i. get_or rectangles i none)) → KeepsWidth number (Covers rectangles))
    × (KeepsSpace number (CoveredBy (IsNumber (length rectangles)) (λ i. get_or rectangles i none)) → KeepsSpace number (Covers rectangles))
