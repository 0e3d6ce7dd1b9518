-- The shapes of a sound source in the order in which they are tested, over what each mask covers, and the first of them that it hasn't. A shape
-- that is to come is one line in `HasNo`, `ShowsShape` and `shapes_in_order`.
use Rattle.std.specs.Prelude.{◌≡◌, ℕ, ℤ, pos, ◌+ℤ◌, ◌-ℤ◌, ◌⊎◌, List, [], ◌∷◌, ◌++◌, All, Contains, IsTrue}
use Rattle.rt_cells.specs.Cells.{Joined}
use Rattle.rt_cells.specs.Rectangles.{Rectangle, Holds}
use Rattle.rt_base.specs.declared.plane.Rect.{Rect}
use Rattle.rt_base.specs.Plane.{area}
use Rattle.rt_layout.specs.declared.layout.Label.{Label}
use Rattle.rt_layout.specs.declared.layout.Layout.{Layout}
use Rattle.rt_layout.specs.Covering.{MaskCovers}
use Rattle.rt_rules.specs.Pieces.{IsPieceAt, HasRectangles, LiesIn}
use Rattle.rt_tech.specs.declared.table.Mask.{Mask}
use Rattle.rt_tech.specs.declared.table.Role.TheVariants.{Metal, Cut}
use Rattle.rt_tech.specs.declared.table.Tech.{Tech}
use Rattle.rt_tech.specs.Rules.{has_upper, has_lower}
use Rattle.rt_strips.specs.Channels.{IsOfRole}
use Rattle.rt_cuts.specs.Labels.{IsAtPoint}
use Rattle.rt_view.specs.declared.shapes.NetError.{NetError}
use Rattle.rt_view.specs.declared.shapes.NetError.TheVariants.{SourceShape, OutOfMemory}
use Rattle.rt_view.specs.declared.shapes.Shape.{Shape}
use Rattle.rt_view.specs.declared.shapes.Shape.TheVariants.{CutShape, CutUpper, CutLower, StrayLabel}

-- a mask of metal or of cuts
abbrev pub IsWiring : Mask → Type 0
IsWiring mask = (mask.role ≡ Metal) ⊎ (mask.role ≡ Cut)

-- mask m of the table is a cut
abbrev pub IsCut : Tech → ℕ → Type 0
IsCut tech m = IsOfRole tech Cut m

-- mask m is a cut, and mask u its upper mask
abbrev pub IsUpper : Tech → ℕ → ℕ → Type 0
IsUpper tech m u = IsTrue (has_upper tech.masks m u)

-- mask m is a cut, and mask l one of its lower masks
abbrev pub IsLower : Tech → ℕ → ℕ → Type 0
IsLower tech m l = IsTrue (has_lower tech.masks m l)

-- the piece of the cell of cut m lies in its lower mask l and in no other
pub record LiesInOne (tech : Tech) (cells : ℕ → ℤ → ℤ → Type 0) (m l : ℕ) (x y : ℤ) : Type 0 where
  pub lower : IsLower tech m l
  pub lies : LiesIn (cells m) (cells l) x y
  pub alone : (k : ℕ) → IsLower tech m k → LiesIn (cells m) (cells k) x y → k ≡ l

-- the piece of the cell of cut m lies in exactly one of its lower masks
abbrev pub HasLower : (tech : Tech) (cells : ℕ → ℤ → ℤ → Type 0) (m : ℕ) (x y : ℤ) → Type 0
HasLower tech cells m x y = (l : ℕ) × LiesInOne tech cells m l x y

-- the point lies in a closed rectangle of the mask: one of the four cells that meet at it is covered
pub record Touches (cells : ℤ → ℤ → Type 0) (x y : ℤ) : Type 0 where
  pub u : ℤ
  pub v : ℤ
  pub at : IsAtPoint x y u v
  pub covered : cells u v

-- the least rectangle around the piece of the cell: it holds each cell of the piece, and each of its four sides is that of one of them
pub record IsAroundPiece (cells : ℤ → ℤ → Type 0) (x y : ℤ) (r : Rectangle) : Type 0 where
  pub holds : (u v : ℤ) → Joined cells x y u v → Holds r u v
  pub left : (v : ℤ) × Joined cells x y r.left v
  pub right : (v : ℤ) × Joined cells x y (r.right -ℤ pos 1) v
  pub bottom : (u : ℤ) × Joined cells x y u r.bottom
  pub top : (u : ℤ) × Joined cells x y u (r.top -ℤ pos 1)

-- the square of side 1 whose lower left corner is the point
abbrev pub square_at : ℤ × ℤ → Rectangle
square_at p = record { left = p.0; right = p.0 +ℤ pos 1; bottom = p.1; top = p.1 +ℤ pos 1 }

module _ (cells : ℕ → ℤ → ℤ → Type 0) (labels : List Label) where
  -- every label's point lies in a closed rectangle of its mask
  pub record LabelsTouch : Type 0 where
    pub touching : (label : Label) → Contains labels label → Touches (cells label.mask) label.at.0 label.at.1

  -- no rectangle of its mask touches a label, and this is the square at its point
  pub record ShowsStrayLabel (r : Rectangle) : Type 0 where
    pub label : Label
    pub listed : Contains labels label
    pub stray : ¬ Touches (cells label.mask) label.at.0 label.at.1
    pub square : r ≡ square_at label.at

module _ (tech : Tech) (cells : ℕ → ℤ → ℤ → Type 0) where
  -- every cut piece is a rectangle
  pub record CutsAreRectangles : Type 0 where
    pub shaped : (m : ℕ) → IsCut tech m → HasRectangles (cells m)

  -- every cut piece lies in its upper mask
  pub record CutsLieInUpper : Type 0 where
    pub covered : (m u : ℕ) → IsUpper tech m u → (x y : ℤ) → cells m x y → LiesIn (cells m) (cells u) x y

  -- every cut piece lies in exactly one of its lower masks
  pub record CutsLieInOneLower : Type 0 where
    pub standing : (m : ℕ) → IsCut tech m → (x y : ℤ) → cells m x y → HasLower tech cells m x y

  -- the piece of a cell of a cut is no rectangle, and this is the least one around it
  pub record ShowsBentCut (r : Rectangle) : Type 0 where
    pub cut : ℕ
    pub x : ℤ
    pub y : ℤ
    pub is_cut : IsCut tech cut
    pub cell : cells cut x y
    pub bent : (q : Rectangle) → ¬ IsPieceAt (cells cut) x y q
    pub around : IsAroundPiece (cells cut) x y r

  -- the piece of a cell of a cut doesn't lie in its upper mask, and this is the least rectangle around it
  pub record ShowsBareCut (r : Rectangle) : Type 0 where
    pub cut : ℕ
    pub upper : ℕ
    pub x : ℤ
    pub y : ℤ
    pub is_upper : IsUpper tech cut upper
    pub cell : cells cut x y
    pub bare : ¬ LiesIn (cells cut) (cells upper) x y
    pub around : IsAroundPiece (cells cut) x y r

  -- the piece of a cell of a cut lies in none of its lower masks, or in several, and this is the least rectangle around it
  pub record ShowsLooseCut (r : Rectangle) : Type 0 where
    pub cut : ℕ
    pub x : ℤ
    pub y : ℤ
    pub is_cut : IsCut tech cut
    pub cell : cells cut x y
    pub loose : ¬ HasLower tech cells cut x y
    pub around : IsAroundPiece (cells cut) x y r

module _ (tech : Tech) (cells : ℕ → ℤ → ℤ → Type 0) (labels : List Label) where
  -- no piece and no label has the shape; a shape that isn't listed is taken as found
  abbrev pub HasNo : Shape → Type 0
  HasNo CutShape = CutsAreRectangles tech cells
  HasNo CutUpper = CutsLieInUpper tech cells
  HasNo CutLower = CutsLieInOneLower tech cells
  HasNo StrayLabel = LabelsTouch cells labels
  HasNo _ = ⊥

  -- the rectangle shows a piece or a label that has the shape
  abbrev pub ShowsShape : Shape → Rect → Type 0
  ShowsShape CutShape rect = ShowsBentCut tech cells (area rect)
  ShowsShape CutUpper rect = ShowsBareCut tech cells (area rect)
  ShowsShape CutLower rect = ShowsLooseCut tech cells (area rect)
  ShowsShape StrayLabel rect = ShowsStrayLabel cells labels (area rect)
  ShowsShape _ rect = ⊥

-- the shapes in the order in which they are tested
abbrev pub shapes_in_order : List Shape
shapes_in_order = CutShape ∷ CutUpper ∷ CutLower ∷ StrayLabel ∷ []

module _ (tech : Tech) (cells : ℕ → ℤ → ℤ → Type 0) (labels : List Label) where
  -- the source has the shapes of a sound one
  pub record HasSoundShapes : Type 0 where
    pub all : All (HasNo tech cells labels) shapes_in_order

  -- the shape is the first that is found: it is in the list, those before it aren't found, and the rectangle shows it
  pub record IsFirstShape (shape : Shape) (rect : Rect) : Type 0 where
    pub before : List Shape
    pub after : List Shape
    pub in_order : shapes_in_order ≡ before ++ shape ∷ after
    pub none_before : All (HasNo tech cells labels) before
    pub shown : ShowsShape tech cells labels shape rect

  -- what a refusal says
  abbrev pub IsRefusal : NetError → Type 0
  IsRefusal (SourceShape shape rect) = IsFirstShape shape rect
  IsRefusal OutOfMemory = Unit {0}

-- what a refusal of a layout says
abbrev pub IsShapeErrorOf : Layout → Tech → NetError → Type 0
IsShapeErrorOf layout tech = IsRefusal tech (MaskCovers layout) layout.labels

-- the three shapes of cuts are those of a sound source
pub record HasSoundCuts (tech : Tech) (cells : ℕ → ℤ → ℤ → Type 0) : Type 0 where
  pub rectangles : CutsAreRectangles tech cells
  pub in_upper : CutsLieInUpper tech cells
  pub in_one_lower : CutsLieInOneLower tech cells

-- the first shape that is found is one of cuts
pub record IsFirstOfCuts (tech : Tech) (cells : ℕ → ℤ → ℤ → Type 0) (labels : List Label) (shape : Shape) (rect : Rect) : Type 0 where
  pub of_cuts : Contains (CutShape ∷ CutUpper ∷ CutLower ∷ []) shape
  pub first : IsFirstShape tech cells labels shape rect

-- what a refusal of the cuts of a layout says
abbrev pub IsCutErrorOf : Layout → Tech → NetError → Type 0
IsCutErrorOf layout tech (SourceShape shape rect) = IsFirstOfCuts tech (MaskCovers layout) layout.labels shape rect
IsCutErrorOf layout tech OutOfMemory = Unit {0}
