-- What is promised of a written cell and of what it is read back as.
use Rattle.std.specs.Prelude.{◌≡◌, ◌↔◌, ℕ, ℤ, List, [], ◌∷◌, All}
use Rattle.rt_cells.specs.Rectangles.{Rectangle, IsNonempty}
use Rattle.rt_layout.specs.declared.layout.Label.{Label}
use Rattle.rt_layout.specs.declared.layout.Layout.{Layout}
use Rattle.rt_layout.specs.Covering.{MaskCovers}
use Rattle.rt_tech.specs.declared.table.Tech.{Tech}
use Rattle.rt_tech.specs.Tech.{IsMeasured}
use Rattle.rt_strips.specs.Placed.{Placed, covered_by}
use Rattle.rt_rules.specs.Pairs.{HasMeasuredPairs}
use Rattle.rt_rules.specs.Rules.{BreaksNoRule}
use Rattle.gds_stream.specs.declared.library.Library.{Library}
use Rattle.gds_stream.specs.Contents.{Stream}
use Rattle.gds_slabs.specs.Slabs.{IsSlabs}
use Rattle.gds_flat.specs.Items.{Flat}
use Rattle.rt_written.specs.Written.{corners_of, IsWrittenAs}
use Rattle.rt_written.specs.ReadBack.{IsLayoutOf, IsInRange, ReadsBackAs}

-- the polygon round a rectangle has that rectangle as its one slab
abbrev pub CornersAreOneSlab : Type 0
CornersAreOneSlab = (r : Rectangle) (rects : List Rectangle) → IsNonempty r → IsSlabs (corners_of r) rects ↔ (rects ≡ r ∷ [])

-- whatever the written cell flattens to has just the rectangles and labels
abbrev pub FlatIsTheDrawing : Type 0
FlatIsTheDrawing = (tech : Tech) (library : Library) (name : List ℕ) (rectangles : List Placed) (labels : List Label) → IsMeasured tech
    → IsWrittenAs tech library name rectangles labels → (layout : Layout) → Flat library.structures tech name layout → IsLayoutOf tech rectangles labels layout

-- each layout of the rectangles and labels is what it flattens to
abbrev pub DrawingIsFlat : Type 0
DrawingIsFlat = (tech : Tech) (library : Library) (name : List ℕ) (rectangles : List Placed) (labels : List Label) → IsMeasured tech
    → IsWrittenAs tech library name rectangles labels → (layout : Layout) → IsLayoutOf tech rectangles labels layout → Flat library.structures tech name layout

-- there is one, where a layout can have the rectangles
abbrev pub WrittenReadsBack : Type 0
WrittenReadsBack = (tech : Tech) (library : Library) (name : List ℕ) (rectangles : List Placed) (labels : List Label) → IsMeasured tech
    → IsWrittenAs tech library name rectangles labels → All IsInRange rectangles → ReadsBackAs library tech name rectangles labels

-- and it can where bytes hold the library: the coordinates of a stream are of 32 bits
abbrev pub StreamReadsBack : Type 0
StreamReadsBack = (tech : Tech) (bytes : List ℕ) (library : Library) (name : List ℕ) (rectangles : List Placed) (labels : List Label) → IsMeasured tech
    → Stream bytes library → IsWrittenAs tech library name rectangles labels → ReadsBackAs library tech name rectangles labels

-- the masks of a layout of rectangles cover what the rectangles cover
abbrev pub LayoutCoversAlike : Type 0
LayoutCoversAlike = (tech : Tech) (rectangles : List Placed) (labels : List Label) (layout : Layout) → IsLayoutOf tech rectangles labels layout → (m : ℕ) (x y : ℤ)
    → MaskCovers layout m x y ↔ covered_by m rectangles x y

-- so it breaks no rule where they break none
abbrev pub LayoutKeepsRules : Type 0
LayoutKeepsRules = (unit : ℤ) (tech : Tech) → HasMeasuredPairs tech → (rectangles : List Placed) (labels : List Label) (layout : Layout) → BreaksNoRule unit tech (λ m. covered_by m rectangles)
    → IsLayoutOf tech rectangles labels layout → BreaksNoRule unit tech (MaskCovers layout)

-- and so does whatever the written cell flattens to
abbrev pub FlatKeepsRules : Type 0
FlatKeepsRules = (unit : ℤ) (tech : Tech) → HasMeasuredPairs tech → (library : Library) (name : List ℕ) (rectangles : List Placed) (labels : List Label) → IsMeasured tech
    → IsWrittenAs tech library name rectangles labels → BreaksNoRule unit tech (λ m. covered_by m rectangles)
    → (layout : Layout) → Flat library.structures tech name layout → BreaksNoRule unit tech (MaskCovers layout)
