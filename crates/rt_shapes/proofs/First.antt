-- The first shape isn't sound, and a piece has one least rectangle around it.
use Rattle.std.proofs.Common.{◌≡◌, ℕ, ℤ, pos, ◌-ℤ◌, ◌≤ℤ◌, List, [], ◌∷◌, All, subst, refl, arith}
use Rattle.std.proofs.lemmas.Int.{ints}
use Rattle.std.proofs.lemmas.List.Elements.{All-nil, All-cons}
use Rattle.rt_cells.specs.Line.{Within}
use Rattle.rt_cells.specs.Rectangles.{Rectangle}
use Rattle.rt_cells.proofs.Lines.{antisymmetric}
use Rattle.rt_cells.proofs.Rectangles.{same_sides}
use Rattle.rt_base.specs.declared.plane.Rect.{Rect}
use Rattle.rt_layout.specs.declared.layout.Label.{Label}
use Rattle.rt_layout.specs.Covering.{MaskCovers}
use Rattle.rt_rules.proofs.First.{at_split}
use Rattle.rt_tech.specs.declared.table.Tech.{Tech}
use Rattle.rt_view.specs.declared.shapes.Shape.{Shape}
use Rattle.rt_view.specs.declared.shapes.Shape.TheVariants.{CutShape, CutUpper, CutLower, Background, BentChannel, NoKind, TapChannel, StrayLabel}
use Rattle.rt_view.specs.Shapes.{IsAroundPiece, CutsAreRectangles, CutsLieInUpper, CutsLieInOneLower, LabelsTouch, HasNo, ShowsShape, HasSoundShapes, IsFirstShape}
use Rattle.rt_shapes.specs.Laws.{FirstShapeIsUnsound, OneRectangleAround}

module _ (tech : Tech) (cells : ℕ → ℤ → ℤ → Type 0) (labels : List Label) where
  -- a shape that is shown is there
  shown_is_there : (shape : Shape) (rect : Rect) → ShowsShape tech cells labels shape rect → HasNo tech cells labels shape → ⊥
  shown_is_there CutShape rect s none = let (q, at) = none.shaped s.cut s.is_cut s.x s.y s.cell in s.bent q at
  shown_is_there CutUpper rect s none = s.bare (none.covered s.cut s.upper s.is_upper s.x s.y s.cell)
  shown_is_there CutLower rect s none = s.loose (none.standing s.cut s.is_cut s.x s.y s.cell)
  shown_is_there StrayLabel rect s none = s.stray (none.touching s.label s.listed)
  shown_is_there Background rect s none = none
  shown_is_there BentChannel rect s none = none
  shown_is_there NoKind rect s none = none
  shown_is_there TapChannel rect s none = none

  pub first_unsound : (shape : Shape) (rect : Rect) → IsFirstShape tech cells labels shape rect → HasSoundShapes tech cells labels → ⊥
  first_unsound shape rect first sound =
      shown_is_there shape rect first.shown
      (at_split (HasNo tech cells labels) first.before shape first.after (subst (λ (z : List Shape). All (HasNo tech cells labels) z) first.in_order sound.all))

  -- the four shapes are sound, or one of them is the first that isn't
  pub all_sound : CutsAreRectangles tech cells → CutsLieInUpper tech cells → CutsLieInOneLower tech cells → LabelsTouch cells labels → HasSoundShapes tech cells labels
  all_sound a b c d = record {
    all = All-cons (HasNo tech cells labels) CutShape (CutUpper ∷ CutLower ∷ StrayLabel ∷ []) a
        (All-cons (HasNo tech cells labels) CutUpper (CutLower ∷ StrayLabel ∷ []) b
        (All-cons (HasNo tech cells labels) CutLower (StrayLabel ∷ []) c
        (All-cons (HasNo tech cells labels) StrayLabel [] d (All-nil (HasNo tech cells labels)))));
  }

  pub bent_first : (rect : Rect) → ShowsShape tech cells labels CutShape rect → IsFirstShape tech cells labels CutShape rect
  bent_first rect s = record { before = []; after = CutUpper ∷ CutLower ∷ StrayLabel ∷ []; in_order = refl; none_before = All-nil (HasNo tech cells labels); shown = s }

  pub bare_first : (rect : Rect) → CutsAreRectangles tech cells → ShowsShape tech cells labels CutUpper rect → IsFirstShape tech cells labels CutUpper rect
  bare_first rect a s = record {
    before = CutShape ∷ [];
    after = CutLower ∷ StrayLabel ∷ [];
    in_order = refl;
    none_before = All-cons (HasNo tech cells labels) CutShape [] a (All-nil (HasNo tech cells labels));
    shown = s;
  }

  pub loose_first : (rect : Rect) → CutsAreRectangles tech cells → CutsLieInUpper tech cells → ShowsShape tech cells labels CutLower rect → IsFirstShape tech cells labels CutLower rect
  loose_first rect a b s = record {
    before = CutShape ∷ CutUpper ∷ [];
    after = StrayLabel ∷ [];
    in_order = refl;
    none_before = All-cons (HasNo tech cells labels) CutShape (CutUpper ∷ []) a (All-cons (HasNo tech cells labels) CutUpper [] b (All-nil (HasNo tech cells labels)));
    shown = s;
  }

  pub stray_first : (rect : Rect) → CutsAreRectangles tech cells → CutsLieInUpper tech cells → CutsLieInOneLower tech cells → ShowsShape tech cells labels StrayLabel rect
      → IsFirstShape tech cells labels StrayLabel rect
  stray_first rect a b c s = record {
    before = CutShape ∷ CutUpper ∷ CutLower ∷ [];
    after = [];
    in_order = refl;
    none_before = All-cons (HasNo tech cells labels) CutShape (CutUpper ∷ CutLower ∷ []) a
        (All-cons (HasNo tech cells labels) CutUpper (CutLower ∷ []) b (All-cons (HasNo tech cells labels) CutLower [] c (All-nil (HasNo tech cells labels))));
    shown = s;
  }

up_to : (low high a : ℤ) → Within low high (a -ℤ pos 1) → a ≤ℤ high
up_to low high a h = omega (arith, ints, h.to)

-- each of two least rectangles around a piece lies in the other
pub one_around : (cells : ℤ → ℤ → Type 0) (x y : ℤ) (r q : Rectangle) → IsAroundPiece cells x y r → IsAroundPiece cells x y q → r ≡ q
one_around cells x y r q a b =
    same_sides r q
    (antisymmetric _ _ (a.holds _ _ b.left.1).column.from (b.holds _ _ a.left.1).column.from)
    (antisymmetric _ _ (up_to _ _ r.right (b.holds _ _ a.right.1).column) (up_to _ _ q.right (a.holds _ _ b.right.1).column))
    (antisymmetric _ _ (a.holds _ _ b.bottom.1).row.from (b.holds _ _ a.bottom.1).row.from)
    (antisymmetric _ _ (up_to _ _ r.top (b.holds _ _ a.top.1).row) (up_to _ _ q.top (a.holds _ _ b.top.1).row))

pub first_is_unsound : FirstShapeIsUnsound
first_is_unsound tech layout shape rect first sound = first_unsound tech (MaskCovers layout) layout.labels shape rect first sound

pub rectangle_is_one : OneRectangleAround
rectangle_is_one layout m x y r q a b = one_around (MaskCovers layout m) x y r q a b
