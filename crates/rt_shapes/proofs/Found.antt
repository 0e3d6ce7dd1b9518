-- What is found of the cuts of a layout by its strips.
use Rattle.std.proofs.Common.{◌≡◌, ℕ, List, [], ◌∷◌, All, Contains, Result, length, map, sym, subst, arith}
use Rattle.std.specs.Result.{IfErr, IsErrAnd}
use Rattle.std.proofs.lemmas.List.Elements.{Contains-get_or}
use Rattle.std.proofs.lemmas.Result.{err_from_is_err_and}
use Rattle.rt_base.specs.declared.plane.Rect.{Rect}
use Rattle.rt_base.specs.Plane.{area}
use Rattle.rt_layout.specs.declared.layout.Label.{Label}
use Rattle.rt_layout.specs.declared.layout.Layout.{Layout}
use Rattle.rt_layout.specs.Covering.{MaskCovers}
use Rattle.rt_rules.proofs.Alike.{AreAlike}
use Rattle.rt_tech.specs.declared.table.Tech.{Tech}
use Rattle.rt_tech.specs.Tech.{mask_count}
use Rattle.rt_strips.specs.declared.listing.Strip.{Strip}
use Rattle.rt_strips.specs.declared.listing.Strips.{Strips}
use Rattle.rt_strips.specs.Channels.{AreLayoutStrips, IsStripsOf}
use Rattle.rt_strips.specs.Placed.{placed}
use Rattle.rt_strips.specs.StripsOf.{AreStrips}
use Rattle.rt_view.specs.declared.shapes.NetError.{NetError}
use Rattle.rt_view.specs.declared.shapes.NetError.TheVariants.{SourceShape, OutOfMemory}
use Rattle.rt_view.specs.declared.shapes.Shape.{Shape}
use Rattle.rt_view.specs.declared.shapes.Shape.TheVariants.{CutShape, CutUpper, CutLower, StrayLabel}
use Rattle.rt_view.specs.Shapes.{IsWiring, IsFirstShape, IsFirstOfCuts, IsCutErrorOf, IsShapeErrorOf, HasSoundCuts, LabelsTouch, ShowsStrayLabel}
use Rattle.rt_shapes.specs.Cutting.{cells_by, CutsStandAlone, AreOfMasks}
use Rattle.rt_view.specs.Lowers.{AreLowersOf}
use Rattle.rt_shapes.specs.Sides.{AllHaveUpper, AllHaveLower, IsLooseRefusal}
use Rattle.rt_shapes.specs.Sound.{IsBentRefusal, IsBareRefusal, IsStrayRefusal}
use Rattle.rt_shapes.proofs.Alike.{own_strips, strips_of_masks, cells_alike, has_no_alike, shows_alike, refusal_alike, lowers_alike}
use Rattle.rt_shapes.proofs.Cutting.{cuts_are_rectangles}
use Rattle.rt_shapes.proofs.First.{bent_first, bare_first, loose_first, stray_first}
use Rattle.rt_shapes.proofs.UpperLower.{cuts_in_upper, bare_cut_shown, cuts_in_one_lower, loose_cut_shown, lowers_told}

abbrev of_cuts : List Shape
of_cuts = CutShape ∷ CutUpper ∷ CutLower ∷ []

module _ (layout : Layout) (tech : Tech) (wiring : All IsWiring tech.masks) (counted : length layout.masks ≡ mask_count tech) (strips : Strips)
    (are_of : IsStripsOf layout tech strips) (list : List Strip) (same : list ≡ strips.list) where
  are : AreLayoutStrips layout tech (map placed list)
  are = subst (λ (l : List Strip). AreLayoutStrips layout tech (map placed l)) (sym same) are_of.strips_are

  pub are_strips : AreStrips (map placed list)
  are_strips = own_strips layout tech wiring counted (map placed list) are

  pub are_of_masks : AreOfMasks strips.masks (map placed list)
  are_of_masks = subst (λ n. AreOfMasks n (map placed list)) (sym are_of.counted) (strips_of_masks layout tech wiring counted (map placed list) are)

  alike : (m : ℕ) → AreAlike (cells_by (map placed list) m) (MaskCovers layout m)
  alike m = cells_alike layout tech wiring counted (map placed list) are m

  moved : (shape : Shape) (rect : Rect) → IsFirstShape tech (cells_by (map placed list)) layout.labels shape rect → IsFirstShape tech (MaskCovers layout) layout.labels shape rect
  moved shape rect first = refusal_alike tech layout.labels (cells_by (map placed list)) (MaskCovers layout) alike (SourceShape shape rect) first

  told : (shape listed : Shape) (rect : Rect) → shape ≡ listed → Contains of_cuts listed → IsFirstShape tech (cells_by (map placed list)) layout.labels listed rect
      → IsFirstOfCuts tech (MaskCovers layout) layout.labels shape rect
  told shape listed rect e among first =
      subst (λ k. IsFirstOfCuts tech (MaskCovers layout) layout.labels k rect) (sym e) (record { of_cuts = among; first = moved listed rect first })

  pub bent_refused : (error : NetError) → IsBentRefusal tech (map placed list) error → IsCutErrorOf layout tech error
  bent_refused (SourceShape shape rect) (e, shown) =
      told shape CutShape rect e (Contains-get_or of_cuts 0 CutShape (omega arith)) (bent_first tech (cells_by (map placed list)) layout.labels rect shown)
  bent_refused OutOfMemory none = none

  -- a `?` that hands a refusal on
  pub bent_handed : {X : Type 0} (r : Result X NetError) (d : NetError) → IsErrAnd r (λ y. y ≡ d) → IsBentRefusal tech (map placed list) d → IfErr r (IsCutErrorOf layout tech)
  bent_handed r d handed refused =
      let p = err_from_is_err_and r handed in
      subst (λ t. IfErr t (IsCutErrorOf layout tech)) (sym p.1) (subst (IsCutErrorOf layout tech) (sym p.2) (bent_refused d refused))

  -- labels that strips touch, and one that none touches
  pub labels_moved : (labels : List Label) → labels ≡ layout.labels → LabelsTouch (cells_by (map placed list)) labels → LabelsTouch (MaskCovers layout) layout.labels
  labels_moved labels e touch =
      subst (λ (l : List Label). LabelsTouch (MaskCovers layout) l) e (has_no_alike tech labels (cells_by (map placed list)) (MaskCovers layout) alike StrayLabel touch)

  pub stray_moved : (labels : List Label) → labels ≡ layout.labels → (error : NetError) → IsStrayRefusal (cells_by (map placed list)) labels error
      → IsStrayRefusal (MaskCovers layout) layout.labels error
  stray_moved labels e (SourceShape shape rect) (f, shown) = (
    f,
    subst (λ (l : List Label). ShowsStrayLabel (MaskCovers layout) l (area rect)) e
        (shows_alike tech labels (cells_by (map placed list)) (MaskCovers layout) alike StrayLabel rect shown),
  )
  stray_moved labels e OutOfMemory none = none

  module _ (alone : CutsStandAlone tech (map placed list)) where
    pub bare_refused : (error : NetError) → IsBareRefusal tech (map placed list) error → IsCutErrorOf layout tech error
    bare_refused (SourceShape shape rect) (e, (i, lacks, is)) =
        told shape CutUpper rect e (Contains-get_or of_cuts 1 CutShape (omega arith))
        (bare_first tech (cells_by (map placed list)) layout.labels rect (cuts_are_rectangles tech (map placed list) are_strips alone)
        (bare_cut_shown tech (map placed list) are_strips alone i lacks (area rect) is))
    bare_refused OutOfMemory none = none

    pub bare_handed : {X : Type 0} (r : Result X NetError) (d : NetError) → IsErrAnd r (λ y. y ≡ d) → IsBareRefusal tech (map placed list) d → IfErr r (IsCutErrorOf layout tech)
    bare_handed r d handed refused =
        let p = err_from_is_err_and r handed in
        subst (λ t. IfErr t (IsCutErrorOf layout tech)) (sym p.1) (subst (IsCutErrorOf layout tech) (sym p.2) (bare_refused d refused))

    module _ (upper : AllHaveUpper tech (map placed list)) where
      pub loose_refused : (error : NetError) → IsLooseRefusal tech (map placed list) error → IsCutErrorOf layout tech error
      loose_refused (SourceShape shape rect) (e, (i, lacks, is)) =
          told shape CutLower rect e (Contains-get_or of_cuts 2 CutShape (omega arith))
          (loose_first tech (cells_by (map placed list)) layout.labels rect (cuts_are_rectangles tech (map placed list) are_strips alone)
          (cuts_in_upper tech (map placed list) are_strips alone upper)
          (loose_cut_shown tech (map placed list) are_strips alone i lacks (area rect) is))
      loose_refused OutOfMemory none = none

      pub cuts_sound : (lowers : List ℕ) → AllHaveLower tech (map placed list) lowers → HasSoundCuts tech (MaskCovers layout)
      cuts_sound lowers all = record {
        rectangles = has_no_alike tech layout.labels (cells_by (map placed list)) (MaskCovers layout) alike CutShape (cuts_are_rectangles tech (map placed list) are_strips alone);
        in_upper = has_no_alike tech layout.labels (cells_by (map placed list)) (MaskCovers layout) alike CutUpper (cuts_in_upper tech (map placed list) are_strips alone upper);
        in_one_lower = has_no_alike tech layout.labels (cells_by (map placed list)) (MaskCovers layout) alike CutLower
            (cuts_in_one_lower tech (map placed list) are_strips alone lowers all);
      }

    pub lowers_are : (lowers : List ℕ) → AllHaveLower tech (map placed list) lowers → AreLowersOf tech (MaskCovers layout) (map placed strips.list) lowers
    lowers_are lowers all =
        subst (λ (l : List Strip). AreLowersOf tech (MaskCovers layout) (map placed l) lowers) same
        (lowers_alike tech (cells_by (map placed list)) (MaskCovers layout) alike (map placed list) lowers (lowers_told tech (map placed list) are_strips alone lowers all))

-- a refusal of the cuts is one of the shapes, and so is that of a label where the cuts are sound
cut_error : (layout : Layout) (tech : Tech) (error : NetError) → IsCutErrorOf layout tech error → IsShapeErrorOf layout tech error
cut_error layout tech (SourceShape shape rect) found = found.first
cut_error layout tech OutOfMemory none = none

stray_error : (layout : Layout) (tech : Tech) → HasSoundCuts tech (MaskCovers layout) → (error : NetError) → IsStrayRefusal (MaskCovers layout) layout.labels error
    → IsShapeErrorOf layout tech error
stray_error layout tech sound (SourceShape shape rect) (e, shown) =
    subst (λ k. IsFirstShape tech (MaskCovers layout) layout.labels k rect) (sym e)
    (stray_first tech (MaskCovers layout) layout.labels rect sound.rectangles sound.in_upper sound.in_one_lower shown)
stray_error layout tech sound OutOfMemory none = none

pub cuts_handed : (layout : Layout) (tech : Tech) {X : Type 0} (r : Result X NetError) (d : NetError) → IsErrAnd r (λ y. y ≡ d) → IsCutErrorOf layout tech d
    → IfErr r (IsShapeErrorOf layout tech)
cuts_handed layout tech r d handed refused =
    let p = err_from_is_err_and r handed in
    subst (λ t. IfErr t (IsShapeErrorOf layout tech)) (sym p.1) (subst (IsShapeErrorOf layout tech) (sym p.2) (cut_error layout tech d refused))

pub stray_handed : (layout : Layout) (tech : Tech) → HasSoundCuts tech (MaskCovers layout) → {X : Type 0} (r : Result X NetError) (d : NetError) → IsErrAnd r (λ y. y ≡ d)
    → IsStrayRefusal (MaskCovers layout) layout.labels d → IfErr r (IsShapeErrorOf layout tech)
stray_handed layout tech sound r d handed refused =
    let p = err_from_is_err_and r handed in
    subst (λ t. IfErr t (IsShapeErrorOf layout tech)) (sym p.1) (subst (IsShapeErrorOf layout tech) (sym p.2) (stray_error layout tech sound d refused))
