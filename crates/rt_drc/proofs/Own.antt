-- Strips of some cells are strips of what their masks cover; so are those of a view, whose cuts are sound by their strips.
use Rattle.std.proofs.Common.{◌≡◌, ℕ, suc, ◌+◌, ◌<◌, ℤ, List, Contains, map, refl, subst, sym, arith, inl, inr}
use Rattle.std.proofs.lemmas.List.Elements.{All-contains}
use Rattle.std.proofs.lemmas.Option.{slice_get_within}
use Rattle.rt_cells.specs.Cells.Joined.{here}
use Rattle.rt_cuts.proofs.Pieces.{none_stands, strip_is_piece}
use Rattle.rt_layout.specs.Covering.{MaskCovers}
use Rattle.rt_rules.specs.Pairs.{HasSidesThere, HasMeasuredPairs}
use Rattle.rt_rules.specs.Pieces.{HasRectangles}
use Rattle.rt_rules.proofs.Alike.{AreAlike, alike_back, lies_alike, piece_at_alike}
use Rattle.rt_rules.proofs.Measured.{entry_of}
use Rattle.rt_pieces.specs.Members.{IsOf, box_of, held_by}
use Rattle.rt_pieces.proofs.Families.{held_alike}
use Rattle.rt_shapes.proofs.Cutting.{family_of, unstacked_of}
use Rattle.rt_shapes.proofs.UpperLower.{upper_cut, lower_cut, upper_is, lower_listed}
use Rattle.rt_strips.specs.Channels.{IsStripCell}
use Rattle.rt_strips.specs.declared.listing.Strip.{Strip}
use Rattle.rt_strips.specs.Placed.{Placed, placed, covered_by, mask_of}
use Rattle.rt_strips.specs.StripsOf.{AreStripsOf, AreStrips}
use Rattle.rt_tech.specs.declared.table.Tech.{Tech}
use Rattle.rt_tech.specs.Tech.{mask_count}
use Rattle.rt_view.specs.declared.shapes.Shape.{Shape}
use Rattle.rt_view.specs.declared.shapes.Shape.TheVariants.{CutShape, CutUpper}
use Rattle.rt_view.specs.declared.shapes.View.{View}
use Rattle.rt_view.specs.Lowers.{AreLowersOf}
use Rattle.rt_view.specs.Shapes.{IsCut, IsUpper, IsLower, HasNo, shapes_in_order}
use Rattle.rt_view.specs.View.{IsView}
use Rattle.rt_drc.specs.Rows.{cells_of}
use Rattle.rt_drc.specs.SoundCuts.{CutsAreStrips, CutsAreSound}
use Rattle.rt_drc.specs.Squares.{AreOwnPieces}

pub strips_of_own : (cells : ℕ → ℤ → ℤ → Type 0) (masks : ℕ) (strips : List Placed) → AreStripsOf cells masks strips → AreStripsOf (λ m. covered_by m strips) masks strips
strips_of_own cells masks strips are = record {
  on_masks = are.on_masks;
  nonempty = are.nonempty;
  same_cells = λ m x y h. (λ c. c, λ c. c);
  once = are.once;
  whole_runs = are.whole_runs;
  unstacked = are.unstacked;
  in_order = are.in_order;
}

one_more : (a b : ℕ) → a ≡ b → suc b ≡ a + 1
one_more a b e = omega arith

-- strips of a mask whose pieces are rectangles are its pieces
own_pieces : (strips : List Strip) → AreStrips (map placed strips) → (m : ℕ) → HasRectangles (cells_of strips m) → AreOwnPieces m strips
own_pieces strips are m shaped =
    let list = map placed strips in
    let alike = held_alike m list in
    let held : HasRectangles (held_by m strips) = λ x y c. let (r, at) = shaped x y (alike.to x y c) in (r, piece_at_alike (cells_of strips m) (held_by m strips) (alike_back (held_by m strips) (cells_of strips m) alike) x y r at) in
    record { piece = strip_is_piece (IsOf m list) (box_of list) (family_of list are m) (none_stands (IsOf m list) (box_of list) (family_of list are m) held (unstacked_of list are m)) }

module _ (tech : Tech) (pairs : HasMeasuredPairs tech) where
  cut_below : (m : ℕ) → IsCut tech m → m < mask_count tech
  cut_below m cut = slice_get_within tech.masks m cut.mask cut.there

  upper_below : (m u : ℕ) → IsUpper tech m u → u < mask_count tech
  upper_below m u upper =
      let cut = upper_cut tech m u upper in
      subst (λ k. k < mask_count tech) (upper_is tech m cut.mask cut.there cut.of_role u upper) (entry_of (HasSidesThere tech) tech.masks m cut.mask pairs.sides cut.there).upper

  lower_below : (m l : ℕ) → IsLower tech m l → l < mask_count tech
  lower_below m l lower =
      let cut = lower_cut tech m l lower in
      All-contains (λ k. k < mask_count tech) cut.mask.lowers l (entry_of (HasSidesThere tech) tech.masks m cut.mask pairs.sides cut.there).lowers (lower_listed tech m cut.mask cut.there cut.of_role l lower)

  -- the number of the lower mask of a cut is the same by cells that are the same
  lowers_along : (P Q : ℕ → ℤ → ℤ → Type 0) → ((m : ℕ) → m < mask_count tech → AreAlike (P m) (Q m)) → (strips : List Placed) (lowers : List ℕ)
      → AreLowersOf tech P strips lowers → AreLowersOf tech Q strips lowers
  lowers_along P Q alike strips lowers are = record {
    counted = are.counted;
    of_cuts = λ i strip cut x y h.
        let m = mask_of strips i in
        let one = are.of_cuts i strip cut x y h in
        let own = alike m (cut_below m cut) in
        record {
          lower = one.lower;
          lies = lies_alike (P m) (Q m) (P _) (Q _) own (alike _ (lower_below m _ one.lower)) x y one.lies;
          alone = λ k lower lies.
              one.alone k lower
              (lies_alike (Q m) (P m) (Q k) (P k) (alike_back (P m) (Q m) own) (alike_back (P k) (Q k) (alike k (lower_below m k lower))) x y lies);
        };
    of_others = are.of_others;
  }

-- the strips of a view, with the number behind those of the masks for the channels
pub view_strips : (tech : Tech) (view : View) → IsView tech view → (strips : List Strip) → strips ≡ view.strips.list
    → AreStripsOf (cells_of strips) (view.strips.masks + 1) (map placed strips)
view_strips tech view is strips e =
    let own = strips_of_own (IsStripCell is.layout tech) (suc (mask_count tech)) (map placed view.strips.list) is.view_of.strips.strips_are in
    subst (λ (xs : List Strip). AreStripsOf (cells_of xs) (view.strips.masks + 1) (map placed xs)) (sym e)
    (subst (λ (n : ℕ). AreStripsOf (cells_of view.strips.list) n (map placed view.strips.list)) (one_more view.strips.masks (mask_count tech) is.view_of.strips.counted) own)

pub view_strips_are : (tech : Tech) (view : View) → IsView tech view → (strips : List Strip) → strips ≡ view.strips.list → AreStrips (map placed strips)
view_strips_are tech view is strips e = record { masks = view.strips.masks + 1; strips_are = view_strips tech view is strips e }

module _ (tech : Tech) (pairs : HasMeasuredPairs tech) (view : View) (is : IsView tech view) where
  abbrev list : List Strip
  list = view.strips.list

  shape_of : (shape : Shape) → Contains shapes_in_order shape → HasNo tech (MaskCovers is.layout) is.layout.labels shape
  shape_of shape c = All-contains (HasNo tech (MaskCovers is.layout) is.layout.labels) shapes_in_order shape is.view_of.sound.all c

  -- below the channels the strips cover what the masks do
  masks_alike : (m : ℕ) → m < mask_count tech → AreAlike (MaskCovers is.layout m) (cells_of list m)
  masks_alike m below =
      let same = λ (x y : ℤ). is.view_of.strips.strips_are.same_cells m x y (omega (arith, below)) in
      record {
        to = λ x y c. (same x y).0 (record { of_mask_or_channel = inl (below, c) });
        from = λ x y c. elim ((same x y).1 c).of_mask_or_channel [ inl d ↦ d.1 | inr d ↦ absurd (omega (arith, below, d.0)) ];
      }

  shaped : (m : ℕ) → IsCut tech m → HasRectangles (cells_of list m)
  shaped m cut x y c =
      let alike = masks_alike m (cut_below tech pairs m cut) in
      let (r, at) = (shape_of CutShape (0, omega arith, refl)).shaped m cut x y (alike.from x y c) in
      (r, piece_at_alike (MaskCovers is.layout m) (cells_of list m) alike x y r at)

  in_upper : (m u : ℕ) → IsUpper tech m u → (x y : ℤ) → cells_of list m x y → cells_of list u x y
  in_upper m u upper x y c =
      let d = (masks_alike m (cut_below tech pairs m (upper_cut tech m u upper))).from x y c in
      (masks_alike u (upper_below tech pairs m u upper)).to x y (((shape_of CutUpper (1, omega arith, refl)).covered m u upper x y d).lies x y (here d))

  -- each strip of a cut of a view is a piece of it
  pub cuts_are_strips : (strips : List Strip) → strips ≡ list → CutsAreStrips tech strips
  cuts_are_strips strips e = subst (CutsAreStrips tech) (sym e) (record { pieces = λ m cut. own_pieces list (view_strips_are tech view is list refl) m (shaped m cut) })

  -- and lies in its upper mask and in its lower mask
  pub cuts_are_sound : (strips : List Strip) (lowers : List ℕ) → strips ≡ list → lowers ≡ view.lowers → CutsAreSound tech strips lowers
  cuts_are_sound strips lowers e f =
      subst (λ xs. CutsAreSound tech xs lowers) (sym e)
      (subst (CutsAreSound tech list) (sym f)
      (record { in_upper = in_upper; in_lower = lowers_along tech pairs (MaskCovers is.layout) (cells_of list) masks_alike (map placed list) view.lowers is.view_of.lowers }))
