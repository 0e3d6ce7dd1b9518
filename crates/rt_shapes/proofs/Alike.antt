-- Shapes are sound alike, and refused alike, where the masks cover the same cells; strips of a layout of metals and cuts cover what its masks do.
use Rattle.std.proofs.Common.{◌≡◌, ℕ, suc, ◌≤◌, ℤ, List, [], All, Contains, get_or, map, length, sym, subst, refl, ◌∙◌, arith, inl, inr}
use Rattle.std.proofs.lemmas.Bool.{cases_lt}
use Rattle.std.proofs.lemmas.List.{get_or_past}
use Rattle.std.proofs.lemmas.List.Elements.{All-get_or, All-weaker}
use Rattle.std.proofs.lemmas.Option.{slice_get_within, get_or_from_slice_get}
use Rattle.rt_cells.specs.Rectangles.{Rectangle, Holds}
use Rattle.rt_cells.proofs.Lines.{first_place}
use Rattle.rt_base.specs.declared.plane.Rect.{Rect}
use Rattle.rt_base.specs.Plane.{area}
use Rattle.rt_layout.specs.declared.layout.Label.{Label}
use Rattle.rt_layout.specs.declared.layout.Layout.{Layout}
use Rattle.rt_layout.specs.Covering.{MaskCovers, rectangles_of}
use Rattle.rt_rules.specs.Pieces.{IsPieceAt, LiesIn}
use Rattle.rt_rules.proofs.Alike.{AreAlike, alike_back, joined_alike}
use Rattle.rt_rules.proofs.Pieces.{piece_along}
use Rattle.rt_tech.specs.declared.table.Role.TheVariants.{Metal, Gate, Cut}
use Rattle.rt_tech.specs.declared.table.Tech.{Tech}
use Rattle.rt_tech.specs.Tech.{mask_count}
use Rattle.rt_strips.specs.Channels.{IsOfRole, IsInChannel, AreLayoutStrips}
use Rattle.rt_strips.specs.Placed.{Placed, mask_of}
use Rattle.rt_strips.specs.StripsOf.{AreStrips}
use Rattle.rt_pieces.specs.Members.{IsOf, box_of}
use Rattle.rt_pieces.proofs.Families.{held_alike}
use Rattle.rt_view.specs.declared.shapes.NetError.{NetError}
use Rattle.rt_view.specs.declared.shapes.NetError.TheVariants.{SourceShape, OutOfMemory}
use Rattle.rt_view.specs.declared.shapes.Shape.{Shape}
use Rattle.rt_view.specs.declared.shapes.Shape.TheVariants.{CutShape, CutUpper, CutLower, Background, BentChannel, NoKind, TapChannel, StrayLabel}
use Rattle.rt_view.specs.Shapes.{IsWiring, LiesInOne, Touches, IsAroundPiece, HasNo, ShowsShape, HasSoundShapes, IsRefusal, shapes_in_order}
use Rattle.rt_shapes.specs.Cutting.{cells_by, AreOfMasks}
use Rattle.rt_view.specs.Lowers.{AreLowersOf}

module _ (P Q : ℤ → ℤ → Type 0) (alike : AreAlike P Q) where
  back : AreAlike Q P
  back = alike_back P Q alike

  piece_alike : (x y : ℤ) (r : Rectangle) → IsPieceAt P x y r → IsPieceAt Q x y r
  piece_alike x y r at = record { piece = piece_along P Q alike.to alike.from r at.piece; holds = at.holds }

  touches_alike : (x y : ℤ) → Touches P x y → Touches Q x y
  touches_alike x y t = record { u = t.u; v = t.v; at = t.at; covered = alike.to t.u t.v t.covered }

  around_alike : (x y : ℤ) (r : Rectangle) → IsAroundPiece P x y r → IsAroundPiece Q x y r
  around_alike x y r a = record {
    holds = λ u v walk. a.holds u v (joined_alike Q P back x y u v walk);
    left = (a.left.0, joined_alike P Q alike x y _ _ a.left.1);
    right = (a.right.0, joined_alike P Q alike x y _ _ a.right.1);
    bottom = (a.bottom.0, joined_alike P Q alike x y _ _ a.bottom.1);
    top = (a.top.0, joined_alike P Q alike x y _ _ a.top.1);
  }

  lies_alike : (R S : ℤ → ℤ → Type 0) → AreAlike R S → (x y : ℤ) → LiesIn P R x y → LiesIn Q S x y
  lies_alike R S others x y lies = record { cell = alike.to x y lies.cell; lies = λ u v walk. others.to u v (lies.lies u v (joined_alike Q P back x y u v walk)) }

module _ (tech : Tech) (P Q : ℕ → ℤ → ℤ → Type 0) (alike : (m : ℕ) → AreAlike (P m) (Q m)) where
  reverse : (m : ℕ) → AreAlike (Q m) (P m)
  reverse m = alike_back (P m) (Q m) (alike m)

  pub one_lower_alike : (m l : ℕ) (x y : ℤ) → LiesInOne tech P m l x y → LiesInOne tech Q m l x y
  one_lower_alike m l x y one = record {
    lower = one.lower;
    lies = lies_alike (P m) (Q m) (alike m) (P l) (Q l) (alike l) x y one.lies;
    alone = λ k lower lies. one.alone k lower (lies_alike (Q m) (P m) (reverse m) (Q k) (P k) (reverse k) x y lies);
  }

  pub lowers_alike : (strips : List Placed) (lowers : List ℕ) → AreLowersOf tech P strips lowers → AreLowersOf tech Q strips lowers
  lowers_alike strips lowers are = record {
    counted = are.counted;
    of_cuts = λ i strip cut x y h. one_lower_alike (mask_of strips i) (get_or lowers i 0) x y (are.of_cuts i strip cut x y h);
    of_others = are.of_others;
  }

module _ (tech : Tech) (labels : List Label) (P Q : ℕ → ℤ → ℤ → Type 0) (alike : (m : ℕ) → AreAlike (P m) (Q m)) where
  turn : (m : ℕ) → AreAlike (Q m) (P m)
  turn m = alike_back (P m) (Q m) (alike m)

  pub has_no_alike : (shape : Shape) → HasNo tech P labels shape → HasNo tech Q labels shape
  has_no_alike CutShape h = record {
    shaped = λ m cut x y c.
        let (r, at) = h.shaped m cut x y ((alike m).from x y c) in
        (r, piece_alike (P m) (Q m) (alike m) x y r at);
  }
  has_no_alike CutUpper h = record {
    covered = λ m u upper x y c. lies_alike (P m) (Q m) (alike m) (P u) (Q u) (alike u) x y (h.covered m u upper x y ((alike m).from x y c));
  }
  has_no_alike CutLower h = record {
    standing = λ m cut x y c.
        let (l, one) = h.standing m cut x y ((alike m).from x y c) in
        (l, one_lower_alike tech P Q alike m l x y one);
  }
  has_no_alike StrayLabel h = record { touching = λ label c. touches_alike (P label.mask) (Q label.mask) (alike label.mask) label.at.0 label.at.1 (h.touching label c) }
  has_no_alike Background h = h
  has_no_alike BentChannel h = h
  has_no_alike NoKind h = h
  has_no_alike TapChannel h = h

  pub shows_alike : (shape : Shape) (rect : Rect) → ShowsShape tech P labels shape rect → ShowsShape tech Q labels shape rect
  shows_alike CutShape rect s = record {
    cut = s.cut;
    x = s.x;
    y = s.y;
    is_cut = s.is_cut;
    cell = (alike s.cut).to s.x s.y s.cell;
    bent = λ q at. s.bent q (piece_alike (Q s.cut) (P s.cut) (turn s.cut) s.x s.y q at);
    around = around_alike (P s.cut) (Q s.cut) (alike s.cut) s.x s.y (area rect) s.around;
  }
  shows_alike CutUpper rect s = record {
    cut = s.cut;
    upper = s.upper;
    x = s.x;
    y = s.y;
    is_upper = s.is_upper;
    cell = (alike s.cut).to s.x s.y s.cell;
    bare = λ lies. s.bare (lies_alike (Q s.cut) (P s.cut) (turn s.cut) (Q s.upper) (P s.upper) (turn s.upper) s.x s.y lies);
    around = around_alike (P s.cut) (Q s.cut) (alike s.cut) s.x s.y (area rect) s.around;
  }
  shows_alike CutLower rect s = record {
    cut = s.cut;
    x = s.x;
    y = s.y;
    is_cut = s.is_cut;
    cell = (alike s.cut).to s.x s.y s.cell;
    loose = λ has. s.loose (has.0, one_lower_alike tech Q P turn s.cut has.0 s.x s.y has.1);
    around = around_alike (P s.cut) (Q s.cut) (alike s.cut) s.x s.y (area rect) s.around;
  }
  shows_alike StrayLabel rect s = record {
    label = s.label;
    listed = s.listed;
    stray = λ t. s.stray (touches_alike (Q s.label.mask) (P s.label.mask) (turn s.label.mask) s.label.at.0 s.label.at.1 t);
    square = s.square;
  }
  shows_alike Background rect s = s
  shows_alike BentChannel rect s = s
  shows_alike NoKind rect s = s
  shows_alike TapChannel rect s = s

  pub sound_alike : HasSoundShapes tech P labels → HasSoundShapes tech Q labels
  sound_alike sound = record { all = All-weaker (HasNo tech P labels) (HasNo tech Q labels) has_no_alike shapes_in_order sound.all }

  pub refusal_alike : (error : NetError) → IsRefusal tech P labels error → IsRefusal tech Q labels error
  refusal_alike (SourceShape shape rect) first = record {
    before = first.before;
    after = first.after;
    in_order = first.in_order;
    none_before = All-weaker (HasNo tech P labels) (HasNo tech Q labels) has_no_alike first.before first.none_before;
    shown = shows_alike shape rect first.shown;
  }
  refusal_alike OutOfMemory none = none

-- strips of a layout whose masks are metals and cuts
module _ (layout : Layout) (tech : Tech) (wiring : All IsWiring tech.masks) (masks : length layout.masks ≡ mask_count tech) (strips : List Placed)
    (are : AreLayoutStrips layout tech strips) where
  pub own_strips : AreStrips strips
  own_strips = record {
    masks = suc (mask_count tech);
    strips_are = record {
      on_masks = are.on_masks;
      nonempty = are.nonempty;
      same_cells = λ m x y h. (λ c. c, λ c. c);
      once = are.once;
      whole_runs = are.whole_runs;
      unstacked = are.unstacked;
      in_order = are.in_order;
    };
  }

  no_gate : (m : ℕ) → IsOfRole tech Gate m → ⊥
  no_gate m is =
      let w = subst IsWiring (get_or_from_slice_get tech.masks m is.mask is.mask is.there) (All-get_or IsWiring tech.masks m is.mask (slice_get_within tech.masks m is.mask is.there) wiring) in
      elim w [ inl e ↦ no_metal (sym is.of_role ∙ e) | inr e ↦ no_cut (sym is.of_role ∙ e) ]
    where
      no_metal : Gate ≡ Metal → ⊥
      no_metal e = cc

      no_cut : Gate ≡ Cut → ⊥
      no_cut e = cc

  no_channel : (x y : ℤ) → IsInChannel layout tech x y → ⊥
  no_channel x y c = let cell = c.piece.inside x y c.holds in no_gate cell.gate cell.is_gate

  -- each strip is of a mask
  pub strips_of_masks : AreOfMasks (mask_count tech) strips
  strips_of_masks = record {
    each = λ i strip.
        let full = are.nonempty i strip in
        let r = box_of strips i in
        let m = mask_of strips i in
        let of : IsOf m strips i = record { strip = strip; mask = refl } in
        let h : Holds r r.left r.bottom = record { column = first_place _ _ full.across; row = first_place _ _ full.upwards } in
        let c = (held_alike m strips).to r.left r.bottom (record { number = i; holds = record { strip = of; cell = h } }) in
        elim ((are.same_cells m r.left r.bottom (are.on_masks i strip)).1 c).of_mask_or_channel [
          | inl d ↦ d.0
          | inr d ↦ absurd (no_channel _ _ d.1)
        ];
  }

  past_masks : (m : ℕ) (x y : ℤ) → mask_count tech ≤ m → MaskCovers layout m x y → ⊥
  past_masks m x y past c =
      let none : rectangles_of layout m ≡ [] = get_or_past layout.masks m [] (omega (arith, past, masks)) in
      let d = subst (λ (rects : List Rect). Contains (map area rects) c.0) none c.1 in
      omega (arith, d.1)

  -- the strips cover what the masks do
  pub cells_alike : (m : ℕ) → AreAlike (cells_by strips m) (MaskCovers layout m)
  cells_alike m =
      elim (cases_lt m (mask_count tech)) [
        | inl below ↦ record {
          to = λ x y c.
              elim ((are.same_cells m x y (omega (arith, below))).1 ((held_alike m strips).to x y c)).of_mask_or_channel [
                | inl d ↦ d.1
                | inr d ↦ absurd (no_channel x y d.1)
              ];
          from = λ x y c. (held_alike m strips).from x y ((are.same_cells m x y (omega (arith, below))).0 (record { of_mask_or_channel = inl (below, c) }));
        }
        | inr past ↦ record {
          to = λ x y c. absurd (omega (arith, past, strips_of_masks.each c.number c.holds.strip.strip, c.holds.strip.mask));
          from = λ x y c. absurd (past_masks m x y past c);
        }
      ]
