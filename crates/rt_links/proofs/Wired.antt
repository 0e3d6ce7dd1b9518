-- Strips are the nodes of the spots of a layout, the source or its drawing: joined where one stands on another in the source, and where a
-- cut of the source has its lower left cell in both.
use Rattle.std.proofs.Common.{ℕ, ℤ, ◌⊎◌, IsTrue, refl, sym, subst, inl, inr}
use Rattle.rt_cells.specs.Cells.{Joined}
use Rattle.rt_cells.specs.Cells.Joined.{here, onward}
use Rattle.rt_cells.specs.Rectangles.{Rectangle, IsNonempty, Holds}
use Rattle.rt_cells.proofs.Lines.{first_place}
use Rattle.rt_family.specs.Strips.{HoldsCell, CoveredBy, IsFamily, StandsOn, AreConnected}
use Rattle.rt_family.specs.Strips.AreConnected.{same, up, down}
use Rattle.rt_family.proofs.Strips.{same_close, one_holder, some_cell, connected_joined, joined_connected}
use Rattle.rt_family.proofs.Joins.{joined_ends, joined_next}
use Rattle.rt_links.specs.Links.{AreLinked}
use Rattle.rt_links.specs.Wires.{Wires, OfMask, Spot, IsOfStrip, AreNeighbours}
use Rattle.rt_links.proofs.Walks.{linked_both, linked_back, AreNodesOf}
use Rattle.rt_links.proofs.Chains.{connected_ends, connected_alike}

abbrev pub spot : ℕ → ℤ → ℤ → Spot
spot m x y = record { mask = m; x = x; y = y }

-- the spot of a strip: its lower left cell
abbrev pub corner : Wires → (ℕ → Rectangle) → ℕ → Spot
corner wires box i = spot (wires.mask i) (box i).left (box i).bottom

-- a rectangle has its lower left cell
pub corner_in : (r : Rectangle) → IsNonempty r → Holds r r.left r.bottom
corner_in r n = record { column = first_place _ _ n.across; row = first_place _ _ n.upwards }

-- strip i of mask m holds the lower left cell of cut c
abbrev pub HoldsCut : Wires → (ℕ → Rectangle) → ℕ → ℕ → ℕ → Type 0
HoldsCut wires source c m i = HoldsCell (OfMask wires m) source i (source c).left (source c).bottom

-- strip j stands on strip i of a mask that conducts
pub record StandsSomewhere (wires : Wires) (source : ℕ → Rectangle) (i j : ℕ) : Type 0 where
  pub mask : ℕ
  pub conducts : IsTrue (wires.conducting mask)
  pub stands : StandsOn (OfMask wires mask) source i j

-- a cut lies on strip i of the mask above it and on strip j of the mask below it
pub record IsCutBetween (wires : Wires) (source : ℕ → Rectangle) (i j : ℕ) : Type 0 where
  pub cut : ℕ
  pub is_cut : IsTrue (wires.cuts cut)
  pub upper : HoldsCut wires source cut (wires.upper cut) i
  pub lower : HoldsCut wires source cut (wires.lower cut) j

-- two strips are joined directly
abbrev pub AreWired : Wires → (ℕ → Rectangle) → ℕ → ℕ → Type 0
AreWired wires source i j = StandsSomewhere wires source i j ⊎ IsCutBetween wires source i j

module _ (wires : Wires) (source box : ℕ → Rectangle) where
  -- cut c lies in mask m, and its cells there are of strips connected to the one that holds its lower left cell in the source
  pub record IsLaidOn (c m : ℕ) : Type 0 where
    pub conducts : IsTrue (wires.conducting m)
    pub cell : IsNonempty (box c)
    pub covered : (x y : ℤ) → Holds (box c) x y → CoveredBy (OfMask wires m) box x y
    pub strip : ℕ
    pub there : HoldsCut wires source c m strip
    pub connected : (x y : ℤ) (i j : ℕ) → Holds (box c) x y → HoldsCell (OfMask wires m) box i x y → HoldsCut wires source c m j
        → AreConnected (OfMask wires m) source i j

  -- the strips of each mask that conducts are a family, of which strips stand on each other as in the source, and cuts lie on two of them
  pub record IsWired : Type 0 where
    pub family : (m : ℕ) → IsTrue (wires.conducting m) → IsFamily (OfMask wires m) box
    pub to_box : (m i j : ℕ) → IsTrue (wires.conducting m) → StandsOn (OfMask wires m) source i j → StandsOn (OfMask wires m) box i j
    pub from_box : (m i j : ℕ) → IsTrue (wires.conducting m) → StandsOn (OfMask wires m) box i j → StandsOn (OfMask wires m) source i j
    pub upper : (c : ℕ) → IsTrue (wires.cuts c) → IsLaidOn c (wires.upper c)
    pub lower : (c : ℕ) → IsTrue (wires.cuts c) → IsLaidOn c (wires.lower c)

module _ (wires : Wires) (source box : ℕ → Rectangle) (wired : IsWired wires source box) where
  abbrev Next : Spot → Spot → Type 0
  Next = AreNeighbours wires box

  abbrev Join : ℕ → ℕ → Type 0
  Join = AreWired wires source

  connected_linked : (m : ℕ) → IsTrue (wires.conducting m) → (i j : ℕ) → AreConnected (OfMask wires m) source i j → AreLinked Join i j
  connected_linked m live i j (same _) = AreLinked.here
  connected_linked m live i j (up l _ c s) = AreLinked.onward l j (connected_linked m live i l c) (inl (inl (record { mask = m; conducts = live; stands = s })))
  connected_linked m live i j (down l _ c s) = AreLinked.onward l j (connected_linked m live i l c) (inr (inl (record { mask = m; conducts = live; stands = s })))

  -- the strips of joined cells of a mask are linked
  joined_linked : (m : ℕ) → IsTrue (wires.conducting m) → (i j : ℕ) (x y u v : ℤ) → HoldsCell (OfMask wires m) box i x y → HoldsCell (OfMask wires m) box j u v
      → Joined (CoveredBy (OfMask wires m) box) x y u v → AreLinked Join i j
  joined_linked m live i j x y u v h k walk =
      connected_linked m live i j (connected_alike (OfMask wires m) box source (λ a b s. wired.from_box m a b live s) i j
      (joined_connected (OfMask wires m) box (wired.family m live) i x y h u v walk j k))

  -- joined cells of a mask are linked
  walk_spots : (m : ℕ) → IsTrue (wires.conducting m) → (x y u v : ℤ) → Joined (CoveredBy (OfMask wires m) box) x y u v → AreLinked Next (spot m x y) (spot m u v)
  walk_spots m live x y u v (here c) = AreLinked.here
  walk_spots m live x y u v (onward p q _ _ j side c) =
      AreLinked.onward (spot m p q) (spot m u v) (walk_spots m live x y p q j)
      (inl (record {
        first = record { conducts = live; covered = joined_ends (CoveredBy (OfMask wires m) box) x y p q j };
        second = record { conducts = live; covered = c };
        near = inl (record { one_mask = refl; side = side });
      }))

  -- a strip with a cell of a cut is linked to the strip that holds the cut's lower left cell in the source
  in_cut : (c m : ℕ) (laid : IsLaidOn wires source box c m) (x y : ℤ) → Holds (box c) x y → (i : ℕ) → HoldsCell (OfMask wires m) box i x y → AreLinked Join i laid.strip
  in_cut c m laid x y h i k = connected_linked m laid.conducts i laid.strip (laid.connected x y i laid.strip h k laid.there)

  -- the strips of neighbouring spots are linked
  near_spots : (p q : Spot) (i j : ℕ) → Next p q → IsOfStrip wires box p i → IsOfStrip wires box q j → AreLinked Join i j
  near_spots p q i j n h k = elim (n.near) [
    | inl b ↦
        let k' : HoldsCell (OfMask wires p.mask) box j q.x q.y = subst (λ m. HoldsCell (OfMask wires m) box j q.x q.y) b.one_mask k.holds in
        joined_linked p.mask h.conducts i j p.x p.y q.x q.y h.holds k'
        (joined_next (CoveredBy (OfMask wires p.mask) box) p.x p.y q.x q.y (record { number = i; holds = h.holds }) (record { number = j; holds = k' }) b.side)
    | inr c ↦
        let above = wired.upper c.cut c.is_cut in
        let below = wired.lower c.cut c.is_cut in
        let one = in_cut c.cut (wires.upper c.cut) above p.x p.y c.first_in i (subst (λ m. HoldsCell (OfMask wires m) box i p.x p.y) (sym c.upper) h.holds) in
        let two = in_cut c.cut (wires.lower c.cut) below q.x q.y c.second_in j (subst (λ m. HoldsCell (OfMask wires m) box j q.x q.y) (sym c.lower) k.holds) in
        linked_both Join i above.strip j one
        (linked_both Join above.strip below.strip j
        (AreLinked.onward above.strip below.strip AreLinked.here (inl (inr (record { cut = c.cut; is_cut = c.is_cut; upper = above.there; lower = below.there }))))
        (linked_back Join j below.strip two))
  ]

  -- a cell of a strip is linked to the lower left cell of a strip that it is connected to
  to_corner_of : (m : ℕ) → IsTrue (wires.conducting m) → (i j : ℕ) → AreConnected (OfMask wires m) source i j → (x y : ℤ) → HoldsCell (OfMask wires m) box i x y
      → AreLinked Next (spot m x y) (corner wires box j)
  to_corner_of m live i j c x y h =
      let family = wired.family m live in
      let n = connected_ends (OfMask wires m) source i j c in
      let k = some_cell (OfMask wires m) box family j n in
      subst (λ t. AreLinked Next (spot m x y) (spot t (box j).left (box j).bottom)) (sym n.of_mask)
      (walk_spots m live x y _ _ (connected_joined (OfMask wires m) box family i j
      (connected_alike (OfMask wires m) source box (λ a b s. wired.to_box m a b live s) i j c) x y _ _ h k))

  -- a cell of a strip is linked to the strip's lower left cell
  to_corner : (m : ℕ) → IsTrue (wires.conducting m) → (i : ℕ) (x y : ℤ) → HoldsCell (OfMask wires m) box i x y → AreLinked Next (spot m x y) (corner wires box i)
  to_corner m live i x y h = to_corner_of m live i i (same h.strip) x y h

  -- the lower left cell of a cut, in a mask that it is laid on, is linked to that of the strip that holds it in the source
  cut_corner : (c m : ℕ) → IsLaidOn wires source box c m → (j : ℕ) → HoldsCut wires source c m j → AreLinked Next (spot m (box c).left (box c).bottom) (corner wires box j)
  cut_corner c m laid j k =
      let at = corner_in (box c) laid.cell in
      let h = laid.covered _ _ at in
      to_corner_of m laid.conducts h.number j (laid.connected _ _ h.number j at h.holds k) _ _ h.holds

  corners_joined : (i j : ℕ) → Join i j → AreLinked Next (corner wires box i) (corner wires box j)
  corners_joined i j (inl s) =
      let family = wired.family s.mask s.conducts in
      let h = some_cell (OfMask wires s.mask) box family i s.stands.lower in
      linked_both Next (corner wires box i) (spot s.mask (box i).left (box i).bottom) (corner wires box j)
      (linked_back Next (spot s.mask (box i).left (box i).bottom) (corner wires box i) (to_corner s.mask s.conducts i _ _ h))
      (to_corner_of s.mask s.conducts i j (up i j (same s.stands.lower) s.stands) _ _ h)
  corners_joined i j (inr c) =
      let above = wired.upper c.cut c.is_cut in
      let below = wired.lower c.cut c.is_cut in
      let at = corner_in (box c.cut) above.cell in
      let p = spot (wires.upper c.cut) (box c.cut).left (box c.cut).bottom in
      let q = spot (wires.lower c.cut) (box c.cut).left (box c.cut).bottom in
      linked_both Next (corner wires box i) p (corner wires box j)
      (linked_back Next p (corner wires box i) (cut_corner c.cut (wires.upper c.cut) above i c.upper))
      (linked_both Next p q (corner wires box j)
      (AreLinked.onward p q AreLinked.here (inl (record {
        first = record { conducts = above.conducts; covered = above.covered _ _ at };
        second = record { conducts = below.conducts; covered = below.covered _ _ at };
        near = inr (record { cut = c.cut; is_cut = c.is_cut; upper = refl; lower = refl; first_in = at; second_in = at });
      })))
      (cut_corner c.cut (wires.lower c.cut) below j c.lower))

  -- strips are nodes
  pub strips_are_nodes : AreNodesOf Next Join (IsOfStrip wires box) (corner wires box)
  strips_are_nodes = record {
    node = λ p q n. (
      (n.first.covered.number, record { conducts = n.first.conducts; holds = n.first.covered.holds }),
      (n.second.covered.number, record { conducts = n.second.conducts; holds = n.second.covered.holds }),
    );
    one = λ p i j h k. subst (AreLinked Join i) (one_holder (OfMask wires p.mask) box (wired.family p.mask h.conducts) i j p.x p.x p.y h.holds k.holds (same_close p.x)) AreLinked.here;
    near = near_spots;
    reach = λ p i h. to_corner p.mask h.conducts i p.x p.y h.holds;
    joined = corners_joined;
  }
