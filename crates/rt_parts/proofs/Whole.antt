-- Parts are nodes of the cells that aren't gate; the part that the seat of a part lies in is linked to it.
use Rattle.std.proofs.Common.{◌≡◌, ℕ, ℤ, subst}
use mathlib.Core.Logic.{inl, inr}
use Rattle.rt_cells.specs.Cells.{Joined}
use Rattle.rt_cells.specs.Cells.Joined.{here, onward}
use Rattle.rt_cells.specs.Rectangles.{Rectangle}
use Rattle.rt_family.proofs.Joins.{joined_ends, joined_both, joined_next, joined_back}
use Rattle.rt_links.specs.Links.{AreLinked}
use Rattle.rt_links.proofs.Walks.{AreNodesOf}
use Rattle.rt_parts.specs.Parts.{Place, Part, Cuts, Adjoin, IsBare, AreNext, IsInPart, IsCutting}
use Rattle.rt_parts.proofs.Inside.{part_of, one_part}
use Rattle.rt_parts.proofs.Touching.{near_linked}
use Rattle.rt_parts.proofs.Seats.{seat_x, seat_y, reach, seats_joined}

-- the cell of a part
abbrev pub seat : (box channel : ℕ → Rectangle) → Cuts → Part → Place
seat box channel cuts u = record { x = seat_x box channel cuts u; y = seat_y box channel cuts u }

abbrev pub spot : ℤ → ℤ → Place
spot x y = record { x = x; y = y }

module _ (member : ℕ → Type 0) (box channel : ℕ → Rectangle) (gate : ℤ → ℤ → Type 0) (stands : ℕ → ℕ → Type 0) (cuts : Cuts)
    (cutting : IsCutting member box channel gate stands cuts) where
  abbrev Bare : ℤ → ℤ → Type 0
  Bare = IsBare member box channel gate stands cuts

  abbrev InPart : Part → ℤ → ℤ → Type 0
  InPart = IsInPart member box channel gate stands cuts

  abbrev Next : Place → Place → Type 0
  Next = AreNext member box channel gate stands cuts

  -- joined cells are linked
  pub walk_linked : (x y p q : ℤ) → Joined Bare x y p q → AreLinked Next (spot x y) (spot p q)
  walk_linked x y p q (here c) = AreLinked.here
  walk_linked x y p q (onward v w _ _ j side c) =
      AreLinked.onward (spot v w) (spot p q) (walk_linked x y v w j) (inl (record { first = joined_ends Bare x y v w j; second = c; side = side }))

  -- linked cells are joined
  pub linked_walk : (p q : Place) → Bare p.x p.y → AreLinked Next p q → Joined Bare p.x p.y q.x q.y
  linked_walk p q b AreLinked.here = here b
  linked_walk p q b (AreLinked.onward t _ walk (inl n)) = onward t.x t.y q.x q.y (linked_walk p t b walk) n.side n.second
  linked_walk p q b (AreLinked.onward t _ walk (inr n)) =
      joined_both Bare p.x p.y t.x t.y q.x q.y (linked_walk p t b walk)
      (joined_back Bare q.x q.y t.x t.y (joined_next Bare q.x q.y t.x t.y n.first n.second n.side))

  same_linked : (u v : Part) → u ≡ v → AreLinked (Adjoin stands cuts) u v
  same_linked u v e = subst (AreLinked (Adjoin stands cuts) u) e AreLinked.here

  -- parts are nodes
  pub parts_are_nodes : AreNodesOf Next (Adjoin stands cuts) (λ p u. InPart u p.x p.y) (seat box channel cuts)
  parts_are_nodes = record {
    node = λ p q n. (part_of member box channel gate stands cuts cutting p.x p.y n.first, part_of member box channel gate stands cuts cutting q.x q.y n.second);
    one = λ p u v h k. same_linked u v (one_part member box channel gate stands cuts cutting u v p.x p.y h k);
    near = λ p q u v n h k. near_linked member box channel gate stands cuts cutting u v p.x p.y q.x q.y h k n.side;
    reach = λ p u h. walk_linked p.x p.y _ _ (reach member box channel gate stands cuts cutting u p.x p.y h);
    joined = λ u v a. walk_linked _ _ _ _ (seats_joined member box channel gate stands cuts cutting u v a);
  }
