-- Two layouts whose strips are cut alike have the same pieces; with this the public law.
use Rattle.std.proofs.Common.{ℕ, ℤ}
use Rattle.rt_cells.specs.Cells.{Joined}
use Rattle.rt_cells.specs.Rectangles.{Rectangle}
use Rattle.rt_family.specs.Strips.{CoveredBy, StandsOn}
use Rattle.rt_family.specs.Laws.{IsOfMask}
use Rattle.rt_family.proofs.Chains.{head_of}
use Rattle.rt_links.proofs.Walks.{spots_to_nodes, nodes_to_spots}
use Rattle.rt_parts.specs.Parts.{Part, Cuts, IsBare, AreNext, IsInPart, IsCutting, Adjoin}
use Rattle.rt_parts.specs.Laws.{PartsKeepPieces, CutsStayInParts}
use Rattle.rt_parts.proofs.Inside.{part, part_bare}
use Rattle.rt_parts.proofs.Sides.{last_of, hosts_linked, corner_in_part}
use Rattle.rt_parts.proofs.Whole.{spot, seat, walk_linked, linked_walk, parts_are_nodes}

-- what is joined in one layout is joined in another that is cut alike
pub pieces_carried : (member : ℕ → Type 0) (stands : ℕ → ℕ → Type 0) (cuts : Cuts)
    (box channel : ℕ → Rectangle) (gate : ℤ → ℤ → Type 0) → IsCutting member box channel gate stands cuts
    → (drawn drawn_channel : ℕ → Rectangle) (drawn_gate : ℤ → ℤ → Type 0) → IsCutting member drawn drawn_channel drawn_gate stands cuts
    → (u v : Part) (x y p q : ℤ) → IsInPart member box channel gate stands cuts u x y → IsInPart member box channel gate stands cuts v p q
    → (z w s t : ℤ) → IsInPart member drawn drawn_channel drawn_gate stands cuts u z w → IsInPart member drawn drawn_channel drawn_gate stands cuts v s t
    → Joined (IsBare member box channel gate stands cuts) x y p q → Joined (IsBare member drawn drawn_channel drawn_gate stands cuts) z w s t
pieces_carried member stands cuts box channel gate first drawn drawn_channel drawn_gate second u v x y p q a b z w s t c d walk =
    linked_walk member drawn drawn_channel drawn_gate stands cuts second (spot z w) (spot s t) (part_bare member drawn drawn_channel drawn_gate stands cuts second u z w c)
    (nodes_to_spots (AreNext member drawn drawn_channel drawn_gate stands cuts) (Adjoin stands cuts)
    (λ r n. IsInPart member drawn drawn_channel drawn_gate stands cuts n r.x r.y) (seat drawn drawn_channel cuts)
    (parts_are_nodes member drawn drawn_channel drawn_gate stands cuts second) (spot z w) (spot s t) u v c d
    (spots_to_nodes (AreNext member box channel gate stands cuts) (Adjoin stands cuts)
    (λ r n. IsInPart member box channel gate stands cuts n r.x r.y) (seat box channel cuts)
    (parts_are_nodes member box channel gate stands cuts first) (spot x y) u a (spot p q) (walk_linked member box channel gate stands cuts first x y p q walk) v b))

pub parts_keep_pieces : PartsKeepPieces
parts_keep_pieces count mask m g source drawn channel drawn_channel cuts first second u v x y p q a b z w s t c d =
    let member = IsOfMask count mask m in
    let stands = StandsOn (IsOfMask count mask m) source in
    let gate = CoveredBy (IsOfMask count mask g) source in
    let drawn_gate = CoveredBy (IsOfMask count mask g) drawn in (
      pieces_carried member stands cuts source channel gate first drawn drawn_channel drawn_gate second u v x y p q a b z w s t c d,
      pieces_carried member stands cuts drawn drawn_channel drawn_gate second source channel gate first u v z w s t c d x y p q a b,
    )

pub cuts_stay_in_parts : CutsStayInParts
cuts_stay_in_parts count mask m g model box channel other other_channel cuts first_cutting second_cutting cut other_cut n o place first chain last hosts at low high =
    let member = IsOfMask count mask m in
    let stands = StandsOn (IsOfMask count mask m) model in
    let gate = CoveredBy (IsOfMask count mask g) box in
    let other_gate = CoveredBy (IsOfMask count mask g) other in
    let begin = corner_in_part member stands cuts box channel gate first_cutting other other_channel other_gate second_cutting cut other_cut n o place
    first (at first (head_of member box first chain last hosts)).0 low in
    let linked = hosts_linked member stands cuts box channel gate first_cutting other other_channel other_gate second_cutting cut other_cut n o place
    first chain last hosts at low.to high.from in (
      begin,
      corner_in_part member stands cuts other other_channel other_gate second_cutting box channel gate first_cutting other_cut cut o n place
          last (at last (last_of member box first chain last hosts)).1 high,
      λ x y h. linked_walk member box channel gate stands cuts first_cutting (spot cut.left cut.bottom) (spot x y)
          (part_bare member box channel gate stands cuts first_cutting (part first (place first)) cut.left cut.bottom begin)
          (nodes_to_spots (AreNext member box channel gate stands cuts) (Adjoin stands cuts)
          (λ r n. IsInPart member box channel gate stands cuts n r.x r.y) (seat box channel cuts)
          (parts_are_nodes member box channel gate stands cuts first_cutting) (spot cut.left cut.bottom) (spot x y)
          (part first (place first)) (part last (place last)) begin h linked),
    )
