-- The public laws.
use Rattle.std.proofs.Common.{ℕ, ◌<◌}
use Rattle.rt_cells.specs.Rectangles.{Rectangle}
use Rattle.rt_links.specs.Laws
use Rattle.rt_links.specs.Laws.{AreOfOneNet}
use Rattle.rt_links.specs.Wires.{Wires, Spot, IsOfStrip, AreNeighbours}
use Rattle.rt_links.proofs.Walks.{spots_to_nodes, nodes_to_spots}
use Rattle.rt_links.proofs.Wired.{corner, AreWired, IsWired, strips_are_nodes}
use Rattle.rt_links.proofs.Kept.{source_wired, drawing_wired, scaled_wires}
use Rattle.rt_links.proofs.Numbered.{nets_numbered}

-- spots of two strips are of one net in one layout where spots of these strips are in another that is wired alike
carried_net : (wires : Wires) (source box other : ℕ → Rectangle) → IsWired wires source box → IsWired wires source other
    → (i j : ℕ) (p q r t : Spot) → IsOfStrip wires box p i → IsOfStrip wires box q j → IsOfStrip wires other r i → IsOfStrip wires other t j
    → AreOfOneNet wires box p q → AreOfOneNet wires other r t
carried_net wires source box other wired other_wired i j p q r t a b c d walk =
    nodes_to_spots (AreNeighbours wires other) (AreWired wires source) (IsOfStrip wires other) (corner wires other) (strips_are_nodes wires source other other_wired) r t i j c d
    (spots_to_nodes (AreNeighbours wires box) (AreWired wires source) (IsOfStrip wires box) (corner wires box) (strips_are_nodes wires source box wired) p i a q walk j b)

pub nets_are_carried : Laws.NetsAreCarried
nets_are_carried wires source drawn carries p q r t one two =
    let first = source_wired wires source drawn carries in
    let second = drawing_wired wires source drawn carries in (
      λ walk. carried_net wires source source drawn first second one.strip two.strip p q r t one.in_source two.in_source one.in_drawing two.in_drawing walk,
      λ walk. carried_net wires source drawn source second first one.strip two.strip r t p q one.in_drawing two.in_drawing one.in_source two.in_source walk,
    )

pub net_numbers_are_carried : Laws.NetNumbersAreCarried
net_numbers_are_carried wires source drawn carries count first second strips fresh net drawn_fresh drawn_net one two a below =
    let carried = λ (a b : ℕ) (l : a < count) (m : b < count). nets_are_carried wires source drawn carries (first a) (first b) (second a) (second b) (strips a l) (strips b m) in
    nets_numbered count (λ a b. AreOfOneNet wires source (first a) (first b)) (λ a b. AreOfOneNet wires drawn (second a) (second b))
    (λ a b l m walk. (carried a b l m).0 walk) (λ a b l m walk. (carried a b l m).1 walk) fresh net drawn_fresh drawn_net one two a below

pub scaling_carries_wires : Laws.ScalingCarriesWires
scaling_carries_wires wires source drawn grid some carries = scaled_wires wires source drawn grid some carries
