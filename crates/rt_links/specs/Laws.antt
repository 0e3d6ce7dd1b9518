-- What is promised of drawings that carry what conducts.
use Rattle.std.specs.Prelude.{◌≡◌, ℕ, ◌<◌, ℤ, pos, ◌≤ℤ◌, ◌↔◌}
use Rattle.rt_cells.specs.Rectangles.{Rectangle, scaled}
use Rattle.rt_links.specs.Links.{AreLinked}
use Rattle.rt_links.specs.Numbers.{AreNumbered}
use Rattle.rt_links.specs.Wires.{Wires, Spot, AreNeighbours, CarriesWires, AreOfOneStrip}

-- the two spots are of one net
abbrev pub AreOfOneNet : Wires → (ℕ → Rectangle) → Spot → Spot → Type 0
AreOfOneNet wires box p q = AreLinked (AreNeighbours wires box) p q

-- spots of two strips are of one net in the source exactly where spots of these strips are in the drawing
abbrev pub NetsAreCarried : Type 0
NetsAreCarried = (wires : Wires) (source drawn : ℕ → Rectangle) → CarriesWires wires source drawn
    → (p q r t : Spot) → AreOfOneStrip wires source drawn p r → AreOfOneStrip wires source drawn q t
    → AreOfOneNet wires source p q ↔ AreOfOneNet wires drawn r t

-- terminals on the same strips, in the same order, have the same numbers of nets
abbrev pub NetNumbersAreCarried : Type 0
NetNumbersAreCarried = (wires : Wires) (source drawn : ℕ → Rectangle) → CarriesWires wires source drawn
    → (count : ℕ) (first second : ℕ → Spot) → ((a : ℕ) → a < count → AreOfOneStrip wires source drawn (first a) (second a))
    → (fresh net drawn_fresh drawn_net : ℕ → ℕ)
    → AreNumbered count (λ a b. AreOfOneNet wires source (first a) (first b)) fresh net
    → AreNumbered count (λ a b. AreOfOneNet wires drawn (second a) (second b)) drawn_fresh drawn_net
    → (a : ℕ) → a < count → net a ≡ drawn_net a

-- wires that are carried in steps are carried in database units, with so many of them a step
abbrev pub ScalingCarriesWires : Type 0
ScalingCarriesWires = (wires : Wires) (source drawn : ℕ → Rectangle) (grid : ℤ) → pos 1 ≤ℤ grid
    → CarriesWires wires source drawn → CarriesWires wires source (λ i. scaled grid (drawn i))
