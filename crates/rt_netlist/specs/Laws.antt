-- What is promised of nets and of their numbers.
use Rattle.std.specs.Prelude.{◌≡◌, ℕ, ◌<◌, ℤ, pos, ◌↔◌, List, length, slice_index}
use Rattle.rt_layout.specs.declared.layout.Label.{Label}
use Rattle.rt_layout.specs.declared.layout.Layout.{Layout}
use Rattle.rt_layout.specs.Covering.{MaskCovers}
use Rattle.rt_tech.specs.declared.table.Tech.{Tech}
use Rattle.rt_tech.specs.Tech.{IsMeasured}
use Rattle.rt_rules.specs.Rules.{BreaksNoRule}
use Rattle.rt_links.specs.Wires.{Spot}
use Rattle.rt_netlist.specs.Nets.{AreOnNet}
use Rattle.rt_netlist.specs.Labels.{IsOnSpot, Extracts}

-- a layout has one list of numbers of its labels' nets
abbrev pub OneListOfNumbers : Type 0
OneListOfNumbers = (tech : Tech) (layout : Layout) (numbers others : List ℕ) → Extracts tech (MaskCovers layout) layout.labels numbers
    → Extracts tech (MaskCovers layout) layout.labels others → numbers ≡ others

-- layouts whose masks cover the same cells have the same numbers, for the same labels
abbrev pub AlikeLayoutsExtractAlike : Type 0
AlikeLayoutsExtractAlike = (tech : Tech) (one other : Layout) → ((m : ℕ) (x y : ℤ) → MaskCovers one m x y ↔ MaskCovers other m x y)
    → (labels : List Label) (numbers : List ℕ) → Extracts tech (MaskCovers one) labels numbers ↔ Extracts tech (MaskCovers other) labels numbers

-- all live spots that a label is on are of one net, in a layout that breaks no rule of its table
abbrev pub LabelsAreOnOneNet : Type 0
LabelsAreOnOneNet = (tech : Tech) → IsMeasured tech → (layout : Layout) → BreaksNoRule (pos 1) tech (MaskCovers layout)
    → (labels : List Label) (a : ℕ) (p q : Spot) → IsOnSpot tech (MaskCovers layout) labels a p → IsOnSpot tech (MaskCovers layout) labels a q
    → AreOnNet tech (MaskCovers layout) p q

-- two labels on live spots have one number exactly where the spots are of one net, in a layout that breaks no rule of its table
abbrev pub NumbersTellNets : Type 0
NumbersTellNets = (tech : Tech) → IsMeasured tech → (layout : Layout) → BreaksNoRule (pos 1) tech (MaskCovers layout)
    → (labels : List Label) (numbers : List ℕ) → Extracts tech (MaskCovers layout) labels numbers → (a b : ℕ) → a < length labels → b < length labels
    → (p q : Spot) → IsOnSpot tech (MaskCovers layout) labels a p → IsOnSpot tech (MaskCovers layout) labels b q
    → (slice_index numbers a ≡ slice_index numbers b) ↔ AreOnNet tech (MaskCovers layout) p q
