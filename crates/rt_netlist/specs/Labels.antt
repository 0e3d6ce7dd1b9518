-- Labels on nets, and the numbers of their nets. Labels go by their numbers in the layout's order, from 0.
use Rattle.std.specs.Prelude.{◌≡◌, ℕ, ℤ, List, length, slice_get, slice_index, Some}
use Rattle.rt_layout.specs.declared.layout.Label.{Label}
use Rattle.rt_tech.specs.declared.table.Tech.{Tech}
use Rattle.rt_cuts.specs.Labels.{IsAtPoint}
use Rattle.rt_links.specs.Numbers.{AreNumbered}
use Rattle.rt_links.specs.Wires.{Spot}
use Rattle.rt_netlist.specs.Nets.{IsLive, AreOnNet}

module _ (tech : Tech) (cells : ℕ → ℤ → ℤ → Type 0) (labels : List Label) where
  -- label number a is on the live spot: it is a label of the spot's mask, and its point is a corner of the spot's cell
  pub record IsOnSpot (a : ℕ) (p : Spot) : Type 0 where
    pub label : Label
    pub there : slice_get labels a ≡ Some label
    pub of_mask : p.mask ≡ label.mask
    pub at : IsAtPoint label.at.0 label.at.1 p.x p.y
    pub live : IsLive tech cells p

  -- labels number a and b are on one net
  pub record AreOnOneNet (a b : ℕ) : Type 0 where
    pub first : Spot
    pub second : Spot
    pub on_first : IsOnSpot a first
    pub on_second : IsOnSpot b second
    pub one_net : AreOnNet tech cells first second

  -- the numbers are those of the labels' nets, one for each label in order: nets are numbered 0, 1, 2, .. as each appears first. A label that is on
  -- no live spot counts as a net of its own
  pub record Extracts (numbers : List ℕ) : Type 0 where
    pub counted : length numbers ≡ length labels
    pub fresh : ℕ → ℕ
    pub numbered : AreNumbered (length labels) AreOnOneNet fresh (λ a. slice_index numbers a)
