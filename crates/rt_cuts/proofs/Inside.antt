-- What encloses a strip in the source encloses its drawing.
use Rattle.std.proofs.Common.{ℕ, ℤ, pos, ◌+ℤ◌, ◌-ℤ◌, ◌≤ℤ◌, ◌<ℤ◌, List, [], All, Contains, arith}
use Rattle.std.proofs.lemmas.Int.{ints, clamps}
use Rattle.std.proofs.lemmas.List.Elements.{All-contains, All-weaker}
use Rattle.rt_cells.specs.Line.{Within, nearest_place}
use Rattle.rt_cells.specs.Rectangles.{Rectangle, IsNonempty, Holds}
use Rattle.rt_rules.specs.Cuts.{IsWithin, KeepsEnclosed}
use Rattle.rt_family.specs.Strips.{SpansColumns, HoldsCell, CoveredBy, IsChain, IsHost, AreHosts}
use Rattle.rt_family.specs.Strips.IsChain.{one, more}
use Rattle.rt_family.specs.Carried.{IsCarried}
use Rattle.rt_family.proofs.Chains.{Contains-head, Contains-rest, head_of, has_hosts}
use Rattle.rt_family.proofs.Hosted.{drawn_hosts_cover}
use Rattle.rt_cuts.specs.Cuts.{grown, IsKeptInside}

-- the last strip of a chain is in it
last_of : (member : ℕ → Type 0) (box : ℕ → Rectangle) (first : ℕ) (chain : List ℕ) (last : ℕ) → IsChain member box first chain last → Contains chain last
last_of member box i _ _ (one _ m) = Contains-head i []
last_of member box i _ last (more _ j _ rest stands c) = Contains-rest i rest last (last_of member box j rest last c)

pub nearest_inside : (low high near u : ℤ) → low <ℤ high → Within (low -ℤ near) (high +ℤ near) u → Within low high (nearest_place low high u)
nearest_inside low high near u l h = record { from = omega (arith, ints, clamps); to = omega (arith, ints, clamps) }

pub nearest_near : (low high near u : ℤ) → pos 0 ≤ℤ near → low <ℤ high → Within (low -ℤ near) (high +ℤ near) u
    → ((nearest_place low high u -ℤ near) ≤ℤ u) × (u ≤ℤ (nearest_place low high u +ℤ near))
nearest_near low high near u p l h = (omega (arith, ints, clamps), omega (arith, ints, clamps))

-- a grown rectangle has a cell
pub grown_full : (near : ℤ) (r : Rectangle) → pos 0 ≤ℤ near → IsNonempty r → IsNonempty (grown near r)
grown_full near r p h = record { across = omega (arith, ints); upwards = omega (arith, ints) }

-- a cell within the number of one of a rectangle lies in the grown rectangle
pub near_grown : (number : ℤ) (r : Rectangle) (x y u v : ℤ) → Holds r x y → IsWithin number x y u v → Holds (grown number r) u v
near_grown number r x y u v h near = record {
  column = record { from = omega (arith, ints, h.column, near.columns.from); to = omega (arith, ints, h.column, near.columns.to) };
  row = record { from = omega (arith, ints, h.row, near.rows.from); to = omega (arith, ints, h.row, near.rows.to) };
}

-- a rectangle whose near cells are covered is covered when grown
grown_covered : (near : ℤ) (r : Rectangle) (cells around : ℤ → ℤ → Type 0) → pos 0 ≤ℤ near → IsNonempty r → ((x y : ℤ) → Holds r x y → cells x y)
    → KeepsEnclosed near cells around → (u v : ℤ) → Holds (grown near r) u v → around u v
grown_covered near r cells around p full covered enclosed u v h =
    let x = nearest_place r.left r.right u in
    let y = nearest_place r.bottom r.top v in
    let c = nearest_near r.left r.right near u p full.across h.column in
    let d = nearest_near r.bottom r.top near v p full.upwards h.row in
    enclosed x y u v
    (covered x y (record { column = nearest_inside r.left r.right near u full.across h.column; row = nearest_inside r.bottom r.top near v full.upwards h.row }))
    (record { columns = record { from = c.0; to = c.1 }; rows = record { from = d.0; to = d.1 } })

by_left : (a b n : ℤ) → (a +ℤ n) ≤ℤ b → a ≤ℤ (b -ℤ n)
by_left a b n h = omega (arith, ints)

module _ (first host : ℕ → Type 0) (source drawn : ℕ → Rectangle) (w : ℤ) (s : ℕ → ℕ → ℤ) (carried : IsCarried host source drawn w s)
    (near number : ℤ) (some : pos 0 ≤ℤ near) (kept : IsKeptInside first host source drawn near number) where
  -- the hosts of a strip in the source cover its drawing, grown by the number
  pub chain_covers : (i lowest highest : ℕ) (chain : List ℕ) → first i → AreHosts host source (grown near (source i)) lowest highest chain
      → (x y : ℤ) → Holds (grown number (drawn i)) x y → (k : ℕ) × Contains chain k × HoldsCell host drawn k x y
  chain_covers i lowest highest chain m hosts x y h =
      let area = grown near (source i) in
      let is_host : (k : ℕ) → Contains chain k → IsHost host source area k = λ k c. All-contains (IsHost host source area) chain k hosts.hosts c in
      let low = kept.bottom i lowest m (is_host lowest (head_of host source lowest chain highest hosts.stacked)) hosts.lowest in
      let high = kept.top i highest m (is_host highest (last_of host source lowest chain highest hosts.stacked)) hosts.highest_ends in
      let wide : All (λ k. SpansColumns (drawn k) (grown number (drawn i))) chain =
      All-weaker (IsHost host source area) (λ k. SpansColumns (drawn k) (grown number (drawn i)))
      (λ k t. record { left = by_left (drawn k).left (drawn i).left number (kept.left i k m t); right = kept.right i k m t }) chain hosts.hosts in
      drawn_hosts_cover host source drawn w s carried lowest highest chain hosts.stacked (grown number (drawn i)) wide (by_left _ _ number low) high x y h

  -- the rule of enclosure is kept
  pub enclosed_drawn : ((i : ℕ) → first i → IsNonempty (source i)) → KeepsEnclosed near (CoveredBy first source) (CoveredBy host source)
      → KeepsEnclosed number (CoveredBy first drawn) (CoveredBy host drawn)
  enclosed_drawn full enclosed x y u v c near_by =
      let i = c.number in
      let m = c.holds.strip in
      let filled = grown_covered near (source i) (CoveredBy first source) (CoveredBy host source) some (full i m)
      (λ p q h. record { number = i; holds = record { strip = m; cell = h } }) enclosed in
      let found = has_hosts host source carried.family (grown near (source i)) (grown_full near (source i) some (full i m)) filled in
      let r = chain_covers i found.0 found.1 found.2 m found.3 u v (near_grown number (drawn i) x y u v c.holds.cell near_by) in
      record { number = r.0; holds = r.2 }
