-- A source and its drawing have the same strips as nodes, joined alike.
use Rattle.std.proofs.Common.{◌≡◌, ℕ, ℤ, pos, ◌*ℤ◌, ◌≤ℤ◌, Contains, refl, subst, arith}
use Rattle.std.proofs.lemmas.Int.{ints}
use Rattle.rt_cells.specs.Rectangles.{Rectangle, IsNonempty, Holds, scaled}
use Rattle.rt_cells.proofs.Rectangles.{joined_inside}
use Rattle.rt_cells.proofs.Times.{times_lt}
use Rattle.rt_family.specs.Strips.{HoldsCell, CoveredBy, AreConnected, IsHost}
use Rattle.rt_family.proofs.Strips.{same_close, one_holder, joined_connected}
use Rattle.rt_family.proofs.Chains.{has_hosts}
use Rattle.rt_family.proofs.Drawn.{drawn_family, drawn_stands, source_stands}
use Rattle.rt_family.proofs.Scaled.{scaled_carried}
use Rattle.rt_cuts.specs.Cuts.{grown}
use Rattle.rt_cuts.proofs.Inside.{grown_full, chain_covers}
use Rattle.rt_cuts.proofs.Scaled.{scaled_not_negative, scaled_inside}
use Rattle.rt_links.specs.Wires.{Wires, OfMask, IsKeptWithin, IsKeptCut, CarriesWires}
use Rattle.rt_links.proofs.Chains.{chain_connected}
use Rattle.rt_links.proofs.Wired.{corner_in, IsLaidOn, IsWired}

in_grown : (number : ℤ) (r : Rectangle) (x y : ℤ) → pos 0 ≤ℤ number → Holds r x y → Holds (grown number r) x y
in_grown number r x y p h = record {
  column = record { from = omega (arith, ints, h.column); to = omega (arith, ints, h.column) };
  row = record { from = omega (arith, ints, h.row); to = omega (arith, ints, h.row) };
}

-- a strip that holds a cell of a rectangle is a host of it
holder_is_host : (member : ℕ → Type 0) (box : ℕ → Rectangle) (i : ℕ) (x y : ℤ) (area : Rectangle) → HoldsCell member box i x y → Holds area x y → IsHost member box area i
holder_is_host member box i x y area h k = record {
  strip = h.strip;
  columns = record { first = omega (arith, ints, h.cell.column, k.column); second = omega (arith, ints, h.cell.column, k.column) };
  rows = record { first = omega (arith, ints, h.cell.row, k.row); second = omega (arith, ints, h.cell.row, k.row) };
}

module _ (wires : Wires) (source drawn : ℕ → Rectangle) (carries : CarriesWires wires source drawn) where
  in_source : (c m : ℕ) → IsNonempty (source c) → IsKeptWithin wires source drawn c m → IsLaidOn wires source source c m
  in_source c m cell kept =
      let carried = carries.carried m kept.conducts in
      let covered : (x y : ℤ) → Holds (source c) x y → CoveredBy (OfMask wires m) source x y = λ x y h. kept.covered x y (in_grown kept.near (source c) x y kept.some_near h) in
      let at = covered _ _ (corner_in (source c) cell) in
      record {
        conducts = kept.conducts;
        cell = cell;
        covered = covered;
        strip = at.number;
        there = at.holds;
        connected = λ x y i j h k t.
            joined_connected (OfMask wires m) source carried.family i x y k (source c).left (source c).bottom
            (joined_inside (CoveredBy (OfMask wires m) source) (source c) covered x y (source c).left (source c).bottom h (corner_in (source c) cell)) j t;
      }

  in_drawing : (c m : ℕ) → IsNonempty (source c) → IsNonempty (drawn c) → IsKeptWithin wires source drawn c m → IsLaidOn wires source drawn c m
  in_drawing c m cell drawn_cell kept =
      let member = OfMask wires m in
      let carried = carries.carried m kept.conducts in
      let area = grown kept.near (source c) in
      let found = has_hosts member source carried.family area (grown_full kept.near (source c) kept.some_near cell) kept.covered in
      let hosts = found.3 in
      let cover : (x y : ℤ) → Holds (drawn c) x y → (k : ℕ) × Contains found.2 k × HoldsCell member drawn k x y =
      λ x y h. chain_covers (λ i. i ≡ c) member source drawn (carries.width m) (carries.space m) carried kept.near kept.number kept.some_near kept.inside
      c found.0 found.1 found.2 refl hosts x y (in_grown kept.number (drawn c) x y kept.some_number h) in
      let corner_area = in_grown kept.near (source c) (source c).left (source c).bottom kept.some_near (corner_in (source c) cell) in
      let at = kept.covered _ _ corner_area in
      record {
        conducts = kept.conducts;
        cell = drawn_cell;
        covered = λ x y h. let t = cover x y h in record { number = t.0; holds = t.2 };
        strip = at.number;
        there = at.holds;
        connected = λ x y i j h k t.
            let r = cover x y h in
            let e = one_holder member drawn (drawn_family member source drawn (carries.width m) (carries.space m) carried) r.0 i x x y r.2 k (same_close x) in
            subst (λ n. AreConnected member source n j) e
            (chain_connected member source found.0 found.1 found.2 hosts.stacked r.0 j r.1 (hosts.every j (holder_is_host member source j _ _ area t corner_area)));
      }

  -- the source is wired
  pub source_wired : IsWired wires source source
  source_wired = record {
    family = λ m live. (carries.carried m live).family;
    to_box = λ m i j live s. s;
    from_box = λ m i j live s. s;
    upper = λ c k. let cut = carries.cuts c k in in_source c (wires.upper c) cut.source_cell cut.in_upper;
    lower = λ c k. let cut = carries.cuts c k in in_source c (wires.lower c) cut.source_cell cut.in_lower;
  }

  -- the drawing is wired alike
  pub drawing_wired : IsWired wires source drawn
  drawing_wired = record {
    family = λ m live. drawn_family (OfMask wires m) source drawn (carries.width m) (carries.space m) (carries.carried m live);
    to_box = λ m i j live s. drawn_stands (OfMask wires m) source drawn (carries.width m) (carries.space m) (carries.carried m live) i j s;
    from_box = λ m i j live s. source_stands (OfMask wires m) source drawn (carries.width m) (carries.space m) (carries.carried m live) i j s;
    upper = λ c k. let cut = carries.cuts c k in in_drawing c (wires.upper c) cut.source_cell cut.drawn_cell cut.in_upper;
    lower = λ c k. let cut = carries.cuts c k in in_drawing c (wires.lower c) cut.source_cell cut.drawn_cell cut.in_lower;
  }

module _ (wires : Wires) (source drawn : ℕ → Rectangle) (grid : ℤ) (some : pos 1 ≤ℤ grid) where
  scaled_within : (c m : ℕ) → IsKeptWithin wires source drawn c m → IsKeptWithin wires source (λ i. scaled grid (drawn i)) c m
  scaled_within c m kept = record {
    conducts = kept.conducts;
    near = kept.near;
    number = grid *ℤ kept.number;
    some_near = kept.some_near;
    some_number = scaled_not_negative grid some kept.number kept.some_number;
    covered = kept.covered;
    inside = scaled_inside grid some (λ i. i ≡ c) (OfMask wires m) source drawn kept.near kept.number kept.inside;
  }

  scaled_cut : (c : ℕ) → IsKeptCut wires source drawn c → IsKeptCut wires source (λ i. scaled grid (drawn i)) c
  scaled_cut c kept = record {
    source_cell = kept.source_cell;
    drawn_cell = record {
      across = times_lt grid (drawn c).left (drawn c).right some kept.drawn_cell.across;
      upwards = times_lt grid (drawn c).bottom (drawn c).top some kept.drawn_cell.upwards;
    };
    in_upper = scaled_within c (wires.upper c) kept.in_upper;
    in_lower = scaled_within c (wires.lower c) kept.in_lower;
  }

  -- wires are carried in database units
  pub scaled_wires : CarriesWires wires source drawn → CarriesWires wires source (λ i. scaled grid (drawn i))
  scaled_wires carries = record {
    width = λ m. grid *ℤ carries.width m;
    space = λ m i j. grid *ℤ carries.space m i j;
    carried = λ m live. scaled_carried grid some (OfMask wires m) source drawn (carries.width m) (carries.space m) (carries.carried m live);
    cuts = λ c k. scaled_cut c (carries.cuts c k);
  }
