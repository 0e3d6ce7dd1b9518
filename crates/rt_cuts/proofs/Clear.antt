-- Masks that are apart in the source are apart in the drawing; a cell whose piece lies in other cells is of a strip that lies in them.
use Rattle.std.proofs.Common.{ℕ, ℤ, pos, ◌≤ℤ◌, ◌⊎◌, arith, inl, inr}
use Rattle.std.proofs.lemmas.Int.{ints, clamps}
use Rattle.std.specs.Int.{int_max}
use Rattle.rt_cells.specs.Line.{between}
use Rattle.rt_cells.specs.Rectangles.{Rectangle, IsNonempty, Holds}
use Rattle.rt_cells.proofs.Lines.{within}
use Rattle.rt_cells.proofs.Rectangles.{joined_inside}
use Rattle.rt_rules.specs.Cuts.{KeepsApart}
use Rattle.rt_rules.specs.Pieces.{LiesIn}
use Rattle.rt_rules.proofs.Pieces.{stays_in}
use Rattle.rt_family.specs.Strips.{ShareColumn, ShareRow, CoveredBy, IsFamily, StandsOn}
use Rattle.rt_family.specs.Carried.{AreFar, IsKeptClear}
use Rattle.rt_family.proofs.Hosted.{clear_apart}
use Rattle.rt_cuts.specs.Cuts.{StripLiesIn}
use Rattle.rt_cuts.proofs.Pieces.{strip_is_piece}

common_cell : (a b : Rectangle) → IsNonempty a → IsNonempty b → ShareColumn a b → ShareRow a b
    → Holds a (int_max a.left b.left) (int_max a.bottom b.bottom) × Holds b (int_max a.left b.left) (int_max a.bottom b.bottom)
common_cell a b h k over row = (
  record { column = within _ _ _ (omega (arith, ints, clamps)) (omega (arith, ints, clamps)); row = within _ _ _ (omega (arith, ints, clamps)) (omega (arith, ints, clamps)) },
  record { column = within _ _ _ (omega (arith, ints, clamps)) (omega (arith, ints, clamps)); row = within _ _ _ (omega (arith, ints, clamps)) (omega (arith, ints, clamps)) },
)

not_itself : (near x : ℤ) → pos 1 ≤ℤ near → near ≤ℤ between x x → ⊥
not_itself near x p h = omega (arith, ints, clamps)

-- no cell is apart from itself
pub none_apart : (near : ℤ) (cells others : ℤ → ℤ → Type 0) → pos 1 ≤ℤ near → KeepsApart near cells others → (x y : ℤ) → cells x y → others x y → ⊥
none_apart near cells others p apart x y c d =
    elim (apart x y x y c d) [
      | inl h ↦ not_itself near x p h
      | inr h ↦ not_itself near y p h
    ]

far_cells : (clear : ℤ) (a b : Rectangle) (x y u v : ℤ) → AreFar clear a b → Holds a x y → Holds b u v → (clear ≤ℤ between x u) ⊎ (clear ≤ℤ between y v)
far_cells clear a b x y u v (inl g) h k = inl (omega (arith, ints, clamps, h.column, k.column))
far_cells clear a b x y u v (inr g) h k = inr (omega (arith, ints, clamps, h.row, k.row))

-- the rule of distance is kept
pub apart_drawn : (first second : ℕ → Type 0) (source drawn : ℕ → Rectangle) (near clear : ℤ) → pos 1 ≤ℤ near → IsKeptClear first second source drawn near clear
    → ((i : ℕ) → first i → IsNonempty (source i)) → ((i : ℕ) → second i → IsNonempty (source i))
    → KeepsApart near (CoveredBy first source) (CoveredBy second source) → KeepsApart clear (CoveredBy first drawn) (CoveredBy second drawn)
apart_drawn first second source drawn near clear p kept full full' apart x y u v c d =
    let i = c.number in
    let j = d.number in
    let m = c.holds.strip in
    let n = d.holds.strip in
    elim (clear_apart first second source drawn near clear p kept i j m n (full i m) (full' j n)) [
      | inl (over, row) ↦
          let z = common_cell (source i) (source j) (full i m) (full' j n) over row in
          absurd (none_apart near (CoveredBy first source) (CoveredBy second source) p apart _ _
          (record { number = i; holds = record { strip = m; cell = z.0 } }) (record { number = j; holds = record { strip = n; cell = z.1 } }))
      | inr far ↦ far_cells clear (drawn i) (drawn j) x y u v far c.holds.cell d.holds.cell
    ]

-- a cell whose piece lies in other cells is of a strip that lies in them
pub on_lies : (cut : ℕ → Type 0) (box : ℕ → Rectangle) (others : ℤ → ℤ → Type 0) (x y : ℤ) → LiesIn (CoveredBy cut box) others x y
    → CoveredBy (StripLiesIn cut box others) box x y
on_lies cut box others x y on = record {
  number = on.cell.number;
  holds = record {
    strip = record {
      strip = on.cell.holds.strip;
      lies = λ u v h. on.lies u v (joined_inside (CoveredBy cut box) (box on.cell.number)
          (λ p q k. record { number = on.cell.number; holds = record { strip = on.cell.holds.strip; cell = k } }) x y u v on.cell.holds.cell h);
    };
    cell = on.cell.holds.cell;
  };
}

-- the other way round, where no strip stands on another
pub lies_on : (cut : ℕ → Type 0) (box : ℕ → Rectangle) → IsFamily cut box → ((i j : ℕ) → StandsOn cut box i j → ⊥) → (others : ℤ → ℤ → Type 0)
    → (x y : ℤ) → CoveredBy (StripLiesIn cut box others) box x y → LiesIn (CoveredBy cut box) others x y
lies_on cut box family none others x y c = record {
  cell = record { number = c.number; holds = record { strip = c.holds.strip.strip; cell = c.holds.cell } };
  lies = λ u v walk. c.holds.strip.lies u v
      (stays_in (CoveredBy cut box) (box c.number) (strip_is_piece cut box family none c.number c.holds.strip.strip) x y u v c.holds.cell walk);
}
