-- The cells of strips that aren't gate: each is in one part, and those of one part are joined.
use Rattle.std.proofs.Common.{◌≡◌, ℕ, ◌<◌, Bool, true, false, ℤ, pos, ◌+ℤ◌, ◌≤ℤ◌, ◌<ℤ◌, refl, sym, subst, arith}
use Rattle.std.proofs.lemmas.Int.{ints, clamps}
use Rattle.std.specs.Int.{int_max, int_min}
use mathlib.Core.Logic.{inl, inr}
use Rattle.rt_cells.specs.Line.{Within}
use Rattle.rt_cells.specs.Cells.{ShareSide, Joined}
use Rattle.rt_cells.specs.Rectangles.{Rectangle, IsNonempty, Holds}
use Rattle.rt_cells.proofs.Rectangles.{joined_inside}
use Rattle.rt_family.specs.Strips.{HoldsCell}
use Rattle.rt_family.proofs.Strips.{AreClose, same_close, adjacent_close, one_holder}
use Rattle.rt_parts.specs.Parts.{Part, Cuts, along, low_of, high_of, CutsUpright, CutsLying, IsBare, IsInPart, IsCutting}
use Rattle.rt_parts.proofs.Slots.{FollowEachOther, slot_of, slot_close, slot_outside}

abbrev pub lows : (ℕ → Rectangle) → Cuts → ℕ → ℕ → ℤ
lows channel cuts a j = low_of (cuts.lies a) (channel (cuts.number a j))

abbrev pub highs : (ℕ → Rectangle) → Cuts → ℕ → ℕ → ℤ
highs channel cuts a j = high_of (cuts.lies a) (channel (cuts.number a j))

abbrev pub part : ℕ → ℕ → Part
part a k = record { strip = a; place = k }

nonempty_along : (b : Bool) (r : Rectangle) → IsNonempty r → low_of b r <ℤ high_of b r
nonempty_along true r h = h.upwards
nonempty_along false r h = h.across

within_along : (b : Bool) (r : Rectangle) (x y : ℤ) → Holds r x y → Within (low_of b r) (high_of b r) (along b x y)
within_along true r x y h = h.row
within_along false r x y h = h.column

cut_upright : (strip cut : Rectangle) (x y : ℤ) → CutsUpright strip cut → Holds strip x y → Within cut.left cut.right x → Holds cut x y
cut_upright strip cut x y c h w = record { column = w; row = record { from = omega (arith, ints, h.row, c); to = omega (arith, ints, h.row, c) } }

cut_lying : (strip cut : Rectangle) (x y : ℤ) → CutsLying strip cut → Holds strip x y → Within cut.bottom cut.top y → Holds cut x y
cut_lying strip cut x y c h w = record { row = w; column = record { from = omega (arith, ints, h.column, c); to = omega (arith, ints, h.column, c) } }

-- the smallest rectangle that holds two cells
abbrev hull : ℤ → ℤ → ℤ → ℤ → Rectangle
hull x y p q = record { left = int_min x p; right = int_max x p +ℤ pos 1; bottom = int_min y q; top = int_max y q +ℤ pos 1 }

hull_first : (x y p q : ℤ) → Holds (hull x y p q) x y
hull_first x y p q = record {
  column = record { from = omega (arith, ints, clamps); to = omega (arith, ints, clamps) };
  row = record { from = omega (arith, ints, clamps); to = omega (arith, ints, clamps) };
}

hull_second : (x y p q : ℤ) → Holds (hull x y p q) p q
hull_second x y p q = record {
  column = record { from = omega (arith, ints, clamps); to = omega (arith, ints, clamps) };
  row = record { from = omega (arith, ints, clamps); to = omega (arith, ints, clamps) };
}

between_low : (s t v h : ℤ) → int_min s t ≤ℤ v → h ≤ℤ s → h ≤ℤ t → h ≤ℤ v
between_low s t v h m a b = omega (arith, ints, clamps)

between_high : (s t v h : ℤ) → v <ℤ (int_max s t +ℤ pos 1) → s <ℤ h → t <ℤ h → v <ℤ h
between_high s t v h m a b = omega (arith, ints, clamps)

hull_past : (b : Bool) (x y p q v w h : ℤ) → Holds (hull x y p q) v w → h ≤ℤ along b x y → h ≤ℤ along b p q → h ≤ℤ along b v w
hull_past true x y p q v w h in_hull a c = between_low y q w h in_hull.row.from a c
hull_past false x y p q v w h in_hull a c = between_low x p v h in_hull.column.from a c

hull_ahead : (b : Bool) (x y p q v w h : ℤ) → Holds (hull x y p q) v w → along b x y <ℤ h → along b p q <ℤ h → along b v w <ℤ h
hull_ahead true x y p q v w h in_hull a c = between_high y q w h in_hull.row.to a c
hull_ahead false x y p q v w h in_hull a c = between_high x p v h in_hull.column.to a c

hull_inside : (r : Rectangle) (x y p q v w : ℤ) → Holds r x y → Holds r p q → Holds (hull x y p q) v w → Holds r v w
hull_inside r x y p q v w h k in_hull = record {
  column = record { from = between_low x p v r.left in_hull.column.from h.column.from k.column.from; to = between_high x p v r.right in_hull.column.to h.column.to k.column.to };
  row = record { from = between_low y q w r.bottom in_hull.row.from h.row.from k.row.from; to = between_high y q w r.top in_hull.row.to h.row.to k.row.to };
}

-- cells that share a side are close on either line
pub side_close : (b : Bool) (x y p q : ℤ) → ShareSide x y p q → AreClose (along b x y) (along b p q)
side_close true x y p q (inl h) = subst (AreClose y) (sym h.1) (same_close y)
side_close true x y p q (inr h) = adjacent_close y q h.1
side_close false x y p q (inl h) = adjacent_close x p h.0
side_close false x y p q (inr h) = subst (AreClose x) (sym h.0) (same_close x)

module _ (member : ℕ → Type 0) (box channel : ℕ → Rectangle) (gate : ℤ → ℤ → Type 0) (stands : ℕ → ℕ → Type 0) (cuts : Cuts)
    (cutting : IsCutting member box channel gate stands cuts) where
  pub follow : (a : ℕ) → member a → FollowEachOther (lows channel cuts a) (highs channel cuts a) (cuts.count a)
  follow a m = record { nonempty = λ j l. nonempty_along (cuts.lies a) (channel (cuts.number a j)) (cutting.nonempty a j m l); order = λ i j l n. cutting.order a i j m l n }

  in_cut : (a j : ℕ) (x y : ℤ) → HoldsCell member box a x y → j < cuts.count a → (b : Bool) → cuts.lies a ≡ b
      → Within (low_of b (channel (cuts.number a j))) (high_of b (channel (cuts.number a j))) (along b x y) → Holds (channel (cuts.number a j)) x y
  in_cut a j x y h l true e w = cut_lying (box a) (channel (cuts.number a j)) x y (cutting.lying a j h.strip e l) h.cell w
  in_cut a j x y h l false e w = cut_upright (box a) (channel (cuts.number a j)) x y (cutting.upright a j h.strip e l) h.cell w

  -- a cell of a strip that isn't gate is in one of its parts
  pub part_at : (a : ℕ) (x y : ℤ) → HoldsCell member box a x y → ¬ gate x y → (k : ℕ) × IsInPart member box channel gate stands cuts (part a k) x y
  part_at a x y h none =
      let r = slot_of (lows channel cuts a) (highs channel cuts a) (cuts.count a) (along (cuts.lies a) x y) (follow a h.strip)
      (λ j l w. none (cutting.crossing a j x y h l (in_cut a j x y h l (cuts.lies a) refl w))) in
      (r.0, record { holds = h; slot = r.1 })

  -- each cell that isn't gate is in a part
  pub part_of : (x y : ℤ) → IsBare member box channel gate stands cuts x y → (u : Part) × IsInPart member box channel gate stands cuts u x y
  part_of x y bare = let r = part_at bare.covered.number x y bare.covered.holds bare.no_gate in (part bare.covered.number r.0, r.1)

  -- the cells of parts aren't gate
  pub part_bare : (u : Part) (x y : ℤ) → IsInPart member box channel gate stands cuts u x y → IsBare member box channel gate stands cuts x y
  part_bare u x y h = record {
    covered = record { number = u.strip; holds = h.holds };
    no_gate = λ g.
        let c = cutting.crossed u.strip x y h.holds g in
        slot_outside (lows channel cuts u.strip) (highs channel cuts u.strip) (cuts.count u.strip) (along (cuts.lies u.strip) x y) u.place h.slot c.0 c.1
        (within_along (cuts.lies u.strip) (channel (cuts.number u.strip c.0)) x y c.2);
  }

  -- the cells of one part are joined
  pub part_joined : (u : Part) (x y p q : ℤ) → IsInPart member box channel gate stands cuts u x y → IsInPart member box channel gate stands cuts u p q
      → Joined (IsBare member box channel gate stands cuts) x y p q
  part_joined u x y p q h k =
      joined_inside (IsBare member box channel gate stands cuts) (hull x y p q)
      (λ v w in_hull. part_bare u v w (record {
        holds = record { strip = h.holds.strip; cell = hull_inside (box u.strip) x y p q v w h.holds.cell k.holds.cell in_hull };
        slot = record {
          few = h.slot.few;
          past = λ j l. hull_past (cuts.lies u.strip) x y p q v w _ in_hull (h.slot.past j l) (k.slot.past j l);
          ahead = λ j l m. hull_ahead (cuts.lies u.strip) x y p q v w _ in_hull (h.slot.ahead j l m) (k.slot.ahead j l m);
        };
      }))
      x y p q (hull_first x y p q) (hull_second x y p q)

  -- cells of one strip that are one or neighbours are in one part
  pub part_close : (a k l : ℕ) (x y p q : ℤ) → IsInPart member box channel gate stands cuts (part a k) x y → IsInPart member box channel gate stands cuts (part a l) p q
      → AreClose (along (cuts.lies a) x y) (along (cuts.lies a) p q) → k ≡ l
  part_close a k l x y p q h m close =
      slot_close (lows channel cuts a) (highs channel cuts a) (cuts.count a) (along (cuts.lies a) x y) (along (cuts.lies a) p q) k l (follow a h.holds.strip) h.slot m.slot close

  -- a cell is in one part
  pub one_part : (u v : Part) (x y : ℤ) → IsInPart member box channel gate stands cuts u x y → IsInPart member box channel gate stands cuts v x y → u ≡ v
  one_part u v x y h k =
      let e : v.strip ≡ u.strip = sym (one_holder member box cutting.family u.strip v.strip x x y h.holds k.holds (same_close x)) in
      one_of u.strip v.strip u.place v.place e h k
    where
      one_of : (a z k l : ℕ) → z ≡ a → IsInPart member box channel gate stands cuts (part a k) x y → IsInPart member box channel gate stands cuts (part z l) x y → part a k ≡ part z l
      one_of a z k l e h m =
          let f : k ≡ l = part_close a k l x y x y h (subst (λ t. IsInPart member box channel gate stands cuts (part t l) x y) e m) (same_close (along (cuts.lies a) x y)) in
          subst (λ t. part a k ≡ part t l) (sym e) (subst (λ n. part a k ≡ part a n) f refl)
