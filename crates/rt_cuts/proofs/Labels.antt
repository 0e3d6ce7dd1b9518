-- A label means one piece: the covered cells at a point are joined.
use Rattle.std.proofs.Common.{◌≡◌, ℕ, ℤ, pos, ◌-ℤ◌, ◌≤ℤ◌, ◌<ℤ◌, ◌⊎◌, refl, sym, subst, arith, inl, inr}
use Rattle.std.proofs.lemmas.Bool.{cases_lt, cases_order}
use Rattle.std.proofs.lemmas.Int.{ints, by_lt_z}
use Rattle.rt_cells.specs.Line.{Within}
use Rattle.rt_cells.specs.Cells.{Adjacent, Joined, MeetAtCornerAlone}
use Rattle.rt_cells.specs.Cells.Joined.{here, onward}
use Rattle.rt_cells.specs.Rectangles.{Rectangle, IsNonempty, Holds}
use Rattle.rt_cells.proofs.Lines.{within, first_place}
use Rattle.rt_family.specs.Strips.{HoldsCell, CoveredBy, IsFamily, AreConnected}
use Rattle.rt_family.specs.Carried.{IsCarried}
use Rattle.rt_family.specs.Laws.{IsOfMask}
use Rattle.rt_family.proofs.Joins.{joined_next}
use Rattle.rt_family.proofs.Strips.{held_covered, joined_connected}
use Rattle.rt_family.proofs.Drawn.{drawn_family, pieces_connected}
use Rattle.rt_family.proofs.Rules.{no_corner}
use Rattle.rt_family.proofs.Finite.{OrNot, search_below, both_or_not, decided_as, within_or_not}
use Rattle.rt_cuts.specs.Labels.{Touches, IsAtPoint, TouchesStrip}

-- a strip is of the mask, or not
of_mask_or_not : (count : ℕ) (mask : ℕ → ℕ) (m i : ℕ) → OrNot (IsOfMask count mask m i)
of_mask_or_not count mask m i =
    elim (cases_lt i count) [
      | inr past ↦ inr (λ strip. let l = strip.below in omega (arith, l, past))
      | inl below ↦ elim (cases_order (mask i) m) [
        | inl e ↦ inl (record { below = below; of_mask = e })
        | inr (inl l) ↦ inr (λ strip. let e = strip.of_mask in omega (arith, e, l))
        | inr (inr l) ↦ inr (λ strip. let e = strip.of_mask in omega (arith, e, l))
      ]
    ]

-- a cell is covered by the strips of a mask, or not
pub covered_or_not : (count : ℕ) (mask : ℕ → ℕ) (m : ℕ) (box : ℕ → Rectangle) (x y : ℤ) → OrNot (CoveredBy (IsOfMask count mask m) box x y)
covered_or_not count mask m box x y =
    elim (search_below (λ i. HoldsCell (IsOfMask count mask m) box i x y) held_or_not count) [
      | inl (i, h) ↦ inl (record { number = i; holds = h })
      | inr none ↦ inr (λ c. none c.number c.holds.strip.below c.holds)
    ]
  where
    held_or_not : (i : ℕ) → OrNot (HoldsCell (IsOfMask count mask m) box i x y)
    held_or_not i =
        decided_as (λ h. record { strip = h.0; cell = record { column = h.1.0; row = h.1.1 } }) (λ (h : HoldsCell (IsOfMask count mask m) box i x y). (h.strip, (h.cell.column, h.cell.row)))
        (both_or_not (of_mask_or_not count mask m i) (both_or_not (within_or_not (box i).left (box i).right x) (within_or_not (box i).bottom (box i).top y)))

-- two covered cells that are diagonal neighbours are joined, where it is decided what is covered and no two meet at a corner alone
corner_joined : (cells : ℤ → ℤ → Type 0) → ((x y : ℤ) → OrNot (cells x y)) → ((x y u v : ℤ) → ¬ MeetAtCornerAlone cells x y u v)
    → (x y u v : ℤ) → cells x y → cells u v → Adjacent x u → Adjacent y v → Joined cells x y u v
corner_joined cells decided corners x y u v c d across upwards =
    elim (decided u y) [
      | inl b ↦ onward u y u v (joined_next cells x y u y c b (inl (across, refl))) (inr (refl, upwards)) d
      | inr b ↦ elim (decided x v) [
        | inl e ↦ onward x v u v (joined_next cells x y x v c e (inr (refl, upwards))) (inl (across, refl)) d
        | inr e ↦ absurd (corners x y u v (record { first = c; second = d; columns = across; rows = upwards; beside_first = b; beside_second = e }))
      ]
    ]

same_or_next : (x u p : ℤ) → (u ≡ x -ℤ pos 1) ⊎ (u ≡ x) → (p ≡ x -ℤ pos 1) ⊎ (p ≡ x) → (p ≡ u) ⊎ Adjacent u p
same_or_next x u p (inl e) (inl f) = inl (omega (arith, ints))
same_or_next x u p (inl e) (inr f) = inr (inl (omega (arith, ints)))
same_or_next x u p (inr e) (inl f) = inr (inr (omega (arith, ints)))
same_or_next x u p (inr e) (inr f) = inl (omega (arith, ints))

-- the covered cells at a point are joined
pub around_joined : (cells : ℤ → ℤ → Type 0) → ((x y : ℤ) → OrNot (cells x y)) → ((x y u v : ℤ) → ¬ MeetAtCornerAlone cells x y u v)
    → (x y u v p q : ℤ) → IsAtPoint x y u v → IsAtPoint x y p q → cells u v → cells p q → Joined cells u v p q
around_joined cells decided corners x y u v p q a b c d =
    elim (same_or_next x u p a.column b.column) [
      | inl e ↦ elim (same_or_next y v q a.row b.row) [
        | inl f ↦ subst (λ t. Joined cells u v t q) (sym e) (subst (λ t. Joined cells u v u t) (sym f) (here c))
        | inr f ↦ joined_next cells u v p q c d (inr (e, f))
      ]
      | inr e ↦ elim (same_or_next y v q a.row b.row) [
        | inl f ↦ joined_next cells u v p q c d (inl (e, f))
        | inr f ↦ corner_joined cells decided corners u v p q c d e f
      ]
    ]

-- a place of an interval at a point of its closure: the one before the point or the one after
near_place : (low high x : ℤ) → low <ℤ high → low ≤ℤ x → x ≤ℤ high → (u : ℤ) × Within low high u × ((u ≡ x -ℤ pos 1) ⊎ (u ≡ x))
near_place low high x l h k =
    by_lt_z x high
    (λ m. (x, within low high x h m, inr refl))
    (λ m. (x -ℤ pos 1, within low high (x -ℤ pos 1) (omega (arith, ints)) (omega (arith, ints)), inl refl))

-- a rectangle holds one of the four cells at a point that it touches
pub touched_holds : (r : Rectangle) (x y : ℤ) → IsNonempty r → Touches r x y → (u : ℤ) × (v : ℤ) × Holds r u v × IsAtPoint x y u v
touched_holds r x y full t =
    let c = near_place r.left r.right x full.across t.from_left t.to_right in
    let d = near_place r.bottom r.top y full.upwards t.from_bottom t.to_top in
    (c.0, d.0, record { column = c.1; row = d.1 }, record { column = c.2; row = d.2 })

-- a rectangle touches the points that one of its cells is at
pub holds_touched : (r : Rectangle) (x y u v : ℤ) → Holds r u v → IsAtPoint x y u v → Touches r x y
holds_touched r x y u v h a =
    elim a.column [
      | inl e ↦ elim a.row [
        | inl f ↦ record { from_left = omega (arith, ints, h.column); to_right = omega (arith, ints, h.column); from_bottom = omega (arith, ints, h.row); to_top = omega (arith, ints, h.row) }
        | inr f ↦ record { from_left = omega (arith, ints, h.column); to_right = omega (arith, ints, h.column); from_bottom = omega (arith, ints, h.row); to_top = omega (arith, ints, h.row) }
      ]
      | inr e ↦ elim a.row [
        | inl f ↦ record { from_left = omega (arith, ints, h.column); to_right = omega (arith, ints, h.column); from_bottom = omega (arith, ints, h.row); to_top = omega (arith, ints, h.row) }
        | inr f ↦ record { from_left = omega (arith, ints, h.column); to_right = omega (arith, ints, h.column); from_bottom = omega (arith, ints, h.row); to_top = omega (arith, ints, h.row) }
      ]
    ]

-- strips that touch one point are of one piece
pub touching_connected : (member : ℕ → Type 0) (box : ℕ → Rectangle) → IsFamily member box
    → ((x y : ℤ) → OrNot (CoveredBy member box x y)) → ((x y u v : ℤ) → ¬ MeetAtCornerAlone (CoveredBy member box) x y u v)
    → (i j : ℕ) (x y : ℤ) → member i → member j → Touches (box i) x y → Touches (box j) x y → AreConnected member box i j
touching_connected member box family decided corners i j x y m n t r =
    let a = touched_holds (box i) x y (family.nonempty i m) t in
    let b = touched_holds (box j) x y (family.nonempty j n) r in
    let h : HoldsCell member box i a.0 a.1 = record { strip = m; cell = a.2 } in
    let k : HoldsCell member box j b.0 b.1 = record { strip = n; cell = b.2 } in
    joined_connected member box family i a.0 a.1 h b.0 b.1
    (around_joined (CoveredBy member box) decided corners x y a.0 a.1 b.0 b.1 a.3 b.3 (held_covered member box family i _ _ h) (held_covered member box family j _ _ k))
    j k

-- a label that is drawn at the lower left corner of its strip touches strips of that strip's piece alone
pub label_drawn : (member : ℕ → Type 0) (source drawn : ℕ → Rectangle) (w : ℤ) (s : ℕ → ℕ → ℤ) → IsCarried member source drawn w s
    → ((x y : ℤ) → OrNot (CoveredBy member drawn x y))
    → (f j : ℕ) → member f → member j → Touches (drawn j) (drawn f).left (drawn f).bottom → AreConnected member source f j
label_drawn member source drawn w s carried decided f j m n t =
    let family = drawn_family member source drawn w s carried in
    let x = (drawn f).left in
    let y = (drawn f).bottom in
    let full = family.nonempty f m in
    let b = touched_holds (drawn j) x y (family.nonempty j n) t in
    let h : HoldsCell member drawn f x y = record { strip = m; cell = record { column = first_place _ _ full.across; row = first_place _ _ full.upwards } } in
    let k : HoldsCell member drawn j b.0 b.1 = record { strip = n; cell = b.2 } in
    pieces_connected member source drawn w s carried f j x y b.0 b.1 h k
    (around_joined (CoveredBy member drawn) decided (no_corner member source drawn w s carried) x y x y b.0 b.1
    (record { column = inr refl; row = inr refl }) b.3 (held_covered member drawn family f _ _ h) (held_covered member drawn family j _ _ k))

-- in the source every strip with a cell at the label is of the piece of a strip that the label touches
pub label_source_cell : (member : ℕ → Type 0) (box : ℕ → Rectangle) → IsFamily member box
    → ((x y : ℤ) → OrNot (CoveredBy member box x y)) → ((x y u v : ℤ) → ¬ MeetAtCornerAlone (CoveredBy member box) x y u v)
    → (f : ℕ) (x y : ℤ) → TouchesStrip member box x y f → (j : ℕ) (u v : ℤ) → HoldsCell member box j u v → IsAtPoint x y u v → AreConnected member box f j
label_source_cell member box family decided corners f x y touching j u v h a =
    touching_connected member box family decided corners f j x y touching.strip h.strip touching.touches (holds_touched (box j) x y u v h.cell a)

-- in the drawing every strip with a cell at the label's new place is of that piece
pub label_drawn_cell : (member : ℕ → Type 0) (source drawn : ℕ → Rectangle) (w : ℤ) (s : ℕ → ℕ → ℤ) → IsCarried member source drawn w s
    → ((x y : ℤ) → OrNot (CoveredBy member drawn x y))
    → (f : ℕ) → member f → (j : ℕ) (u v : ℤ) → HoldsCell member drawn j u v → IsAtPoint (drawn f).left (drawn f).bottom u v → AreConnected member source f j
label_drawn_cell member source drawn w s carried decided f m j u v h a =
    label_drawn member source drawn w s carried decided f j m h.strip (holds_touched (drawn j) _ _ u v h.cell a)
