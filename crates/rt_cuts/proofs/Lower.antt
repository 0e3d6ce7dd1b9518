-- The strips of a cut that lie in a lower mask are the same in the source and in the drawing, and of them its enclosure and its distances hold.
use Rattle.std.proofs.Common.{ℕ, ℤ, pos, ◌≤ℤ◌, arith, inl, inr}
use Rattle.std.proofs.lemmas.Int.{ints}
use Rattle.rt_cells.specs.Rectangles.{Rectangle, IsNonempty, Holds}
use Rattle.rt_cells.proofs.Lines.{first_place}
use Rattle.rt_rules.specs.Cuts.{IsWithin, KeepsEnclosed, KeepsApart}
use Rattle.rt_rules.specs.Pieces.{LiesIn}
use Rattle.rt_family.specs.Strips.{CoveredBy, StandsOn}
use Rattle.rt_family.specs.Carried.{IsCarried, IsKeptClear}
use Rattle.rt_family.proofs.Drawn.{drawn_family}
use Rattle.rt_cuts.specs.Cuts.{StripLiesIn, KeepsLowerMask}
use Rattle.rt_cuts.proofs.Inside.{enclosed_drawn}
use Rattle.rt_cuts.proofs.Clear.{none_apart, apart_drawn, on_lies, lies_on}

itself_near : (number x y : ℤ) → pos 0 ≤ℤ number → IsWithin number x y x y
itself_near number x y p = record { columns = record { from = omega (arith, ints); to = omega (arith, ints) }; rows = record { from = omega (arith, ints); to = omega (arith, ints) } }

module _ (cut lower other : ℕ → Type 0) (source drawn : ℕ → Rectangle) (w : ℤ) (s : ℕ → ℕ → ℤ) (cut_carried : IsCarried cut source drawn w s)
    (none : (i j : ℕ) → StandsOn cut source i j → ⊥) (v : ℤ) (t : ℕ → ℕ → ℤ) (lower_carried : IsCarried lower source drawn v t)
    (near number reach clear : ℤ) (kept : KeepsLowerMask cut lower other source drawn near number reach clear) where
  abbrev Lying : ℕ → Type 0
  Lying = StripLiesIn cut source (CoveredBy lower source)

  -- what lies in the lower mask is drawn within it, with the number around
  lying_enclosed : KeepsEnclosed number (CoveredBy Lying drawn) (CoveredBy lower drawn)
  lying_enclosed =
      enclosed_drawn Lying lower source drawn v t lower_carried near number kept.some_near kept.inside
      (λ i m. cut_carried.family.nonempty i m.strip)
      (λ x y p q c. kept.encloses x y p q (lies_on cut source cut_carried.family none (CoveredBy lower source) x y c))

  -- a strip that lies in the lower mask in the source does in the drawing
  pub lies_drawn : (i : ℕ) → Lying i → StripLiesIn cut drawn (CoveredBy lower drawn) i
  lies_drawn i m = record {
    strip = m.strip;
    lies = λ x y h. lying_enclosed x y x y (record { number = i; holds = record { strip = m; cell = h } }) (itself_near number x y kept.some_number);
  }

  -- no drawn cell of the lower mask is in a strip that lies in another
  others_apart : KeepsApart clear (CoveredBy other drawn) (CoveredBy lower drawn)
  others_apart =
      apart_drawn other lower source drawn reach clear kept.some_reach kept.kept_clear
      (λ i m. cut_carried.family.nonempty i (kept.others i m)) (λ i m. lower_carried.family.nonempty i m) kept.apart

  -- a strip that lies in the lower mask in the drawing does in the source
  pub lies_source : (i : ℕ) → StripLiesIn cut drawn (CoveredBy lower drawn) i → Lying i
  lies_source i m =
      elim (kept.one_or_other i m.strip) [
        | inl lying ↦ lying
        | inr o ↦
            let full = (drawn_family cut source drawn w s cut_carried).nonempty i m.strip in
            let h : Holds (drawn i) (drawn i).left (drawn i).bottom = record { column = first_place _ _ full.across; row = first_place _ _ full.upwards } in
            absurd (none_apart clear (CoveredBy other drawn) (CoveredBy lower drawn) kept.some_clear others_apart (drawn i).left (drawn i).bottom
            (record { number = i; holds = record { strip = o; cell = h } }) (m.lies _ _ h))
      ]

  -- a drawn cell of a piece that lies in the lower mask is of a strip that does in the source
  on_lying : (x y : ℤ) → LiesIn (CoveredBy cut drawn) (CoveredBy lower drawn) x y → CoveredBy Lying drawn x y
  on_lying x y on =
      let c = on_lies cut drawn (CoveredBy lower drawn) x y on in
      record { number = c.number; holds = record { strip = lies_source c.number c.holds.strip; cell = c.holds.cell } }

  -- the rule of enclosure holds of the cut pieces that lie in the lower mask
  pub on_enclosed : KeepsEnclosed number (LiesIn (CoveredBy cut drawn) (CoveredBy lower drawn)) (CoveredBy lower drawn)
  on_enclosed x y p q on near_by = lying_enclosed x y p q (on_lying x y on) near_by

  -- the rule of distance holds of the cut pieces that lie in the lower mask
  pub on_apart : (mask : ℕ → Type 0) → ((i : ℕ) → mask i → IsNonempty (source i)) → (far drawn_far : ℤ) → pos 1 ≤ℤ far → IsKeptClear Lying mask source drawn far drawn_far
      → KeepsApart far (LiesIn (CoveredBy cut source) (CoveredBy lower source)) (CoveredBy mask source)
      → KeepsApart drawn_far (LiesIn (CoveredBy cut drawn) (CoveredBy lower drawn)) (CoveredBy mask drawn)
  on_apart mask full far drawn_far p clear_of apart x y a b on d =
      apart_drawn Lying mask source drawn far drawn_far p clear_of (λ i m. cut_carried.family.nonempty i m.strip) full
      (λ e f g h c o. apart e f g h (lies_on cut source cut_carried.family none (CoveredBy lower source) e f c) o)
      x y a b (on_lying x y on) d
