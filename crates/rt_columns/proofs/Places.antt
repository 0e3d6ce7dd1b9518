-- The strips over a column by their places.
use Rattle.std.proofs.Common.{◌≡◌, ℕ, ◌<◌, ◌≤◌, ◌≤ℤ◌, ◌<ℤ◌, List, length, get_or, sym, ap, subst, subst₂, ◌∙◌, arith, inl, inr}
use Rattle.std.proofs.lemmas.Int.{ints}
use Rattle.std.proofs.lemmas.Bool.{cases_lt}
use Rattle.std.proofs.lemmas.List.{get_or-map}
use Rattle.rt_cells.proofs.Numbers.{below_or_at}
use Rattle.rt_sweep.proofs.Passing.{some_bar}
use Rattle.rt_sweep.specs.declared.bar.Bar.{Bar}
use Rattle.rt_sweep.specs.Rows.{AreAcross}
use Rattle.rt_strips.specs.Placed.{Placed, bottom_of, top_of}
use Rattle.rt_strips.specs.Standing.{IsStrip}
use Rattle.rt_columns.specs.Bars.{Line, line, no_line, AreBarsOf, line_at, IsOn}

-- the number of the strip at a place
pub tag_is : (over : List Bar) (p : ℕ) (d : Bar) → p < length over → (line_at over p).tag ≡ (get_or over p d).tag
tag_is over p d h = ap (λ (l : Line). l.tag) (get_or-map line over p d no_line h)

pub rises_across : (over : List Bar) → AreAcross over → (p q : ℕ) → p ≤ q → q < length over → (line_at over p).bottom ≤ℤ (line_at over q).bottom
rises_across over across p q h l = elim (below_or_at p q (omega arith)) [
  | inl lt ↦
      let d = some_bar over q l in
      subst₂ (λ (a b : Line). a.bottom ≤ℤ b.bottom) (sym (get_or-map line over p d no_line (omega arith))) (sym (get_or-map line over q d no_line l)) (across p q d lt l)
  | inr e ↦ subst (λ n. (line_at over p).bottom ≤ℤ (line_at over n).bottom) e (omega (arith, ints))
]

-- what is known of the strip at a place
pub record IsLineOf (strips : List Placed) (l : Line) : Type 0 where
  pub strip : IsStrip strips l.tag
  pub bottom : l.bottom ≡ bottom_of strips l.tag
  pub top : l.top ≡ top_of strips l.tag
  pub some_rows : l.bottom <ℤ l.top

module _ (strips : List Placed) (over : List Bar) (bars : AreBarsOf strips over) where
  abbrev at : ℕ → Line
  at p = line_at over p

  pub line_of : (p : ℕ) → p < length over → IsLineOf strips (at p)
  line_of p h =
      let d = some_bar over p h in
      let b = bars.each p d h in
      subst (IsLineOf strips) (sym (get_or-map line over p d no_line h)) (record { strip = b.strip; bottom = b.bottom; top = b.top; some_rows = b.some_rows })

  pub rises : (p q : ℕ) → p ≤ q → q < length over → (at p).bottom ≤ℤ (at q).bottom
  rises = rises_across over bars.in_order

  -- a strip that stands on another begins where that one ends
  pub adjoins : (p q : ℕ) → p < length over → q < length over → IsOn strips over p q → (at p).top ≡ (at q).bottom
  adjoins p q h g on = (line_of p h).top ∙ on.adjoin ∙ sym (line_of q g).bottom

  -- and has a place behind it
  pub on_behind : (p q : ℕ) → p < length over → q < length over → IsOn strips over p q → p < q
  on_behind p q h g on = elim (cases_lt p q) [
    | inl l ↦ l
    | inr l ↦ let low = rises q p l h in let e = adjoins p q h g on in let some = (line_of p h).some_rows in absurd (omega (arith, ints))
  ]
