-- What a list of rectangles covers, its elements hold by their numbers.
use Rattle.std.proofs.Common.{◌≡◌, List, length, get_or, sym, subst, ◌∙◌}
use Rattle.std.proofs.lemmas.List.{get_or_default}
use Rattle.std.proofs.lemmas.List.Elements.{Contains-get_or}
use Rattle.rt_cells.specs.Rectangles.{Rectangle, Holds, Covers}
use Rattle.rt_rules.proofs.Alike.{AreAlike}
use Rattle.rt_family.specs.Strips.{CoveredBy}
use Rattle.rt_family.specs.Laws.{IsNumber}

-- a list of rectangles covers what its elements hold, by their numbers
pub covers_alike : (rectangles : List Rectangle) (none : Rectangle)
    → AreAlike (CoveredBy (IsNumber (length rectangles)) (λ i. get_or rectangles i none)) (Covers rectangles)
covers_alike rectangles none = record {
  to = λ x y c. (get_or rectangles c.number none, Contains-get_or rectangles c.number none c.holds.strip.below, c.holds.cell);
  from = λ x y c.
      let k = c.1.0 in
      let e : get_or rectangles k none ≡ c.0 = get_or_default rectangles k none c.0 c.1.1 ∙ c.1.2 in
      record { number = k; holds = record { strip = record { below = c.1.1 }; cell = subst (λ r. Holds r x y) (sym e) c.2 } };
}
