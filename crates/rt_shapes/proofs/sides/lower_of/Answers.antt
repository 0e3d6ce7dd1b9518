use Rattle.std.proofs.Common.{ℕ, List, ap, map, subst, sym}
use Rattle.std.specs.Option.{MatchOption}
use Rattle.rt_strips.specs.Placed.{Placed, placed}
use Rattle.rt_strips.proofs.Placed.{placed_at, strip_there}
use Rattle.rt_shapes.specs.Cutting.{IsCutAt}
use Rattle.rt_shapes.specs.Sides.{IsOnlyOne}
use Rattle.rt_shapes.proofs.Telling.{lower_by}
use Rattle.rt_shapes.proofs.sides.lower_of.Goals as goal

pub returns-in-Some : goal.returns-in-Some
returns-in-Some c =
    let list = c.args.strips.now in
    let i = c.args.i in
    let mask = c.in-Some.mask.now in
    let is = ap (λ (p : Placed). p.mask) (placed_at list i c.index-strips-i.result c.requires.strip) in
    lower_by c.args.tech.now (map placed list) i mask (strip_there list i c.requires.strip)
    (subst (λ m. IsCutAt c.args.tech.now m mask) (sym is) c.in-Some.ensures) c.only_one.result
    (subst (λ (lowers : List ℕ). MatchOption c.only_one.result ((l : ℕ) → ¬ IsOnlyOne (map placed list) i lowers l) (IsOnlyOne (map placed list) i lowers)) c.as_slice.ensures c.only_one.ensures)
