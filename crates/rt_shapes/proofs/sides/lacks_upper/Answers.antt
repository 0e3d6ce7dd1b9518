use Rattle.std.proofs.Common.{ap, map, subst, sym}
use Rattle.rt_strips.specs.Placed.{Placed, placed}
use Rattle.rt_strips.proofs.Placed.{placed_at, strip_there}
use Rattle.rt_shapes.specs.Cutting.{IsCutAt}
use Rattle.rt_shapes.proofs.Telling.{upper_by}
use Rattle.rt_shapes.proofs.sides.lacks_upper.Goals as goal

pub returns-in-Some : goal.returns-in-Some
returns-in-Some c =
    let list = c.args.strips.now in
    let i = c.args.i in
    let mask = c.in-Some.mask.now in
    let is = ap (λ (p : Placed). p.mask) (placed_at list i c.index-strips-i.result c.requires.strip) in
    upper_by c.args.tech.now (map placed list) i mask (strip_there list i c.requires.strip)
    (subst (λ m. IsCutAt c.args.tech.now m mask) (sym is) c.in-Some.ensures) c.covers.result c.covers.ensures
