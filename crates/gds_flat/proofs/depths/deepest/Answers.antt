use Rattle.std.proofs.Common.{◌≡◌, ◌+◌, ℕ, take, max, subst, sym, arith}
use Rattle.gds_flat.specs.Depths.{IsDeepest}
use Rattle.gds_flat.proofs.Coming.{entry_is}
use Rattle.gds_flat.proofs.Ranking.{place_only_one, deepest_more}
use Rattle.gds_flat.proofs.depths.deepest.Goals as goal

pub depth_of-requires-clause-before : goal.depth_of-requires-clause-before
depth_of-requires-clause-before c =
    place_only_one c.args.names.now.structures.now c.args.walk.now.finish.items _ c.args.elements.now c.loop-element.element-index c.element-item.result
    (entry_is c.args.elements.now c.loop-element.element-index c.element-item.result c.loop-element-test.true c.element-item.is) c.requires.before

pub loop-element-preserved : goal.loop-element-preserved
loop-element-preserved c =
    let library = c.args.names.now.structures.now in
    let i = c.loop-element.element-index in
    let is : c.max-most.result ≡ max c.loop-element.most c.depth_of.result = c.max-most.ensures in
    let P : ℕ → Type 0 = λ d. IsDeepest library (take (i + 1) c.args.elements.now) d in
    let small = c.depth_of.ensures.small in
    let was = c.loop-element.invariant.0 in (
      omega arith,
      subst P (sym is) (deepest_more library c.args.elements.now i c.element-item.result c.loop-element.most c.depth_of.result c.loop-element-test.true c.element-item.is
          c.loop-element.invariant.1 c.depth_of.ensures.deepest),
    )
