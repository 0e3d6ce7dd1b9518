use Rattle.std.proofs.Common.{[], ◌∷◌}
use Rattle.std.proofs.lemmas.Result.{IfOk-weaker}
use Rattle.gds_flat.specs.Counting.{HasCountOf, HasOwnCount}
use Rattle.gds_flat.proofs.Counting.{own_counted, placed_counted}
use Rattle.gds_flat.proofs.counts.count_element.Goals as goal

pub returns-in-Some : goal.returns-in-Some
returns-in-Some c =
    placed_counted c.args.names.now.structures.now c.args.tech.now c.args.element.now c.in-Some.name.now c.copies.result c.count_named-inner.result
    c.saturating_mul.result c.in-Some.ensures c.copies.ensures c.count_named-inner.ensures c.saturating_mul.ensures

pub returns-in-None : goal.returns-in-None
returns-in-None c =
    let library = c.args.names.now.structures.now in
    IfOk-weaker c.own_count.result (HasOwnCount c.args.tech.now c.args.element.now) (HasCountOf library c.args.tech.now (c.args.element.now ∷ []))
    (λ n. own_counted library c.args.tech.now c.args.element.now n c.in-None.ensures) c.own_count.ensures
