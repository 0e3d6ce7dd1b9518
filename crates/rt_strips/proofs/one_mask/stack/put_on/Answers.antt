use Rattle.std.proofs.Common.{List, map, subst, sym, Vec, Global}
use Rattle.rt_base.specs.Plane.{area}
use Rattle.rt_strips.specs.declared.one_mask.stack.Going.{Going}
use Rattle.rt_strips.specs.Goings.{opened}
use Rattle.rt_strips.specs.Stacks.{PutsRow}
use Rattle.rt_strips.proofs.one_mask.stack.put_on.Goals as goal

pub returns-clause-puts : goal.returns-clause-puts
returns-clause-puts c =
    let stack = c.args.stack.now in
    let found = c.put_row.new.found in
    subst (λ (v : Vec Going Global). PutsRow stack.most (map area c.args.pieces.now)
    (record { kept = map area stack.found.strips.items; count = stack.found.count; going = map opened stack.going.items })
    (record { kept = map area found.strips.items; count = found.count; going = map opened v.items })) (sym c.swap.ensures.x_after)
    (subst (λ (xs : List Going). PutsRow stack.most (map area c.args.pieces.now)
    (record { kept = map area stack.found.strips.items; count = stack.found.count; going = map opened xs })
    (record { kept = map area found.strips.items; count = found.count; going = map opened c.put_row.new.into.items })) c.as_slice.ensures.value
    c.in_ok-put_row.ensures)
