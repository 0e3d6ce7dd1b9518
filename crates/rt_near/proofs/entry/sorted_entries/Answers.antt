use Rattle.rt_near.proofs.Numbered.{sorted_of}
use Rattle.rt_near.proofs.entry.sorted_entries.Goals as goal

pub returns : goal.returns
returns c =
    sorted_of c.args.sides.now c.args.reaches.now c.in_ok-entries.entries.items c.in_ok-entries.ensures c.sort_along.new.entries.items
    c.in_ok-sort_along.ensures.same c.in_ok-sort_along.ensures.sorted
