use Rattle.rt_columns.proofs.Orders.{sides_in_order, rising_by_sort}
use Rattle.rt_columns.proofs.ranks.sorted_sides.Goals as goal

pub returns : goal.returns
returns c = record {
  sides = sides_in_order c.args.count c.args.lefts.now c.args.rights.now c.in_ok-sides.sides.items c.sort.new.self.items c.in_ok-sort.ensures.permutation c.in_ok-sides.ensures;
  rising = rising_by_sort c.sort.new.self.items c.in_ok-sort.ensures.sorted;
}
