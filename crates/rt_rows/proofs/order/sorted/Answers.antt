use Rattle.std.proofs.Common.{rules, arith}
use Rattle.std.proofs.lemmas.Grind.{common_steps}
use Rattle.std.proofs.lemmas.List.Sorted.{answers_always}
use Rattle.std.specs.List.Sorted.{IsPermutation}
use Rattle.rt_rows.specs.declared.name.Name.{Name}
use Rattle.rt_rows.specs.Order.{place_of}
use Rattle.rt_rows.specs.Keys.{key_of}
use Rattle.rt_rows.proofs.Sorting.{sorted_of}
use Rattle.rt_rows.proofs.order.sorted.Goals as goal

pub returns : goal.returns
returns c =
    let moved : IsPermutation c.args.names.now c.sort_by_key.new.self.items = grind (arith, common_steps) in
    sorted_of c.args.names.now c.sort_by_key.new.self.items moved
    (c.in_ok-sort_by_key.ensures.sorted (λ (name : Name). key_of (place_of name)) (answers_always _ _ _ (λ f a r g h. search rules)))
