use Rattle.std.proofs.Common.{List, sym, subst₂}
use Rattle.std.proofs.lemmas.Result.{IfOk-weaker}
use Rattle.rt_rows.specs.declared.name.Name.{Name}
use Rattle.rt_rows.specs.Keys.{IsSortedOf}
use Rattle.rt_rows.proofs.Sorting.{put_by_sort}
use Rattle.rt_rows.proofs.order.put_in_order.Goals as goal

pub returns : goal.returns
returns c =
    let of : IsSortedOf c.args.names c.as_slice-2.result.now =
    subst₂ (λ (names sorted : List Name). IsSortedOf names sorted) c.as_slice.ensures (sym c.as_slice-2.ensures.value) c.in_ok-sorted.ensures in
    IfOk-weaker c.each_once.result _ _ (λ kept put. put_by_sort c.args.names c.as_slice-2.result.now kept of put) c.each_once.ensures
