use Rattle.std.proofs.Common.{List, subst}
use Rattle.std.specs.List.Sorted.{IsPermutation}
use Rattle.rt_rows.specs.declared.name.Name.{Name}
use Rattle.rt_rows.specs.declared.row.Row.{Row}
use Rattle.rt_rows.specs.Places.{places}
use Rattle.rt_template.specs.Vertical.{RowUpwards}
use Rattle.rt_place.proofs.Named.{held}
use Rattle.rt_place.proofs.Ordered.{ordered_held}
use Rattle.rt_place.proofs.rows.rows_upwards.Goals as goal

pub returns : goal.returns
returns c =
    let template = RowUpwards c.args.job.now (places c.args.columns.now) in
    ordered_held template c.in_ok-rows.rows c.in_ok-ordered.ordered
    (subst (λ (l : List (Name × Row)). IsPermutation l c.in_ok-ordered.ordered) c.as_slice.ensures c.in_ok-ordered.ensures)
    (held template c.in_ok-rows.rows c.in_ok-rows.ensures)
