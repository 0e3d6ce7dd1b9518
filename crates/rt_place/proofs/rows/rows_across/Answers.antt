use Rattle.std.proofs.Common.{List, sym, subst}
use Rattle.std.specs.List.Sorted.{IsPermutation}
use Rattle.rt_rows.specs.declared.name.Name.{Name}
use Rattle.rt_rows.specs.declared.row.Row.{Row}
use Rattle.rt_rows.specs.Order.{ListsNames}
use Rattle.rt_template.specs.Horizontal.{RowAcross, HasAcross}
use Rattle.rt_place.specs.Placing.{AreRowsOf}
use Rattle.rt_place.proofs.Named.{across_held}
use Rattle.rt_place.proofs.Ordered.{ordered_held}
use Rattle.rt_place.proofs.rows.rows_across.Goals as goal

pub with_rows-requires-clause-listed : goal.with_rows-requires-clause-listed
with_rows-requires-clause-listed c = subst (ListsNames (HasAcross c.args.job.now)) (sym c.as_slice.ensures) c.in_ok-names.ensures

pub returns : goal.returns
returns c =
    ordered_held (RowAcross c.args.job.now) c.in_ok-rows.rows c.in_ok-ordered.ordered
    (subst (λ (l : List (Name × Row)). IsPermutation l c.in_ok-ordered.ordered) c.as_slice-2.ensures c.in_ok-ordered.ensures)
    (across_held c.args.job.now c.in_ok-names.names c.in_ok-rows.rows c.in_ok-names.ensures
    (subst (λ (l : List Name). AreRowsOf (RowAcross c.args.job.now) l c.in_ok-rows.rows) c.as_slice.ensures c.in_ok-rows.ensures))
