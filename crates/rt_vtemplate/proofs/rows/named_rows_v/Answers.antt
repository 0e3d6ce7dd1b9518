use Rattle.std.proofs.Common.{List, map, All, ap, sym, subst, ◌∙◌}
use Rattle.rt_rows.specs.declared.name.Name.{Name}
use Rattle.rt_rows.specs.declared.row.Row.{Row}
use Rattle.rt_rows.specs.Places.{places}
use Rattle.rt_template.specs.Vertical.{RowUpwards}
use Rattle.rt_vtemplate.specs.Listing.{ListsRows, with_row, IsKnown}
use Rattle.rt_vtemplate.proofs.Listed.{all_known, rows_listed}
use Rattle.rt_vtemplate.proofs.rows.named_rows_v.Goals as goal

pub with_rows-requires-clause-known : goal.with_rows-requires-clause-known
with_rows-requires-clause-known c =
    subst (λ (l : List Name). All (IsKnown c.args.job.now) l) (sym c.as_slice.ensures)
    (all_known c.args.job.now (places c.args.columns.now) c.in_ok-names.names c.in_ok-names.ensures.each)

pub returns : goal.returns
returns c =
    subst (λ (l : List (Name × Row)). ListsRows (RowUpwards c.args.job.now (places c.args.columns.now)) l)
    (sym (c.in_ok-rows.ensures ∙ ap (λ (l : List Name). map (with_row c.args.job.now) l) c.as_slice.ensures))
    (rows_listed c.args.job.now (places c.args.columns.now) c.in_ok-names.names c.in_ok-names.ensures)
