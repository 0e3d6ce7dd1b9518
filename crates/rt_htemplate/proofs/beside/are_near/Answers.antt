use Rattle.std.proofs.Common.{Bool, sym, subst}
use Rattle.std.specs.Bool.{MatchBool}
use Rattle.rt_strips.specs.Placed.{placed}
use Rattle.rt_template.specs.Horizontal.{AreNear}
use Rattle.rt_htemplate.proofs.Reading.{read_is}
use Rattle.rt_htemplate.proofs.InRows.{near_by, far_apart}
use Rattle.rt_htemplate.proofs.beside.are_near.Goals as goal

pub returns-then-are_few_rows_apart : goal.returns-then-are_few_rows_apart
returns-then-are_few_rows_apart c =
    let list = c.as_slice-list.result.now in
    near_by c.args.job.now c.args.i c.args.j (placed c.index-list-i.result) (placed c.index-list-j.result)
    (read_is c.args.job.now list c.args.i c.index-list-i.result c.as_slice-list.ensures c.requires.first c.index-list-i.is)
    (read_is c.args.job.now list c.args.j c.index-list-j.result c.as_slice-list.ensures c.requires.second c.index-list-j.is)
    c.if-have_row.ensures c.if-are_few_rows_apart.ensures c.is_neither_climbed.result c.is_neither_climbed.ensures

pub returns-else-are_few_rows_apart : goal.returns-else-are_few_rows_apart
returns-else-are_few_rows_apart c =
    let list = c.as_slice-list.result.now in
    let far = far_apart c.args.job.now c.args.i c.args.j (placed c.index-list-i.result) (placed c.index-list-j.result)
    (read_is c.args.job.now list c.args.i c.index-list-i.result c.as_slice-list.ensures c.requires.first c.index-list-i.is)
    (read_is c.args.job.now list c.args.j c.index-list-j.result c.as_slice-list.ensures c.requires.second c.index-list-j.is)
    c.if-have_row.ensures c.if-are_few_rows_apart.ensures in
    subst (λ (v : Bool). MatchBool v (AreNear c.args.job.now c.args.i c.args.j) (¬ AreNear c.args.job.now c.args.i c.args.j)) (sym c.if-are_few_rows_apart.false) far
