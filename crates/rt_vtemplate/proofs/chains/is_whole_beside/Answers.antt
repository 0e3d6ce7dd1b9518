use Rattle.std.proofs.Common.{◌<ℤ◌, pos, ◌+ℤ◌, ◌-ℤ◌, sym, subst}
use Rattle.rt_near.specs.declared.near.Sides.{Sides}
use Rattle.rt_rows.specs.Places.{places}
use Rattle.rt_strips.proofs.Placed.{strip_there}
use Rattle.rt_vtemplate.specs.Whole.{IsSpan}
use Rattle.rt_vtemplate.proofs.Wholes.{at_left, at_two, at_right, at_last}
use Rattle.rt_vtemplate.proofs.chains.is_whole_beside.Goals as goal

pub first_two-requires : goal.first_two-requires
first_two-requires c =
    subst (λ (s : Sides). s.low <ℤ s.high) (sym c.columns_at-sides.ensures)
    (c.requires.columns.apart c.args.k (strip_there c.args.job.now.view.strips.list c.args.k c.requires.third))

pub last_two-requires : goal.last_two-requires
last_two-requires c =
    subst (λ (s : Sides). s.low <ℤ s.high) (sym c.columns_at-sides.ensures)
    (c.requires.columns.apart c.args.k (strip_there c.args.job.now.view.strips.list c.args.k c.requires.third))

pub returns-then-is_whole_at : goal.returns-then-is_whole_at
returns-then-is_whole_at c =
    at_left c.args.job.now (places c.args.columns.now) c.args.k c.args.i c.args.j c.first_column.result
    (subst (λ (s : Sides). IsSpan s.low s.low c.first_column.result) c.columns_at-sides.ensures c.first_column.ensures) c.if-is_whole_at.ensures

pub returns-then-is_whole_at-2 : goal.returns-then-is_whole_at-2
returns-then-is_whole_at-2 c =
    at_two c.args.job.now (places c.args.columns.now) c.args.k c.args.i c.args.j c.first_two.result
    (subst (λ (s : Sides). IsSpan s.low (s.low +ℤ pos 1) c.first_two.result) c.columns_at-sides.ensures c.first_two.ensures) c.if-is_whole_at-2.ensures

pub returns-then-is_whole_at-3 : goal.returns-then-is_whole_at-3
returns-then-is_whole_at-3 c =
    at_right c.args.job.now (places c.args.columns.now) c.args.k c.args.i c.args.j c.column_behind.result
    (subst (λ (s : Sides). IsSpan s.high s.high c.column_behind.result) c.columns_at-sides.ensures c.column_behind.ensures) c.if-is_whole_at-3.ensures

pub returns : goal.returns
returns c =
    at_last c.args.job.now (places c.args.columns.now) c.args.k c.args.i c.args.j c.first_column.result c.first_two.result c.column_behind.result c.last_two.result
    (subst (λ (s : Sides). IsSpan s.low s.low c.first_column.result) c.columns_at-sides.ensures c.first_column.ensures)
    (subst (λ (s : Sides). IsSpan s.low (s.low +ℤ pos 1) c.first_two.result) c.columns_at-sides.ensures c.first_two.ensures)
    (subst (λ (s : Sides). IsSpan s.high s.high c.column_behind.result) c.columns_at-sides.ensures c.column_behind.ensures)
    (subst (λ (s : Sides). IsSpan (s.high -ℤ pos 1) s.high c.last_two.result) c.columns_at-sides.ensures c.last_two.ensures)
    c.if-is_whole_at.ensures c.if-is_whole_at-2.ensures c.if-is_whole_at-3.ensures c.is_whole_at-4.result c.is_whole_at-4.ensures
