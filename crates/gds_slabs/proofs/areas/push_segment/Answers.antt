use Rattle.std.proofs.Common.{◌≡◌, FitsSigned, w32, of_z, rules, ap, arith}
use Rattle.std.proofs.lemmas.Int.{ints}
use Rattle.std.proofs.lemmas.Result.{on_ok_weaker}
use Rattle.gds_slabs.proofs.Paths.{row_pushed, column_pushed}
use Rattle.gds_slabs.proofs.Nearness.{near_pushed}
use Rattle.gds_slabs.proofs.areas.push_segment.Goals as goal

pub returns-then-p-q-clause-areas : goal.returns-then-p-q-clause-areas
returns-then-p-q-clause-areas c =
    on_ok_weaker c.push.result
    (λ is. column_pushed c.args.pen.now.half c.args.p.now c.args.q.now c.args.rects.now c.push.new.self c.along_column.result
    (λ e. c.if-p-q.true (ap (of_z w32) e)) is c.along_column.ensures.area)
    c.push.ensures.ok

pub returns-then-p-q-clause-near : goal.returns-then-p-q-clause-near
returns-then-p-q-clause-near c =
    on_ok_weaker c.push.result (λ is. near_pushed c.args.rects.now c.push.new.self c.along_column.result is c.along_column.ensures.near) c.push.ensures.ok

pub returns-then-p-q-2-clause-areas : goal.returns-then-p-q-2-clause-areas
returns-then-p-q-2-clause-areas c =
    let f : FitsSigned w32 c.args.p.now.y = search rules in
    let g : FitsSigned w32 c.args.q.now.y = search rules in
    let same : c.args.p.now.y ≡ c.args.q.now.y = omega (arith, ints, c.if-p-q.false) in
    on_ok_weaker c.push-then-p-q-2.result
    (λ is. row_pushed c.args.pen.now.half c.args.p.now c.args.q.now c.args.rects.now c.push-then-p-q-2.new.self c.along_row.result same
    (λ e. c.if-p-q-2.true (ap (of_z w32) e)) is c.along_row.ensures.area)
    c.push-then-p-q-2.ensures.ok

pub returns-then-p-q-2-clause-near : goal.returns-then-p-q-2-clause-near
returns-then-p-q-2-clause-near c =
    on_ok_weaker c.push-then-p-q-2.result (λ is. near_pushed c.args.rects.now c.push-then-p-q-2.new.self c.along_row.result is c.along_row.ensures.near)
    c.push-then-p-q-2.ensures.ok
