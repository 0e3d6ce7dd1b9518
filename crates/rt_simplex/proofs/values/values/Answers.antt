use Rattle.std.proofs.Common.{◌∙◌, ◌+◌, length, ap, sym, subst, arith}
use Rattle.rt_simplex.specs.Shares.{AreFilled}
use Rattle.rt_simplex.proofs.Gathered.{none_filled, written, values_at_last}
use Rattle.rt_simplex.proofs.values.values.Goals as goal

pub loop-i-init : goal.loop-i-init
loop-i-init c = none_filled c.args.table.now c.in_ok-at.at.items c.columns.result c.rows.result c.columns.ensures c.rows.ensures (c.in_ok-at.ensures.items_if_clones_equal (λ y e. e))

pub loop-i-preserved : goal.loop-i-preserved
loop-i-preserved c =
    subst (AreFilled c.args.table.now (c.loop-i.i + 1))
    (sym (written c.fill.new.at c.loop-i.at.items _ c.loop-i.at.len (c.fill.ensures.one_each ∙ sym c.loop-i.invariant.one_each)
    (let e = c.as_mut_slice.ensures.len in let f = ap length c.as_mut_slice.ensures.value in omega (arith, e, f)))) c.fill.ensures

pub returns : goal.returns
returns c =
    subst (AreFilled c.args.table.now _) (sym c.of.ensures)
    (values_at_last c.args.table.now c.loop-i.at.items c.loop-i.i c.rows-i-end.result c.loop-i.invariant c.rows-i-end.ensures c.loop-i.auto.i-end c.loop-i-test.false)
