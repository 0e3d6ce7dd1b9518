use Rattle.std.proofs.Common.{◌≡◌, ℕ, Option, None, replicate, rules, ◌∙◌, ◌+◌, length, ap, sym, subst, arith}
use Rattle.rt_branch.specs.Ends.{HasRows}
use Rattle.rt_branch.proofs.Pointed.{none_seen, all_seen, written}
use Rattle.rt_branch.proofs.point.rows_of.Goals as goal

pub loop-i-init : goal.loop-i-init
loop-i-init c =
    let is : c.in_ok-rows.rows.items ≡ replicate {A = Option ℕ} c.variables.result None = search rules in
    none_seen c.args.table.now c.in_ok-rows.rows.items c.variables.result c.variables.ensures is

pub loop-i-preserved : goal.loop-i-preserved
loop-i-preserved c =
    subst (HasRows c.args.table.now (c.loop-i.i + 1))
    (sym (written c.fill.new.rows c.loop-i.rows.items _ c.loop-i.rows.len (c.fill.ensures.one_each ∙ sym c.loop-i.invariant.one_each)
    (let e = c.as_mut_slice.ensures.len in let f = ap length c.as_mut_slice.ensures.value in omega (arith, e, f)))) c.fill.ensures

pub returns : goal.returns
returns c = all_seen c.args.table.now c.loop-i.rows.items c.loop-i.i c.rows-i-end.result c.loop-i.invariant c.rows-i-end.ensures c.loop-i.auto.i-end c.loop-i-test.false
