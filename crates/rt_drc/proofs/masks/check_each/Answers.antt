use Rattle.std.proofs.Common.{length, Some, ap, sym, ◌∙◌, arith, below_more}
use Rattle.rt_drc.specs.Rows.{cells_of}
use Rattle.rt_drc.proofs.InOrder.{number_at}
use Rattle.rt_drc.proofs.Listed.{both_kept, masks_kept, masks_broken}
use Rattle.rt_drc.proofs.masks.check_each.Goals as goal

pub returns-in-Err-clause-broken : goal.returns-in-Err-clause-broken
returns-in-Err-clause-broken c =
    let there =
    number_at c.args.tech.now.masks c.as_slice-mask-items.result.now c.loop-m.m c.mask-item.result c.as_slice-mask-items.ensures (omega arith) ∙ ap Some (sym c.mask-item.is) in
    masks_broken c.args.tech.now (cells_of c.args.rows.now.strips.now) c.loop-m.m c.mask-item.result there c.loop-m.invariant c.in-Err.error c.in-Err.ensures.broken

pub loop-m-preserved : goal.loop-m-preserved
loop-m-preserved c =
    let there =
    number_at c.args.tech.now.masks c.as_slice-mask-items.result.now c.loop-m.m c.mask-item.result c.as_slice-mask-items.ensures (omega arith) ∙ ap Some (sym c.mask-item.is) in
    below_more _ _ c.loop-m.invariant
    (both_kept c.args.tech.now (cells_of c.args.rows.now.strips.now) c.loop-m.m c.mask-item.result there c.in_default.ensures.kept)

pub returns-clause-kept : goal.returns-clause-kept
returns-clause-kept c =
    masks_kept c.args.tech.now (cells_of c.args.rows.now.strips.now) (λ k h. c.loop-m.invariant k (omega (arith, ap length c.as_slice-mask-items.ensures)))
