use Rattle.std.proofs.Common.{length, pos, ap, subst, sym, arith, below_more}
use Rattle.rt_rules.specs.Rules.{KeepsDistance}
use Rattle.rt_tech.specs.declared.rules.RuleName.TheVariants.{Apart}
use Rattle.rt_drc.specs.Rows.{cells_of}
use Rattle.rt_drc.proofs.InOrder.{number_at, entry_refused, entries_kept}
use Rattle.rt_drc.proofs.Paired.{distance_refused}
use Rattle.rt_drc.proofs.pairs.check_aparts.Goals as goal

pub returns-in-Err-clause-broken : goal.returns-in-Err-clause-broken
returns-in-Err-clause-broken c =
    let tech = c.args.tech.now in
    let cells = cells_of c.args.strips.now in
    entry_refused tech cells Apart tech.aparts c.loop-n.n (omega (arith, ap length c.as_slice-apart-items.ensures)) c.loop-n.invariant c.in-Err.error
    (λ rest. distance_refused tech cells c.loop-n.n rest c.in-Err.error _
    (number_at tech.aparts c.as_slice-apart-items.result.now c.loop-n.n _ c.as_slice-apart-items.ensures (omega arith)) c.in-Err.ensures.broken)

pub loop-n-preserved : goal.loop-n-preserved
loop-n-preserved c =
    let tech = c.args.tech.now in
    below_more _ _ c.loop-n.invariant
    (subst (KeepsDistance (pos 1) tech (cells_of c.args.strips.now))
    (sym (number_at tech.aparts c.as_slice-apart-items.result.now c.loop-n.n _ c.as_slice-apart-items.ensures (omega arith))) c.in_default.ensures.kept)

pub returns-clause-kept : goal.returns-clause-kept
returns-clause-kept c =
    entries_kept c.args.tech.now (cells_of c.args.strips.now) Apart c.args.tech.now.aparts
    (λ k h. c.loop-n.invariant k (omega (arith, ap length c.as_slice-apart-items.ensures)))
