use Rattle.rt_rows.specs.Places.{places}
use Rattle.rt_vtemplate.proofs.Closeness.{kept_unclimbed, kept_seen}
use Rattle.rt_vtemplate.proofs.close.is_kept_above.Goals as goal

pub returns-then-not-has : goal.returns-then-not-has
returns-then-not-has c =
    kept_unclimbed c.args.job.now c.requires.job (places c.args.columns.now) c.args.i c.args.j c.if-not-are_both_strips.ensures c.if-not-is_above.ensures
    c.if-not-is_close.ensures c.has.result c.has.ensures c.if-not-has.true

pub returns : goal.returns
returns c =
    kept_seen c.args.job.now c.requires.job (places c.args.columns.now) c.args.i c.args.j c.if-not-are_both_strips.ensures c.if-not-is_above.ensures
    c.if-not-is_close.ensures c.has.result c.has.ensures c.if-not-has.false c.if-touching.ensures c.is_seen.result c.is_seen.ensures
