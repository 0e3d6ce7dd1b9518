use Rattle.rt_tableau.proofs.Combined.{crossed_fits, crossed_is, crossed_wide}
use Rattle.rt_tableau.proofs.line.crossed.Goals as goal

pub overflow_sub-result : goal.overflow_sub-result
overflow_sub-result c =
    crossed_fits c.args.a.now c.args.b.now c.args.x.now c.args.y.now c.from-3.result c.from.result c.from-4.result c.from-2.result c.requires.a c.requires.b c.requires.x c.requires.y c.from-3.ensures c.from.ensures
    c.from-4.ensures c.from-2.ensures

pub returns-clause-value : goal.returns-clause-value
returns-clause-value c =
    crossed_is c.args.a.now c.args.b.now c.args.x.now c.args.y.now c.from-3.result c.from.result c.from-4.result c.from-2.result c.requires.a c.requires.b c.requires.x c.requires.y c.from-3.ensures c.from.ensures
    c.from-4.ensures c.from-2.ensures

pub returns-clause-wide : goal.returns-clause-wide
returns-clause-wide c =
    crossed_wide c.args.a.now c.args.b.now c.args.x.now c.args.y.now c.from-3.result c.from.result c.from-4.result c.from-2.result c.requires.a c.requires.b c.requires.x c.requires.y c.from-3.ensures c.from.ensures
    c.from-4.ensures c.from-2.ensures
