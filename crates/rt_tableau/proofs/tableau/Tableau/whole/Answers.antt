use Rattle.rt_tableau.proofs.Told.{whole_read, whole_small}
use Rattle.rt_tableau.proofs.tableau.Tableau.whole.Goals as goal

pub returns-clause-entry : goal.returns-clause-entry
returns-clause-entry c =
    whole_read _ c.args.self.now c.self.inside.lines.items c.index.result.now c.as_slice.result.now c.args.i c.args.j c.columns-columns.result c.index-2.result c.number.result c.self.view_is c.self.invariant
    c.requires.row c.index.ensures c.as_slice.ensures c.columns-columns.ensures c.index-2.ensures c.number.ensures

pub returns-clause-small : goal.returns-clause-small
returns-clause-small c =
    whole_small _ c.args.self.now c.self.inside.lines.items c.index.result.now c.as_slice.result.now c.args.i c.index-2.result c.number.result c.self.view_is c.self.invariant c.requires.row c.index.ensures
    c.as_slice.ensures c.number.ensures
