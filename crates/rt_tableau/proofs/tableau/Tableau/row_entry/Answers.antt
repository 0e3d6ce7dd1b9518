use Rattle.rt_tableau.proofs.Told.{row_read}
use Rattle.rt_tableau.proofs.tableau.Tableau.row_entry.Goals as goal

pub returns : goal.returns
returns c =
    row_read _ c.args.self.now c.self.inside.lines.items c.index.result.now c.as_slice-line.result.now c.args.i c.args.j c.columns-columns.result c.index-2.result c.index-3.result.now c.number.result c.number-2.result
    c.ratio.result c.self.view_is c.self.invariant c.requires.row c.index.ensures c.as_slice-line.ensures c.columns-columns.ensures c.index-2.ensures c.number.ensures c.index-3.ensures c.number-2.ensures c.ratio.ensures
