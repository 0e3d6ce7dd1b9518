use Rattle.cert_text.proofs.Staging.{column_number, column_next, behind_columns_next}
use Rattle.cert_text.proofs.stage.behind_column.Goals as goal

pub returns-in-Column : goal.returns-in-Column
returns-in-Column c = column_next c.args.next c.args.line.now c.in-Column.number _ _ (column_number c.args.next c.in-Column.number c.from.result c.args.line.now _ _ c.requires c.in-Column.is c.from.ensures (record { sfits = c.from.type_inv }) c.if-number-from.true) c.in-Column.is

pub returns-in-Across : goal.returns-in-Across
returns-in-Across c = behind_columns_next c.args.next c.args.line.now c.in-Across.is
