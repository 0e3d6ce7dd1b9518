use Rattle.std.proofs.Common.{◌≡◌, arith, of_z, to_z, w64, ◌∙◌}
use Rattle.std.proofs.lemmas.Int.{ints}
use Rattle.rt_drc.proofs.Enclosed.{wider_first}
use Rattle.rt_drc.proofs.beside.wider_gap_to.Goals as goal

pub returns-else-columns-rows : goal.returns-else-columns-rows
returns-else-columns-rows c =
    let columns = c.columns_to-columns.result in
    let rows = c.rows_to-rows.result in
    let e : to_z w64 (of_z w64 columns) ≡ columns = omega (arith, ints) in
    e ∙ wider_first _ _ columns rows c.columns_to-columns.ensures c.rows_to-rows.ensures (omega (arith, ints))
