use Rattle.std.proofs.Common.{arith, ap, length, map, subst, sym, ◌∙◌}
use Rattle.std.proofs.lemmas.List.{length-map}
use Rattle.rt_strips.specs.Placed.{placed}
use Rattle.rt_strips.proofs.Placed.{strip_there}
use Rattle.rt_shapes.proofs.Telling.{past_table, row_length, covers_told}
use Rattle.rt_shapes.proofs.bare.covers.Goals as goal

pub returns-then-m-table : goal.returns-then-m-table
returns-then-m-table c =
    past_table (map placed c.args.strips.now) c.args.table.now c.requires.table c.args.m c.args.i (strip_there c.args.strips.now c.args.i c.requires.strip) (omega arith)

pub is_clear-requires : goal.is_clear-requires
is_clear-requires c =
    let strips = c.args.strips.now in
    omega (
      arith,
      ap length c.as_slice.ensures,
      row_length (map placed strips) c.args.table.now c.requires.table c.args.m c.args.i c.index-table-m.result (omega arith) c.index-table-m.is,
      length-map strips placed,
      c.requires.strip,
    )

pub returns : goal.returns
returns c =
    let strips = c.args.strips.now in
    covers_told (map placed strips) c.args.table.now c.requires.table c.args.m c.args.i c.as_slice.result.now (omega arith)
    (c.as_slice.ensures ∙ c.index-table-m.is ∙ ap (λ r. Rattle.std.proofs.Common.get_or c.args.table.now c.args.m r) (sym c.as_slice.ensures))
    (strip_there strips c.args.i c.requires.strip).below_count c.is_clear.result c.is_clear.ensures
