use Rattle.std.proofs.lemmas.Result.{err_from_is_err_and}
use Rattle.rt_tech.specs.declared.table.Which.TheVariants.{Target}
use Rattle.rt_tables.proofs.Valid.{valid_table}
use Rattle.rt_retarget.proofs.inputs.read_inputs.Goals as goal

pub read_asked-requires : goal.read_asked-requires
read_asked-requires c = let valid = valid_table Target _ _ c.in_ok-tables.ensures.read.target_read in valid.grid

pub returns-in_err-tables-clause-refused : goal.returns-in_err-tables-clause-refused
returns-in_err-tables-clause-refused c =
    let p = err_from_is_err_and c.from_residual.result c.from_residual.ensures.1 in
    rw (p.1, p.2) (λ source. c.in_err-tables.ensures.refused source c.args.sizes.now)
