use Rattle.std.proofs.Common.{sym, subst}
use Rattle.rt_rows.specs.Places.{places}
use Rattle.rt_template.specs.Vertical.{RowUpwards}
use Rattle.rt_base.specs.declared.plane.Axis.TheVariants.{Upwards}
use Rattle.rt_path.specs.Longest.{IsCause}
use Rattle.rt_place.specs.Placing.{HoldsRows}
use Rattle.rt_place.proofs.Placed.{are_columns, differences_upwards, heights_placed, none_upwards}
use Rattle.rt_place.proofs.placing.place_upwards.Goals as goal

pub rows_upwards-requires-clause-columns : goal.rows_upwards-requires-clause-columns
rows_upwards-requires-clause-columns c = are_columns c.args.job.now c.args.columns.now c.requires.job.job_of.target c.requires.columns

pub longest-requires : goal.longest-requires
longest-requires c = differences_upwards c.args.job.now c.args.columns.now c.requires.job.job_of.target c.requires.job.job_of.target_pairs c.as_slice.result.now (subst (HoldsRows (RowUpwards c.args.job.now (places c.args.columns.now))) (sym c.as_slice.ensures) c.in_ok-rows.ensures)

pub returns-in-Ok-clause-placed : goal.returns-in-Ok-clause-placed
returns-in-Ok-clause-placed c =
    heights_placed c.args.job.now c.args.columns.now c.requires.job.job_of.target c.requires.job.job_of.target_pairs c.as_slice.result.now (subst (HoldsRows (RowUpwards c.args.job.now (places c.args.columns.now))) (sym c.as_slice.ensures) c.in_ok-rows.ensures) c.in-Ok.heights c.in-Ok.ensures.least.least

pub returns-in-Err-Refuted-clause-refused : goal.returns-in-Err-Refuted-clause-refused
returns-in-Err-Refuted-clause-refused c =
    none_upwards c.args.job.now c.args.columns.now c.requires.job.job_of.target c.requires.job.job_of.target_pairs c.requires.columns.least c.as_slice.result.now (subst (HoldsRows (RowUpwards c.args.job.now (places c.args.columns.now))) (sym c.as_slice.ensures) c.in_ok-rows.ensures)
    c.in-Err-Refuted.field-0-0.nodes (subst (IsCause Upwards c.as_slice.result.now) c.in-Err-Refuted.field-0-is c.in-Err-Refuted.ensures.none).proved
