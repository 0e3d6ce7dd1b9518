use Rattle.std.proofs.Common.{sym, subst}
use Rattle.rt_template.specs.Horizontal.{RowAcross}
use Rattle.rt_base.specs.declared.plane.Axis.TheVariants.{Across}
use Rattle.rt_path.specs.Longest.{IsCause}
use Rattle.rt_place.specs.Placing.{HoldsRows}
use Rattle.rt_place.proofs.Placed.{differences_across, columns_placed, none_across}
use Rattle.rt_place.proofs.placing.place_across.Goals as goal

pub longest-requires : goal.longest-requires
longest-requires c = differences_across c.args.job.now c.requires.job.job_of.target c.requires.job.job_of.target_pairs c.as_slice.result.now (subst (HoldsRows (RowAcross c.args.job.now)) (sym c.as_slice.ensures) c.in_ok-rows.ensures)

pub returns-in-Ok-clause-placed : goal.returns-in-Ok-clause-placed
returns-in-Ok-clause-placed c =
    columns_placed c.args.job.now c.requires.job.job_of.target c.requires.job.job_of.target_pairs c.as_slice.result.now (subst (HoldsRows (RowAcross c.args.job.now)) (sym c.as_slice.ensures) c.in_ok-rows.ensures) c.in-Ok.columns c.in-Ok.ensures.least.least

pub returns-in-Err-Refuted-clause-refused : goal.returns-in-Err-Refuted-clause-refused
returns-in-Err-Refuted-clause-refused c =
    none_across c.args.job.now c.requires.job.job_of.target c.requires.job.job_of.target_pairs c.as_slice.result.now (subst (HoldsRows (RowAcross c.args.job.now)) (sym c.as_slice.ensures) c.in_ok-rows.ensures) c.in-Err-Refuted.field-0-0.nodes (subst (IsCause Across c.as_slice.result.now) c.in-Err-Refuted.field-0-is c.in-Err-Refuted.ensures.none).proved
