use Rattle.std.proofs.Common.{◌∙◌}
use Rattle.rt_path.proofs.Named.{all_three}
use Rattle.rt_path.proofs.Answered.{all_fit, reaches, found_by, caused_by}
use Rattle.rt_path.proofs.along_axis.longest.Goals as goal

pub count_strips-count-requires : goal.count_strips-count-requires
count_strips-count-requires c = all_three c.args.axis c.args.rows.now c.requires.each

pub solve-requires-clause-fit : goal.solve-requires-clause-fit
solve-requires-clause-fit c =
    all_fit c.args.axis c.args.rows.now c.count_strips-count.result c.as_slice.result.now c.requires c.count_strips-count.ensures.value (c.as_slice.ensures ∙ c.in_ok-steps.ensures)

pub solve-requires-clause-extent : goal.solve-requires-clause-extent
solve-requires-clause-extent c =
    reaches c.args.axis c.args.rows.now c.count_strips-count.result c.as_slice.result.now c.requires (c.as_slice.ensures ∙ c.in_ok-steps.ensures)

pub returns-clause-least : goal.returns-clause-least
returns-clause-least c =
    found_by c.args.axis c.args.rows.now c.count_strips-count.result c.as_slice.result.now c.solve.result c.requires c.count_strips-count.ensures.value (c.as_slice.ensures ∙ c.in_ok-steps.ensures) c.solve.ensures.least

pub returns-clause-none : goal.returns-clause-none
returns-clause-none c =
    caused_by c.args.axis c.args.rows.now c.count_strips-count.result c.as_slice.result.now c.solve.result c.requires c.count_strips-count.ensures.value (c.as_slice.ensures ∙ c.in_ok-steps.ensures) c.solve.ensures.none
