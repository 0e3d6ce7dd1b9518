use Rattle.std.proofs.Common.{rules, w64, FitsSigned, ap, ◌∙◌}
use Rattle.std.proofs.lemmas.Int.{to_z-of_z}
use Rattle.rt_rows.specs.Rows.{beyond}
use Rattle.rt_rows.specs.declared.row.Var.TheVariants.{R}
use Rattle.rt_htemplate.proofs.Answered.{no_inr, inr_there}
use Rattle.rt_htemplate.proofs.masks.inr.Goals as goal

pub returns-then-not-is_host : goal.returns-then-not-is_host
returns-then-not-is_host c = λ row. no_inr c.args.job.now c.args.q c.args.i c.args.h row c.if-not-is_host.ensures

pub returns : goal.returns
returns c =
    let fits : FitsSigned w64 c.enclose_number.result = search rules in
    inr_there c.args.job.now c.args.q c.args.i c.args.h c.beyond.result c.if-not-is_host.ensures
    (c.beyond.ensures ∙ ap (beyond (R c.args.i) (R c.args.h)) (to_z-of_z w64 _ fits ∙ c.enclose_number.ensures))
