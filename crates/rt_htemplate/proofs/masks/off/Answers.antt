use Rattle.std.proofs.Common.{rules, w64, FitsSigned, ap, ◌∙◌}
use Rattle.std.proofs.lemmas.Int.{to_z-of_z}
use Rattle.rt_rows.specs.Rows.{beyond}
use Rattle.rt_rows.specs.declared.row.Var.TheVariants.{L, R}
use Rattle.rt_htemplate.proofs.Answered.{no_off, off_there}
use Rattle.rt_htemplate.proofs.masks.off.Goals as goal

pub returns-then-not-is_off_right : goal.returns-then-not-is_off_right
returns-then-not-is_off_right c = λ row. no_off c.args.job.now c.args.q c.args.i c.args.j row c.if-not-is_off_right.ensures

pub returns : goal.returns
returns c =
    let fits : FitsSigned w64 c.apart_number.result = search rules in
    off_there c.args.job.now c.args.q c.args.i c.args.j c.beyond.result c.if-not-is_off_right.ensures
    (c.beyond.ensures ∙ ap (beyond (R c.args.i) (L c.args.j)) (to_z-of_z w64 _ fits ∙ c.apart_number.ensures))
