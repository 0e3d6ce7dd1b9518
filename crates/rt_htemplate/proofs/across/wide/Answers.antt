use Rattle.std.proofs.Common.{rules, w64, FitsSigned, sym, ap, ◌∙◌}
use Rattle.std.proofs.lemmas.Int.{to_z-of_z}
use Rattle.rt_strips.specs.declared.listing.Strip.{Strip}
use Rattle.rt_tech.specs.Tech.{width_of}
use Rattle.rt_rows.specs.Rows.{beyond}
use Rattle.rt_rows.specs.declared.row.Var.TheVariants.{L, R}
use Rattle.rt_strips.specs.Placed.{placed}
use Rattle.rt_htemplate.proofs.Reading.{read_is}
use Rattle.rt_htemplate.proofs.Answered.{wide_there}
use Rattle.rt_htemplate.proofs.across.wide.Goals as goal

pub returns-then-is_strip : goal.returns-then-is_strip
returns-then-is_strip c =
    let strip = c.index-as_slice-i.result in
    let fits : FitsSigned w64 c.width_of.result = search rules in
    wide_there c.args.job.now c.args.i (placed strip) c.beyond.result c.if-is_strip.ensures
    (read_is c.args.job.now c.as_slice.result.now c.args.i strip c.as_slice.ensures c.if-is_strip.ensures c.index-as_slice-i.is)
    (c.beyond.ensures ∙ ap (beyond (L c.args.i) (R c.args.i))
    (to_z-of_z w64 _ fits ∙ c.width_of.ensures ∙ ap (λ (s : Strip). width_of c.args.job.now.target s.mask) (sym c.index-as_slice-i.is)))
