use Rattle.std.proofs.Common.{rules, w64, FitsSigned, sym, ap, ◌∙◌}
use Rattle.std.proofs.lemmas.Int.{to_z-of_z}
use Rattle.rt_tech.specs.Tech.{space_of}
use Rattle.rt_rows.specs.Rows.{beyond}
use Rattle.rt_rows.specs.declared.row.Var.TheVariants.{L, R}
use Rattle.rt_strips.specs.declared.listing.Strip.{Strip}
use Rattle.rt_strips.specs.Placed.{placed}
use Rattle.rt_htemplate.proofs.Reading.{read_is}
use Rattle.rt_htemplate.proofs.Answered.{no_gap, gap_there}
use Rattle.rt_htemplate.proofs.across.gap.Goals as goal

pub returns-then-not-is_kept_right_of : goal.returns-then-not-is_kept_right_of
returns-then-not-is_kept_right_of c = λ row. no_gap c.args.job.now c.args.i c.args.j row c.if-not-is_kept_right_of.ensures

pub returns : goal.returns
returns c =
    let strip = c.index-as_slice-i.result in
    let fits : FitsSigned w64 c.space_of.result = search rules in
    let kept = c.if-not-is_kept_right_of.ensures in
    gap_there c.args.job.now c.args.i c.args.j (placed strip) c.beyond.result kept
    (read_is c.args.job.now c.as_slice.result.now c.args.i strip c.as_slice.ensures kept.of_one_mask.one_mask.first c.index-as_slice-i.is)
    (c.beyond.ensures ∙ ap (beyond (R c.args.i) (L c.args.j))
    (to_z-of_z w64 _ fits ∙ c.space_of.ensures ∙ ap (λ (s : Strip). space_of c.args.job.now.target s.mask) (sym c.index-as_slice-i.is)))
