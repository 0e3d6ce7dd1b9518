use Rattle.std.proofs.Common.{rules, w64, FitsSigned, neg_ℤ, sym, ap, ◌∙◌}
use Rattle.std.proofs.lemmas.Int.{to_z-of_z}
use Rattle.rt_strips.specs.declared.listing.Strip.{Strip}
use Rattle.rt_tech.specs.Tech.{width_of}
use Rattle.rt_rows.specs.Rows.{beyond}
use Rattle.rt_rows.specs.declared.row.Var.TheVariants.{L, R}
use Rattle.rt_strips.specs.Placed.{placed}
use Rattle.rt_htemplate.proofs.Reading.{read_is}
use Rattle.rt_htemplate.proofs.Answered.{no_size, size_there}
use Rattle.rt_htemplate.proofs.masks.size.Goals as goal

pub returns-then-not-is_cut_strip : goal.returns-then-not-is_cut_strip
returns-then-not-is_cut_strip c = λ row. no_size c.args.job.now c.args.i row c.if-not-is_cut_strip.ensures

pub returns : goal.returns
returns c =
    let strip = c.index-as_slice-i.result in
    let fits : FitsSigned w64 c.less_width.result = search rules in
    let cut = c.if-not-is_cut_strip.ensures in
    size_there c.args.job.now c.args.i (placed strip) c.beyond.result cut
    (read_is c.args.job.now c.as_slice.result.now c.args.i strip c.as_slice.ensures cut.strip c.index-as_slice-i.is)
    (c.beyond.ensures ∙ ap (beyond (R c.args.i) (L c.args.i))
    (to_z-of_z w64 _ fits ∙ c.less_width.ensures ∙ ap (λ (s : Strip). neg_ℤ (width_of c.args.job.now.target s.mask)) (sym c.index-as_slice-i.is)))
