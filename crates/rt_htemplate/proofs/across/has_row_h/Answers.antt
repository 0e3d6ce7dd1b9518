use Rattle.std.proofs.Common.{sym, subst₂}
use Rattle.rt_template.specs.Horizontal.{RowAcross}
use Rattle.rt_htemplate.proofs.Answered.{no_other}
use Rattle.rt_htemplate.proofs.across.has_row_h.Goals as goal

pub returns-in-Zero : goal.returns-in-Zero
returns-in-Zero c = subst₂ (RowAcross c.args.job.now) (sym c.in-Zero.is) (sym c.at_least.ensures) RowAcross.zero

pub returns-in-Top : goal.returns-in-Top
returns-in-Top c = subst₂ (RowAcross c.args.job.now) (sym c.in-Top.is) (sym c.at_most.ensures) RowAcross.top

pub returns-in_default : goal.returns-in_default
returns-in_default c = λ row.
    let others = c.in_default in
    no_other c.args.job.now c.args.name row others.not-Lo others.not-Hi others.not-Zero others.not-Top others.not-Wide others.not-Ll others.not-Rr others.not-Share
    others.not-Gap others.not-Size others.not-Off others.not-Inl others.not-Inr
