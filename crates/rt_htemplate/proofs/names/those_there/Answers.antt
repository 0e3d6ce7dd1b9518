use Rattle.std.proofs.Common.{List, ◌+◌, ◌∙◌, sym, subst, arith}
use Rattle.rt_rows.specs.declared.name.Name.{Name}
use Rattle.rt_htemplate.proofs.Kept.{AreThoseSoFar, one_more, none_more, those_there}
use Rattle.rt_htemplate.proofs.names.those_there.Goals as goal
use Rattle.rt_htemplate.proofs.names.those_there.Goals.{then-has_name_h+in_ok-push, else-has_name_h}

pub loop-name-preserved : goal.loop-name-preserved
loop-name-preserved c =
    elim c.if-has_name_h.branch [
      | then-has_name_h+in_ok-push w ↦
          subst (λ (names : List Name). AreThoseSoFar c.args.job.now c.args.offered.now (c.loop-name.name-index + 1) names) (sym (w.names-is ∙ w.in_ok-push.ensures.ok))
          (one_more c.args.job.now c.args.offered.now c.loop-name.name-index c.loop-name.names w.if-has_name_h.ensures c.loop-name.invariant)
      | else-has_name_h w ↦
          subst (λ (names : List Name). AreThoseSoFar c.args.job.now c.args.offered.now (c.loop-name.name-index + 1) names) (sym w.names-is)
          (none_more c.args.job.now c.args.offered.now c.loop-name.name-index c.loop-name.names w.if-has_name_h.ensures c.loop-name.invariant)
    ]

pub returns : goal.returns
returns c = those_there c.args.job.now c.args.offered.now c.loop-name.name-index c.loop-name.names (omega arith) c.loop-name.invariant
