use Rattle.std.proofs.Common.{List, ◌+◌, ◌∙◌, sym, subst}
use Rattle.rt_rows.specs.declared.name.Name.{Name}
use Rattle.rt_rows.specs.Places.{places}
use Rattle.rt_vtemplate.specs.Between.{AreThoseAdded}
use Rattle.rt_vtemplate.proofs.Distances.{those_more, those_less}
use Rattle.rt_vtemplate.proofs.between.add_those_there.Goals as goal
use Rattle.rt_vtemplate.proofs.between.add_those_there.Goals.{then-has_name+in_ok-push, else-has_name}

pub loop-name-preserved : goal.loop-name-preserved
loop-name-preserved c =
    let job = c.args.job.now in
    let columns = places c.args.columns.now in
    let offered = c.args.offered.now in
    let before = c.args.names.now in
    elim c.if-has_name.branch [
      | then-has_name+in_ok-push w ↦
          subst (λ (names : List Name). AreThoseAdded job columns offered (c.loop-name.name-index + 1) before names) (sym (w.names-is ∙ w.in_ok-push.ensures.ok))
          (those_more job columns offered before c.loop-name.name-index c.loop-name.names _ c.loop-name-test.true w.if-has_name.ensures c.loop-name.invariant)
      | else-has_name w ↦
          subst (λ (names : List Name). AreThoseAdded job columns offered (c.loop-name.name-index + 1) before names) (sym w.names-is)
          (those_less job columns offered before c.loop-name.name-index c.loop-name.names _ c.loop-name-test.true w.if-has_name.ensures c.loop-name.invariant)
    ]
