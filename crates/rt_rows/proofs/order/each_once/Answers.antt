use Rattle.std.proofs.Common.{List, ◌∙◌, sym, subst, get_or, ◌+◌, arith}
use Rattle.std.proofs.lemmas.List.{get_or_default}
use Rattle.rt_rows.specs.declared.name.Name.{Name}
use Rattle.rt_rows.specs.declared.name.Name.TheVariants.{Lo}
use Rattle.rt_rows.proofs.Sorting.{AreKeptSoFar, one_more, none_more, all_kept}
use Rattle.rt_rows.proofs.order.each_once.Goals as goal
use Rattle.rt_rows.proofs.order.each_once.Goals.{then-is_new+in_ok-push, else-is_new}

pub loop-i-preserved : goal.loop-i-preserved
loop-i-preserved c =
    elim c.if-is_new.branch [
      | then-is_new+in_ok-push w ↦
          let here = get_or c.args.names.now c.loop-i.i (Lo 0) in
          subst (λ (kept : List Name). AreKeptSoFar c.args.names.now (c.loop-i.i + 1) kept) (sym (w.kept-is ∙ w.in_ok-push.ensures.ok))
          (one_more c.args.names.now c.requires c.loop-i.i c.loop-i-test.true c.loop-i.kept here
          (get_or_default c.args.names.now c.loop-i.i (Lo 0) here c.loop-i-test.true) w.if-is_new.ensures c.loop-i.invariant)
      | else-is_new w ↦
          subst (λ (kept : List Name). AreKeptSoFar c.args.names.now (c.loop-i.i + 1) kept) (sym w.kept-is)
          (none_more c.args.names.now c.requires c.loop-i.i c.loop-i-test.true c.loop-i.kept w.if-is_new.ensures c.loop-i.invariant)
    ]

pub returns : goal.returns
returns c = all_kept c.args.names.now c.loop-i.kept c.loop-i.i (omega arith) (omega arith) c.loop-i.invariant
