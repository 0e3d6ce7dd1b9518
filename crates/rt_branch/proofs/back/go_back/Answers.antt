use Rattle.std.proofs.Common.{reverse, sym, subst}
use Rattle.rt_branch.proofs.Undone.{IsGoingBack, popped, more_there, can_undo, small_undone, back_further}
use Rattle.rt_branch.proofs.back.go_back.Goals as goal

pub undo-requires-clause-can : goal.undo-requires-clause-can
undo-requires-clause-can c =
    can_undo c.args.length (reverse c.args.changes.now.items) c.args.table.now (reverse c.loop-alloc.changes.items) c.loop-alloc.table c.loop-alloc.invariant c.in-Some.change (reverse c.pop.new.self.items)
    (popped c.loop-alloc.changes.items c.pop.new.self.items c.in-Some.change c.in-Some.ensures.items)
    (more_there c.loop-alloc.changes.items c.args.length c.len.result _ c.loop-alloc-test.true c.len.ensures c.loop-alloc.changes.ok.0)

pub undo-requires-clause-small : goal.undo-requires-clause-small
undo-requires-clause-small c =
    small_undone c.args.length (reverse c.args.changes.now.items) c.args.table.now (reverse c.loop-alloc.changes.items) c.loop-alloc.table c.loop-alloc.invariant c.in-Some.change (reverse c.pop.new.self.items)
    (popped c.loop-alloc.changes.items c.pop.new.self.items c.in-Some.change c.in-Some.ensures.items)
    (more_there c.loop-alloc.changes.items c.args.length c.len.result _ c.loop-alloc-test.true c.len.ensures c.loop-alloc.changes.ok.0)

pub loop-alloc-preserved : goal.loop-alloc-preserved
loop-alloc-preserved c =
    subst (IsGoingBack c.args.length (reverse c.args.changes.now.items) c.args.table.now (reverse c.pop.new.self.items)) (sym c.in_ok-undo.ensures)
    (back_further c.args.length (reverse c.args.changes.now.items) c.args.table.now (reverse c.loop-alloc.changes.items) c.loop-alloc.table c.loop-alloc.invariant c.in-Some.change (reverse c.pop.new.self.items)
    (popped c.loop-alloc.changes.items c.pop.new.self.items c.in-Some.change c.in-Some.ensures.items)
    (more_there c.loop-alloc.changes.items c.args.length c.len.result _ c.loop-alloc-test.true c.len.ensures c.loop-alloc.changes.ok.0))
