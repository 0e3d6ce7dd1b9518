use Rattle.std.proofs.Common.{map, arith, ap, subst, ℕ, List, [], ◌∷◌, ◌++◌, ◌∙◌}
use Rattle.rt_strips.specs.Placed.{placed}
use Rattle.rt_columns.specs.Bars.{GoesUpTo}
use Rattle.rt_columns.proofs.Climbing.{reached_itself, one_more_place, all_reached}
use Rattle.rt_columns.proofs.chains.climb.Goals as goal

pub loop-next-init : goal.loop-next-init
loop-next-init c =
    reached_itself (map placed c.args.strips.now.list) c.args.over.now c.requires.bars c.args.place c.requires.place c.push.new.self.items
    (c.in_ok-push.ensures.items ∙ ap (λ (xs : List ℕ). xs ++ c.args.place ∷ []) c.clear.ensures.items)

pub loop-next-preserved : goal.loop-next-preserved
loop-next-preserved c =
    one_more_place (map placed c.args.strips.now.list) c.args.over.now c.requires.bars c.args.place c.requires.place c.loop-next.next
    c.loop-next.reached.items c.take.new.reached.items c.loop-next.invariant c.loop-next-test.true c.in_ok-take.ensures

pub returns-else-goes_up_to : goal.returns-else-goes_up_to
returns-else-goes_up_to c =
    all_reached (map placed c.args.strips.now.list) c.args.over.now c.requires.bars c.args.place c.requires.place c.loop-next.next
    c.loop-next.reached.items c.loop-next.invariant
    (λ l. subst (λ ns. ¬ GoesUpTo c.args.over.now ns c.loop-next.next) c.as_slice.ensures.value c.if-goes_up_to.ensures)

pub returns-after-loop-next : goal.returns-after-loop-next
returns-after-loop-next c =
    all_reached (map placed c.args.strips.now.list) c.args.over.now c.requires.bars c.args.place c.requires.place c.loop-next.next
    c.loop-next.reached.items c.loop-next.invariant (λ l. absurd (omega (arith, c.loop-next-test.false)))
