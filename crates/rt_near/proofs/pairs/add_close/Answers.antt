use Rattle.std.proofs.Common.{List, [], ◌∷◌, ◌++◌, ◌+◌, ◌∙◌, ℕ, sym, subst, ap, arith}
use Rattle.rt_near.specs.Entries.{no_entry}
use Rattle.rt_near.specs.Pairs.{AreAdded}
use Rattle.rt_near.proofs.Listed.{one_added, all_added}
use Rattle.rt_near.proofs.pairs.add_close.Goals as goal

pub is_close-requires-clause-order : goal.is_close-requires-clause-order
is_close-requires-clause-order c =
    c.requires.order.in_order c.args.place c.loop-next.next no_entry c.loop-next.invariant.later c.loop-next-test.true

pub is_close-requires-clause-second : goal.is_close-requires-clause-second
is_close-requires-clause-second c = c.requires.intervals.each c.loop-next.next c.loop-next-test.true

pub loop-next-preserved : goal.loop-next-preserved
loop-next-preserved c = record {
  later = omega arith;
  within = omega arith;
  added = subst (λ (l : List (ℕ × ℕ)). AreAdded c.args.entries.now c.args.place (c.loop-next.next + 1) c.args.pairs.now l)
      (sym (c.in_ok-push.ensures.ok ∙ ap (λ (pair : ℕ × ℕ). c.loop-next.pairs ++ pair ∷ []) c.numbers.ensures))
      (one_added c.args.entries.now c.args.place c.loop-next.next c.loop-next.invariant.later c.args.pairs.now c.loop-next.pairs c.if-is_close.ensures
      c.loop-next.invariant.added);
}

pub returns-else-is_close : goal.returns-else-is_close
returns-else-is_close c =
    all_added c.args.entries.now c.args.place c.loop-next.next c.loop-next.invariant.later c.requires.order c.requires.intervals
    (λ _. c.if-is_close.ensures) c.loop-next.invariant.within c.args.pairs.now c.loop-next.pairs c.loop-next.invariant.added
