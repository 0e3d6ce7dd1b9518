use Rattle.rt_desk.proofs.Lookups.{replaced, added}
use Rattle.rt_desk.proofs.in_memory.put.Goals as goal

pub returns-in-Some-clause-ok : goal.returns-in-Some-clause-ok
returns-in-Some-clause-ok c =
    let at = rw c.deref.ensures.value at c.in-Some.ensures in
    rw (← c.in_ok-copy.ensures.items)
    (replaced c.args.files.now.items c.in-Some.place c.index_mut-file.result.now c.in_ok-copy.copy c.args.name.now at c.index_mut-file.ensures.value)

pub returns-in_ok-push-clause-ok : goal.returns-in_ok-push-clause-ok
returns-in_ok-push-clause-ok c =
    let absent = rw c.deref.ensures.value at c.in_default.ensures in
    rw (c.in_ok-push.ensures.items, ← c.in_ok-copy.ensures.items)
    (added c.args.files.now.items (c.in_ok-key.key, c.in_ok-copy.copy) c.args.name.now absent c.in_ok-key.ensures.ok)
