use Rattle.rt_desk.proofs.Lookups.{told_by_search}
use Rattle.rt_desk.proofs.in_memory.MemoryDesk.begin_call.Goals as goal

pub returns-clause-planned : goal.returns-clause-planned
returns-clause-planned c =
    told_by_search _ _ c.args.self.now.calls _ c.deref.ensures.value c.contains-is_planned.ensures.cases
