use Rattle.std.proofs.Common.{None, refl}
use Rattle.rt_branch.proofs.Standings.{begun, found_least}
use Rattle.rt_branch.proofs.search.least_whole.Goals as goal

pub run-requires : goal.run-requires
run-requires c = (
  begun c.args.table.now c.args.pivots.now c.args.limit (record { changes = c.new.result; waiting = c.new-2.result; best = None }) c.requires.feasible c.look.ensures.one_each c.look.ensures.small c.requires.ledger
      c.requires.few c.new.ensures.items c.new-2.ensures.items refl,
  (refl, refl),
)

pub returns-clause-least : goal.returns-clause-least
returns-clause-least c =
    found_least c.args.table.now c.args.pivots.now _ c.run.new.path refl refl c.look.ensures.one_each c.look.ensures.small c.requires.feasible c.in_ok-run.ensures.over
