use Rattle.std.proofs.Common.{List, subst, sym}
use Rattle.std.proofs.lemmas.Result.{IfOk-weaker}
use Rattle.rt_near.specs.declared.entry.Entry.{Entry}
use Rattle.rt_near.specs.Entries.{AreSortedOf}
use Rattle.rt_near.proofs.Numbered.{are_intervals}
use Rattle.rt_near.proofs.Listed.{lists_near}
use Rattle.rt_near.proofs.near.near_pairs.Goals as goal
use Rattle.rt_near.proofs.near.near_pairs.Goals.{After-as_slice}

sorted : (c : After-as_slice) → AreSortedOf c.args.sides.now c.args.reaches.now c.as_slice.result.now
sorted c = subst (λ (l : List Entry). AreSortedOf c.args.sides.now c.args.reaches.now l) (sym c.as_slice.ensures.value) c.in_ok-entries.ensures

pub pairs_of-requires-clause-order : goal.pairs_of-requires-clause-order
pairs_of-requires-clause-order c = (sorted c).order

pub pairs_of-requires-clause-intervals : goal.pairs_of-requires-clause-intervals
pairs_of-requires-clause-intervals c =
    are_intervals c.args.sides.now c.args.reaches.now c.as_slice.result.now c.requires.intervals (sorted c)

pub returns : goal.returns
returns c =
    IfOk-weaker c.pairs_of.result _ _
    (λ pairs are. lists_near c.args.sides.now c.args.reaches.now c.as_slice.result.now (sorted (goal.at.returns c).After-as_slice) pairs are) c.pairs_of.ensures
