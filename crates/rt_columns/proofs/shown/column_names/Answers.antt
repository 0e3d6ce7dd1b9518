use Rattle.rt_columns.proofs.Finding.{AreRanked, ranked, ranked_sides, names_found}
use Rattle.rt_columns.proofs.shown.column_names.Goals as goal
use Rattle.rt_columns.proofs.shown.column_names.Goals.{After-as_slice-4}

found : (c : After-as_slice-4) → AreRanked c.args.job.now c.args.columns.now c.in_ok-sorted.sorted.items c.as_slice-3.result.now c.as_slice-4.result.now
found c =
    ranked c.args.job.now c.args.columns.now c.as_slice-count.result.now c.as_slice-left.result.now c.as_slice-right.result.now c.in_ok-sorted.sorted.items
    c.as_slice.result.now c.as_slice-2.result.now c.in_ok-lefts.lefts.items c.in_ok-rights.rights.items c.as_slice-3.result.now c.as_slice-4.result.now
    c.as_slice-count.ensures c.as_slice-left.ensures c.as_slice-right.ensures c.as_slice.ensures.value c.as_slice-2.ensures.value c.as_slice-3.ensures.value c.as_slice-4.ensures.value
    c.in_ok-sorted.ensures c.in_ok-lefts.ensures c.in_ok-rights.ensures

pub mask_names-requires-clause-sides : goal.mask_names-requires-clause-sides
mask_names-requires-clause-sides c =
    ranked_sides c.args.job.now c.args.columns.now c.requires.job c.requires.columns c.in_ok-sorted.sorted.items c.as_slice-3.result.now c.as_slice-4.result.now
    (found (goal.at.mask_names-requires-clause-sides c).After-as_slice-4)

pub returns : goal.returns
returns c =
    names_found c.args.job.now c.args.columns.now c.requires.job c.requires.columns c.in_ok-sorted.sorted.items c.as_slice-3.result.now c.as_slice-4.result.now
    (found (goal.at.returns c).After-as_slice-4) c.in_ok-names.names c.in_ok-names.ensures
