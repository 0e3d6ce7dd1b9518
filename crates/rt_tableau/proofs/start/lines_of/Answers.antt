use Rattle.std.proofs.Common.{arith}
use Rattle.std.proofs.lemmas.Option.{slice_get-get_or}
use Rattle.rt_solved.specs.Systems.{no_row}
use Rattle.rt_tableau.proofs.Starting.{row_within, starts_further}
use Rattle.rt_tableau.proofs.start.lines_of.Goals as goal

pub line_of-requires-clause-fit : goal.line_of-requires-clause-fit
line_of-requires-clause-fit c = c.requires.fit c.loop-d.d _ (slice_get-get_or c.args.rows.now c.loop-d.d no_row c.loop-d-test.true)

pub line_of-requires-clause-there : goal.line_of-requires-clause-there
line_of-requires-clause-there c = let h = row_within c.args.rows.now c.loop-d.d no_row c.loop-d-test.true in let k = c.requires.there in omega (arith, h, k)

pub loop-d-preserved : goal.loop-d-preserved
loop-d-preserved c =
    starts_further c.args.strips c.args.first c.args.rows.now c.loop-d.lines.items c.push.new.self.items c.loop-d.d c.in_ok-line.line c.loop-d.invariant c.in_ok-line.ensures c.in_ok-push.ensures.items
