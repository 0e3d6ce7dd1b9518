use Rattle.std.proofs.Common.{rules, w64, FitsSigned, List, length, sym, subst, refl}
use Rattle.std.proofs.lemmas.Int.{to_z-of_z}
use Rattle.std.specs.Prelude.{All}
use Rattle.rt_near.specs.declared.near.Sides.{Sides}
use Rattle.rt_near.specs.Near.{IsInterval}
use Rattle.rt_between.proofs.Among.{all_intervals, hosts_held}
use Rattle.rt_between.proofs.pairs.host_pairs.Goals as goal

pub near_of_two-requires-clause-intervals : goal.near_of_two-requires-clause-intervals
near_of_two-requires-clause-intervals c = subst (λ (sides : List Sides). All IsInterval sides) (sym c.requires.rows) (all_intervals c.args.job.now.view.strips.list)

pub returns : goal.returns
returns c =
    let fits : FitsSigned w64 c.past_reach.result = search rules in
    let near = rw (to_z-of_z w64 c.past_reach.result fits) at c.in_ok-pairs.ensures in
    hosts_held c.args.job.now c.args.q c.args.rows.now c.as_slice.result.now _ c.past_reach.result c.in_ok-pairs.pairs c.add_own.new.pairs (length c.args.rows.now)
    c.requires.rows c.as_slice.ensures c.requires.there c.requires.job.job_of.source_pairs.encloses c.past_reach.ensures refl near c.in_ok-add_own.ensures
