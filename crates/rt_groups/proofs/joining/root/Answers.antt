use Rattle.std.proofs.Common.{arith}
use Rattle.rt_links.specs.Links.AreLinked.{here}
use Rattle.rt_groups.proofs.Kin.{as_itself, as_before_both, kin_onward}
use Rattle.rt_groups.proofs.joining.root.Goals as goal

pub loop-parents-init : goal.loop-parents-init
loop-parents-init c = record { there = c.requires.there; as_before = as_itself c.args.parents.now c.requires.down; kin = here }

pub loop-parents-preserved : goal.loop-parents-preserved
loop-parents-preserved c =
    let at = c.loop-parents.at in
    let kept = c.loop-parents.invariant in
    let halved = c.halve.ensures.as_before in
    let many = halved.counted in
    let there = kept.there in
    let down = halved.down.down at (omega (arith, many, there)) in
    record {
      there = omega (arith, many, there, down);
      as_before = as_before_both c.args.parents.now c.loop-parents.parents c.halve.new.parents kept.as_before halved;
      kin = kin_onward c.loop-parents.parents c.halve.new.parents c.args.i at there halved kept.kin;
    }
