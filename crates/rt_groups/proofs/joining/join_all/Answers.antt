use Rattle.std.proofs.Common.{length, refl, ◌∙◌}
use Rattle.rt_groups.proofs.Kin.{single_down}
use Rattle.rt_groups.proofs.Pairing.{single_parents, pair_more}
use Rattle.rt_groups.proofs.joining.join_all.Goals as goal

pub loop-pair-init : goal.loop-pair-init
loop-pair-init c =
    let parents = c.args.parents.now in
    record {
      counted = refl;
      down = single_down (length parents) parents c.requires.single;
      parents = single_parents (length parents) parents c.requires.single;
    }

pub loop-pair-preserved : goal.loop-pair-preserved
loop-pair-preserved c = record {
  counted = c.join.ensures.counted ∙ c.loop-pair.invariant.counted;
  down = c.join.ensures.down;
  parents = pair_more c.args.pairs.now c.loop-pair.pair-index (0, 0) c.loop-pair.parents c.join.new.parents c.loop-pair-test.true c.loop-pair.invariant.parents c.join.ensures;
}
