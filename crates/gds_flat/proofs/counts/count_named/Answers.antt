use Rattle.gds_flat.proofs.Counting.{named_counted}
use Rattle.gds_flat.proofs.Going.{name_placed}
use Rattle.gds_flat.specs.Depths.{IsRankOf}
use Rattle.gds_flat.proofs.counts.count_named.Goals as goal

pub returns : goal.returns
returns c =
    let library = c.args.names.now.structures.now in
    let place = c.rank_before-place.result in
    let rank : IsRankOf library c.args.walk.now.finish.items c.args.name.now place = c.rank_before-place.ensures.rank in
    named_counted library c.args.tech.now c.args.walk.now.finish.items c.args.counts.now c.args.name.now rank.structure place c.requires.counts
    (name_placed library c.args.name.now rank.structure rank.named) rank.at c.rank_before-place.ensures.below
