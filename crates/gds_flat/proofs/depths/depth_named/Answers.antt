use Rattle.std.proofs.Common.{get_or, subst}
use Rattle.std.proofs.lemmas.Option.{slice_get-get_or}
use Rattle.gds_flat.specs.Reach.{Name}
use Rattle.gds_flat.specs.Depths.{IsDepthOf, IsRankOf}
use Rattle.gds_flat.proofs.Going.{name_placed}
use Rattle.gds_flat.proofs.depths.depth_named.Goals as goal

pub returns-clause-depth : goal.returns-clause-depth
returns-clause-depth c =
    let library = c.args.names.now.structures.now in
    let place = c.rank_before-place.result in
    let rank : IsRankOf library c.args.walk.now.finish.items c.args.name.now place = c.rank_before-place.ensures.rank in
    let P : Name → Type 0 = λ n. IsDepthOf library n (get_or c.args.depths.now place 0) in
    subst P (name_placed library c.args.name.now rank.structure rank.named)
    (c.requires.depths.are place (get_or c.args.depths.now place 0) rank.structure (slice_get-get_or c.args.depths.now place 0 c.rank_before-place.ensures.below) rank.at)
