use Rattle.std.proofs.Common.{◌≡◌, ◌<◌, length, nat_lt, subst, ◌∙◌, refl, rules, arith}
use Rattle.gds_flat.specs.Reach.{Name}
use Rattle.gds_flat.specs.Depths.{IsDepthOf, IsRankOf}
use Rattle.gds_flat.proofs.Going.{name_placed}
use Rattle.gds_flat.proofs.Ranking.{depth_at}
use Rattle.gds_flat.proofs.Accepting.{top_finished, deep_or_shallow}
use Rattle.gds_flat.proofs.acceptance.is_deep.Goals as goal

pub rank_before-place-requires-clause-before : goal.rank_before-place-requires-clause-before
rank_before-place-requires-clause-before c =
    let count : c.len.result ≡ length c.in_ok-depths.depths.items = search rules in
    top_finished c.args.names.now.structures.now c.args.names.now.top.now c.args.walk.now c.len.result c.requires (count ∙ c.in_ok-depths.ensures.all)

pub returns : goal.returns
returns c =
    let library = c.args.names.now.structures.now in
    let top = c.args.names.now.top.now in
    let place = c.rank_before-place.result in
    let depth = c.index.result.now in
    let count : c.len.result ≡ length c.in_ok-depths.depths.items = search rules in
    let low = c.rank_before-place.ensures.below in
    let below : place < length c.in_ok-depths.depths.items = omega arith in
    let rank : IsRankOf library c.args.walk.now.finish.items top place = c.rank_before-place.ensures.rank in
    let P : Name → Type 0 = λ n. IsDepthOf library n depth in
    deep_or_shallow library top depth (nat_lt 64 depth)
    (subst P (name_placed library top rank.structure rank.named)
    (depth_at library c.args.walk.now.finish.items c.in_ok-depths.depths.items place depth rank.structure c.in_ok-depths.ensures.depths below c.index.ensures rank.at)) refl
