use Rattle.std.proofs.Common.{◌≡◌, ◌<◌, length, refl, ◌∙◌, rules, arith}
use Rattle.gds_flat.specs.Drawn.{pieces_in}
use Rattle.gds_flat.specs.Building.{IsListOf}
use Rattle.gds_flat.proofs.Accepting.{top_finished}
use Rattle.gds_flat.proofs.BuildingLists.{list_named}
use Rattle.gds_flat.proofs.BuildingFinish.{items_masked}
use Rattle.gds_flat.proofs.items.items.Goals as goal

pub rank_before-place-requires-clause-before : goal.rank_before-place-requires-clause-before
rank_before-place-requires-clause-before c =
    let count : c.len.result ≡ length c.in_ok-lists.lists.items = search rules in
    top_finished c.args.names.now.structures.now c.args.names.now.top.now c.args.walk.now c.len.result c.requires.tree (count ∙ c.in_ok-lists.ensures.all)

pub returns : goal.returns
returns c =
    let library = c.args.names.now.structures.now in
    let place = c.rank_before-place.result in
    let count : c.len.result ≡ length c.in_ok-lists.lists.items = search rules in
    let low = c.rank_before-place.ensures.below in
    let below : place < length c.in_ok-lists.lists.items = omega arith in
    let list : IsListOf library c.args.tech.now c.args.names.now.top.now (pieces_in c.swap_remove.result) =
    list_named library c.args.tech.now c.args.walk.now.finish.items c.in_ok-lists.lists.items c.args.names.now.top.now place c.swap_remove.result c.swap_remove.result
    c.in_ok-lists.ensures.are c.rank_before-place.ensures.rank below c.swap_remove.ensures.value refl in
    record { pieces = list.are; masks = items_masked library c.args.tech.now list.are.structure.elements c.swap_remove.result list.are.are }
