use Rattle.std.proofs.Common.{◌≡◌, [], arith}
use Rattle.std.proofs.lemmas.Bool.Decides.{nat_tests}
use Rattle.std.proofs.lemmas.List.{nil_from_length}
use Rattle.gds_flat.specs.Drawn.{pieces_in}
use Rattle.gds_flat.specs.Building.{IsListOf}
use Rattle.gds_flat.proofs.BuildingLists.{list_named, list_near, nothing_from, placed_from}
use Rattle.gds_flat.proofs.items.push_reference.Goals as goal

pub returns-then-is_empty : goal.returns-then-is_empty
returns-then-is_empty c =
    let library = c.args.names.now.structures.now in
    let list : IsListOf library c.args.tech.now c.args.name.now (pieces_in c.as_slice-inner.result.now) =
    list_named library c.args.tech.now c.args.walk.now.finish.items c.args.lists.now c.args.name.now c.rank_before-place.result c.index-lists-place.result c.as_slice-inner.result.now
    c.requires.lists c.rank_before-place.ensures.rank c.rank_before-place.ensures.below c.index-lists-place.is c.as_slice-inner.ensures in
    let empty : c.as_slice-inner.result.now ≡ [] = nil_from_length c.as_slice-inner.result.now (grind (arith, nat_tests)) in
    nothing_from library c.args.tech.now c.args.element.now c.args.name.now c.as_slice-inner.result.now c.args.list.now c.requires.target c.requires.fine list empty

pub push_placed-requires-clause-near : goal.push_placed-requires-clause-near
push_placed-requires-clause-near c =
    let library = c.args.names.now.structures.now in
    list_near library c.args.tech.now c.args.name.now (pieces_in c.as_slice-inner.result.now)
    (list_named library c.args.tech.now c.args.walk.now.finish.items c.args.lists.now c.args.name.now c.rank_before-place.result c.index-lists-place.result c.as_slice-inner.result.now
    c.requires.lists c.rank_before-place.ensures.rank c.rank_before-place.ensures.below c.index-lists-place.is c.as_slice-inner.ensures)

pub returns : goal.returns
returns c =
    let library = c.args.names.now.structures.now in
    let list : IsListOf library c.args.tech.now c.args.name.now (pieces_in c.as_slice-inner.result.now) =
    list_named library c.args.tech.now c.args.walk.now.finish.items c.args.lists.now c.args.name.now c.rank_before-place.result c.index-lists-place.result c.as_slice-inner.result.now
    c.requires.lists c.rank_before-place.ensures.rank c.rank_before-place.ensures.below c.index-lists-place.is c.as_slice-inner.ensures in
    placed_from c.push_placed.result library c.args.tech.now c.args.element.now c.args.name.now (pieces_in c.as_slice-inner.result.now) c.args.list.now c.push_placed.new.items
    c.requires.target list c.push_placed.ensures
