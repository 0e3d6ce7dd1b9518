use Rattle.gds_flat.proofs.Coming.{entry_is}
use Rattle.gds_flat.proofs.Ranking.{place_only_one}
use Rattle.gds_flat.proofs.BuildingLists.{from_none, from_more}
use Rattle.gds_flat.proofs.items.list_of.Goals as goal

pub loop-element-init : goal.loop-element-init
loop-element-init c = from_none c.args.names.now.structures.now c.args.tech.now c.new-list.result c.new-list.ensures

pub push_element-requires-clause-before : goal.push_element-requires-clause-before
push_element-requires-clause-before c =
    place_only_one c.args.names.now.structures.now c.args.walk.now.finish.items _ c.args.elements.now c.loop-element.element-index c.element-item.result
    (entry_is c.args.elements.now c.loop-element.element-index c.element-item.result c.loop-element-test.true c.element-item.is) c.requires.before

pub loop-element-preserved : goal.loop-element-preserved
loop-element-preserved c =
    from_more c.args.names.now.structures.now c.args.tech.now c.args.elements.now c.loop-element.element-index c.element-item.result c.loop-element.list c.push_element.new.list
    c.loop-element-test.true c.element-item.is c.loop-element.invariant c.in_ok-push_element.ensures
