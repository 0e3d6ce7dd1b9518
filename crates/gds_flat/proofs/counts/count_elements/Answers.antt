use Rattle.gds_flat.specs.Items.PiecesOf.{none}
use Rattle.gds_flat.proofs.Coming.{entry_is}
use Rattle.gds_flat.proofs.Ranking.{place_only_one}
use Rattle.gds_flat.proofs.Counting.{none_counted, counted_more}
use Rattle.gds_flat.proofs.counts.count_elements.Goals as goal

pub loop-element-init : goal.loop-element-init
loop-element-init c = none_counted c.args.names.now.structures.now c.args.tech.now none

pub count_element-requires-clause-before : goal.count_element-requires-clause-before
count_element-requires-clause-before c =
    place_only_one c.args.names.now.structures.now c.args.walk.now.finish.items _ c.args.elements.now c.loop-element.element-index c.element-item.result
    (entry_is c.args.elements.now c.loop-element.element-index c.element-item.result c.loop-element-test.true c.element-item.is) c.requires.before

pub loop-element-preserved : goal.loop-element-preserved
loop-element-preserved c =
    counted_more c.args.names.now.structures.now c.args.tech.now c.args.elements.now c.loop-element.element-index c.element-item.result c.loop-element.total
    c.in_ok-count.count c.saturating_add-total.result c.loop-element-test.true c.element-item.is c.loop-element.invariant c.in_ok-count.ensures
    c.saturating_add-total.ensures
