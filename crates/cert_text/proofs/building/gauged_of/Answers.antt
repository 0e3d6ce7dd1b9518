use Rattle.cert_text.specs.declared.building.Side.TheVariants.{Left, Right}
use Rattle.cert_text.proofs.Builders.{side_known, gauged_is, place_fits}
use Rattle.cert_text.proofs.building.gauged_of.Goals as goal

pub returns : goal.returns
returns c = λ wide within.
    gauged_is c.in_ok-l.l c.in_ok-r.r c.new.result c.new-2.result _ c.args.width.now c.axis_of-axis.result c.args.header.now
    (side_known Left c.args.header.now c.behind_three-strips.result.now c.in_ok-l.l c.behind_three-strips.ensures within c.in_ok-l.ensures)
    (side_known Right c.args.header.now c.behind_three-strips.result.now c.in_ok-r.r c.behind_three-strips.ensures within c.in_ok-r.ensures)
    c.new.ensures c.new-2.ensures (c.axis_of-axis.ensures within) (place_fits c.args.width.now wide)
