use Rattle.cert_text.specs.declared.building.Side.TheVariants.{Left, Bottom, Right, Top}
use Rattle.cert_text.proofs.Builders.{side_known, placed_is, place_fits}
use Rattle.cert_text.proofs.building.placed_of.Goals as goal

pub returns : goal.returns
returns c = λ wide high within.
    placed_is c.in_ok-l.l c.in_ok-r.r c.in_ok-b.b c.in_ok-t.t _ _ c.args.extents.now.0 c.args.extents.now.1 c.axis_of-axis.result c.args.header.now
    (side_known Left c.args.header.now c.behind_three-strips.result.now c.in_ok-l.l c.behind_three-strips.ensures within c.in_ok-l.ensures)
    (side_known Right c.args.header.now c.behind_three-strips.result.now c.in_ok-r.r c.behind_three-strips.ensures within c.in_ok-r.ensures)
    (side_known Bottom c.args.header.now c.behind_three-strips.result.now c.in_ok-b.b c.behind_three-strips.ensures within c.in_ok-b.ensures)
    (side_known Top c.args.header.now c.behind_three-strips.result.now c.in_ok-t.t c.behind_three-strips.ensures within c.in_ok-t.ensures)
    (c.axis_of-axis.ensures within) (place_fits c.args.extents.now.0 wide) (place_fits c.args.extents.now.1 high)
