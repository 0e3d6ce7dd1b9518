use Rattle.std.proofs.lemmas.Option.{MatchOption-at_none}
use Rattle.rt_rules.specs.Space.{KeepsGapsAlongRows}
use Rattle.rt_pieces.specs.Members.{held_by}
use Rattle.rt_drc.specs.Following.{ShowsGap}
use Rattle.rt_drc.proofs.Breaching.{pieces_decide}
use Rattle.rt_drc.proofs.space.breach_of.Goals as goal

pub returns : goal.returns
returns c =
    let s = c.args.gaps.now.across in
    let rows = held_by c.args.m c.args.rows.now.strips.now in
    let columns = held_by c.args.m c.args.columns.now.strips.now in
    pieces_decide c.args.m c.args.rows.now c.args.columns.now c.requires.family s c.args.pieces.now.across c.requires.reaches.same_across
    (MatchOption-at_none (KeepsGapsAlongRows s rows) (ShowsGap s rows) c.in_default.is c.in_ok-gap.ensures)
    (MatchOption-at_none (KeepsGapsAlongRows s columns) (ShowsGap s columns) c.in_default-2.is c.in_ok-gap-2.ensures)
    c.in_default-corner_contact.ensures c.near_pieces.result c.near_pieces.ensures
