use Rattle.std.proofs.Common.{map}
use Rattle.rt_strips.specs.Placed.{placed}
use Rattle.rt_drc.specs.Rows.{cells_of, ShowsWidthAlongRows}
use Rattle.rt_drc.proofs.Wide.{none_gives, wide_keeps}
use Rattle.rt_drc.proofs.width.breach_along_rows.Goals as goal

pub returns : goal.returns
returns c =
    let strips = c.args.rows.now.strips.now in
    none_gives (ShowsWidthAlongRows c.args.width.now (cells_of strips c.args.m)) c.narrow_contact.result
    (wide_keeps (cells_of strips) c.args.masks (map placed strips) c.requires.strips_are c.args.m c.args.width.now c.in_default.ensures)
    c.narrow_contact.ensures
