use Rattle.std.proofs.Common.{List, length, subst}
use Rattle.rt_tech.specs.declared.table.Mask.{Mask}
use Rattle.gds_flat.specs.Drawn.{pieces_in}
use Rattle.gds_flat.specs.Drawings.{Draws}
use Rattle.gds_flat.proofs.Flattening.{drawn_flat}
use Rattle.gds_flat.proofs.flat.flatten_items.Goals as goal

pub returns-clause-ok : goal.returns-clause-ok
returns-clause-ok c =
    let pieces = pieces_in c.args.items.now in
    let P : List Mask → Type 0 = λ masks. Draws pieces (length masks) c.in_ok-layout.layout in
    drawn_flat c.args.names.now.structures.now c.args.names.now.top.now c.args.tech.now pieces c.in_ok-layout.layout c.requires.few c.requires.drawable
    c.in_default.ensures (subst P c.as_slice.ensures c.in_ok-layout.ensures)
