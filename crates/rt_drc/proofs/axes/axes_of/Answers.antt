use Rattle.std.proofs.Common.{List, map, subst, sym}
use Rattle.rt_strips.specs.declared.listing.Strip.{Strip}
use Rattle.rt_strips.specs.Placed.{placed}
use Rattle.rt_strips.specs.StripsOf.{AreStrips}
use Rattle.rt_drc.specs.Rows.{turned_cells_of}
use Rattle.rt_drc.proofs.Own.{strips_of_own}
use Rattle.rt_drc.proofs.axes.axes_of.Goals as goal

pub all_seams-requires : goal.all_seams-requires
all_seams-requires c = record { masks = c.args.masks; strips_are = c.requires }

pub all_seams-requires-2 : goal.all_seams-requires-2
all_seams-requires-2 c =
    subst (λ (xs : List Strip). AreStrips (map placed xs)) (sym c.as_slice.ensures.value)
    (record {
      masks = c.args.masks;
      strips_are = strips_of_own (turned_cells_of c.args.strips.now) c.args.masks (map placed c.in_ok-columns.columns.items) c.in_ok-columns.ensures;
    })
