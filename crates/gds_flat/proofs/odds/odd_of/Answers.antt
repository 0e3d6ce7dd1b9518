use Rattle.std.proofs.Common.{List, sym, subst}
use Rattle.rt_base.specs.declared.plane.Point.{Point}
use Rattle.gds_stream.specs.declared.library.Element.{Element}
use Rattle.gds_flat.specs.Elements.{IsFirstFor, PathHas, PathLacks, HasOdd, LacksOdd}
use Rattle.gds_flat.proofs.odds.odd_of.Goals as goal

pub returns-in-Path : goal.returns-in-Path
returns-in-Path c =
    let P : Element → Type 0 = λ e. IsFirstFor (HasOdd e) (LacksOdd e) c.odd_of_path.result in
    let Q : List Point → Type 0 = λ ps. IsFirstFor (PathHas c.in-Path.pathtype c.in-Path.width ps) (PathLacks c.in-Path.pathtype c.in-Path.width ps) c.odd_of_path.result in
    subst P (sym c.in-Path.is) (subst Q c.as_slice-in-Path.ensures c.odd_of_path.ensures)
