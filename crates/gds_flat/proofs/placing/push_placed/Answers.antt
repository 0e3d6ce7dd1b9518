use Rattle.std.proofs.Common.{subst}
use Rattle.gds_stream.specs.declared.library.Element.{Element}
use Rattle.gds_flat.specs.declared.error.Odd.TheVariants.{Angle}
use Rattle.gds_flat.specs.Elements.{LacksOdd}
use Rattle.gds_flat.proofs.placing.push_placed.Goals as goal

pub push_once-requires-clause-angle : goal.push_once-requires-clause-angle
push_once-requires-clause-angle c = let P : Element → Type 0 = λ e. LacksOdd e Angle in subst P c.in-Sref.is (c.requires.whole.plain Angle)

pub push_array-requires-clause-angle : goal.push_array-requires-clause-angle
push_array-requires-clause-angle c = let P : Element → Type 0 = λ e. LacksOdd e Angle in subst P c.in-Aref.is (c.requires.whole.plain Angle)
