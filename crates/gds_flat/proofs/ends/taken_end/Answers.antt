use Rattle.std.proofs.Common.{sym, ◌∙◌}
use Rattle.std.proofs.lemmas.Option.{none-some}
use Rattle.gds_flat.proofs.ends.taken_end.Goals as goal

pub unreachable-requires : goal.unreachable-requires
unreachable-requires c =
    let none = c.in-None.is in
    let is = c.end_of.ensures in
    let some = c.requires.1 in
    none-some c.requires.0 (sym none ∙ is ∙ some)

pub returns : goal.returns
returns c = sym c.end_of.ensures ∙ c.in-Some.is
