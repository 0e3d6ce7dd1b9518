use Rattle.std.proofs.Common.{◌∙◌}
use Rattle.std.specs.Int.{w16}
use Rattle.std.proofs.lemmas.Int.{to_z-of_z}
use Rattle.gds_grammar.specs.Format.{boundary}
use Rattle.gds_stream.proofs.Values.{boundary_is}
use Rattle.gds_stream.proofs.reader.Reader.boundary.Goals as goal

pub returns : goal.returns
unfolding boundary
returns c =
    let a = c.in_ok-area.ensures.gives in
    (a.0, a.1, boundary_is _ _ _ _ _ _ _ _ _ a.2 c.place-offset.ensures (to_z-of_z w16 c.i16_of.result c.i16_of.ensures.fits ∙ c.i16_of.ensures.value) (to_z-of_z w16 c.i16_of-2.result c.i16_of-2.ensures.fits ∙ c.i16_of-2.ensures.value) c.in_ok-points_of.ensures)
