use Rattle.std.proofs.Common.{◌∙◌}
use Rattle.std.specs.Int.{w16}
use Rattle.std.proofs.lemmas.Int.{to_z-of_z}
use Rattle.gds_grammar.specs.Format.{box}
use Rattle.gds_stream.proofs.Values.{box_is}
use Rattle.gds_stream.proofs.reader.Reader.box_shape.Goals as goal

pub returns : goal.returns
unfolding box
returns c =
    let a = c.in_ok-area.ensures.gives in
    (a.0, a.1, box_is _ _ _ _ _ _ _ _ a.2 c.place-offset.ensures (to_z-of_z w16 c.i16_of.result c.i16_of.ensures.fits ∙ c.i16_of.ensures.value) (to_z-of_z w16 c.i16_of-2.result c.i16_of-2.ensures.fits ∙ c.i16_of-2.ensures.value))
