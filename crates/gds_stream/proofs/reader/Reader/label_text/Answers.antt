use Rattle.std.proofs.Common.{◌∙◌}
use Rattle.std.specs.Int.{w16}
use Rattle.std.proofs.lemmas.Int.{to_z-of_z}
use Rattle.gds_stream.proofs.Giving.{ok_then}
use Rattle.gds_stream.proofs.Values.{one_only, turn_not_there, text_is}
use Rattle.gds_stream.proofs.reader.Reader.label_text.Goals as goal

pub returns : goal.returns
returns c =
    let t = c.in_ok-placing.ensures.gives in
    let x = c.in_ok-xy.ensures.gives in
    let g = c.in_ok-text.ensures.gives in (
      _,
      ok_then _ _ _ _ _ _ t.1 (ok_then _ _ _ _ _ _ x.1 g.1),
      text_is _ _ _ _ _ c.args.layer.now c.args.texttype.now _ _ t.0 x.0 g.0 (turn_not_there _ _ _ t.1) (one_only _ _ _ _ x.2) (one_only _ _ _ _ g.2) (to_z-of_z w16 c.i16_of.result c.i16_of.ensures.fits ∙ c.i16_of.ensures.value) (to_z-of_z w16 c.i16_of-2.result c.i16_of-2.ensures.fits ∙ c.i16_of-2.ensures.value) c.point_of.ensures c.in_ok-text_of.ensures,
    )
