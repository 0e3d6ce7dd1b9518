use Rattle.std.proofs.Common.{ap, ◌∙◌}
use Rattle.std.specs.Int.{w16}
use Rattle.std.proofs.lemmas.Int.{to_z-of_z}
use Rattle.gds_stream.specs.Contents.{two_bytes}
use Rattle.gds_stream.proofs.Giving.{ok_then}
use Rattle.gds_stream.proofs.Eights.{tail_of}
use Rattle.gds_stream.proofs.Values.{one_only, turn_not_there, array_is}
use Rattle.gds_stream.proofs.reader.Reader.array.Goals as goal

pub returns : goal.returns
returns c =
    let t = c.in_ok-place.ensures.gives in
    let k = c.in_ok-counts.ensures.gives in
    let x = c.in_ok-xy.ensures.gives in (
      _,
      ok_then _ _ _ _ _ _ t.1 (ok_then _ _ _ _ _ _ k.1 x.1),
      array_is _ _ _ _ _ _ c.args.name.now _ _ t.0 k.0 x.0 (turn_not_there _ _ _ t.1) (one_only _ _ _ _ k.2) (one_only _ _ _ _ x.2) c.in_ok-text_of.ensures t.2
          (to_z-of_z w16 c.i16_of.result c.i16_of.ensures.fits ∙ c.i16_of.ensures.value) (to_z-of_z w16 c.i16_of-2.result c.i16_of-2.ensures.fits ∙ c.i16_of-2.ensures.value ∙ ap two_bytes (tail_of c.in_ok-counts.counts.now 2)) c.three_points.ensures,
    )
