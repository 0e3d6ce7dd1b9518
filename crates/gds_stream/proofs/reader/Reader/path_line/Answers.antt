use Rattle.std.proofs.Common.{refl, ◌∙◌}
use Rattle.std.specs.Int.{w16, w32}
use Rattle.std.proofs.lemmas.Int.{to_z-of_z}
use Rattle.gds_records.specs.declared.types.TheConstants.{WIDTH, PATHTYPE}
use Rattle.gds_stream.specs.Rests.{path_points}
use Rattle.gds_stream.proofs.Giving.{ok_then}
use Rattle.gds_stream.proofs.Lacking.{not_held}
use Rattle.gds_stream.proofs.Values.{maybe_only, line_is}
use Rattle.gds_stream.proofs.reader.Reader.path_line.Goals as goal

pub returns : goal.returns
returns c =
    let p = c.in_ok-pathtype.ensures.gives in
    let w = c.in_ok-width.ensures.gives in
    let x = c.in_ok-xy.ensures in (
      _,
      ok_then _ _ _ _ _ _ p.1 (ok_then _ _ _ _ _ _ w.1 x.1),
      line_is _ _ _ _ _ _ c.args.layer.now c.args.datatype.now _ _ _ p.0 w.0 x.0 (maybe_only _ _ _ _ p.2) (maybe_only _ _ _ _ w.2) (not_held path_points PATHTYPE _ _ _ x.1 refl) (not_held path_points WIDTH _ _ _ x.1 refl) x.2
          (to_z-of_z w16 c.i16_of.result c.i16_of.ensures.fits ∙ c.i16_of.ensures.value) (to_z-of_z w16 c.i16_of-2.result c.i16_of-2.ensures.fits ∙ c.i16_of-2.ensures.value) (to_z-of_z w16 c.i16_or_zero.result c.i16_or_zero.ensures.fits ∙ c.i16_or_zero.ensures.value) (to_z-of_z w32 c.i32_or_zero.result c.i32_or_zero.ensures.fits ∙ c.i32_or_zero.ensures.value) c.in_ok-points_of.ensures,
    )
