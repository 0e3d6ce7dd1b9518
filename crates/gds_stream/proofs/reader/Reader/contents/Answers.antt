use Rattle.gds_stream.proofs.Giving.{ok_then}
use Rattle.gds_stream.proofs.Values.{one_only}
use Rattle.gds_stream.proofs.Cutting.{contents_are}
use Rattle.gds_stream.proofs.reader.Reader.contents.Goals as goal

pub returns : goal.returns
returns c =
    let u = c.in_ok-units.ensures.gives in
    let s = c.in_ok-structures.ensures in
    let e = c.in_ok-take.ensures.gives in (
      _,
      ok_then _ _ _ _ _ _ u.1 (ok_then _ _ _ _ _ _ s.1 e.1),
      contents_are u.0 s.0 e.0 _ c.args.name.now _ _ _ _ (one_only _ _ _ _ u.2) s.2 (one_only _ _ _ _ e.2) c.in_ok-text_of.ensures c.units_of.ensures,
    )
