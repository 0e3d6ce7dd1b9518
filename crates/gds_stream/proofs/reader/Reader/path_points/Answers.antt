use Rattle.gds_stream.proofs.Giving.{ok_then}
use Rattle.gds_stream.proofs.Values.{one_only, maybe_only, points_are}
use Rattle.gds_stream.proofs.reader.Reader.path_points.Goals as goal

pub returns : goal.returns
returns c =
    let b = c.in_ok-maybe.ensures.gives in
    let e = c.in_ok-maybe-2.ensures.gives in
    let x = c.in_ok-xy.ensures.gives in (
      _,
      ok_then _ _ _ _ _ _ b.1 (ok_then _ _ _ _ _ _ e.1 x.1),
      points_are _ _ _ b.0 e.0 x.0 (maybe_only _ _ _ _ b.2) (maybe_only _ _ _ _ e.2) (one_only _ _ _ _ x.2),
    )
