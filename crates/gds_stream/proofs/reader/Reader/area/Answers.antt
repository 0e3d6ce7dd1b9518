use Rattle.gds_stream.proofs.Giving.{ok_then}
use Rattle.gds_stream.proofs.Values.{one_only, area_is}
use Rattle.gds_stream.proofs.reader.Reader.area.Goals as goal

pub returns-clause-gives : goal.returns-clause-gives
returns-clause-gives c =
    let s = c.in_ok-take.ensures.gives in
    let h = c.in_ok-head.ensures.gives in
    let l = c.in_ok-layer.ensures.gives in
    let k = c.in_ok-kind.ensures.gives in
    let x = c.in_ok-xy.ensures.gives in (
      _,
      ok_then _ _ _ _ _ _ s.1 (ok_then _ _ _ _ _ _ h.1 (ok_then _ _ _ _ _ _ l.1 (ok_then _ _ _ _ _ _ k.1 x.1))),
      area_is _ _ _ _ _ _ _ s.0 h.0 l.0 k.0 x.0 _ _ c.requires.apart s.2 h.1 (one_only _ _ _ _ l.2) (one_only _ _ _ _ k.2) (one_only _ _ _ _ x.2),
    )
