use Rattle.gds_grammar.specs.Format.{sref}
use Rattle.gds_stream.proofs.Giving.{ok_then}
use Rattle.gds_stream.proofs.Values.{one_only, head_nothing, turn_not_there, sref_is}
use Rattle.gds_stream.proofs.reader.Reader.sref.Goals as goal

pub returns : goal.returns
unfolding sref
returns c =
    let s = c.in_ok-take.ensures.gives in
    let h = c.in_ok-head.ensures.gives in
    let n = c.in_ok-name.ensures.gives in
    let t = c.in_ok-place.ensures.gives in
    let x = c.in_ok-xy.ensures.gives in (
      _,
      ok_then _ _ _ _ _ _ s.1 (ok_then _ _ _ _ _ _ h.1 (ok_then _ _ _ _ _ _ n.1 (ok_then _ _ _ _ _ _ t.1 x.1))),
      sref_is _ _ _ _ _ _ _ _ s.0 h.0 n.0 t.0 x.0 s.2 (head_nothing _ _ _ h.1) (one_only _ _ _ _ n.2) (turn_not_there _ _ _ t.1) (one_only _ _ _ _ x.2)
          c.place-offset.ensures c.in_ok-text_of.ensures t.2 c.point_of.ensures,
    )
