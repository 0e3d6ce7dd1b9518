use Rattle.gds_grammar.specs.Format.{turn}
use Rattle.gds_stream.proofs.Giving.{ok_then}
use Rattle.gds_stream.proofs.Values.{one_only, maybe_only, turn_is}
use Rattle.gds_stream.proofs.reader.Reader.turn.Goals as goal

pub returns-clause-gives : goal.returns-clause-gives
unfolding turn
returns-clause-gives c =
    let s = c.in_ok-flags.ensures.gives in
    let m = c.in_ok-mag.ensures.gives in
    let a = c.in_ok-angle.ensures.gives in (
      _,
      ok_then _ _ _ _ _ _ s.1 (ok_then _ _ _ _ _ _ m.1 a.1),
      turn_is _ _ _ _ _ _ s.0 m.0 a.0 (one_only _ _ _ _ s.2) (maybe_only _ _ _ _ m.2) (maybe_only _ _ _ _ a.2) c.u16_of.ensures c.real_or.ensures c.real_or-2.ensures,
    )
