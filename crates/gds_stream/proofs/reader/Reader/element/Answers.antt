use Rattle.gds_grammar.specs.Format.{element}
use Rattle.gds_stream.proofs.Giving.{ok_then}
use Rattle.gds_stream.proofs.Cutting.{element_adds}
use Rattle.gds_stream.proofs.Quietness.{shape_ends_none, properties_end_none, properties_nothing}
use Rattle.gds_stream.proofs.reader.Reader.element.Goals as goal

pub returns : goal.returns
unfolding element
returns c =
    let s = c.in_ok-element.ensures in
    let p = c.in_ok-properties.ensures in
    let e = c.in_ok-take.ensures.gives in (
      _,
      ok_then _ _ _ _ _ _ s.1 (ok_then _ _ _ _ _ _ p.1 e.1),
      element_adds s.0 p.0 e.0 _ _ _ s.2 (shape_ends_none _ _ _ s.1) (properties_end_none _ _ _ p.1) (properties_nothing _ _ _ p.1) e.2,
    )
