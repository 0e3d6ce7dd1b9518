use Rattle.gds_grammar.specs.Format.{structure}
use Rattle.gds_stream.proofs.Giving.{ok_then}
use Rattle.gds_stream.proofs.Cutting.{structure_adds}
use Rattle.gds_stream.proofs.Quietness.{skipped_starts_none, skipped_ends_none, elements_end_none}
use Rattle.gds_stream.proofs.reader.Reader.structure.Goals as goal

pub returns : goal.returns
unfolding structure
returns c =
    let b = c.in_ok-take.ensures.gives in
    let n = c.in_ok-name.ensures.gives in
    let k = c.in_ok-skip.ensures in
    let s = c.in_ok-elements.ensures in
    let e = c.in_ok-take-2.ensures.gives in (
      _,
      ok_then _ _ _ _ _ _ b.1 (ok_then _ _ _ _ _ _ n.1 (ok_then _ _ _ _ _ _ k.1 (ok_then _ _ _ _ _ _ s.1 e.1))),
      structure_adds b.0 n.0 k.0 s.0 e.0 _ _ _ _ _ _ _ _ b.2 n.2 (skipped_starts_none _ _ _ k.1) (skipped_ends_none _ _ _ k.1) s.2 (elements_end_none _ _ _ s.1) e.2
          c.in_ok-text_of.ensures,
    )
