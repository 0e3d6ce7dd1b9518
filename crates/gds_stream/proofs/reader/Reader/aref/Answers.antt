use Rattle.gds_records.specs.declared.types.TheConstants.{AREF, SNAME}
use Rattle.gds_grammar.specs.Grammar.{type, ◌‣◌}
use Rattle.gds_grammar.specs.Format.{aref, head}
use Rattle.gds_stream.specs.Rests.{array}
use Rattle.gds_stream.proofs.Giving.{then_gives}
use Rattle.gds_stream.proofs.Values.{one_only, head_nothing, aref_is}
use Rattle.gds_stream.proofs.reader.Reader.aref.Goals as goal

pub returns : goal.returns
unfolding aref
returns c =
    let s = c.in_ok-take.ensures.gives in
    let h = c.in_ok-head.ensures.gives in
    let n = c.in_ok-name.ensures.gives in
    then_gives (type AREF) (head ‣ type SNAME ‣ array) _ _ _ _ _ s.0 c.array.result s.1 (λ more o is. is)
    (then_gives head (type SNAME ‣ array) _ _ _ _ _ h.0 c.array.result h.1 (λ more o is. is)
    (then_gives (type SNAME) array _ _ _ _ _ n.0 c.array.result n.1
    (λ more o is. aref_is _ _ o _ _ s.0 h.0 n.0 more s.2 (head_nothing _ _ _ h.1) (one_only _ _ _ _ n.2) c.place-offset.ensures is)
    c.array.ensures))
