use Rattle.gds_records.specs.declared.types.TheConstants.{PATH, LAYER, DATATYPE}
use Rattle.gds_grammar.specs.Grammar.{type, ◌‣◌}
use Rattle.gds_grammar.specs.Format.{path, head}
use Rattle.gds_stream.specs.Rests.{path_line}
use Rattle.gds_stream.proofs.Giving.{then_gives}
use Rattle.gds_stream.proofs.Values.{one_only, head_nothing, path_is}
use Rattle.gds_stream.proofs.reader.Reader.path.Goals as goal

pub returns : goal.returns
unfolding path
returns c =
    let s = c.in_ok-take.ensures.gives in
    let h = c.in_ok-head.ensures.gives in
    let l = c.in_ok-layer.ensures.gives in
    let d = c.in_ok-datatype.ensures.gives in
    then_gives (type PATH) (head ‣ type LAYER ‣ type DATATYPE ‣ path_line) _ _ _ _ _ s.0 c.path_line.result s.1 (λ more o is. is)
    (then_gives head (type LAYER ‣ type DATATYPE ‣ path_line) _ _ _ _ _ h.0 c.path_line.result h.1 (λ more o is. is)
    (then_gives (type LAYER) (type DATATYPE ‣ path_line) _ _ _ _ _ l.0 c.path_line.result l.1 (λ more o is. is)
    (then_gives (type DATATYPE) path_line _ _ _ _ _ d.0 c.path_line.result d.1
    (λ more o is. path_is _ _ o _ _ _ s.0 h.0 l.0 d.0 more s.2 (head_nothing _ _ _ h.1) (one_only _ _ _ _ l.2) (one_only _ _ _ _ d.2) c.place-offset.ensures is)
    c.path_line.ensures)))
