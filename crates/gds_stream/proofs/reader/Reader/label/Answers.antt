use Rattle.gds_records.specs.declared.types.TheConstants.{TEXT, LAYER, TEXTTYPE}
use Rattle.gds_grammar.specs.Grammar.{type, ◌‣◌}
use Rattle.gds_grammar.specs.Format.{label, head}
use Rattle.gds_stream.specs.Rests.{label_shown}
use Rattle.gds_stream.proofs.Giving.{then_gives}
use Rattle.gds_stream.proofs.Values.{one_only, head_nothing, label_is}
use Rattle.gds_stream.proofs.reader.Reader.label.Goals as goal

pub returns : goal.returns
unfolding label
returns c =
    let s = c.in_ok-take.ensures.gives in
    let h = c.in_ok-head.ensures.gives in
    let l = c.in_ok-layer.ensures.gives in
    let y = c.in_ok-texttype.ensures.gives in
    then_gives (type TEXT) (head ‣ type LAYER ‣ type TEXTTYPE ‣ label_shown) _ _ _ _ _ s.0 c.label_shown.result s.1 (λ more o is. is)
    (then_gives head (type LAYER ‣ type TEXTTYPE ‣ label_shown) _ _ _ _ _ h.0 c.label_shown.result h.1 (λ more o is. is)
    (then_gives (type LAYER) (type TEXTTYPE ‣ label_shown) _ _ _ _ _ l.0 c.label_shown.result l.1 (λ more o is. is)
    (then_gives (type TEXTTYPE) label_shown _ _ _ _ _ y.0 c.label_shown.result y.1
    (λ more o is. label_is _ _ o _ _ _ s.0 h.0 l.0 y.0 more s.2 (head_nothing _ _ _ h.1) (one_only _ _ _ _ l.2) (one_only _ _ _ _ y.2) c.place-offset.ensures is)
    c.label_shown.ensures)))
