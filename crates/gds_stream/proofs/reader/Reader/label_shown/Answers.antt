use Rattle.std.proofs.Common.{◌≡◌, List, ◌++◌, Option, None}
use Rattle.gds_records.specs.declared.types.TheConstants.{WIDTH, XY, PRESENTATION, STRING, PATHTYPE}
use Rattle.gds_records.specs.Records.{Item}
use Rattle.gds_grammar.specs.Grammar.{type, maybe, ◌‣◌}
use Rattle.gds_stream.specs.declared.library.Element.{Element}
use Rattle.gds_stream.specs.Contents.{held}
use Rattle.gds_stream.specs.Rests.{label_text, GivesText}
use Rattle.gds_stream.proofs.Giving.{then_gives}
use Rattle.gds_stream.proofs.Values.{maybe_only, text_behind}
use Rattle.gds_stream.proofs.reader.Reader.label_shown.Goals as goal

pub returns : goal.returns
returns c =
    let r = c.in_ok-maybe.ensures.gives in
    let p = c.in_ok-maybe-2.ensures.gives in
    let w = c.in_ok-maybe-3.ensures.gives in
    let no_r = maybe_only _ _ _ _ r.2 in
    let no_p = maybe_only _ _ _ _ p.2 in
    let no_w = maybe_only _ _ _ _ w.2 in
    let Says : List Item → Option Element → Type 0 = GivesText c.args.offset c.args.layer.now c.args.texttype.now in
    let behind : (items : List Item) → held XY items ≡ None → held STRING items ≡ None → (more : List Item) (o : Option Element) → Says more o → Says (items ++ more) o =
    λ items no_xy no_string more o is. text_behind c.args.offset o c.args.layer.now c.args.texttype.now items more no_xy no_string is in
    then_gives (maybe (type PRESENTATION)) (maybe (type PATHTYPE) ‣ maybe (type WIDTH) ‣ label_text) Says Says _ _ _ r.0 c.label_text.result r.1 (behind r.0 (no_r.held_is XY) (no_r.held_is STRING))
    (then_gives (maybe (type PATHTYPE)) (maybe (type WIDTH) ‣ label_text) Says Says _ _ _ p.0 c.label_text.result p.1 (behind p.0 (no_p.held_is XY) (no_p.held_is STRING))
    (then_gives (maybe (type WIDTH)) label_text Says Says _ _ _ w.0 c.label_text.result w.1 (behind w.0 (no_w.held_is XY) (no_w.held_is STRING))
    c.label_text.ensures))
