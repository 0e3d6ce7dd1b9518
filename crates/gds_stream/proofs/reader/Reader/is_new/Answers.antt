use Rattle.std.proofs.Common.{ap}
use Rattle.gds_records.specs.Framing.{item_at}
use Rattle.gds_grammar.specs.Reading.{Cursor}
use Rattle.gds_stream.proofs.Naming.{other_type, name_readable, named}
use Rattle.gds_stream.proofs.reader.Reader.is_new.Goals as goal

pub returns-then-part-ne-STRNAME : goal.returns-then-part-ne-STRNAME
returns-then-part-ne-STRNAME c = other_type c.args.self.now (item_at c.args.self.now.at c.args.part.now) c.if-part-ne-STRNAME.true

pub text_of-requires : goal.text_of-requires
text_of-requires c = name_readable (item_at c.args.self.now.at c.args.part.now) c.if-part-ne-STRNAME.false c.requires

pub returns : goal.returns
returns c =
    named c.args.self.now _ (item_at c.args.self.now.at c.args.part.now) c.in_ok-added.added c.in_ok-name.name c.self.inside.names.keys c.insert_full.new.self.keys c.if-part-ne-STRNAME.false c.in_ok-name.ensures
    (ap (λ (d : Cursor). d.names) c.self.view_is) c.in_ok-added.ensures.added c.in_ok-added.ensures.keys
    (ap (λ (d : Cursor). let e : Cursor = record d { names = c.insert_full.new.self.keys } in e) c.self.view_is)
