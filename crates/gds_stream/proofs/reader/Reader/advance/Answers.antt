use Rattle.gds_stream.proofs.Peeking.{behind-is}
use Rattle.gds_stream.proofs.reader.Reader.advance.Goals as goal

pub returns : goal.returns
returns c = behind-is c.self.inside.at c.self.inside.bytes.now c.self.inside.element _ c.self.inside.names.keys c.args.self.now c.args.part.now c.self.view_is c.requires c.kind_after-self-inside.ensures
