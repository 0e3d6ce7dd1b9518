use Rattle.std.proofs.Common.{ℕ, ◌<◌, List, All, sym, subst}
use Rattle.std.proofs.lemmas.List.Elements.{All-drop}
use Rattle.gds_records.proofs.Bytes.{are_bytes}
use Rattle.gds_stream.proofs.Eights.{tail_of}
use Rattle.gds_stream.proofs.reader.tail.Goals as goal

pub returns-clause-bytes : goal.returns-clause-bytes
returns-clause-bytes c =
    let Bytes : List ℕ → Type 0 = All (λ b. b < 256) in
    subst Bytes (sym (tail_of c.args.bytes.now c.args.at)) (All-drop (λ b. b < 256) c.args.at c.args.bytes.now (are_bytes c.args.bytes.now c.type_inv.bytes))
