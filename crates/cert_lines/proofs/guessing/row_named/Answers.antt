use Rattle.std.proofs.Common.{List, ap, ◌∙◌, unwrap_or}
use Rattle.std.specs.List.{find}
use Rattle.std.specs.Str.{bytes_eq}
use Rattle.rt_rows.specs.declared.proof.Of.{Of}
use Rattle.rt_rows.specs.declared.proof.Of.TheVariants.{Up}
use Rattle.cert_lines.specs.Lines.{row_word}
use Rattle.cert_lines.proofs.guessing.row_named.Goals as goal

pub returns : goal.returns
returns c = c.row_in.ensures ∙ ap (λ (rows : List Of). unwrap_or (find (λ row. bytes_eq (row_word row) c.args.word.now) rows) (Up c.args.i)) c.all_rows.ensures
