use Rattle.std.proofs.Common.{◌≡◌, ℕ, ◌<◌, List, length, drop, All, ap, sym, subst, ◌∙◌, arith, length-drop}
use Rattle.gds_grammar.specs.Reading.{Cursor}
use Rattle.gds_stream.proofs.reader.Reader.rest.Goals as goal

pub returns-clause-bytes : goal.returns-clause-bytes
returns-clause-bytes c =
    let Bytes : List ℕ → Type 0 = All (λ b. b < 256) in
    subst Bytes (c.tail.ensures.value ∙ ap (λ (d : Cursor). d.rest) c.self.view_is) c.tail.ensures.bytes

pub returns-clause-short : goal.returns-clause-short
returns-clause-short c =
    let same : length c.args.self.now.rest ≡ length (drop c.self.inside.at c.self.inside.bytes.now) = ap (λ (d : Cursor). length d.rest) (sym c.self.view_is) in
    let told = c.self.told in
    omega (arith, length-drop c.self.inside.at c.self.inside.bytes.now, told.1)
