use Rattle.std.proofs.Common.{ℤ, sym, ap, subst, ◌∙◌, to_z, of_z}
use Rattle.std.specs.Int.{w128}
use Rattle.std.specs.Str.{IsUtf8}
use Rattle.std.proofs.lemmas.Int.{to_z-of_z}
use Rattle.cert_lines.proofs.Decimals.{is_text, number_read, number_refused}
use Rattle.cert_lines.proofs.numbers.number.Goals as goal

pub returns-in-Ok-parse : goal.returns-in-Ok-parse
returns-in-Ok-parse c = record {
  reads = λ z fits is.
      ap (λ (n : ℤ). to_z w128 (of_z w128 n)) (number_read z c.in-Ok-parse.number c.parse.result c.in-Ok.text.now c.args.word.now c.in-Ok-parse.is c.in-Ok.ensures.cases.0 is fits c.parse.ensures.value.0)
      ∙ to_z-of_z w128 z fits;
}

pub returns-in-Err-parse : goal.returns-in-Err-parse
returns-in-Err-parse c = record {
  reads = λ z fits is. absurd (number_refused z c.in-Err-parse.field-0 c.parse.result c.in-Ok.text.now c.args.word.now c.in-Err-parse.is c.in-Ok.ensures.cases.0 is fits c.parse.ensures.value.0);
}

pub returns-in-Err : goal.returns-in-Err
returns-in-Err c = record { reads = λ z fits is. absurd (c.in-Err.ensures.cases.0 (subst IsUtf8 (sym is) (is_text z fits))) }
