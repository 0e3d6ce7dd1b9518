use Rattle.std.proofs.Common.{refl, sym, subst}
use Rattle.std.specs.Str.{IsUtf8}
use Rattle.cert_lines.proofs.Decimals.{count_read, count_refused, none_read, count_is_text}
use Rattle.cert_lines.proofs.numbers.count.Goals as goal

pub returns-in-Ok-parse : goal.returns-in-Ok-parse
returns-in-Ok-parse c = record {
  reads = λ n fits is. count_read n c.in-Ok-parse.number c.parse.result c.in-Ok.text.now c.args.word.now c.in-Ok-parse.is c.in-Ok.ensures.cases.0 is fits c.parse.ensures.value.0;
  none = λ is. absurd (none_read c.in-Ok-parse.number c.parse.result c.in-Ok.text.now c.args.word.now c.in-Ok-parse.is c.in-Ok.ensures.cases.0 is c.parse.ensures.value.0);
}

pub returns-in-Err-parse : goal.returns-in-Err-parse
returns-in-Err-parse c = record {
  reads = λ n fits is. absurd (count_refused n c.in-Err-parse.field-0 c.parse.result c.in-Ok.text.now c.args.word.now c.in-Err-parse.is c.in-Ok.ensures.cases.0 is fits c.parse.ensures.value.0);
  none = λ is. refl;
}

pub returns-in-Err : goal.returns-in-Err
returns-in-Err c = record {
  reads = λ n fits is. absurd (c.in-Err.ensures.cases.0 (subst IsUtf8 (sym is) (count_is_text n fits)));
  none = λ is. refl;
}
