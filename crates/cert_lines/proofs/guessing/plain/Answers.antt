use Rattle.std.proofs.Common.{ℕ, List, ap, subst, ◌∙◌, unwrap_or}
use Rattle.cert_lines.specs.declared.line.Line.TheVariants.{End}
use Rattle.cert_lines.specs.Guesses.{bytes_of, word_at, ReadsVariable, plain_line}
use Rattle.cert_lines.proofs.Guessed.{plain_only}
use Rattle.cert_lines.proofs.guessing.plain.Goals as goal

pub returns : goal.returns
returns c = record {
  only = λ line within is. plain_only (bytes_of c.args.words.now) line c.plain_line.result c.numbers_of.result c.variable.result within is c.requires
      c.numbers_of.ensures
      (subst (λ (w : List ℕ). ReadsVariable w c.variable.result) c.word_at-3.ensures c.variable.ensures)
      (c.plain_line.ensures ∙ ap (λ (w : List ℕ). unwrap_or (plain_line w c.word_at-2.result.now c.numbers_of.result c.variable.result) End) c.word_at.ensures
      ∙ ap (λ (w : List ℕ). unwrap_or (plain_line (word_at (bytes_of c.args.words.now) 0) w c.numbers_of.result c.variable.result) End) c.word_at-2.ensures);
}
