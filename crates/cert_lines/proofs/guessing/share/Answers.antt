use Rattle.std.proofs.Common.{ℕ, List, ap, subst, ◌∙◌, unwrap_or, to_z, of_z}
use Rattle.std.specs.Int.{w128}
use Rattle.rt_rows.specs.declared.proof.Of.TheVariants.{Up}
use Rattle.cert_lines.specs.Guesses.{bytes_of, ReadsNumber, ReadsCount, row_named}
use Rattle.cert_lines.proofs.Guessed.{read_again, share_only}
use Rattle.cert_lines.proofs.guessing.share.Goals as goal

pub returns : goal.returns
returns c = record {
  only = λ line within is. share_only (bytes_of c.args.words.now) line (to_z w128 (of_z w128 c.number.result)) c.count.result c.count-2.result c.count-3.result c.row_named.result within is c.requires
      (subst (λ (w : List ℕ). ReadsNumber w (to_z w128 (of_z w128 c.number.result))) c.word_at.ensures (read_again c.word_at.result.now c.number.result c.number.ensures))
      (subst (λ (w : List ℕ). ReadsCount w c.count.result) c.word_at-3.ensures c.count.ensures)
      (subst (λ (w : List ℕ). ReadsCount w c.count-2.result) c.word_at-4.ensures c.count-2.ensures)
      (subst (λ (w : List ℕ). ReadsCount w c.count-3.result) c.word_at-5.ensures c.count-3.ensures)
      (c.row_named.ensures ∙ ap (λ (w : List ℕ). unwrap_or (row_named w c.count.result c.count-2.result c.count-3.result) (Up c.count.result)) c.word_at-2.ensures);
}
