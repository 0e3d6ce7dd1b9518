use Rattle.std.proofs.Common.{ap, ◌∙◌}
use Rattle.std.specs.List.{slice_split}
use Rattle.cert_lines.specs.Guesses.{bytes_of}
use Rattle.cert_lines.proofs.Splitting.{is_space, words_again}
use Rattle.cert_lines.proofs.guessing.guess_of.Goals as goal

pub returns : goal.returns
returns c = λ line within is. c.guess.ensures.only line within (ap bytes_of c.as_slice.ensures.value ∙ c.in_ok-words.ensures ∙ ap (slice_split is_space) is ∙ words_again line within)
