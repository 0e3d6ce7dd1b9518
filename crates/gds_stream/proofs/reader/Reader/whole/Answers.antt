use Rattle.std.proofs.Common.{ℕ, ◌^◌, ◌<◌, List, length, All, ap, subst}
use Rattle.std.proofs.lemmas.Result.{err_from_is_err_and}
use Rattle.gds_grammar.specs.Reading.{Cursor}
use Rattle.gds_stream.proofs.Telling.{is_stream_read, is_refused_read, is_refused_behind, refuses}
use Rattle.gds_stream.proofs.reader.Reader.whole.Goals as goal

pub returns-in_err-library-clause-fault : goal.returns-in_err-library-clause-fault
returns-in_err-library-clause-fault c = λ bytes from.
    let rest = ap (λ (d : Cursor). d.rest) from in
    let are = subst (λ (l : List ℕ). All (λ b. b < 256) l) rest c.rest-rest.ensures.bytes in
    let short = subst (λ (l : List ℕ). length l < 2 ^ 63) rest c.rest-rest.ensures.short in
    let p = err_from_is_err_and c.from_residual.result c.from_residual.ensures.1 in
    refuses bytes c.from_residual.result p.0 _ p.1 p.2 (is_refused_read bytes _ _ are short from c.in_err-library.ensures)

pub returns-in_err-zeros-clause-fault : goal.returns-in_err-zeros-clause-fault
returns-in_err-zeros-clause-fault c = λ bytes from.
    let rest = ap (λ (d : Cursor). d.rest) from in
    let are = subst (λ (l : List ℕ). All (λ b. b < 256) l) rest c.rest-rest.ensures.bytes in
    let got = c.in_ok-library.ensures in
    let p = err_from_is_err_and c.from_residual-in_err-zeros.result c.from_residual-in_err-zeros.ensures.1 in
    refuses bytes c.from_residual-in_err-zeros.result p.0 _ p.1 p.2 (is_refused_behind bytes _ _ got.0 _ are from got.1 c.in_err-zeros.ensures)

pub returns-clause-library : goal.returns-clause-library
returns-clause-library c = λ bytes from.
    let rest = ap (λ (d : Cursor). d.rest) from in
    let are = subst (λ (l : List ℕ). All (λ b. b < 256) l) rest c.rest-rest.ensures.bytes in
    let got = c.in_ok-library.ensures in
    is_stream_read bytes _ _ c.in_ok-library.library got.0 are from got.1 got.2 c.in_ok-zeros.ensures
