use Rattle.gds_records.specs.declared.types.TheConstants.{HEADER, BGNLIB, LIBNAME}
use Rattle.gds_grammar.specs.Grammar.{many, type, ◌‣◌}
use Rattle.gds_grammar.specs.Format.{skipped, stream}
use Rattle.gds_stream.specs.Rests.{contents}
use Rattle.gds_stream.proofs.Giving.{then_gives}
use Rattle.gds_stream.proofs.Values.{one_only}
use Rattle.gds_stream.proofs.Cutting.{library_is}
use Rattle.gds_stream.proofs.Quietness.{skipped_quiet}
use Rattle.gds_stream.proofs.reader.Reader.library.Goals as goal

pub returns : goal.returns
unfolding stream
returns c =
    let h = c.in_ok-take.ensures.gives in
    let b = c.in_ok-take-2.ensures.gives in
    let k = c.in_ok-skip.ensures in
    let l = c.in_ok-name.ensures.gives in
    let j = c.in_ok-skip-2.ensures in
    then_gives (type HEADER) (type BGNLIB ‣ many skipped ‣ type LIBNAME ‣ many skipped ‣ contents) _ _ _ _ _ h.0 c.contents.result h.1 (λ more library is. is)
    (then_gives (type BGNLIB) (many skipped ‣ type LIBNAME ‣ many skipped ‣ contents) _ _ _ _ _ b.0 c.contents.result b.1 (λ more library is. is)
    (then_gives (many skipped) (type LIBNAME ‣ many skipped ‣ contents) _ _ _ _ _ k.0 c.contents.result k.1 (λ more library is. is)
    (then_gives (type LIBNAME) (many skipped ‣ contents) _ _ _ _ _ l.0 c.contents.result l.1 (λ more library is. is)
    (then_gives (many skipped) contents _ _ _ _ _ j.0 c.contents.result j.1
    (λ more library is. library_is h.0 b.0 k.0 l.0 j.0 more _ _ _ library (one_only _ _ _ _ h.2) (one_only _ _ _ _ b.2) (skipped_quiet _ _ _ k.1) (one_only _ _ _ _ l.2) (skipped_quiet _ _ _ j.1) is)
    c.contents.ensures))))
