use Rattle.std.proofs.Common.{ℕ, List, sym, subst, MatchOption, IfOk}
use Rattle.cert_text.specs.Texts.{IsCertificate, IsBadAt}
use Rattle.cert_text.proofs.Parting.{parts_known}
use Rattle.cert_text.proofs.checking.first_bad_line.Goals as goal

pub bad_among-requires-clause-each : goal.bad_among-requires-clause-each
bad_among-requires-clause-each c =
    (parts_known c.args.text.now c.in_ok-parts.parts.items c.as_slice.result.now c.in-Some.whole.now c.in-Some.last.now c.in_ok-parts.ensures c.as_slice.ensures.value c.in-Some.ensures.cases.0).each

pub bad_among-requires-clause-rest : goal.bad_among-requires-clause-rest
bad_among-requires-clause-rest c =
    (parts_known c.args.text.now c.in_ok-parts.parts.items c.as_slice.result.now c.in-Some.whole.now c.in-Some.last.now c.in_ok-parts.ensures c.as_slice.ensures.value c.in-Some.ensures.cases.0).one

pub returns-in-Some : goal.returns-in-Some
returns-in-Some c =
    subst (λ (t : List ℕ). IfOk c.bad_among.result (λ bad. MatchOption bad (IsCertificate t) (λ number. IsBadAt t number)))
    (sym (parts_known c.args.text.now c.in_ok-parts.parts.items c.as_slice.result.now c.in-Some.whole.now c.in-Some.last.now c.in_ok-parts.ensures c.as_slice.ensures.value c.in-Some.ensures.cases.0).text_is)
    c.bad_among.ensures
