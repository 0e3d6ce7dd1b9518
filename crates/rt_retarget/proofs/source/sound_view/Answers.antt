use Rattle.std.proofs.Common.{◌≤◌, length, sym, subst}
use Rattle.std.proofs.lemmas.Result.{err_from_is_err_and}
use Rattle.rt_strips.specs.declared.listing.Strips.{Strips}
use Rattle.rt_retarget.specs.declared.source.TheConstants.{STRIP_LIMIT}
use Rattle.rt_retarget.proofs.Assembled.{shaped, clean_layout}
use Rattle.rt_retarget.proofs.source.sound_view.Goals as goal

pub returns-in_err-check_source-clause-refused : goal.returns-in_err-check_source-clause-refused
returns-in_err-check_source-clause-refused c =
    let p = err_from_is_err_and c.from_residual-in_err-check_source.result c.from_residual-in_err-check_source.ensures.1 in
    let view = c.in_ok-view.view in
    let is = c.in_ok-view.ensures.view in
    let few : length view.strips.list ≤ STRIP_LIMIT =
    subst (λ (s : Strips). length s.list ≤ STRIP_LIMIT) (sym c.in_ok-view.ensures.same) c.in_ok-strips.ensures.few in
    rw (p.1, p.2) (λ files library laid.
    c.in_err-check_source.ensures.refused files library c.args.layout.now is
    (shaped files c.args.inputs.now library c.args.layout.now view laid is few))

pub returns-clause-view : goal.returns-clause-view
returns-clause-view c =
    let view = c.in_ok-view.view in
    let is = c.in_ok-view.ensures.view in
    record {
      is_view = is;
      few = subst (λ (s : Strips). length s.list ≤ STRIP_LIMIT) (sym c.in_ok-view.ensures.same) c.in_ok-strips.ensures.few;
      clean = clean_layout c.args.inputs.now c.requires.tables.source.pairs c.args.layout.now view is c.in_ok-check_source.ensures.kept;
    }
