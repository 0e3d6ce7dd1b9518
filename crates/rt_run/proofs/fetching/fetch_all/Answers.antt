use Rattle.std.proofs.Common.{[], ◌∷◌}
use Rattle.std.proofs.lemmas.Result.{err_from_is_err_and}
use Rattle.rt_desk.proofs.OutsideLemmas.{fetches_behind}
use Rattle.rt_run.proofs.FetchLemmas.{none_read, one_more_read, later_read, first_fails, later_fails}
use Rattle.rt_run.proofs.fetching.fetch_all.Goals as goal

pub returns-in_err-source-clause-refused : goal.returns-in_err-source-clause-refused
returns-in_err-source-clause-refused g c =
    let p = err_from_is_err_and c.from_residual.result c.from_residual.ensures.1 in
    let names = c.args.names.now in
    rw (p.1, p.2) (first_fails _ _ names.source.now _ (names.stable.now ∷ names.ttable.now ∷ names.sizes.now ∷ []) _ c.in_err-source.ensures.named c.in_err-source.ensures.refused)

pub returns-in_err-stable-clause-refused : goal.returns-in_err-stable-clause-refused
returns-in_err-stable-clause-refused g c =
    let p = err_from_is_err_and c.from_residual-in_err-stable.result c.from_residual-in_err-stable.ensures.1 in
    let names = c.args.names.now in
    let old = g.D.Desk.seen c.args.desk.now in
    let source = one_more_read old.files [] names.source.now _ (none_read old.files) c.in_ok-source.ensures.fetched in
    rw (p.1, p.2) (later_fails old (g.D.Desk.seen c.fetch.new.desk) _ (names.source.now ∷ []) names.stable.now _ (names.ttable.now ∷ names.sizes.now ∷ []) _ source c.fetch.ensures.stays c.in_err-stable.ensures.named c.in_err-stable.ensures.refused)

pub returns-in_err-ttable-clause-refused : goal.returns-in_err-ttable-clause-refused
returns-in_err-ttable-clause-refused g c =
    let p = err_from_is_err_and c.from_residual-in_err-ttable.result c.from_residual-in_err-ttable.ensures.1 in
    let names = c.args.names.now in
    let old = g.D.Desk.seen c.args.desk.now in
    let one = g.D.Desk.seen c.fetch.new.desk in
    let two = g.D.Desk.seen c.fetch-2.new.desk in
    let source = one_more_read old.files [] names.source.now _ (none_read old.files) c.in_ok-source.ensures.fetched in
    let stable = later_read old one (names.source.now ∷ []) names.stable.now _ source c.fetch.ensures.stays c.in_ok-stable.ensures.fetched in
    let stays = fetches_behind old one two c.fetch.ensures.stays c.fetch-2.ensures.stays in
    rw (p.1, p.2) (later_fails old two _ (names.source.now ∷ names.stable.now ∷ []) names.ttable.now _ (names.sizes.now ∷ []) _ stable stays c.in_err-ttable.ensures.named c.in_err-ttable.ensures.refused)

pub returns-in_err-sizes-clause-refused : goal.returns-in_err-sizes-clause-refused
returns-in_err-sizes-clause-refused g c =
    let p = err_from_is_err_and c.from_residual-in_err-sizes.result c.from_residual-in_err-sizes.ensures.1 in
    let names = c.args.names.now in
    let old = g.D.Desk.seen c.args.desk.now in
    let one = g.D.Desk.seen c.fetch.new.desk in
    let two = g.D.Desk.seen c.fetch-2.new.desk in
    let three = g.D.Desk.seen c.fetch-3.new.desk in
    let source = one_more_read old.files [] names.source.now _ (none_read old.files) c.in_ok-source.ensures.fetched in
    let stable = later_read old one (names.source.now ∷ []) names.stable.now _ source c.fetch.ensures.stays c.in_ok-stable.ensures.fetched in
    let stays = fetches_behind old one two c.fetch.ensures.stays c.fetch-2.ensures.stays in
    let ttable = later_read old two (names.source.now ∷ names.stable.now ∷ []) names.ttable.now _ stable stays c.in_ok-ttable.ensures.fetched in
    rw (p.1, p.2) (later_fails old three _ (names.source.now ∷ names.stable.now ∷ names.ttable.now ∷ []) names.sizes.now _ [] _ ttable (fetches_behind old two three stays c.fetch-3.ensures.stays) c.in_err-sizes.ensures.named c.in_err-sizes.ensures.refused)
