use Rattle.std.proofs.Common.{ℤ, List, length, Vec, Global, subst}
use Rattle.std.specs.Result.{MatchResult}
use Rattle.rt_tableau.specs.Tables.{table_of, AreNew, IsStop}
use Rattle.rt_tableau.proofs.Excluding.{excludes}
use Rattle.rt_tableau.proofs.Pivoted.{ready_at, kept_at, passes_at}
use Rattle.rt_tableau.proofs.tableau.Tableau.exchange.Goals as goal

pub exchanged-requires : goal.exchanged-requires
exchanged-requires c =
    ready_at _ c.args.self.now c.self.inside.lines.items c.as_slice.result.now c.as_slice-2.result.now c.columns-columns.result c.args.p c.args.q c.self.view_is c.self.invariant c.requires.place
    c.as_slice.ensures.value c.as_slice-2.ensures.value c.columns-columns.ensures

pub unreachable-requires : goal.unreachable-requires
unreachable-requires c =
    excludes c.args.self.now c.args.p c.args.q c.in_default.field-0.0 c.in_default.field-0.1
    (passes_at _ c.args.self.now c.self.inside.lines.items c.as_slice.result.now c.columns-columns.result c.args.p c.args.q c.in_default.field-0 c.self.view_is c.self.invariant c.requires.place
    c.as_slice.ensures.value c.columns-columns.ensures
    (subst (λ r. MatchResult r (λ (new : Vec (List ℤ) Global). AreNew (table_of c.as_slice.result.now) (length c.as_slice.result.now) c.columns-columns.result c.args.p c.args.q new.items)
    (IsStop (table_of c.as_slice.result.now) (length c.as_slice.result.now) c.columns-columns.result c.args.p c.args.q)) c.in_default.is c.in_ok-found.ensures))
    c.requires.small

pub invariant_of-self : goal.invariant_of-self
invariant_of-self c =
    kept_at _ c.args.self.now c.self.inside.lines.items c.as_slice.result.now c.in-Ok.lines.items c.columns-columns.result c.args.p c.args.q c.self.view_is c.self.invariant c.requires.place
    c.as_slice.ensures.value c.columns-columns.ensures
    (subst (λ r. MatchResult r (λ (new : Vec (List ℤ) Global). AreNew (table_of c.as_slice.result.now) (length c.as_slice.result.now) c.columns-columns.result c.args.p c.args.q new.items)
    (IsStop (table_of c.as_slice.result.now) (length c.as_slice.result.now) c.columns-columns.result c.args.p c.args.q)) c.in-Ok.is c.in_ok-found.ensures)
