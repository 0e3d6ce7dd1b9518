use Rattle.std.proofs.Common.{ℤ, List, length, set, Vec, Global, refl, ap, subst, ◌∙◌}
use Rattle.std.specs.Result.{MatchResult}
use Rattle.rt_tableau.specs.States.{State}
use Rattle.rt_tableau.specs.Tables.{table_of, IsKept, AreNew, IsStop}
use Rattle.rt_tableau.proofs.Pivoted.{ready_at, kept_at, passes_at}
use Rattle.rt_tableau.proofs.Told.{small_table}
use Rattle.rt_tableau.proofs.tableau.Tableau.pivot.Goals as goal
use Rattle.rt_tableau.proofs.tableau.Tableau.pivot.Goals.{In-Ok}

pub exchanged-requires : goal.exchanged-requires
exchanged-requires c =
    ready_at _ c.args.self.now c.self.inside.lines.items c.as_slice.result.now c.as_slice-2.result.now c.columns-columns.result c.args.p c.args.q c.self.view_is c.self.invariant c.requires.place
    c.as_slice.ensures.value c.as_slice-2.ensures.value c.columns-columns.ensures

kept : (c : In-Ok) → IsKept (record { system = record { strips = c.self.inside.strips; rows = c.self.inside.rows.items }; goal = c.self.inside.goal; basis = set c.self.inside.basis.items c.args.p c.args.q }) c.in-Ok.lines.items
kept c =
    kept_at _ c.args.self.now c.self.inside.lines.items c.as_slice.result.now c.in-Ok.lines.items c.columns-columns.result c.args.p c.args.q c.self.view_is c.self.invariant c.requires.place
    c.as_slice.ensures.value c.columns-columns.ensures
    (subst (λ r. MatchResult r (λ (new : Vec (List ℤ) Global). AreNew (table_of c.as_slice.result.now) (length c.as_slice.result.now) c.columns-columns.result c.args.p c.args.q new.items)
    (IsStop (table_of c.as_slice.result.now) (length c.as_slice.result.now) c.columns-columns.result c.args.p c.args.q)) c.in-Ok.is c.in_ok-found.ensures)

pub invariant_of-self : goal.invariant_of-self
invariant_of-self c = kept (goal.at.invariant_of-self c).In-Ok

pub returns-in-Ok-clause-small : goal.returns-in-Ok-clause-small
returns-in-Ok-clause-small c = small_table _ c.in-Ok.lines.items (kept (goal.at.returns-in-Ok-clause-small c).In-Ok)

pub returns-in_ok-basis-in-Err-clause-refused : goal.returns-in_ok-basis-in-Err-clause-refused
returns-in_ok-basis-in-Err-clause-refused c = (
  (
    c.of.ensures ∙ c.in_ok-basis-in-Err.ensures.items ∙ c.as_slice-in-Err.ensures.value ∙ ap (λ (s : State). s.basis) c.self.view_is,
    refl,
    refl,
    passes_at _ c.args.self.now c.self.inside.lines.items c.as_slice.result.now c.columns-columns.result c.args.p c.args.q (c.in-Err.i, c.in-Err.j) c.self.view_is c.self.invariant c.requires.place
        c.as_slice.ensures.value c.columns-columns.ensures
        (subst (λ r. MatchResult r (λ (new : Vec (List ℤ) Global). AreNew (table_of c.as_slice.result.now) (length c.as_slice.result.now) c.columns-columns.result c.args.p c.args.q new.items)
        (IsStop (table_of c.as_slice.result.now) (length c.as_slice.result.now) c.columns-columns.result c.args.p c.args.q)) c.in-Err.is c.in_ok-found.ensures),
  ),
  refl,
  refl,
)
