use Rattle.std.proofs.Common.{pos, List, subst}
use Rattle.std.proofs.lemmas.Result.{on_ok_weaker, IfErr-weaker}
use Rattle.rt_rules.specs.Rules.{mask_rules, BreaksNoRule, IsBreachOf}
use Rattle.rt_strips.specs.declared.listing.Strip.{Strip}
use Rattle.rt_drc.specs.InOrder.{pair_rules, IsRefusal}
use Rattle.rt_drc.specs.Rows.{cells_of}
use Rattle.rt_drc.proofs.InOrder.{front_refused, behind_refused, all_kept, is_breach}
use Rattle.rt_drc.proofs.Own.{view_strips, view_strips_are, cuts_are_strips, cuts_are_sound}
use Rattle.rt_drc.proofs.rules.check_rules.Goals as goal

pub check_masks-requires-clause-strips : goal.check_masks-requires-clause-strips
check_masks-requires-clause-strips c = view_strips c.args.tech.now c.args.view.now c.requires.view c.as_slice-strips.result.now c.as_slice-strips.ensures

pub check_masks-requires-clause-cuts : goal.check_masks-requires-clause-cuts
check_masks-requires-clause-cuts c = cuts_are_strips c.args.tech.now c.requires.pairs c.args.view.now c.requires.view c.as_slice-strips.result.now c.as_slice-strips.ensures

pub returns-in-Err-clause-broken : goal.returns-in-Err-clause-broken
returns-in-Err-clause-broken c =
    let tech = c.args.tech.now in
    subst (λ (xs : List Strip). IsBreachOf (pos 1) tech (cells_of xs) c.in-Err.error) c.as_slice-strips.ensures
    (is_breach tech (cells_of c.as_slice-strips.result.now) c.in-Err.error
    (front_refused tech (cells_of c.as_slice-strips.result.now) (mask_rules 0 tech.masks) (pair_rules tech) c.in-Err.error c.in-Err.ensures.broken))

pub check_pairs-requires-clause-strips : goal.check_pairs-requires-clause-strips
check_pairs-requires-clause-strips c = view_strips_are c.args.tech.now c.args.view.now c.requires.view c.as_slice-strips.result.now c.as_slice-strips.ensures

pub check_pairs-requires-clause-cuts : goal.check_pairs-requires-clause-cuts
check_pairs-requires-clause-cuts c =
    cuts_are_sound c.args.tech.now c.requires.pairs c.args.view.now c.requires.view c.as_slice-strips.result.now c.as_slice.result.now c.as_slice-strips.ensures c.as_slice.ensures

pub returns-clause-kept : goal.returns-clause-kept
returns-clause-kept c =
    let tech = c.args.tech.now in
    on_ok_weaker c.check_pairs.result
    (λ pairs. subst (λ (xs : List Strip). BreaksNoRule (pos 1) tech (cells_of xs)) c.as_slice-strips.ensures
    (all_kept tech (cells_of c.as_slice-strips.result.now) c.in_default.ensures.kept pairs)) c.check_pairs.ensures.kept

pub returns-clause-broken : goal.returns-clause-broken
returns-clause-broken c =
    let tech = c.args.tech.now in
    let cells = cells_of c.as_slice-strips.result.now in
    IfErr-weaker c.check_pairs.result (IsRefusal tech cells (pair_rules tech)) (IsBreachOf (pos 1) tech (cells_of c.args.view.now.strips.list))
    (λ error refused. subst (λ (xs : List Strip). IsBreachOf (pos 1) tech (cells_of xs) error) c.as_slice-strips.ensures
    (is_breach tech cells error (behind_refused tech cells (mask_rules 0 tech.masks) (pair_rules tech) c.in_default.ensures.kept.kept error refused))) c.check_pairs.ensures.broken
