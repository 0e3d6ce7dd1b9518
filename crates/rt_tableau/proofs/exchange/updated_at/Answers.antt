use Rattle.std.proofs.Common.{◌≡◌, ℕ, ℤ, List, Result, Ok, Err, sym, subst, subst₂, ◌∙◌}
use Rattle.std.specs.Result.{MatchResult}
use Rattle.rt_tableau.specs.Numbers.{IsUpdated, PassesAt}
use Rattle.rt_tableau.specs.Tables.{line_at}
use Rattle.rt_tableau.specs.Turned.{IsTurned}
use Rattle.rt_tableau.proofs.NewLines.{new_turned, new_copied, new_updated, new_past, past_there, none_read, line_read}
use Rattle.rt_tableau.proofs.exchange.updated_at.Goals as goal
use Rattle.rt_tableau.proofs.exchange.updated_at.Goals.{After-as_slice-pivot}

here : (c : After-as_slice-pivot) → line_at c.args.lines.now c.args.i ≡ c.as_slice-line.result.now
here c = line_read c.args.lines.now c.args.i c.index-lines-i.result c.as_slice-line.result.now c.requires.there c.index-lines-i.is c.as_slice-line.ensures

pivot : (c : After-as_slice-pivot) → line_at c.args.lines.now c.args.p ≡ c.as_slice-pivot.result.now
pivot c = line_read c.args.lines.now c.args.p c.index-lines-p.result c.as_slice-pivot.result.now c.requires.ready.row c.index-lines-p.is c.as_slice-pivot.ensures

pub returns-then-i-p : goal.returns-then-i-p
returns-then-i-p c =
    let after = (goal.at.returns-then-i-p c).After-as_slice-pivot in
    new_turned c.args.lines.now c.args.columns c.args.p c.args.q c.args.i (c.requires.ready.each c.args.i c.requires.there) c.in_ok-new.new c.if-i-p.true
    (subst (λ xs. IsTurned xs c.in_ok-new.new) (sym (here after)) c.in_ok-new.ensures)

pub returns-then-number-eq0 : goal.returns-then-number-eq0
returns-then-number-eq0 c =
    let after = (goal.at.returns-then-number-eq0 c).After-as_slice-pivot in
    let kept = c.requires.ready.each c.args.i c.requires.there in
    new_copied c.args.lines.now c.args.columns c.args.p c.args.q c.args.i kept c.in_ok-new-2.new c.if-i-p.false c.requires.ready.negative
    (none_read (line_at c.args.lines.now c.args.i) c.as_slice-line.result.now c.number.result c.args.q kept.small (here after) c.number.ensures c.if-number-eq0.true)
    (c.in_ok-new-2.ensures ∙ sym (here after))

-- what the update told, of the lines that are kept
told : (lines : List (List ℤ)) (i p q : ℕ) (line pivot : List ℤ) (found new : Result (List ℤ) ℕ) → line_at lines i ≡ line → line_at lines p ≡ pivot → found ≡ new
    → MatchResult found (IsUpdated line pivot q) (PassesAt line pivot q) → MatchResult new (IsUpdated (line_at lines i) (line_at lines p) q) (PassesAt (line_at lines i) (line_at lines p) q)
told lines i p q line pivot found new e f g h =
    subst₂ (λ a b. MatchResult new (IsUpdated a b q) (PassesAt a b q)) (sym e) (sym f) (subst (λ r. MatchResult r (IsUpdated line pivot q) (PassesAt line pivot q)) g h)

pub place-requires : goal.place-requires
place-requires c =
    let after = (goal.at.place-requires c).After-as_slice-pivot in
    let passes = told c.args.lines.now c.args.i c.args.p c.args.q c.as_slice-line.result.now c.as_slice-pivot.result.now c.in_ok-new-3.field-0 (Err c.in-Err.s) (here after) (pivot after) c.in-Err.is c.in_ok-new-3.ensures in
    past_there c.args.lines.now c.args.columns c.args.p c.args.q c.args.i (c.requires.ready.each c.args.i c.requires.there) c.in-Err.s (c.requires.ready.each c.args.p c.requires.ready.row) passes

pub returns-in-Ok : goal.returns-in-Ok
returns-in-Ok c =
    let after = (goal.at.returns-in-Ok c).After-as_slice-pivot in
    new_updated c.args.lines.now c.args.columns c.args.p c.args.q c.args.i (c.requires.ready.each c.args.i c.requires.there) c.in-Ok.new (c.requires.ready.each c.args.p c.requires.ready.row) c.if-i-p.false
    (told c.args.lines.now c.args.i c.args.p c.args.q c.as_slice-line.result.now c.as_slice-pivot.result.now c.in_ok-new-3.field-0 (Ok c.in-Ok.new) (here after) (pivot after) c.in-Ok.is c.in_ok-new-3.ensures)

pub returns-in-Err : goal.returns-in-Err
returns-in-Err c =
    let after = (goal.at.returns-in-Err c).After-as_slice-pivot in
    new_past c.args.lines.now c.args.columns c.args.p c.args.q c.args.i (c.requires.ready.each c.args.i c.requires.there) c.in-Err.s c.place.result (c.requires.ready.each c.args.p c.requires.ready.row) c.if-i-p.false
    c.place.ensures.there c.place.ensures.is
    (told c.args.lines.now c.args.i c.args.p c.args.q c.as_slice-line.result.now c.as_slice-pivot.result.now c.in_ok-new-3.field-0 (Err c.in-Err.s) (here after) (pivot after) c.in-Err.is c.in_ok-new-3.ensures)
