use Rattle.std.proofs.Common.{ℕ, List, [], length, arith, subst, sym, Bor}
use Rattle.std.proofs.lemmas.List.{get_or-map}
use Rattle.cert_lines.specs.Guesses.{bytes_of}
use Rattle.cert_text.specs.Reached.{IsStep}
use Rattle.cert_text.proofs.Parting.{many, within, nothing_read, refused_here, taken_here, ends_well, ends_badly}
use Rattle.cert_text.proofs.checking.bad_among.Goals as goal

pub loop-i-init : goal.loop-i-init
loop-i-init c = nothing_read

pub returns-in-None : goal.returns-in-None
returns-in-None c =
    refused_here (bytes_of c.args.whole.now) c.args.last.now c.loop-i.i c.loop-i.stage _ (within c.args.whole.now c.loop-i.i c.loop-i-test.true) c.requires.each
    (get_or-map (λ (w : Bor (List ℕ)). w.now) c.args.whole.now c.loop-i.i _ [] c.loop-i-test.true) c.loop-i.invariant (subst (IsStep c.loop-i.stage _) c.in-None.is c.in_ok-new.ensures)

pub loop-i-preserved : goal.loop-i-preserved
loop-i-preserved c =
    taken_here (bytes_of c.args.whole.now) c.loop-i.i c.loop-i.stage c.in-Some.new _ (within c.args.whole.now c.loop-i.i c.loop-i-test.true)
    (get_or-map (λ (w : Bor (List ℕ)). w.now) c.args.whole.now c.loop-i.i _ [] c.loop-i-test.true) c.loop-i.invariant (subst (IsStep c.loop-i.stage _) c.in-Some.is c.in_ok-new.ensures)

pub returns-then-is_end : goal.returns-then-is_end
returns-then-is_end c =
    ends_well (bytes_of c.args.whole.now) c.args.last.now c.loop-i.i c.loop-i.stage (omega (arith, many c.args.whole.now)) c.loop-i.invariant c.if-is_end.ensures

pub returns-else-is_end : goal.returns-else-is_end
returns-else-is_end c =
    ends_badly (bytes_of c.args.whole.now) c.args.last.now c.loop-i.i (length c.args.whole.now) c.loop-i.stage (omega (arith, many c.args.whole.now)) (sym (many c.args.whole.now))
    c.requires.each c.requires.rest c.loop-i.invariant c.if-is_end.ensures
