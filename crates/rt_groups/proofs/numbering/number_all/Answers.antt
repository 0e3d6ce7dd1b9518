use Rattle.std.proofs.Common.{◌+◌, ◌<◌, ◌∷◌, [], ◌++◌, ◌∙◌, length, get_or, refl, arith, ap, subst, sym}
use Rattle.std.specs.Prelude.{Some}
use Rattle.std.proofs.lemmas.List.{length-set}
use Rattle.std.proofs.lemmas.List.Elements.{All-get_or}
use Rattle.rt_groups.proofs.Appearing.{AreNumberedBefore, none_numbered, all_numbered, next_more, other_more}
use Rattle.rt_groups.proofs.numbering.number_all.Goals as goal
use Rattle.rt_groups.proofs.numbering.number_all.Goals.{then-number-next, else-number-next}

pub loop-entry-init : goal.loop-entry-init
loop-entry-init c =
    let groups = c.args.groups.now in
    let known = c.args.known.now in
    record {
      counted = refl;
      numbered = subst (λ xs. AreNumberedBefore groups 0 xs known 0) (sym c.new-numbers.ensures.items) (none_numbered groups (length known) known c.requires.unknown);
    }

pub loop-entry-preserved : goal.loop-entry-preserved
loop-entry-preserved c =
    let groups = c.args.groups.now in
    let n = c.loop-entry.entry-index in
    let entry = get_or groups n 0 in
    let numbers = c.loop-entry.numbers.items in
    let known = c.loop-entry.known in
    let after = c.number_of-number.new.known in
    let number = c.number_of-number.result in
    let next = c.loop-entry.next in
    let kept = c.loop-entry.invariant in
    let many = kept.counted in
    let there : entry < length known = subst (λ k. entry < k) (sym many) (All-get_or (λ e. e < length c.args.known.now) groups n 0 c.loop-entry-test.true c.requires.within) in
    let is = c.number_of-number.ensures in
    record {
      counted = ap length is.known ∙ (length-set known entry (Some number) ∙ many);
      numbered = subst (λ xs. AreNumberedBefore groups (n + 1) xs after c.if-number-next.next) (sym c.in_ok-push.ensures.items)
          (elim c.if-number-next.branch [
            | then-number-next w ↦
                subst (λ k. AreNumberedBefore groups (n + 1) (numbers ++ number ∷ []) after k) (sym w.next-is)
                (next_more groups n numbers known after next entry number refl there is kept.numbered w.if-number-next.true)
            | else-number-next w ↦
                subst (λ k. AreNumberedBefore groups (n + 1) (numbers ++ number ∷ []) after k) (sym w.next-is)
                (other_more groups n numbers known after next entry number refl there is kept.numbered w.if-number-next.false)
          ]);
    }

pub returns : goal.returns
returns c =
    let n = c.loop-entry.entry-index in
    all_numbered c.args.groups.now c.loop-entry.numbers.items n c.loop-entry.known c.loop-entry.next
    (omega (arith, c.loop-entry-test.false, c.loop-entry.auto.entry-index-end)) c.loop-entry.invariant.numbered
