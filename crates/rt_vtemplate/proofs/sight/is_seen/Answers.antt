use Rattle.std.proofs.Common.{rules, ◌≡◌, ℤ, ◌<ℤ◌, ◌≤ℤ◌, to_z, of_z, w64, subst, ◌∙◌}
use Rattle.rt_rows.specs.Places.{places}
use Rattle.rt_vtemplate.proofs.Blocked.{hidden_more, seen_at, seen_nowhere}
use Rattle.rt_vtemplate.proofs.sight.is_seen.Goals as goal

pub loop-x-preserved : goal.loop-x-preserved
loop-x-preserved c =
    let e : to_z w64 (of_z w64 c.right_side-x.result) ≡ c.right_side-x.result = search rules in
    hidden_more c.args.job.now (places c.args.columns.now) c.args.i c.args.j c.requires.of_one_mask (to_z w64 c.loop-x.x-bits) _ c.in-Some.k
    (e ∙ c.right_side-x.ensures) c.loop-x.invariant c.in-Some.ensures

pub returns-in-None : goal.returns-in-None
returns-in-None c =
    let e : to_z w64 (of_z w64 c.last_of_both-end.result) ≡ c.last_of_both-end.result = search rules in
    let t : to_z w64 c.loop-x.x-bits <ℤ to_z w64 (of_z w64 c.last_of_both-end.result) = search rules in
    seen_at c.args.job.now (places c.args.columns.now) c.args.i c.args.j c.requires.of_one_mask (to_z w64 c.loop-x.x-bits) c.loop-x.invariant
    (subst (λ (z : ℤ). to_z w64 c.loop-x.x-bits <ℤ z) (e ∙ c.last_of_both-end.ensures) t) c.in-None.ensures

pub returns : goal.returns
returns c =
    let e : to_z w64 (of_z w64 c.last_of_both-end.result) ≡ c.last_of_both-end.result = search rules in
    let t : to_z w64 (of_z w64 c.last_of_both-end.result) ≤ℤ to_z w64 c.loop-x.x-bits = search rules in
    seen_nowhere c.args.job.now (places c.args.columns.now) c.args.i c.args.j c.requires.of_one_mask (to_z w64 c.loop-x.x-bits) c.loop-x.invariant
    (subst (λ (z : ℤ). z ≤ℤ to_z w64 c.loop-x.x-bits) (e ∙ c.last_of_both-end.ensures) t)
