use Rattle.std.proofs.Common.{rules, ◌≡◌, ◌<ℤ◌, to_z, of_z, w64, sym, subst, ◌∙◌}
use Rattle.rt_near.specs.declared.near.Sides.{Sides}
use Rattle.rt_rows.specs.Places.{places}
use Rattle.rt_tech.specs.Tech.{IsLength}
use Rattle.rt_tech.proofs.Lengths.{space_is_length}
use Rattle.rt_vtemplate.proofs.Closeness.{close_strips}
use Rattle.rt_vtemplate.proofs.close.is_close.Goals as goal

pub are_close-requires-clause-first : goal.are_close-requires-clause-first
are_close-requires-clause-first c =
    subst (λ (s : Sides). s.low <ℤ s.high) (sym c.columns_at-first.ensures) (c.requires.columns.apart c.args.i c.requires.strips.first)

pub are_close-requires-clause-second : goal.are_close-requires-clause-second
are_close-requires-clause-second c =
    subst (λ (s : Sides). s.low <ℤ s.high) (sym c.columns_at-second.ensures) (c.requires.columns.apart c.args.j c.requires.strips.second)

pub are_close-requires-clause-reach : goal.are_close-requires-clause-reach
are_close-requires-clause-reach c =
    let e : to_z w64 (of_z w64 c.space_of.result) ≡ c.space_of.result = search rules in
    subst IsLength (sym (e ∙ c.space_of.ensures)) (space_is_length c.args.job.now.target c.requires.job.job_of.target c.columns_at-first.result.group)

pub returns : goal.returns
returns c =
    let e : to_z w64 (of_z w64 c.space_of.result) ≡ c.space_of.result = search rules in
    close_strips c.args.job.now (places c.args.columns.now) c.args.i c.args.j c.columns_at-first.result c.columns_at-second.result _ c.are_close.result
    c.columns_at-first.ensures c.columns_at-second.ensures (e ∙ c.space_of.ensures) c.are_close.ensures
