use Rattle.std.proofs.Common.{All, List, ℕ, ◌<◌, length, ap, sym, subst, ◌∙◌}
use Rattle.gds_flat.specs.Walking.{names_at, IsCircle}
use Rattle.gds_flat.proofs.Accepting.{has_cycle}
use Rattle.gds_flat.proofs.acceptance.accept_walk.Goals as goal

pub names_of-requires : goal.names_of-requires
names_of-requires c =
    let circle : IsCircle c.args.names.now.structures.now c.args.walk.now.order.items c.in-Some.circle = rw (c.in-Some.is) at c.requires.circle in
    let P : List ℕ → Type 0 = λ ps. All (λ k. k < length c.args.names.now.structures.now) ps in
    subst P (sym c.as_slice.ensures) circle.within

pub accept_tree-requires : goal.accept_tree-requires
accept_tree-requires c = record { order = c.requires.order; marked = c.requires.marked; ranked = rw (c.in-None.is) at c.requires.circle }

pub returns-in_ok-names_of-in-Some-clause-err : goal.returns-in_ok-names_of-in-Some-clause-err
returns-in_ok-names_of-in-Some-clause-err c =
    has_cycle c.args.names.now.structures.now c.args.names.now.top.now c.args.walk.now c.in-Some.circle c.in_ok-names_of-in-Some.field-0 c.requires
    (rw (c.in-Some.is) at c.requires.circle) (c.in_ok-names_of-in-Some.ensures ∙ ap (names_at c.args.names.now.structures.now) c.as_slice.ensures)
