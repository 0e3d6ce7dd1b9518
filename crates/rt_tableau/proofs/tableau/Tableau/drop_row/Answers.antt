use Rattle.std.proofs.Common.{◌-◌, take, ap, ◌∙◌}
use Rattle.rt_tableau.proofs.Dropping.{kept_dropped}
use Rattle.rt_tableau.proofs.tableau.Tableau.drop_row.Goals as goal

pub invariant_of-self : goal.invariant_of-self
invariant_of-self c =
    let inside = c.self.inside in
    kept_dropped _ c.args.self.now inside.lines.items c.pop.new.self.items c.pop-3.new.self.items c.pop-2.new.self.items c.self.view_is c.self.invariant c.requires.last c.requires.named
    (c.pop.ensures.rest ∙ ap (λ k. take (k - 1) inside.lines.items) inside.lines.ok.0) (c.pop-3.ensures.rest ∙ ap (λ k. take (k - 1) inside.rows.items) inside.rows.ok.0)
    (c.pop-2.ensures.rest ∙ ap (λ k. take (k - 1) inside.basis.items) inside.basis.ok.0)
