-- The best positions meet the root's rows, and no whole positions that meet them are better.
use Rattle.std.proofs.Common.{◌≡◌, ◌≤ℤ◌, Option, Some, None, refl, subst, ◌∙◌}
use Rattle.rt_tableau.specs.States.{State}
use Rattle.rt_simplex.specs.Choices.{goal_of}
use Rattle.rt_simplex.specs.Feasible.{IsDualFeasible}
use Rattle.rt_simplex.proofs.GoalLines.{goal_before}
use Rattle.rt_branch.specs.declared.parts.Best.{Best}
use Rattle.rt_branch.specs.Wholes.{IsLeastOf, IsAttained, IsTheLeast}
use Rattle.rt_branch.specs.Laws.{BestIsTheLeast}
use Rattle.rt_branch.proofs.WholePoints.{whole_point, variable_is, numbers_meet, point_meets}
use Rattle.rt_branch.proofs.Covered.{best_is_least_each}
use Rattle.rt_branch.proofs.Attained.{best_is_attained_each}

concluded : (root : State) (best : Option Best) → IsDualFeasible root → IsLeastOf root best → ((found : Best) → best ≡ Some found → IsAttained root found) → IsTheLeast root best
concluded root None feasible least attained = λ other meet. least (whole_point root.system other) (numbers_meet root.system other feasible.rows meet)
concluded root (Some best) feasible least attained =
    let is = attained best refl in
    record {
      meet = point_meets root.system best.at is.point feasible.rows is.one_each is.whole is.at;
      extent = is.extent ∙ is.at (goal_of root) (goal_before root feasible);
      least = λ other meet.
          subst (λ z. best.extent ≤ℤ z) (variable_is root.system other (goal_of root) (goal_before root feasible))
          (least (whole_point root.system other) (numbers_meet root.system other feasible.rows meet));
    }

pub best_is_the_least_each : BestIsTheLeast
best_is_the_least_each root from at one_each held feasible search closed =
    concluded root at.best feasible (best_is_least_each root from at one_each feasible search closed) (λ found is. best_is_attained_each root from at found one_each held feasible search is)
