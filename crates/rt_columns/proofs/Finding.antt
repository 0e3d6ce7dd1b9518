-- What is found by ranks is what the columns of the job show.
use Rattle.std.proofs.Common.{◌≡◌, ℤ, List, length, sym, ap, subst}
use Rattle.rt_tech.proofs.Lengths.{space_is_length}
use Rattle.rt_rows.specs.Places.{places}
use Rattle.rt_rows.specs.declared.positions.Positions.{Positions}
use Rattle.rt_rows.specs.declared.name.Name.{Name}
use Rattle.rt_view.specs.declared.job.Job.{Job}
use Rattle.rt_view.specs.Job.{strips_of, IsJob}
use Rattle.rt_strips.specs.declared.listing.Strip.{Strip}
use Rattle.rt_strips.proofs.Placed.{strip_there, strip_below}
use Rattle.rt_template.specs.Vertical.{HaveColumns}
use Rattle.rt_columns.specs.Shown.{ListsShown}
use Rattle.rt_columns.specs.Sides.{side_of, HaveSides}
use Rattle.rt_columns.specs.Ranking.{AreRisingSides, AreRanksOf, IsShownBelow, ListsMasks}
use Rattle.rt_columns.proofs.Orders.{ranks_are_sides}
use Rattle.rt_columns.proofs.Transfer.{shown_to, shown_back}
use Rattle.rt_columns.proofs.Showing.{lists_shown}

-- the ranks of the sides of a job's columns
pub record AreRanked (job : Job) (columns : Positions) (sorted lefts rights : List ℤ) : Type 0 where
  pub sides : AreRisingSides (length job.view.strips.list) columns.l columns.r sorted
  pub left_ranks : AreRanksOf sorted (length job.view.strips.list) columns.l lefts
  pub right_ranks : AreRanksOf sorted (length job.view.strips.list) columns.r rights

-- as the code finds them
pub ranked : (job : Job) (columns : Positions) (list : List Strip) (l r sorted first second lefts rights lower upper : List ℤ)
    → list ≡ job.view.strips.list → l ≡ columns.l → r ≡ columns.r → first ≡ sorted → second ≡ sorted → lower ≡ lefts → upper ≡ rights
    → AreRisingSides (length list) l r sorted → AreRanksOf first (length list) l lefts → AreRanksOf second (length list) r rights
    → AreRanked job columns sorted lower upper
ranked job columns list l r sorted first second lefts rights lower upper count el er e f el' er' sides ls rs =
    let long : length list ≡ length job.view.strips.list = ap length count in
    record {
      sides = subst (λ n. AreRisingSides n columns.l columns.r sorted) long
          (subst (λ a. AreRisingSides (length list) a columns.r sorted) el (subst (λ b. AreRisingSides (length list) l b sorted) er sides));
      left_ranks = subst (λ n. AreRanksOf sorted n columns.l lower) long
          (subst (λ a. AreRanksOf sorted (length list) a lower) el (subst (λ s. AreRanksOf s (length list) l lower) e (subst (AreRanksOf first (length list) l) (sym el') ls)));
      right_ranks = subst (λ n. AreRanksOf sorted n columns.r upper) long
          (subst (λ b. AreRanksOf sorted (length list) b upper) er (subst (λ s. AreRanksOf s (length list) r upper) f (subst (AreRanksOf second (length list) r) (sym er') rs)));
    }

module _ (job : Job) (columns : Positions) (is_job : IsJob job) (have : HaveColumns job columns) (sorted lefts rights : List ℤ) (are : AreRanked job columns sorted lefts rights) where
  pub ranked_sides : HaveSides (length job.view.strips.list) lefts rights
  ranked_sides = ranks_are_sides (length job.view.strips.list) columns.l columns.r sorted lefts rights is_job.job_of.few are.sides are.left_ranks are.right_ranks
      (λ i h. have.apart i (strip_there job.view.strips.list i h))

  to_ranks : (name : Name) → IsShownBelow (strips_of job) (side_of columns.l) (side_of columns.r) job.view.strips.masks name
      → IsShownBelow (strips_of job) (side_of lefts) (side_of rights) job.view.strips.masks name
  to_ranks name s = record {
    m = s.m;
    below = s.below;
    shown = shown_to sorted are.sides.rising (strips_of job) (side_of columns.l) (side_of columns.r) (side_of lefts) (side_of rights) s.m
        (λ i h. are.sides.sides.left i (strip_below job.view.strips.list i h)) (λ i h. are.sides.sides.right i (strip_below job.view.strips.list i h))
        (λ i h. are.left_ranks.each i (strip_below job.view.strips.list i h)) (λ i h. are.right_ranks.each i (strip_below job.view.strips.list i h)) name s.shown;
  }

  from_ranks : (name : Name) → IsShownBelow (strips_of job) (side_of lefts) (side_of rights) job.view.strips.masks name
      → IsShownBelow (strips_of job) (side_of columns.l) (side_of columns.r) job.view.strips.masks name
  from_ranks name s = record {
    m = s.m;
    below = s.below;
    shown = shown_back sorted are.sides.rising (strips_of job) (side_of columns.l) (side_of columns.r) (side_of lefts) (side_of rights) s.m
        (λ i h. are.sides.sides.left i (strip_below job.view.strips.list i h)) (λ i h. are.sides.sides.right i (strip_below job.view.strips.list i h))
        (λ i h. are.left_ranks.each i (strip_below job.view.strips.list i h)) (λ i h. are.right_ranks.each i (strip_below job.view.strips.list i h)) name s.shown;
  }

  pub names_found : (names : List Name) → ListsMasks (strips_of job) (side_of lefts) (side_of rights) job.view.strips.masks names → ListsShown job (places columns) names
  names_found names lists =
      lists_shown job (places columns) (λ i h. (is_job.job_of.view.strips.strips_are.nonempty i h).upwards) (λ m. (space_is_length job.target is_job.job_of.target m).low)
      names (record { exact = λ name. (λ c. from_ranks name ((lists.exact name).0 c), λ s. (lists.exact name).1 (to_ranks name s)) })
