-- Files have one job, and the least positions of a job are the same on all sides of its strips: so one answer of the last stage is true.
use Rattle.std.proofs.Common.{◌≡◌, ℕ, suc, ◌+◌, ◌<◌, ℤ, List, [], ◌∷◌, length, map, refl, ap, sym, ◌∙◌, subst, arith}
use Rattle.rt_base.specs.declared.plane.Axis.{Axis}
use Rattle.rt_cells.proofs.Lines.{antisymmetric}
use Rattle.gds_stream.specs.declared.cell.Flat.{Flat}
use Rattle.gds_stream.specs.declared.cell.Note.{Note}
use Rattle.gds_stream.specs.declared.library.Library.{Library}
use Rattle.gds_stream.specs.Written.{written}
use Rattle.rt_carry.specs.Shapes.{shape_of}
use Rattle.rt_carry.specs.Texts.{AreNotesOf}
use Rattle.rt_view.specs.declared.job.Job.{Job}
use Rattle.rt_view.specs.declared.shapes.View.{View}
use Rattle.rt_view.specs.Job.{strips_of}
use Rattle.rt_place.specs.Placing.{NoneMeetOf}
use Rattle.rt_rows.specs.declared.row.Var.{Var}
use Rattle.rt_strips.specs.Placed.{Placed, placed}
use Rattle.rt_strips.specs.Standing.{IsStrip}
use Rattle.rt_tech.specs.declared.sizes.Sizes.{Sizes}
use Rattle.rt_tech.specs.declared.table.Tech.{Tech}
use Rattle.rt_template.specs.Drawing.{drawn_from, drawn}
use Rattle.rt_template.specs.Horizontal.{IsLeastAcross}
use Rattle.rt_template.specs.Vertical.{HaveSameSides, MeetsUpwards, IsLeastUpwards}
use Rattle.rt_template.proofs.Columns.{meets_moved}
use Rattle.rt_retarget.specs.declared.answer.Outcome.TheVariants.{Done, Infeasible}
use Rattle.rt_retarget.specs.Moved.{drawing_of}
use Rattle.rt_retarget.specs.OneAnswer.{AreSameJobs, InfeasibleIsntDone, InfeasibleAlongOne, DoneIsOne, OneOutcome}
use Rattle.rt_retarget.proofs.OneJob.{one_job}
use Rattle.rt_retarget.proofs.Texts.{HasSides, one_area, same_texts}
use Rattle.rt_retarget.proofs.SameJobs.{same_strips, flipped, is_strip, meets_across, meets_upwards}

module _ (a b : Job) (same : AreSameJobs a b) where
  -- the least columns of both are the same on all sides of the strips
  same_columns : (at other : Var → ℤ) → IsLeastAcross a at → IsLeastAcross b other → HaveSameSides a at other
  same_columns at other least other_least =
      let met = meets_across a b same at least.extent.meets in
      let other_met = meets_across b a (flipped a b same) other other_least.extent.meets in
      record {
        left = λ i s. antisymmetric _ _ (least.left other other_met i s) (other_least.left at met i (is_strip a b same i s));
        right = λ i s. antisymmetric _ _ (least.right other other_met i s) (other_least.right at met i (is_strip a b same i s));
      }

  -- what meets the template upwards of the other at its columns meets that of the one at its own
  met_too : (columns other at : Var → ℤ) → HaveSameSides a columns other → MeetsUpwards b other at → MeetsUpwards a columns at
  met_too columns other at sides m = meets_moved a columns other sides at (meets_upwards b a (flipped a b same) other at m)

  -- a job without positions has no least ones
  no_positions : (axis : Axis) (at : Var → ℤ) → NoneMeetOf a axis → IsLeastAcross b at → IsLeastUpwards b at at → ⊥
  no_positions axis at (NoneMeetOf.across none) across upwards = none at (meets_across b a (flipped a b same) at across.extent.meets)
  no_positions axis at (NoneMeetOf.upwards columns least none) across upwards =
      none at (met_too columns at at (same_columns columns at least across) upwards.extent.meets)

  -- and it has none along one axis
  along_one : (axis other : Axis) → NoneMeetOf a axis → NoneMeetOf b other → axis ≡ other
  along_one axis other (NoneMeetOf.across none) (NoneMeetOf.across none') = refl
  along_one axis other (NoneMeetOf.upwards columns least none) (NoneMeetOf.upwards columns' least' none') = refl
  along_one axis other (NoneMeetOf.across none) (NoneMeetOf.upwards columns least none') =
      absurd (none columns (meets_across b a (flipped a b same) columns least.extent.meets))
  along_one axis other (NoneMeetOf.upwards columns least none) (NoneMeetOf.across none') =
      absurd (none' columns (meets_across a b same columns least.extent.meets))

pub infeasible_isnt_done : InfeasibleIsntDone
infeasible_isnt_done files axis out none done =
    let moved = done.moved in
    let same = (one_job files none.inputs.asked none.library none.job moved.asked moved.library moved.job none.from moved.from).same_jobs in
    no_positions none.job moved.job same axis moved.at none.none_meet moved.across moved.upwards

pub infeasible_along_one : InfeasibleAlongOne
infeasible_along_one files axis other a b =
    let same = (one_job files a.inputs.asked a.library a.job b.inputs.asked b.library b.job a.from b.from).same_jobs in
    along_one a.job b.job same axis other a.none_meet b.none_meet

-- one drawing: it depends on the sides of the strips alone

one_drawn : (grid : ℤ) (at other : Var → ℤ) (n : ℕ) (strips : List Placed) → ((i : ℕ) → i < length strips → HasSides at other (n + i))
    → drawn_from grid at n strips ≡ drawn_from grid other n strips
one_drawn grid at other n [] sides = refl
one_drawn grid at other n (strip ∷ strips) sides =
    let here : HasSides at other n = subst (HasSides at other) (omega arith) (sides 0 (omega arith)) in
    let area = one_area grid at other n here in
    let rest = one_drawn grid at other (suc n) strips (λ i h. subst (HasSides at other) (omega arith) (sides (suc i) (omega (arith, h)))) in
    rw (area, rest) refl

-- a cell by its parts
same_cell : (a b : Flat) → a.library ≡ b.library → a.name ≡ b.name → a.units ≡ b.units → a.shapes ≡ b.shapes → a.texts ≡ b.texts → a ≡ b
same_cell a b library name units shapes texts =
    λ i. record { library = library i; name = name i; units = units i; shapes = shapes i; texts = texts i }

module _ (a b : Job) (same : AreSameJobs a b) (at other : Var → ℤ) (across : IsLeastAcross a at) (across' : IsLeastAcross b other)
    (upwards : IsLeastUpwards a at at) (upwards' : IsLeastUpwards b other other) where
  all_sides : (i : ℕ) → IsStrip (strips_of a) i → HasSides at other i
  all_sides i s =
      let columns = same_columns a b same at other across across' in
      let columns' = same_columns b a (flipped a b same) other at across' across in
      let met = met_too a b same at other other columns upwards'.extent.meets in
      let met' = met_too b a (flipped a b same) other at at columns' upwards.extent.meets in
      let s' = is_strip a b same i s in
      record {
        left = columns.left i s;
        right = columns.right i s;
        bottom = antisymmetric _ _ (upwards.bottom other met i s) (upwards'.bottom at met' i s');
        top_side = antisymmetric _ _ (upwards.top_side other met i s) (upwards'.top_side at met' i s');
      }

  one_drawing : drawing_of a at ≡ drawing_of b other
  one_drawing =
      let sides = one_drawn a.target.grid at other 0 (strips_of a) (λ i h. subst (HasSides at other) (omega arith) (all_sides i (record { below_count = h }))) in
      sides ∙ ap (λ (t : Tech). drawn t.grid other (strips_of a)) same.target ∙ ap (drawn b.target.grid other) (same_strips a b same)

  one_list_of_texts : (notes others : List Note) → AreNotesOf a.target (strips_of a) at a.view.labels notes → AreNotesOf b.target (strips_of b) other b.view.labels others
      → notes ≡ others
  one_list_of_texts notes others c d =
      same_texts a.target (strips_of a) at other (λ i h. all_sides i (record { below_count = h })) a.view.labels notes others c
      (subst (λ (t : Tech). AreNotesOf t (strips_of a) other a.view.labels others) (sym same.target)
      (subst (λ (v : View). AreNotesOf b.target (map placed v.strips.list) other v.labels others) (sym same.view) d))

pub done_is_one : DoneIsOne
done_is_one files out other a b =
    let m = a.moved in
    let n = b.moved in
    let one = one_job files m.asked m.library m.job n.asked n.library n.job m.from n.from in
    let drawing = one_drawing m.job n.job one.same_jobs m.at n.at m.across n.across m.upwards n.upwards in
    let c = m.to.drawing in
    let d = n.to.drawing in
    let shapes = c.shapes ∙ ap (λ (t : Tech). map (shape_of t) (drawing_of m.job m.at)) one.same_jobs.target ∙ ap (map (shape_of n.job.target)) drawing ∙ sym d.shapes in
    let cell = same_cell m.to.cell n.to.cell
    (c.in_library ∙ ap (λ (l : Library). l.name) one.one_library ∙ sym d.in_library)
    (c.named ∙ ap (λ (s : Sizes). s.cell) one.one_asked ∙ sym d.named)
    (c.units ∙ ap (λ (t : Tech). t.units) one.same_jobs.target ∙ sym d.units)
    shapes
    (one_list_of_texts m.job n.job one.same_jobs m.at n.at m.across n.across m.upwards n.upwards m.to.cell.texts n.to.cell.texts c.texts d.texts) in
    m.to.bytes ∙ ap written cell ∙ sym n.to.bytes

pub one_outcome : OneOutcome
one_outcome files (Done gds cert report) (Done gds' cert' report') a b =
    rw (done_is_one files gds gds' a.0 b.0, a.1 ∙ sym b.1, a.2 ∙ sym b.2) refl
one_outcome files (Infeasible axis cert) (Infeasible axis' cert') a b = rw (infeasible_along_one files axis axis' a.0 b.0, a.1 ∙ sym b.1) refl
one_outcome files (Done gds cert report) (Infeasible axis cert') a b = absurd (infeasible_isnt_done files axis gds b.0 a.0)
one_outcome files (Infeasible axis cert) (Done gds cert' report) a b = absurd (infeasible_isnt_done files axis gds a.0 b.0)
