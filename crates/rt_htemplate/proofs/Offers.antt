-- The names that are offered hold all of the template.
use Rattle.std.proofs.Common.{◌≡◌, ℕ, List, length, refl, sym, subst, ◌∙◌, arith, inl, inr}
use Rattle.std.specs.Prelude.{Contains}
use Rattle.std.proofs.lemmas.List.{get_or_default}
use Rattle.rt_strips.proofs.Marks.{standing_seam}
use Rattle.rt_rows.specs.declared.name.Name.{Name}
use Rattle.rt_rows.specs.declared.name.Name.TheVariants.{Lo, Hi, Zero, Top, Wide, Size, Ll, Rr, Share, Gap, Off, Inl, Inr}
use Rattle.rt_rows.specs.declared.row.Row.{Row}
use Rattle.rt_view.specs.declared.job.Job.{Job}
use Rattle.rt_view.specs.Job.{strips_of}
use Rattle.rt_strips.specs.declared.contact.Seam.{Seam}
use Rattle.rt_strips.specs.Placed.{Placed}
use Rattle.rt_strips.specs.Standing.{IsStrip, Touch}
use Rattle.rt_strips.specs.Seams.{AreSeamsOf}
use Rattle.rt_template.specs.Horizontal.{RowAcross}
use Rattle.rt_between.specs.Offers.{pair_at, AreOffered}
use Rattle.rt_htemplate.specs.Candidates.{names_of_strip, names_of_seam, names_of_pair, names_at_seam, seam_at, names_at_pair, AreOfferedAtSeams, AreOfferedForKept, HoldAllNames}
use Rattle.rt_htemplate.specs.Near.{HoldKeptPairs}
use Rattle.rt_htemplate.specs.Wanted.{IsOfDistance, IsOfEnclosure, AreOfferedBetween}
use Rattle.rt_template.proofs.Sides.{there_apart, there_enclose}

-- the seams' names are those of each seam of the strips
pub at_seams : (strips : List Placed) (seams : List Seam) (before after : List Name) → AreSeamsOf strips seams → AreOffered (names_at_seam seams) (length seams) before after
    → AreOfferedAtSeams strips before after
at_seams strips seams before after are offered = record {
  kept = offered.kept;
  offered = λ i j s name c.
      let seam : Seam = record { below = i; above = j } in
      let there = are.every i j s in
      let e : seam_at seams there.0 ≡ seam = get_or_default seams there.0 (record { below = 0; above = 0 }) seam there.1 ∙ there.2 in
      offered.offered there.0 there.1 name (subst (λ (t : Seam). Contains (names_of_seam t.below t.above) name) (sym e) c);
}

kept_pair : (pairs : List (ℕ × ℕ)) (before after : List Name) → AreOffered (names_at_pair pairs) (length pairs) before after → (i j : ℕ) (name : Name) → Contains pairs (i, j)
    → Contains (names_of_pair i j) name → Contains after name
kept_pair pairs before after offered i j name there c =
    let pair : ℕ × ℕ = (i, j) in
    let e : pair_at pairs there.0 ≡ pair = get_or_default pairs there.0 (0, 0) pair there.1 ∙ there.2 in
    offered.offered there.0 there.1 name (subst (λ (t : ℕ × ℕ). Contains (names_of_pair t.0 t.1) name) (sym e) c)

-- the pairs' names are those of each two strips that keep their distance
pub for_kept : (job : Job) (pairs : List (ℕ × ℕ)) (before after : List Name) → HoldKeptPairs job pairs → AreOffered (names_at_pair pairs) (length pairs) before after
    → AreOfferedForKept job before after
for_kept job pairs before after hold offered = record {
  kept = offered.kept;
  offered = λ i j kept. elim (hold.every i j kept) [
    | inl there ↦ kept_pair pairs before after offered i j (Gap i j) there (0, omega arith, refl)
    | inr there ↦ kept_pair pairs before after offered j i (Gap i j) there (1, omega arith, refl)
  ];
}

module _ (job : Job) (first strips seams kept all : List Name) (zero_there : Contains first Zero) (top_there : Contains first Top)
    (of_strips : AreOffered names_of_strip (length (strips_of job)) first strips) (of_seams : AreOfferedAtSeams (strips_of job) strips seams)
    (of_kept : AreOfferedForKept job seams kept) (between : AreOfferedBetween job kept all) where
  from_first : (name : Name) → Contains first name → Contains all name
  from_first name c = between.kept name (of_kept.kept name (of_seams.kept name (of_strips.kept name c)))

  from_strip : (i : ℕ) (name : Name) → IsStrip (strips_of job) i → Contains (names_of_strip i) name → Contains all name
  from_strip i name s c = between.kept name (of_kept.kept name (of_seams.kept name (of_strips.offered i s.below_count name c)))

  from_touch : (i j : ℕ) (name : Name) → Touch (strips_of job) i j → Contains (names_of_seam i j) name → Contains (names_of_seam j i) name → Contains all name
  from_touch i j name (inl s) c d = between.kept name (of_kept.kept name (of_seams.offered i j (standing_seam (strips_of job) i j s) name c))
  from_touch i j name (inr s) c d = between.kept name (of_kept.kept name (of_seams.offered j i (standing_seam (strips_of job) j i s) name d))

  offered_row : (name : Name) (row : Row) → RowAcross job name row → Contains all name
  offered_row name row (RowAcross.lo i s) = from_strip i (Lo i) s (0, omega arith, refl)
  offered_row name row (RowAcross.hi i s) = from_strip i (Hi i) s (1, omega arith, refl)
  offered_row name row RowAcross.zero = from_first Zero zero_there
  offered_row name row RowAcross.top = from_first Top top_there
  offered_row name row (RowAcross.wide i s) = from_strip i (Wide i) s (2, omega arith, refl)
  offered_row name row (RowAcross.ll i j t _) = from_touch i j (Ll i j) t (0, omega arith, refl) (1, omega arith, refl)
  offered_row name row (RowAcross.rr i j t _) = from_touch i j (Rr i j) t (2, omega arith, refl) (3, omega arith, refl)
  offered_row name row (RowAcross.share i j t _ _) = from_touch i j (Share i j) t (4, omega arith, refl) (5, omega arith, refl)
  offered_row name row (RowAcross.gap i j k) = between.kept (Gap i j) (of_kept.offered i j k)
  offered_row name row (RowAcross.size i c) = from_strip i (Size i) c.strip (3, omega arith, refl)
  offered_row name row (RowAcross.off q i j k) = between.distances q (there_apart job q i j k.sides) (Off q i j) (IsOfDistance.off i j k)
  offered_row name row (RowAcross.inl q i h k) = between.enclosures q (there_enclose job q i h k) (Inl q i h) (IsOfEnclosure.left i h k)
  offered_row name row (RowAcross.inr q i h k) = between.enclosures q (there_enclose job q i h k) (Inr q i h) (IsOfEnclosure.right i h k)

  pub hold_all : HoldAllNames job all
  hold_all = record { every = λ name a. offered_row name a.0 a.1 }
