-- Files have one job: tables, sizes and library are told by bytes, the flat layout by these, its strips by the layout, and the job by the strips.
use Rattle.std.proofs.Common.{◌≡◌, ℕ, suc, Bool, true, false, ◌<ℤ◌, ◌≤ℤ◌, pos, negsuc, ◌-◌, ◌^◌, List, [], ◌∷◌, length, map, replicate, MatchBool, refl, ap, sym, ◌∙◌, subst}
use Rattle.std.proofs.Props.{props}
use mathlib.Core.HLevel.{is_prop→PathP}
use Rattle.gds_flat.proofs.Flattening.{one_flat}
use Rattle.gds_flat.specs.Laws.{AreAlike}
use Rattle.gds_flat.specs.Refused.{IsFlattened}
use Rattle.gds_stream.proofs.Telling.{one_library}
use Rattle.rt_layout.specs.declared.layout.Layout.{Layout}
use Rattle.rt_layout.specs.Covering.{MaskCovers}
use Rattle.rt_shapes.proofs.OneLower.{lowers_are_one_list}
use Rattle.rt_view.specs.declared.shapes.View.{View}
use Rattle.rt_view.specs.Job.{strips_of}
use Rattle.rt_view.specs.Lowers.{AreLowersOf}
use Rattle.rt_view.specs.View.{IsViewOf}
use Rattle.rt_strips.specs.declared.listing.Strip.{Strip}
use Rattle.rt_strips.specs.Channels.{IsStripCell}
use Rattle.rt_strips.specs.Placed.{Placed, placed}
use Rattle.rt_strips.specs.Standing.{IsClimbed, IsStrip}
use Rattle.rt_strips.specs.Table.{AreClimbsOf, Rows, tells}
use Rattle.rt_strips.proofs.OneList.{strips_are_one_list}
use Rattle.rt_tech.specs.declared.sizes.Wish.{Wish}
use Rattle.rt_tech.specs.declared.table.Tech.{Tech}
use Rattle.rt_tech.specs.Tech.{mask_count}
use Rattle.rt_retarget.specs.OneAnswer.{OneJob}
use Rattle.rt_retarget.proofs.Excluded.{strips_too, alike_cells}
use Rattle.rt_retarget.proofs.Readings.{one_reading}

-- a strip is told by its mask and its sides
one_strip : (s t : Strip) → placed s ≡ placed t → s ≡ t
one_strip s t e = λ i. record {
  mask = (e i).mask;
  at = record {
    x1 = (e i).area.left;
    y1 = (e i).area.bottom;
    x2 = (e i).area.right;
    y2 = (e i).area.top;
    across = is_prop→PathP (λ j. (e j).area.left <ℤ (e j).area.right) (λ j. hlevel props) s.at.across t.at.across i;
    upwards = is_prop→PathP (λ j. (e j).area.bottom <ℤ (e j).area.top) (λ j. hlevel props) s.at.upwards t.at.upwards i;
    from_left = is_prop→PathP (λ j. negsuc (2 ^ 62 - 2) ≤ℤ (e j).area.left) (λ j. hlevel props) s.at.from_left t.at.from_left i;
    to_right = is_prop→PathP (λ j. (e j).area.right ≤ℤ pos (2 ^ 62 - 1)) (λ j. hlevel props) s.at.to_right t.at.to_right i;
    from_bottom = is_prop→PathP (λ j. negsuc (2 ^ 62 - 2) ≤ℤ (e j).area.bottom) (λ j. hlevel props) s.at.from_bottom t.at.from_bottom i;
    to_top = is_prop→PathP (λ j. (e j).area.top ≤ℤ pos (2 ^ 62 - 1)) (λ j. hlevel props) s.at.to_top t.at.to_top i;
  };
}

one_list : (s t : List Strip) → map placed s ≡ map placed t → s ≡ t
one_list [] [] e = refl
one_list [] (b ∷ t) e = absurd cc
one_list (a ∷ s) [] e = absurd cc
one_list (a ∷ s) (b ∷ t) e =
    let first : placed a ≡ placed b = cc in
    let others : map placed s ≡ map placed t = cc in
    rw (one_strip a b first, one_list s t others) refl

-- a view is told by its strips and labels, and by the cells that its masks cover
one_view : (f g : Layout) → AreAlike f g → (tech : Tech) (v w : View) → IsViewOf f tech v → IsViewOf g tech w → v.strips.list ≡ w.strips.list → v.labels ≡ w.labels → v ≡ w
one_view f g alike tech v w a b list labels =
    let masks = a.strips.counted ∙ sym b.strips.counted in
    let channels = a.channels ∙ sym b.channels in
    let lowers = lowers_are_one_list tech (MaskCovers f) (MaskCovers g) (alike_cells f g alike) (map placed v.strips.list) a.strips.strips_are.nonempty v.lowers w.lowers a.lowers
    (subst (λ (s : List Strip). AreLowersOf tech (MaskCovers g) (map placed s) w.lowers) (sym list) b.lowers) in
    let kinds = a.kinds ∙ ap (λ (s : List Strip). replicate (length s) 0) list ∙ sym b.kinds in
    λ i. record { strips = record { list = list i; masks = masks i }; channels = channels i; lowers = lowers i; kinds = kinds i; labels = labels i }

-- what holds is told in one way
one_truth : (b c : Bool) (P : Type 0) → MatchBool b P (¬ P) → MatchBool c P (¬ P) → b ≡ c
one_truth true true P h k = refl
one_truth true false P h k = absurd (k h)
one_truth false true P h k = absurd (h k)
one_truth false false P h k = refl

same_climbs : (strips : List Placed) (a b : Rows) → AreClimbsOf strips a → AreClimbsOf strips b → (i j : ℕ) → IsStrip strips i → IsStrip strips j → tells a i j ≡ tells b i j
same_climbs strips a b x y i j s t =
    one_truth (tells a i j) (tells b i j) (IsClimbed strips i j) (x.exact i j s.below_count t.below_count) (y.exact i j s.below_count t.below_count)

-- lists without items are one
one_empty : (s t : List Wish) → length s ≡ 0 → length t ≡ 0 → s ≡ t
one_empty [] [] e f = refl
one_empty [] (b ∷ t) e f = absurd cc
one_empty (a ∷ s) t e f = absurd cc

pub one_job : OneJob
one_job files asked library job asked' library' job' m n =
    let read = one_reading files.stable files.ttable files.sizes job.source job.target asked job'.source job'.target asked' m.read n.read in
    let lib = one_library files.source library library' m.stream n.stream in
    let flat : IsFlattened library'.structures asked'.cell job'.source m.layout = rw (lib, read.sizes, read.source) at m.flattened in
    let alike = one_flat library'.structures asked'.cell job'.source m.layout n.layout flat n.flattened in
    let view : IsViewOf m.layout job'.source job.view = subst (λ (s : Tech). IsViewOf m.layout s job.view) read.source m.job_of.view in
    let strips = strips_are_one_list (IsStripCell n.layout job'.source) (suc (mask_count job'.source)) (strips_of job) (strips_of job')
    (strips_too m.layout n.layout alike job'.source (strips_of job) view.strips.strips_are) n.job_of.view.strips.strips_are in
    let labels = view.labels ∙ alike.labels ∙ sym n.job_of.view.labels in
    let same = one_view m.layout n.layout alike job'.source job.view job'.view view n.job_of.view (one_list job.view.strips.list job'.view.strips.list strips) labels in
    let climbs : AreClimbsOf (strips_of job) job'.climbs = subst (λ (s : List Placed). AreClimbsOf s job'.climbs) (sym strips) n.job_of.climbs in
    record {
      one_asked = read.sizes;
      one_library = lib;
      same_jobs = record {
        view = same;
        climbs = same_climbs (strips_of job) job.climbs job'.climbs m.job_of.climbs climbs;
        source = read.source;
        target = read.target;
        wishes = one_empty job.wishes job'.wishes (m.job_of.wishes ∙ ap length view.channels) (n.job_of.wishes ∙ ap length n.job_of.view.channels);
        pairs = m.job_of.no_pairs ∙ sym n.job_of.no_pairs;
      };
    }
