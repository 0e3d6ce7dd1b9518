-- From the job of the files, and what is written for it, to the relation of the headline; or to that it has no positions.
use Rattle.std.proofs.Common.{◌≡◌, ℕ, ◌+◌, ◌<◌, ◌≤◌, ◌^◌, List, [], length, map, AllPairs, ap, ◌∙◌, sym, subst, arith}
use Rattle.std.proofs.lemmas.List.Elements.{recursion_from_All}
use Rattle.rt_base.specs.declared.plane.Axis.{Axis}
use Rattle.rt_cells.specs.Rectangles.{IsNonempty}
use Rattle.gds_stream.specs.declared.library.Library.{Library}
use Rattle.rt_view.specs.declared.job.Job.{Job}
use Rattle.rt_view.specs.Job.{strips_of, Whole, IsJob, IsJobOf}
use Rattle.rt_strips.specs.Placed.{placed}
use Rattle.rt_strips.specs.Table.{AreClimbsOf}
use Rattle.rt_place.specs.Placing.{NoneMeetOf}
use Rattle.rt_carry.specs.Texts.{IsNoted, AreNoted}
use Rattle.rt_template.specs.Drawing.{drawn_area}
use Rattle.rt_moved.proofs.Source.{on_target}
use Rattle.rt_moved.proofs.Extents.{moved_fits}
use Rattle.rt_moved.proofs.Clean.{moved_breaks_no_rule}
use Rattle.rt_written.specs.Written.{IsWrittenAs}
use Rattle.rt_written.proofs.ReadBack.{stream_reads_back, layout_keeps_rules}
use Rattle.rt_retarget.specs.declared.source.TheConstants.{STRIP_LIMIT}
use Rattle.rt_retarget.specs.Files.{Given}
use Rattle.rt_retarget.specs.Moved.{IsMovedJob, Moved, IsMovedOut, drawing_of}
use Rattle.rt_retarget.specs.Answers.{IsDone, IsInfeasible}
use Rattle.rt_retarget.specs.Jobs.{AreMatched, IsReadSource, IsJobOfFiles, LabelsFit, IsWrittenFor, inputs_of}
use Rattle.rt_tech.specs.declared.sizes.Sizes.{Sizes}
use Rattle.rt_tech.specs.Tech.{DoNotClash}
use Rattle.rt_retarget.specs.declared.inputs.Inputs.{Inputs}
use Rattle.rt_retarget.proofs.OneForm.{speak_of_the_same}
use Rattle.rt_retarget.proofs.Assembled.{matched, wished, few_placed}
use Rattle.rt_retarget.proofs.Nets.{keeps_nets}
use Rattle.rt_retarget.proofs.Texts.{labels_fit}
use Rattle.rt_retarget.proofs.Flattened.{drawn_noted, drawn_layout, drawables}

from_zero : (i : ℕ) → i ≡ 0 + i
from_zero i = omega arith

few_numbered : (n : ℕ) → n ≤ STRIP_LIMIT → n < 2 ^ 32
few_numbered n h = omega (arith, h)

-- the job of a source that was read
pub is_job : (source : List ℕ) (inputs : Inputs) (library : Library) (job : Job) → AreMatched inputs.tables.source inputs.tables.target
    → (is : IsReadSource source inputs library job.view) → AreClimbsOf (strips_of job) job.climbs → job.source ≡ inputs.tables.source
    → job.target ≡ inputs.tables.target → job.wishes ≡ [] → job.pairs ≡ [] → IsJobOf is.cell.layout job
is_job source inputs library job matched is climbs s t wishes pairs = record {
  view = rw s is.cell.is_view;
  few = few_numbered _ is.cell.few;
  climbs = climbs;
  source = rw s matched.source.measured;
  target = rw t matched.target.measured;
  source_pairs = rw s matched.source.pairs;
  target_pairs = rw t matched.target.pairs;
  same_masks = rw (s, t) (sym matched.same_masks);
  sound_source = Whole.whole (record {
    valid = rw s matched.source.valid;
    same_form = rw (s, t) (speak_of_the_same inputs.tables.source inputs.tables.target matched.source.valid matched.target.valid matched.same_form);
    wiring = rw s is.built.wiring;
    clean = rw s is.cell.clean;
  });
  wishes = ap length wishes ∙ sym (ap length is.cell.is_view.channels);
  no_pairs = pairs;
}

-- what is written for a job is its drawing, read back, and clean
moved_out : (job : Job) (library : Library) (cell : List ℕ) (bytes : List ℕ) → IsJob job → AllPairs DoNotClash job.target.masks
    → AreNoted job.target job.view.labels → (written : IsWrittenFor job library.name cell bytes) → IsMovedOut bytes cell library job written.drawn.at
moved_out job library cell bytes is apart noted w =
    let at = w.drawn.at in
    let drawing = w.drawn.drawing in
    let across = w.drawn.across.extent.meets in
    let upwards = w.drawn.upwards.extent.meets in
    let fits = moved_fits job is at across upwards in
    let drawable = drawables job.target job.target.grid at 0 (strips_of job)
    (λ i h. on_target job is i (record { below_count = h }))
    (λ i h. subst (λ (k : ℕ). IsNonempty (drawn_area job.target.grid at k)) (from_zero i) (fits.strips i (record { below_count = h })).nonempty) in
    let labels = drawing.texts.drawn in
    let on_masks = drawn_noted job.target job.target.grid (strips_of job) at job.view.labels labels drawing.texts.are_drawn
    (recursion_from_All (IsNoted job.target) job.view.labels noted) in
    let written = subst (λ (name : List ℕ). IsWrittenAs job.target w.library name (drawing_of job at) labels) drawing.named
    (drawn_layout job.target w.library w.flat (drawing_of job at) labels w.one_cell apart drawing.shapes drawing.texts.are drawable on_masks) in
    let back = stream_reads_back job.target bytes w.library cell (drawing_of job at) labels is.job_of.target w.stream written in
    record {
      cell = w.flat;
      drawing = drawing;
      bytes = w.exact;
      moved = w.library;
      stream = w.stream;
      library_name = ap (λ (l : Library). l.name) w.one_cell.is_library ∙ drawing.in_library;
      units = ap (λ (l : Library). l.units) w.one_cell.is_library ∙ drawing.units;
      layout = back.layout;
      read_back = back.flat;
      is_drawing = back.is;
      clean = layout_keeps_rules job.target.grid job.target is.job_of.target_pairs (drawing_of job at) labels back.layout (moved_breaks_no_rule job is at across upwards) back.is;
    }

module _ (files : Given) (library : Library) (asked : Sizes) (job : Job) (is : IsJobOfFiles files library asked job) where
  -- it is the job of moving some layout
  pub a_job : IsJob job
  a_job = record { layout = is.source_read.cell.layout; job_of = is.job_of }

  pub few_strips : length (strips_of job) ≤ STRIP_LIMIT
  few_strips = few_placed job.view.strips.list is.source_read.cell.few

  -- what is moved
  moved_job : IsMovedJob files asked library job
  moved_job = record {
    read = is.read.files_are;
    stream = is.source_read.stream;
    layout = is.source_read.cell.layout;
    flattened = is.source_read.cell.flattened;
    sound = is.source_read.cell.clean;
    job_of = is.job_of;
  }

  tables : AreMatched job.source job.target
  tables = matched files (inputs_of job asked) is.read

  -- its labels can be written
  pub fitting : LabelsFit job
  fitting = labels_fit files.source asked library job tables is.source_read

  -- a run that ends well
  pub done : (out bytes : List ℕ) → IsWrittenFor job library.name asked.cell bytes → out ≡ bytes → IsDone files out
  unfolding moved_job
  done out bytes w same = let to = moved_out job library asked.cell bytes a_job tables.target.valid.apart fitting.noted w in record {
    inputs = inputs_of job asked;
    library = library;
    layout = is.source_read.cell.layout;
    strips = map placed job.view.strips.list;
    wished = wished files (inputs_of job asked) library job.view is.read is.source_read;
    moved = subst (Moved files) (sym same) (record {
      asked = asked;
      library = library;
      job = job;
      at = w.drawn.at;
      from = moved_job;
      across = w.drawn.across;
      upwards = w.drawn.upwards;
      to = to;
      keeps_nets = keeps_nets is.source_read.cell.layout job is.job_of w.drawn.at w.drawn.across.extent.meets w.drawn.upwards.extent.meets to.drawing.texts.drawn
          to.drawing.texts.are_drawn to.layout to.is_drawing;
    });
  }

  -- a job that has no positions
  pub infeasible : (axis : Axis) → NoneMeetOf job axis → IsInfeasible files axis
  infeasible axis none = record {
    inputs = inputs_of job asked;
    library = library;
    layout = is.source_read.cell.layout;
    strips = map placed job.view.strips.list;
    wished = wished files (inputs_of job asked) library job.view is.read is.source_read;
    job = job;
    from = moved_job;
    none_meet = none;
  }
