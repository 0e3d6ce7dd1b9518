-- The relation of the headline: the written bytes are the source, moved to the target's rules, with its nets and labels, and least.
use Rattle.std.specs.Prelude.{◌≡◌, ◌↔◌, ℕ, ℤ, pos, List, map}
use Rattle.gds_flat.specs.Items.{Flat as IsFlatOf}
use Rattle.gds_flat.specs.Refused.{IsFlattened}
use Rattle.gds_stream.specs.declared.library.Library.{Library}
use Rattle.gds_stream.specs.declared.cell.Flat.{Flat}
use Rattle.gds_stream.specs.Contents.{Stream}
use Rattle.gds_stream.specs.Written.{written}
use Rattle.rt_carry.specs.Drawings.{IsDrawingOf}
use Rattle.rt_layout.specs.declared.layout.Label.{Label}
use Rattle.rt_layout.specs.declared.layout.Layout.{Layout}
use Rattle.rt_layout.specs.Covering.{MaskCovers}
use Rattle.rt_view.specs.declared.job.Job.{Job}
use Rattle.rt_view.specs.Job.{strips_of, IsJobOf}
use Rattle.rt_links.specs.Wires.{Spot}
use Rattle.rt_netlist.specs.Nets.{AreOnNet}
use Rattle.rt_netlist.specs.Labels.{Extracts}
use Rattle.rt_netlist_laws.specs.Laws.{AreOfOneStrip}
use Rattle.rt_rows.specs.declared.row.Var.{Var}
use Rattle.rt_rules.specs.Rules.{BreaksNoRule}
use Rattle.rt_strips.specs.Placed.{Placed}
use Rattle.rt_tech.specs.declared.sizes.Sizes.{Sizes}
use Rattle.rt_template.specs.Horizontal.{IsLeastAcross}
use Rattle.rt_template.specs.Vertical.{IsLeastUpwards}
use Rattle.rt_template.specs.Drawing.{drawn}
use Rattle.rt_written.specs.ReadBack.{IsLayoutOf}
use Rattle.rt_retarget.specs.Files.{Given, AreFiles}

-- the strips of the job at the positions, in database units of the target
abbrev pub drawing_of : Job → (Var → ℤ) → List Placed
drawing_of job at = drawn job.target.grid at (strips_of job)

-- what is moved: the tables and the sizes file are valid, the source is a stream whose cell is flattened to a layout that breaks no source rule,
-- and the job is that of moving the layout, with both tables
pub record IsMovedJob (files : Given) (asked : Sizes) (library : Library) (job : Job) : Type 0 where
  pub read : AreFiles files.stable files.ttable files.sizes job.source job.target asked
  pub stream : Stream files.source library
  pub layout : Layout
  pub flattened : IsFlattened library.structures asked.cell job.source layout
  pub sound : BreaksNoRule (pos 1) job.source (MaskCovers layout)
  pub job_of : IsJobOf layout job

-- what is written: the bytes of the drawn cell, a stream; flattened by the target's table it is a layout of just the drawing's rectangles,
-- by mask and in order, and just its labels, in order, which breaks no target rule
pub record IsMovedOut (out name : List ℕ) (library : Library) (job : Job) (at : Var → ℤ) : Type 0 where
  pub cell : Flat
  pub drawing : IsDrawingOf job at library.name name cell
  pub bytes : out ≡ written cell
  pub moved : Library
  pub stream : Stream out moved
  pub library_name : moved.name ≡ library.name
  pub units : moved.units ≡ job.target.units
  pub layout : Layout
  pub read_back : IsFlatOf moved.structures job.target name layout
  pub is_drawing : IsLayoutOf job.target (drawing_of job at) drawing.texts.drawn layout
  pub clean : BreaksNoRule job.target.grid job.target (MaskCovers layout)

-- the one layout has the netlist of the other: spots of two strips are of one net in the one exactly where spots of these strips are in the other,
-- and labels have the same names and the same numbers of nets, in order
pub record KeepsNets (job : Job) (at : Var → ℤ) (old new : Layout) : Type 0 where
  pub nets : (p q r t : Spot) → AreOfOneStrip job at p r → AreOfOneStrip job at q t
      → AreOnNet job.source (MaskCovers old) p q ↔ AreOnNet job.target (MaskCovers new) r t
  pub names : map (λ (label : Label). label.text) old.labels ≡ map (λ (label : Label). label.text) new.labels
  pub numbers : (numbers : List ℕ) → Extracts job.source (MaskCovers old) old.labels numbers ↔ Extracts job.target (MaskCovers new) new.labels numbers

-- the bytes of out are the source, moved: its strips at the least positions that meet both templates, with its nets and labels
pub record Moved (files : Given) (out : List ℕ) : Type 0 where
  pub asked : Sizes
  pub library : Library
  pub job : Job
  pub at : Var → ℤ
  pub from : IsMovedJob files asked library job
  pub across : IsLeastAcross job at
  pub upwards : IsLeastUpwards job at at
  pub to : IsMovedOut out asked.cell library job at
  pub keeps_nets : KeepsNets job at from.layout to.layout
