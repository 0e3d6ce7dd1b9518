-- What is promised of the nets of positions that meet both templates.
use Rattle.std.specs.Prelude.{◌≡◌, ℕ, ℤ, ◌↔◌, List, length, slice_get, Some}
use Rattle.rt_cells.specs.Rectangles.{Holds}
use Rattle.rt_layout.specs.declared.layout.Label.{Label}
use Rattle.rt_layout.specs.declared.layout.Layout.{Layout}
use Rattle.rt_layout.specs.Covering.{MaskCovers}
use Rattle.rt_tech.specs.declared.table.Role.TheVariants.{Metal}
use Rattle.rt_cuts.specs.Labels.{TouchesStrip}
use Rattle.rt_strips.specs.Channels.{IsOfRole}
use Rattle.rt_strips.specs.Placed.{covered_by}
use Rattle.rt_links.specs.Wires.{Spot}
use Rattle.rt_view.specs.declared.job.Job.{Job}
use Rattle.rt_view.specs.Job.{strips_of, IsJobOf}
use Rattle.rt_netlist.specs.Nets.{AreOnNet}
use Rattle.rt_netlist.specs.Labels.{Extracts}
use Rattle.rt_rows.specs.declared.row.Var.{Var}
use Rattle.rt_template.specs.Between.{IsStripOf, source_area}
use Rattle.rt_template.specs.Drawing.{drawn_area, drawn}
use Rattle.rt_template.specs.Horizontal.{MeetsAcross}
use Rattle.rt_template.specs.Vertical.{MeetsUpwards}

module _ (job : Job) (at : Var → ℤ) where
  -- what each mask of the drawing covers, in database units
  abbrev pub drawing : ℕ → ℤ → ℤ → Type 0
  drawing m = covered_by m (drawn job.target.grid at (strips_of job))

  -- a spot of the source and a spot of the drawing are of one strip of a metal
  pub record AreOfOneStrip (p r : Spot) : Type 0 where
    pub metal : IsOfRole job.source Metal p.mask
    pub one_mask : r.mask ≡ p.mask
    pub strip : ℕ
    pub of_mask : IsStripOf job p.mask strip
    pub in_source : Holds (source_area job strip) p.x p.y
    pub in_drawing : Holds (drawn_area job.target.grid at strip) r.x r.y

  -- a label of the source is drawn at the lower left corner of a strip of its mask that it touches
  pub record IsDrawnAtStrip (label moved : Label) : Type 0 where
    pub one_mask : moved.mask ≡ label.mask
    pub strip : ℕ
    pub touches : TouchesStrip (IsStripOf job label.mask) (source_area job) label.at.0 label.at.1 strip
    pub left : moved.at.0 ≡ (drawn_area job.target.grid at strip).left
    pub bottom : moved.at.1 ≡ (drawn_area job.target.grid at strip).bottom

  -- all labels of the source are drawn so, in order
  pub record AreDrawnAtStrips (labels moved : List Label) : Type 0 where
    pub counted : length labels ≡ length moved
    pub each : (a : ℕ) (label other : Label) → slice_get labels a ≡ Some label → slice_get moved a ≡ Some other → IsDrawnAtStrip label other

-- spots of two strips are of one net in the source exactly where spots of these strips are in the drawing
abbrev pub MovedKeepsNets : Type 0
MovedKeepsNets = (layout : Layout) (job : Job) → IsJobOf layout job → (at : Var → ℤ) → MeetsAcross job at → MeetsUpwards job at at
    → (p q r t : Spot) → AreOfOneStrip job at p r → AreOfOneStrip job at q t
    → AreOnNet job.source (MaskCovers layout) p q ↔ AreOnNet job.target (drawing job at) r t

-- the labels of the drawing have the numbers of the source's labels
abbrev pub MovedKeepsNumbers : Type 0
MovedKeepsNumbers = (layout : Layout) (job : Job) → IsJobOf layout job → (at : Var → ℤ) → MeetsAcross job at → MeetsUpwards job at at
    → (labels moved : List Label) → AreDrawnAtStrips job at labels moved → (numbers : List ℕ)
    → Extracts job.source (MaskCovers layout) labels numbers ↔ Extracts job.target (drawing job at) moved numbers
