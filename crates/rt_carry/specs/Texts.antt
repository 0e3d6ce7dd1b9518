-- The texts that a cell has for labels. A label is drawn at the lower left corner of the drawing of the first strip that it touches.
use Rattle.std.specs.Prelude.{◌≡◌, ℕ, ◌<◌, ℤ, pos, List, length, map, Option, Some, None, unwrap_or, All}
use Rattle.std.specs.List.{AllZip}
use Rattle.gds_stream.specs.declared.cell.Note.{Note}
use Rattle.rt_cells.specs.Rectangles.{Rectangle}
use Rattle.rt_layout.specs.declared.layout.Label.{Label}
use Rattle.rt_tech.specs.declared.table.Mask.{Mask}
use Rattle.rt_tech.specs.declared.table.Tech.{Tech}
use Rattle.rt_tech.specs.Tech.{mask_at}
use Rattle.rt_rows.specs.declared.row.Var.{Var}
use Rattle.rt_strips.specs.Placed.{Placed, strip_at, mask_of}
use Rattle.rt_family.specs.Laws.{IsOfMask}
use Rattle.rt_cuts.specs.Labels.{TouchesStrip}
use Rattle.rt_template.specs.Drawing.{drawn_area}

-- the layer and the text type of a mask's labels, and zeros where it has none
abbrev pub pair_of_notes : Option Mask → ℤ × ℤ
pair_of_notes (Some mask) = unwrap_or mask.note (pos 0, pos 0)
pair_of_notes None = (pos 0, pos 0)

-- a label as a text, on the layer and with the text type of its mask's labels in the table
abbrev pub note_of : Tech → Label → Note
note_of tech label = record {
  layer = (pair_of_notes (mask_at tech label.mask)).0;
  texttype = (pair_of_notes (mask_at tech label.mask)).1;
  x = label.at.0;
  y = label.at.1;
  text = label.text;
}

-- the table has a layer and a text type for labels of the label's mask
pub record IsNoted (tech : Tech) (label : Label) : Type 0 where
  pub mask : Mask
  pub there : mask_at tech label.mask ≡ Some mask
  pub pair : ℤ × ℤ
  pub noted : mask.note ≡ Some pair

-- it has them for each label
abbrev pub AreNoted : Tech → List Label → Type 0
AreNoted tech labels = All (IsNoted tech) labels

module _ (strips : List Placed) where
  -- the label touches strip f of its mask
  abbrev pub TouchesAt : Label → ℕ → Type 0
  TouchesAt label f = TouchesStrip (IsOfMask (length strips) (mask_of strips) label.mask) (λ i. (strip_at strips i).area) label.at.0 label.at.1 f

  -- the label touches some strip of its mask
  pub record TouchesSome (label : Label) : Type 0 where
    pub strip : ℕ
    pub touches : TouchesAt label strip

  -- strip f is the first strip of its mask that the label touches
  pub record IsFirstTouched (label : Label) (f : ℕ) : Type 0 where
    pub touches : TouchesAt label f
    pub first : (i : ℕ) → i < f → ¬ TouchesAt label i

-- the label at the lower left corner of the drawing of strip f, on its mask and with its text
abbrev pub label_drawn : ℤ → (Var → ℤ) → ℕ → Label → Label
label_drawn grid at f label = record { mask = label.mask; at = ((drawn_area grid at f).left, (drawn_area grid at f).bottom); text = label.text }

-- the label as it is drawn: at the first strip that it touches
pub record IsDrawnLabel (grid : ℤ) (strips : List Placed) (at : Var → ℤ) (label drawn : Label) : Type 0 where
  pub strip : ℕ
  pub first_touched : IsFirstTouched strips label strip
  pub is : drawn ≡ label_drawn grid at strip label

-- the text of a label as it is drawn
pub record IsNoteOf (target : Tech) (strips : List Placed) (at : Var → ℤ) (label : Label) (note : Note) : Type 0 where
  pub drawn : Label
  pub is_drawn : IsDrawnLabel target.grid strips at label drawn
  pub is : note ≡ note_of target drawn

-- the texts of labels: the labels as they are drawn, one by one, as texts in order
pub record AreNotesOf (target : Tech) (strips : List Placed) (at : Var → ℤ) (labels : List Label) (notes : List Note) : Type 0 where
  pub drawn : List Label
  pub are_drawn : AllZip (IsDrawnLabel target.grid strips at) labels drawn
  pub are : notes ≡ map (note_of target) drawn
