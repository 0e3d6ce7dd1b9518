-- The labels of a job: that they can be written, and that positions with the same sides draw the same texts.
use Rattle.std.proofs.Common.{◌≡◌, ℕ, ◌<◌, ◌≤◌, ℤ, Bool, true, inl, inr, List, [], ◌∷◌, length, get_or, map, All, Option, Some, None, refl, sym, ap, ◌∙◌, subst}
use Rattle.std.specs.Prelude.{slice_get, is_some, option_map}
use Rattle.std.specs.List.{AllZip}
use Rattle.std.proofs.lemmas.Bool.{cases_order}
use Rattle.std.proofs.lemmas.List.Elements.{All-map, AllZip-get_or, length_all_zip}
use Rattle.std.proofs.lemmas.Option.{slice_get-map, same_Some}
use Rattle.gds_flat_laws.proofs.Labels.{HasTextPair, CanBeWritten, labels_can_be_written}
use Rattle.gds_stream.specs.declared.cell.Flat.{Flat}
use Rattle.gds_stream.specs.declared.cell.Note.{Note}
use Rattle.gds_stream.specs.declared.library.Library.{Library}
use Rattle.gds_stream_laws.proofs.LawfulValues.{stream_is_lawful}
use Rattle.rt_carry.specs.Texts.{note_of, IsNoted, IsFirstTouched, label_drawn, IsDrawnLabel, AreNotesOf}
use Rattle.rt_cells.specs.Rectangles.{Rectangle}
use Rattle.rt_layout.specs.declared.layout.Label.{Label}
use Rattle.rt_rows.specs.declared.row.Var.{Var}
use Rattle.rt_rows.specs.declared.row.Var.TheVariants.{L, R, B, T}
use Rattle.rt_strips.specs.Placed.{Placed}
use Rattle.rt_tables.specs.Forms.{MaskForm, Form, mask_form, HaveSameForm}
use Rattle.rt_tech.specs.declared.table.Mask.{Mask}
use Rattle.rt_tech.specs.declared.table.Tech.{Tech}
use Rattle.rt_template.specs.Drawing.{drawn_area}
use Rattle.rt_view.specs.declared.job.Job.{Job}
use Rattle.rt_retarget.specs.Jobs.{AreMatched, IsReadSource, LabelsFit, IsDrawnFor, inputs_of}
use Rattle.rt_tech.specs.declared.sizes.Sizes.{Sizes}

-- ---- labels can be written

some_pair : (note : Option (ℤ × ℤ)) → is_some note ≡ true → (pair : ℤ × ℤ) × (note ≡ Some pair)
some_pair None e = absurd cc
some_pair (Some pair) e = (pair, refl)

-- a mask that has a layer and a text type for labels in a table has them in a table of the same form
noted_there : (source target : Tech) (label : Label) (mask : Mask) → is_some mask.note ≡ true → (found : Option Mask) → slice_get target.masks label.mask ≡ found
    → option_map (mask_form target) found ≡ Some (mask_form source mask) → IsNoted target label
noted_there source target label mask noted None there same = absurd cc
noted_there source target label mask noted (Some own) there same =
    let forms = same_Some (mask_form target own) (mask_form source mask) same in
    let pair = some_pair own.note (ap (λ (f : MaskForm). f.has_text) forms ∙ noted) in
    record { mask = own; there = there; pair = pair.0; noted = pair.1 }

noted_too : (source target : Tech) → HaveSameForm source target → (label : Label) → HasTextPair source.masks label.mask → IsNoted target label
noted_too source target same label has =
    let forms : map (mask_form target) target.masks ≡ map (mask_form source) source.masks = sym (ap (λ (f : Form). f.masks) same.same) in
    noted_there source target label has.mask (ap is_some has.noted) (slice_get target.masks label.mask) refl
    (sym (slice_get-map (mask_form target) target.masks label.mask) ∙ ap (λ (fs : List MaskForm). slice_get fs label.mask) forms
    ∙ slice_get-map (mask_form source) source.masks label.mask ∙ ap (option_map (mask_form source)) has.there)

-- the labels of a job whose source was read
pub labels_fit : (source : List ℕ) (asked : Sizes) (library : Library) (job : Job) → AreMatched job.source job.target
    → IsReadSource source (inputs_of job asked) library job.view → LabelsFit job
labels_fit source asked library job matched is =
    let can : All (CanBeWritten job.source.masks) job.view.labels =
    subst (All (CanBeWritten job.source.masks)) (sym is.cell.is_view.labels)
    (labels_can_be_written library.structures asked.cell job.source is.cell.layout (stream_is_lawful source library is.stream).structures is.cell.flattened) in
    record {
      noted = λ i d below. noted_too job.source job.target matched.same_form (get_or job.view.labels i d) (can i d below).on_mask;
      short = λ i d below. (can i d below).short;
    }

-- ---- drawn labels

-- a label is drawn with its words
pub same_names : (grid : ℤ) (strips : List Placed) (at : Var → ℤ) (labels drawn : List Label) → AllZip (IsDrawnLabel grid strips at) labels drawn
    → map (λ (label : Label). label.text) labels ≡ map (λ (label : Label). label.text) drawn
same_names grid strips at [] [] zip = refl
same_names grid strips at [] (d ∷ drawn) zip = absurd zip
same_names grid strips at (l ∷ labels) [] zip = absurd zip
same_names grid strips at (l ∷ labels) (d ∷ drawn) zip =
    let here : l.text ≡ d.text = sym (ap (λ (label : Label). label.text) zip.0.is) in
    rw (here, same_names grid strips at labels drawn zip.1) refl

-- the texts of a drawing fit a record
pub texts_short : (job : Job) (library_name cell : List ℕ) (flat : Flat) → LabelsFit job → IsDrawnFor job library_name cell flat
    → All (λ (n : Note). length n.text ≤ 65530) flat.texts
texts_short job library_name cell flat fit d =
    let Short : Note → Type 0 = λ n. length n.text ≤ 65530 in
    let texts = d.drawing.texts in
    let labels = job.view.labels in
    let zip = texts.are_drawn in
    subst (All Short) (sym texts.are)
    (All-map Short (note_of job.target) texts.drawn (λ i x below.
    let there : i < length labels = subst (λ n. i < n) (sym (length_all_zip _ labels texts.drawn zip)) below in
    subst (λ (l : Label). length l.text ≤ 65530) (sym (AllZip-get_or _ labels texts.drawn i x x zip there).is) (fit.short i x there)))

-- ---- one drawing: it depends on the sides of the strips alone

-- positions have the same sides of a strip
pub record HasSides (at other : Var → ℤ) (i : ℕ) : Type 0 where
  pub left : at (L i) ≡ other (L i)
  pub right : at (R i) ≡ other (R i)
  pub bottom : at (B i) ≡ other (B i)
  pub top_side : at (T i) ≡ other (T i)

pub one_area : (grid : ℤ) (at other : Var → ℤ) (i : ℕ) → HasSides at other i → drawn_area grid at i ≡ drawn_area grid other i
one_area grid at other i s = rw (s.left, s.right, s.bottom, s.top_side) refl

-- one strip is the first that a label touches
one_first : (strips : List Placed) (label : Label) (f g : ℕ) → IsFirstTouched strips label f → IsFirstTouched strips label g → f ≡ g
one_first strips label f g a b =
    elim (cases_order f g) [
      | inl same ↦ same
      | inr (inl before) ↦ absurd (b.first f before a.touches)
      | inr (inr behind) ↦ absurd (a.first g behind b.touches)
    ]

-- the label at the lower left corner of a rectangle
abbrev corner_of : Label → Rectangle → Label
corner_of label r = record { mask = label.mask; at = (r.left, r.bottom); text = label.text }

module _ (target : Tech) (strips : List Placed) (at other : Var → ℤ) (sides : (i : ℕ) → i < length strips → HasSides at other i) where
  one_label : (label a b : Label) → IsDrawnLabel target.grid strips at label a → IsDrawnLabel target.grid strips other label b → a ≡ b
  one_label label a b x y =
      let area = one_area target.grid at other x.strip (sides x.strip x.first_touched.touches.strip.below) in
      x.is ∙ ap (λ (r : Rectangle). corner_of label r) area ∙ ap (λ f. label_drawn target.grid other f label) (one_first strips label x.strip y.strip x.first_touched y.first_touched) ∙ sym y.is

  one_list : (labels a b : List Label) → AllZip (IsDrawnLabel target.grid strips at) labels a → AllZip (IsDrawnLabel target.grid strips other) labels b → a ≡ b
  one_list [] [] [] x y = refl
  one_list [] [] (b ∷ bs) x y = absurd y
  one_list [] (a ∷ rest) b x y = absurd x
  one_list (l ∷ labels) [] b x y = absurd x
  one_list (l ∷ labels) (a ∷ rest) [] x y = absurd y
  one_list (l ∷ labels) (a ∷ rest) (b ∷ bs) x y = rw (one_label l a b x.0 y.0, one_list labels rest bs x.1 y.1) refl

  pub same_texts : (labels : List Label) (a b : List Note) → AreNotesOf target strips at labels a → AreNotesOf target strips other labels b → a ≡ b
  same_texts labels a b x y = x.are ∙ ap (map (note_of target)) (one_list labels x.drawn y.drawn x.are_drawn y.are_drawn) ∙ sym y.are
