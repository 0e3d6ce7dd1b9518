-- Each label of a job touches a strip of its mask, and the texts of labels come one after another.
use Rattle.std.proofs.Common.{◌≡◌, ℕ, ◌+◌, ◌<◌, ℤ, inl, inr, List, [], ◌∷◌, ◌++◌, map, length, get_or, take, All, Contains, refl, sym, ap, subst, ◌∙◌, arith}
use Rattle.std.specs.List.{AllZip}
use Rattle.std.proofs.lemmas.Bool.{cases_lt}
use Rattle.std.proofs.lemmas.List.{map-append, take_all}
use Rattle.std.proofs.lemmas.List.Elements.{All-head, All-tail, All-weaker, All-contains_itself, all_zip_more}
use Rattle.std.proofs.lemmas.Option.{slice_get_within}
use Rattle.gds_stream.specs.declared.cell.Note.{Note}
use Rattle.rt_layout.specs.declared.layout.Label.{Label}
use Rattle.rt_layout.specs.Covering.{MaskCovers}
use Rattle.rt_tech.specs.declared.table.Tech.{Tech}
use Rattle.rt_tech.specs.Tech.{mask_at}
use Rattle.rt_rows.specs.declared.row.Var.{Var}
use Rattle.rt_cuts.proofs.Labels.{holds_touched}
use Rattle.rt_strips.specs.declared.listing.Strip.{Strip}
use Rattle.rt_strips.specs.Placed.{Placed, placed}
use Rattle.rt_strips.proofs.Placed.{strip_there, strip_below, strip_is}
use Rattle.rt_view.specs.declared.job.Job.{Job}
use Rattle.rt_view.specs.declared.shapes.Shape.TheVariants.{CutShape, CutUpper, CutLower, StrayLabel}
use Rattle.rt_view.specs.Job.{strips_of, IsJob}
use Rattle.rt_view.specs.Shapes.{HasNo, LabelsTouch}
use Rattle.rt_template.specs.Between.{source_area}
use Rattle.rt_template.specs.Drawing.{drawn_area}
use Rattle.rt_shapes.specs.Touching.{IsTouching}
use Rattle.rt_moved.proofs.Source.{source_alike}
use Rattle.rt_carry.specs.Texts.{pair_of_notes, note_of, label_drawn, IsNoted, AreNoted, TouchesAt, TouchesSome, IsFirstTouched, IsDrawnLabel, IsNoteOf, AreNotesOf}

-- ---- labels touch strips

module _ (job : Job) (is : IsJob job) (noted : AreNoted job.target job.view.labels) where
  -- the labels of the layout touch their masks
  touching : LabelsTouch (MaskCovers is.layout) is.layout.labels
  touching =
      let No = HasNo job.source (MaskCovers is.layout) is.layout.labels in
      All-head No StrayLabel []
      (All-tail No CutLower (StrayLabel ∷ [])
      (All-tail No CutUpper (CutLower ∷ StrayLabel ∷ []) (All-tail No CutShape (CutUpper ∷ CutLower ∷ StrayLabel ∷ []) is.job_of.view.sound.all)))

  -- so each touches a strip of its mask
  touches_some : (label : Label) → Contains job.view.labels label → IsNoted job.target label → TouchesSome (strips_of job) label
  touches_some label listed note =
      let of = is.job_of in
      let t = touching.touching label (subst (λ (labels : List Label). Contains labels label) of.view.labels listed) in
      let below : label.mask < length job.source.masks =
      subst (λ n. label.mask < n) of.same_masks (slice_get_within job.target.masks label.mask note.mask note.there) in
      let c = (source_alike job is label.mask below).from t.u t.v t.covered in
      record {
        strip = c.number;
        touches = record {
          strip = c.holds.strip;
          touches = holds_touched (source_area job c.number) label.at.0 label.at.1 t.u t.v c.holds.cell t.at;
        };
      }

  pub all_touch : All (TouchesSome (strips_of job)) job.view.labels
  all_touch k d h =
      let label = get_or job.view.labels k d in
      touches_some label (All-contains_itself job.view.labels k d h) (noted k d h)

-- ---- a strip that the code tests

-- the label touches the strip of a number
pub touches_at : (strips : List Strip) (label : Label) (i : ℕ) (strip : Strip) → i < length strips → strip ≡ get_or strips i strip
    → IsTouching (placed strip) label → TouchesAt (map placed strips) label i
touches_at strips label i strip h is t =
    let here : IsTouching _ label = subst (λ (p : Placed). IsTouching p label) (sym (strip_is strips i strip h is)) t in
    record { strip = record { below = (strip_there strips i h).below_count; of_mask = here.of_mask }; touches = here.touches }

pub touched_at : (strips : List Strip) (label : Label) (i : ℕ) (strip : Strip) → i < length strips → strip ≡ get_or strips i strip
    → TouchesAt (map placed strips) label i → IsTouching (placed strip) label
touched_at strips label i strip h is t =
    subst (λ (p : Placed). IsTouching p label) (strip_is strips i strip h is) (record { of_mask = t.strip.of_mask; touches = t.touches })

-- none of the first strips and not the next one either
pub none_more : (strips : List Strip) (label : Label) (i : ℕ) (strip : Strip) → i < length strips → strip ≡ get_or strips i strip → ¬ IsTouching (placed strip) label
    → ((k : ℕ) → k < i → ¬ TouchesAt (map placed strips) label k) → (k : ℕ) → k < i + 1 → ¬ TouchesAt (map placed strips) label k
none_more strips label i strip h is not_here none k less t =
    elim (cases_lt k i) [
      | inl l ↦ none k l t
      | inr past ↦
          let e : k ≡ i = omega arith in
          not_here (touched_at strips label i strip h is (subst (TouchesAt (map placed strips) label) e t))
    ]

-- not one of all strips: but the label touches some strip
pub some_touched : (strips : List Strip) (label : Label) (n : ℕ) → TouchesSome (map placed strips) label → n ≡ length strips
    → ((k : ℕ) → k < n → ¬ TouchesAt (map placed strips) label k) → ⊥
some_touched strips label n t e none =
    let below = strip_below strips t.strip (record { below_count = t.touches.strip.below }) in none t.strip (omega (arith, e, below)) t.touches

-- ---- texts

-- the text of a label from its parts
pub note_is : (target : Tech) (strips : List Placed) (at : Var → ℤ) (label : Label) (strip : ℕ) (layer texttype x y : ℤ) (text : List ℕ)
    → IsFirstTouched strips label strip → layer ≡ (pair_of_notes (mask_at target label.mask)).0 → texttype ≡ (pair_of_notes (mask_at target label.mask)).1
    → x ≡ (drawn_area target.grid at strip).left → y ≡ (drawn_area target.grid at strip).bottom → text ≡ label.text
    → IsNoteOf target strips at label (record { layer = layer; texttype = texttype; x = x; y = y; text = text })
note_is target strips at label strip layer texttype x y text first a b c d e = record {
  drawn = label_drawn target.grid at strip label;
  is_drawn = record { strip = strip; first_touched = first; is = refl };
  is = λ i. record { layer = a i; texttype = b i; x = c i; y = d i; text = e i };
}

-- no label has no text
pub no_notes : (target : Tech) (strips : List Placed) (at : Var → ℤ) (notes : List Note) → notes ≡ [] → AreNotesOf target strips at [] notes
no_notes target strips at notes none = record { drawn = []; are_drawn = tt; are = none }

-- the texts of the first labels and that of the next one
pub one_note_more : (target : Tech) (strips : List Placed) (at : Var → ℤ) (labels : List Label) (notes : List Note) (i : ℕ) (label : Label) (note : Note)
    → i < length labels → label ≡ get_or labels i label → AreNotesOf target strips at (take i labels) notes → IsNoteOf target strips at label note
    → AreNotesOf target strips at (take (i + 1) labels) (notes ++ note ∷ [])
one_note_more target strips at labels notes i label note h is before next = record {
  drawn = before.drawn ++ next.drawn ∷ [];
  are_drawn = all_zip_more (IsDrawnLabel target.grid strips at) labels before.drawn i label next.drawn h is before.are_drawn next.is_drawn;
  are = ap (λ ns. ns ++ note ∷ []) before.are ∙ ap (λ (n : Note). map (note_of target) before.drawn ++ n ∷ []) next.is
      ∙ sym (map-append (note_of target) before.drawn (next.drawn ∷ []));
}

-- the texts of all labels
pub all_notes : (target : Tech) (strips : List Placed) (at : Var → ℤ) (labels : List Label) (notes : List Note) (i : ℕ) → i ≡ length labels
    → AreNotesOf target strips at (take i labels) notes → AreNotesOf target strips at labels notes
all_notes target strips at labels notes i e h = subst (λ ls. AreNotesOf target strips at ls notes) (take_all i labels (omega arith)) h
