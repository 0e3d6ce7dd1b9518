-- The public laws, from the lemmas over any strips.
use Rattle.std.proofs.Common.{ℕ, ℤ, ◌*ℤ◌}
use Rattle.rt_cells.specs.Rectangles.{Rectangle}
use Rattle.rt_family.specs.Strips.{StandsOn}
use Rattle.rt_family.specs.Laws.{IsOfMask}
use Rattle.rt_family.proofs.Drawn.{drawn_family}
use Rattle.rt_family.proofs.Scaled.{scaled_carried}
use Rattle.rt_cuts.specs.Laws
use Rattle.rt_cuts.specs.Laws.{IsCarriedCut, LiesElsewhere, KeepsCutOn}
use Rattle.rt_cuts.proofs.Pieces.{none_stands, none_stands_drawn, strip_is_piece, size_kept}
use Rattle.rt_cuts.proofs.Inside.{enclosed_drawn}
use Rattle.rt_cuts.proofs.Clear.{apart_drawn}
use Rattle.rt_cuts.proofs.Lower as low
use Rattle.rt_cuts.proofs.Scaled.{scaled_square, scaled_inside, scaled_clear, scaled_lower}
use Rattle.rt_cuts.proofs.Labels.{covered_or_not, label_source_cell, label_drawn_cell}

-- no strip of a cut stands on another
cut_stands_on_none : (count : ℕ) (mask : ℕ → ℕ) (m : ℕ) (source drawn : ℕ → Rectangle) (width : ℤ) (space : ℕ → ℕ → ℤ)
    → IsCarriedCut count mask m source drawn width space → (i j : ℕ) → StandsOn (IsOfMask count mask m) source i j → ⊥
cut_stands_on_none count mask m source drawn width space cut =
    none_stands (IsOfMask count mask m) source cut.carried.family cut.rectangles cut.unstacked

pub cut_pieces_are_strips : Laws.CutPiecesAreStrips
cut_pieces_are_strips count mask m source drawn width space cut i strip =
    let member = IsOfMask count mask m in
    let none = cut_stands_on_none count mask m source drawn width space cut in (
      strip_is_piece member source cut.carried.family none i strip,
      strip_is_piece member drawn (drawn_family member source drawn width space cut.carried) (none_stands_drawn member source drawn width space cut.carried none) i strip,
    )

pub cut_keeps_size : Laws.CutKeepsSize
cut_keeps_size count mask m source drawn width space cut size sized =
    size_kept (IsOfMask count mask m) source drawn width space cut.carried (cut_stands_on_none count mask m source drawn width space cut) size sized

pub hosts_keep_enclosure : Laws.HostsKeepEnclosure
hosts_keep_enclosure count mask m n source drawn width space carried full near number some kept enclosed =
    enclosed_drawn (IsOfMask count mask m) (IsOfMask count mask n) source drawn width space carried near number some kept full enclosed

pub masks_keep_distance : Laws.MasksKeepDistance
masks_keep_distance count mask m n source drawn full full' near clear some kept apart =
    apart_drawn (IsOfMask count mask m) (IsOfMask count mask n) source drawn near clear some kept full full' apart

module _ (count : ℕ) (mask : ℕ → ℕ) (m l : ℕ) (lower : ℕ → ℕ) (source drawn : ℕ → Rectangle) (near number reach clear : ℤ)
    (kept : KeepsCutOn count mask m l lower source drawn near number reach clear) where
  none_of : (i j : ℕ) → StandsOn (IsOfMask count mask m) source i j → ⊥
  none_of = cut_stands_on_none count mask m source drawn kept.width kept.space kept.cut

  lies_drawn_of : (i : ℕ) → Laws.LiesInMask count mask m l source i → Laws.LiesInMask count mask m l drawn i
  lies_drawn_of =
      low.lies_drawn (IsOfMask count mask m) (IsOfMask count mask l) (LiesElsewhere count mask m l lower) source drawn kept.width kept.space kept.cut.carried
      none_of kept.lower_width kept.lower_space kept.lower_mask near number reach clear kept.kept

  lies_source_of : (i : ℕ) → Laws.LiesInMask count mask m l drawn i → Laws.LiesInMask count mask m l source i
  lies_source_of =
      low.lies_source (IsOfMask count mask m) (IsOfMask count mask l) (LiesElsewhere count mask m l lower) source drawn kept.width kept.space kept.cut.carried
      none_of kept.lower_width kept.lower_space kept.lower_mask near number reach clear kept.kept

pub cut_keeps_lower_mask : Laws.CutKeepsLowerMask
cut_keeps_lower_mask count mask m l lower source drawn near number reach clear kept i = (
  λ lies. lies_drawn_of count mask m l lower source drawn near number reach clear kept i lies,
  λ lies. lies_source_of count mask m l lower source drawn near number reach clear kept i lies,
)

pub cut_keeps_enclosure : Laws.CutKeepsEnclosure
cut_keeps_enclosure count mask m l lower source drawn near number reach clear kept =
    low.on_enclosed (IsOfMask count mask m) (IsOfMask count mask l) (LiesElsewhere count mask m l lower) source drawn kept.width kept.space kept.cut.carried
    (none_of count mask m l lower source drawn near number reach clear kept) kept.lower_width kept.lower_space kept.lower_mask near number reach clear kept.kept

pub cut_keeps_distance : Laws.CutKeepsDistance
cut_keeps_distance count mask m l n lower source drawn near number reach clear kept full far drawn_far some clear_of apart =
    low.on_apart (IsOfMask count mask m) (IsOfMask count mask l) (LiesElsewhere count mask m l lower) source drawn kept.width kept.space kept.cut.carried
    (none_of count mask m l lower source drawn near number reach clear kept) kept.lower_width kept.lower_space kept.lower_mask near number reach clear kept.kept
    (IsOfMask count mask n) full far drawn_far some clear_of apart

pub scaling_keeps_squares : Laws.ScalingKeepsSquares
scaling_keeps_squares grid size r some square = scaled_square grid some size r square

pub scaling_keeps_hosts : Laws.ScalingKeepsHosts
scaling_keeps_hosts count mask m n source drawn near number grid some kept =
    scaled_inside grid some (IsOfMask count mask m) (IsOfMask count mask n) source drawn near number kept

pub scaling_keeps_distances : Laws.ScalingKeepsDistances
scaling_keeps_distances count mask m n source drawn near clear grid some kept =
    scaled_clear grid some (IsOfMask count mask m) (IsOfMask count mask n) source drawn near clear kept

pub scaling_keeps_cuts : Laws.ScalingKeepsCuts
scaling_keeps_cuts count mask m l lower source drawn near number reach clear grid some kept = record {
  width = grid *ℤ kept.width;
  space = λ i j. grid *ℤ kept.space i j;
  cut = record {
    carried = scaled_carried grid some (IsOfMask count mask m) source drawn kept.width kept.space kept.cut.carried;
    rectangles = kept.cut.rectangles;
    unstacked = kept.cut.unstacked;
  };
  lower_width = grid *ℤ kept.lower_width;
  lower_space = λ i j. grid *ℤ kept.lower_space i j;
  lower_mask = scaled_carried grid some (IsOfMask count mask l) source drawn kept.lower_width kept.lower_space kept.lower_mask;
  kept = scaled_lower grid some (IsOfMask count mask m) (IsOfMask count mask l) (LiesElsewhere count mask m l lower) source drawn near number reach clear kept.kept;
}

pub label_keeps_piece : Laws.LabelKeepsPiece
label_keeps_piece count mask m source drawn width space carried corners f x y touching =
    let member = IsOfMask count mask m in (
      label_source_cell member source carried.family (covered_or_not count mask m source) corners f x y touching,
      label_drawn_cell member source drawn width space carried (covered_or_not count mask m drawn) f touching.strip,
    )
