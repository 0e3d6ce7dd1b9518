-- The public laws, from the lemmas over any strips.
use Rattle.std.proofs.Common.{◌≡◌, ℕ, ◌<◌, ◌⊎◌, arith, inl, inr}
use Rattle.rt_cells.specs.Rectangles.{Covers}
use Rattle.rt_family.specs.Strips.{IsListed}
use Rattle.rt_family.specs.Laws
use Rattle.rt_family.specs.Laws.{IsOfMask, IsNumber}
use Rattle.rt_family.proofs.Finite.{OrNot, both_or_not, decided_as}
use Rattle.rt_family.proofs.Source.{family_of_runs}
use Rattle.rt_family.proofs.Chains.{has_hosts}
use Rattle.rt_family.proofs.Rows as rows
use Rattle.rt_family.proofs.Untouched.{untouched_carried, untouched_columns}
use Rattle.rt_family.proofs.Drawn.{pieces_joined, pieces_connected}
use Rattle.rt_family.proofs.Rules.{carried_width, carried_space, carried_pieces, carried_notch_of_rows, carried_notch_of_columns}
use Rattle.rt_family.proofs.Hosted.{drawn_hosts_cover, clear_apart}
use Rattle.rt_family.proofs.Scaled.{scaled_carried, scaled_columns}
use Rattle.rt_rules.proofs.Alike.{width_alike, space_alike}
use Rattle.rt_family.proofs.Alike.{covers_alike}

one_number : (a b : ℕ) → (a ≡ b) ⊎ ((a < b) ⊎ (b < a))
one_number a b = grind arith

equal_numbers : (a b : ℕ) → OrNot (a ≡ b)
equal_numbers a b = elim (one_number a b) [ inl e ↦ inl e | inr (inl l) ↦ inr (λ e. omega arith) | inr (inr l) ↦ inr (λ e. omega arith) ]

below_number : (a b : ℕ) → OrNot (a < b)
below_number a b = elim (one_number a b) [ inl e ↦ inr (λ l. omega arith) | inr (inl l) ↦ inl l | inr (inr l) ↦ inr (λ m. omega arith) ]

-- the strips of a mask are listed
mask_listed : (count : ℕ) (mask : ℕ → ℕ) (m : ℕ) → IsListed (IsOfMask count mask m) count
mask_listed count mask m = record {
  below = λ i strip. strip.below;
  decided = λ i. decided_as (λ h. record { below = h.0; of_mask = h.1 }) (λ (strip : IsOfMask count mask m i). (strip.below, strip.of_mask)) (both_or_not (below_number i count) (equal_numbers (mask i) m));
}

pub whole_runs_are_a_family : Laws.WholeRunsAreAFamily
whole_runs_are_a_family count mask m = family_of_runs (IsOfMask count mask m)

pub covered_has_hosts : Laws.CoveredHasHosts
covered_has_hosts count mask m = has_hosts (IsOfMask count mask m)

pub rows_carry : Laws.RowsCarry
rows_carry count mask m source drawn width space numbers family met =
    rows.rows_carry (IsOfMask count mask m) source drawn width space met family count (mask_listed count mask m) numbers

pub untouched_is_carried : Laws.UntouchedIsCarried
untouched_is_carried count mask m source drawn width space untouched =
    (untouched_carried (IsOfMask count mask m) source drawn width space untouched, untouched_columns (IsOfMask count mask m) source drawn width space untouched)

pub carried_keeps_width : Laws.CarriedKeepsWidth
carried_keeps_width count mask m source drawn width space carried columns =
    carried_width (IsOfMask count mask m) source drawn width space carried count (mask_listed count mask m) columns

pub carried_keeps_space : Laws.CarriedKeepsSpace
carried_keeps_space count mask m source drawn width space carried least below =
    carried_space (IsOfMask count mask m) source drawn width space carried least below

pub carried_keeps_pieces : Laws.CarriedKeepsPieces
carried_keeps_pieces count mask m source drawn width space carried i j x y u v h k = (
  λ walk. pieces_connected (IsOfMask count mask m) source drawn width space carried i j x y u v h k walk,
  λ connected. pieces_joined (IsOfMask count mask m) source drawn width space carried i j x y u v connected h k,
)

pub carried_keeps_pieces_apart : Laws.CarriedKeepsPiecesApart
carried_keeps_pieces_apart count mask m source drawn width space carried least below =
    carried_pieces (IsOfMask count mask m) source drawn width space carried least below

pub carried_keeps_notch : Laws.CarriedKeepsNotch
carried_keeps_notch count mask m source drawn width space carried notch least = record {
  rows = carried_notch_of_rows (IsOfMask count mask m) source drawn width space carried notch least;
  columns = carried_notch_of_columns (IsOfMask count mask m) source drawn width space carried notch least;
}

pub carried_hosts_cover : Laws.CarriedHostsCover
carried_hosts_cover count mask m = drawn_hosts_cover (IsOfMask count mask m)

pub clear_stays_clear : Laws.ClearStaysClear
clear_stays_clear count mask m n = clear_apart (IsOfMask count mask m) (IsOfMask count mask n)

pub scaling_carries : Laws.ScalingCarries
scaling_carries count mask m source drawn width space grid some_grid carried = (
  scaled_carried grid some_grid (IsOfMask count mask m) source drawn width space carried,
  scaled_columns grid some_grid (IsOfMask count mask m) source drawn width space carried,
)

pub list_keeps_rules : Laws.ListKeepsRules
list_keeps_rules rectangles none number =
    let alike = covers_alike rectangles none in (
      width_alike _ (Covers rectangles) alike number,
      space_alike _ (Covers rectangles) alike number,
    )
