-- Rows as steps between places. Place 0 is the origin, 1 the extent; then come the low sides of the strips, and then their high sides.
use Rattle.std.specs.Prelude.{◌≡◌, ℕ, zero, suc, ◌+◌, ◌-◌, ◌<◌, max, Bool, true, false, nat_lt, ℤ, pos, negsuc, List, [], ◌∷◌, Option, Some, None, length, slice_index_or}
use Rattle.rt_base.specs.declared.plane.Axis.{Axis}
use Rattle.rt_rows.specs.declared.name.Name.{Name}
use Rattle.rt_rows.specs.declared.row.Var.{Var}
use Rattle.rt_rows.specs.declared.row.Var.TheVariants.{L, R, B, T, Width, Height, Axis as MirrorAxis}
use Rattle.rt_rows.specs.declared.row.Term.{Term}
use Rattle.rt_rows.specs.declared.row.Row.{Row}
use Rattle.rt_path.specs.declared.event.Step.{Step}
use Rattle.rt_path.specs.declared.event.Last.{Last}
use Rattle.rt_rows.specs.declared.positions.Positions.{Positions}
use Rattle.rt_rows.specs.Places.{places}
use Rattle.rt_path.specs.Longest.{low, high, extent, lows, highs, turned, IsBare}
use Rattle.rt_rows.specs.declared.proof.Share.{Share}
use Rattle.rt_rows.specs.declared.proof.Proof.{Proof as ProofOf}
use Rattle.rt_rows.specs.declared.proof.Node.TheVariants.{Bound, Empty}
use Rattle.rt_path.specs.Raises.{last_at}
use Rattle.rt_path.specs.WaysBack.{LeadsOn}

-- how many strips there have to be for a variable, a term, a row, and the rows
abbrev pub strips_for : Var → ℕ
strips_for (L i) = i + 1
strips_for (R i) = i + 1
strips_for (B i) = i + 1
strips_for (T i) = i + 1
strips_for Width = 0
strips_for Height = 0
strips_for MirrorAxis = 0

abbrev pub strips_for_term : Option Term → ℕ
strips_for_term None = 0
strips_for_term (Some term) = strips_for term.var

abbrev pub strips_for_terms : List (Option Term) → ℕ
strips_for_terms [] = 0
strips_for_terms (term ∷ terms) = max (strips_for_term term) (strips_for_terms terms)

abbrev pub strips_for_rows : List (Name × Row) → ℕ
strips_for_rows [] = 0
strips_for_rows (named ∷ rows) = max (strips_for_terms named.1.terms) (strips_for_rows rows)

-- the row has its three terms, there or not
pub record HasThreeTerms (named : Name × Row) : Type 0 where
  pub three : length named.1.terms ≡ 3

-- the place of a variable, with so many strips
abbrev pub place_of : ℕ → Var → ℕ
place_of count (L i) = 2 + i
place_of count (B i) = 2 + i
place_of count (R i) = 2 + count + i
place_of count (T i) = 2 + count + i
place_of count Width = 1
place_of count Height = 1
place_of count MirrorAxis = 0

-- the variable of a place; the origin has none
abbrev pub side_at : Axis → ℕ → ℕ → Bool → Var
side_at axis count k true = low axis k
side_at axis count k false = high axis (k - count)

abbrev pub var_at : Axis → ℕ → ℕ → Option Var
var_at axis count zero = None
var_at axis count (suc zero) = Some (extent axis)
var_at axis count (suc (suc k)) = Some (side_at axis count k (nat_lt k count))

-- the places that a row of differences goes between
abbrev pub head_by : ℕ → ℤ → Var → ℕ
head_by count (pos n) var = place_of count var
head_by count (negsuc n) var = 0

abbrev pub tail_by : ℕ → ℤ → Var → ℕ
tail_by count (pos n) var = 0
tail_by count (negsuc n) var = place_of count var

abbrev pub head_in : ℕ → Option Term → ℕ
head_in count None = 0
head_in count (Some term) = head_by count term.times term.var

abbrev pub tail_in : ℕ → Option Term → Option Term → ℕ
tail_in count first (Some term) = place_of count term.var
tail_in count None None = 0
tail_in count (Some term) None = tail_by count term.times term.var

abbrev pub term_at : List (Option Term) → ℕ → Option Term
term_at [] i = None
term_at (term ∷ terms) zero = term
term_at (term ∷ terms) (suc i) = term_at terms i

abbrev pub step_for : ℕ → Name × Row → Step
step_for count named = record {
  name = named.0;
  tail = tail_in count (term_at named.1.terms 0) (term_at named.1.terms 1);
  head = head_in count (term_at named.1.terms 0);
  by = named.1.least;
}

-- the value of a place, 0 where it has none
abbrev pub value_of : Option Last → ℤ
value_of None = pos 0
value_of (Some last) = last.value

-- the values of so many places from one on
pub record AreValues (now : List (Option Last)) (from count : ℕ) (values : List ℤ) : Type 0 where
  pub one_each : length values ≡ count
  pub each : (i : ℕ) → i < count → slice_index_or values i (pos 0) ≡ value_of (last_at now (from + i))

-- positions along one axis alone
pub record ArePositions (axis : Axis) (low_ends high_ends : List ℤ) (end : ℤ) (at : Positions) : Type 0 where
  pub low_is : lows axis at ≡ low_ends
  pub high_is : highs axis at ≡ high_ends
  pub extent_is : places at (extent axis) ≡ end
  pub bare : IsBare (turned axis) at
  pub no_mirror : at.axis ≡ None

-- the positions have the values of the places
pub record HaveValues (axis : Axis) (count : ℕ) (now : List (Option Last)) (at : Positions) : Type 0 where
  pub low_values : AreValues now 2 count (lows axis at)
  pub high_values : AreValues now (2 + count) count (highs axis at)
  pub extent_value : places at (extent axis) ≡ value_of (last_at now 1)
  pub bare : IsBare (turned axis) at
  pub no_mirror : at.axis ≡ None

-- the place has a last event
abbrev pub HasLast : List (Option Last) → ℕ → Type 0
HasLast now place = (last : Last) × (last_at now place ≡ Some last)

-- the proof is one bound by rows that lead from the origin to the extent
pub record IsBoundBy (steps : List Step) (now : List (Option Last)) (proof : ProofOf) : Type 0 where
  pub shares : List Share
  pub nodes : proof.nodes ≡ Bound (pos 1) shares ∷ []
  pub leads : LeadsOn steps shares 0 1 (value_of (last_at now 1))
  pub few : length shares < length now

-- the proof is one refutation by these rows
pub record IsRefutedBy (shares : List Share) (proof : ProofOf) : Type 0 where
  pub nodes : proof.nodes ≡ Empty (pos 1) shares ∷ []
