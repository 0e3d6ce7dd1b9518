-- Rows of differences along one axis, and the least positions that meet them.
use Rattle.std.specs.Prelude.{◌+◌, ◌∷◌, ◌≡◌, ◌≢◌, ℕ, suc, ◌<◌, ℤ, pos, neg_ℤ, ◌≤ℤ◌, List, [], Some, None, length, All, AllPairs, Contains, ◌≤◌, slice_get}
use Rattle.rt_base.specs.declared.plane.Axis.{Axis}
use Rattle.rt_base.specs.declared.plane.Axis.TheVariants.{Across, Upwards}
use Rattle.rt_rows.specs.declared.name.Name.{Name}
use Rattle.rt_rows.specs.declared.row.Var.{Var}
use Rattle.rt_rows.specs.declared.row.Var.TheVariants.{L, R, B, T, Width, Height}
use Rattle.rt_rows.specs.declared.row.Term.{Term}
use Rattle.rt_rows.specs.declared.row.Row.{Row}
use Rattle.rt_rows.specs.declared.proof.Share.{Share}
use Rattle.rt_rows.specs.declared.proof.Node.{Node}
use Rattle.rt_rows.specs.declared.proof.Node.TheVariants.{Bound, Empty}
use Rattle.rt_rows.specs.declared.proof.Proof.{Proof as ProofOf}
use Rattle.rt_rows.specs.declared.positions.Positions.{Positions}
use Rattle.rt_rows.specs.declared.positions.TheConstants.{EXTENT_LIMIT}
use Rattle.rt_rows.specs.Rows.{MeetsRow, at_least, at_most, beyond}
use Rattle.rt_rows.specs.Places.{places}
use Rattle.rt_proofs.specs.Forms.{Sum}
use Rattle.rt_proofs.specs.Rows.{sum_of}
use Rattle.rt_proofs.specs.Trees.{Proof}
use Rattle.rt_proofs.specs.Trees.Goal.{Least, Refute}
use Rattle.rt_path.specs.declared.path_error.PathError.{PathError}
use Rattle.rt_path.specs.declared.path_error.PathError.TheVariants.{Refuted, OutOfMemory}

-- the sides of a strip along the axis, and the extent
abbrev pub low : Axis → ℕ → Var
low Across i = L i
low Upwards i = B i

abbrev pub high : Axis → ℕ → Var
high Across i = R i
high Upwards i = T i

abbrev pub extent : Axis → Var
extent Across = Width
extent Upwards = Height

abbrev pub turned : Axis → Axis
turned Across = Upwards
turned Upwards = Across

-- the variable is of the axis
pub data IsOfAxis (axis : Axis) (var : Var) : Type 0 where
  is_low : (i : ℕ) → var ≡ low axis i → IsOfAxis axis var
  is_high : (i : ℕ) → var ≡ high axis i → IsOfAxis axis var
  is_extent : var ≡ extent axis → IsOfAxis axis var

-- a number is no larger than the limit of an extent, either way
pub record IsNear (n : ℤ) : Type 0 where
  pub not_far_down : neg_ℤ EXTENT_LIMIT ≤ℤ n
  pub not_far_up : n ≤ℤ EXTENT_LIMIT

-- the row bounds a variable of the axis from below, or from above, or keeps one beyond another
pub data IsDifference (axis : Axis) (row : Row) : Type 0 where
  bounds_below : (v : Var) (n : ℤ) → IsOfAxis axis v → IsNear n → row ≡ at_least v n → IsDifference axis row
  bounds_above : (v : Var) (n : ℤ) → IsOfAxis axis v → IsNear n → row ≡ at_most v n → IsDifference axis row
  keeps_beyond : (u v : Var) (n : ℤ) → IsOfAxis axis u → IsOfAxis axis v → IsNear n → row ≡ beyond u v n → IsDifference axis row

-- some name has the row
abbrev pub HasRow : List (Name × Row) → Row → Type 0
HasRow rows row = (name : Name) × Contains rows (name, row)

-- some row speaks of the variable
pub data Mentions (rows : List (Name × Row)) (var : Var) : Type 0 where
  mentions : (named : Name × Row) (term : Term) → Contains rows named → Contains named.1.terms (Some term) → term.var ≡ var → Mentions rows var

-- some row speaks of a side of the strip
pub data NamesStrip (axis : Axis) (rows : List (Name × Row)) (i : ℕ) : Type 0 where
  by_low : Mentions rows (low axis i) → NamesStrip axis rows i
  by_high : Mentions rows (high axis i) → NamesStrip axis rows i

-- the strip begins at 0 or after it, it has a width, and it ends within the extent
pub record IsHeld (axis : Axis) (rows : List (Name × Row)) (i : ℕ) : Type 0 where
  pub begins : HasRow rows (at_least (low axis i) (pos 0))
  pub wide : (width : ℤ) × (pos 1 ≤ℤ width) × HasRow rows (beyond (low axis i) (high axis i) width)
  pub ends : HasRow rows (beyond (high axis i) (extent axis) (pos 0))

-- the rows are differences along the axis, no two of one name; the extent lies between 0 and its limit, and each strip that they name in it
pub record AreDifferences (axis : Axis) (rows : List (Name × Row)) : Type 0 where
  pub names : AllPairs (λ a b. a.0 ≢ b.0) rows
  pub each : All (λ named. IsDifference axis named.1) rows
  pub zero : HasRow rows (at_least (extent axis) (pos 0))
  pub top : HasRow rows (at_most (extent axis) EXTENT_LIMIT)
  pub held : (i : ℕ) → NamesStrip axis rows i → IsHeld axis rows i

-- the values meet each row of the list
abbrev pub MeetsEachRow : List (Name × Row) → (Var → ℤ) → Type 0
MeetsEachRow rows at = All (λ named. MeetsRow at named.1) rows

-- the lists of positions along an axis
abbrev pub lows : Axis → Positions → List ℤ
lows Across at = at.l
lows Upwards at = at.b

abbrev pub highs : Axis → Positions → List ℤ
highs Across at = at.r
highs Upwards at = at.t

-- so many strips: those that the rows name are among them, and the last one is named
pub record CountsStrips (axis : Axis) (rows : List (Name × Row)) (count : ℕ) : Type 0 where
  pub within : (i : ℕ) → NamesStrip axis rows i → i < count
  pub last : (i : ℕ) → count ≡ suc i → NamesStrip axis rows i

-- there is nothing along the axis
pub record IsBare (axis : Axis) (at : Positions) : Type 0 where
  pub no_lows : lows axis at ≡ []
  pub no_highs : highs axis at ≡ []
  pub no_extent : places at (extent axis) ≡ pos 0

-- the positions meet each row, and no values that do are smaller at any variable of the axis that the rows name; a strip that they don't name
-- stands at 0
pub record IsLeastOf (axis : Axis) (rows : List (Name × Row)) (at : Positions) : Type 0 where
  pub meets : MeetsEachRow rows (places at)
  pub least : (other : Var → ℤ) → MeetsEachRow rows other → (v : Var) → IsOfAxis axis v → Mentions rows v → places at v ≤ℤ other v
  pub unnamed : (i : ℕ) → ¬ NamesStrip axis rows i → (places at (low axis i) ≡ pos 0) × (places at (high axis i) ≡ pos 0)
  pub counted : CountsStrips axis rows (length (lows axis at))
  pub even : length (highs axis at) ≡ length (lows axis at)
  pub bare : IsBare (turned axis) at
  pub no_mirror : at.axis ≡ None

-- the list has the row of this name
pub record Listed (rows : List (Name × Row)) (name : Name) (sum : Sum) : Type 0 where
  pub row : Row
  pub has : Contains rows (name, row)
  pub is : sum ≡ sum_of row

-- a node of few shares, each of which takes its row once: no more than two for each strip, and two
pub record IsShortSum (count : ℕ) (shares : List Share) : Type 0 where
  pub few : length shares ≤ 2 + count + count
  pub single : (i : ℕ) (share : Share) → slice_get shares i ≡ Some share → share.times ≡ pos 1

-- the proof is one such node
pub record IsOneBound (count : ℕ) (nodes : List Node) : Type 0 where
  pub shares : List Share
  pub is : nodes ≡ Bound (pos 1) shares ∷ []
  pub short : IsShortSum count shares

pub record IsOneEmpty (count : ℕ) (nodes : List Node) : Type 0 where
  pub shares : List Share
  pub is : nodes ≡ Empty (pos 1) shares ∷ []
  pub short : IsShortSum count shares

-- the least positions, and a proof that the extent is least
pub record IsFound (axis : Axis) (rows : List (Name × Row)) (at : Positions) (proof : ProofOf) : Type 0 where
  pub least : IsLeastOf axis rows at
  pub proved : Proof (Listed rows) (Least (extent axis) (places at (extent axis))) proof.nodes
  pub short : IsOneBound (length (lows axis at)) proof.nodes

-- a proof that no positions meet the rows
pub record IsRefuted (axis : Axis) (rows : List (Name × Row)) (proof : ProofOf) : Type 0 where
  pub proved : Proof (Listed rows) Refute proof.nodes
  pub count : ℕ
  pub counted : CountsStrips axis rows count
  pub short : IsOneEmpty count proof.nodes

-- no positions meet the rows, or there was no memory
abbrev pub IsCause : Axis → List (Name × Row) → PathError → Type 0
IsCause axis rows (Refuted proof) = IsRefuted axis rows proof
IsCause axis rows OutOfMemory = Unit {0}

-- no values meet rows that are refuted
abbrev pub RefutationExcludes : Type 0
RefutationExcludes = (rows : List (Name × Row)) (nodes : List Node) → Proof (Listed rows) Refute nodes → (other : Var → ℤ) → MeetsEachRow rows other → ⊥

-- values that meet the rows are at least what a proof bounds
abbrev pub ProofBoundsRows : Type 0
ProofBoundsRows = (rows : List (Name × Row)) (v : Var) (least : ℤ) (nodes : List Node) → Proof (Listed rows) (Least v least) nodes → (other : Var → ℤ)
    → MeetsEachRow rows other → least ≤ℤ other v
