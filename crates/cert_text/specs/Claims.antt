-- The text of a claim.
use Rattle.std.specs.Prelude.{◌≡◌, ℕ, zero, suc, ℤ, pos, ◌≤ℤ◌, List, [], ◌∷◌, ◌++◌, Option, Some, None, map, length, All, slice_index_or}
use Rattle.std.specs.List.{flat_map}
use Rattle.rt_rows.specs.declared.row.Var.{Var}
use Rattle.rt_rows.specs.declared.positions.Positions.{Positions}
use Rattle.rt_rows.specs.declared.proof.Share.{Share}
use Rattle.rt_rows.specs.declared.proof.Node.{Node}
use Rattle.rt_rows.specs.declared.proof.Node.TheVariants.{Branch, Cut, Bound, Empty}
use Rattle.rt_rows.specs.declared.proof.Proof.{Proof}
use Rattle.cert_lines.specs.declared.line.Line.{Line}
use Rattle.cert_lines.specs.declared.line.Line.TheVariants as line
use Rattle.cert_lines.specs.Lines.{line_text}
use Rattle.cert_text.specs.declared.claim.Claim.{Claim}
use Rattle.cert_text.specs.declared.claim.Claim.TheVariants.{Done, NoneAcross, NoneUpwards}

-- the line of the axis
abbrev pub axis_line : Option ℤ → Line
axis_line None = line.NoAxis
axis_line (Some twice) = line.Axis twice

-- the line of one strip
abbrev pub strip_line : Positions → ℕ → Line
strip_line at i =
    line.Strip (pos i) (slice_index_or at.l i (pos 0)) (slice_index_or at.b i (pos 0)) (slice_index_or at.r i (pos 0)) (slice_index_or at.t i (pos 0))

-- the line of the columns of one strip
abbrev pub column_line : Positions → ℕ → Line
column_line at i = line.Column (pos i) (slice_index_or at.l i (pos 0)) (slice_index_or at.r i (pos 0))

-- a line for each of the first strips, in order
abbrev pub each_strip : (ℕ → Line) → ℕ → List Line
each_strip line_of zero = []
each_strip line_of (suc n) = each_strip line_of n ++ line_of n ∷ []

-- the line of a share
abbrev pub share_line : Share → Line
share_line share = line.Share share.times share.of

-- the lines of a node: its own, and one for each share
abbrev pub node_lines : Node → List Line
node_lines (Branch var at) = line.Branch var at ∷ []
node_lines (Cut over shares) = line.Cut over (pos (length shares)) ∷ map share_line shares
node_lines (Bound over shares) = line.Bound over (pos (length shares)) ∷ map share_line shares
node_lines (Empty over shares) = line.Empty over (pos (length shares)) ∷ map share_line shares

-- the lines of a proof
abbrev pub proof_lines : Proof → List Line
proof_lines proof = flat_map node_lines proof.nodes

-- the lines from a heading on, with one proof and with two
abbrev pub one_proof : Proof → List Line
one_proof across = line.Across ∷ (proof_lines across ++ line.End ∷ [])

abbrev pub two_proofs : Proof → Proof → List Line
two_proofs across upwards = line.Across ∷ (proof_lines across ++ line.Upwards ∷ (proof_lines upwards ++ line.End ∷ []))

-- the lines of a claim
abbrev pub claim_lines : Claim → List Line
claim_lines (Done at across upwards) =
    line.Title ∷ line.Done at.width at.height ∷ axis_line at.axis ∷ (each_strip (strip_line at) (length at.l) ++ two_proofs across upwards)
claim_lines (NoneAcross across) = line.Title ∷ line.NoneAcross ∷ one_proof across
claim_lines (NoneUpwards at across upwards) =
    line.Title ∷ line.NoneUpwards at.width ∷ axis_line at.axis ∷ (each_strip (column_line at) (length at.l) ++ two_proofs across upwards)

-- the text of a claim
unfoldable pub claim_text : Claim → List ℕ
claim_text claim = flat_map line_text (claim_lines claim)

-- each strip has its four sides
pub record HasSides (at : Positions) : Type 0 where
  pub right : length at.r ≡ length at.l
  pub bottom : length at.b ≡ length at.l
  pub top : length at.t ≡ length at.l

-- each strip has its columns, and nothing is said of rows
pub record HasColumns (at : Positions) : Type 0 where
  pub right : length at.r ≡ length at.l
  pub no_bottom : at.b ≡ []
  pub no_top : at.t ≡ []
  pub no_height : at.height ≡ pos 0

-- the nodes are one tree, written from its root: behind a branch stand its two trees, behind a cut its one, and behind a leaf none
pub data IsTree : List Node → Type 0 where
  branch : (var : Var) (at : ℤ) (first second : List Node) → IsTree first → IsTree second → IsTree (Branch var at ∷ (first ++ second))
  cut : (over : ℤ) (shares : List Share) (nodes : List Node) → IsTree nodes → IsTree (Cut over shares ∷ nodes)
  bound : (over : ℤ) (shares : List Share) → IsTree (Bound over shares ∷ [])
  empty : (over : ℤ) (shares : List Share) → IsTree (Empty over shares ∷ [])

-- what a node's combination is divided by is at least 1
abbrev pub HasDivisor : Node → Type 0
HasDivisor (Branch var at) = Unit {0}
HasDivisor (Cut over shares) = pos 1 ≤ℤ over
HasDivisor (Bound over shares) = pos 1 ≤ℤ over
HasDivisor (Empty over shares) = pos 1 ≤ℤ over

-- the proof is exactly one tree, and divides by nothing below 1
pub record IsOneTree (proof : Proof) : Type 0 where
  pub one : IsTree proof.nodes
  pub divisors : All HasDivisor proof.nodes

-- a claim that has a text
pub record IsDoneInForm (at : Positions) (across upwards : Proof) : Type 0 where
  pub sides : HasSides at
  pub across_tree : IsOneTree across
  pub upwards_tree : IsOneTree upwards

pub record IsNoneUpwardsInForm (at : Positions) (across upwards : Proof) : Type 0 where
  pub columns : HasColumns at
  pub across_tree : IsOneTree across
  pub upwards_tree : IsOneTree upwards

abbrev pub IsInForm : Claim → Type 0
IsInForm (Done at across upwards) = IsDoneInForm at across upwards
IsInForm (NoneAcross across) = IsOneTree across
IsInForm (NoneUpwards at across upwards) = IsNoneUpwardsInForm at across upwards
