-- The claim that lines tell: what the reader takes from lines that are those of a claim.
use Rattle.std.specs.Prelude.{ℤ, pos, Bool, true, false, if◌then◌else◌, List, [], ◌∷◌, Option, Some, None, map, drop, slice_get, ◌++◌}
use Rattle.rt_rows.specs.declared.positions.Positions.{Positions}
use Rattle.rt_rows.specs.declared.proof.Share.{Share}
use Rattle.rt_rows.specs.declared.proof.Node.{Node}
use Rattle.rt_rows.specs.declared.proof.Node.TheVariants.{Branch, Cut, Bound, Empty}
use Rattle.rt_rows.specs.declared.proof.Proof.{Proof}
use Rattle.cert_lines.specs.declared.line.Line.{Line}
use Rattle.cert_lines.specs.declared.line.Line.TheVariants as line
use Rattle.cert_text.specs.declared.claim.Claim.{Claim}
use Rattle.cert_text.specs.declared.claim.Claim.TheVariants.{Done, NoneAcross, NoneUpwards}
use Rattle.cert_text.specs.declared.building.Heading.{Heading}
use Rattle.cert_text.specs.declared.building.Heading.TheVariants.{Across, Upwards, End}
use Rattle.cert_text.specs.declared.building.Side.{Side}
use Rattle.cert_text.specs.declared.building.Side.TheVariants.{Left, Bottom, Right, Top}

-- the line is that heading
abbrev pub is_heading : Heading → Line → Bool
is_heading Across line.Across = true
is_heading Upwards line.Upwards = true
is_heading End line.End = true
is_heading _ _ = false

-- the lines before a heading, and those behind it
abbrev pub before_heading : Heading → List Line → List Line
before_heading heading [] = []
before_heading heading (l ∷ lines) = if is_heading heading l then [] else l ∷ before_heading heading lines

abbrev pub behind_heading : Heading → List Line → List Line
behind_heading heading [] = []
behind_heading heading (l ∷ lines) = if is_heading heading l then lines else behind_heading heading lines

-- a side that a line on a strip tells
abbrev pub side_of : Side → Line → ℤ
side_of Left (line.Strip number left bottom right top) = left
side_of Bottom (line.Strip number left bottom right top) = bottom
side_of Right (line.Strip number left bottom right top) = right
side_of Top (line.Strip number left bottom right top) = top
side_of Left (line.Column number left right) = left
side_of Right (line.Column number left right) = right
side_of _ _ = pos 0

-- the shares that the lines begin with
abbrev pub first_shares : List Line → List Share
first_shares (line.Share times of ∷ lines) = record { times = times; of = of } ∷ first_shares lines
first_shares _ = []

-- the node that the lines begin with, if they begin with one
abbrev pub first_node : List Line → Option Node
first_node (line.Branch var at ∷ lines) = Some (Branch var at)
first_node (line.Cut over count ∷ lines) = Some (Cut over (first_shares lines))
first_node (line.Bound over count ∷ lines) = Some (Bound over (first_shares lines))
first_node (line.Empty over count ∷ lines) = Some (Empty over (first_shares lines))
first_node _ = None

-- a node behind others, if there is one
abbrev pub one_node_more : List Node → Option Node → List Node
one_node_more nodes None = nodes
one_node_more nodes (Some node) = nodes ++ node ∷ []

-- a node before others, if there is one
abbrev pub with_node : Option Node → List Node → List Node
with_node None nodes = nodes
with_node (Some node) nodes = node ∷ nodes

-- the nodes of the lines
abbrev pub nodes_of : List Line → List Node
nodes_of [] = []
nodes_of (l ∷ lines) = with_node (first_node (l ∷ lines)) (nodes_of lines)

abbrev pub proof_of : List Line → Proof
proof_of lines = record { nodes = nodes_of lines }

-- the axis that a header tells
abbrev pub axis_of : List Line → Option ℤ
axis_of (_ ∷ _ ∷ line.Axis twice ∷ lines) = Some twice
axis_of _ = None

-- the positions and the columns of a header
abbrev pub placed_of : ℤ → ℤ → List Line → Positions
placed_of width height header = record {
  l = map (side_of Left) (drop 3 header);
  r = map (side_of Right) (drop 3 header);
  b = map (side_of Bottom) (drop 3 header);
  t = map (side_of Top) (drop 3 header);
  width = width;
  height = height;
  axis = axis_of header;
}

abbrev pub gauged_of : ℤ → List Line → Positions
gauged_of width header = record {
  l = map (side_of Left) (drop 3 header);
  r = map (side_of Right) (drop 3 header);
  b = [];
  t = [];
  width = width;
  height = pos 0;
  axis = axis_of header;
}

-- the second proof of a body
abbrev pub second_of : List Line → Proof
second_of body = proof_of (before_heading End (behind_heading Upwards body))

-- the claim of a header, of which the second line tells what is claimed, and of what stands behind it
abbrev pub claim_by : Option Line → List Line → List Line → Claim
claim_by (Some (line.Done width height)) header body = Done (placed_of width height header) (proof_of (before_heading Upwards body)) (second_of body)
claim_by (Some (line.NoneUpwards width)) header body = NoneUpwards (gauged_of width header) (proof_of (before_heading Upwards body)) (second_of body)
claim_by _ header body = NoneAcross (proof_of (before_heading End body))

abbrev pub claim_with : List Line → List Line → Claim
claim_with header body = claim_by (slice_get header 1) header body

-- the claim of lines
abbrev pub claim_of : List Line → Claim
claim_of lines = claim_with (before_heading Across lines) (behind_heading Across lines)
