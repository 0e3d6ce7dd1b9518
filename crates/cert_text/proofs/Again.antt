-- The lines of a claim in form give the claim again.
use Rattle.std.proofs.Common.{◌≡◌, if◌then◌else◌, ℕ, suc, zero, ◌≤◌, Bool, true, false, List, [], ◌∷◌, ◌++◌, length, take, map, ℤ, pos, Option, Some, None, slice_index_or, sym, ap, ◌∙◌, refl, arith, add-one}
use Rattle.std.specs.List.{flat_map}
use Rattle.std.proofs.lemmas.List.{map-append, take_more}
use Rattle.std.proofs.Math.Seq.{take-length}
use Rattle.rt_rows.specs.declared.row.Var.{Var}
use Rattle.rt_rows.specs.declared.positions.Positions.{Positions}
use Rattle.rt_rows.specs.declared.proof.Share.{Share}
use Rattle.rt_rows.specs.declared.proof.Node.{Node}
use Rattle.rt_rows.specs.declared.proof.Node.TheVariants.{Branch, Cut, Bound, Empty}
use Rattle.rt_rows.specs.declared.proof.Proof.{Proof}
use Rattle.cert_lines.specs.declared.line.Line.{Line}
use Rattle.cert_lines.specs.declared.line.Line.TheVariants as line
use Rattle.cert_text.specs.declared.claim.Claim.{Claim}
use Rattle.cert_text.specs.declared.claim.Claim.TheVariants.{Done, NoneAcross, NoneUpwards}
use Rattle.cert_text.specs.declared.building.Heading.{Heading}
use Rattle.cert_text.specs.declared.building.Heading.TheVariants.{Across, Upwards, End}
use Rattle.cert_text.specs.declared.building.Side.{Side}
use Rattle.cert_text.specs.declared.building.Side.TheVariants.{Left, Bottom, Right, Top}
use Rattle.cert_text.specs.Claims.{axis_line, strip_line, column_line, each_strip, share_line, node_lines, proof_lines, claim_lines, HasSides, HasColumns, IsInForm}
use Rattle.cert_text.specs.Building.{is_heading, before_heading, behind_heading, side_of, first_shares, nodes_of, proof_of, axis_of, placed_of, gauged_of, second_of, claim_with, claim_of}
use Rattle.cert_text.proofs.Builders.{three}

-- ---- headings

-- the heading isn't among the lines
abbrev Free : Heading → List Line → Type 0
Free heading [] = Unit {0}
Free heading (l ∷ lines) = (is_heading heading l ≡ false) × Free heading lines

free_append : (heading : Heading) (xs ys : List Line) → Free heading xs → Free heading ys → Free heading (xs ++ ys)
free_append heading [] ys first second = second
free_append heading (x ∷ xs) ys first second = (first.0, free_append heading xs ys first.1 second)

before_known : (heading : Heading) (xs ys : List Line) (l : Line) → Free heading xs → is_heading heading l ≡ true → before_heading heading (xs ++ l ∷ ys) ≡ xs
before_known heading [] ys l free is = ap (λ (b : Bool). if b then [] else l ∷ before_heading heading ys) is
before_known heading (x ∷ xs) ys l free is =
    ap (λ (b : Bool). if b then [] else x ∷ before_heading heading (xs ++ l ∷ ys)) free.0 ∙ ap (λ (ls : List Line). x ∷ ls) (before_known heading xs ys l free.1 is)

behind_known : (heading : Heading) (xs ys : List Line) (l : Line) → Free heading xs → is_heading heading l ≡ true → behind_heading heading (xs ++ l ∷ ys) ≡ ys
behind_known heading [] ys l free is = ap (λ (b : Bool). if b then ys else behind_heading heading ys) is
behind_known heading (x ∷ xs) ys l free is =
    ap (λ (b : Bool). if b then xs ++ l ∷ ys else behind_heading heading (xs ++ l ∷ ys)) free.0 ∙ behind_known heading xs ys l free.1 is

branch_free : (heading : Heading) (var : Var) (at : ℤ) → is_heading heading (line.Branch var at) ≡ false
branch_free Across var at = refl
branch_free Upwards var at = refl
branch_free End var at = refl

cut_free : (heading : Heading) (over count : ℤ) → is_heading heading (line.Cut over count) ≡ false
cut_free Across over count = refl
cut_free Upwards over count = refl
cut_free End over count = refl

bound_free : (heading : Heading) (over count : ℤ) → is_heading heading (line.Bound over count) ≡ false
bound_free Across over count = refl
bound_free Upwards over count = refl
bound_free End over count = refl

empty_free : (heading : Heading) (over count : ℤ) → is_heading heading (line.Empty over count) ≡ false
empty_free Across over count = refl
empty_free Upwards over count = refl
empty_free End over count = refl

share_free : (heading : Heading) (share : Share) → is_heading heading (share_line share) ≡ false
share_free Across share = refl
share_free Upwards share = refl
share_free End share = refl

shares_free : (heading : Heading) (shares : List Share) → Free heading (map share_line shares)
shares_free heading [] = tt
shares_free heading (share ∷ shares) = (share_free heading share, shares_free heading shares)

node_free : (heading : Heading) (node : Node) → Free heading (node_lines node)
node_free heading (Branch var at) = (branch_free heading var at, tt)
node_free heading (Cut over shares) = (cut_free heading over (pos (length shares)), shares_free heading shares)
node_free heading (Bound over shares) = (bound_free heading over (pos (length shares)), shares_free heading shares)
node_free heading (Empty over shares) = (empty_free heading over (pos (length shares)), shares_free heading shares)

nodes_free : (heading : Heading) (nodes : List Node) → Free heading (flat_map node_lines nodes)
nodes_free heading [] = tt
nodes_free heading (node ∷ nodes) = free_append heading (node_lines node) (flat_map node_lines nodes) (node_free heading node) (nodes_free heading nodes)

strips_free : (heading : Heading) (line_of : ℕ → Line) (n : ℕ) → ((i : ℕ) → is_heading heading (line_of i) ≡ false) → Free heading (each_strip line_of n)
strips_free heading line_of zero free = tt
strips_free heading line_of (suc n) free = free_append heading (each_strip line_of n) (line_of n ∷ []) (strips_free heading line_of n free) (free n, tt)

axis_free : (axis : Option ℤ) → is_heading Across (axis_line axis) ≡ false
axis_free None = refl
axis_free (Some twice) = refl

-- ---- nodes

-- no lines of nodes begin with a share
no_shares : (nodes : List Node) → first_shares (flat_map node_lines nodes) ≡ []
no_shares [] = refl
no_shares (Branch var at ∷ nodes) = refl
no_shares (Cut over shares ∷ nodes) = refl
no_shares (Bound over shares ∷ nodes) = refl
no_shares (Empty over shares ∷ nodes) = refl

shares_again : (shares : List Share) (nodes : List Node) → first_shares (map share_line shares ++ flat_map node_lines nodes) ≡ shares
shares_again [] nodes = no_shares nodes
shares_again (share ∷ shares) nodes = ap (λ (s : List Share). share ∷ s) (shares_again shares nodes)

shares_skipped : (shares : List Share) (lines : List Line) → nodes_of (map share_line shares ++ lines) ≡ nodes_of lines
shares_skipped [] lines = refl
shares_skipped (share ∷ shares) lines = shares_skipped shares lines

-- the node of a kind, with its shares
node_again : (kind : List Share → Node) (shares : List Share) (nodes : List Node) → nodes_of (flat_map node_lines nodes) ≡ nodes
    → kind (first_shares (map share_line shares ++ flat_map node_lines nodes)) ∷ nodes_of (map share_line shares ++ flat_map node_lines nodes) ≡ kind shares ∷ nodes
node_again kind shares nodes rest =
    ap (λ (s : List Share). kind s ∷ nodes_of (map share_line shares ++ flat_map node_lines nodes)) (shares_again shares nodes)
    ∙ ap (λ (ns : List Node). kind shares ∷ ns) (shares_skipped shares (flat_map node_lines nodes) ∙ rest)

nodes_again : (nodes : List Node) → nodes_of (flat_map node_lines nodes) ≡ nodes
nodes_again [] = refl
nodes_again (Branch var at ∷ nodes) = ap (λ (ns : List Node). Branch var at ∷ ns) (nodes_again nodes)
nodes_again (Cut over shares ∷ nodes) = node_again (Cut over) shares nodes (nodes_again nodes)
nodes_again (Bound over shares ∷ nodes) = node_again (Bound over) shares nodes (nodes_again nodes)
nodes_again (Empty over shares ∷ nodes) = node_again (Empty over) shares nodes (nodes_again nodes)

-- ---- strips

first_sides : (side : Side) (line_of : ℕ → Line) (xs : List ℤ) → ((i : ℕ) → side_of side (line_of i) ≡ slice_index_or xs i (pos 0)) → (m : ℕ) → m ≤ length xs
    → map (side_of side) (each_strip line_of m) ≡ take m xs
first_sides side line_of xs same zero within = refl
first_sides side line_of xs same (suc m) within =
    map-append (side_of side) (each_strip line_of m) (line_of m ∷ [])
    ∙ ap (λ (s : List ℤ). s ++ side_of side (line_of m) ∷ []) (first_sides side line_of xs same m (omega (arith, within)))
    ∙ ap (λ (z : ℤ). take m xs ++ z ∷ []) (same m)
    ∙ sym (take_more xs m (pos 0) (omega (arith, within)))
    ∙ ap (λ (k : ℕ). take k xs) (add-one m)

sides_again : (side : Side) (line_of : ℕ → Line) (xs : List ℤ) (n : ℕ) → ((i : ℕ) → side_of side (line_of i) ≡ slice_index_or xs i (pos 0)) → length xs ≡ n
    → map (side_of side) (each_strip line_of n) ≡ xs
sides_again side line_of xs n same count =
    first_sides side line_of xs same n (omega (arith, count)) ∙ ap (λ (k : ℕ). take k xs) (sym count) ∙ take-length xs

axis_again : (first second : Line) (axis : Option ℤ) (lines : List Line) → axis_of (first ∷ second ∷ axis_line axis ∷ lines) ≡ axis
axis_again first second None lines = refl
axis_again first second (Some twice) lines = refl

seven : (l l' r r' b b' t t' : List ℤ) (width width' height height' : ℤ) (axis axis' : Option ℤ) → l ≡ l' → r ≡ r' → b ≡ b' → t ≡ t' → width ≡ width' → height ≡ height'
    → axis ≡ axis'
    → ◌≡◌ {A = Positions} (record { l = l; r = r; b = b; t = t; width = width; height = height; axis = axis }) (record { l = l'; r = r'; b = b'; t = t'; width = width'; height = height'; axis = axis' })
seven l l' r r' b b' t t' width width' height height' axis axis' e1 e2 e3 e4 e5 e6 e7 = cc

positions_are : (at new : Positions) → new.l ≡ at.l → new.r ≡ at.r → new.b ≡ at.b → new.t ≡ at.t → new.width ≡ at.width → new.height ≡ at.height → new.axis ≡ at.axis → new ≡ at
positions_are at new = seven new.l at.l new.r at.r new.b at.b new.t at.t new.width at.width new.height at.height new.axis at.axis

placed_again : (at : Positions) (first second : Line) → HasSides at
    → placed_of at.width at.height (first ∷ second ∷ axis_line at.axis ∷ each_strip (strip_line at) (length at.l)) ≡ at
placed_again at first second has =
    positions_are at _ (sides_again Left (strip_line at) at.l (length at.l) (λ i. refl) refl) (sides_again Right (strip_line at) at.r (length at.l) (λ i. refl) has.right)
    (sides_again Bottom (strip_line at) at.b (length at.l) (λ i. refl) has.bottom) (sides_again Top (strip_line at) at.t (length at.l) (λ i. refl) has.top) refl refl
    (axis_again first second at.axis (each_strip (strip_line at) (length at.l)))

gauged_again : (at : Positions) (first second : Line) → HasColumns at
    → gauged_of at.width (first ∷ second ∷ axis_line at.axis ∷ each_strip (column_line at) (length at.l)) ≡ at
gauged_again at first second has =
    positions_are at _ (sides_again Left (column_line at) at.l (length at.l) (λ i. refl) refl) (sides_again Right (column_line at) at.r (length at.l) (λ i. refl) has.right)
    (sym has.no_bottom) (sym has.no_top) refl (sym has.no_height) (axis_again first second at.axis (each_strip (column_line at) (length at.l)))

-- ---- proofs

proof_again : (proof : Proof) (lines : List Line) → lines ≡ proof_lines proof → proof_of lines ≡ proof
proof_again proof lines e = let known : nodes_of lines ≡ proof.nodes = ap nodes_of e ∙ nodes_again proof.nodes in ap (λ (ns : List Node). record { nodes = ns }) known

-- the two proofs of a body
first_again : (across : Proof) (lines : List Line) → proof_of (before_heading Upwards (proof_lines across ++ line.Upwards ∷ lines)) ≡ across
first_again across lines = proof_again across _ (before_known Upwards (proof_lines across) lines line.Upwards (nodes_free Upwards across.nodes) refl)

last_again : (proof : Proof) → proof_of (before_heading End (proof_lines proof ++ line.End ∷ [])) ≡ proof
last_again proof = proof_again proof _ (before_known End (proof_lines proof) [] line.End (nodes_free End proof.nodes) refl)

second_again : (across upwards : Proof) → second_of (proof_lines across ++ line.Upwards ∷ (proof_lines upwards ++ line.End ∷ [])) ≡ upwards
second_again across upwards =
    ap (λ (ls : List Line). proof_of (before_heading End ls)) (behind_known Upwards (proof_lines across) (proof_lines upwards ++ line.End ∷ []) line.Upwards (nodes_free Upwards across.nodes) refl)
    ∙ last_again upwards

-- ---- claims

-- where a header ends
parted_again : (header body : List Line) → Free Across header → claim_of (header ++ line.Across ∷ body) ≡ claim_with header body
parted_again header body free =
    ap (λ (ls : List Line). claim_with ls (behind_heading Across (header ++ line.Across ∷ body))) (before_known Across header body line.Across free refl)
    ∙ ap (claim_with header) (behind_known Across header body line.Across free refl)

pub claim_again : (claim : Claim) → IsInForm claim → claim_of (claim_lines claim) ≡ claim
claim_again (Done at across upwards) form =
    let header : List Line = line.Title ∷ line.Done at.width at.height ∷ axis_line at.axis ∷ each_strip (strip_line at) (length at.l) in
    let body : List Line = proof_lines across ++ line.Upwards ∷ (proof_lines upwards ++ line.End ∷ []) in
    parted_again header body (refl, (refl, (axis_free at.axis, strips_free Across (strip_line at) (length at.l) (λ i. refl))))
    ∙ three Done _ at _ across _ upwards (placed_again at line.Title (line.Done at.width at.height) form.sides)
    (first_again across (proof_lines upwards ++ line.End ∷ [])) (second_again across upwards)
claim_again (NoneAcross across) form =
    parted_again (line.Title ∷ line.NoneAcross ∷ []) (proof_lines across ++ line.End ∷ []) (refl, (refl, tt)) ∙ ap NoneAcross (last_again across)
claim_again (NoneUpwards at across upwards) form =
    let header : List Line = line.Title ∷ line.NoneUpwards at.width ∷ axis_line at.axis ∷ each_strip (column_line at) (length at.l) in
    let body : List Line = proof_lines across ++ line.Upwards ∷ (proof_lines upwards ++ line.End ∷ []) in
    parted_again header body (refl, (refl, (axis_free at.axis, strips_free Across (column_line at) (length at.l) (λ i. refl))))
    ∙ three NoneUpwards _ at _ across _ upwards (gauged_again at line.Title (line.NoneUpwards at.width) form.columns)
    (first_again across (proof_lines upwards ++ line.End ∷ [])) (second_again across upwards)
