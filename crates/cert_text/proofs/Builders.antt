-- Parts of lines within the limits are within them; what a turn of the builder adds.
use Rattle.std.proofs.Common.{◌≡◌, if◌then◌else◌, ℕ, suc, zero, ◌+◌, ◌-◌, ◌^◌, ◌<◌, Bool, true, false, List, [], ◌∷◌, ◌++◌, length, take, drop, map, All, ℤ, pos, negsuc, Option, Some, None, sym, ap, subst, ◌∙◌, append_assoc, to_z, of_z, refl, arith, add-one}
use Rattle.std.proofs.lemmas.Int.{ints, to_z-of_z}
use Rattle.std.proofs.lemmas.List.{length-drop}
use Rattle.std.specs.Int.{w64, w128}
use Rattle.std.proofs.lemmas.List.Elements.{All-cons}
use Rattle.std.proofs.Math.Seq.{drop-cons, take-length}
use Rattle.rt_rows.specs.declared.proof.Node.{Node}
use Rattle.rt_rows.specs.declared.proof.Proof.{Proof}
use Rattle.cert_lines.specs.declared.line.Line.{Line}
use Rattle.cert_lines.specs.declared.line.Line.TheVariants as line
use Rattle.cert_lines.specs.Limits.{IsPlace, IsWithin}
use Rattle.cert_lines.proofs.Decimals.{place_fits as fits_wide}
use Rattle.cert_text.specs.declared.claim.Claim.{Claim}
use Rattle.cert_text.specs.declared.claim.Claim.TheVariants.{Done}
use Rattle.cert_text.specs.declared.building.Heading.{Heading}
use Rattle.cert_text.specs.declared.building.Heading.TheVariants.{Across, Upwards, End}
use Rattle.cert_text.specs.declared.building.Side.{Side}
use Rattle.cert_text.specs.declared.building.Side.TheVariants.{Left, Bottom, Right, Top}
use Rattle.cert_text.specs.Building.{is_heading, before_heading, behind_heading, side_of, first_node, with_node, one_node_more, nodes_of, proof_of, axis_of, placed_of, gauged_of, second_of, claim_by, claim_with, claim_of}

no_place : IsPlace (pos 0)
no_place = record { low = omega (arith, ints); high = omega (arith, ints) }

side_within : (side : Side) (l : Line) → IsWithin l → IsPlace (side_of side l)
side_within Left (line.Strip n a b c d) within = within.each 0 a (omega arith)
side_within Bottom (line.Strip n a b c d) within = within.each 1 a (omega arith)
side_within Right (line.Strip n a b c d) within = within.each 2 a (omega arith)
side_within Top (line.Strip n a b c d) within = within.each 3 a (omega arith)
side_within Left (line.Column n a b) within = within.each 0 a (omega arith)
side_within Right (line.Column n a b) within = within.each 1 a (omega arith)
side_within _ _ within = no_place

-- the rest has what all have
tail_has : (l : Line) (lines : List Line) → All IsWithin (l ∷ lines) → All IsWithin lines
tail_has l lines all = λ k d lt. all (suc k) d (omega arith)

pub dropped_within : (n : ℕ) (lines : List Line) → All IsWithin lines → All IsWithin (drop n lines)
dropped_within zero lines all = all
dropped_within (suc n) [] all = all
dropped_within (suc n) (l ∷ lines) all = dropped_within n lines (tail_has l lines all)

sides_within : (side : Side) (lines : List Line) → All IsWithin lines → All (λ l. IsPlace (side_of side l)) lines
sides_within side [] all = λ k d lt. absurd (omega (arith, lt))
sides_within side (l ∷ lines) all = All-cons (λ l. IsPlace (side_of side l)) l lines (side_within side l (all 0 l (omega arith))) (sides_within side lines (tail_has l lines all))

pub before_within : (heading : Heading) (lines : List Line) → All IsWithin lines → All IsWithin (before_heading heading lines)
before_within heading [] all = all
before_within heading (l ∷ lines) all = chosen (is_heading heading l) (all 0 l (omega arith)) (before_within heading lines (tail_has l lines all))
  where
    chosen : (b : Bool) → IsWithin l → All IsWithin (before_heading heading lines) → All IsWithin (if b then [] else l ∷ before_heading heading lines)
    chosen true one rest = λ k d lt. absurd (omega (arith, lt))
    chosen false one rest = All-cons IsWithin l (before_heading heading lines) one rest

pub behind_within : (heading : Heading) (lines : List Line) → All IsWithin lines → All IsWithin (behind_heading heading lines)
behind_within heading [] all = all
behind_within heading (l ∷ lines) all = chosen (is_heading heading l) (tail_has l lines all) (behind_within heading lines (tail_has l lines all))
  where
    chosen : (b : Bool) → All IsWithin lines → All IsWithin (behind_heading heading lines) → All IsWithin (if b then lines else behind_heading heading lines)
    chosen true one rest = one
    chosen false one rest = rest

pub side_known : (side : Side) (header strips : List Line) (places : List ℤ) → strips ≡ drop 3 header → All IsWithin header
    → (All (λ l. IsPlace (side_of side l)) strips → places ≡ map (side_of side) strips) → places ≡ map (side_of side) (drop 3 header)
side_known side header strips places is within known =
    let strips_within : All IsWithin strips = subst (All IsWithin) (sym is) (dropped_within 3 header within) in
    known (sides_within side strips strips_within) ∙ ap (map (side_of side)) is

-- a place is read from 64 bits as it was written to them
pub place_fits : (z : ℤ) → IsPlace z → to_z w64 (of_z w64 z) ≡ z
place_fits (pos k) is = let small : k < 2 ^ 63 = omega (arith, ints, is.high) in to_z-of_z w64 (pos k) (record { sfits = small })
place_fits (negsuc k) is = let small : k < 2 ^ 63 = omega (arith, ints, is.low) in to_z-of_z w64 (negsuc k) (record { sfits = small })

-- a place that was kept in 128 bits, and then in 64
pub from_kept : (z w : ℤ) → (IsPlace (to_z w128 (of_z w128 z)) → w ≡ to_z w128 (of_z w128 z)) → IsPlace z → to_z w64 (of_z w64 w) ≡ z
from_kept z w known is =
    let same : to_z w128 (of_z w128 z) ≡ z = to_z-of_z w128 z (fits_wide z is) in
    ap (λ (k : ℤ). to_z w64 (of_z w64 k)) (known (subst IsPlace (sym same) is) ∙ same) ∙ place_fits z is

pub placed_is : (l r b t : List ℤ) (w h width height : ℤ) (axis : Option ℤ) (header : List Line) → l ≡ map (side_of Left) (drop 3 header) → r ≡ map (side_of Right) (drop 3 header)
    → b ≡ map (side_of Bottom) (drop 3 header) → t ≡ map (side_of Top) (drop 3 header) → axis ≡ axis_of header → w ≡ width → h ≡ height
    → record { l = l; r = r; b = b; t = t; width = w; height = h; axis = axis } ≡ placed_of width height header
placed_is l r b t w h width height axis header e1 e2 e3 e4 e5 e6 e7 = cc

pub gauged_is : (l r b t : List ℤ) (w width : ℤ) (axis : Option ℤ) (header : List Line) → l ≡ map (side_of Left) (drop 3 header) → r ≡ map (side_of Right) (drop 3 header)
    → b ≡ [] → t ≡ [] → axis ≡ axis_of header → w ≡ width
    → record { l = l; r = r; b = b; t = t; width = w; height = pos 0; axis = axis } ≡ gauged_of width header
gauged_is l r b t w width axis header e1 e2 e3 e4 e5 e6 = cc

-- the first proof of a body, and the second
pub first_known : (heading : Heading) (proof : Proof) (lines body : List Line) → lines ≡ before_heading heading body → (All IsWithin lines → proof ≡ proof_of lines) → All IsWithin body
    → proof ≡ proof_of (before_heading heading body)
first_known heading proof lines body is known within = known (subst (All IsWithin) (sym is) (before_within heading body within)) ∙ ap proof_of is

pub second_known : (proof : Proof) (behind lines body : List Line) → behind ≡ behind_heading Upwards body → lines ≡ before_heading End behind → (All IsWithin lines → proof ≡ proof_of lines)
    → All IsWithin body → proof ≡ second_of body
second_known proof behind lines body behind_is is known within =
    first_known End proof lines behind is known (subst (All IsWithin) (sym behind_is) (behind_within Upwards body within)) ∙ ap (λ (ls : List Line). proof_of (before_heading End ls)) behind_is

-- equal parts of a claim
pub three : {A B C R : Type 0} (f : A → B → C → R) (a a' : A) (b b' : B) (c c' : C) → a ≡ a' → b ≡ b' → c ≡ c' → f a b c ≡ f a' b' c'
three f a a' b b' c c' e1 e2 e3 = cc

pub done_known : (claim : Claim) (l : Line) (width height w h : ℤ) (header body : List Line) → l ≡ line.Done width height → (IsPlace width → w ≡ width) → (IsPlace height → h ≡ height)
    → (IsPlace w → IsPlace h → All IsWithin header → All IsWithin body → claim ≡ Done (placed_of w h header) (proof_of (before_heading Upwards body)) (second_of body))
    → IsWithin l → All IsWithin header → All IsWithin body → claim ≡ claim_by (Some l) header body
done_known claim l width height w h header body is first second known within header_within body_within =
    let both : IsWithin (line.Done width height) = subst IsWithin is within in
    let wide : IsPlace width = both 0 width (omega arith) in
    let high : IsPlace height = both 1 width (omega arith) in
    let w_is = first wide in
    let h_is = second high in
    known (subst IsPlace (sym w_is) wide) (subst IsPlace (sym h_is) high) header_within body_within
    ∙ ap (λ (z : ℤ). Done (placed_of z h header) (proof_of (before_heading Upwards body)) (second_of body)) w_is
    ∙ ap (λ (z : ℤ). Done (placed_of width z header) (proof_of (before_heading Upwards body)) (second_of body)) h_is
    ∙ ap (λ (k : Line). claim_by (Some k) header body) (sym is)

pub of_known : (claim : Claim) (header body lines : List Line) → header ≡ before_heading Across lines → body ≡ behind_heading Across lines
    → (All IsWithin header → All IsWithin body → claim ≡ claim_with header body) → All IsWithin lines → claim ≡ claim_of lines
of_known claim header body lines header_is body_is known within =
    known (subst (All IsWithin) (sym header_is) (before_within Across lines within)) (subst (All IsWithin) (sym body_is) (behind_within Across lines within))
    ∙ ap (λ (ls : List Line). claim_with ls body) header_is ∙ ap (claim_with (before_heading Across lines)) body_is

-- a slice up to the end
pub rest_is : (i : ℕ) (lines : List Line) → take (length lines - i) (drop i lines) ≡ drop i lines
rest_is i lines = ap (λ (k : ℕ). take k (drop i lines)) (sym (length-drop i lines)) ∙ take-length (drop i lines)

with_more : (nodes rest : List Node) (node : Option Node) → nodes ++ with_node node rest ≡ one_node_more nodes node ++ rest
with_more nodes rest None = refl
with_more nodes rest (Some node) = sym (append_assoc nodes (node ∷ []) rest)

-- a turn of the loop over lines
pub node_turn : (lines : List Line) (i : ℕ) (d : Line) (nodes new all_nodes : List Node) → i < length lines → all_nodes ≡ nodes ++ nodes_of (drop i lines) → new ≡ one_node_more nodes (first_node (drop i lines))
    → all_nodes ≡ new ++ nodes_of (drop (i + 1) lines)
node_turn lines i d nodes new all_nodes lt so_far now =
    let here = drop-cons lines i d lt in
    let rest : nodes_of (drop i lines) ≡ with_node (first_node (drop i lines)) (nodes_of (drop (suc i) lines)) =
    ap nodes_of here ∙ ap (λ (ls : List Line). with_node (first_node ls) (nodes_of (drop (suc i) lines))) (sym here) in
    so_far ∙ ap (λ (ns : List Node). nodes ++ ns) rest ∙ with_more nodes (nodes_of (drop (suc i) lines)) (first_node (drop i lines))
    ∙ ap (λ (ns : List Node). ns ++ nodes_of (drop (suc i) lines)) (sym now) ∙ ap (λ (k : ℕ). new ++ nodes_of (drop k lines)) (sym (add-one i))
