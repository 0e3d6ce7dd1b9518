-- Lines that lead from what is wanted to nothing are what was wanted: all lines of a certificate are those of a claim.
use Rattle.std.proofs.Common.{◌≡◌, ℕ, suc, zero, List, [], ◌∷◌, ◌++◌, length, map, get_or, All, ℤ, pos, ◌≤ℤ◌, Option, Some, None, sym, ap, subst, ◌∙◌, append_assoc, refl, arith}
use Rattle.std.specs.List.{flat_map}
use Rattle.std.proofs.lemmas.List.{append-nil, length-map}
use Rattle.std.proofs.lemmas.List.Concat.{flat_map-append}
use Rattle.std.proofs.lemmas.List.Elements.{All-append, All-cons}
use Rattle.std.proofs.Math.ListN.{get_or-map}
use Rattle.rt_rows.specs.declared.row.Var.{Var}
use Rattle.rt_rows.specs.declared.positions.Positions.{Positions}
use Rattle.rt_rows.specs.declared.proof.Share.{Share}
use Rattle.rt_rows.specs.declared.proof.Node.{Node}
use Rattle.rt_rows.specs.declared.proof.Node.TheVariants.{Branch, Cut, Bound, Empty}
use Rattle.rt_rows.specs.declared.proof.Proof.{Proof}
use Rattle.cert_lines.specs.declared.line.Line.{Line}
use Rattle.cert_lines.specs.declared.line.Line.TheVariants as line
use Rattle.cert_lines.specs.Limits.{IsWithin}
use Rattle.cert_text.specs.declared.claim.Claim.{Claim}
use Rattle.cert_text.specs.declared.claim.Claim.TheVariants.{Done, NoneAcross, NoneUpwards}
use Rattle.cert_text.specs.Claims.{axis_line, strip_line, column_line, each_strip, share_line, node_lines, proof_lines, two_proofs, claim_lines, IsTree, HasDivisor, IsOneTree, IsInForm}
use Rattle.cert_text.specs.Claims.IsTree.{branch as is_branch, cut as is_cut, bound as is_bound, empty as is_empty}
use Rattle.cert_text.specs.Wants.{Want, shares, both_trees, Allows, Leads, at_first}
use Rattle.cert_text.specs.Wants.Want.{ATitle, AClaim, AnAxis, Strips, Columns, AnAcross, AnUpwards, ATree, AShare, AnEnd}
use Rattle.cert_text.specs.Wants.Allows.{title, done, none_across, none_upwards, no_axis, axis as with_axis, strip, behind_strips, column, behind_columns, across, upwards, branch, cut, bound, empty, share, end_line}
use Rattle.cert_text.specs.Wants.Leads.{here, onward}
use Rattle.cert_text.proofs.Placed.{numbered, all_ones}

-- the four sides of a strip
record Place : Type 0 where
  pub left : ℤ
  pub bottom : ℤ
  pub right : ℤ
  pub top : ℤ

abbrev nowhere : Place
nowhere = record { left = pos 0; bottom = pos 0; right = pos 0; top = pos 0 }

abbrev place_line : ℕ → Place → Line
place_line n p = line.Strip (pos n) p.left p.bottom p.right p.top

abbrev span_line : ℕ → Place → Line
span_line n p = line.Column (pos n) p.left p.right

-- what has these lines
record TreeOf (lines : List Line) : Type 0 where
  pub nodes : List Node
  pub is_tree : IsTree nodes
  pub divisors : All HasDivisor nodes
  pub lines_are : lines ≡ flat_map node_lines nodes

record ShareOf (lines : List Line) : Type 0 where
  pub share : Share
  pub lines_are : lines ≡ share_line share ∷ []

record AxisOf (lines : List Line) : Type 0 where
  pub axis : Option ℤ
  pub lines_are : lines ≡ axis_line axis ∷ []

record PlacesOf (line_of : ℕ → Place → Line) (n : ℕ) (lines : List Line) : Type 0 where
  pub places : List Place
  pub lines_are : lines ≡ numbered line_of n places ++ line.Across ∷ []

record ClaimOf (lines : List Line) : Type 0 where
  pub claim : Claim
  pub form : IsInForm claim
  pub lines_are : claim_lines claim ≡ line.Title ∷ lines

record IsThat (that : Line) (lines : List Line) : Type 0 where
  pub is : lines ≡ that ∷ []

-- the lines are what is wanted
abbrev Value : Want → List Line → Type 0
Value ATitle lines = IsThat line.Title lines
Value AClaim lines = ClaimOf lines
Value AnAxis lines = AxisOf lines
Value (Strips n) lines = PlacesOf place_line n lines
Value (Columns n) lines = PlacesOf span_line n lines
Value AnAcross lines = IsThat line.Across lines
Value AnUpwards lines = IsThat line.Upwards lines
Value ATree lines = TreeOf lines
Value AShare lines = ShareOf lines
Value AnEnd lines = IsThat line.End lines

-- the lines are what is wanted, one after another
abbrev Values : List Want → List Line → Type 0
Values [] lines = lines ≡ []
Values (want ∷ rest) lines = (a : List Line) × (b : List Line) × (lines ≡ a ++ b) × Value want a × Values rest b

-- lines of first things and others, parted
parted : (wants rest : List Want) (lines : List Line) → Values (wants ++ rest) lines → (a : List Line) × (b : List Line) × (lines ≡ a ++ b) × Values wants a × Values rest b
parted [] rest lines values = ([], lines, refl, refl, values)
parted (want ∷ wants) rest lines values =
    let more = parted wants rest values.1 values.4 in (
      values.0 ++ more.0,
      more.1,
      values.2 ∙ ap (λ (s : List Line). values.0 ++ s) more.2 ∙ sym (append_assoc values.0 more.0 more.1),
      (values.0, more.0, refl, values.3, more.3),
      more.4,
    )

-- the one thing that is wanted
single : (want : Want) (lines : List Line) → Values (want ∷ []) lines → Value want lines
single want lines values = subst (Value want) (sym (values.2 ∙ ap (λ (s : List Line). values.0 ++ s) values.4 ∙ append-nil values.0)) values.3

-- the shares that are wanted, and how many they are
record SharesOf (count : ℕ) (lines : List Line) : Type 0 where
  pub taken : List Share
  pub many : length taken ≡ count
  pub lines_are : lines ≡ map share_line taken

shares_of : (count : ℕ) (lines : List Line) → Values (shares count) lines → SharesOf count lines
shares_of zero lines values = record { taken = []; many = refl; lines_are = values }
shares_of (suc count) lines values =
    let rest = shares_of count values.1 values.4 in
    record {
      taken = values.3.share ∷ rest.taken;
      many = ap suc rest.many;
      lines_are = values.2 ∙ ap (λ (s : List Line). s ++ values.1) values.3.lines_are ∙ ap (λ (s : List Line). share_line values.3.share ∷ s) rest.lines_are;
    }

-- a leaf
leaf : (over : ℤ) (count : ℕ) (lines : List Line) (node : List Share → Node) (l : ℤ → Line) → ((taken : List Share) → IsTree (node taken ∷ [])) → ((taken : List Share) → HasDivisor (node taken))
    → ((taken : List Share) → node_lines (node taken) ≡ l (pos (length taken)) ∷ map share_line taken) → Values (shares count) lines → TreeOf (l (pos count) ∷ lines)
leaf over count lines node l is_leaf divisor node_is values =
    let known = shares_of count lines values in
    record {
      nodes = node known.taken ∷ [];
      is_tree = is_leaf known.taken;
      divisors = All-cons HasDivisor (node known.taken) [] (divisor known.taken) (λ k d lt. absurd (omega (arith, lt)));
      lines_are = ap (λ (s : List Line). l (pos count) ∷ s) known.lines_are ∙ ap (λ (k : ℕ). l (pos k) ∷ map share_line known.taken) (sym known.many) ∙ sym (node_is known.taken)
          ∙ sym (append-nil (node_lines (node known.taken)));
    }

cut_tree : (over : ℤ) (count : ℕ) (lines : List Line) → pos 1 ≤ℤ over → Values (shares count ++ ATree ∷ []) lines → TreeOf (line.Cut over (pos count) ∷ lines)
cut_tree over count lines divisor values =
    let parts = parted (shares count) (ATree ∷ []) lines values in
    let known = shares_of count parts.0 parts.3 in
    let behind = single ATree parts.1 parts.4 in
    record {
      nodes = Cut over known.taken ∷ behind.nodes;
      is_tree = is_cut over known.taken behind.nodes behind.is_tree;
      divisors = All-cons HasDivisor (Cut over known.taken) behind.nodes divisor behind.divisors;
      lines_are = ap (λ (s : List Line). line.Cut over (pos count) ∷ s) (parts.2 ∙ ap (λ (s : List Line). s ++ parts.1) known.lines_are ∙ ap (λ (s : List Line). map share_line known.taken ++ s) behind.lines_are)
          ∙ ap (λ (k : ℕ). line.Cut over (pos k) ∷ (map share_line known.taken ++ flat_map node_lines behind.nodes)) (sym known.many);
    }

branch_tree : (var : Var) (at : ℤ) (lines : List Line) → Values (ATree ∷ ATree ∷ []) lines → TreeOf (line.Branch var at ∷ lines)
branch_tree var at lines values =
    let second = single ATree values.1 values.4 in
    record {
      nodes = Branch var at ∷ (values.3.nodes ++ second.nodes);
      is_tree = is_branch var at values.3.nodes second.nodes values.3.is_tree second.is_tree;
      divisors = All-cons HasDivisor (Branch var at) (values.3.nodes ++ second.nodes) tt (All-append HasDivisor values.3.nodes second.nodes values.3.divisors second.divisors);
      lines_are = ap (λ (s : List Line). line.Branch var at ∷ s)
          (values.2 ∙ ap (λ (s : List Line). s ++ values.1) values.3.lines_are ∙ ap (λ (s : List Line). flat_map node_lines values.3.nodes ++ s) second.lines_are
          ∙ sym (flat_map-append node_lines values.3.nodes second.nodes));
    }

-- one more strip before the others
more_places : (line_of : ℕ → Place → Line) (n : ℕ) (p : Place) (lines : List Line) → PlacesOf line_of (suc n) lines → PlacesOf line_of n (line_of n p ∷ lines)
more_places line_of n p lines rest = record { places = p ∷ rest.places; lines_are = ap (λ (s : List Line). line_of n p ∷ s) rest.lines_are }

no_places : (line_of : ℕ → Place → Line) (n : ℕ) (lines : List Line) → lines ≡ [] → PlacesOf line_of n (line.Across ∷ lines)
no_places line_of n lines none = record { places = []; lines_are = ap (λ (s : List Line). line.Across ∷ s) none }

-- both proofs, behind the first heading
record BothOf (lines : List Line) : Type 0 where
  pub across : Proof
  pub upwards : Proof
  pub across_is : IsOneTree across
  pub upwards_is : IsOneTree upwards
  pub lines_are : lines ≡ proof_lines across ++ line.Upwards ∷ (proof_lines upwards ++ line.End ∷ [])

proof_is : (lines : List Line) (known : TreeOf lines) → IsOneTree (record { nodes = known.nodes })
proof_is lines known = record { one = known.is_tree; divisors = known.divisors }

last_of : (tree rest : List Line) (known : TreeOf tree) → Values (AnEnd ∷ []) rest → tree ++ rest ≡ flat_map node_lines known.nodes ++ line.End ∷ []
last_of tree rest known values = ap (λ (s : List Line). s ++ rest) known.lines_are ∙ ap (λ (s : List Line). flat_map node_lines known.nodes ++ s) (single AnEnd rest values).is

both_of : (lines : List Line) → Values both_trees lines → BothOf lines
both_of lines values =
    let first = values.3 in
    let heading = values.4 in
    let second = heading.4 in
    record {
      across = record { nodes = first.nodes };
      upwards = record { nodes = second.3.nodes };
      across_is = proof_is values.0 first;
      upwards_is = proof_is second.0 second.3;
      lines_are = values.2 ∙ ap (λ (s : List Line). s ++ values.1) first.lines_are
          ∙ ap (λ (s : List Line). flat_map node_lines first.nodes ++ s)
          (heading.2 ∙ ap (λ (s : List Line). s ++ heading.1) heading.3.is
          ∙ ap (λ (s : List Line). line.Upwards ∷ s) (second.2 ∙ last_of second.0 second.1 second.3 second.4));
    }

-- positions with these places
abbrev placed : ℤ → ℤ → Option ℤ → List Place → Positions
placed width height axis ps = record {
  l = map (λ p. p.left) ps;
  r = map (λ p. p.right) ps;
  b = map (λ p. p.bottom) ps;
  t = map (λ p. p.top) ps;
  width = width;
  height = height;
  axis = axis;
}

abbrev gauged : ℤ → Option ℤ → List Place → Positions
gauged width axis ps = record {
  l = map (λ p. p.left) ps;
  r = map (λ p. p.right) ps;
  b = [];
  t = [];
  width = width;
  height = pos 0;
  axis = axis;
}

strip_is : (width height : ℤ) (axis : Option ℤ) (ps : List Place) (i : ℕ) → strip_line (placed width height axis ps) i ≡ place_line i (get_or ps i nowhere)
strip_is width height axis ps i =
    let l = get_or-map (λ (p : Place). p.left) ps i nowhere in
    let b = get_or-map (λ (p : Place). p.bottom) ps i nowhere in
    let r = get_or-map (λ (p : Place). p.right) ps i nowhere in
    let t = get_or-map (λ (p : Place). p.top) ps i nowhere in
    cc

column_is : (width : ℤ) (axis : Option ℤ) (ps : List Place) (i : ℕ) → column_line (gauged width axis ps) i ≡ span_line i (get_or ps i nowhere)
column_is width axis ps i =
    let l = get_or-map (λ (p : Place). p.left) ps i nowhere in
    let r = get_or-map (λ (p : Place). p.right) ps i nowhere in
    cc

strips_are : (width height : ℤ) (axis : Option ℤ) (ps : List Place) → each_strip (strip_line (placed width height axis ps)) (length (map (λ (p : Place). p.left) ps)) ≡ numbered place_line 0 ps
strips_are width height axis ps =
    ap (each_strip (strip_line (placed width height axis ps))) (length-map ps (λ (p : Place). p.left))
    ∙ all_ones place_line (strip_line (placed width height axis ps)) ps nowhere (strip_is width height axis ps)

columns_are : (width : ℤ) (axis : Option ℤ) (ps : List Place) → each_strip (column_line (gauged width axis ps)) (length (map (λ (p : Place). p.left) ps)) ≡ numbered span_line 0 ps
columns_are width axis ps =
    ap (each_strip (column_line (gauged width axis ps))) (length-map ps (λ (p : Place). p.left))
    ∙ all_ones span_line (column_line (gauged width axis ps)) ps nowhere (column_is width axis ps)

-- the lines between the claim and the first tree
header_lines : (line_of : ℕ → Place → Line) (want : Want) (lines : List Line) (axis : List Line) (axis_known : AxisOf axis) (strips rest : List Line) (places : PlacesOf line_of 0 strips)
    → lines ≡ axis ++ (strips ++ rest) → lines ≡ axis_line axis_known.axis ∷ (numbered line_of 0 places.places ++ line.Across ∷ rest)
header_lines line_of want lines axis axis_known strips rest places is =
    is ∙ ap (λ (s : List Line). s ++ (strips ++ rest)) axis_known.lines_are
    ∙ ap (λ (s : List Line). axis_line axis_known.axis ∷ (s ++ rest)) places.lines_are
    ∙ ap (λ (s : List Line). axis_line axis_known.axis ∷ s) (append_assoc (numbered line_of 0 places.places) (line.Across ∷ []) rest)

done_claim : (width height : ℤ) (lines : List Line) → Values (AnAxis ∷ Strips 0 ∷ both_trees) lines → ClaimOf (line.Done width height ∷ lines)
done_claim width height lines values =
    let axis_known = values.3 in
    let behind = values.4 in
    let places = behind.3 in
    let both = both_of behind.1 behind.4 in
    record {
      claim = Done (placed width height axis_known.axis places.places) both.across both.upwards;
      form = record {
        sides = record {
          right = length-map places.places (λ (p : Place). p.right) ∙ sym (length-map places.places (λ (p : Place). p.left));
          bottom = length-map places.places (λ (p : Place). p.bottom) ∙ sym (length-map places.places (λ (p : Place). p.left));
          top = length-map places.places (λ (p : Place). p.top) ∙ sym (length-map places.places (λ (p : Place). p.left));
        };
        across_tree = both.across_is;
        upwards_tree = both.upwards_is;
      };
      lines_are = ap (λ (s : List Line). line.Title ∷ line.Done width height ∷ axis_line axis_known.axis ∷ (s ++ two_proofs both.across both.upwards)) (strips_are width height axis_known.axis places.places)
          ∙ sym (ap (λ (s : List Line). line.Title ∷ line.Done width height ∷ s)
          (header_lines place_line (Strips 0) lines values.0 axis_known behind.0 behind.1 places (values.2 ∙ ap (λ (s : List Line). values.0 ++ s) behind.2)
          ∙ ap (λ (s : List Line). axis_line axis_known.axis ∷ (numbered place_line 0 places.places ++ line.Across ∷ s)) both.lines_are));
    }

none_upwards_claim : (width : ℤ) (lines : List Line) → Values (AnAxis ∷ Columns 0 ∷ both_trees) lines → ClaimOf (line.NoneUpwards width ∷ lines)
none_upwards_claim width lines values =
    let axis_known = values.3 in
    let behind = values.4 in
    let places = behind.3 in
    let both = both_of behind.1 behind.4 in
    record {
      claim = NoneUpwards (gauged width axis_known.axis places.places) both.across both.upwards;
      form = record {
        columns = record {
          right = length-map places.places (λ (p : Place). p.right) ∙ sym (length-map places.places (λ (p : Place). p.left));
          no_bottom = refl;
          no_top = refl;
          no_height = refl;
        };
        across_tree = both.across_is;
        upwards_tree = both.upwards_is;
      };
      lines_are = ap (λ (s : List Line). line.Title ∷ line.NoneUpwards width ∷ axis_line axis_known.axis ∷ (s ++ two_proofs both.across both.upwards)) (columns_are width axis_known.axis places.places)
          ∙ sym (ap (λ (s : List Line). line.Title ∷ line.NoneUpwards width ∷ s)
          (header_lines span_line (Columns 0) lines values.0 axis_known behind.0 behind.1 places (values.2 ∙ ap (λ (s : List Line). values.0 ++ s) behind.2)
          ∙ ap (λ (s : List Line). axis_line axis_known.axis ∷ (numbered span_line 0 places.places ++ line.Across ∷ s)) both.lines_are));
    }

none_across_claim : (lines : List Line) → Values (AnAcross ∷ ATree ∷ AnEnd ∷ []) lines → ClaimOf (line.NoneAcross ∷ lines)
none_across_claim lines values =
    let behind = values.4 in
    record {
      claim = NoneAcross (record { nodes = behind.3.nodes });
      form = proof_is behind.0 behind.3;
      lines_are = sym (ap (λ (s : List Line). line.Title ∷ line.NoneAcross ∷ s)
          (values.2 ∙ ap (λ (s : List Line). s ++ values.1) values.3.is
          ∙ ap (λ (s : List Line). line.Across ∷ s) (behind.2 ∙ last_of behind.0 behind.1 behind.3 behind.4)));
    }

-- a line with what it allows behind it
produced : (want : Want) (l : Line) (now : List Want) (lines : List Line) → Allows want l now → IsWithin l → Values now lines → Value want (l ∷ lines)
produced _ _ _ lines title within values = record { is = ap (λ (s : List Line). line.Title ∷ s) values }
produced _ _ _ lines (done width height) within values = done_claim width height lines values
produced _ _ _ lines none_across within values = none_across_claim lines values
produced _ _ _ lines (none_upwards width) within values = none_upwards_claim width lines values
produced _ _ _ lines no_axis within values = record { axis = None; lines_are = ap (λ (s : List Line). line.NoAxis ∷ s) values }
produced _ _ _ lines (with_axis twice) within values = record { axis = Some twice; lines_are = ap (λ (s : List Line). line.Axis twice ∷ s) values }
produced _ _ _ lines (strip n left bottom right top) within values =
    more_places place_line n (record { left = left; bottom = bottom; right = right; top = top }) lines (single (Strips (suc n)) lines values)
produced _ _ _ lines (behind_strips n) within values = no_places place_line n lines values
produced _ _ _ lines (column n left right) within values =
    more_places span_line n (record { left = left; bottom = pos 0; right = right; top = pos 0 }) lines (single (Columns (suc n)) lines values)
produced _ _ _ lines (behind_columns n) within values = no_places span_line n lines values
produced _ _ _ lines across within values = record { is = ap (λ (s : List Line). line.Across ∷ s) values }
produced _ _ _ lines upwards within values = record { is = ap (λ (s : List Line). line.Upwards ∷ s) values }
produced _ _ _ lines (branch var at) within values = branch_tree var at lines values
produced _ _ _ lines (cut over count) within values = cut_tree over count lines within.divisor.low values
produced _ _ _ lines (bound over count) within values =
    leaf over count lines (Bound over) (line.Bound over) (is_bound over) (λ taken. within.divisor.low) (λ taken. refl) values
produced _ _ _ lines (empty over count) within values =
    leaf over count lines (Empty over) (line.Empty over) (is_empty over) (λ taken. within.divisor.low) (λ taken. refl) values
produced _ _ _ lines (share times of) within values =
    record { share = record { times = times; of = of }; lines_are = ap (λ (s : List Line). line.Share times of ∷ s) values }
produced _ _ _ lines end_line within values = record { is = ap (λ (s : List Line). line.End ∷ s) values }

-- lines that lead from what is wanted to nothing
are_wanted : (wants behind : List Want) (lines : List Line) → Leads wants lines behind → All IsWithin lines → behind ≡ [] → Values wants lines
are_wanted _ _ _ (here wants) within none = subst (λ (ws : List Want). Values ws []) (sym none) refl
are_wanted _ _ _ (onward want now rest behind l lines allowed leads) within none =
    let parts = parted now rest lines (are_wanted (now ++ rest) behind lines leads (λ k d lt. within (suc k) d (omega (arith, lt))) none) in
    (l ∷ parts.0, parts.1, ap (λ (s : List Line). l ∷ s) parts.2, produced want l now parts.0 allowed (within 0 l (omega arith)) parts.3, parts.4)

-- all lines of a certificate are those of a claim in form
pub record LinesOf (lines : List Line) : Type 0 where
  pub claim : Claim
  pub form : IsInForm claim
  pub lines_are : claim_lines claim ≡ lines

pub are_lines : (lines : List Line) → Leads at_first lines [] → All IsWithin lines → LinesOf lines
are_lines lines leads within =
    let values = are_wanted at_first [] lines leads within refl in
    let known = single AClaim values.1 values.4 in
    record {
      claim = known.claim;
      form = known.form;
      lines_are = known.lines_are ∙ sym (values.2 ∙ ap (λ (s : List Line). s ++ values.1) values.3.is);
    }
