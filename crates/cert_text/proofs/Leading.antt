-- The lines of a claim may stand where they stand.
use Rattle.std.proofs.Common.{ℕ, suc, zero, List, [], ◌∷◌, ◌++◌, length, map, ℤ, pos, Option, Some, None, sym, subst, append_assoc}
use Rattle.std.specs.List.{flat_map}
use Rattle.std.proofs.lemmas.List.{append-nil}
use Rattle.std.proofs.lemmas.List.Concat.{flat_map-append}
use Rattle.rt_rows.specs.declared.positions.Positions.{Positions}
use Rattle.rt_rows.specs.declared.proof.Share.{Share}
use Rattle.rt_rows.specs.declared.proof.Node.{Node}
use Rattle.rt_rows.specs.declared.proof.Proof.{Proof}
use Rattle.cert_lines.specs.declared.line.Line.{Line}
use Rattle.cert_lines.specs.declared.line.Line.TheVariants as line
use Rattle.cert_text.specs.declared.claim.Claim.{Claim}
use Rattle.cert_text.specs.declared.claim.Claim.TheVariants.{Done, NoneAcross, NoneUpwards}
use Rattle.cert_text.specs.Claims.{axis_line, strip_line, column_line, each_strip, share_line, node_lines, proof_lines, claim_lines, IsTree, IsInForm}
use Rattle.cert_text.specs.Claims.IsTree.{branch as is_branch, cut as is_cut, bound as is_bound, empty as is_empty}
use Rattle.cert_text.specs.Wants.{Want, shares, both_trees, Allows, Leads, at_first}
use Rattle.cert_text.specs.Wants.Want.{ATitle, AClaim, AnAxis, Strips, Columns, AnAcross, AnUpwards, ATree, AShare, AnEnd}
use Rattle.cert_text.specs.Wants.Allows.{title as allow_title, done as allow_done, none_across as allow_none_across, none_upwards as allow_none_upwards, no_axis as allow_no_axis, axis as allow_axis, strip as allow_strip, behind_strips as allow_behind_strips, column as allow_column, behind_columns as allow_behind_columns, across as allow_across, upwards as allow_upwards, branch as allow_branch, cut as allow_cut, bound as allow_bound, empty as allow_empty, share as allow_share, end_line as allow_end_line}
use Rattle.cert_text.specs.Wants.Leads.{here, onward}

-- lines behind lines
pub leads_on : (a b c : List Want) (front back : List Line) → Leads a front b → Leads b back c → Leads a (front ++ back) c
leads_on _ _ c _ back (here wants) second = second
leads_on _ _ c _ back (onward want now rest behind l ls allowed first) second =
    onward want now rest c l (ls ++ back) allowed (leads_on (now ++ rest) behind c ls back first second)

-- one line
pub one : (want : Want) (now rest : List Want) (l : Line) → Allows want l now → Leads (want ∷ rest) (l ∷ []) (now ++ rest)
one want now rest l allowed = onward want now rest (now ++ rest) l [] allowed (here (now ++ rest))

-- the lines of shares
shares_lead : (taken : List Share) (rest : List Want) → Leads (shares (length taken) ++ rest) (map share_line taken) rest
shares_lead [] rest = here rest
shares_lead (share ∷ taken) rest =
    onward AShare [] (shares (length taken) ++ rest) rest (share_line share) (map share_line taken) (allow_share share.times share.of) (shares_lead taken rest)

-- the lines of a tree
tree_leads : (nodes : List Node) (rest : List Want) → IsTree nodes → Leads (ATree ∷ rest) (flat_map node_lines nodes) rest
tree_leads _ rest (is_branch var at first second one_tree other) =
    subst (λ (ls : List Line). Leads (ATree ∷ rest) (line.Branch var at ∷ ls) rest) (sym (flat_map-append node_lines first second))
    (onward ATree (ATree ∷ ATree ∷ []) rest rest (line.Branch var at) _ (allow_branch var at)
    (leads_on (ATree ∷ ATree ∷ rest) (ATree ∷ rest) rest _ _ (tree_leads first (ATree ∷ rest) one_tree) (tree_leads second rest other)))
tree_leads _ rest (is_cut over taken behind one_tree) =
    onward ATree (shares (length taken) ++ ATree ∷ []) rest rest (line.Cut over (pos (length taken))) _ (allow_cut over (length taken))
    (subst (λ (ws : List Want). Leads ws (map share_line taken ++ flat_map node_lines behind) rest) (sym (append_assoc (shares (length taken)) (ATree ∷ []) rest))
    (leads_on (shares (length taken) ++ (ATree ∷ rest)) (ATree ∷ rest) rest _ _ (shares_lead taken (ATree ∷ rest)) (tree_leads behind rest one_tree)))
tree_leads _ rest (is_bound over taken) =
    onward ATree (shares (length taken)) rest rest (line.Bound over (pos (length taken))) _ (allow_bound over (length taken))
    (subst (λ (ls : List Line). Leads (shares (length taken) ++ rest) ls rest) (sym (append-nil (map share_line taken))) (shares_lead taken rest))
tree_leads _ rest (is_empty over taken) =
    onward ATree (shares (length taken)) rest rest (line.Empty over (pos (length taken))) _ (allow_empty over (length taken))
    (subst (λ (ls : List Line). Leads (shares (length taken) ++ rest) ls rest) (sym (append-nil (map share_line taken))) (shares_lead taken rest))

-- the lines of strips
strips_lead : (at : Positions) (n : ℕ) (rest : List Want) → Leads (Strips 0 ∷ rest) (each_strip (strip_line at) n) (Strips n ∷ rest)
strips_lead at zero rest = here (Strips 0 ∷ rest)
strips_lead at (suc n) rest =
    leads_on (Strips 0 ∷ rest) (Strips n ∷ rest) (Strips (suc n) ∷ rest) (each_strip (strip_line at) n) (strip_line at n ∷ []) (strips_lead at n rest)
    (one (Strips n) (Strips (suc n) ∷ []) rest (strip_line at n) (allow_strip n _ _ _ _))

columns_lead : (at : Positions) (n : ℕ) (rest : List Want) → Leads (Columns 0 ∷ rest) (each_strip (column_line at) n) (Columns n ∷ rest)
columns_lead at zero rest = here (Columns 0 ∷ rest)
columns_lead at (suc n) rest =
    leads_on (Columns 0 ∷ rest) (Columns n ∷ rest) (Columns (suc n) ∷ rest) (each_strip (column_line at) n) (column_line at n ∷ []) (columns_lead at n rest)
    (one (Columns n) (Columns (suc n) ∷ []) rest (column_line at n) (allow_column n _ _))

-- the line of the axis
axis_leads : (axis : Option ℤ) (rest behind : List Want) (lines : List Line) → Leads rest lines behind → Leads (AnAxis ∷ rest) (axis_line axis ∷ lines) behind
axis_leads None rest behind lines leads = onward AnAxis [] rest behind _ lines allow_no_axis leads
axis_leads (Some twice) rest behind lines leads = onward AnAxis [] rest behind _ lines (allow_axis twice) leads

-- a tree and the end
last_leads : (proof : Proof) → IsTree proof.nodes → Leads (ATree ∷ AnEnd ∷ []) (proof_lines proof ++ line.End ∷ []) []
last_leads proof is =
    leads_on (ATree ∷ AnEnd ∷ []) (AnEnd ∷ []) [] (proof_lines proof) (line.End ∷ []) (tree_leads proof.nodes (AnEnd ∷ []) is) (one AnEnd [] [] line.End allow_end_line)

-- both trees, behind the first heading
both_lead : (across upwards : Proof) → IsTree across.nodes → IsTree upwards.nodes
    → Leads both_trees (proof_lines across ++ line.Upwards ∷ (proof_lines upwards ++ line.End ∷ [])) []
both_lead across upwards first second =
    leads_on both_trees (AnUpwards ∷ ATree ∷ AnEnd ∷ []) [] (proof_lines across) _ (tree_leads across.nodes (AnUpwards ∷ ATree ∷ AnEnd ∷ []) first)
    (onward AnUpwards [] (ATree ∷ AnEnd ∷ []) [] line.Upwards _ allow_upwards (last_leads upwards second))

-- the lines of a claim
pub claim_leads : (claim : Claim) → IsInForm claim → Leads at_first (claim_lines claim) []
claim_leads (Done at across upwards) form =
    onward ATitle [] (AClaim ∷ []) [] line.Title _ allow_title
    (onward AClaim (AnAxis ∷ Strips 0 ∷ both_trees) [] [] (line.Done at.width at.height) _ (allow_done at.width at.height)
    (axis_leads at.axis (Strips 0 ∷ both_trees) [] _
    (leads_on (Strips 0 ∷ both_trees) (Strips (length at.l) ∷ both_trees) [] _ _ (strips_lead at (length at.l) both_trees)
    (onward (Strips (length at.l)) [] both_trees [] line.Across _ (allow_behind_strips (length at.l)) (both_lead across upwards form.across_tree.one form.upwards_tree.one)))))
claim_leads (NoneAcross across) form =
    onward ATitle [] (AClaim ∷ []) [] line.Title _ allow_title
    (onward AClaim (AnAcross ∷ ATree ∷ AnEnd ∷ []) [] [] line.NoneAcross _ allow_none_across
    (onward AnAcross [] (ATree ∷ AnEnd ∷ []) [] line.Across _ allow_across (last_leads across form.one)))
claim_leads (NoneUpwards at across upwards) form =
    onward ATitle [] (AClaim ∷ []) [] line.Title _ allow_title
    (onward AClaim (AnAxis ∷ Columns 0 ∷ both_trees) [] [] (line.NoneUpwards at.width) _ (allow_none_upwards at.width)
    (axis_leads at.axis (Columns 0 ∷ both_trees) [] _
    (leads_on (Columns 0 ∷ both_trees) (Columns (length at.l) ∷ both_trees) [] _ _ (columns_lead at (length at.l) both_trees)
    (onward (Columns (length at.l)) [] both_trees [] line.Across _ (allow_behind_columns (length at.l)) (both_lead across upwards form.across_tree.one form.upwards_tree.one)))))
