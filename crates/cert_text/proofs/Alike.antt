-- A line allows one thing at most, so lines lead to one thing at most.
use Rattle.std.proofs.Common.{◌≡◌, suc, pos, List, [], ◌∷◌, ◌++◌, sym, subst, ◌∙◌, refl}
use Rattle.cert_lines.specs.declared.line.Line.{Line}
use Rattle.cert_lines.specs.declared.line.Line.TheVariants as line
use Rattle.cert_text.specs.Wants.{Want, shares, both_trees, Allows, Leads}
use Rattle.cert_text.specs.Wants.Want.{AClaim, AnAxis, Strips, Columns, AnAcross, ATree, AnEnd}
use Rattle.cert_text.specs.Wants.Allows.{title, done, none_across, none_upwards, no_axis, axis, strip, behind_strips, column, behind_columns, across, upwards, branch, cut, bound, empty, share, end_line}
use Rattle.cert_text.specs.Wants.Leads.{here, onward}

-- what a line allows, where it allows something
abbrev next : Want → Line → List Want
next AClaim (line.Done width height) = AnAxis ∷ Strips 0 ∷ both_trees
next AClaim line.NoneAcross = AnAcross ∷ ATree ∷ AnEnd ∷ []
next AClaim (line.NoneUpwards width) = AnAxis ∷ Columns 0 ∷ both_trees
next (Strips n) (line.Strip number left bottom right top) = Strips (suc n) ∷ []
next (Columns n) (line.Column number left right) = Columns (suc n) ∷ []
next ATree (line.Branch var at) = ATree ∷ ATree ∷ []
next ATree (line.Cut over (pos count)) = shares count ++ ATree ∷ []
next ATree (line.Bound over (pos count)) = shares count
next ATree (line.Empty over (pos count)) = shares count
next _ _ = []

is_next : (want : Want) (l : Line) (now : List Want) → Allows want l now → now ≡ next want l
is_next _ _ _ title = refl
is_next _ _ _ (done w h) = refl
is_next _ _ _ none_across = refl
is_next _ _ _ (none_upwards w) = refl
is_next _ _ _ no_axis = refl
is_next _ _ _ (axis a) = refl
is_next _ _ _ (strip n l b r t) = refl
is_next _ _ _ (behind_strips n) = refl
is_next _ _ _ (column n l r) = refl
is_next _ _ _ (behind_columns n) = refl
is_next _ _ _ across = refl
is_next _ _ _ upwards = refl
is_next _ _ _ (branch v n) = refl
is_next _ _ _ (cut over count) = refl
is_next _ _ _ (bound over count) = refl
is_next _ _ _ (empty over count) = refl
is_next _ _ _ (share times of) = refl
is_next _ _ _ end_line = refl

-- lines that lead somewhere lead there first when they go on
pub leads_first : (from mid to : List Want) (lines more : List Line) → Leads from lines mid → Leads from (lines ++ more) to → Leads mid more to
leads_first _ _ to _ more (here wants) all = all
leads_first _ _ to _ more (onward want now rest mid l lines allowed leads) (onward _ other _ _ _ _ allows leads_all) =
    leads_first (now ++ rest) mid to lines more leads
    (subst (λ (ws : List Want). Leads (ws ++ rest) (lines ++ more) to) (is_next want l other allows ∙ sym (is_next want l now allowed)) leads_all)
