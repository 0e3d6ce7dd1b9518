-- Lines that may stand begin a certificate; a line that can't stand there begins none.
use Rattle.std.proofs.Common.{◌≡◌, List, [], ◌∷◌, ◌++◌, All, sym, subst, ◌∙◌}
use Rattle.std.specs.List.{flat_map}
use Rattle.std.proofs.lemmas.List.{append-nil}
use Rattle.std.proofs.lemmas.List.Elements.{All-append}
use Rattle.cert_lines.specs.declared.line.Line.{Line}
use Rattle.cert_lines.specs.Limits.{IsWithin}
use Rattle.cert_text.specs.declared.claim.Claim.{Claim}
use Rattle.cert_text.specs.Claims.{claim_lines, IsInForm}
use Rattle.cert_text.specs.Wants.{Want, Leads, at_first}
use Rattle.cert_text.specs.Wants.Leads.{here, onward}
use Rattle.cert_text.specs.Stages.{Follows, Stuck}
use Rattle.cert_text.proofs.Leading.{leads_on, claim_leads}
use Rattle.cert_text.proofs.Finishing.{finish, can_be_had, had_within}
use Rattle.cert_text.proofs.Alike.{leads_first}
use Rattle.cert_text.proofs.Values.{are_lines}

-- the lines begin those of a claim
pub record BeginsClaim (lines : List Line) : Type 0 where
  pub claim : Claim
  pub form : IsInForm claim
  pub within : All IsWithin (claim_lines claim)
  pub more : List Line
  pub lines_are : claim_lines claim ≡ lines ++ more

pub goes_on : (lines : List Line) (wants : List Want) → Leads at_first lines wants → All IsWithin lines → BeginsClaim lines
goes_on lines wants leads within =
    let all = lines ++ flat_map finish wants in
    let all_within = All-append IsWithin lines (flat_map finish wants) within (had_within wants) in
    let known = are_lines all (leads_on at_first wants [] lines (flat_map finish wants) leads (can_be_had wants)) all_within in
    record { claim = known.claim; form = known.form; within = subst (All IsWithin) (sym known.lines_are) all_within; more = flat_map finish wants; lines_are = known.lines_are }

-- no line stands where nothing is wanted, nor where it can't stand
cannot_lead : (wants : List Want) (l : Line) (more : List Line) → Stuck wants l → Leads wants (l ∷ more) [] → ⊥
cannot_lead _ _ _ stuck (onward want now rest to l more allowed leads) = stuck now allowed

-- the claim's lines from here on
rest_leads : (claim : Claim) (lines more : List Line) (wants : List Want) → IsInForm claim → claim_lines claim ≡ lines ++ more → Leads at_first lines wants → Leads wants more []
rest_leads claim lines more wants form is leads = leads_first at_first wants [] lines more leads (subst (λ (ls : List Line). Leads at_first ls []) is (claim_leads claim form))

pub stuck_here : (claim : Claim) (lines more : List Line) (l : Line) (wants : List Want) → IsInForm claim → Leads at_first lines wants → Stuck wants l
    → claim_lines claim ≡ lines ++ l ∷ more → ⊥
stuck_here claim lines more l wants form leads stuck is = cannot_lead wants l more stuck (rest_leads claim lines (l ∷ more) wants form is leads)

-- where something is wanted still, the lines aren't all of a claim
wanted_still : (want : Want) (rest : List Want) → Leads (want ∷ rest) [] [] → ⊥
wanted_still want rest leads = elim leads [ ]

pub not_all : (claim : Claim) (lines : List Line) (want : Want) (rest : List Want) → IsInForm claim → Leads at_first lines (want ∷ rest) → claim_lines claim ≡ lines → ⊥
not_all claim lines want rest form leads is = wanted_still want rest (rest_leads claim lines [] (want ∷ rest) form (is ∙ sym (append-nil lines)) leads)

-- one line more
pub one_further : (lines : List Line) (l : Line) (wants new : List Want) → Leads at_first lines wants → Follows wants l new → Leads at_first (lines ++ l ∷ []) new
one_further lines l [] new leads follows = absurd follows
one_further lines l (want ∷ rest) new leads follows =
    leads_on at_first (want ∷ rest) new lines (l ∷ []) leads
    (subst (λ (ws : List Want). Leads (want ∷ rest) (l ∷ []) ws) (sym follows.2) (onward want follows.0 rest (follows.0 ++ rest) l [] follows.1 (here (follows.0 ++ rest))))
