-- Whatever is wanted can be had, within the limits.
use Rattle.std.proofs.Common.{List, [], ◌∷◌, All, pos, arith}
use Rattle.std.specs.List.{flat_map}
use Rattle.std.proofs.lemmas.Int.{ints}
use Rattle.std.proofs.lemmas.List.Elements.{All-append, All-cons}
use Rattle.rt_rows.specs.declared.name.Name.TheVariants.{Zero}
use Rattle.rt_rows.specs.declared.proof.Of.TheVariants.{Template}
use Rattle.cert_lines.specs.declared.line.Line.{Line}
use Rattle.cert_lines.specs.declared.line.Line.TheVariants as line
use Rattle.cert_lines.specs.Limits.{IsWithin}
use Rattle.cert_text.specs.Wants.{Want, Leads}
use Rattle.cert_text.specs.Wants.Want.{ATitle, AClaim, AnAxis, Strips, Columns, AnAcross, AnUpwards, ATree, AShare, AnEnd}
use Rattle.cert_text.specs.Wants.Allows.{title as allow_title, none_across as allow_none_across, no_axis as allow_no_axis, behind_strips as allow_behind_strips, behind_columns as allow_behind_columns, across as allow_across, upwards as allow_upwards, empty as allow_empty, share as allow_share, end_line as allow_end_line}
use Rattle.cert_text.specs.Wants.Leads.{here, onward}
use Rattle.cert_text.proofs.Leading.{leads_on, one}

-- lines that are what is wanted
abbrev pub finish : Want → List Line
finish ATitle = line.Title ∷ []
finish AClaim = line.NoneAcross ∷ line.Across ∷ line.Empty (pos 1) (pos 0) ∷ line.End ∷ []
finish AnAxis = line.NoAxis ∷ []
finish (Strips n) = line.Across ∷ []
finish (Columns n) = line.Across ∷ []
finish AnAcross = line.Across ∷ []
finish AnUpwards = line.Upwards ∷ []
finish ATree = line.Empty (pos 1) (pos 0) ∷ []
finish AShare = line.Share (pos 0) (Template Zero) ∷ []
finish AnEnd = line.End ∷ []

finish_leads : (want : Want) (rest : List Want) → Leads (want ∷ rest) (finish want) rest
finish_leads ATitle rest = one ATitle [] rest _ allow_title
finish_leads AClaim rest =
    onward AClaim (AnAcross ∷ ATree ∷ AnEnd ∷ []) rest rest _ _ allow_none_across
    (onward AnAcross [] (ATree ∷ AnEnd ∷ rest) rest _ _ allow_across
    (onward ATree [] (AnEnd ∷ rest) rest _ _ (allow_empty (pos 1) 0) (one AnEnd [] rest _ allow_end_line)))
finish_leads AnAxis rest = one AnAxis [] rest _ allow_no_axis
finish_leads (Strips n) rest = one (Strips n) [] rest _ (allow_behind_strips n)
finish_leads (Columns n) rest = one (Columns n) [] rest _ (allow_behind_columns n)
finish_leads AnAcross rest = one AnAcross [] rest _ allow_across
finish_leads AnUpwards rest = one AnUpwards [] rest _ allow_upwards
finish_leads ATree rest = one ATree [] rest _ (allow_empty (pos 1) 0)
finish_leads AShare rest = one AShare [] rest _ (allow_share (pos 0) (Template Zero))
finish_leads AnEnd rest = one AnEnd [] rest _ allow_end_line

none_within : All IsWithin []
none_within = λ k d lt. absurd (omega (arith, lt))

one_within : (l : Line) → IsWithin l → All IsWithin (l ∷ [])
one_within l within = All-cons IsWithin l [] within none_within

empty_within : IsWithin (line.Empty (pos 1) (pos 0))
empty_within = record { divisor = record { low = omega (arith, ints); high = omega (arith, ints) }; count = record { low = omega (arith, ints); high = omega (arith, ints) } }

share_within : IsWithin (line.Share (pos 0) (Template Zero))
share_within = record { multiplier = record { low = omega (arith, ints); high = omega (arith, ints) }; each = λ k d lt. absurd (omega (arith, lt)) }

finish_within : (want : Want) → All IsWithin (finish want)
finish_within ATitle = one_within line.Title tt
finish_within AClaim =
    All-cons IsWithin line.NoneAcross (line.Across ∷ line.Empty (pos 1) (pos 0) ∷ line.End ∷ []) tt
    (All-cons IsWithin line.Across (line.Empty (pos 1) (pos 0) ∷ line.End ∷ []) tt
    (All-cons IsWithin (line.Empty (pos 1) (pos 0)) (line.End ∷ []) empty_within (one_within line.End tt)))
finish_within AnAxis = one_within line.NoAxis tt
finish_within (Strips n) = one_within line.Across tt
finish_within (Columns n) = one_within line.Across tt
finish_within AnAcross = one_within line.Across tt
finish_within AnUpwards = one_within line.Upwards tt
finish_within ATree = one_within (line.Empty (pos 1) (pos 0)) empty_within
finish_within AShare = one_within (line.Share (pos 0) (Template Zero)) share_within
finish_within AnEnd = one_within line.End tt

-- all that is wanted can be had
pub can_be_had : (wants : List Want) → Leads wants (flat_map finish wants) []
can_be_had [] = here []
can_be_had (want ∷ rest) = leads_on (want ∷ rest) rest [] (finish want) (flat_map finish rest) (finish_leads want rest) (can_be_had rest)

pub had_within : (wants : List Want) → All IsWithin (flat_map finish wants)
had_within [] = none_within
had_within (want ∷ rest) = All-append IsWithin (finish want) (flat_map finish rest) (finish_within want) (had_within rest)
