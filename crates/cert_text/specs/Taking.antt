-- What a text gives: its lines, and its claim.
use Rattle.std.specs.Prelude.{◌≡◌, ℕ, List, All, map, take, Result, Ok, Err}
use Rattle.std.specs.List.{flat_map}
use Rattle.cert_lines.specs.declared.line.Line.{Line}
use Rattle.cert_lines.specs.Lines.{words_of, spoken, line_text}
use Rattle.cert_lines.specs.Limits.{IsWithin}
use Rattle.cert_text.specs.declared.claim.Claim.{Claim}
use Rattle.cert_text.specs.declared.cert_error.CertError.{CertError}
use Rattle.cert_text.specs.declared.cert_error.CertError.TheVariants.{BadCert, OutOfMemory}
use Rattle.cert_text.specs.Claims.{claim_text}
use Rattle.cert_text.specs.Texts.{CanBeTold, IsBadAt}

-- the text of a line without its line feed
abbrev pub said : Line → List ℕ
said line = spoken (words_of line)

-- whichever line within the limits has the text, it is this one
pub record IsOnly (text : List ℕ) (line : Line) : Type 0 where
  pub only : (other : Line) → IsWithin other → text ≡ said other → line ≡ other

-- whichever lines within the limits have the texts, the first ones of them, so many, are these
pub record AreOnly (texts : List (List ℕ)) (count : ℕ) (lines : List Line) : Type 0 where
  pub only : (others : List Line) → All IsWithin others → texts ≡ map said others → lines ≡ take count others

-- whichever lines within the limits have the text, they are these
pub record AreLinesOf (text : List ℕ) (lines : List Line) : Type 0 where
  pub only : (others : List Line) → All IsWithin others → text ≡ flat_map line_text others → lines ≡ others

-- the text is that of the claim, which is in form with its numbers within the limits
pub record IsClaimOf (text : List ℕ) (claim : Claim) : Type 0 where
  pub told : CanBeTold claim
  pub text_is : text ≡ claim_text claim

-- what is read of a text: its claim, or its first bad line
abbrev pub Reads : List ℕ → Result Claim CertError → Type 0
Reads text (Ok claim) = IsClaimOf text claim
Reads text (Err (BadCert line)) = IsBadAt text line
Reads text (Err OutOfMemory) = Unit {0}
