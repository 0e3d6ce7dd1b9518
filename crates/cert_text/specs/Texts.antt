-- Where a text stops being a certificate.
use Rattle.std.specs.Prelude.{◌≡◌, ◌≢◌, ℕ, ◌+◌, List, ◌++◌, codes, length, All}
use Rattle.std.specs.List.{flat_map}
use Rattle.cert_lines.specs.Limits.{IsWithin}
use Rattle.cert_text.specs.declared.claim.Claim.{Claim}
use Rattle.cert_text.specs.Claims.{claim_lines, claim_text, IsInForm}

-- a claim that a certificate can tell: in form, with its numbers within the limits
pub record CanBeTold (claim : Claim) : Type 0 where
  pub form : IsInForm claim
  pub within : All IsWithin (claim_lines claim)

-- the text is that of a claim
pub record IsCertificate (text : List ℕ) : Type 0 where
  pub claim : Claim
  pub told : CanBeTold claim
  pub text_is : text ≡ claim_text claim

-- the text of some claim begins with the bytes
pub record BeginsCertificate (bytes : List ℕ) : Type 0 where
  pub claim : Claim
  pub told : CanBeTold claim
  pub more : List ℕ
  pub text_is : claim_text claim ≡ bytes ++ more

-- no line feed is among the bytes
abbrev pub IsOneLine : List ℕ → Type 0
IsOneLine bytes = All (λ byte. byte ≢ 10) bytes

-- a line with its line feed
abbrev pub ended : List ℕ → List ℕ
ended line = line ++ codes "\n"

-- the rest doesn't go on as a certificate behind the lines before it: its first line can't stand there; or it has no whole line, and the text is no
-- certificate
pub data Stops (before : List (List ℕ)) : List ℕ → Type 0 where
  wrong_line : (line after : List ℕ) → IsOneLine line → ¬ BeginsCertificate (flat_map ended before ++ ended line) → Stops before (ended line ++ after)
  too_early : (rest : List ℕ) → IsOneLine rest → ¬ IsCertificate (flat_map ended before ++ rest) → Stops before rest

-- the number of the first line, from 1, with which the text stops being a certificate: the lines before it begin one
pub record IsBadAt (text : List ℕ) (number : ℕ) : Type 0 where
  pub before : List (List ℕ)
  pub each : All IsOneLine before
  pub rest : List ℕ
  pub text_is : text ≡ flat_map ended before ++ rest
  pub number_is : number ≡ length before + 1
  pub begins : BeginsCertificate (flat_map ended before)
  pub stops : Stops before rest
