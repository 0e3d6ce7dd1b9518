-- The bytes of a record, read again.
use Rattle.std.proofs.Common.{◌≡◌, ℕ, ◌+◌, ◌-◌, ◌*◌, ◌/◌, ◌%◌, ◌<◌, ◌≤◌, not, cond, List, [], ◌∷◌, ◌++◌, length, take, drop, Result, Ok, Err, sym, ap, ap₂, ◌∙◌, arith}
use Rattle.std.specs.Int.{w16, to_be_bytes, from_be_bytes}
use Rattle.std.proofs.lemmas.Nat.{from_be_bytes-to_be_bytes_2}
use Rattle.std.proofs.lemmas.List.{take_at, length-append, length-take-le, take-append-drop}
use Rattle.std.proofs.lemmas.Bool.{cond-false, le-ltb, ne_eqb}
use Rattle.gds_records.specs.declared.reading.RecordError.{RecordError}
use Rattle.gds_records.specs.declared.reading.RecordError.TheVariants.{UnknownType, WrongData}
use Rattle.gds_records.specs.Records.{Item, spelled_as, known}
use Rattle.gds_records.specs.Framing.{framing, framed_as, has_its_data, said_length, BeginsAs}

-- two bytes are the bytes of their number
pair_bytes : (high low : ℕ) → high < 256 → low < 256 → to_be_bytes w16 (from_be_bytes w16 (high ∷ low ∷ [])) ≡ high ∷ low ∷ []
pair_bytes high low h l =
    let first : (high * 256 + low) / 256 % 256 ≡ high = omega arith in
    let second : (high * 256 + low) % 256 ≡ low = omega arith in
    ap₂ (λ (x y : ℕ). x ∷ y ∷ []) first second

-- bytes whose first two say a length, which is even and which they have, begin as a record does
pub begins : (high low code form : ℕ) (more : List ℕ) → high < 256 → low < 256 → 4 ≤ from_be_bytes w16 (high ∷ low ∷ []) → from_be_bytes w16 (high ∷ low ∷ []) % 2 ≡ 0 → from_be_bytes w16 (high ∷ low ∷ []) ≤ 4 + length more
    → BeginsAs code form (take (from_be_bytes w16 (high ∷ low ∷ []) - 4) more) (high ∷ low ∷ code ∷ form ∷ more)
unfolding spelled_as
begins high low code form more h l above even within =
    let size : ℕ = from_be_bytes w16 (high ∷ low ∷ []) in
    let body : List ℕ = take (size - 4) more in
    let n : length body ≡ size - 4 = length-take-le (size - 4) more (omega arith) in
    let whole : 4 + length body ≡ size = omega arith in
    let two : to_be_bytes w16 (4 + length body) ≡ high ∷ low ∷ [] = ap (to_be_bytes w16) whole ∙ pair_bytes high low h l in
    record {
      behind = drop (size - 4) more;
      spells = sym (ap₂ (λ (t m : List ℕ). t ++ code ∷ form ∷ m) two (take-append-drop (size - 4) more));
      even = omega arith;
      short = omega arith;
    }

-- the length that the bytes of a record say
pub said_again : (code form : ℕ) (body behind : List ℕ) → length body ≤ 65530 → said_length (spelled_as code form body ++ behind) ≡ 4 + length body
unfolding spelled_as
said_again code form body behind short = from_be_bytes-to_be_bytes_2 (4 + length body) (omega arith)

-- what is answered where the bytes begin as a record does
abbrev pub answer : ℕ → ℕ → ℕ → List ℕ → Result Item RecordError
answer at code form body =
    cond (not (known code)) (Err UnknownType) (cond (not (has_its_data code form body)) (Err WrongData) (Ok (record { at = at; code = code; form = form; body = body })))

framed_again : (at size code form : ℕ) (body behind : List ℕ) → size ≡ 4 + length body → length body % 2 ≡ 0 → framed_as at size code form (body ++ behind) ≡ answer at code form body
unfolding framed_as
framed_again at size code form body behind same even =
    cond-false _ _ _ (le-ltb size 4 (omega arith))
    ∙ cond-false _ _ _ (ne_eqb (size % 2) 1 (λ odd. omega arith))
    ∙ cond-false _ _ _ (le-ltb (4 + length (body ++ behind)) size (omega (arith, length-append body behind)))
    ∙ ap (answer at code form) (take_at body behind (size - 4) (omega arith))

pub framing_begun : (at code form : ℕ) (body bytes : List ℕ) → BeginsAs code form body bytes → framing at bytes ≡ answer at code form body
unfolding framing spelled_as
framing_begun at code form body bytes b =
    ap (framing at) b.spells
    ∙ framed_again at _ code form body b.behind (from_be_bytes-to_be_bytes_2 (4 + length body) (omega (arith, b.short))) b.even
