-- The record that bytes begin with, from their first four.
use Rattle.std.proofs.Common.{◌≡◌, ℕ, ◌+◌, ◌*◌, ◌<◌, ◌≤◌, List, [], ◌∷◌, length, get_or, drop, Err, refl, sym, ap₂, arith}
use Rattle.gds_records.specs.declared.reading.RecordError.TheVariants.{Short}
use Rattle.gds_records.specs.Framing.{framing, framed_as}

-- fewer than four bytes are no header
pub framing_nothing : (at : ℕ) (bytes : List ℕ) → length bytes < 4 → framing at bytes ≡ Err Short
unfolding framing
framing_nothing at [] few = refl
framing_nothing at (a ∷ []) few = refl
framing_nothing at (a ∷ (b ∷ [])) few = refl
framing_nothing at (a ∷ (b ∷ (c ∷ []))) few = refl
framing_nothing at (a ∷ (b ∷ (c ∷ (d ∷ more)))) few = absurd (omega arith)

-- four bytes are one
pub framing_header : (at size : ℕ) (bytes more : List ℕ) → 4 ≤ length bytes → size ≡ get_or bytes 0 0 * 256 + get_or bytes 1 0 → more ≡ drop 4 bytes → framing at bytes ≡ framed_as at size (get_or bytes 2 0) (get_or bytes 3 0) more
unfolding framing
framing_header at size [] rest enough said same = absurd (omega arith)
framing_header at size (a ∷ []) rest enough said same = absurd (omega arith)
framing_header at size (a ∷ (b ∷ [])) rest enough said same = absurd (omega arith)
framing_header at size (a ∷ (b ∷ (c ∷ []))) rest enough said same = absurd (omega arith)
framing_header at size (a ∷ (b ∷ (c ∷ (d ∷ more)))) rest enough said same = ap₂ (λ (n : ℕ) (m : List ℕ). framed_as at n c d m) (sym said) (sym same)
