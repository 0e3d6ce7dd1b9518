-- Bytes hold a stream, or they stop being one somewhere.
use Rattle.std.proofs.Common.{◌≡◌, ℕ, zero, suc, ◌+◌, ◌<◌, ◌^◌, ◌⊎◌, inl, inr, List, [], ◌∷◌, ◌++◌, length, replicate, Ok, Err, refl, ap, ◌∙◌, arith}
use Rattle.gds_records.specs.Records.{Item, flat}
use Rattle.gds_grammar.specs.declared.cause.Cause.TheVariants.{Unexpected}
use Rattle.gds_grammar.specs.Format.{stream}
use Rattle.gds_grammar.specs.Reading.{Cursor, Taken, start, read}
use Rattle.gds_grammar.specs.Conditions.{HoldStream}
use Rattle.gds_grammar.specs.Stops.{StopSomewhere}
use Rattle.gds_grammar.proofs.Predicting.{AreBytes}
use Rattle.gds_grammar.proofs.Streaming.{GivesStream, read_gives, read_stops, byte_behind}

-- nothing but zeros, or another byte behind some
abbrev ZerosOrOther : List ℕ → Type 0
ZerosOrOther bytes = ((n : ℕ) × (bytes ≡ replicate n 0)) ⊎ ((n : ℕ) × (byte : ℕ) × (more : List ℕ) × (0 < byte) × (bytes ≡ replicate n 0 ++ byte ∷ more))

one_zero_more : (bytes : List ℕ) → ZerosOrOther bytes → ZerosOrOther (0 ∷ bytes)
one_zero_more bytes (inl z) = inl (suc z.0, ap (λ (l : List ℕ). 0 ∷ l) z.1)
one_zero_more bytes (inr o) = inr (suc o.0, o.1, o.2, o.3, ap (λ (l : List ℕ). 0 ∷ l) o.4)

zeros_or_other : (bytes : List ℕ) → ZerosOrOther bytes
zeros_or_other [] = inl (0, refl)
zeros_or_other (zero ∷ bytes) = one_zero_more bytes (zeros_or_other bytes)
zeros_or_other (suc b ∷ bytes) = inr (0, suc b, bytes, omega arith, refl)

pub hold_or_stop : (bytes : List ℕ) → AreBytes bytes → length bytes < 2 ^ 63 → HoldStream bytes ⊎ StopSomewhere bytes
hold_or_stop bytes are size = by (read stream (start bytes)) refl
  where
    behind : (items : List Item) (d : Cursor) → GivesStream bytes items d → ZerosOrOther d.rest → HoldStream bytes ⊎ StopSomewhere bytes
    behind items d g (inl z) = inl (record { items = items; zeros = z.0; stream = g.stream; spells = g.follows.spells ∙ ap (λ (l : List ℕ). flat items ++ l) z.1 })
    behind items d g (inr o) = inr (record { place = d.at + o.0; cause = Unexpected o.1; stops = byte_behind bytes items d o.0 o.1 o.2 g o.4 o.3 })

    by : (r : Taken) → read stream (start bytes) ≡ r → HoldStream bytes ⊎ StopSomewhere bytes
    by (Ok (items, d)) e = behind items d (read_gives bytes items d are e) (zeros_or_other d.rest)
    by (Err f) e = inr (record { place = f.place; cause = f.cause; stops = read_stops bytes f are size e })
