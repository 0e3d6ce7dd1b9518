-- A stream that is cut short stops where its last whole record ends.
use Rattle.std.proofs.Common.{◌≡◌, ℕ, zero, suc, ◌+◌, ◌-◌, ◌<◌, ◌≤◌, ◌⊎◌, inl, inr, List, [], ◌∷◌, ◌++◌, length, take, refl, sym, ap, ◌∙◌, arith}
use Rattle.std.proofs.lemmas.List.{append-nil}
use Rattle.std.specs.Int.{w16, from_be_bytes}
use Rattle.gds_records.specs.declared.reading.RecordError.TheVariants as framed
use Rattle.gds_records.specs.Records.{Item, spelled, flat, Framed}
use Rattle.gds_records.specs.Framing.{FramingFault, said_length}
use Rattle.gds_records.proofs.Deciding.{length_spelled}
use Rattle.gds_records.proofs.Spelled.{said_again}
use Rattle.gds_grammar.specs.declared.cause.Cause.TheVariants.{Short, NotClosed}
use Rattle.gds_grammar.specs.Conditions.{AreStream}
use Rattle.gds_grammar.specs.Stops.{EndsAt, Stops}
use Rattle.gds_grammar.proofs.Aligned.{framed_from, framed_behind}

-- records behind which a stream goes on end where their bytes do
ends : (items : List Item) (i : Item) (more : List Item) → AreStream (items ++ i ∷ more) → EndsAt items (length (flat items))
ends items i more s = record { goes_on = record { next = i; more = more; stream = s }; here = refl }

-- cut between two records
pub cut_between : (items : List Item) (i : Item) (more : List Item) → AreStream (items ++ i ∷ more) → Stops (flat items) (length (flat items)) NotClosed
cut_between items i more s = record { items = items; rest = []; front = sym (append-nil (flat items)); why = (ends items i more s, refl) }

-- a stream's record is framed
framed_there : (items : List Item) (i : Item) (more : List Item) → AreStream (items ++ i ∷ more) → Framed i
framed_there items i more s = framed_behind 0 items i more (framed_from 0 _ (items ++ i ∷ more) s.placed s.each)

-- the first two of some of the bytes are those of all
two_of_some : (n : ℕ) (bytes : List ℕ) → 2 ≤ n → take 2 (take n bytes) ≡ take 2 bytes
two_of_some (suc (suc n)) [] le = refl
two_of_some (suc (suc n)) (a ∷ []) le = refl
two_of_some (suc (suc n)) (a ∷ (b ∷ bytes)) le = refl
two_of_some (suc zero) bytes le = absurd (omega arith)
two_of_some zero bytes le = absurd (omega arith)

-- as many bytes as are wanted, where there are as many
length_of_some : (n : ℕ) (bytes : List ℕ) → n ≤ length bytes → length (take n bytes) ≡ n
length_of_some zero bytes le = refl
length_of_some (suc n) [] le = absurd (omega arith)
length_of_some (suc n) (b ∷ bytes) le = ap suc (length_of_some n bytes (omega arith))

-- some of a record's bytes, but not all, are short of it
short_there : (i : Item) (n : ℕ) → Framed i → n < length (spelled i) → FramingFault framed.Short (take n (spelled i))
short_there i n f below = by (cases n)
  where
    cases : (n : ℕ) → (n < 4) ⊎ (4 ≤ n)
    cases zero = inl (omega arith)
    cases (suc zero) = inl (omega arith)
    cases (suc (suc zero)) = inl (omega arith)
    cases (suc (suc (suc zero))) = inl (omega arith)
    cases (suc (suc (suc (suc k)))) = inr (omega arith)

    by : (n < 4) ⊎ (4 ≤ n) → FramingFault framed.Short (take n (spelled i))
    by (inl few) = inl (let l = length_of_some n (spelled i) (omega arith) in omega arith)
    by (inr some) =
        let l : length (take n (spelled i)) ≡ n = length_of_some n (spelled i) (omega arith) in
        let all : length (spelled i) ≡ 4 + length i.body = length_spelled i in
        let said : said_length (take n (spelled i)) ≡ 4 + length i.body =
        ap (λ (l : List ℕ). from_be_bytes w16 l) (two_of_some n (spelled i) (omega arith)) ∙ ap said_length (sym (append-nil (spelled i))) ∙ said_again i.code i.form i.body [] f.short in
        let even = f.even in
        inr (record { begins = omega arith; above = omega arith; even = omega arith; beyond = omega arith })

-- cut inside a record
pub cut_inside : (items : List Item) (i : Item) (more : List Item) (n : ℕ) → AreStream (items ++ i ∷ more) → 0 < n → n < length (spelled i)
    → Stops (flat items ++ take n (spelled i)) (length (flat items)) Short
cut_inside items i more n s some below = record {
  items = items;
  rest = take n (spelled i);
  front = refl;
  why = (ends items i more s, record { some = let l = length_of_some n (spelled i) (omega arith) in omega arith; fault = short_there i n (framed_there items i more s) below });
}
