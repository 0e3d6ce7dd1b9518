-- How many points data hold, and that a polygon's are closed.
use Rattle.std.proofs.Common.{◌≡◌, ℕ, zero, suc, ◌+◌, ◌-◌, ◌*◌, ◌/◌, ◌%◌, ◌≤◌, List, [], ◌∷◌, length, take, drop, Some, refl, sym, ap, ◌∙◌, arith, length-drop}
use Rattle.std.proofs.lemmas.List.{drop-drop}
use Rattle.gds_records.specs.declared.types.TheConstants.{BOUNDARY, PATH, AREF}
use Rattle.gds_grammar.specs.Conditions.{AreCountedPoints}
use Rattle.gds_stream.specs.Contents.{points_in}
use Rattle.gds_stream_laws.specs.Lawful.{IsPolygon}
use Rattle.gds_stream.proofs.Eights.{no_point, one_point}

count_points : (n : ℕ) (bytes : List ℕ) → length bytes ≡ 8 * n → length (points_in bytes) ≡ n
count_points zero bytes long = ap length (no_point bytes (omega (arith, long)))
count_points (suc n) bytes long = ap length (one_point bytes (omega (arith, long))) ∙ ap suc (count_points n (drop 8 bytes) (omega (arith, long, length-drop 8 bytes)))

-- whole points are as many as there are eights of bytes
pub points_whole : (bytes : List ℕ) → length bytes % 8 ≡ 0 → length (points_in bytes) ≡ length bytes / 8
points_whole bytes whole = count_points (length bytes / 8) bytes (omega (arith, whole))

-- points behind some, and the bytes that hold them
drop_points : (k : ℕ) (bytes : List ℕ) → 8 * k ≤ length bytes → drop k (points_in bytes) ≡ points_in (drop (8 * k) bytes)
drop_points zero bytes long = refl
drop_points (suc k) bytes long =
    let eight : 8 + 8 * k ≡ 8 * suc k = omega arith in
    ap (drop (suc k)) (one_point bytes (omega (arith, long)))
    ∙ drop_points k (drop 8 bytes) (omega (arith, long, length-drop 8 bytes))
    ∙ ap points_in (drop-drop (8 * k) 8 bytes ∙ ap (λ (n : ℕ). drop n bytes) eight)

-- the first point, and the bytes that hold it
first_point : (bytes : List ℕ) → 8 ≤ length bytes → take 1 (points_in bytes) ≡ points_in (take 8 bytes)
first_point [] few = absurd (omega arith)
first_point (a ∷ []) few = absurd (omega arith)
first_point (a ∷ (b ∷ [])) few = absurd (omega arith)
first_point (a ∷ (b ∷ (c ∷ []))) few = absurd (omega arith)
first_point (a ∷ (b ∷ (c ∷ (d ∷ [])))) few = absurd (omega arith)
first_point (a ∷ (b ∷ (c ∷ (d ∷ (e ∷ []))))) few = absurd (omega arith)
first_point (a ∷ (b ∷ (c ∷ (d ∷ (e ∷ (f ∷ [])))))) few = absurd (omega arith)
first_point (a ∷ (b ∷ (c ∷ (d ∷ (e ∷ (f ∷ (g ∷ []))))))) few = absurd (omega arith)
first_point (a ∷ (b ∷ (c ∷ (d ∷ (e ∷ (f ∷ (g ∷ (h ∷ bytes)))))))) few = refl

-- the points of a polygon
pub polygon : (bytes : List ℕ) → AreCountedPoints (Some BOUNDARY) bytes → IsPolygon (points_in bytes)
polygon bytes counted =
    let n : ℕ = length bytes / 8 in
    let count = points_whole bytes counted.whole in
    let four : 4 ≤ n = counted.enough.0 in
    let last : length bytes - 8 ≡ 8 * (n - 1) = omega (arith, counted.whole, four) in
    let one_less : n - 1 ≡ length (points_in bytes) - 1 = ap (λ (m : ℕ). m - 1) (sym count) in
    record {
      enough = omega (arith, count, four);
      closed =
          first_point bytes (omega (arith, four)) ∙ ap points_in (counted.closed ∙ ap (λ (m : ℕ). drop m bytes) last)
          ∙ sym (drop_points (n - 1) bytes (omega (arith, four)))
          ∙ ap (λ (m : ℕ). drop m (points_in bytes)) one_less;
    }

-- the points of a path
pub two_or_more : (bytes : List ℕ) → AreCountedPoints (Some PATH) bytes → 2 ≤ length (points_in bytes)
two_or_more bytes counted = omega (arith, points_whole bytes counted.whole, counted.enough.0)

-- the points of an array
pub three_points : (bytes : List ℕ) → AreCountedPoints (Some AREF) bytes → length (points_in bytes) ≡ 3
three_points bytes counted = omega (arith, points_whole bytes counted.whole, counted.enough.0, counted.enough.1)
