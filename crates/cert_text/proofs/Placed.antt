-- Lines of strips from the front are the lines of strips by their numbers.
use Rattle.std.proofs.Common.{◌≡◌, ℕ, suc, zero, ◌+◌, ◌<◌, ◌≤◌, List, [], ◌∷◌, ◌++◌, length, take, get_or, sym, ap, ◌∙◌, refl, arith, add-one}
use Rattle.std.proofs.lemmas.List.{take_more, length-take-le}
use Rattle.std.proofs.Math.Seq.{take-length}
use Rattle.cert_lines.specs.declared.line.Line.{Line}
use Rattle.cert_text.specs.Claims.{each_strip}

-- a line for each, numbered from a first number on
abbrev pub numbered : {P : Type 0} → (ℕ → P → Line) → ℕ → List P → List Line
numbered line_of n [] = []
numbered line_of n (p ∷ ps) = line_of n p ∷ numbered line_of (suc n) ps

-- one more behind them
one_more : {P : Type 0} (line_of : ℕ → P → Line) (n : ℕ) (ps : List P) (p : P) → numbered line_of n (ps ++ p ∷ []) ≡ numbered line_of n ps ++ line_of (n + length ps) p ∷ []
one_more line_of n [] p = let e : n ≡ n + 0 = omega arith in ap (λ (k : ℕ). line_of k p ∷ []) e
one_more line_of n (q ∷ ps) p =
    let e : suc n + length ps ≡ n + suc (length ps) = omega arith in
    ap (λ (ls : List Line). line_of n q ∷ ls) (one_more line_of (suc n) ps p ∙ ap (λ (k : ℕ). numbered line_of (suc n) ps ++ line_of k p ∷ []) e)

-- the first of them
first_ones : {P : Type 0} (line_of : ℕ → P → Line) (by_number : ℕ → Line) (ps : List P) (d : P) → ((i : ℕ) → by_number i ≡ line_of i (get_or ps i d)) → (m : ℕ) → m ≤ length ps
    → each_strip by_number m ≡ numbered line_of 0 (take m ps)
first_ones line_of by_number ps d same zero within = refl
first_ones line_of by_number ps d same (suc m) within =
    let lt : m < length ps = omega (arith, within) in
    let count : length (take m ps) ≡ m = length-take-le m ps (omega (arith, within)) in
    let e : 0 + length (take m ps) ≡ m = omega (arith, count) in
    ap (λ (ls : List Line). ls ++ by_number m ∷ []) (first_ones line_of by_number ps d same m (omega (arith, within)))
    ∙ ap (λ (l : Line). numbered line_of 0 (take m ps) ++ l ∷ []) (same m ∙ ap (λ (k : ℕ). line_of k (get_or ps m d)) (sym e))
    ∙ sym (one_more line_of 0 (take m ps) (get_or ps m d))
    ∙ ap (numbered line_of 0) (sym (take_more ps m d lt) ∙ ap (λ (k : ℕ). take k ps) (add-one m))

-- all of them
pub all_ones : {P : Type 0} (line_of : ℕ → P → Line) (by_number : ℕ → Line) (ps : List P) (d : P) → ((i : ℕ) → by_number i ≡ line_of i (get_or ps i d))
    → each_strip by_number (length ps) ≡ numbered line_of 0 ps
all_ones line_of by_number ps d same = first_ones line_of by_number ps d same (length ps) (omega arith) ∙ ap (numbered line_of 0) (take-length ps)
