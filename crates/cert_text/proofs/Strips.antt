-- The lines of strips, one after another.
use Rattle.std.proofs.Common.{◌≡◌, ℕ, suc, ◌+◌, List, [], ◌∷◌, ◌++◌, sym, ap, ◌∙◌, append_assoc, add-one}
use Rattle.std.specs.List.{flat_map}
use Rattle.std.proofs.lemmas.List.{append-nil}
use Rattle.std.proofs.lemmas.List.Concat.{flat_map-append}
use Rattle.cert_lines.specs.declared.line.Line.{Line}
use Rattle.cert_lines.specs.Lines.{line_text}
use Rattle.cert_text.specs.Claims.{each_strip}

-- the line of one more strip
one_more : (line_of : ℕ → Line) (n : ℕ) → flat_map line_text (each_strip line_of (suc n)) ≡ flat_map line_text (each_strip line_of n) ++ line_text (line_of n)
one_more line_of n =
    flat_map-append line_text (each_strip line_of n) (line_of n ∷ [])
    ∙ ap (λ (s : List ℕ). flat_map line_text (each_strip line_of n) ++ s) (append-nil (line_text (line_of n)))

-- a turn of a loop that writes the line of each strip
pub put_more : (line_of : ℕ → Line) (n : ℕ) (a b c : List ℕ) → b ≡ a ++ flat_map line_text (each_strip line_of n) → c ≡ b ++ line_text (line_of n)
    → c ≡ a ++ flat_map line_text (each_strip line_of (n + 1))
put_more line_of n a b c so_far now =
    now ∙ ap (λ (s : List ℕ). s ++ line_text (line_of n)) so_far ∙ append_assoc a (flat_map line_text (each_strip line_of n)) (line_text (line_of n))
    ∙ ap (λ (s : List ℕ). a ++ s) (sym (one_more line_of n))
    ∙ ap (λ (k : ℕ). a ++ flat_map line_text (each_strip line_of k)) (sym (add-one n))
