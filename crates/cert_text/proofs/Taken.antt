-- The lines that a text can be are found one by one, and its claim is theirs.
use Rattle.std.proofs.Common.{◌≡◌, ℕ, suc, ◌+◌, ◌<◌, List, [], ◌∷◌, ◌++◌, length, take, get_or, All, map, sym, ap, subst, ◌∙◌, append_assoc, arith}
use Rattle.std.specs.List.{flat_map}
use Rattle.std.proofs.lemmas.List.{take_more, length-map, get_or-map}
use Rattle.std.proofs.Math.Seq.{take-length}
use Rattle.cert_lines.specs.declared.line.Line.{Line}
use Rattle.cert_lines.specs.declared.line.Line.TheVariants.{End}
use Rattle.cert_lines.specs.Lines.{words_of, spoken, line_text}
use Rattle.cert_lines.specs.Limits.{IsWithin}
use Rattle.cert_lines.proofs.Splitting.{line_feedless}
use Rattle.cert_text.specs.declared.claim.Claim.{Claim}
use Rattle.cert_text.specs.Claims.{claim_lines, claim_text}
use Rattle.cert_text.specs.Texts.{CanBeTold, IsCertificate, IsOneLine, ended}
use Rattle.cert_text.specs.Taking.{said, IsOnly, AreOnly, AreLinesOf, IsClaimOf}
use Rattle.cert_text.specs.Building.{claim_of}
use Rattle.cert_text.proofs.Parting.{IsParted}
use Rattle.cert_text.proofs.Reaching.{same_cut, one_line_feedless, line_and_more, ended_and_more, no_lines}
use Rattle.cert_text.proofs.Again.{claim_again}

-- one more
pub one_only : (texts : List (List ℕ)) (i : ℕ) (text : List ℕ) (lines new : List Line) (line : Line) → i < length texts → get_or texts i [] ≡ text → AreOnly texts i lines → IsOnly text line
    → new ≡ lines ++ line ∷ [] → AreOnly texts (i + 1) new
one_only texts i text lines new line lt there so_far is now = record {
  only = λ others within same.
      let count : length texts ≡ length others = ap length same ∙ length-map others said in
      let less : i < length others = omega (arith, lt, count) in
      let text_there : text ≡ said (get_or others i End) = sym there ∙ ap (λ (ts : List (List ℕ)). get_or ts i []) same ∙ get_or-map said others i End [] less in
      let one : line ≡ get_or others i End = is.only (get_or others i End) (within i End less) text_there in
      now ∙ ap (λ (ls : List Line). ls ++ line ∷ []) (so_far.only others within same) ∙ ap (λ (l : Line). take i others ++ l ∷ []) one ∙ sym (take_more others i End less);
}

-- lines of a text are those of its parts
parts_said : (texts : List (List ℕ)) (last : List ℕ) (others : List Line) → All IsOneLine texts → IsOneLine last → All IsWithin others
    → flat_map ended texts ++ last ≡ flat_map line_text others → texts ≡ map said others
parts_said [] last others each one within e = ap (map said) (sym (no_lines others last one (sym e)).0)
parts_said (text ∷ texts) last [] each one within e = absurd (empty text (flat_map ended texts) last (sym (ap (λ (s : List ℕ). s ++ last) (ended_and_more text (flat_map ended texts))) ∙ e))
  where
    empty : (text rest last : List ℕ) → (text ++ 10 ∷ rest) ++ last ≡ [] → ⊥
    empty [] rest last e = cc
    empty (c ∷ text) rest last e = cc
parts_said (text ∷ texts) last (other ∷ others) each one within e =
    let head : IsWithin other = within 0 other (omega arith) in
    let both : spoken (words_of other) ++ 10 ∷ flat_map line_text others ≡ text ++ 10 ∷ (flat_map ended texts ++ last) =
    sym (line_and_more other others) ∙ sym e ∙ append_assoc (ended text) (flat_map ended texts) last ∙ ended_and_more text (flat_map ended texts ++ last) in
    let cut = same_cut (spoken (words_of other)) text (flat_map line_text others) (flat_map ended texts ++ last) (line_feedless other head) (one_line_feedless text (each 0 [] (omega arith))) both in
    let rest = parts_said texts last others (λ k d lt. each (suc k) d (omega (arith, lt))) one (λ k d lt. within (suc k) d (omega (arith, lt))) (sym cut.1) in
    ap (λ (t : List ℕ). t ∷ texts) (sym cut.0) ∙ ap (λ (ts : List (List ℕ)). said other ∷ ts) rest

-- all parts that end with a line feed
pub all_only : (text : List ℕ) (texts : List (List ℕ)) (last : List ℕ) (n : ℕ) (lines : List Line) → IsParted text texts last → n ≡ length texts → AreOnly texts n lines → AreLinesOf text lines
all_only text texts last n lines parted count are = record {
  only = λ others within same.
      let parts = parts_said texts last others parted.each parted.one within (sym parted.text_is ∙ same) in
      let all : n ≡ length others = count ∙ ap length parts ∙ length-map others said in
      are.only others within parts ∙ ap (λ (k : ℕ). take k others) all ∙ take-length others;
}

-- the claim of the text of a claim
pub claim_found : (text : List ℕ) (lines slice : List Line) (claim : Claim) → IsCertificate text → AreLinesOf text lines → slice ≡ lines
    → (All IsWithin slice → claim ≡ claim_of slice) → IsClaimOf text claim
unfolding claim_text
claim_found text lines slice claim told are slice_is known =
    let same : slice ≡ claim_lines told.claim = slice_is ∙ are.only (claim_lines told.claim) told.told.within told.text_is in
    let found : claim ≡ told.claim = known (subst (All IsWithin) (sym same) told.told.within) ∙ ap claim_of same ∙ claim_again told.claim told.told.form in
    record { told = subst CanBeTold (sym found) told.told; text_is = told.text_is ∙ ap claim_text (sym found) }
