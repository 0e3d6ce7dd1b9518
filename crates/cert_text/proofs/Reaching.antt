-- What has been read begins a certificate, and what can't stand behind it doesn't.
use Rattle.std.proofs.Common.{◌≡◌, ◌≢◌, ℕ, suc, ◌==◌, ◌&&◌, not, Bool, true, false, List, [], ◌∷◌, ◌++◌, All, sym, ap, subst, ◌∙◌, append_assoc, refl, arith}
use Rattle.std.specs.List.{flat_map}
use Rattle.std.proofs.lemmas.Bool.{ne_eqb}
use Rattle.std.proofs.lemmas.List.{append-nil, length-append}
use Rattle.std.proofs.lemmas.List.Concat.{flat_map-append}
use Rattle.std.proofs.lemmas.List.Elements.{All-cons}
use Rattle.cert_lines.specs.declared.line.Line.{Line}
use Rattle.cert_lines.specs.Lines.{words_of, spoken, line_text}
use Rattle.cert_lines.specs.Limits.{IsWithin}
use Rattle.cert_lines.specs.Read.{IsLine, IsNoLine}
use Rattle.cert_lines.proofs.Splitting.{feedless, line_feedless}
use Rattle.cert_text.specs.declared.stage.Stage.{Stage}
use Rattle.cert_text.specs.Claims.{claim_lines, claim_text}
use Rattle.cert_text.specs.Wants.{Leads, at_first}
use Rattle.cert_text.specs.Stages.{wants_of, Stuck, IsBehind}
use Rattle.cert_text.specs.Texts.{IsCertificate, BeginsCertificate, IsOneLine, ended}
use Rattle.cert_text.specs.Reached.{AreRead, IsReached, IsOver, IsOpen}
use Rattle.cert_text.specs.Reached.AreRead.{none, more}
use Rattle.cert_text.proofs.Values.{are_lines}
use Rattle.cert_text.proofs.Going.{goes_on, stuck_here, not_all, one_further}

-- bytes up to the first line feed are the same, and so are those behind it
pub same_cut : (a b x y : List ℕ) → feedless a ≡ true → feedless b ≡ true → a ++ 10 ∷ x ≡ b ++ 10 ∷ y → (a ≡ b) × (x ≡ y)
same_cut [] [] x y first second e = (refl, cc)
same_cut [] (c ∷ b) x y first second e = let same : 10 ≡ c = cc e in let f : feedless (10 ∷ b) ≡ true = subst (λ (k : ℕ). feedless (k ∷ b) ≡ true) (sym same) second in absurd (cc)
same_cut (c ∷ a) [] x y first second e = let same : c ≡ 10 = cc e in let f : feedless (10 ∷ a) ≡ true = subst (λ (k : ℕ). feedless (k ∷ a) ≡ true) same first in absurd (cc)
same_cut (c ∷ a) (d ∷ b) x y first second e =
    let rest = same_cut a b x y (tail c a first) (tail d b second) (cc e) in
    let head : c ≡ d = cc e in
    (cc, rest.1)
  where
    tail : (c : ℕ) (a : List ℕ) → feedless (c ∷ a) ≡ true → feedless a ≡ true
    tail c a f = later (not (c == 10)) (feedless a) f
      where
        later : (p q : Bool) → (p && q) ≡ true → q ≡ true
        later true q e = e
        later false q e = absurd (cc)

-- a text without a line feed
pub one_line_feedless : (text : List ℕ) → IsOneLine text → feedless text ≡ true
one_line_feedless [] all = refl
one_line_feedless (c ∷ cs) all =
    ap (λ (b : Bool). not b && feedless cs) (ne_eqb c 10 (all 0 0 (omega arith))) ∙ one_line_feedless cs (λ k d lt. all (suc k) d (omega arith))

-- the text of one line and more
pub line_and_more : (l : Line) (lines : List Line) → flat_map line_text (l ∷ lines) ≡ spoken (words_of l) ++ 10 ∷ flat_map line_text lines
unfolding line_text
line_and_more l lines = append_assoc (spoken (words_of l)) (10 ∷ []) (flat_map line_text lines)

pub ended_and_more : (text : List ℕ) (rest : List ℕ) → ended text ++ rest ≡ text ++ 10 ∷ rest
ended_and_more text rest = append_assoc text (10 ∷ []) rest

-- what has been read is text of its lines
pub read_text : (texts : List (List ℕ)) (lines : List Line) → AreRead texts lines → flat_map line_text lines ≡ flat_map ended texts
read_text _ _ none = refl
read_text _ _ (more text l texts lines is read) =
    line_and_more l lines ∙ ap (λ (s : List ℕ). s ++ 10 ∷ flat_map line_text lines) (sym is.text_is)
    ∙ ap (λ (s : List ℕ). text ++ 10 ∷ s) (read_text texts lines read) ∙ sym (ended_and_more text (flat_map ended texts))

pub read_within : (texts : List (List ℕ)) (lines : List Line) → AreRead texts lines → All IsWithin lines
read_within _ _ none = λ k d lt. absurd (omega (arith, lt))
read_within _ _ (more text l texts lines is read) = All-cons IsWithin l lines is.within (read_within texts lines read)

pub read_more : (texts : List (List ℕ)) (lines : List Line) (text : List ℕ) (l : Line) → AreRead texts lines → IsLine text l → AreRead (texts ++ text ∷ []) (lines ++ l ∷ [])
read_more _ _ text l none is = more text l [] [] is none
read_more _ _ text l (more first k texts lines known read) is = more first k (texts ++ text ∷ []) (lines ++ l ∷ []) known (read_more texts lines text l read is)

-- lines of which the text begins with what has been read begin with its lines
record Behind (lines others : List Line) (bytes : List ℕ) : Type 0 where
  pub rest : List Line
  pub others_are : others ≡ lines ++ rest
  pub bytes_are : flat_map line_text rest ≡ bytes

behind_read : (texts : List (List ℕ)) (lines others : List Line) (bytes : List ℕ) → AreRead texts lines → All IsWithin others → flat_map line_text others ≡ flat_map ended texts ++ bytes
    → Behind lines others bytes
behind_read _ _ others bytes none within e = record { rest = others; others_are = refl; bytes_are = e }
behind_read _ _ [] bytes (more text l texts lines is read) within e = absurd (empty text (flat_map ended texts ++ bytes) (e ∙ append_assoc (ended text) (flat_map ended texts) bytes ∙ ended_and_more text (flat_map ended texts ++ bytes)))
  where
    empty : (text rest : List ℕ) → [] ≡ text ++ 10 ∷ rest → ⊥
    empty [] rest e = cc
    empty (c ∷ text) rest e = cc
behind_read _ _ (other ∷ others) bytes (more text l texts lines is read) within e =
    let head : IsWithin other = within 0 other (omega arith) in
    let texts_same : spoken (words_of other) ++ 10 ∷ flat_map line_text others ≡ text ++ 10 ∷ (flat_map ended texts ++ bytes) =
    sym (line_and_more other others) ∙ e ∙ append_assoc (ended text) (flat_map ended texts) bytes ∙ ended_and_more text (flat_map ended texts ++ bytes) in
    let cut = same_cut (spoken (words_of other)) text (flat_map line_text others) (flat_map ended texts ++ bytes) (line_feedless other head)
    (subst (λ (s : List ℕ). feedless s ≡ true) (sym is.text_is) (line_feedless l is.within)) texts_same in
    let same : l ≡ other = is.only other head (sym cut.0) in
    let behind = behind_read texts lines others bytes read (λ k d lt. within (suc k) d (omega arith)) cut.1 in
    record {
      rest = behind.rest;
      others_are = ap (λ (k : Line). k ∷ others) (sym same) ∙ ap (λ (ls : List Line). l ∷ ls) behind.others_are;
      bytes_are = behind.bytes_are;
    }

-- what has been read begins a certificate
pub reached_begins : (texts : List (List ℕ)) (stage : Stage) → IsReached texts stage → BeginsCertificate (flat_map ended texts)
unfolding claim_text
reached_begins texts stage reached =
    let within = read_within texts reached.lines reached.read in
    let begins = goes_on reached.lines (wants_of stage) reached.leads within in
    record {
      claim = begins.claim;
      told = record { form = begins.form; within = begins.within };
      more = flat_map line_text begins.more;
      text_is = ap (flat_map line_text) begins.lines_are ∙ flat_map-append line_text reached.lines begins.more
          ∙ ap (λ (s : List ℕ). s ++ flat_map line_text begins.more) (read_text texts reached.lines reached.read);
    }

-- a line behind what has been read, and the one that a claim has there
line_there : (lines : List Line) (text bytes : List ℕ) → All IsWithin lines → IsOneLine text → flat_map line_text lines ≡ ended text ++ bytes
    → (l : Line) × (rest : List Line) × (lines ≡ l ∷ rest) × IsWithin l × (text ≡ spoken (words_of l))
line_there [] text bytes within one e = absurd (empty text bytes (e ∙ ended_and_more text bytes))
  where
    empty : (text rest : List ℕ) → [] ≡ text ++ 10 ∷ rest → ⊥
    empty [] rest e = cc
    empty (c ∷ text) rest e = cc
line_there (l ∷ rest) text bytes within one e =
    let head : IsWithin l = within 0 l (omega arith) in
    let cut = same_cut (spoken (words_of l)) text (flat_map line_text rest) bytes (line_feedless l head) (one_line_feedless text one) (sym (line_and_more l rest) ∙ e ∙ ended_and_more text bytes) in
    (l, rest, refl, head, sym cut.0)

All-behind : (lines others : List Line) → All IsWithin (lines ++ others) → All IsWithin others
All-behind [] others all = all
All-behind (l ∷ lines) others all = All-behind lines others (λ k d lt. all (suc k) d (omega arith))

-- a text that is no line stands nowhere
pub wrong_text : (texts : List (List ℕ)) (stage : Stage) (text : List ℕ) → IsReached texts stage → IsOneLine text → IsNoLine text → ¬ BeginsCertificate (flat_map ended texts ++ ended text)
unfolding claim_text
wrong_text texts stage text reached one no_line = λ begins.
    let behind = behind_read texts reached.lines (claim_lines begins.claim) (ended text ++ begins.more) reached.read begins.told.within
    (begins.text_is ∙ append_assoc (flat_map ended texts) (ended text) begins.more) in
    let there = line_there behind.rest text begins.more (All-behind reached.lines behind.rest (subst (All IsWithin) behind.others_are begins.told.within)) one behind.bytes_are in
    no_line.none there.0 there.3 there.4

-- a line that can't stand here doesn't
pub wrong_place : (texts : List (List ℕ)) (stage : Stage) (text : List ℕ) (l : Line) → IsReached texts stage → IsOneLine text → IsLine text l → Stuck (wants_of stage) l
    → ¬ BeginsCertificate (flat_map ended texts ++ ended text)
unfolding claim_text
wrong_place texts stage text l reached one is stuck = λ begins.
    let behind = behind_read texts reached.lines (claim_lines begins.claim) (ended text ++ begins.more) reached.read begins.told.within
    (begins.text_is ∙ append_assoc (flat_map ended texts) (ended text) begins.more) in
    let there = line_there behind.rest text begins.more (All-behind reached.lines behind.rest (subst (All IsWithin) behind.others_are begins.told.within)) one behind.bytes_are in
    let same : l ≡ there.0 = is.only there.0 there.3 there.4 in
    stuck_here begins.claim reached.lines there.1 l (wants_of stage) begins.told.form reached.leads stuck
    (behind.others_are ∙ ap (λ (ls : List Line). reached.lines ++ ls) (there.2 ∙ ap (λ (k : Line). k ∷ there.1) (sym same)))

-- a line feed stands in it
has_feed : (a x : List ℕ) → feedless (a ++ 10 ∷ x) ≡ true → ⊥
has_feed [] x e = cc
has_feed (c ∷ a) x e = has_feed a x (later (not (c == 10)) (feedless (a ++ 10 ∷ x)) e)
  where
    later : (p q : Bool) → (p && q) ≡ true → q ≡ true
    later true q e = e
    later false q e = absurd (cc)

-- lines without a line feed are none
pub no_lines : (lines : List Line) (last : List ℕ) → IsOneLine last → flat_map line_text lines ≡ last → (lines ≡ []) × (last ≡ [])
no_lines [] last one e = (refl, sym e)
no_lines (l ∷ lines) last one e =
    absurd (has_feed (spoken (words_of l)) (flat_map line_text lines) (subst (λ (s : List ℕ). feedless s ≡ true) (sym (sym (line_and_more l lines) ∙ e)) (one_line_feedless last one)))

-- what stands behind the last line feed, where the text is that of a claim
whole_claim : (texts : List (List ℕ)) (stage : Stage) (last : List ℕ) → (reached : IsReached texts stage) → IsOneLine last → (told : IsCertificate (flat_map ended texts ++ last))
    → (claim_lines told.claim ≡ reached.lines) × (last ≡ [])
unfolding claim_text
whole_claim texts stage last reached one told =
    let behind = behind_read texts reached.lines (claim_lines told.claim) last reached.read told.told.within (sym told.text_is) in
    let nothing = no_lines behind.rest last one behind.bytes_are in
    (behind.others_are ∙ ap (λ (ls : List Line). reached.lines ++ ls) nothing.0 ∙ append-nil reached.lines, nothing.1)

pub open_still : (texts : List (List ℕ)) (stage : Stage) (last : List ℕ) → IsReached texts stage → IsOneLine last → IsOpen stage → ¬ IsCertificate (flat_map ended texts ++ last)
open_still texts stage last reached one still = λ told.
    let whole = whole_claim texts stage last reached one told in
    not_all told.claim reached.lines still.want still.rest told.told.form (subst (Leads at_first reached.lines) still.some reached.leads) whole.0

pub more_behind : (texts : List (List ℕ)) (stage : Stage) (last : List ℕ) → IsReached texts stage → IsOneLine last → last ≢ [] → ¬ IsCertificate (flat_map ended texts ++ last)
more_behind texts stage last reached one some = λ told. some (whole_claim texts stage last reached one told).1

-- what has been read to the end is the text of a claim
pub over_is_whole : (texts : List (List ℕ)) (stage : Stage) (last : List ℕ) → IsReached texts stage → IsOver stage → last ≡ [] → IsCertificate (flat_map ended texts ++ last)
unfolding claim_text
over_is_whole texts stage last reached over nothing =
    let within = read_within texts reached.lines reached.read in
    let known = are_lines reached.lines (subst (Leads at_first reached.lines) over.none reached.leads) within in
    record {
      claim = known.claim;
      told = record { form = known.form; within = subst (All IsWithin) (sym known.lines_are) within };
      text_is = ap (λ (s : List ℕ). flat_map ended texts ++ s) nothing ∙ append-nil (flat_map ended texts)
          ∙ sym (ap (flat_map line_text) known.lines_are ∙ read_text texts reached.lines reached.read);
    }

-- one line further
pub further : (texts : List (List ℕ)) (stage new : Stage) (text : List ℕ) (l : Line) → IsReached texts stage → IsLine text l → IsBehind stage l new → IsReached (texts ++ text ∷ []) new
further texts stage new text l reached is behind = record {
  lines = reached.lines ++ l ∷ [];
  read = read_more texts reached.lines text l reached.read is;
  leads = one_further reached.lines l (wants_of stage) (wants_of new) reached.leads behind.follows;
  few = omega (arith, length-append texts (text ∷ []), reached.few, behind.few);
}
