-- A text as its lines and what stands behind the last line feed.
use Rattle.std.proofs.Common.{◌≡◌, ◌≢◌, ℕ, suc, zero, ◌+◌, ◌<◌, ◌==◌, Bool, true, false, cond, ◌⊎◌, inl, inr, List, [], ◌∷◌, ◌++◌, length, take, drop, get_or, All, sym, ap, subst, ◌∙◌, append_assoc, take-append-drop, refl, arith, Bor}
use Rattle.std.specs.List.{flat_map, slice_split, onto_first}
use Rattle.std.proofs.lemmas.Bool.Decides.{eqb_tells}
use Rattle.std.proofs.lemmas.List.{length-take-le, take_more, length-map, map-append}
use Rattle.std.proofs.lemmas.List.Concat.{flat_map-append}
use Rattle.std.proofs.lemmas.List.Elements.{All-cons}
use Rattle.std.proofs.Math.Seq.{drop-cons, take-length}
use Rattle.cert_lines.specs.Guesses.{bytes_of}
use Rattle.cert_lines.specs.Read.{IsLine, IsNoLine}
use Rattle.cert_text.specs.declared.stage.Stage.{Stage}
use Rattle.cert_text.specs.declared.stage.Stage.TheVariants.{Title}
use Rattle.cert_text.specs.Wants.{at_first}
use Rattle.cert_text.specs.Wants.Leads.{here}
use Rattle.cert_text.specs.Reached.AreRead.{none}
use Rattle.cert_text.specs.Texts.{IsCertificate, BeginsCertificate, IsOneLine, ended, IsBadAt}
use Rattle.cert_text.specs.Texts.Stops.{wrong_line, too_early}
use Rattle.cert_text.specs.Reached.{IsReached, IsEnd, IsNoEnd, IsRefused, IsTaken}
use Rattle.cert_text.specs.Reached.IsNoEnd.{still_open, some_behind}
use Rattle.cert_text.specs.Reached.IsRefused.{no_line, no_place}
use Rattle.cert_text.proofs.Reaching.{reached_begins, wrong_text, wrong_place, open_still, more_behind, over_is_whole, further}

abbrev is_feed : ℕ → Bool
is_feed byte = byte == 10

record PartsOf (text : List ℕ) : Type 0 where
  pub lines : List (List ℕ)
  pub last : List ℕ
  pub split : slice_split is_feed text ≡ lines ++ last ∷ []
  pub text_is : text ≡ flat_map ended lines ++ last
  pub each : All IsOneLine lines
  pub one : IsOneLine last

-- a byte that is no line feed before the first part
onto_front : (c : ℕ) (cs : List ℕ) (lines : List (List ℕ)) (last : List ℕ) → c ≢ 10 → slice_split is_feed cs ≡ lines ++ last ∷ [] → cs ≡ flat_map ended lines ++ last → All IsOneLine lines → IsOneLine last
    → (c == 10) ≡ false → PartsOf (c ∷ cs)
onto_front c cs [] last differs split is each one other = record {
  lines = [];
  last = c ∷ last;
  split = ap (λ (b : Bool). cond b ([] ∷ slice_split is_feed cs) (onto_first c (slice_split is_feed cs))) other ∙ ap (onto_first c) split;
  text_is = ap (λ (s : List ℕ). c ∷ s) is;
  each = each;
  one = All-cons (λ byte. byte ≢ 10) c last differs one;
}
onto_front c cs (line ∷ lines) last differs split is each one other = record {
  lines = (c ∷ line) ∷ lines;
  last = last;
  split = ap (λ (b : Bool). cond b ([] ∷ slice_split is_feed cs) (onto_first c (slice_split is_feed cs))) other ∙ ap (onto_first c) split;
  text_is = ap (λ (s : List ℕ). c ∷ s) is;
  each = All-cons IsOneLine (c ∷ line) lines (All-cons (λ byte. byte ≢ 10) c line differs (each 0 [] (omega arith))) (λ k d lt. each (suc k) d (omega arith));
  one = one;
}

one_more : (c : ℕ) (cs : List ℕ) → PartsOf cs → ((c == 10) ≡ true) × (c ≡ 10) ⊎ ((c == 10) ≡ false) × (c ≢ 10) → PartsOf (c ∷ cs)
one_more c cs rest (inl so) = record {
  lines = [] ∷ rest.lines;
  last = rest.last;
  split = ap (λ (b : Bool). cond b ([] ∷ slice_split is_feed cs) (onto_first c (slice_split is_feed cs))) so.0 ∙ ap (λ (s : List (List ℕ)). [] ∷ s) rest.split;
  text_is = ap (λ (k : ℕ). k ∷ cs) so.1 ∙ ap (λ (s : List ℕ). 10 ∷ s) rest.text_is;
  each = All-cons IsOneLine [] rest.lines (λ k d lt. absurd (omega (arith, lt))) rest.each;
  one = rest.one;
}
one_more c cs rest (inr differs) = onto_front c cs rest.lines rest.last differs.1 rest.split rest.text_is rest.each rest.one differs.0

parts : (text : List ℕ) → PartsOf text
parts [] = record { lines = []; last = []; split = refl; text_is = refl; each = λ k d lt. absurd (omega (arith, lt)); one = λ k d lt. absurd (omega (arith, lt)) }
parts (c ∷ cs) = one_more c cs (parts cs) (eqb_tells c 10)

-- lists with one more behind them
last_same : (xs ys : List (List ℕ)) (x y : List ℕ) → xs ++ x ∷ [] ≡ ys ++ y ∷ [] → (xs ≡ ys) × (x ≡ y)
last_same [] [] x y e = (refl, cc)
last_same [] (z ∷ []) x y e = absurd (cc)
last_same [] (z ∷ w ∷ ys) x y e = absurd (cc)
last_same (z ∷ []) [] x y e = absurd (cc)
last_same (z ∷ w ∷ xs) [] x y e = absurd (cc)
last_same (z ∷ xs) (w ∷ ys) x y e = let rest = last_same xs ys x y (cc e) in let head : z ≡ w = cc e in (cc, rest.1)

-- the parts are the lines and what stands behind the last line feed
pub record IsParted (text : List ℕ) (lines : List (List ℕ)) (last : List ℕ) : Type 0 where
  pub text_is : text ≡ flat_map ended lines ++ last
  pub each : All IsOneLine lines
  pub one : IsOneLine last

pub is_parted : (text : List ℕ) (lines : List (List ℕ)) (last : List ℕ) → slice_split is_feed text ≡ lines ++ last ∷ [] → IsParted text lines last
is_parted text lines last split =
    let known = parts text in
    let same = last_same known.lines lines known.last last (sym known.split ∙ split) in
    record {
      text_is = known.text_is ∙ ap (λ (ls : List (List ℕ)). flat_map ended ls ++ known.last) same.0 ∙ ap (λ (s : List ℕ). flat_map ended lines ++ s) same.1;
      each = subst (All IsOneLine) same.0 known.each;
      one = subst IsOneLine same.1 known.one;
    }

-- the parts that code finds
pub parts_known : (text : List ℕ) (items parts whole : List (Bor (List ℕ))) (last : Bor (List ℕ)) → bytes_of items ≡ slice_split is_feed text → parts ≡ items
    → parts ≡ whole ++ last ∷ [] → IsParted text (bytes_of whole) last.now
parts_known text items parts whole last split same is =
    is_parted text (bytes_of whole) last.now (sym split ∙ ap bytes_of (sym same) ∙ ap bytes_of is ∙ map-append (λ (w : Bor (List ℕ)). w.now) whole (last ∷ []))

-- there is a part
pub some_parts : (text : List ℕ) (items parts : List (Bor (List ℕ))) → bytes_of items ≡ slice_split is_feed text → parts ≡ items → length parts ≡ 0 → ⊥
some_parts text items [] split same is =
    let known = parts text in
    none known.lines known.last (ap bytes_of same ∙ split ∙ known.split)
  where
    none : (lines : List (List ℕ)) (last : List ℕ) → [] ≡ lines ++ last ∷ [] → ⊥
    none [] last e = cc
    none (l ∷ lines) last e = cc
some_parts text items (p ∷ found) split same is = absurd (omega (arith, is))

-- as many texts as words of code
pub many : (words : List (Bor (List ℕ))) → length (bytes_of words) ≡ length words
many words = length-map words (λ (w : Bor (List ℕ)). w.now)

pub within : (words : List (Bor (List ℕ))) (i : ℕ) → i < length words → i < length (bytes_of words)
within words i lt = omega (arith, many words, lt)

-- of the first ones each has what all have
first_have : (xs : List (List ℕ)) (i : ℕ) → All IsOneLine xs → All IsOneLine (take i xs)
first_have xs zero all = λ k d lt. absurd (omega (arith, lt))
first_have [] (suc i) all = λ k d lt. absurd (omega (arith, lt))
first_have (x ∷ xs) (suc i) all = All-cons IsOneLine x (take i xs) (all 0 [] (omega arith)) (first_have xs i (λ k d lt. all (suc k) d (omega arith)))

-- a text is bad at a line that can't stand behind those before it
bad_here : (lines : List (List ℕ)) (last : List ℕ) (i : ℕ) → i < length lines → All IsOneLine lines → BeginsCertificate (flat_map ended (take i lines))
    → ¬ BeginsCertificate (flat_map ended (take i lines) ++ ended (get_or lines i [])) → IsBadAt (flat_map ended lines ++ last) (i + 1)
bad_here lines last i lt all begins not_so =
    let count : length (take i lines) ≡ i = length-take-le i lines (omega (arith, lt)) in
    let parted : lines ≡ take i lines ++ (get_or lines i [] ∷ drop (suc i) lines) = sym (take-append-drop i lines) ∙ ap (λ (s : List (List ℕ)). take i lines ++ s) (drop-cons lines i [] lt) in
    record {
      before = take i lines;
      each = first_have lines i all;
      rest = ended (get_or lines i []) ++ (flat_map ended (drop (suc i) lines) ++ last);
      text_is = ap (λ (ls : List (List ℕ)). flat_map ended ls ++ last) parted
          ∙ ap (λ (s : List ℕ). s ++ last) (flat_map-append ended (take i lines) (get_or lines i [] ∷ drop (suc i) lines))
          ∙ append_assoc (flat_map ended (take i lines)) (ended (get_or lines i []) ++ flat_map ended (drop (suc i) lines)) last
          ∙ ap (λ (s : List ℕ). flat_map ended (take i lines) ++ s) (append_assoc (ended (get_or lines i [])) (flat_map ended (drop (suc i) lines)) last);
      number_is = omega (arith, count);
      begins = begins;
      stops = wrong_line (get_or lines i []) (flat_map ended (drop (suc i) lines) ++ last) (all i [] lt) not_so;
    }

pub refused_here : (lines : List (List ℕ)) (last : List ℕ) (i : ℕ) (stage : Stage) (text : List ℕ) → i < length lines → All IsOneLine lines → get_or lines i [] ≡ text
    → IsReached (take i lines) stage → IsRefused stage text → IsBadAt (flat_map ended lines ++ last) (i + 1)
refused_here lines last i stage text lt all there reached (no_line is_none) =
    bad_here lines last i lt all (reached_begins (take i lines) stage reached)
    (wrong_text (take i lines) stage (get_or lines i []) reached (all i [] lt) (subst IsNoLine (sym there) is_none))
refused_here lines last i stage text lt all there reached (no_place l is stuck) =
    bad_here lines last i lt all (reached_begins (take i lines) stage reached)
    (wrong_place (take i lines) stage (get_or lines i []) l reached (all i [] lt) (subst (λ (s : List ℕ). IsLine s l) (sym there) is) stuck.stuck)

pub taken_here : (lines : List (List ℕ)) (i : ℕ) (stage new : Stage) (text : List ℕ) → i < length lines → get_or lines i [] ≡ text
    → IsReached (take i lines) stage → IsTaken stage text new → IsReached (take (i + 1) lines) new
taken_here lines i stage new text lt there reached taken =
    subst (λ (ls : List (List ℕ)). IsReached ls new) (sym (take_more lines i [] lt ∙ ap (λ (s : List ℕ). take i lines ++ s ∷ []) there))
    (further (take i lines) stage new text taken.line reached taken.is taken.behind)

-- where all lines have been read
all_reached : (lines : List (List ℕ)) (i : ℕ) (stage : Stage) → i ≡ length lines → IsReached (take i lines) stage → IsReached lines stage
all_reached lines i stage e reached = subst (λ (ls : List (List ℕ)). IsReached ls stage) (ap (λ (k : ℕ). take k lines) e ∙ take-length lines) reached

pub ends_well : (lines : List (List ℕ)) (last : List ℕ) (i : ℕ) (stage : Stage) → i ≡ length lines → IsReached (take i lines) stage → IsEnd stage last → IsCertificate (flat_map ended lines ++ last)
ends_well lines last i stage e reached is_end = over_is_whole lines stage last (all_reached lines i stage e reached) is_end.over is_end.nothing

pub ends_badly : (lines : List (List ℕ)) (last : List ℕ) (i n : ℕ) (stage : Stage) → i ≡ length lines → n ≡ length lines → All IsOneLine lines → IsOneLine last → IsReached (take i lines) stage
    → IsNoEnd stage last → IsBadAt (flat_map ended lines ++ last) (n + 1)
ends_badly lines last i n stage e count all one reached no_end =
    let whole = all_reached lines i stage e reached in
    record {
      before = lines;
      each = all;
      rest = last;
      text_is = refl;
      number_is = ap (λ (k : ℕ). k + 1) count;
      begins = reached_begins lines stage whole;
      stops = too_early last one (never whole no_end);
    }
  where
    never : IsReached lines stage → IsNoEnd stage last → ¬ IsCertificate (flat_map ended lines ++ last)
    never whole (still_open still) = open_still lines stage last whole one still
    never whole (some_behind some) = more_behind lines stage last whole one some

-- at first nothing has been read
pub nothing_read : IsReached [] Title
nothing_read = record { lines = []; read = none; leads = here at_first; few = omega arith }
