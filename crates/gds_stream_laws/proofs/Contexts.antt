-- Words of a rule taken apart, and what their records owe where they stand.
use Rattle.std.proofs.Common.{◌≡◌, ℕ, Bool, true, false, ◌||◌, ◌&&◌, eqb, inl, inr, List, [], ◌∷◌, ◌++◌, length, get_or, drop, Contains, Option, Some, refl, sym, ap, ◌∙◌, subst, arith}
use Rattle.std.proofs.lemmas.Bool.{true≢false, cond-true, cond-false, cases_Bool, eqb-true, or_cases, or_left, and_parts}
use Rattle.std.proofs.lemmas.List.Elements.{All-contains, All-from_recursion}
use Rattle.gds_records.specs.Records.{Item, Framed}
use Rattle.gds_grammar.specs.Grammar.{Grammar, nothing, one_of, ◌‣◌, ◌∣◌, many, type, In}
use Rattle.gds_grammar.specs.Conditions.{is_in, starts, kind_after, Counted, InContext}
use Rattle.gds_grammar.proofs.Following.{codes}
use Rattle.gds_grammar.proofs.GrammarLaws.{is_in_left, is_in_right}
use Rattle.gds_stream.specs.Contents.{held}
use Rattle.gds_stream.specs.Gives.{IsOne}
use Rattle.gds_stream_laws.specs.Values.{AreOf}
use Rattle.gds_stream_laws.proofs.PieceValues.{apart, apart_at}

-- ---- words taken apart

-- records that have the types of two lists together
pub record Split (items : List Item) (u v : List ℕ) : Type 0 where
  pub first : List Item
  pub second : List Item
  pub whole : items ≡ first ++ second
  pub first_codes : codes first ≡ u
  pub second_codes : codes second ≡ v

pub split : (items : List Item) (u v : List ℕ) → codes items ≡ u ++ v → Split items u v
split items [] v e = record { first = []; second = items; whole = refl; first_codes = refl; second_codes = e }
split [] (c ∷ u) v e = absurd (omega (arith, ap length e))
split (i ∷ items) (c ∷ u) v e =
    let further = split items u v (ap (drop 1) e) in
    record {
      first = i ∷ further.first;
      second = further.second;
      whole = ap (λ (l : List Item). i ∷ l) further.whole;
      first_codes = ap (λ (n : ℕ). n ∷ codes further.first) (ap (λ (l : List ℕ). get_or l 0 0) e) ∙ ap (λ (l : List ℕ). c ∷ l) further.first_codes;
      second_codes = further.second_codes;
    }

-- records that are a word of one rule and then of another
pub record Both (a b : Grammar) (items : List Item) : Type 0 where
  pub first : List Item
  pub second : List Item
  pub whole : items ≡ first ++ second
  pub is_first : In a (codes first)
  pub is_second : In b (codes second)

pub both : (a b : Grammar) (items : List Item) → In (a ‣ b) (codes items) → Both a b items
both a b items word =
    let parts = split items word.0 word.1 word.2 in
    record { first = parts.first; second = parts.second; whole = parts.whole; is_first = subst (In a) (sym parts.first_codes) word.3; is_second = subst (In b) (sym parts.second_codes) word.4 }

-- one record of a type
pub record Single (code : ℕ) (items : List Item) : Type 0 where
  pub item : Item
  pub whole : items ≡ item ∷ []
  pub of_type : item.code ≡ code

-- no types, no records
pub no_items : (items : List Item) → codes items ≡ [] → items ≡ []
no_items [] e = refl
no_items (i ∷ items) e = absurd (omega (arith, ap length e))

single_at : (code t : ℕ) (items : List Item) → t ≡ code → codes items ≡ t ∷ [] → Single code items
single_at code t [] same e = absurd (omega (arith, ap length e))
single_at code t (i ∷ items) same e = record {
  item = i;
  whole = ap (λ (l : List Item). i ∷ l) (no_items items (ap (drop 1) e));
  of_type = ap (λ (l : List ℕ). get_or l 0 0) e ∙ same;
}

one_type : (code t : ℕ) → Contains (code ∷ []) t → t ≡ code
one_type code t has = All-contains (λ x. x ≡ code) (code ∷ []) t (All-from_recursion (λ x. x ≡ code) (code ∷ []) (refl, tt)) has

pub single : (code : ℕ) (items : List Item) → In (type code) (codes items) → Single code items
single code items word = single_at code word.0 items (one_type code word.0 word.2) word.1

pub is_one : (code : ℕ) (items : List Item) (s : Single code items) → IsOne s.item.at code s.item.body items
is_one code items s = (s.item.form, s.whole ∙ ap (λ (n : ℕ). let i : Item = record s.item { code = n } in i ∷ []) s.of_type)

-- ---- types that a word has

-- whether each word of the rule has the type
abbrev pub always : ℕ → Grammar → Bool
always code nothing = false
always code (one_of c []) = eqb c code
always code (one_of c (d ∷ types)) = false
always code (a ‣ b) = always code a || always code b
always code (a ∣ b) = always code a && always code b
always code (many a) = false

pub always_has : (code : ℕ) (g : Grammar) (w : List ℕ) → always code g ≡ true → In g w → is_in w code ≡ true
always_has code nothing w has word = absurd (true≢false (sym has))
always_has code (one_of c []) w has word =
    subst (λ (l : List ℕ). is_in l code ≡ true) (sym (word.1 ∙ ap (λ (n : ℕ). n ∷ []) (one_type c word.0 word.2))) (or_left (eqb c code) false has)
always_has code (one_of c (d ∷ types)) w has word = absurd (true≢false (sym has))
always_has code (a ‣ b) w has word =
    subst (λ (l : List ℕ). is_in l code ≡ true) (sym word.2)
    (elim (or_cases (always code a) (always code b) has) [
      | inl here ↦ is_in_left word.0 word.1 code (always_has code a word.0 here word.3)
      | inr later ↦ is_in_right word.0 word.1 code (always_has code b word.1 later word.4)
    ])
always_has code (a ∣ b) w has (inl word) = always_has code a w (and_parts (always code a) (always code b) has).0 word
always_has code (a ∣ b) w has (inr word) = always_has code b w (and_parts (always code a) (always code b) has).1 word
always_has code (many a) w has word = absurd (true≢false (sym has))

-- ---- what records owe

pub context_left : (kind : Option ℕ) (items more : List Item) → InContext kind (items ++ more) → InContext kind items
context_left kind [] more each = tt
context_left kind (i ∷ items) more each = (each.0, each.1, each.2, context_left (kind_after kind i) items more each.3)

pub context_right : (kind : Option ℕ) (items more : List Item) → InContext kind (items ++ more) → (k : Option ℕ) × InContext k more
context_right kind [] more each = (kind, each)
context_right kind (i ∷ items) more each = context_right (kind_after kind i) items more each.3

-- a record of the type, with these data, as it should be in its element
pub record Owes (kind : Option ℕ) (code : ℕ) (body : List ℕ) : Type 0 where
  pub item : Item
  pub of_type : item.code ≡ code
  pub is_body : item.body ≡ body
  pub framed : Framed item
  pub counted : Counted kind item

-- where a type is there the records hold its data, which are as they should be, if no element begins before
pub owes : (code : ℕ) (kind : Option ℕ) (types : List ℕ) (items : List Item) → apart types starts ≡ true → AreOf types items → InContext kind items → is_in (codes items) code ≡ true
    → (body : List ℕ) × (held code items ≡ Some body) × Owes kind code body
owes code kind types [] none these each has = absurd (true≢false (sym has))
owes code kind types (i ∷ items) none these each has =
    elim (cases_Bool (eqb i.code code)) [
      | inl same ↦ (i.body, cond-true (eqb i.code code) (Some i.body) (held code items) same, record { item = i; of_type = eqb-true i.code code same; is_body = refl; framed = each.0; counted = each.1 })
      | inr differs ↦
          let stays : kind_after kind i ≡ kind = cond-false (is_in starts i.code) (Some i.code) kind (apart_at types starts i.code none these.0) in
          let later : is_in (codes items) code ≡ true = ap (λ (b : Bool). b || is_in (codes items) code) (sym differs) ∙ has in
          let further = owes code kind types items none these.1 (subst (λ (k : Option ℕ). InContext k items) stays each.3) later in
          (further.0, cond-false (eqb i.code code) (Some i.body) (held code items) differs ∙ further.1, further.2)
    ]
