-- From one place to another the records that are read stand, and the grammar allows them.
use Rattle.std.proofs.Common.{◌≡◌, ◌≢◌, ℕ, ◌+◌, ◌<◌, Bool, true, false, cond, eqb, List, [], ◌∷◌, ◌++◌, length, map, drop, Contains, Option, Some, None, refl, sym, ap, ◌∙◌, subst, append_assoc, append-nil, length-append, arith}
use Rattle.std.specs.Prelude.{AllPairs}
use Rattle.std.specs.List.{cons_option, fold}
use Rattle.std.proofs.lemmas.List.{drop_at}
use Rattle.std.proofs.lemmas.List.Concat.{flat_map-append}
use Rattle.std.proofs.lemmas.List.Elements.{All-drop, filter_map-append, Contains-get_or}
use Rattle.std.proofs.lemmas.List.Quantifiers.{all_pairs_push}
use Rattle.std.proofs.lemmas.List.Sums.{fold-append}
use Rattle.std.proofs.lemmas.Bool.{eqb-true}
use Rattle.gds_records.specs.declared.types.TheConstants.{STRNAME}
use Rattle.gds_records.specs.Records.{Item, spelled, flat}
use Rattle.gds_records.specs.Framing.{BeginsWith}
use Rattle.gds_records.proofs.Deciding.{length_spelled}
use Rattle.gds_grammar.specs.Conditions.{trim, kind_after, name_in, names_in, InContext, Placed, Counted, Readable}
use Rattle.gds_grammar.specs.Tests.{is_repeated}
use Rattle.gds_grammar.specs.Reading.{Cursor, behind}
use Rattle.gds_grammar.proofs.Appended.{placed_append, context_append}
use Rattle.gds_grammar.proofs.Predicting.{AreBytes, Follows}
use Rattle.gds_grammar.proofs.Decided.{repeated_false}

-- the types of records
abbrev pub codes : List Item → List ℕ
codes items = map (λ i. i.code) items

-- ---- records one after the other

pub follows_here : (c : Cursor) → Follows c [] c
follows_here c = record {
  spells = refl;
  at = omega arith;
  placed = tt;
  each = tt;
  kind = refl;
  names = sym (append-nil c.names);
  differ = λ apart. apart;
}

pub follows_then : (c d e : Cursor) (items more : List Item) → Follows c items d → Follows d more e → Follows c (items ++ more) e
follows_then c d e items more first second =
    let whole : flat (items ++ more) ≡ flat items ++ flat more = flat_map-append spelled items more in
    let size : length (flat (items ++ more)) ≡ length (flat items) + length (flat more) = ap length whole ∙ length-append (flat items) (flat more) in
    record {
      spells = first.spells ∙ ap (λ (l : List ℕ). flat items ++ l) second.spells ∙ sym (append_assoc (flat items) (flat more) e.rest) ∙ ap (λ (l : List ℕ). l ++ e.rest) (sym whole);
      at = omega (arith, first.at, second.at, size);
      placed = placed_append c.at items more first.placed (subst (λ (n : ℕ). Placed n more) first.at second.placed);
      each = context_append c.kind items more first.each (subst (λ (k : Option ℕ). InContext k more) first.kind second.each);
      kind = second.kind ∙ ap (λ (k : Option ℕ). fold kind_after k more) first.kind ∙ sym (fold-append kind_after c.kind items more);
      names = second.names ∙ ap (λ (l : List (List ℕ)). l ++ names_in more) first.names ∙ append_assoc c.names (names_in items) (names_in more) ∙ ap (λ (l : List (List ℕ)). c.names ++ l) (sym (filter_map-append name_in items more));
      differ = λ apart. second.differ (first.differ apart);
    }

names_apart : (b : Bool) (names : List (List ℕ)) (name : List ℕ) → (b ≡ true → ¬ Contains names name)
    → AllPairs (λ x y. x ≢ y) names → AllPairs (λ x y. x ≢ y) (names ++ cons_option (cond b (Some name) None) [])
names_apart true names name new apart =
    all_pairs_push (λ (x y : List ℕ). x ≢ y) names name apart
    (λ k d within same. new refl (subst (Contains names) same (Contains-get_or names k d within)))
names_apart false names name new apart = subst (AllPairs (λ x y. x ≢ y)) (sym (append-nil names)) apart

-- one record that is as it should be
pub follows_one : (c : Cursor) (i : Item) → BeginsWith c.at i c.rest → Counted c.kind i → Readable i → is_repeated c.names i ≡ false → Follows c (i ∷ []) (behind c i)
follows_one c i begins count text new = record {
  spells = begins.spells ∙ ap (λ (l : List ℕ). l ++ drop (length (spelled i)) c.rest) (sym (append-nil (spelled i)));
  at = ap (λ (l : List ℕ). c.at + length l) (sym (append-nil (spelled i)));
  placed = (begins.place, tt);
  each = (begins.framed, count, text, tt);
  kind = refl;
  names = refl;
  differ = names_apart (eqb i.code STRNAME) c.names (trim i.body) (λ e. repeated_false c.names i new (eqb-true _ _ e));
}

-- what is left are bytes, as what was there was
pub bytes_behind : (c d : Cursor) (items : List Item) → AreBytes c.rest → Follows c items d → AreBytes d.rest
bytes_behind c d items bytes follows =
    let left : drop (length (flat items)) c.rest ≡ d.rest = ap (drop (length (flat items))) follows.spells ∙ drop_at (flat items) d.rest _ refl in
    subst AreBytes left (All-drop (λ b. b < 256) (length (flat items)) c.rest bytes)

-- behind a record less is left
pub shorter_behind : (c d : Cursor) (i : Item) (items : List Item) → Follows c (i ∷ items) d → length d.rest < length c.rest
shorter_behind c d i items follows =
    let n = ap length follows.spells ∙ length-append (flat (i ∷ items)) d.rest in
    omega (arith, length-append (spelled i) (flat items), length_spelled i)
