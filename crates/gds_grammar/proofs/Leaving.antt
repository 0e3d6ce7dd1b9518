-- What is left of a grammar behind some types.
use Rattle.std.proofs.Common.{◌≡◌, ℕ, true, false, ◌⊎◌, inl, inr, List, [], ◌∷◌, ◌++◌, drop, Option, Some, refl, sym, ap, ◌∙◌, subst, append_assoc}
use Rattle.std.specs.List.{concat, AllByRecursion}
use Rattle.gds_grammar.specs.Grammar.{Grammar, nothing, one_of, ◌‣◌, ◌∣◌, many, In}
use Rattle.gds_grammar.specs.Words.{nullable, firsts}
use Rattle.gds_grammar.specs.Conditions.{is_in}
use Rattle.gds_grammar.proofs.Predicting.{Goes, Left}
use Rattle.gds_grammar.proofs.GrammarLaws.{clash, same_first, nullable_empty, firsts_has, in_one_of}

-- before nothing the whole is left
pub left_here : (g : Grammar) (next : Option ℕ) → Left g [] next g
left_here g next = record { into = λ w here. here; only = λ w here goes. here }

-- the types that go on from one place go on from the other, with these before them
abbrev pub Agrees : Option ℕ → List ℕ → Option ℕ → Type 0
Agrees next types later = (w : List ℕ) → Goes later w → Goes next (types ++ w)

-- what is left of what is left
pub left_then : (g h j : Grammar) (types more : List ℕ) (next later : Option ℕ) → Left g types next h → Left h more later j → Agrees next more later → Left g (types ++ more) later j
left_then g h j types more next later first second agrees = record {
  into = λ w here. subst (In g) (sym (append_assoc types more w)) (first.into (more ++ w) (second.into w here));
  only = λ w here goes. second.only w (first.only (more ++ w) (subst (In g) (append_assoc types more w) here) (agrees w goes)) goes;
}

-- behind one record what is behind it is left
pub left_one : (code : ℕ) (others : List ℕ) (k : Grammar) (c : ℕ) (next : Option ℕ) → is_in (code ∷ others) c ≡ true → Left (one_of code others ‣ k) (c ∷ []) next k
left_one code others k c next has = record {
  into = λ w here. (c ∷ [], w, refl, in_one_of code others c has, here);
  only = λ w here goes.
      let e : c ∷ w ≡ here.3.0 ∷ here.1 = here.2 ∙ ap (λ (u : List ℕ). u ++ here.1) here.3.1 in
      subst (In k) (sym (ap (drop 1) e)) here.4;
}

pub left_nothing : (k : Grammar) (next : Option ℕ) → Left (nothing ‣ k) [] next k
left_nothing k next = record {
  into = λ w here. ([], w, refl, refl, here);
  only = λ w here goes. subst (In k) (sym (here.2 ∙ ap (λ (u : List ℕ). u ++ here.1) here.3)) here.4;
}

-- parts may be grouped either way
pub left_parts : (a b k : Grammar) (next : Option ℕ) → Left ((a ‣ b) ‣ k) [] next (a ‣ (b ‣ k))
left_parts a b k next = record {
  into = λ w h.
      let e : w ≡ (h.0 ++ h.4.0) ++ h.4.1 = h.2 ∙ ap (λ (v : List ℕ). h.0 ++ v) h.4.2 ∙ sym (append_assoc h.0 h.4.0 h.4.1) in
      (h.0 ++ h.4.0, h.4.1, e, (h.0, h.4.0, refl, h.3, h.4.3), h.4.4);
  only = λ w h goes.
      let e : w ≡ h.3.0 ++ (h.3.1 ++ h.1) = h.2 ∙ ap (λ (u : List ℕ). u ++ h.1) h.3.2 ∙ append_assoc h.3.0 h.3.1 h.1 in
      (h.3.0, h.3.1 ++ h.1, e, h.3.3, (h.3.1, h.1, refl, h.3.4, h.4));
}

-- a part that isn't nothing doesn't stand before a type that it doesn't begin with
never_begins : (a : Grammar) (code : ℕ) (first second w : List ℕ) → nullable a ≡ false → is_in (firsts a) code ≡ false → w ≡ first ++ second → Goes (Some code) w → In a first → ⊥
never_begins a code [] second w some other e goes here = clash (nullable a) (nullable_empty a here) some
never_begins a code (c ∷ first) second w some other e goes here =
    let same : c ≡ code = same_first c code (first ++ second) goes.0 (sym e ∙ goes.1) in
    clash (is_in (firsts a) code) (subst (λ (x : ℕ). is_in (firsts a) x ≡ true) same (firsts_has a c first here)) other

-- nor does a whole begin with a type that it doesn't begin with
not_begun : (g : Grammar) (code : ℕ) (w : List ℕ) → is_in (firsts g) code ≡ false → Goes (Some code) w → In g w → ⊥
not_begun g code w other goes here = clash (is_in (firsts g) code) (firsts_has g code goes.0 (subst (In g) goes.1 here)) other

-- where the next type can't begin the second way, the first one is left
pub left_first : (a b k : Grammar) (code : ℕ) → is_in (firsts (b ‣ k)) code ≡ false → Left ((a ∣ b) ‣ k) [] (Some code) (a ‣ k)
left_first a b k code other = record {
  into = λ w h. (h.0, h.1, h.2, inl h.3, h.4);
  only = λ w h goes. first_way w h.0 h.1 h.2 h.3 h.4 goes;
}
  where
    first_way : (w u v : List ℕ) → w ≡ u ++ v → In a u ⊎ In b u → In k v → Goes (Some code) w → In (a ‣ k) w
    first_way w u v e (inl here) there goes = (u, v, e, here, there)
    first_way w u v e (inr here) there goes = absurd (not_begun (b ‣ k) code w other goes (u, v, e, here, there))

-- where it can't begin the first way, the second one is left
pub left_second : (a b k : Grammar) (code : ℕ) → nullable a ≡ false → is_in (firsts a) code ≡ false → Left ((a ∣ b) ‣ k) [] (Some code) (b ‣ k)
left_second a b k code some other = record {
  into = λ w h. (h.0, h.1, h.2, inr h.3, h.4);
  only = λ w h goes. second_way w h.0 h.1 h.2 h.3 h.4 goes;
}
  where
    second_way : (w u v : List ℕ) → w ≡ u ++ v → In a u ⊎ In b u → In k v → Goes (Some code) w → In (b ‣ k) w
    second_way w u v e (inl here) there goes = absurd (never_begins a code u v w some other e goes here)
    second_way w u v e (inr here) there goes = (u, v, e, here, there)

-- where the next type can't begin what is behind, another round is left
pub left_again : (a k : Grammar) (code : ℕ) → is_in (firsts k) code ≡ false → Left (many a ‣ k) [] (Some code) (a ‣ (many a ‣ k))
left_again a k code other = record {
  into = λ w h.
      let e : w ≡ (h.0 ++ h.4.0) ++ h.4.1 = h.2 ∙ ap (λ (v : List ℕ). h.0 ++ v) h.4.2 ∙ sym (append_assoc h.0 h.4.0 h.4.1) in
      (h.0 ++ h.4.0, h.4.1, e, (h.0 ∷ h.4.3.0, (h.3, h.4.3.1), ap (λ (v : List ℕ). h.0 ++ v) h.4.3.2), h.4.4);
  only = λ w h goes. again w h.3.0 h.1 h.3.1 (h.2 ∙ ap (λ (u : List ℕ). u ++ h.1) h.3.2) h.4 goes;
}
  where
    again : (w : List ℕ) (pieces : List (List ℕ)) (v : List ℕ) → AllByRecursion (In a) pieces → w ≡ concat pieces ++ v → In k v → Goes (Some code) w → In (a ‣ (many a ‣ k)) w
    again w [] v each e there goes = absurd (not_begun k code w other goes (subst (In k) (sym e) there))
    again w (piece ∷ pieces) v each e there goes =
        (piece, concat pieces ++ v, e ∙ append_assoc piece (concat pieces) v, each.0, (concat pieces, v, refl, (pieces, each.1, refl), there))

-- where it can't begin a round, only what is behind is left
pub left_no_more : (a k : Grammar) (code : ℕ) → nullable a ≡ false → is_in (firsts a) code ≡ false → Left (many a ‣ k) [] (Some code) k
left_no_more a k code some other = record {
  into = λ w here. ([], w, refl, ([], tt, refl), here);
  only = λ w h goes. no_more w h.3.0 h.1 h.3.1 (h.2 ∙ ap (λ (u : List ℕ). u ++ h.1) h.3.2) h.4 goes;
}
  where
    no_more : (w : List ℕ) (pieces : List (List ℕ)) (v : List ℕ) → AllByRecursion (In a) pieces → w ≡ concat pieces ++ v → In k v → Goes (Some code) w → In k w
    no_more w [] v each e there goes = subst (In k) (sym e) there
    no_more w (piece ∷ pieces) v each e there goes =
        absurd (never_begins a code piece (concat pieces ++ v) w some other (e ∙ append_assoc piece (concat pieces) v) goes each.0)
