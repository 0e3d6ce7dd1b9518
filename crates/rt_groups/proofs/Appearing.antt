-- Numbers of entries, one item after another.
use Rattle.std.proofs.Common.{◌≡◌, ℕ, zero, suc, ◌+◌, ◌<◌, ◌≤◌, ◌⊎◌, List, [], ◌∷◌, ◌++◌, length, get_or, slice_index, unwrap_or, sym, ap, subst, ◌∙◌, refl, arith, inl, inr, add-one}
use Rattle.std.specs.Prelude.{Option, None, Some}
use Rattle.std.proofs.lemmas.Bool.{cases_eq, cases_order}
use Rattle.std.proofs.lemmas.Grind.{get_or-set_at}
use Rattle.std.proofs.lemmas.List.{get_or_append_left, get_or_push, get_or-set_other, get_or_past, length-append}
use Rattle.rt_cells.proofs.Numbers.{last_or_before, by_lt_n}
use Rattle.rt_links.specs.Numbers.{AreNumbered, IsOfOldNet, IsOfNewNet}
use Rattle.rt_groups.specs.Groups.{AreAlike, AreNumberedBy}
use Rattle.rt_groups.specs.Entries.{AreUnknown, IsNumberOf}

some_or_none : (m : ℕ) → None ≡ Some m → ⊥
some_or_none m e = cc

-- one more than y where x is y, and else y
turn_of : (x y : ℕ) → (x ≡ y) ⊎ (x ≡ y → ⊥) → ℕ
turn_of x y (inl e) = suc y
turn_of x y (inr other) = y

turn_same : (x y : ℕ) (c : (x ≡ y) ⊎ (x ≡ y → ⊥)) → x ≡ y → turn_of x y c ≡ suc y
unfolding turn_of
turn_same x y (inl e) f = refl
turn_same x y (inr other) f = absurd (other f)

turn_other : (x y : ℕ) (c : (x ≡ y) ⊎ (x ≡ y → ⊥)) → (x ≡ y → ⊥) → turn_of x y c ≡ y
unfolding turn_of
turn_other x y (inl e) f = absurd (f e)
turn_other x y (inr other) f = refl

abbrev turned : ℕ → ℕ → ℕ
turned x y = turn_of x y (cases_eq x y)

-- how many numbers have appeared before a place: a number that is the next one is new
pub fresh_of : List ℕ → ℕ → ℕ
fresh_of numbers zero = 0
fresh_of numbers (suc a) = turned (get_or numbers a 0) (fresh_of numbers a)

fresh_start : (numbers : List ℕ) → fresh_of numbers 0 ≡ 0
unfolding fresh_of
fresh_start numbers = refl

fresh_same : (numbers : List ℕ) (a : ℕ) → get_or numbers a 0 ≡ fresh_of numbers a → fresh_of numbers (suc a) ≡ suc (fresh_of numbers a)
unfolding fresh_of
fresh_same numbers a e = turn_same (get_or numbers a 0) (fresh_of numbers a) (cases_eq (get_or numbers a 0) (fresh_of numbers a)) e

fresh_other : (numbers : List ℕ) (a : ℕ) → (get_or numbers a 0 ≡ fresh_of numbers a → ⊥) → fresh_of numbers (suc a) ≡ fresh_of numbers a
unfolding fresh_of
fresh_other numbers a e = turn_other (get_or numbers a 0) (fresh_of numbers a) (cases_eq (get_or numbers a 0) (fresh_of numbers a)) e

fresh_push : (numbers : List ℕ) (x a : ℕ) → a ≤ length numbers → fresh_of (numbers ++ x ∷ []) a ≡ fresh_of numbers a
unfolding fresh_of
fresh_push numbers x zero l = refl
fresh_push numbers x (suc a) l =
    ap (λ n. turned n (fresh_of (numbers ++ x ∷ []) a)) (get_or_append_left numbers (x ∷ []) 0 a (omega (arith, l)))
    ∙ ap (λ n. turned (get_or numbers a 0) n) (fresh_push numbers x a (omega (arith, l)))

-- the entry stands before place n, and has the number there
pub record HasNumber (groups : List ℕ) (n : ℕ) (numbers : List ℕ) (entry number : ℕ) : Type 0 where
  pub first : ℕ
  pub before : first < n
  pub same : get_or groups first 0 ≡ entry
  pub numbered : get_or numbers first 0 ≡ number

-- the items before place n have their numbers, and `known` has those of their entries
pub record AreNumberedBefore (groups : List ℕ) (n : ℕ) (numbers : List ℕ) (known : List (Option ℕ)) (next : ℕ) : Type 0 where
  pub counted : length numbers ≡ n
  pub next_is : next ≡ fresh_of numbers n
  pub few : next ≤ n
  pub below : (a : ℕ) → a < n → get_or numbers a 0 < next
  pub one_number : (a b : ℕ) → a < n → b < a → AreAlike groups b a → get_or numbers b 0 ≡ get_or numbers a 0
  pub old_or_new : (a : ℕ) → a < n → IsOfOldNet (AreAlike groups) (fresh_of numbers) a ⊎ IsOfNewNet (AreAlike groups) (fresh_of numbers) (λ k. slice_index numbers k) a
  pub found : (e number : ℕ) → get_or known e None ≡ Some number → HasNumber groups n numbers e number
  pub missed : (e : ℕ) → get_or known e None ≡ None → (a : ℕ) → a < n → get_or groups a 0 ≡ e → ⊥

unknown_at : (bound : ℕ) (known : List (Option ℕ)) → AreUnknown bound known → (e : ℕ) → get_or known e None ≡ None
unknown_at bound known none e = by_lt_n e bound (λ l. none.none e l) (λ l. get_or_past known e None (omega (arith, l, none.counted)))

-- no item has a number yet
pub none_numbered : (groups : List ℕ) (bound : ℕ) (known : List (Option ℕ)) → AreUnknown bound known → AreNumberedBefore groups 0 [] known 0
none_numbered groups bound known none = record {
  counted = refl;
  next_is = sym (fresh_start []);
  few = omega arith;
  below = λ a l. absurd (omega (arith, l));
  one_number = λ a b l m e. absurd (omega (arith, l));
  old_or_new = λ a l. absurd (omega (arith, l));
  found = λ e m s. absurd (some_or_none m (sym (unknown_at bound known none e) ∙ s));
  missed = λ e s a l f. absurd (omega (arith, l));
}

-- all items have their numbers
pub all_numbered : (groups numbers : List ℕ) (n : ℕ) (known : List (Option ℕ)) (next : ℕ) → n ≡ length groups → AreNumberedBefore groups n numbers known next → AreNumberedBy groups numbers
all_numbered groups numbers n known next all are = record {
  counted = are.counted ∙ all;
  fresh = fresh_of numbers;
  numbered = subst (λ k. AreNumbered k (AreAlike groups) (fresh_of numbers) (λ a. slice_index numbers a)) all
      (record { start = fresh_start numbers; one_number = are.one_number; old_or_new = are.old_or_new });
}

module _ (groups : List ℕ) (n : ℕ) (numbers : List ℕ) (known known' : List (Option ℕ)) (next entry number : ℕ) (here : entry ≡ get_or groups n 0)
    (there : entry < length known) (is : IsNumberOf entry next known known' number) (are : AreNumberedBefore groups n numbers known next) where
  abbrev after : List ℕ
  after = numbers ++ number ∷ []

  at_old : (a : ℕ) → a < n → get_or after a 0 ≡ get_or numbers a 0
  at_old a l = get_or_append_left numbers (number ∷ []) 0 a (omega (arith, l, are.counted))

  at_last : (a : ℕ) → a ≡ n → get_or after a 0 ≡ number
  at_last a e = get_or_push numbers number 0 a (are.counted ∙ sym e)

  fresh_old : (a : ℕ) → a ≤ n → fresh_of after a ≡ fresh_of numbers a
  fresh_old a l = fresh_push numbers number a (omega (arith, l, are.counted))

  fresh_last : fresh_of after n ≡ next
  fresh_last = fresh_old n (omega arith) ∙ sym are.next_is

  one_more : length after ≡ n + 1
  one_more = length-append numbers (number ∷ []) ∙ ap (λ k. k + 1) are.counted

  of_old : (a : ℕ) → a < n → IsOfOldNet (AreAlike groups) (fresh_of after) a ⊎ IsOfNewNet (AreAlike groups) (fresh_of after) (λ k. slice_index after k) a
  of_old a l =
      let f = fresh_old a (omega (arith, l)) in
      let g = fresh_old (suc a) (omega (arith, l)) in
      elim (are.old_or_new a l) [
        | inl old ↦ inl (record { earlier = old.earlier; before = old.before; one_net = old.one_net; none_appears = g ∙ (old.none_appears ∙ sym f) })
        | inr new ↦ inr (record {
          none_before = new.none_before;
          numbered = at_old a l ∙ (new.numbered ∙ sym f);
          one_appears = g ∙ (new.one_appears ∙ ap suc (sym f));
        })
      ]

  at_entry : (e : ℕ) → e ≡ entry → get_or known' e None ≡ Some number
  at_entry e same = ap (λ k. get_or k e None) is.known ∙ get_or-set_at known entry e (Some number) None same there

  at_another : (e : ℕ) → (e ≡ entry → ⊥) → get_or known' e None ≡ get_or known e None
  at_another e other = ap (λ k. get_or k e None) is.known ∙ get_or-set_other known entry e (Some number) None other

  found_more : (e m : ℕ) → get_or known' e None ≡ Some m → HasNumber groups (n + 1) after e m
  found_more e m s = elim (cases_eq e entry) [
    | inl same ↦
        let one : number ≡ m = ap (λ o. unwrap_or o 0) (sym (at_entry e same) ∙ s) in
        record { first = n; before = omega arith; same = sym here ∙ sym same; numbered = at_last n refl ∙ one }
    | inr other ↦
        let old = are.found e m (sym (at_another e other) ∙ s) in
        record { first = old.first; before = omega (arith, old.before); same = old.same; numbered = at_old old.first old.before ∙ old.numbered }
  ]

  missed_more : (e : ℕ) → get_or known' e None ≡ None → (a : ℕ) → a < n + 1 → get_or groups a 0 ≡ e → ⊥
  missed_more e s a l f = elim (cases_eq e entry) [
    | inl same ↦ some_or_none number (sym s ∙ at_entry e same)
    | inr other ↦ elim (last_or_before n a l) [
      | inl last ↦ other (sym f ∙ (ap (λ k. get_or groups k 0) last ∙ sym here))
      | inr less ↦ are.missed e (sym (at_another e other) ∙ s) a less f
    ]
  ]

  old_pairs : (a b : ℕ) → a < n → b < a → AreAlike groups b a → get_or after b 0 ≡ get_or after a 0
  old_pairs a b l m e = at_old b (omega (arith, l, m)) ∙ (are.one_number a b l m e ∙ sym (at_old a l))

  to_entry : (a b : ℕ) → a ≡ n → AreAlike groups b a → get_or groups b 0 ≡ entry
  to_entry a b last e = e ∙ (ap (λ k. get_or groups k 0) last ∙ sym here)

  -- an entry that appears
  pub new_more : get_or known entry None ≡ None → number ≡ next → AreNumberedBefore groups (n + 1) after known' (next + 1)
  new_more none new =
      let appears : fresh_of after (suc n) ≡ suc next = fresh_same after n (at_last n refl ∙ (new ∙ sym fresh_last)) ∙ ap suc fresh_last in
      record {
        counted = one_more;
        next_is = add-one next ∙ (sym appears ∙ ap (fresh_of after) (sym (add-one n)));
        few = omega (arith, are.few);
        below = λ a l. elim (last_or_before n a l) [
          | inl last ↦ let f = at_last a last in omega (arith, f, new)
          | inr less ↦ let f = at_old a less in let b = are.below a less in omega (arith, f, b)
        ];
        one_number = λ a b l m e. elim (last_or_before n a l) [
          | inl last ↦ absurd (are.missed entry none b (omega (arith, last, m)) (to_entry a b last e))
          | inr less ↦ old_pairs a b less m e
        ];
        old_or_new = λ a l. elim (last_or_before n a l) [
          | inl last ↦ inr (record {
            none_before = λ b m e. are.missed entry none b (omega (arith, last, m)) (to_entry a b last e);
            numbered = at_last a last ∙ (new ∙ (sym fresh_last ∙ ap (fresh_of after) (sym last)));
            one_appears = ap (λ k. fresh_of after (suc k)) last ∙ (appears ∙ ap suc (sym fresh_last ∙ ap (fresh_of after) (sym last)));
          })
          | inr less ↦ of_old a less
        ];
        found = found_more;
        missed = missed_more;
      }

  -- an entry that has a number
  pub old_more : HasNumber groups n numbers entry number → AreNumberedBefore groups (n + 1) after known' next
  old_more old =
      let small : number < next = subst (λ k. k < next) old.numbered (are.below old.first old.before) in
      let stays : fresh_of after (suc n) ≡ next =
      fresh_other after n (λ e. let f = sym (at_last n refl) ∙ (e ∙ fresh_last) in omega (arith, f, small)) ∙ fresh_last in
      record {
        counted = one_more;
        next_is = sym stays ∙ ap (fresh_of after) (sym (add-one n));
        few = omega (arith, are.few);
        below = λ a l. elim (last_or_before n a l) [
          | inl last ↦ let f = at_last a last in omega (arith, f, small)
          | inr less ↦ let f = at_old a less in let b = are.below a less in omega (arith, f, b)
        ];
        one_number = λ a b l m e. elim (last_or_before n a l) [
          | inl last ↦
              let less : b < n = omega (arith, last, m) in
              let alike : get_or groups b 0 ≡ get_or groups old.first 0 = to_entry a b last e ∙ sym old.same in
              let one : get_or numbers b 0 ≡ get_or numbers old.first 0 = elim (cases_order b old.first) [
                | inl same ↦ ap (λ k. get_or numbers k 0) same
                | inr (inl before) ↦ are.one_number old.first b old.before before alike
                | inr (inr behind) ↦ sym (are.one_number b old.first less behind (sym alike))
              ] in
              at_old b less ∙ (one ∙ (old.numbered ∙ sym (at_last a last)))
          | inr less ↦ old_pairs a b less m e
        ];
        old_or_new = λ a l. elim (last_or_before n a l) [
          | inl last ↦ inl (record {
            earlier = old.first;
            before = omega (arith, old.before, last);
            one_net = old.same ∙ (here ∙ ap (λ k. get_or groups k 0) (sym last));
            none_appears = ap (λ k. fresh_of after (suc k)) last ∙ (stays ∙ (sym fresh_last ∙ ap (fresh_of after) (sym last)));
          })
          | inr less ↦ of_old a less
        ];
        found = found_more;
        missed = missed_more;
      }

  number_at : (o : Option ℕ) → get_or known entry None ≡ o → ((get_or known entry None ≡ None) × (number ≡ next)) ⊎ HasNumber groups n numbers entry number
  number_at None e = inl (e, is.is ∙ ap (λ o. unwrap_or o next) e)
  number_at (Some m) e = inr (subst (HasNumber groups n numbers entry) (sym (is.is ∙ ap (λ o. unwrap_or o next) e)) (are.found entry m e))

  -- the number is the next one
  pub next_more : number ≡ next → AreNumberedBefore groups (n + 1) after known' (next + 1)
  next_more e = elim (number_at (get_or known entry None) refl) [
    | inl (none, new) ↦ new_more none new
    | inr old ↦ absurd (let small = are.below old.first old.before in let f = old.numbered in omega (arith, e, f, small))
  ]

  -- the number isn't the next one
  pub other_more : (number ≡ next → ⊥) → AreNumberedBefore groups (n + 1) after known' next
  other_more other = elim (number_at (get_or known entry None) refl) [ inl (none, new) ↦ absurd (other new) | inr old ↦ old_more old ]
