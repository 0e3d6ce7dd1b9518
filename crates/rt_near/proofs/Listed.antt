-- The pairs that a sweep lists.
use Rattle.std.proofs.Common.{◌≡◌, ◌≢◌, ℕ, ◌+◌, ◌<◌, ◌≤◌, ℤ, pos, ◌<ℤ◌, cond, List, [], ◌∷◌, ◌++◌, length, get_or, sym, ap, subst, subst₂, ◌∙◌, inl, inr, arith}
use Rattle.std.specs.Prelude.{Contains, nat_lt}
use Rattle.std.proofs.lemmas.Bool.{cases_eq, cases_lt}
use Rattle.std.proofs.lemmas.Bool.Decides.{nat_tests}
use Rattle.std.proofs.lemmas.Int.{ints, clamps}
use Rattle.std.proofs.lemmas.List.{get_or_past}
use Rattle.std.proofs.lemmas.List.Elements.{Contains-append_left, Contains-push, Contains-push_cases}
use Rattle.rt_cells.specs.Line.{gap_of}
use Rattle.rt_cells.proofs.Lines.{gap_back}
use Rattle.rt_near.specs.declared.near.Sides.{Sides}
use Rattle.rt_near.specs.declared.entry.Entry.{Entry}
use Rattle.rt_near.specs.Near.{sides_at, AreNear, ListsNearPairs}
use Rattle.rt_near.specs.Entries.{entry_at, entry_of, AreInOrder, AreIntervals, AreSortedOf}
use Rattle.rt_near.specs.Pairs.{numbers_of, IsClose, IsPairFrom, AreAdded, AreClosePairsBefore, AreClosePairs}
use Rattle.rt_near.proofs.Close.{none_behind}

none_yet : (entries : List Entry) (place : ℕ) (pair : ℕ × ℕ) → ¬ IsPairFrom entries place (place + 1) pair
none_yet entries place pair p = omega (arith, p.later, p.before)

still_from : (entries : List Entry) (place end end' : ℕ) (pair : ℕ × ℕ) → end ≤ end' → IsPairFrom entries place end pair → IsPairFrom entries place end' pair
still_from entries place end end' pair h p = record { other = p.other; later = p.later; before = omega (arith, h, p.before); close = p.close; numbers = p.numbers }

module _ (entries : List Entry) (place next : ℕ) (h : place < next) where
  -- the next one that is close is added
  pub one_added : (before pairs : List (ℕ × ℕ)) → IsClose (entry_at entries place) (entry_at entries next) → AreAdded entries place next before pairs
      → AreAdded entries place (next + 1) before (pairs ++ numbers_of (entry_at entries place) (entry_at entries next) ∷ [])
  one_added before pairs close are =
      let here = numbers_of (entry_at entries place) (entry_at entries next) in
      record {
        exact = λ pair. (
          λ c. elim (Contains-push_cases pairs here pair c) [
            | inl d ↦ elim ((are.exact pair).0 d) [
              | inl b ↦ inl b
              | inr p ↦ inr (still_from entries place next (next + 1) pair (omega arith) p)
            ]
            | inr e ↦ inr (record { other = next; later = h; before = omega arith; close = close; numbers = sym e })
          ],
          λ s. elim s [
            | inl b ↦ Contains-append_left pairs (here ∷ []) pair ((are.exact pair).1 (inl b))
            | inr p ↦ elim (cases_eq p.other next) [
              | inl e ↦ subst (λ t. Contains (pairs ++ here ∷ []) t) (sym (p.numbers ∙ ap (λ k. numbers_of (entry_at entries place) (entry_at entries k)) e)) (Contains-push pairs here)
              | inr n ↦ Contains-append_left pairs (here ∷ []) pair
                  ((are.exact pair).1 (inr (record { other = p.other; later = p.later; before = omega (arith, p.before, n); close = p.close; numbers = p.numbers })))
            ]
          ],
        );
      }

  -- where no later one is close all are added
  pub all_added : AreInOrder entries → AreIntervals entries → (next < length entries → ¬ IsClose (entry_at entries place) (entry_at entries next)) → next ≤ length entries
      → (before pairs : List (ℕ × ℕ)) → AreAdded entries place next before pairs → AreAdded entries place (length entries) before pairs
  all_added order intervals n g before pairs are = record {
    exact = λ pair. (
      λ c. elim ((are.exact pair).0 c) [
        | inl b ↦ inl b
        | inr p ↦ inr (still_from entries place next (length entries) pair g p)
      ],
      λ s. elim s [
        | inl b ↦ (are.exact pair).1 (inl b)
        | inr p ↦ elim (cases_lt p.other next) [
          | inl l ↦ (are.exact pair).1 (inr (record { other = p.other; later = p.later; before = l; close = p.close; numbers = p.numbers }))
          | inr m ↦ absurd (none_behind entries order intervals place next h (n (omega (arith, p.before, m))) p.other m p.before p.close)
        ]
      ],
    );
  }

-- at first there is no pair
pub no_pairs : (entries : List Entry) → AreClosePairsBefore entries 0 []
no_pairs entries = record {
  exact = λ pair. (λ c. absurd (omega (arith, c.1)), λ s. absurd (omega (arith, s.1)));
}

-- the pairs of one entry more
pub more_pairs : (entries : List Entry) (place : ℕ) (before after : List (ℕ × ℕ)) → AreClosePairsBefore entries place before → AreAdded entries place (length entries) before after
    → AreClosePairsBefore entries (place + 1) after
more_pairs entries place before after are added = record {
  exact = λ pair. (
    λ c. elim ((added.exact pair).0 c) [
      | inl b ↦ let s = (are.exact pair).0 b in (s.0, omega (arith, s.1), s.2)
      | inr p ↦ (place, omega arith, p)
    ],
    λ s. elim (cases_eq s.0 place) [
      | inl e ↦ (added.exact pair).1 (inr (subst (λ k. IsPairFrom entries k (length entries) pair) e s.2))
      | inr n ↦ (added.exact pair).1 (inl ((are.exact pair).1 (s.0, omega (arith, s.1, n), s.2)))
    ],
  );
}

abbrev in_order : ℕ → ℕ → ℕ × ℕ
in_order m n = cond (nat_lt m n) (m, n) (n, m)

abbrev both : ℕ → ℕ → ℕ × ℕ
both m n = (m, n)

numbers_first : (m n : ℕ) → m < n → in_order m n ≡ both m n
numbers_first m n h = grind (arith, nat_tests)

numbers_second : (m n : ℕ) → n < m → in_order m n ≡ both n m
numbers_second m n h = grind (arith, nat_tests)

strictly : (m n : ℕ) → m ≤ n → m ≢ n → m < n
strictly m n h g = omega arith

below_same : (m n : ℕ) → m < n → m ≡ n → ⊥
below_same m n h e = omega arith

gap_some : (low high low' high' reach : ℤ) → gap_of low high low' high' <ℤ reach → reach ≡ pos 0 → ⊥
gap_some low high low' high' reach h e = omega (arith, ints, clamps)

has_reach : (reaches : List ℤ) (group : ℕ) (low high low' high' : ℤ) → gap_of low high low' high' <ℤ get_or reaches group (pos 0) → group < length reaches
has_reach reaches group low high low' high' h =
    elim (cases_lt group (length reaches)) [
      | inl l ↦ l
      | inr m ↦ absurd (gap_some low high low' high' (get_or reaches group (pos 0)) h (get_or_past reaches group (pos 0) m))
    ]

module _ (sides : List Sides) (reaches : List ℤ) where
  abbrev numbered_at : ℕ → Entry
  numbered_at k = entry_of (sides_at sides reaches k) reaches k

  near_from_close : (m n : ℕ) → m < n → n < length sides → IsClose (numbered_at m) (numbered_at n) → AreNear sides reaches m n
  near_from_close m n h g close = record {
    ordered = h;
    there = g;
    one_group = close.one_group;
    group = has_reach reaches (sides_at sides reaches m).group (sides_at sides reaches m).low (sides_at sides reaches m).high (sides_at sides reaches n).low (sides_at sides reaches n).high close.near;
    near = close.near;
  }

  close_from_near : (m n : ℕ) → AreNear sides reaches m n → IsClose (numbered_at m) (numbered_at n)
  close_from_near m n near = record { one_group = near.one_group; near = near.near }

  close_back : (m n : ℕ) → IsClose (numbered_at m) (numbered_at n) → IsClose (numbered_at n) (numbered_at m)
  close_back m n close = record {
    one_group = sym close.one_group;
    near = gap_back (sides_at sides reaches m).low (sides_at sides reaches m).high (sides_at sides reaches n).low (sides_at sides reaches n).high (numbered_at n).reach
        (subst (λ g. gap_of (sides_at sides reaches m).low (sides_at sides reaches m).high (sides_at sides reaches n).low (sides_at sides reaches n).high <ℤ get_or reaches g (pos 0)) close.one_group close.near);
  }

  module _ (entries : List Entry) (of : AreSortedOf sides reaches entries) where
    near_from_pair : (place i j : ℕ) → place < length entries → IsPairFrom entries place (length entries) (i, j) → AreNear sides reaches i j
    near_from_pair place i j h p =
        let m = (entry_at entries place).number in
        let n = (entry_at entries p.other).number in
        let close : IsClose (numbered_at m) (numbered_at n) = subst₂ IsClose (of.each place h) (of.each p.other p.before) p.close in
        elim (cases_lt m n) [
          | inl l ↦
              let e = p.numbers ∙ numbers_first m n l in
              subst₂ (AreNear sides reaches) (sym (ap (λ (q : ℕ × ℕ). q.0) e)) (sym (ap (λ (q : ℕ × ℕ). q.1) e)) (near_from_close m n l (of.number p.other p.before) close)
          | inr k ↦
              let l = strictly n m k (λ e. of.different place p.other p.later p.before (sym e)) in
              let e = p.numbers ∙ numbers_second m n l in
              subst₂ (AreNear sides reaches) (sym (ap (λ (q : ℕ × ℕ). q.0) e)) (sym (ap (λ (q : ℕ × ℕ). q.1) e)) (near_from_close n m l (of.number place h) (close_back m n close))
        ]

    pair_from_near : (i j : ℕ) → AreNear sides reaches i j → (place : ℕ) × (place < length entries) × IsPairFrom entries place (length entries) (i, j)
    pair_from_near i j near =
        let a = of.every i (omega (arith, near.ordered, near.there)) in
        let b = of.every j near.there in
        let k = a.0 in
        let m = b.0 in
        let ea = ap (λ (e : Entry). e.number) a.2 in
        let eb = ap (λ (e : Entry). e.number) b.2 in
        elim (cases_eq k m) [
          | inl e ↦ absurd (below_same i j near.ordered (sym ea ∙ ap (λ t. (entry_at entries t).number) e ∙ eb))
          | inr n ↦ elim (cases_lt k m) [
            | inl l ↦ (
              k,
              a.1,
              record {
                other = m;
                later = l;
                before = b.1;
                close = subst₂ IsClose (sym a.2) (sym b.2) (close_from_near i j near);
                numbers = sym (numbers_first i j near.ordered) ∙ sym (ap (λ t. in_order t j) ea) ∙ sym (ap (in_order (entry_at entries k).number) eb);
              },
            )
            | inr g ↦ (
              m,
              b.1,
              record {
                other = k;
                later = strictly m k g (λ e. n (sym e));
                before = a.1;
                close = subst₂ IsClose (sym b.2) (sym a.2) (close_back i j (close_from_near i j near));
                numbers = sym (numbers_second j i near.ordered) ∙ sym (ap (λ t. in_order t i) eb) ∙ sym (ap (in_order (entry_at entries m).number) ea);
              },
            )
          ]
        ]

    -- the pairs of close entries are those of near intervals
    pub lists_near : (pairs : List (ℕ × ℕ)) → AreClosePairs entries pairs → ListsNearPairs sides reaches pairs
    lists_near pairs are = record {
      exact = λ i j. (
        λ c. let s = (are.exact (i, j)).0 c in near_from_pair s.0 i j s.1 s.2,
        λ near. (are.exact (i, j)).1 (pair_from_near i j near),
      );
    }
