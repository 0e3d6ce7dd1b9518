-- Two lists of bars merged: what has been written when i bars of the one and j of the other have been read.
use Rattle.std.proofs.Common.{◌≡◌, ℕ, ◌+◌, ◌<◌, ◌≤◌, ℤ, ◌≤ℤ◌, ◌<ℤ◌, ◌⊎◌, List, [], ◌∷◌, ◌++◌, length, get_or, Contains, All, sym, subst, ap, ◌∙◌, arith, inl, inr}
use Rattle.std.proofs.lemmas.Int.{ints}
use Rattle.std.proofs.lemmas.List.Elements.{All-push, Contains-append_left, Contains-push, All-nil, All-weaker}
use Rattle.std.proofs.lemmas.List.Quantifiers.{all_pairs_push}
use Rattle.rt_cells.proofs.Numbers.{below_or_at}
use Rattle.rt_sweep.specs.declared.bar.Bar.{Bar}
use Rattle.rt_sweep.specs.Rows.{AreAcross, IsMerged, IsKept, IsNextAcross}

-- the bars before a place that end above the row are among those written
pub record AreRead (bars : List Bar) (i : ℕ) (row : ℤ) (into : List Bar) : Type 0 where
  pub inside : i ≤ length bars
  pub read : (k : ℕ) (d : Bar) → k < i → row <ℤ (get_or bars k d).at.y2 → Contains into (get_or bars k d)
  pub before : All (λ written. (k : ℕ) (d : Bar) → i ≤ k → k < length bars → written.at.x1 ≤ℤ (get_or bars k d).at.x1) into

pub record IsMergedTo (going : List Bar) (i : ℕ) (beginning : List Bar) (j : ℕ) (row : ℤ) (into : List Bar) : Type 0 where
  pub first : AreRead going i row into
  pub second : AreRead beginning j row into
  pub each : All (λ bar. (Contains going bar ⊎ Contains beginning bar) × (row <ℤ bar.at.y2)) into
  pub across : AreAcross into

none_read : (bars : List Bar) (row : ℤ) → AreRead bars 0 row []
none_read bars row = record {
  inside = omega arith;
  read = λ k d h. absurd (omega arith);
  before = All-nil (λ (written : Bar). (k : ℕ) (d : Bar) → 0 ≤ k → k < length bars → written.at.x1 ≤ℤ (get_or bars k d).at.x1);
}

turned : (A B : Type 0) → A ⊎ B → B ⊎ A
turned A B (inl a) = inr a
turned A B (inr b) = inl b

-- the same with the lists exchanged
pub exchanged : (going : List Bar) (i : ℕ) (beginning : List Bar) (j : ℕ) (row : ℤ) (into : List Bar)
    → IsMergedTo going i beginning j row into → IsMergedTo beginning j going i row into
exchanged going i beginning j row into m = record {
  first = m.second;
  second = m.first;
  each = All-weaker (λ (bar : Bar). (Contains going bar ⊎ Contains beginning bar) × (row <ℤ bar.at.y2)) (λ bar. (Contains beginning bar ⊎ Contains going bar) × (row <ℤ bar.at.y2))
      (λ bar h. (turned _ _ h.0, h.1)) into m.each;
  across = m.across;
}

module _ (going : List Bar) (i : ℕ) (beginning : List Bar) (j : ℕ) (row : ℤ) (into : List Bar)
    (m : IsMergedTo going i beginning j row into) (up : AreAcross going) (right : AreAcross beginning) (next : IsNextAcross going i beginning j)
    (bar : Bar) (is : (d : Bar) → get_or going i d ≡ bar) where
  written_left : (k : ℕ) (d : Bar) → k < length into → (get_or into k d).at.x1 ≤ℤ bar.at.x1
  written_left k d h = subst (λ (b : Bar). (get_or into k d).at.x1 ≤ℤ b.at.x1) (is d) (m.first.before k d h i d (omega arith) next.there)

  bar_before : (k : ℕ) (d : Bar) → i ≤ k → k < length going → bar.at.x1 ≤ℤ (get_or going k d).at.x1
  bar_before k d h l = elim (below_or_at i k (omega arith)) [
    | inl lt ↦ subst (λ (b : Bar). b.at.x1 ≤ℤ (get_or going k d).at.x1) (is d) (up i k d lt l)
    | inr e ↦ subst (λ (n : ℕ). bar.at.x1 ≤ℤ (get_or going n d).at.x1) e (subst (λ (b : Bar). bar.at.x1 ≤ℤ b.at.x1) (sym (is d)) (omega (arith, ints)))
  ]

  bar_left : (k : ℕ) (d : Bar) → j ≤ k → k < length beginning → bar.at.x1 ≤ℤ (get_or beginning k d).at.x1
  bar_left k d h l =
      let first : bar.at.x1 ≤ℤ (get_or beginning j d).at.x1 = subst (λ (b : Bar). b.at.x1 ≤ℤ (get_or beginning j d).at.x1) (is d) (next.left d (omega arith)) in
      elim (below_or_at j k (omega arith)) [
        | inl lt ↦ let then : (get_or beginning j d).at.x1 ≤ℤ (get_or beginning k d).at.x1 = right j k d lt l in omega (arith, ints)
        | inr e ↦ subst (λ (n : ℕ). bar.at.x1 ≤ℤ (get_or beginning n d).at.x1) e first
      ]

  listed : Contains going bar
  listed = (i, next.there, is bar)

  -- the bar is written
  pub written : row <ℤ bar.at.y2 → IsMergedTo going (i + 1) beginning j row (into ++ bar ∷ [])
  written high = record {
    first = record {
      inside = omega (arith, next.there);
      read = λ k d h l. elim (below_or_at k i h) [
        | inl lt ↦ Contains-append_left into (bar ∷ []) _ (m.first.read k d lt l)
        | inr e ↦ subst (Contains (into ++ bar ∷ [])) (sym (is d) ∙ ap (λ n. get_or going n d) (sym e)) (Contains-push into bar)
      ];
      before = All-push (λ (w : Bar). (k : ℕ) (d : Bar) → i + 1 ≤ k → k < length going → w.at.x1 ≤ℤ (get_or going k d).at.x1) into bar
          (λ n e h k d l. m.first.before n e h k d (omega arith)) (λ k d h. bar_before k d (omega arith));
    };
    second = record {
      inside = m.second.inside;
      read = λ k d h l. Contains-append_left into (bar ∷ []) _ (m.second.read k d h l);
      before = All-push (λ (w : Bar). (k : ℕ) (d : Bar) → j ≤ k → k < length beginning → w.at.x1 ≤ℤ (get_or beginning k d).at.x1) into bar m.second.before bar_left;
    };
    each = All-push (λ (b : Bar). (Contains going b ⊎ Contains beginning b) × (row <ℤ b.at.y2)) into bar m.each (inl listed, high);
    across = all_pairs_push (λ (a b : Bar). a.at.x1 ≤ℤ b.at.x1) into bar m.across written_left;
  }

  -- the bar is passed over
  pub passed : bar.at.y2 ≤ℤ row → IsMergedTo going (i + 1) beginning j row into
  passed low = record {
    first = record {
      inside = omega (arith, next.there);
      read = λ k d h l. elim (below_or_at k i h) [
        | inl lt ↦ m.first.read k d lt l
        | inr e ↦
            let same : get_or going k d ≡ bar = ap (λ n. get_or going n d) e ∙ is d in
            let high : row <ℤ bar.at.y2 = subst (λ (b : Bar). row <ℤ b.at.y2) same l in
            absurd (omega (arith, ints))
      ];
      before = λ n e h k d l. m.first.before n e h k d (omega arith);
    };
    second = m.second;
    each = m.each;
    across = m.across;
  }

  -- the bar is written or passed over
  pub kept : (after : List Bar) → IsKept row bar into after → IsMergedTo going (i + 1) beginning j row after
  kept after (inl (high, e)) = subst (IsMergedTo going (i + 1) beginning j row) (sym e) (written high)
  kept after (inr (low, e)) = subst (IsMergedTo going (i + 1) beginning j row) (sym e) (passed low)

all_read : (bars : List Bar) (i : ℕ) (row : ℤ) (into : List Bar) → AreRead bars i row into → length bars ≤ i
    → (bar : Bar) → Contains bars bar → row <ℤ bar.at.y2 → Contains into bar
all_read bars i row into r h bar c high =
    subst (Contains into) c.2 (r.read c.0 bar (omega (arith, c.1)) (subst (λ (b : Bar). row <ℤ b.at.y2) (sym c.2) high))

pub all_merged : (going : List Bar) (i : ℕ) (beginning : List Bar) (j : ℕ) (row : ℤ) (into : List Bar)
    → length going ≤ i → length beginning ≤ j → IsMergedTo going i beginning j row into → IsMerged going beginning row into
all_merged going i beginning j row into h k m = record {
  each = m.each;
  going_kept = all_read going i row into m.first h;
  beginning_kept = all_read beginning j row into m.second k;
  across = m.across;
}
