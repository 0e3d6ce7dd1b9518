-- The common parts of two rows of pieces, one pair of pieces after the other.
use Rattle.std.proofs.Common.{◌≡◌, ℕ, ◌+◌, ◌<◌, ◌≤◌, ℤ, pos, ◌-ℤ◌, ◌≤ℤ◌, ◌<ℤ◌, ◌⊎◌, List, [], ◌∷◌, ◌++◌, length, get_or, sym, subst, ◌∙◌, arith, inl, inr}
use Rattle.std.specs.List.{All, AllPairs}
use Rattle.std.specs.Int.{int_max, int_min}
use Rattle.std.proofs.lemmas.Int.{ints, clamps, by_lt_z}
use Rattle.std.proofs.lemmas.Bool.{cases_lt}
use Rattle.std.proofs.lemmas.List.{get_or_default}
use Rattle.std.proofs.lemmas.List.Elements.{All-push, All-weaker, Contains-get_or, Contains-append_left, Contains-push}
use Rattle.std.proofs.lemmas.List.Quantifiers.{all_pairs_push}
use Rattle.std.proofs.Math.Logic.{◌↔◌}
use Rattle.rt_cells.specs.Line.{Within, IsRun}
use Rattle.rt_cells.specs.Rectangles.{Rectangle}
use Rattle.rt_cells.proofs.Lines.{within, not_before, not_after}
use Rattle.rt_strips.specs.Stacks.{area_at, no_area, AreRow}
use Rattle.rt_sweep.specs.declared.bar.Bar.{Bar}
use Rattle.rt_strips.specs.Pieces.{IsColumnOf, IsBothColumn, IsInPiece, IsInBoth, ArePieces, AddsCommon, AreCommon}
use Rattle.rt_strips.proofs.Stacked.{same_or_not}

-- the pieces of a line are those of the same line
pub pieces_of_same : (line other : ℤ → Type 0) → ((x : ℤ) → line x ↔ other x) → (bottom top : ℤ) (pieces : List Rectangle) → ArePieces line bottom top pieces
    → ArePieces other bottom top pieces
pieces_of_same line other same bottom top pieces are = record {
  row = are.row;
  runs = λ k d h.
      let run = are.runs k d h in
      record {
        nonempty = run.nonempty;
        inside = λ x w. (same x).0 (run.inside x w);
        before = λ c. run.before ((same _).1 c);
        after = λ c. run.after ((same _).1 c);
      };
  every = λ x c. are.every x ((same x).1 c);
}

-- a line has the columns of its pieces
pub in_pieces : (line : ℤ → Type 0) (bottom top : ℤ) (pieces : List Rectangle) → ArePieces line bottom top pieces → (x : ℤ) → IsInPiece pieces x ↔ line x
in_pieces line bottom top pieces are x = (
  λ p.
      let run : IsRun line p.piece.left p.piece.right = subst (λ (r : Rectangle). IsRun line r.left r.right) p.listed.2 (are.runs p.listed.0 p.piece p.listed.1) in
      run.inside x p.within,
  are.every x,
)

-- the piece that has a column, by its place
at_place : (pieces : List Rectangle) (x : ℤ) (p : IsInPiece pieces x) → Within (area_at pieces p.listed.0).left (area_at pieces p.listed.0).right x
at_place pieces x p =
    subst (λ (r : Rectangle). Within r.left r.right x) (sym (get_or_default pieces p.listed.0 no_area p.piece p.listed.1 ∙ p.listed.2)) p.within

in_place : (pieces : List Rectangle) (k : ℕ) (x : ℤ) → k < length pieces → Within (area_at pieces k).left (area_at pieces k).right x → IsInPiece pieces x
in_place pieces k x h w = record { piece = area_at pieces k; listed = Contains-get_or pieces k no_area h; within = w }

-- each piece of a row is a run of the row's columns
own_run : (bottom top : ℤ) (pieces : List Rectangle) → AreRow bottom top pieces → (k : ℕ) → k < length pieces → IsRun (IsInPiece pieces) (area_at pieces k).left (area_at pieces k).right
own_run bottom top pieces row k h = record {
  nonempty = row.across k no_area h;
  inside = λ x w. in_place pieces k x h w;
  before = λ p.
      let w = at_place pieces _ p in
      elim (same_or_not p.listed.0 k) [
        | inl e ↦ not_before _ _ (subst (λ n. Within (area_at pieces n).left (area_at pieces n).right ((area_at pieces k).left -ℤ pos 1)) e w)
        | inr other ↦ elim (cases_lt p.listed.0 k) [
          | inl l ↦ let far = row.apart p.listed.0 k no_area l h in omega (arith, ints, w.to)
          | inr l ↦ let far = row.apart k p.listed.0 no_area (omega arith) p.listed.1 in let across = row.across k no_area h in omega (arith, ints, w.from)
        ]
      ];
  after = λ p.
      let w = at_place pieces _ p in
      elim (same_or_not p.listed.0 k) [
        | inl e ↦ not_after _ _ (subst (λ n. Within (area_at pieces n).left (area_at pieces n).right (area_at pieces k).right) e w)
        | inr other ↦ elim (cases_lt p.listed.0 k) [
          | inl l ↦ let far = row.apart p.listed.0 k no_area l h in let across = row.across k no_area h in omega (arith, ints, w.to)
          | inr l ↦ let far = row.apart k p.listed.0 no_area (omega arith) p.listed.1 in omega (arith, ints, w.from)
        ]
      ];
}

module _ (first second : List Rectangle) (bottom top : ℤ) where
  -- the common parts of all pairs of which one is before its place
  pub record IsCommonTo (i j : ℕ) (both : List Rectangle) : Type 0 where
    pub are_row : AreRow bottom top both
    pub runs : All (λ p. IsRun (IsInBoth first second) p.left p.right) both
    pub every : (a b : ℕ) (x : ℤ) → a < length first → b < length second → (a < i) ⊎ (b < j)
        → Within (area_at first a).left (area_at first a).right x → Within (area_at second b).left (area_at second b).right x → IsInPiece both x
    pub behind : All (λ p. (a b : ℕ) → i ≤ a → a < length first → j ≤ b → b < length second → (p.right <ℤ (area_at first a).left) ⊎ (p.right <ℤ (area_at second b).left)) both

  pub none_common : IsCommonTo 0 0 []
  none_common = record {
    are_row = record { rows = λ k d h. absurd (omega arith); across = λ k d h. absurd (omega arith); apart = λ i j d h l. absurd (omega arith) };
    runs = λ k d h. absurd (omega arith);
    every = λ a b x h l e. absurd (elim e [ inl m ↦ omega arith | inr m ↦ omega arith ]);
    behind = λ k d h. absurd (omega arith);
  }

  pub all_common : (i j : ℕ) (both : List Rectangle) → (length first ≤ i) ⊎ (length second ≤ j) → IsCommonTo i j both → ArePieces (IsInBoth first second) bottom top both
  all_common i j both ended so_far = record {
    row = so_far.are_row;
    runs = so_far.runs;
    every = λ x c.
        so_far.every c.in_first.listed.0 c.in_second.listed.0 x c.in_first.listed.1 c.in_second.listed.1
        (elim ended [ inl l ↦ inl (omega (arith, c.in_first.listed.1)) | inr l ↦ inr (omega (arith, c.in_second.listed.1)) ])
        (at_place first x c.in_first) (at_place second x c.in_second);
  }

  module _ (row : AreRow bottom top first) (other : AreRow bottom top second) (i j : ℕ) (h : i < length first) (l : j < length second) where
    abbrev a : Rectangle
    a = area_at first i

    abbrev b : Rectangle
    b = area_at second j

    abbrev part : Rectangle
    part = record { left = int_max a.left b.left; right = int_min a.right b.right; bottom = a.bottom; top = a.top }

    part_run : part.left <ℤ part.right → IsRun (IsInBoth first second) part.left part.right
    part_run some =
        let r = own_run bottom top first row i h in
        let s = own_run bottom top second other j l in
        record {
          nonempty = some;
          inside = λ x w. record {
            in_first = r.inside x (within _ _ _ (omega (arith, ints, clamps, w.from)) (omega (arith, ints, clamps, w.to)));
            in_second = s.inside x (within _ _ _ (omega (arith, ints, clamps, w.from)) (omega (arith, ints, clamps, w.to)));
          };
          before = λ c.
              by_lt_z a.left b.left
              (λ k. let e : part.left ≡ b.left = omega (arith, ints, clamps) in s.before (subst (λ z. IsInPiece second (z -ℤ pos 1)) e c.in_second))
              (λ k. let e : part.left ≡ a.left = omega (arith, ints, clamps) in r.before (subst (λ z. IsInPiece first (z -ℤ pos 1)) e c.in_first));
          after = λ c.
              by_lt_z a.right b.right
              (λ k. let e : part.right ≡ a.right = omega (arith, ints, clamps) in r.after (subst (IsInPiece first) e c.in_first))
              (λ k. let e : part.right ≡ b.right = omega (arith, ints, clamps) in s.after (subst (IsInPiece second) e c.in_second));
        }

    module _ (both : List Rectangle) (so_far : IsCommonTo i j both) (after : List Rectangle) (adds : AddsCommon a b both after) where
      -- what holds of those before and of the common part holds of all
      each_after : (P : Rectangle → Type 0) → All P both → (part.left <ℤ part.right → P part) → All P after
      each_after P all new =
          by_lt_z part.left part.right
          (λ k. subst (All P) (sym (adds.some k)) (All-push P both part all (new k)))
          (λ k. subst (All P) (sym (adds.none k)) all)

      still_in : (x : ℤ) → IsInPiece both x → IsInPiece after x
      still_in x p =
          by_lt_z part.left part.right
          (λ k. subst (λ ps. IsInPiece ps x) (sym (adds.some k)) (record { piece = p.piece; listed = Contains-append_left both (part ∷ []) p.piece p.listed; within = p.within }))
          (λ k. subst (λ ps. IsInPiece ps x) (sym (adds.none k)) p)

      in_part : (x : ℤ) → Within a.left a.right x → Within b.left b.right x → IsInPiece after x
      in_part x v w =
          by_lt_z part.left part.right
          (λ k. subst (λ ps. IsInPiece ps x) (sym (adds.some k)) (record { piece = part; listed = Contains-push both part; within = within _ _ _ (omega (arith, ints, clamps, v.from, w.from)) (omega (arith, ints, clamps, v.to, w.to)) }))
          (λ k. absurd (omega (arith, ints, clamps, v.from, v.to, w.from, w.to)))

      part_after : (k : ℕ) (d : Rectangle) → k < length both → (get_or both k d).right <ℤ part.left
      part_after k d m = elim (so_far.behind k d m i j (omega arith) h (omega arith) l) [
        | inl e ↦ omega (arith, ints, clamps)
        | inr e ↦ omega (arith, ints, clamps)
      ]

      are_row_after : AreRow bottom top after
      are_row_after = record {
        rows = each_after (λ p. (p.bottom ≡ bottom) × (p.top ≡ top)) so_far.are_row.rows (λ _. row.rows i no_area h);
        across = each_after (λ p. p.left <ℤ p.right) so_far.are_row.across (λ k. k);
        apart =
            by_lt_z part.left part.right
            (λ k. subst (AllPairs (λ (p q : Rectangle). p.right <ℤ q.left)) (sym (adds.some k)) (all_pairs_push (λ (p q : Rectangle). p.right <ℤ q.left) both part so_far.are_row.apart part_after))
            (λ k. subst (AllPairs (λ (p q : Rectangle). p.right <ℤ q.left)) (sym (adds.none k)) so_far.are_row.apart);
      }

      runs_after : All (λ p. IsRun (IsInBoth first second) p.left p.right) after
      runs_after = each_after (λ p. IsRun (IsInBoth first second) p.left p.right) so_far.runs part_run

      pub first_done : a.right <ℤ b.right → IsCommonTo (i + 1) j after
      first_done ends = record {
        are_row = are_row_after;
        runs = runs_after;
        every = λ n m x p q e v w. elim (cases_lt m j) [
          | inl k ↦ still_in x (so_far.every n m x p q (inr k) v w)
          | inr k ↦ elim (cases_lt n i) [
            | inl o ↦ still_in x (so_far.every n m x p q (inl o) v w)
            | inr o ↦
                let is : n ≡ i = elim e [ inl f ↦ omega arith | inr f ↦ absurd (omega arith) ] in
                let here : Within a.left a.right x = subst (λ z. Within (area_at first z).left (area_at first z).right x) is v in
                elim (same_or_not m j) [
                  | inl same ↦ in_part x here (subst (λ z. Within (area_at second z).left (area_at second z).right x) same w)
                  | inr different ↦ let far = other.apart j m no_area (omega arith) q in absurd (omega (arith, ints, here.to, w.from))
                ]
          ]
        ];
        behind = each_after (λ p. (n m : ℕ) → i + 1 ≤ n → n < length first → j ≤ m → m < length second → (p.right <ℤ (area_at first n).left) ⊎ (p.right <ℤ (area_at second m).left))
            (All-weaker (λ (p : Rectangle). (n m : ℕ) → i ≤ n → n < length first → j ≤ m → m < length second → (p.right <ℤ (area_at first n).left) ⊎ (p.right <ℤ (area_at second m).left))
            (λ p. (n m : ℕ) → i + 1 ≤ n → n < length first → j ≤ m → m < length second → (p.right <ℤ (area_at first n).left) ⊎ (p.right <ℤ (area_at second m).left))
            (λ p e n m k. e n m (omega arith)) both so_far.behind)
            (λ _ n m k o p q. let far = row.apart i n no_area (omega arith) o in inl (omega (arith, ints, clamps)));
      }

      pub second_done : b.right ≤ℤ a.right → IsCommonTo i (j + 1) after
      second_done ends = record {
        are_row = are_row_after;
        runs = runs_after;
        every = λ n m x p q e v w. elim (cases_lt n i) [
          | inl k ↦ still_in x (so_far.every n m x p q (inl k) v w)
          | inr k ↦ elim (cases_lt m j) [
            | inl o ↦ still_in x (so_far.every n m x p q (inr o) v w)
            | inr o ↦
                let is : m ≡ j = elim e [ inl f ↦ absurd (omega arith) | inr f ↦ omega arith ] in
                let here : Within b.left b.right x = subst (λ z. Within (area_at second z).left (area_at second z).right x) is w in
                elim (same_or_not n i) [
                  | inl same ↦ in_part x (subst (λ z. Within (area_at first z).left (area_at first z).right x) same v) here
                  | inr different ↦ let far = row.apart i n no_area (omega arith) p in absurd (omega (arith, ints, here.to, v.from))
                ]
          ]
        ];
        behind = each_after (λ p. (n m : ℕ) → i ≤ n → n < length first → j + 1 ≤ m → m < length second → (p.right <ℤ (area_at first n).left) ⊎ (p.right <ℤ (area_at second m).left))
            (All-weaker (λ (p : Rectangle). (n m : ℕ) → i ≤ n → n < length first → j ≤ m → m < length second → (p.right <ℤ (area_at first n).left) ⊎ (p.right <ℤ (area_at second m).left))
            (λ p. (n m : ℕ) → i ≤ n → n < length first → j + 1 ≤ m → m < length second → (p.right <ℤ (area_at first n).left) ⊎ (p.right <ℤ (area_at second m).left))
            (λ p e n m k o q. e n m k o (omega arith)) both so_far.behind)
            (λ _ n m k o p q. let far = other.apart j m no_area (omega arith) q in inr (omega (arith, ints, clamps)));
      }

-- each state of the loop, whatever rows the pieces fill
pub record IsCommonLoop (first second : List Rectangle) (i j : ℕ) (both : List Rectangle) : Type 0 where
  pub state : (bottom top : ℤ) → AreRow bottom top first → AreRow bottom top second → IsCommonTo first second bottom top i j both

pub common_first : (first second : List Rectangle) (i j : ℕ) (both after : List Rectangle) → IsCommonLoop first second i j both → i < length first → j < length second
    → (a b : Rectangle) → area_at first i ≡ a → area_at second j ≡ b → AddsCommon a b both after → a.right <ℤ b.right → IsCommonLoop first second (i + 1) j after
common_first first second i j both after loop h l a b e f adds ends = record {
  state = λ bottom top r s.
      first_done first second bottom top r s i j h l both (loop.state bottom top r s) after
      (subst (λ z. AddsCommon z (area_at second j) both after) (sym e) (subst (λ z. AddsCommon a z both after) (sym f) adds))
      (subst (λ (z : Rectangle). z.right <ℤ (area_at second j).right) (sym e) (subst (λ (z : Rectangle). a.right <ℤ z.right) (sym f) ends));
}

pub common_second : (first second : List Rectangle) (i j : ℕ) (both after : List Rectangle) → IsCommonLoop first second i j both → i < length first → j < length second
    → (a b : Rectangle) → area_at first i ≡ a → area_at second j ≡ b → AddsCommon a b both after → b.right ≤ℤ a.right → IsCommonLoop first second i (j + 1) after
common_second first second i j both after loop h l a b e f adds ends = record {
  state = λ bottom top r s.
      second_done first second bottom top r s i j h l both (loop.state bottom top r s) after
      (subst (λ z. AddsCommon z (area_at second j) both after) (sym e) (subst (λ z. AddsCommon a z both after) (sym f) adds))
      (subst (λ (z : Rectangle). (area_at second j).right ≤ℤ z.right) (sym e) (subst (λ (z : Rectangle). z.right ≤ℤ a.right) (sym f) ends));
}

pub common_ends : (first second : List Rectangle) (i j : ℕ) (both : List Rectangle) → IsCommonLoop first second i j both → (length first ≤ i) ⊎ (length second ≤ j) → AreCommon first second both
common_ends first second i j both loop ended = λ bottom top r s. all_common first second bottom top i j both ended (loop.state bottom top r s)

-- the code appends the common part
pub common_pushed : (s t : Rectangle) (before after : List Rectangle) (left right bottom top : ℤ) → left ≡ int_max s.left t.left → right ≡ int_min s.right t.right
    → bottom ≡ s.bottom → top ≡ s.top → left <ℤ right → after ≡ before ++ record { left = left; right = right; bottom = bottom; top = top } ∷ [] → AddsCommon s t before after
common_pushed s t before after left right bottom top e f g h some is = record {
  some = λ k.
      subst (λ z. after ≡ before ++ record { left = z; right = int_min s.right t.right; bottom = s.bottom; top = s.top } ∷ []) e
      (subst (λ z. after ≡ before ++ record { left = left; right = z; bottom = s.bottom; top = s.top } ∷ []) f
      (subst (λ z. after ≡ before ++ record { left = left; right = right; bottom = z; top = s.top } ∷ []) g
      (subst (λ z. after ≡ before ++ record { left = left; right = right; bottom = bottom; top = z } ∷ []) h is)));
  none = λ k. absurd (omega (arith, ints, e, f));
}

-- the common parts of the pieces of two tags
pub both_pieces : (bars : List Bar) (bottom top : ℤ) (first second both : List Rectangle) → ArePieces (IsColumnOf bars 0) bottom top first
    → ArePieces (IsColumnOf bars 1) bottom top second → AreCommon first second both → ArePieces (IsBothColumn bars) bottom top both
both_pieces bars bottom top first second both r s common =
    pieces_of_same (IsInBoth first second) (IsBothColumn bars)
    (λ x. (
      λ c. ((in_pieces (IsColumnOf bars 0) bottom top first r x).0 c.in_first, (in_pieces (IsColumnOf bars 1) bottom top second s x).0 c.in_second),
      λ c. record { in_first = r.every x c.0; in_second = s.every x c.1 },
    )) bottom top both (common bottom top r.row s.row)
