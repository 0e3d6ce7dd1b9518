-- A row of pieces is put onto the strips, one piece after the other.
use Rattle.std.proofs.Common.{◌≡◌, ◌≢◌, ℕ, ◌+◌, ◌<◌, ◌≤◌, min, ℤ, ◌≤ℤ◌, ◌<ℤ◌, ◌⊎◌, List, [], ◌∷◌, ◌++◌, length, set, take, map, refl, sym, ap, subst, ◌∙◌, arith, inl, inr, length-append, get_or-set_same, get_or-set_other}
use Rattle.std.specs.List.{All, AllPairs}
use Rattle.std.proofs.lemmas.Int.{ints}
use Rattle.std.proofs.lemmas.Bool.{cases_lt}
use Rattle.std.proofs.lemmas.List.{get_or_default, get_or-map, length-map, length-set, map-append, take_more, take_all, get_or_append_left}
use Rattle.std.proofs.Math.Seq.{get_or-append_seam}
use Rattle.std.proofs.lemmas.List.Elements.{All-push, All-from_get_or, Contains-append_left, Contains-push, Contains-push_cases}
use Rattle.std.proofs.lemmas.List.Quantifiers.{all_pairs_push}
use Rattle.std.proofs.Math.Logic.{◌↔◌}
use Rattle.rt_cells.specs.Rectangles.{Rectangle, IsNonempty, Holds, Covers}
use Rattle.rt_strips.specs.Stacks.{AreStacked, area_at, no_area, raised, Opened, opened_at, none_opened, IsOpenedOf, IsToldOf, Pile, IsKeptOf, told_within, IsPileOf, AreRow, HasRow, PutsRow, IsFirstFrom, GoesOn, PutsPiece}
use Rattle.rt_strips.proofs.Grown.{IsBehind}
use Rattle.rt_strips.proofs.Stacked.{IsAlone, same_or_not, strip_upwards, pushed, covers_pushed, put_higher, covers_higher}
use Rattle.rt_strips.proofs.Keeping.{kept_pushed, kept_raised}

-- a piece is put onto the strips: afterwards it is the upper end of the strip at place k, and all others are as before
pub record IsPut (strips : List Rectangle) (q : Rectangle) (k : ℕ) (after : List Rectangle) : Type 0 where
  pub stacked : AreStacked after
  pub covers : (x y : ℤ) → Covers after x y ↔ (Covers strips x y ⊎ Holds q x y)
  pub longer : length strips ≤ length after
  pub inside : k < length after
  pub left : (area_at after k).left ≡ q.left
  pub right : (area_at after k).right ≡ q.right
  pub top : (area_at after k).top ≡ q.top
  pub bottom : (area_at after k).bottom ≤ℤ q.bottom
  pub others : (j : ℕ) → j < length after → j ≢ k → (j < length strips) × (area_at after j ≡ area_at strips j)
  pub was : k < length strips → ((area_at strips k).top ≡ q.bottom) × ((area_at strips k).left ≡ q.left) × ((area_at strips k).right ≡ q.right)

pub put_by_push : (strips : List Rectangle) (stacked : AreStacked strips) (q : Rectangle) (some : IsNonempty q) (behind : All (λ s. IsBehind s q) strips)
    → IsAlone strips stacked q some behind → IsPut strips q (length strips) (strips ++ q ∷ [])
put_by_push strips stacked q some behind alone =
    let more : length (strips ++ q ∷ []) ≡ length strips + 1 = length-append strips (q ∷ []) in
    let at : area_at (strips ++ q ∷ []) (length strips) ≡ q = get_or-append_seam strips q [] no_area in
    record {
      stacked = pushed strips stacked q some behind alone;
      covers = covers_pushed strips stacked q some behind;
      longer = omega arith;
      inside = omega arith;
      left = ap (λ (s : Rectangle). s.left) at;
      right = ap (λ (s : Rectangle). s.right) at;
      top = ap (λ (s : Rectangle). s.top) at;
      bottom = subst (λ (s : Rectangle). s.bottom ≤ℤ q.bottom) (sym at) (omega (arith, ints));
      others = λ j h other. let lt : j < length strips = omega arith in (lt, get_or_append_left strips (q ∷ []) no_area j lt);
      was = λ h. absurd (omega arith);
    }

pub put_by_raise : (strips : List Rectangle) (stacked : AreStacked strips) (q : Rectangle) (some : IsNonempty q) (behind : All (λ s. IsBehind s q) strips)
    (k : ℕ) → k < length strips → (area_at strips k).top ≡ q.bottom → (area_at strips k).left ≡ q.left → (area_at strips k).right ≡ q.right
    → IsPut strips q k (set strips k (raised (area_at strips k) q.top))
put_by_raise strips stacked q some behind k there top left right =
    let now = raised (area_at strips k) q.top in
    let long : length (set strips k now) ≡ length strips = length-set strips k now in
    let at : area_at (set strips k now) k ≡ now = get_or-set_same strips k now no_area there in
    record {
      stacked = put_higher strips stacked q some behind k there top left right;
      covers = covers_higher strips stacked q some behind k there top left right;
      longer = omega arith;
      inside = omega arith;
      left = ap (λ (s : Rectangle). s.left) at ∙ left;
      right = ap (λ (s : Rectangle). s.right) at ∙ right;
      top = ap (λ (s : Rectangle). s.top) at;
      bottom = subst (λ (s : Rectangle). s.bottom ≤ℤ q.bottom) (sym at) (behind k no_area there).begins;
      others = λ j h other. (omega arith, get_or-set_other strips k j now no_area other);
      was = λ h. (top, left, right);
    }

module _ (most : ℕ) (first : List Rectangle) (bottom top : ℤ) (opened : List Opened) (pieces : List Rectangle) where
  -- the strips when m pieces have been put, and those found to end at the row's top
  pub record IsRowTo (m i : ℕ) (kept : List Rectangle) (count : ℕ) (going : List Opened) : Type 0 where
    pub strips : List Rectangle
    pub new : List Opened
    pub keeps : IsKeptOf most strips kept count
    pub tells : going ≡ map (told_within most) new
    pub stacked : AreStacked strips
    pub covers : (x y : ℤ) → Covers strips x y ↔ (Covers first x y ⊎ Covers (take m pieces) x y)
    pub place_inside : (j : ℕ) → j < length opened → (opened_at opened j).place < length strips
    pub place_left : (j : ℕ) → j < length opened → (area_at strips (opened_at opened j).place).left ≡ (opened_at opened j).left
    pub place_right : (j : ℕ) → j < length opened → (area_at strips (opened_at opened j).place).right ≡ (opened_at opened j).right
    pub untouched : (j : ℕ) → j < length opened → ((n : ℕ) → n < m → (area_at pieces n).left <ℤ (opened_at opened j).left)
        → (area_at strips (opened_at opened j).place).top ≡ (opened_at opened j).top
    pub every_old : (k : ℕ) → k < length strips → (area_at strips k).top ≡ bottom → IsToldOf opened k
    pub passed : (j : ℕ) → j < i → (n : ℕ) → m ≤ n → n < length pieces → (opened_at opened j).left <ℤ (area_at pieces n).left
    pub each_new : All (IsOpenedOf strips) new
    pub at_top : All (λ o. o.top ≡ top) new
    pub every_new : (k : ℕ) → k < length strips → (area_at strips k).top ≡ top → IsToldOf new k
    pub across_new : AllPairs (λ a b. a.left <ℤ b.left) new
    pub left_new : (j : ℕ) → j < length new → (n : ℕ) → m ≤ n → n < length pieces → (opened_at new j).left <ℤ (area_at pieces n).left
    pub behind : (k : ℕ) → k < length strips → (n : ℕ) → m ≤ n → n < length pieces → IsBehind (area_at strips k) (area_at pieces n)
    pub below : (k : ℕ) → k < length strips → (area_at strips k).top ≤ℤ top

  module _ (height : ℤ) (before : Pile) (pile : IsPileOf most first height opened before) (from_height : height ≤ℤ bottom) (some_rows : bottom <ℤ top)
      (row : AreRow bottom top pieces) where
    -- no piece has been put
    pub none_put : IsRowTo 0 0 before.kept before.count []
    none_put = record {
      strips = first;
      new = [];
      keeps = pile.keeps;
      tells = refl;
      stacked = pile.stacked;
      covers = λ x y. (inl, λ c. elim c [ inl h ↦ h | inr h ↦ absurd (omega (arith, h.1.1)) ]);
      place_inside = λ j h. (pile.ends.each j none_opened h).inside;
      place_left = λ j h. (pile.ends.each j none_opened h).left;
      place_right = λ j h. (pile.ends.each j none_opened h).right;
      untouched = λ j h right. (pile.ends.each j none_opened h).top;
      every_old = λ k h e. let low = pile.below k no_area h in pile.ends.every k h (omega (arith, ints));
      passed = λ j h. absurd (omega arith);
      each_new = λ j d h. absurd (omega arith);
      at_top = λ j d h. absurd (omega arith);
      every_new = λ k h e. let low = pile.below k no_area h in absurd (omega (arith, ints));
      across_new = λ i j d h l. absurd (omega arith);
      left_new = λ j h. absurd (omega arith);
      behind = λ k h n m l.
          let low = pile.below k no_area h in
          let up = strip_upwards (Covers first) (area_at first k) (pile.stacked.each k no_area h) in
          let e = (row.rows n no_area l).0 in
          record { begins = omega (arith, ints); ends = inl (omega (arith, ints)) };
      below = λ k h. let low = pile.below k no_area h in omega (arith, ints);
    }

    module _ (m i : ℕ) (kept : List Rectangle) (count : ℕ) (going : List Opened) (r : IsRowTo m i kept count going) (inside : m < length pieces)
        (next : ℕ) (found : IsFirstFrom before.going i (area_at pieces m).left next) where
      abbrev q : Rectangle
      q = area_at pieces m

      q_rows : (q.bottom ≡ bottom) × (q.top ≡ top)
      q_rows = row.rows m no_area inside

      q_some : IsNonempty q
      q_some = let e = q_rows in record { across = row.across m no_area inside; upwards = omega (arith, ints, e.0, e.1) }

      behind_q : All (λ s. IsBehind s q) r.strips
      behind_q = All-from_get_or (λ s. IsBehind s q) r.strips no_area (λ k h. r.behind k h m (omega arith) inside)

      -- the pieces before are to the left
      lefts : (n : ℕ) → n < m → (area_at pieces n).left <ℤ q.left
      lefts n h =
          let apart = row.apart n m no_area h inside in
          let across = row.across n no_area (omega arith) in
          omega (arith, ints)

      rights : (n : ℕ) → m + 1 ≤ n → n < length pieces → q.right <ℤ (area_at pieces n).left
      rights n h l = row.apart m n no_area (omega arith) l

      -- what the code is told of a strip that ends at the height
      told : (j : ℕ) → j < length opened → opened_at before.going j ≡ told_within most (opened_at opened j)
      told j h = ap (λ xs. opened_at xs j) pile.tells ∙ get_or-map (told_within most) opened j none_opened none_opened h

      told_length : length before.going ≡ length opened
      told_length = ap length pile.tells ∙ length-map opened (told_within most)

      passed_now : (j : ℕ) → j < next → (opened_at opened j).left <ℤ q.left
      passed_now j h = elim (cases_lt j i) [
        | inl l ↦ r.passed j l m (omega arith) inside
        | inr l ↦ subst (λ o. o.left <ℤ q.left) (told j (omega (arith, told_length, found.inside))) (found.before j l h)
      ]

      module _ (k : ℕ) (after : List Rectangle) (put : IsPut r.strips q k after) (kept' : List Rectangle) (count' : ℕ) (keeps : IsKeptOf most after kept' count') where
        abbrev now : Opened
        now = record { place = k; left = q.left; right = q.right; top = q.top }

        -- a strip that was there has its columns still
        same_columns : (p : ℕ) → p < length r.strips → ((area_at after p).left ≡ (area_at r.strips p).left) × ((area_at after p).right ≡ (area_at r.strips p).right)
        same_columns p h = elim (same_or_not p k) [
          | inl e ↦
              let was = put.was (omega arith) in (
                ap (λ n. (area_at after n).left) e ∙ put.left ∙ sym was.1 ∙ ap (λ n. (area_at r.strips n).left) (sym e),
                ap (λ n. (area_at after n).right) e ∙ put.right ∙ sym was.2 ∙ ap (λ n. (area_at r.strips n).right) (sym e),
              )
          | inr other ↦
              let same = (put.others p (omega (arith, put.longer)) other).1 in
              (ap (λ (s : Rectangle). s.left) same, ap (λ (s : Rectangle). s.right) same)
        ]

        -- a strip with another left end, or another top than the piece's bottom, has its top still
        same_top : (p : ℕ) → p < length r.strips → ((area_at r.strips p).left ≡ q.left → (area_at r.strips p).top ≡ q.bottom → ⊥) → (area_at after p).top ≡ (area_at r.strips p).top
        same_top p h other = elim (same_or_not p k) [
          | inl e ↦
              let was = put.was (omega arith) in
              absurd (other (ap (λ n. (area_at r.strips n).left) e ∙ was.1) (ap (λ n. (area_at r.strips n).top) e ∙ was.0))
          | inr different ↦ ap (λ (s : Rectangle). s.top) (put.others p (omega (arith, put.longer)) different).1
        ]

        still_opened : (o : Opened) → IsOpenedOf r.strips o → o.top ≡ top → IsOpenedOf after o
        still_opened o h e =
            let same = same_columns o.place h.inside in
            let rows = q_rows in
            let highest = same_top o.place h.inside (λ _ t. let u = h.top in omega (arith, ints, rows.0)) in
            record {
              inside = omega (arith, h.inside, put.longer);
              left = same.0 ∙ h.left;
              right = same.1 ∙ h.right;
              top = highest ∙ h.top;
            }

        one_more : length (r.new ++ now ∷ []) ≡ length r.new + 1
        one_more = length-append r.new (now ∷ [])

        covers_more : (x y : ℤ) → Covers after x y ↔ (Covers first x y ⊎ Covers (take (m + 1) pieces) x y)
        covers_more x y =
            let taken : take (m + 1) pieces ≡ take m pieces ++ q ∷ [] = take_more pieces m no_area inside in (
              λ c. elim ((put.covers x y).0 c) [
                | inl h ↦ elim ((r.covers x y).0 h) [
                  | inl a ↦ inl a
                  | inr a ↦ inr (subst (λ ps. Covers ps x y) (sym taken) (a.0, Contains-append_left (take m pieces) (q ∷ []) a.0 a.1, a.2))
                ]
                | inr h ↦ inr (subst (λ ps. Covers ps x y) (sym taken) (q, Contains-push (take m pieces) q, h))
              ],
              λ c. (put.covers x y).1 (elim c [
                | inl a ↦ inl ((r.covers x y).1 (inl a))
                | inr a ↦
                    let b : Covers (take m pieces ++ q ∷ []) x y = subst (λ ps. Covers ps x y) taken a in
                    elim (Contains-push_cases (take m pieces) q b.0 b.1) [
                      | inl d ↦ inl ((r.covers x y).1 (inr (b.0, d, b.2)))
                      | inr e ↦ inr (subst (λ s. Holds s x y) (sym e) b.2)
                    ]
              ]),
            )

        pub put_more : IsRowTo (m + 1) next kept' count' (going ++ told_within most now ∷ [])
        put_more = record {
          strips = after;
          new = r.new ++ now ∷ [];
          keeps = keeps;
          tells = ap (λ xs. xs ++ told_within most now ∷ []) r.tells ∙ sym (map-append (told_within most) r.new (now ∷ []));
          stacked = put.stacked;
          covers = covers_more;
          place_inside = λ j h. omega (arith, r.place_inside j h, put.longer);
          place_left = λ j h. (same_columns _ (r.place_inside j h)).0 ∙ r.place_left j h;
          place_right = λ j h. (same_columns _ (r.place_inside j h)).1 ∙ r.place_right j h;
          untouched = λ j h right.
              let was = r.untouched j h (λ n l. right n (omega arith)) in
              let far = right m (omega arith) in
              same_top _ (r.place_inside j h) (λ e _. let is = r.place_left j h in omega (arith, ints)) ∙ was;
          every_old = λ p h e. elim (same_or_not p k) [
            | inl same ↦
                let high : (area_at after p).top ≡ q.top = ap (λ n. (area_at after n).top) same ∙ put.top in
                let rows = q_rows in
                absurd (omega (arith, ints, rows.1))
            | inr other ↦ let o = put.others p h other in r.every_old p o.0 (ap (λ (s : Rectangle). s.top) (sym o.1) ∙ e)
          ];
          passed = λ j h n l b. let low = passed_now j h in let far = rights n l b in let across = q_some.across in omega (arith, ints);
          each_new = All-push (IsOpenedOf after) r.new now (λ j d h. still_opened _ (r.each_new j d h) (r.at_top j d h))
              (record { inside = put.inside; left = put.left; right = put.right; top = put.top });
          at_top = All-push (λ (o : Opened). o.top ≡ top) r.new now r.at_top (q_rows.1);
          every_new = λ p h e. elim (same_or_not p k) [
            | inl same ↦ record { number = length r.new; inside = omega (arith, one_more); is = ap (λ (o : Opened). o.place) (get_or-append_seam r.new now [] none_opened) ∙ sym same }
            | inr other ↦
                let o = put.others p h other in
                let t = r.every_new p o.0 (ap (λ (s : Rectangle). s.top) (sym o.1) ∙ e) in
                record {
                  number = t.number;
                  inside = omega (arith, one_more, t.inside);
                  is = ap (λ (o : Opened). o.place) (get_or_append_left r.new (now ∷ []) none_opened t.number t.inside) ∙ t.is;
                }
          ];
          across_new = all_pairs_push (λ (a b : Opened). a.left <ℤ b.left) r.new now r.across_new
              (λ j d h. subst (λ (o : Opened). o.left <ℤ q.left) (get_or_default r.new j none_opened d h) (r.left_new j h m (omega arith) inside));
          left_new = λ j h n l b. elim (cases_lt j (length r.new)) [
            | inl lt ↦ subst (λ (o : Opened). o.left <ℤ (area_at pieces n).left) (sym (get_or_append_left r.new (now ∷ []) none_opened j lt)) (r.left_new j lt n (omega arith) b)
            | inr ge ↦
                let e : j ≡ length r.new = omega (arith, one_more) in
                let is : opened_at (r.new ++ now ∷ []) j ≡ now = ap (opened_at (r.new ++ now ∷ [])) e ∙ get_or-append_seam r.new now [] none_opened in
                let far = rights n l b in
                let across = q_some.across in
                subst (λ (o : Opened). o.left <ℤ (area_at pieces n).left) (sym is) (omega (arith, ints))
          ];
          behind = λ p h n l b. elim (same_or_not p k) [
            | inl same ↦
                let rows = row.rows n no_area b in
                let mine = q_rows in
                let low = put.bottom in
                let high = put.top in
                let end = put.right in
                let far = rights n l b in
                subst (λ j. IsBehind (area_at after j) (area_at pieces n)) (sym same)
                (record { begins = omega (arith, ints, rows.0, mine.0); ends = inr (omega (arith, ints, rows.1, mine.1), omega (arith, ints)) })
            | inr other ↦ let o = put.others p h other in subst (λ s. IsBehind s (area_at pieces n)) (sym o.1) (r.behind p o.0 n (omega arith) b)
          ];
          below = λ p h. elim (same_or_not p k) [
            | inl same ↦ let rows = q_rows in let high = put.top in subst (λ j. (area_at after j).top ≤ℤ top) (sym same) (omega (arith, ints, rows.1))
            | inr other ↦ let o = put.others p h other in subst (λ (s : Rectangle). s.top ≤ℤ top) (sym o.1) (r.below p o.0)
          ];
        }

      -- what holds of an old one that has the piece's left end
      top_of_old : (j : ℕ) → j < length opened → (opened_at opened j).left ≡ q.left → (area_at r.strips (opened_at opened j).place).top ≡ (opened_at opened j).top
      top_of_old j h e = r.untouched j h (λ n l. let low = lefts n l in omega (arith, ints))

      -- no strip ends under the piece at its columns, where the one at the next number doesn't
      alone : (next < length before.going → ¬ GoesOn (opened_at before.going next) q) → IsAlone r.strips r.stacked q q_some behind_q
      alone other = record {
        alone = λ k h t l e.
            let old = r.every_old k h (t ∙ q_rows.0) in
            let j = old.number in
            let left : (opened_at opened j).left ≡ q.left = sym (r.place_left j old.inside) ∙ ap (λ n. (area_at r.strips n).left) old.is ∙ l in
            let right : (opened_at opened j).right ≡ q.right = sym (r.place_right j old.inside) ∙ ap (λ n. (area_at r.strips n).right) old.is ∙ e in
            let top : (opened_at opened j).top ≡ q.bottom = sym (top_of_old j old.inside left) ∙ ap (λ n. (area_at r.strips n).top) old.is ∙ t in
            elim (cases_lt j next) [
              | inl lt ↦ let low = passed_now j lt in omega (arith, ints)
              | inr ge ↦ elim (same_or_not j next) [
                | inl same ↦
                    let there : next < length opened = omega (arith, old.inside) in
                    let is : opened_at before.going next ≡ told_within most (opened_at opened j) = told next there ∙ ap (λ n. told_within most (opened_at opened n)) (sym same) in
                    other (omega (arith, told_length)) (record {
                      left = ap (λ (o : Opened). o.left) is ∙ left;
                      right = ap (λ (o : Opened). o.right) is ∙ right;
                      top = ap (λ (o : Opened). o.top) is ∙ top;
                    })
                | inr different ↦
                    let there : next < length opened = omega (arith, old.inside) in
                    let first_left : q.left ≤ℤ (opened_at opened next).left = subst (λ (o : Opened). q.left ≤ℤ o.left) (told next there) (found.after (omega (arith, told_length))) in
                    let rise = pile.ends.across next j none_opened (omega arith) old.inside in
                    omega (arith, ints)
              ]
            ];
      }

      pub put_step : (place : ℕ) (kept' : List Rectangle) (count' : ℕ) → PutsPiece most before.going next q kept count kept' count' place
          → IsRowTo (m + 1) next kept' count' (going ++ record { place = place; left = q.left; right = q.right; top = q.top } ∷ [])
      put_step place kept' count' (inl g) =
          let there : next < length opened = omega (arith, told_length, g.inside) in
          let o = opened_at opened next in
          let is = told next there in
          let left : o.left ≡ q.left = ap (λ (o : Opened). o.left) (sym is) ∙ g.goes_on.left in
          let right : o.right ≡ q.right = ap (λ (o : Opened). o.right) (sym is) ∙ g.goes_on.right in
          let top : o.top ≡ q.bottom = ap (λ (o : Opened). o.top) (sym is) ∙ g.goes_on.top in
          let k = o.place in
          let k_inside = r.place_inside next there in
          let k_top = top_of_old next there left ∙ top in
          let put = put_by_raise r.strips r.stacked q q_some behind_q k k_inside k_top (r.place_left next there ∙ left) (r.place_right next there ∙ right) in
          let place_is : place ≡ min k most = g.place_is ∙ ap (λ (o : Opened). o.place) is in
          let keeps = kept_raised most r.strips kept count q kept' place k r.keeps place_is k_inside k_top g.raises in
          subst (λ n. IsRowTo (m + 1) next kept' count' (going ++ record { place = n; left = q.left; right = q.right; top = q.top } ∷ [])) (sym place_is)
          (put_more k (set r.strips k (raised (area_at r.strips k) q.top)) put kept' count'
          (subst (IsKeptOf most (set r.strips k (raised (area_at r.strips k) q.top)) kept') (sym g.same_count) keeps))
      put_step place kept' count' (inr b) =
          let put = put_by_push r.strips r.stacked q q_some behind_q (alone b.alone) in
          let keeps = kept_pushed most r.strips kept count q kept' count' place r.keeps b.begun in
          subst (λ n. IsRowTo (m + 1) next kept' count' (going ++ record { place = n; left = q.left; right = q.right; top = q.top } ∷ [])) (sym keeps.1)
          (put_more (length r.strips) (r.strips ++ q ∷ []) put kept' count' keeps.0)

  -- all pieces have been put
  pub all_put : (m i : ℕ) (kept : List Rectangle) (count : ℕ) (going : List Opened) → IsRowTo m i kept count going → length pieces ≤ m
      → HasRow most first top pieces (record { kept = kept; count = count; going = going })
  all_put m i kept count going r h = record {
    more = r.strips;
    opened = r.new;
    of = record {
      keeps = r.keeps;
      tells = r.tells;
      stacked = r.stacked;
      below = All-from_get_or (λ (s : Rectangle). s.top ≤ℤ top) r.strips no_area r.below;
      ends = record { each = r.each_new; every = r.every_new; across = r.across_new };
    };
    covers = λ x y. subst (λ ps. Covers r.strips x y ↔ (Covers first x y ⊎ Covers ps x y)) (take_all m pieces h) (r.covers x y);
  }

-- each state of the loop, whatever strips the pile tells of
pub record IsRowLoop (most : ℕ) (pieces : List Rectangle) (before : Pile) (m i : ℕ) (kept : List Rectangle) (count : ℕ) (going : List Opened) : Type 0 where
  pub inside : i ≤ length before.going
  pub state : (strips : List Rectangle) (height bottom top : ℤ) (opened : List Opened) → IsPileOf most strips height opened before → height ≤ℤ bottom → bottom <ℤ top
      → AreRow bottom top pieces → IsRowTo most strips bottom top opened pieces m i kept count going

pub row_begins : (most : ℕ) (pieces : List Rectangle) (before : Pile) → IsRowLoop most pieces before 0 0 before.kept before.count []
row_begins most pieces before = record {
  inside = omega arith;
  state = λ strips height bottom top opened pile low some row. none_put most strips bottom top opened pieces height before pile low some row;
}

pub row_goes_on : (most : ℕ) (pieces : List Rectangle) (before : Pile) (m i : ℕ) (kept : List Rectangle) (count : ℕ) (going : List Opened)
    → IsRowLoop most pieces before m i kept count going → (piece : Rectangle) → m < length pieces → area_at pieces m ≡ piece
    → (next : ℕ) → IsFirstFrom before.going i piece.left next → (place : ℕ) (kept' : List Rectangle) (count' : ℕ)
    → PutsPiece most before.going next piece kept count kept' count' place
    → IsRowLoop most pieces before (m + 1) next kept' count' (going ++ record { place = place; left = piece.left; right = piece.right; top = piece.top } ∷ [])
row_goes_on most pieces before m i kept count going l piece inside is next found place kept' count' put = record {
  inside = found.inside;
  state = λ strips height bottom top opened pile low some row.
      subst (λ (p : Rectangle). IsRowTo most strips bottom top opened pieces (m + 1) next kept' count' (going ++ record { place = place; left = p.left; right = p.right; top = p.top } ∷ [])) is
      (put_step most strips bottom top opened pieces height before pile low some row m i kept count going (l.state strips height bottom top opened pile low some row) inside next
      (subst (λ (p : Rectangle). IsFirstFrom before.going i p.left next) (sym is) found) place kept' count'
      (subst (λ p. PutsPiece most before.going next p kept count kept' count' place) (sym is) put));
}

pub row_ends : (most : ℕ) (pieces : List Rectangle) (before : Pile) (m i : ℕ) (kept : List Rectangle) (count : ℕ) (going : List Opened)
    → IsRowLoop most pieces before m i kept count going → length pieces ≤ m → PutsRow most pieces before (record { kept = kept; count = count; going = going })
row_ends most pieces before m i kept count going l h =
    λ strips height bottom top opened pile low some row.
    all_put most strips bottom top opened pieces m i kept count going (l.state strips height bottom top opened pile low some row) h
