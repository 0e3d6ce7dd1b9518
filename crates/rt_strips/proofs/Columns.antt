-- The pieces of a line that grows by columns that begin no further left than any piece.
use Rattle.std.proofs.Common.{◌≡◌, ℕ, ◌+◌, ◌-◌, ◌<◌, ◌≤◌, ℤ, pos, ◌-ℤ◌, ◌≤ℤ◌, ◌<ℤ◌, ◌⊎◌, List, [], ◌∷◌, ◌++◌, length, get_or, set, refl, sym, ap, subst, ◌∙◌, arith, inl, inr, get_or-set_same, get_or-set_other}
use Rattle.std.proofs.Common.{⊎_elim, take, map}
use Rattle.std.specs.List.{All, AllPairs, Contains}
use Rattle.std.proofs.lemmas.Int.{ints, by_lt_z}
use Rattle.std.proofs.lemmas.List.{get_or_default, length-set, take_more, take_all, get_or-map, length-map, map-set}
use Rattle.std.proofs.lemmas.List.Elements.{All-push, All-from_get_or, All-contains, All-weaker, Contains-get_or, Contains-append_left, Contains-push, Contains-push_cases}
use Rattle.std.proofs.lemmas.List.Quantifiers.{all_pairs_push}
use Rattle.std.proofs.Math.Logic.{◌↔◌}
use Rattle.rt_cells.specs.Line.{Within, IsRun}
use Rattle.rt_cells.specs.Rectangles.{Rectangle}
use Rattle.rt_cells.proofs.Lines.{within}
use Rattle.rt_base.specs.declared.plane.Rect.{Rect}
use Rattle.rt_base.specs.Plane.{area}
use Rattle.rt_strips.specs.Stacks.{area_at, no_area}
use Rattle.rt_sweep.specs.declared.bar.Bar.{Bar}
use Rattle.rt_sweep.specs.Rows.{AreAcross}
use Rattle.rt_strips.specs.Pieces.{IsColumnOf, ArePieces, last_piece, stretched, IsStretched, AddsColumns}
use Rattle.rt_strips.proofs.Stacked.{same_or_not}

-- what holds of any two strips by their places
pub pairs_by_places : (R : Rectangle → Rectangle → Type 0) (xs : List Rectangle) → ((i j : ℕ) → i < j → j < length xs → R (area_at xs i) (area_at xs j)) → AllPairs R xs
pairs_by_places R xs h i j d l k =
    subst (λ a. R a (get_or xs j d)) (get_or_default xs i no_area d (omega arith)) (subst (R (area_at xs i)) (get_or_default xs j no_area d k) (h i j l k))

module _ (line more : ℤ → Type 0) (left right : ℤ) (some : left <ℤ right) (grow : (x : ℤ) → more x ↔ (line x ⊎ Within left right x))
    (bottom top : ℤ) (pieces : List Rectangle) (are : ArePieces line bottom top pieces) (lefts : All (λ p. p.left ≤ℤ left) pieces) where
  -- a run to the left of the columns stays a run
  still_run : (low high : ℤ) → IsRun line low high → high <ℤ left → IsRun more low high
  still_run low high run far = record {
    nonempty = run.nonempty;
    inside = λ x h. (grow x).1 (inl (run.inside x h));
    before = λ m. elim ((grow (low -ℤ pos 1)).0 m) [ inl h ↦ run.before h | inr h ↦ omega (arith, ints, run.nonempty, h.from) ];
    after = λ m. elim ((grow high).0 m) [ inl h ↦ run.after h | inr h ↦ omega (arith, ints, h.from) ];
  }

  -- pieces before the last one end to the left of the columns
  before_last : (k : ℕ) → k + 1 < length pieces → (area_at pieces k).right <ℤ left
  before_last k h =
      let apart = are.row.apart k (length pieces - 1) no_area (omega arith) (omega arith) in
      let low = lefts (length pieces - 1) no_area (omega arith) in
      omega (arith, ints)

  -- where the last one does as well, all do
  module _ (apart : 0 < length pieces → (last_piece pieces).right <ℤ left) where
    all_left : (k : ℕ) → k < length pieces → (area_at pieces k).right <ℤ left
    all_left k h = elim (same_or_not k (length pieces - 1)) [
      | inl e ↦ subst (λ n. (area_at pieces n).right <ℤ left) (sym e) (apart (omega arith))
      | inr other ↦ before_last k (omega arith)
    ]

    not_from_left : (x : ℤ) → (left -ℤ pos 1) ≤ℤ x → line x → ⊥
    not_from_left x h l =
        let p = are.every x l in
        let far = All-contains (λ (q : Rectangle). q.right <ℤ left) pieces p.piece (All-from_get_or (λ (q : Rectangle). q.right <ℤ left) pieces no_area all_left) p.listed in
        omega (arith, ints, p.within.to)

    abbrev piece : Rectangle
    piece = record { left = left; right = right; bottom = bottom; top = top }

    pub piece_begun : ArePieces more bottom top (pieces ++ piece ∷ []) × All (λ p. p.left ≤ℤ left) (pieces ++ piece ∷ [])
    piece_begun = (
      record {
        row = record {
          rows = All-push (λ (p : Rectangle). (p.bottom ≡ bottom) × (p.top ≡ top)) pieces piece are.row.rows (refl, refl);
          across = All-push (λ (p : Rectangle). p.left <ℤ p.right) pieces piece are.row.across some;
          apart = all_pairs_push (λ (a b : Rectangle). a.right <ℤ b.left) pieces piece are.row.apart
              (λ k d h. subst (λ (p : Rectangle). p.right <ℤ left) (get_or_default pieces k no_area d h) (all_left k h));
        };
        runs = All-push (λ (p : Rectangle). IsRun more p.left p.right) pieces piece
            (All-from_get_or (λ (p : Rectangle). IsRun more p.left p.right) pieces no_area (λ k h. still_run _ _ (are.runs k no_area h) (all_left k h)))
            (record {
              nonempty = some;
              inside = λ x h. (grow x).1 (inr h);
              before = λ m. elim ((grow (left -ℤ pos 1)).0 m) [ inl h ↦ not_from_left _ (omega (arith, ints)) h | inr h ↦ omega (arith, ints, h.from) ];
              after = λ m. elim ((grow right).0 m) [ inl h ↦ not_from_left _ (omega (arith, ints)) h | inr h ↦ omega (arith, ints, h.to) ];
            });
        every = λ x m. elim ((grow x).0 m) [
          | inl h ↦ let p = are.every x h in record { piece = p.piece; listed = Contains-append_left pieces (piece ∷ []) p.piece p.listed; within = p.within }
          | inr h ↦ record { piece = piece; listed = Contains-push pieces piece; within = h }
        ];
      },
      All-push (λ (p : Rectangle). p.left ≤ℤ left) pieces piece lefts (omega (arith, ints)),
    )

  -- where the columns meet or adjoin the last one
  module _ (there : 0 < length pieces) (meets : left ≤ℤ (last_piece pieces).right) (end : ℤ) (past_last : (last_piece pieces).right ≤ℤ end) (past : right ≤ℤ end)
      (either : (end ≤ℤ (last_piece pieces).right) ⊎ (end ≤ℤ right))
      (after : List Rectangle) (long : length after ≡ length pieces) (last : area_at after (length pieces - 1) ≡ stretched (last_piece pieces) end)
      (others : (k : ℕ) → k + 1 < length pieces → area_at after k ≡ area_at pieces k) where
    abbrev place : ℕ
    place = length pieces - 1

    last_left : (last_piece pieces).left ≤ℤ left
    last_left = lefts place no_area (omega arith)

    no_further : (x : ℤ) → line x → x <ℤ (last_piece pieces).right
    no_further x l =
        let p = are.every x l in
        let k = p.listed.0 in
        elim (same_or_not k place) [
          | inl e ↦ subst (λ (q : Rectangle). x <ℤ q.right) (sym (get_or_default pieces place no_area p.piece (omega arith) ∙ ap (λ n. get_or pieces n p.piece) (sym e) ∙ p.listed.2)) p.within.to
          | inr other ↦
              let far = before_last k (omega (arith, p.listed.1)) in
              let is : area_at pieces k ≡ p.piece = get_or_default pieces k no_area p.piece p.listed.1 ∙ p.listed.2 in
              let high : x <ℤ (area_at pieces k).right = subst (λ (q : Rectangle). x <ℤ q.right) (sym is) p.within.to in
              omega (arith, ints)
        ]

    last_run : IsRun more (last_piece pieces).left end
    last_run =
        let run : IsRun line (last_piece pieces).left (last_piece pieces).right = are.runs place no_area (omega arith) in
        let low = last_left in
        record {
          nonempty = omega (arith, ints, run.nonempty);
          inside = λ x h.
              by_lt_z x (last_piece pieces).right
              (λ l. (grow x).1 (inl (run.inside x (within _ _ _ h.from l))))
              (λ l. (grow x).1 (inr (within _ _ _ (omega (arith, ints)) (elim either [ inl e ↦ absurd (omega (arith, ints, h.to)) | inr e ↦ omega (arith, ints, h.to) ]))));
          before = λ m. elim ((grow ((last_piece pieces).left -ℤ pos 1)).0 m) [ inl h ↦ run.before h | inr h ↦ omega (arith, ints, h.from) ];
          after = λ m. elim ((grow end).0 m) [ inl h ↦ let l = no_further end h in omega (arith, ints) | inr h ↦ omega (arith, ints, h.to) ];
        }

    after_at : (k : ℕ) → k < length after → ((area_at after k ≡ area_at pieces k) × (k + 1 < length pieces)) ⊎ ((area_at after k ≡ stretched (last_piece pieces) end) × (k ≡ place))
    after_at k h = elim (same_or_not k place) [
      | inl e ↦ inr (ap (area_at after) e ∙ last, e)
      | inr other ↦ let lt : k + 1 < length pieces = omega arith in inl (others k lt, lt)
    ]

    stretch_each : (P : Rectangle → Type 0) → ((k : ℕ) → k + 1 < length pieces → P (area_at pieces k)) → P (stretched (last_piece pieces) end) → All P after
    stretch_each P h p = All-from_get_or P after no_area (λ k l. elim (after_at k l) [
      | inl a ↦ subst P (sym a.0) (h k a.1)
      | inr a ↦ subst P (sym a.0) p
    ])

    stretch_apart : (i j : ℕ) → i < j → j < length after → (area_at after i).right <ℤ (area_at after j).left
    stretch_apart i j h l =
        subst (λ (q : Rectangle). q.right <ℤ (area_at after j).left) (sym (others i (omega arith)))
        (elim (after_at j l) [
          | inl a ↦ subst (λ (q : Rectangle). (area_at pieces i).right <ℤ q.left) (sym a.0) (are.row.apart i j no_area h (omega arith))
          | inr a ↦ subst (λ (q : Rectangle). (area_at pieces i).right <ℤ q.left) (sym a.0) (are.row.apart i place no_area (omega (arith, a.1)) (omega arith))
        ])

    pub piece_stretched : ArePieces more bottom top after × All (λ p. p.left ≤ℤ left) after
    piece_stretched = (
      record {
        row = record {
          rows = stretch_each (λ p. (p.bottom ≡ bottom) × (p.top ≡ top)) (λ k h. are.row.rows k no_area (omega arith)) (are.row.rows place no_area (omega arith));
          across = stretch_each (λ p. p.left <ℤ p.right) (λ k h. are.row.across k no_area (omega arith)) last_run.nonempty;
          apart = pairs_by_places (λ a b. a.right <ℤ b.left) after stretch_apart;
        };
        runs = stretch_each (λ p. IsRun more p.left p.right) (λ k h. still_run _ _ (are.runs k no_area (omega arith)) (before_last k h)) last_run;
        every = λ x m. elim ((grow x).0 m) [
          | inl h ↦
              let p = are.every x h in
              let k = p.listed.0 in
              let is : area_at pieces k ≡ p.piece = get_or_default pieces k no_area p.piece p.listed.1 ∙ p.listed.2 in
              let at : Within (area_at pieces k).left (area_at pieces k).right x = subst (λ (q : Rectangle). Within q.left q.right x) (sym is) p.within in
              let inside : k < length after = omega (arith, p.listed.1) in
              record {
                piece = area_at after k;
                listed = Contains-get_or after k no_area inside;
                within = elim (after_at k inside) [
                  | inl a ↦ subst (λ (q : Rectangle). Within q.left q.right x) (sym a.0) at
                  | inr a ↦
                      let here : Within (last_piece pieces).left (last_piece pieces).right x = subst (λ n. Within (area_at pieces n).left (area_at pieces n).right x) a.1 at in
                      subst (λ (q : Rectangle). Within q.left q.right x) (sym a.0) (within _ _ _ here.from (omega (arith, ints, here.to)))
                ];
              }
          | inr h ↦
              let low = last_left in
              record {
                piece = stretched (last_piece pieces) end;
                listed = subst (Contains after) last (Contains-get_or after place no_area (omega arith));
                within = within _ _ _ (omega (arith, ints, h.from)) (omega (arith, ints, h.to));
              }
        ];
      },
      stretch_each (λ p. p.left ≤ℤ left) (λ k h. lefts k no_area (omega arith)) last_left,
    )

  -- the columns are added
  pub columns_added : (after : List Rectangle) → AddsColumns left right bottom top pieces after → ArePieces more bottom top after × All (λ p. p.left ≤ℤ left) after
  columns_added after (inl s) = elim s.after_is.either [
    | inl (low, e) ↦
        subst (λ ps. ArePieces more bottom top ps × All (λ p. p.left ≤ℤ left) ps) (sym e)
        (piece_stretched s.last.some s.last.meets (last_piece pieces).right (omega (arith, ints)) low (inl (omega (arith, ints))) pieces refl refl (λ k h. refl))
    | inr (high, e) ↦
        let now = stretched (last_piece pieces) right in
        let place = length pieces - 1 in
        let some_there = s.last.some in
        subst (λ ps. ArePieces more bottom top ps × All (λ p. p.left ≤ℤ left) ps) (sym e)
        (piece_stretched s.last.some s.last.meets right (omega (arith, ints)) (omega (arith, ints)) (inr (omega (arith, ints))) (set pieces place now)
        (length-set pieces place now) (get_or-set_same pieces place now no_area (omega arith)) (λ k h. get_or-set_other pieces place k now no_area (omega arith)))
  ]
  columns_added after (inr b) = subst (λ ps. ArePieces more bottom top ps × All (λ p. p.left ≤ℤ left) ps) (sym b.after_is) (piece_begun b.last.apart)

-- as many columns as the bars before a place have, and no bar from that place on begins to the left of a piece
pub record ArePiecesTo (bars : List Bar) (i tag : ℕ) (bottom top : ℤ) (pieces : List Rectangle) : Type 0 where
  pub are : ArePieces (IsColumnOf (take i bars) tag) bottom top pieces
  pub lefts : All (λ p. (k : ℕ) (d : Bar) → i ≤ k → k < length bars → p.left ≤ℤ (get_or bars k d).at.x1) pieces

pub no_pieces : (bars : List Bar) (tag : ℕ) (bottom top : ℤ) → ArePiecesTo bars 0 tag bottom top []
no_pieces bars tag bottom top = record {
  are = record {
    row = record { rows = λ k d h. absurd (omega arith); across = λ k d h. absurd (omega arith); apart = λ i j d h l. absurd (omega arith) };
    runs = λ k d h. absurd (omega arith);
    every = λ x c. absurd (omega (arith, c.listed.1));
  };
  lefts = λ k d h. absurd (omega arith);
}

module _ (bars : List Bar) (i tag : ℕ) (inside : i < length bars) (bar : Bar) (is : (d : Bar) → get_or bars i d ≡ bar) where
  one_more_bar : take (i + 1) bars ≡ take i bars ++ bar ∷ []
  one_more_bar = take_more bars i bar inside ∙ ap (λ b. take i bars ++ b ∷ []) (is bar)

  -- the column is one of the bars before, or of this one
  column_cases : (x : ℤ) → IsColumnOf (take (i + 1) bars) tag x → IsColumnOf (take i bars) tag x ⊎ ((bar.tag ≡ tag) × Within bar.at.x1 bar.at.x2 x)
  column_cases x c = elim (Contains-push_cases (take i bars) bar c.bar (subst (λ bs. Contains bs c.bar) one_more_bar c.listed)) [
    | inl l ↦ inl (record { bar = c.bar; listed = l; tagged = c.tagged; within = c.within })
    | inr e ↦ inr (subst (λ (b : Bar). (b.tag ≡ tag) × Within b.at.x1 b.at.x2 x) (sym e) (c.tagged, c.within))
  ]

  column_kept : (x : ℤ) → IsColumnOf (take i bars) tag x → IsColumnOf (take (i + 1) bars) tag x
  column_kept x c = record {
    bar = c.bar;
    listed = subst (λ bs. Contains bs c.bar) (sym one_more_bar) (Contains-append_left (take i bars) (bar ∷ []) c.bar c.listed);
    tagged = c.tagged;
    within = c.within;
  }

  column_new : (x : ℤ) → bar.tag ≡ tag → Within bar.at.x1 bar.at.x2 x → IsColumnOf (take (i + 1) bars) tag x
  column_new x e h = record { bar = bar; listed = subst (λ bs. Contains bs bar) (sym one_more_bar) (Contains-push (take i bars) bar); tagged = e; within = h }

  module _ (bottom top : ℤ) (pieces : List Rectangle) (so_far : ArePiecesTo bars i tag bottom top pieces) where
    -- a bar of another tag is passed over
    pub bar_passed : (bar.tag ≡ tag → ⊥) → ArePiecesTo bars (i + 1) tag bottom top pieces
    bar_passed other =
        let back = λ (x : ℤ) (c : IsColumnOf (take (i + 1) bars) tag x). ⊎_elim {C = IsColumnOf (take i bars) tag x} (λ h. h) (λ h. absurd (other h.0)) (column_cases x c) in
        record {
          are = record {
            row = so_far.are.row;
            runs = All-weaker (λ (p : Rectangle). IsRun (IsColumnOf (take i bars) tag) p.left p.right) (λ p. IsRun (IsColumnOf (take (i + 1) bars) tag) p.left p.right)
                (λ p run. record {
                  nonempty = run.nonempty;
                  inside = λ x h. column_kept x (run.inside x h);
                  before = λ c. run.before (back _ c);
                  after = λ c. run.after (back _ c);
                }) pieces so_far.are.runs;
            every = λ x c. so_far.are.every x (back x c);
          };
          lefts = λ n e h k d l. so_far.lefts n e h k d (omega arith);
        }

    -- the columns of a bar of the tag are added
    pub bar_added : bar.tag ≡ tag → AreAcross bars → (after : List Rectangle) → AddsColumns bar.at.x1 bar.at.x2 bottom top pieces after → ArePiecesTo bars (i + 1) tag bottom top after
    bar_added e across after adds =
        let lefts = All-weaker (λ (p : Rectangle). (k : ℕ) (d : Bar) → i ≤ k → k < length bars → p.left ≤ℤ (get_or bars k d).at.x1) (λ p. p.left ≤ℤ bar.at.x1)
        (λ p h. subst (λ (b : Bar). p.left ≤ℤ b.at.x1) (is bar) (h i bar (omega arith) inside)) pieces so_far.lefts in
        let now = columns_added (IsColumnOf (take i bars) tag) (IsColumnOf (take (i + 1) bars) tag) bar.at.x1 bar.at.x2 bar.at.across
        (λ x. (
          λ c. ⊎_elim {C = IsColumnOf (take i bars) tag x ⊎ Within bar.at.x1 bar.at.x2 x} (λ h. inl h) (λ h. inr h.1) (column_cases x c),
          λ c. ⊎_elim {C = IsColumnOf (take (i + 1) bars) tag x} (column_kept x) (column_new x e) c,
        )) bottom top pieces so_far.are lefts after adds in
        record {
          are = now.0;
          lefts = All-weaker (λ (p : Rectangle). p.left ≤ℤ bar.at.x1) (λ p. (k : ℕ) (d : Bar) → i + 1 ≤ k → k < length bars → p.left ≤ℤ (get_or bars k d).at.x1)
              (λ p h k d l m.
              let next : bar.at.x1 ≤ℤ (get_or bars k d).at.x1 = subst (λ (b : Bar). b.at.x1 ≤ℤ (get_or bars k d).at.x1) (is d) (across i k d (omega arith) m) in
              omega (arith, ints)) after now.1;
        }

pub all_pieces : (bars : List Bar) (i tag : ℕ) (bottom top : ℤ) (pieces : List Rectangle) → length bars ≤ i → ArePiecesTo bars i tag bottom top pieces
    → ArePieces (IsColumnOf bars tag) bottom top pieces
all_pieces bars i tag bottom top pieces h so_far = subst (λ bs. ArePieces (IsColumnOf bs tag) bottom top pieces) (take_all i bars h) so_far.are

-- the last piece of the code
last_is : (pieces : List Rect) (piece : Rect) → 0 < length pieces → piece ≡ get_or pieces (length pieces - 1) piece → last_piece (map area pieces) ≡ area piece
last_is pieces piece some is =
    ap (λ n. area_at (map area pieces) (n - 1)) (length-map pieces area) ∙ get_or-map area pieces (length pieces - 1) piece no_area (omega arith) ∙ ap area (sym is)

pub stretched_at : (pieces : List Rect) (piece now : Rect) (right : ℤ) → 0 < length pieces → piece ≡ get_or pieces (length pieces - 1) piece
    → (d : Rect) → (get_or pieces (length pieces - 1) d).x2 <ℤ right → area now ≡ stretched (area piece) right → IsStretched right (map area pieces) (map area (set pieces (length pieces - 1) now))
stretched_at pieces piece now right some is d less e =
    let low : piece.x2 <ℤ right = subst (λ (r : Rect). r.x2 <ℤ right) (get_or_default pieces (length pieces - 1) d piece (omega arith) ∙ sym is) less in
    let last = last_is pieces piece some is in
    record {
      either = inr (
        subst (λ (p : Rectangle). p.right <ℤ right) (sym last) low,
        map-set area pieces (length pieces - 1) now ∙ ap (set (map area pieces) (length pieces - 1)) (e ∙ ap (λ p. stretched p right) (sym last))
            ∙ ap (λ n. set (map area pieces) (n - 1) (stretched (last_piece (map area pieces)) right)) (sym (length-map pieces area)),
      );
    }

pub not_stretched : (pieces : List Rect) (piece : Rect) (right : ℤ) → 0 < length pieces → piece ≡ get_or pieces (length pieces - 1) piece
    → right ≤ℤ (get_or pieces (length pieces - 1) piece).x2 → IsStretched right (map area pieces) (map area pieces)
not_stretched pieces piece right some is more =
    let high : right ≤ℤ piece.x2 = subst (λ (r : Rect). right ≤ℤ r.x2) (sym is) more in
    record { either = inl (subst (λ (p : Rectangle). right ≤ℤ p.right) (sym (last_is pieces piece some is)) high, refl) }

pub same_stretched : (piece : Rect) (left right bottom top now : ℤ) → left ≡ piece.x1 → now ≡ right → bottom ≡ piece.y1 → top ≡ piece.y2
    → record { left = left; right = now; bottom = bottom; top = top } ≡ stretched (area piece) right
same_stretched piece left right bottom top now e f g h = cc
