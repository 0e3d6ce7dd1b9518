-- The strips of the cells below a height: at the start of a sweep, from one slab to the next, and at its end.
use Rattle.std.proofs.Common.{◌≡◌, ℕ, ◌<◌, ℤ, ◌≤ℤ◌, ◌<ℤ◌, min, List, [], length, get_or, sym, ap, subst, ◌∙◌, arith, inl, inr}
use Rattle.std.specs.List.{AllPairs, Contains}
use Rattle.std.proofs.lemmas.Int.{ints, by_lt_z}
use Rattle.std.proofs.lemmas.List.{take_all, length-take}
use Rattle.std.proofs.lemmas.List.Elements.{All-contains}
use Rattle.std.proofs.Math.Logic.{◌↔◌}
use Rattle.rt_cells.specs.Line.{Within, IsRun}
use Rattle.rt_cells.specs.Cells.{row_of}
use Rattle.rt_cells.specs.Rectangles.{Rectangle, Covers}
use Rattle.rt_cells.proofs.Lines.{within, first_place}
use Rattle.rt_strips.specs.OneMask.{AreDisjoint, HasWholeRuns, AreAllStrips, AreFirstStrips}
use Rattle.rt_strips.specs.Stacks.{HasRun, IsStripOf, AreStacked, Pile, PutsRow}
use Rattle.rt_strips.specs.Pieces.{ArePieces}
use Rattle.rt_strips.specs.Heights.{IsBuiltTo}
use Rattle.rt_strips.proofs.Grown.{one_run}
use Rattle.rt_strips.proofs.Stacked.{strip_upwards, strip_across, one_place}

-- the strips of what they cover are all strips of the same cells
module _ (cells : ℤ → ℤ → Type 0) (strips : List Rectangle) (stacked : AreStacked strips) (same : (x y : ℤ) → Covers strips x y ↔ cells x y) where
  whole : (s : Rectangle) → IsStripOf (Covers strips) s → HasWholeRuns cells s
  whole s strip y h =
      let run = strip.rows.inside y h in
      record {
        nonempty = run.nonempty;
        inside = λ x k. (same x y).0 (run.inside x k);
        before = λ c. run.before ((same _ y).1 c);
        after = λ c. run.after ((same _ y).1 c);
      }

  apart : AllPairs AreDisjoint strips
  apart i j d h l x y a b =
      let p = get_or strips i d in
      let q = get_or strips j d in
      let s : IsStripOf (Covers strips) p = stacked.each i d (omega arith) in
      let t : IsStripOf (Covers strips) q = stacked.each j d l in
      let columns = one_run (row_of (Covers strips) y) p.left p.right q.left q.right x (s.rows.inside y a.row) (t.rows.inside y b.row) a.column b.column in
      let rows : IsRun (HasRun (Covers strips) p.left p.right) q.bottom q.top =
      subst (λ z. IsRun (HasRun (Covers strips) z p.right) q.bottom q.top) (sym columns.0) (subst (λ z. IsRun (HasRun (Covers strips) q.left z) q.bottom q.top) (sym columns.1) t.rows) in
      let ends = one_run (HasRun (Covers strips) p.left p.right) p.bottom p.top q.bottom q.top y s.rows rows a.row b.row in
      one_place strips stacked i j d (omega arith) l ends.1 columns.0 columns.1 (omega arith)

  unstacked : (a b : Rectangle) → Contains strips a → Contains strips b → (a.top ≡ b.bottom) → (a.left ≡ b.left) → (a.right ≡ b.right) → ⊥
  unstacked a b c d top left right =
      let s : IsStripOf (Covers strips) a = All-contains (IsStripOf (Covers strips)) strips a stacked.each c in
      let t : IsStripOf (Covers strips) b = All-contains (IsStripOf (Covers strips)) strips b stacked.each d in
      let run : HasRun (Covers strips) b.left b.right b.bottom = t.rows.inside b.bottom (first_place b.bottom b.top t.rows.nonempty) in
      s.rows.after (subst (HasRun (Covers strips) a.left a.right) (sym top) (subst (λ z. HasRun (Covers strips) z a.right b.bottom) (sym left) (subst (λ z. HasRun (Covers strips) b.left z b.bottom) (sym right) run)))

  pub all_strips : AreAllStrips cells strips
  all_strips = record {
    nonempty = λ k d h. let s = stacked.each k d h in record { across = strip_across (Covers strips) _ s; upwards = strip_upwards (Covers strips) _ s };
    same_cells = λ x y. ((same x y).1, (same x y).0);
    once = apart;
    whole_runs = λ k d h. whole _ (stacked.each k d h);
    unstacked = unstacked;
    in_order = stacked.in_order;
  }

module _ (cells : ℤ → ℤ → Type 0) (most : ℕ) where
  -- no strips below all cells
  pub built_from : (height : ℤ) (pile : Pile) → pile.kept ≡ [] → pile.count ≡ 0 → pile.going ≡ [] → ((x y : ℤ) → cells x y → height ≤ℤ y) → IsBuiltTo cells most height pile
  built_from height pile kept count going above = record {
    strips = [];
    told = [];
    of = record {
      keeps = record { kept_first = kept ∙ sym (take_all most [] (omega arith)); counted = omega (arith, count) };
      tells = going;
      stacked = record { each = λ k d h. absurd (omega arith); in_order = λ i j d h l. absurd (omega arith) };
      below = λ k d h. absurd (omega arith);
      ends = record { each = λ k d h. absurd (omega arith); every = λ k h. absurd (omega arith); across = λ i j d h l. absurd (omega arith) };
    };
    covers = λ x y. (λ c. absurd (omega (arith, c.1.1)), λ c. let low = above x y c.0 in absurd (omega (arith, ints, c.1)));
  }

  -- a slab is passed
  pub built_on : (height bottom top : ℤ) (before after : Pile) → IsBuiltTo cells most height before → height ≤ℤ bottom → bottom <ℤ top
      → ((x y : ℤ) → Within height bottom y → cells x y → ⊥)
      → (line : ℤ → Type 0) → ((x y : ℤ) → Within bottom top y → cells x y ↔ line x)
      → (pieces : List Rectangle) → ArePieces line bottom top pieces → PutsRow most pieces before after → IsBuiltTo cells most top after
  built_on height bottom top before after built onward some free line same pieces are puts =
      let row = puts built.strips height bottom top built.told built.of onward some are.row in
      record {
        strips = row.more;
        told = row.opened;
        of = row.of;
        covers = λ x y. (
          λ c. elim ((row.covers x y).0 c) [
            | inl h ↦ let was = (built.covers x y).0 h in (was.0, omega (arith, ints, was.1))
            | inr h ↦
                let rows : (h.0.bottom ≡ bottom) × (h.0.top ≡ top) = All-contains (λ (p : Rectangle). (p.bottom ≡ bottom) × (p.top ≡ top)) pieces h.0 are.row.rows h.1 in
                let run : IsRun line h.0.left h.0.right = All-contains (λ (p : Rectangle). IsRun line p.left p.right) pieces h.0 are.runs h.1 in
                let at : Within bottom top y = within _ _ _ (omega (arith, ints, rows.0, h.2.row.from)) (omega (arith, ints, rows.1, h.2.row.to)) in
                ((same x y at).1 (run.inside x h.2.column), at.to)
          ],
          λ c. (row.covers x y).1 (
              by_lt_z y height
              (λ l. inl ((built.covers x y).1 (c.0, l)))
              (λ l. by_lt_z y bottom
              (λ k. absurd (free x y (within _ _ _ l k) c.0))
              (λ k.
              let p = are.every x ((same x y (within _ _ _ k c.1)).0 c.0) in
              let rows : (p.piece.bottom ≡ bottom) × (p.piece.top ≡ top) = All-contains (λ (p : Rectangle). (p.bottom ≡ bottom) × (p.top ≡ top)) pieces p.piece are.row.rows p.listed in
              inr (p.piece, p.listed, record { column = p.within; row = within _ _ _ (omega (arith, ints, rows.0)) (omega (arith, ints, rows.1, c.1)) })))),
        );
      }

  -- all cells lie below
  pub built_whole : (height : ℤ) (pile : Pile) → IsBuiltTo cells most height pile → ((x y : ℤ) → cells x y → y <ℤ height) → AreFirstStrips cells most pile.kept pile.count
  built_whole height pile built below = record {
    all = built.strips;
    all_strips = all_strips cells built.strips built.of.stacked (λ x y. (λ c. ((built.covers x y).0 c).0, λ c. (built.covers x y).1 (c, below x y c)));
    kept_first = built.of.keeps.kept_first;
    counted = built.of.keeps.counted;
  }

-- the strips of cells are those of the same cells
pub all_strips_of_same : (cells others : ℤ → ℤ → Type 0) → ((x y : ℤ) → cells x y ↔ others x y) → (strips : List Rectangle) → AreAllStrips cells strips → AreAllStrips others strips
all_strips_of_same cells others same strips are = record {
  nonempty = are.nonempty;
  same_cells = λ x y. (λ c. (are.same_cells x y).0 ((same x y).1 c), λ c. (same x y).0 ((are.same_cells x y).1 c));
  once = are.once;
  whole_runs = λ k d h y at.
      let run = are.whole_runs k d h y at in
      record {
        nonempty = run.nonempty;
        inside = λ x w. (same x y).0 (run.inside x w);
        before = λ c. run.before ((same _ y).1 c);
        after = λ c. run.after ((same _ y).1 c);
      };
  unstacked = are.unstacked;
  in_order = are.in_order;
}

pub first_strips_of_same : (cells others : ℤ → ℤ → Type 0) → ((x y : ℤ) → cells x y ↔ others x y) → (most : ℕ) (kept : List Rectangle) (count : ℕ)
    → AreFirstStrips cells most kept count → AreFirstStrips others most kept count
first_strips_of_same cells others same most kept count are = record {
  all = are.all;
  all_strips = all_strips_of_same cells others same are.all are.all_strips;
  kept_first = are.kept_first;
  counted = are.counted;
}

-- where fewer are kept than may be, all are
pub all_kept : (cells : ℤ → ℤ → Type 0) (most : ℕ) (kept : List Rectangle) (count : ℕ) → length kept < most → AreFirstStrips cells most kept count → AreAllStrips cells kept
all_kept cells most kept count few are =
    let long : length kept ≡ min most (length are.all) = ap length are.kept_first ∙ length-take most are.all in
    subst (AreAllStrips cells) (sym (are.kept_first ∙ take_all most are.all (omega arith))) are.all_strips
