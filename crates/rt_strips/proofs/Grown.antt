-- Cells that grow by a rectangle above them, or above and to the right of them: which strips they then have.
use Rattle.std.proofs.Common.{◌≡◌, ℤ, pos, ◌+ℤ◌, ◌-ℤ◌, ◌≤ℤ◌, ◌<ℤ◌, ◌⊎◌, sym, subst, arith, inl, inr}
use Rattle.std.proofs.lemmas.Int.{ints, by_lt_z}
use Rattle.std.proofs.Math.Logic.{◌↔◌}
use Rattle.rt_cells.specs.Line.{Within}
use Rattle.rt_cells.specs.Cells.{row_of}
use Rattle.rt_cells.specs.Rectangles.{Rectangle, IsNonempty, Holds}
use Rattle.rt_cells.proofs.Lines.{within, first_place, last_place, not_after, antisymmetric}
pub use Rattle.rt_cells.proofs.Lines.{one_run}
use Rattle.rt_strips.specs.Stacks.{HasRun, IsStripOf, raised}

-- the strip lies behind the piece: it ends at the piece's bottom or below it, or else by its top and to the left of it
pub record IsBehind (s q : Rectangle) : Type 0 where
  pub begins : s.bottom ≤ℤ q.bottom
  pub ends : (s.top ≤ℤ q.bottom) ⊎ ((s.top ≤ℤ q.top) × (s.right <ℤ q.left))

-- the cells lie below the piece, or to the left of it and not next to it
pub record AreBehind (cells : ℤ → ℤ → Type 0) (q : Rectangle) : Type 0 where
  pub behind : (x y : ℤ) → cells x y → (y <ℤ q.bottom) ⊎ ((y <ℤ q.top) × ((x +ℤ pos 1) <ℤ q.left))

module _ (cells more : ℤ → ℤ → Type 0) (q : Rectangle) (some : IsNonempty q) (grow : (x y : ℤ) → more x y ↔ (cells x y ⊎ Holds q x y)) (behind : AreBehind cells q) where
  kept : (x y : ℤ) → cells x y → more x y
  kept x y c = (grow x y).1 (inl c)

  not_in_row : (x y : ℤ) → y <ℤ q.bottom → more x y → cells x y
  not_in_row x y l m = elim ((grow x y).0 m) [ inl c ↦ c | inr h ↦ absurd (omega (arith, ints, h.row.from)) ]

  not_in_column : (x y : ℤ) → x <ℤ q.left → more x y → cells x y
  not_in_column x y l m = elim ((grow x y).0 m) [ inl c ↦ c | inr h ↦ absurd (omega (arith, ints, h.column.from)) ]

  -- rows below the piece have the runs that they had
  below : (y a b : ℤ) → y <ℤ q.bottom → HasRun cells a b y → HasRun more a b y
  below y a b l r = record {
    nonempty = r.nonempty;
    inside = λ x h. kept x y (r.inside x h);
    before = λ m. r.before (not_in_row _ y l m);
    after = λ m. r.after (not_in_row _ y l m);
  }

  below_back : (y a b : ℤ) → y <ℤ q.bottom → HasRun more a b y → HasRun cells a b y
  below_back y a b l r = record {
    nonempty = r.nonempty;
    inside = λ x h. not_in_row x y l (r.inside x h);
    before = λ c. r.before (kept _ y c);
    after = λ c. r.after (kept _ y c);
  }

  -- so has any row to the left of it
  aside : (y a b : ℤ) → b <ℤ q.left → HasRun cells a b y → HasRun more a b y
  aside y a b l r = record {
    nonempty = r.nonempty;
    inside = λ x h. kept x y (r.inside x h);
    before = λ m. r.before (not_in_column _ y (omega (arith, ints, r.nonempty)) m);
    after = λ m. r.after (not_in_column _ y l m);
  }

  aside_back : (y a b : ℤ) → b <ℤ q.left → HasRun more a b y → HasRun cells a b y
  aside_back y a b l r = record {
    nonempty = r.nonempty;
    inside = λ x h. not_in_column x y (omega (arith, ints, h.to)) (r.inside x h);
    before = λ c. r.before (kept _ y c);
    after = λ c. r.after (kept _ y c);
  }

  none_at : (x y : ℤ) → q.bottom ≤ℤ y → q.left ≤ℤ (x +ℤ pos 1) → cells x y → ⊥
  none_at x y l h c = elim (behind.behind x y c) [ inl k ↦ omega (arith, ints) | inr k ↦ omega (arith, ints, k.1) ]

  -- the piece's rows have its columns as a run
  piece_run : (y : ℤ) → Within q.bottom q.top y → HasRun more q.left q.right y
  piece_run y h = record {
    nonempty = some.across;
    inside = λ x k. (grow x y).1 (inr (record { column = k; row = h }));
    before = λ m. none_at _ y h.from (omega (arith, ints)) (not_in_column _ y (omega (arith, ints)) m);
    after = λ m. elim ((grow q.right y).0 m) [ inl c ↦ none_at _ y h.from (omega (arith, ints, some.across)) c | inr k ↦ not_after _ _ k.column ];
  }

  -- a run of its bottom row that reaches it is it
  reaches : (a b : ℤ) → q.left ≤ℤ b → HasRun more a b q.bottom → (a ≡ q.left) × (b ≡ q.right)
  reaches a b l r =
      let at = b -ℤ pos 1 in
      let row = first_place q.bottom q.top some.upwards in
      elim ((grow at q.bottom).0 (r.inside at (last_place a b r.nonempty))) [
        | inl c ↦ absurd (none_at at q.bottom (omega (arith, ints)) (omega (arith, ints)) c)
        | inr k ↦ one_run (row_of more q.bottom) a b q.left q.right at r (piece_run q.bottom row) (last_place a b r.nonempty) k.column
      ]

  -- the row at its top has no run
  none_above : (a b : ℤ) → HasRun more a b q.top → ⊥
  none_above a b r = elim ((grow a q.top).0 (r.inside a (first_place a b r.nonempty))) [
    | inl c ↦ elim (behind.behind a q.top c) [ inl k ↦ omega (arith, ints, some.upwards) | inr k ↦ omega (arith, ints, k.0) ]
    | inr k ↦ not_after _ _ k.row
  ]

  -- a strip that doesn't end under it at its columns stays a strip
  pub still_strip : (s : Rectangle) → IsStripOf cells s → IsBehind s q → (s.top ≡ q.bottom → s.left ≡ q.left → s.right ≡ q.right → ⊥) → IsStripOf more s
  still_strip s strip at other =
      let rows = strip.rows in
      record {
        rows = record {
          nonempty = rows.nonempty;
          inside = λ y h. elim at.ends [
            | inl l ↦ below y s.left s.right (omega (arith, ints, h.to)) (rows.inside y h)
            | inr l ↦ aside y s.left s.right l.1 (rows.inside y h)
          ];
          before = λ r. rows.before (below_back _ s.left s.right (omega (arith, ints, at.begins)) r);
          after = λ r. elim at.ends [
            | inl l ↦
                by_lt_z s.top q.bottom
                (λ k. rows.after (below_back _ s.left s.right k r))
                (λ k.
                let e : s.top ≡ q.bottom = antisymmetric _ _ l k in
                by_lt_z s.right q.left
                (λ m. rows.after (aside_back _ s.left s.right m r))
                (λ m.
                let same = reaches s.left s.right m (subst (HasRun more s.left s.right) e r) in
                other e same.0 same.1))
            | inr l ↦ rows.after (aside_back _ s.left s.right l.1 r)
          ];
        };
      }

  -- a strip that does is raised
  pub raised_strip : (s : Rectangle) → IsStripOf cells s → s.top ≡ q.bottom → s.left ≡ q.left → s.right ≡ q.right → IsStripOf more (raised s q.top)
  raised_strip s strip top left right =
      let rows = strip.rows in
      record {
        rows = record {
          nonempty = omega (arith, ints, rows.nonempty, some.upwards);
          inside = λ y h.
              by_lt_z y q.bottom
              (λ l. below y s.left s.right l (rows.inside y (within _ _ _ h.from (omega (arith, ints)))))
              (λ l. subst (λ a. HasRun more a s.right y) (sym left) (subst (λ b. HasRun more q.left b y) (sym right) (piece_run y (within _ _ _ l h.to))));
          before = λ r. rows.before (below_back _ s.left s.right (omega (arith, ints, rows.nonempty)) r);
          after = none_above s.left s.right;
        };
      }

  -- a piece on no strip of its columns is a strip
  pub new_strip : ¬ HasRun cells q.left q.right (q.bottom -ℤ pos 1) → IsStripOf more q
  new_strip none = record {
    rows = record {
      nonempty = some.upwards;
      inside = piece_run;
      before = λ r. none (below_back _ q.left q.right (omega (arith, ints)) r);
      after = none_above q.left q.right;
    };
  }
