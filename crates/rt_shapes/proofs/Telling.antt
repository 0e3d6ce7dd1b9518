-- What a table of bare cells tells, and what is found by it.
use Rattle.std.proofs.Common.{◌≡◌, ◌≢◌, ℕ, ◌+◌, ◌-◌, ◌<◌, ◌≤◌, Bool, true, false, not, List, [], ◌∷◌, ◌++◌, Option, None, Some, length, get_or, map, sym, subst, ap, refl, ◌∙◌, arith, inl, inr}
use Rattle.std.specs.Bool.{MatchBool}
use Rattle.std.specs.Option.{MatchOption}
use Rattle.std.proofs.lemmas.List.{get_or_default, get_or_append_left, get_or-append_right, get_or-map, length-append, length-map}
use Rattle.rt_cells.specs.Rectangles.{Rectangle}
use Rattle.rt_cells.proofs.Lines.{first_place}
use Rattle.rt_cells.proofs.Numbers.{last_or_before}
use Rattle.rt_base.specs.declared.plane.Cell.{Cell}
use Rattle.rt_base.specs.declared.plane.Rect.{Rect}
use Rattle.rt_base.specs.Plane.{area}
use Rattle.rt_tech.specs.declared.table.Mask.{Mask}
use Rattle.rt_tech.specs.declared.table.Tech.{Tech}
use Rattle.rt_strips.specs.declared.listing.Strip.{Strip}
use Rattle.rt_strips.specs.Placed.{Placed, placed, mask_of, covered_by, no_strip}
use Rattle.rt_strips.specs.Standing.{IsStrip}
use Rattle.rt_cover.specs.Covering.{IsWhole, IsMissing, AreMissing, found_at}
use Rattle.rt_pieces.specs.Members.{box_of}
use Rattle.rt_pieces.proofs.Families.{held_alike}
use Rattle.rt_view.specs.Shapes.{IsCut}
use Rattle.rt_shapes.specs.Cutting.{cells_by, place_of, bare_at, AreBareCells, IsCutAt}
use Rattle.rt_shapes.specs.Sides.{CoversStrip, HasUpper, LacksUpper, IsLowerAt, LacksLower, IsOnlyOne, IsBareTable}
use Rattle.rt_shapes.proofs.UpperLower.{upper_told, upper_is, lower_listed, lower_told, AreLowersBefore}

module _ (strips : List Placed) (table : List (List (Option Cell))) (is : IsBareTable strips table) (m i : ℕ) where
  -- a mask that isn't one of the table covers no strip
  pub past_table : IsStrip strips i → length table ≤ m → ¬ CoversStrip strips i m
  past_table strip past whole =
      let full = is.nonempty i strip in
      let c = whole.covered _ _ (record { column = first_place _ _ full.across; row = first_place _ _ full.upwards }) in
      omega (arith, past, is.of_masks.each c.number c.holds.strip.strip, c.holds.strip.mask)

  module _ (row : List (Option Cell)) (below : m < length table) (at : row ≡ get_or table m row) where
    row_is : get_or table m [] ≡ row
    row_is = get_or_default table m [] row below ∙ sym at

    -- a row has a place for each strip
    pub row_length : length row ≡ length strips
    row_length = subst (λ (r : List (Option Cell)). length r ≡ length strips) row_is (is.cells.rows m below)

    none_or_bare : (o : Option Cell) → MatchOption o (CoversStrip strips i m) (IsMissing (cells_by strips m) (box_of strips i)) → (v : Bool)
        → MatchBool v (o ≡ None) (o ≢ None) → MatchBool v (CoversStrip strips i m) (¬ CoversStrip strips i m)
    none_or_bare None whole true e = whole
    none_or_bare None whole false n = absurd (n refl)
    none_or_bare (Some p) bare true e = absurd (no_some e)
      where
        no_some : Some p ≡ None → ⊥
        no_some e = cc
    none_or_bare (Some p) bare false n = λ whole. bare.bare (whole.covered p.x p.y bare.inside)

    -- no cell is told exactly where the mask covers the strip
    pub covers_told : i < length strips → (v : Bool) → MatchBool v (found_at row i ≡ None) (found_at row i ≢ None) → MatchBool v (CoversStrip strips i m) (¬ CoversStrip strips i m)
    covers_told h v told =
        none_or_bare (found_at row i)
        (subst (λ (r : List (Option Cell)). MatchOption (found_at r i) (CoversStrip strips i m) (IsMissing (cells_by strips m) (box_of strips i))) row_is (is.cells.each m i below h))
        v told

-- some strip of a list that has one
pub some_strip : (list : List Strip) (i : ℕ) → i < length list → Strip
some_strip [] i h = absurd (omega (arith, h))
some_strip (strip ∷ list) i h = strip

-- a row more
module _ (list : List Strip) (places : List Rect) (are : places ≡ map place_of list) (n : ℕ) (table : List (List (Option Cell))) (row : List (Option Cell))
    (before : AreBareCells (map placed list) n table) (missing : AreMissing (covered_by n (map placed list)) places row) where
  abbrev strips : List Placed
  strips = map placed list

  here : get_or (table ++ row ∷ []) n [] ≡ row
  here =
      get_or-append_right table (row ∷ []) n n [] before.counted (omega arith)
      ∙ ap (λ k. get_or (row ∷ []) k []) (none_left n)
    where
      none_left : (k : ℕ) → k - k ≡ 0
      none_left k = omega arith

  there : (l : ℕ) → l < n → get_or (table ++ row ∷ []) l [] ≡ get_or table l []
  there l h = get_or_append_left table (row ∷ []) [] l (omega (arith, h, before.counted))

  counted_row : length row ≡ length strips
  counted_row = missing.counted ∙ ap length are ∙ length-map list place_of ∙ sym (length-map list placed)

  as_strip : (i : ℕ) → i < length list → (d : Strip) → area (get_or places i d.at) ≡ box_of strips i
  as_strip i h d =
      ap (λ (xs : List Rect). area (get_or xs i d.at)) are ∙ ap area (get_or-map place_of list i d d.at h) ∙ sym (ap (λ (p : Placed). p.area) (get_or-map placed list i d no_strip h))

  by_strips : (o : Option Cell) (r : Rectangle) → MatchOption o (IsWhole (covered_by n strips) r) (IsMissing (covered_by n strips) r)
      → MatchOption o (IsWhole (cells_by strips n) r) (IsMissing (cells_by strips n) r)
  by_strips None r whole = record { covered = λ x y h. (held_alike n strips).from x y (whole.covered x y h) }
  by_strips (Some p) r bare = record { inside = bare.inside; bare = λ c. bare.bare ((held_alike n strips).to p.x p.y c) }

  new_row : (i : ℕ) → i < length strips → MatchOption (found_at row i) (IsWhole (cells_by strips n) (box_of strips i)) (IsMissing (cells_by strips n) (box_of strips i))
  new_row i h =
      let inside : i < length list = omega (arith, h, length-map list placed) in
      let d = some_strip list i inside in
      by_strips (found_at row i) (box_of strips i)
      (subst (λ (r : Rectangle). MatchOption (found_at row i) (IsWhole (covered_by n strips) r) (IsMissing (covered_by n strips) r)) (as_strip i inside d)
      (missing.each i d.at (omega (arith, h, counted_row, missing.counted))))

  pub bare_more : AreBareCells (map placed list) (n + 1) (table ++ row ∷ [])
  bare_more = record {
    counted = length-append table (row ∷ []) ∙ ap (λ k. k + 1) before.counted;
    rows = λ l h. elim (last_or_before n l h) [
      | inl e ↦ subst (λ (r : List (Option Cell)). length r ≡ length strips) (sym (ap (λ k. get_or (table ++ row ∷ []) k []) e ∙ here)) counted_row
      | inr less ↦ subst (λ (r : List (Option Cell)). length r ≡ length strips) (sym (there l less)) (before.rows l less)
    ];
    each = λ l i h inside. elim (last_or_before n l h) [
      | inl e ↦
          subst (λ k. MatchOption (bare_at (table ++ row ∷ []) k i) (IsWhole (cells_by strips k) (box_of strips i)) (IsMissing (cells_by strips k) (box_of strips i))) (sym e)
          (subst (λ (r : List (Option Cell)). MatchOption (found_at r i) (IsWhole (cells_by strips n) (box_of strips i)) (IsMissing (cells_by strips n) (box_of strips i))) (sym here)
          (new_row i inside))
      | inr less ↦
          subst (λ (r : List (Option Cell)). MatchOption (found_at r i) (IsWhole (cells_by strips l) (box_of strips i)) (IsMissing (cells_by strips l) (box_of strips i)))
          (sym (there l less)) (before.each l i less inside)
    ];
  }

module _ (tech : Tech) (strips : List Placed) (i : ℕ) (mask : Mask) (strip : IsStrip strips i) (cut : IsCutAt tech (mask_of strips i) mask) where
  -- of a strip of a cut the upper mask tells
  pub upper_by : (v : Bool) → MatchBool v (CoversStrip strips i mask.upper) (¬ CoversStrip strips i mask.upper) → MatchBool (not v) (LacksUpper tech strips i) (HasUpper tech strips i)
  upper_by true whole = record {
    covered = λ u upper. subst (CoversStrip strips i) (upper_is tech (mask_of strips i) mask cut.there cut.of_role u upper) whole;
  }
  upper_by false bare = record {
    upper = mask.upper;
    strip = strip;
    is_upper = upper_told tech (mask_of strips i) mask cut.there cut.of_role;
    bare = bare;
  }

  is_cut : IsCut tech (mask_of strips i)
  is_cut = record { mask = mask; there = cut.there; of_role = cut.of_role }

  -- and the one of the listed masks
  pub lower_by : (o : Option ℕ) → MatchOption o ((l : ℕ) → ¬ IsOnlyOne strips i mask.lowers l) (IsOnlyOne strips i mask.lowers)
      → MatchOption o (LacksLower tech strips i) (IsLowerAt tech strips i)
  lower_by None none = record {
    strip = strip;
    cut = is_cut;
    none = λ l stands. none l (record {
      one = record { listed = lower_listed tech (mask_of strips i) mask cut.there cut.of_role l stands.lower; whole = stands.whole };
      alone = record { none = λ k listed whole. stands.alone k (lower_told tech (mask_of strips i) mask cut.there cut.of_role k listed) whole };
    });
  }
  lower_by (Some l) only = record {
    of_cut = λ _. record {
      lower = lower_told tech (mask_of strips i) mask cut.there cut.of_role l only.one.listed;
      whole = only.one.whole;
      alone = λ k lower whole. only.alone.none k (lower_listed tech (mask_of strips i) mask cut.there cut.of_role k lower) whole;
    };
    of_other = λ other. absurd (other is_cut);
  }

-- a strip more has its lower mask
pub lower_more : (tech : Tech) (strips : List Placed) (n : ℕ) (lowers : List ℕ) (l : ℕ) → AreLowersBefore tech strips n lowers → IsLowerAt tech strips n l
    → AreLowersBefore tech strips (n + 1) (lowers ++ l ∷ [])
lower_more tech strips n lowers l before is =
    let here : get_or (lowers ++ l ∷ []) n 0 ≡ l =
    get_or-append_right lowers (l ∷ []) n n 0 before.counted (omega arith) ∙ ap (λ k. get_or (l ∷ []) k 0) (none_left n) in
    record {
      counted = length-append lowers (l ∷ []) ∙ ap (λ k. k + 1) before.counted;
      each = λ k h. elim (last_or_before n k h) [
        | inl e ↦ subst (λ j. IsLowerAt tech strips j (get_or (lowers ++ l ∷ []) j 0)) (sym e) (subst (IsLowerAt tech strips n) (sym here) is)
        | inr less ↦ subst (IsLowerAt tech strips k) (sym (get_or_append_left lowers (l ∷ []) 0 k (omega (arith, less, before.counted)))) (before.each k less)
      ];
    }
  where
    none_left : (k : ℕ) → k - k ≡ 0
    none_left k = omega arith
