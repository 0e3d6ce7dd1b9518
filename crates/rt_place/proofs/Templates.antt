-- The rows of a template along an axis, over so many strips, whichever the template is: they are differences that have least positions.
use Rattle.std.proofs.Common.{◌≡◌, ℕ, zero, suc, ◌<◌, ◌≤◌, ℤ, pos, negsuc, ◌≤ℤ◌, ◌⊎◌, List, [], ◌∷◌, length, map, Some, None, All, AllPairs, Contains, refl, sym, ap, ◌∙◌, subst, subst₂, arith, inl, inr}
use Rattle.std.proofs.lemmas.List.{get_or-map, length-map}
use Rattle.std.proofs.lemmas.List.Elements.{All-contains, All-contains_itself}
use Rattle.rt_base.specs.declared.plane.Axis.{Axis}
use Rattle.rt_base.specs.declared.plane.Axis.TheVariants.{Across, Upwards}
use Rattle.rt_rows.specs.declared.name.Name.{Name}
use Rattle.rt_rows.specs.declared.row.Var.{Var}
use Rattle.rt_rows.specs.declared.row.Term.{Term}
use Rattle.rt_rows.specs.declared.row.Row.{Row}
use Rattle.rt_rows.specs.declared.positions.TheConstants.{EXTENT_LIMIT}
use Rattle.rt_rows.specs.Rows.{MeetsRow, at_least, at_most, beyond}
use Rattle.rt_rows.specs.Order.{Place}
use Rattle.rt_proofs.specs.Forms.{kind_of, strip_of}
use Rattle.rt_path.specs.Longest.{low, high, extent, IsOfAxis, IsNear, IsDifference, HasRow, Mentions, NamesStrip, IsHeld, AreDifferences, MeetsEachRow}
use Rattle.rt_place.specs.Placing.{HoldsRows}

-- a variable of the axis, of a strip of so many, or the extent
pub data IsOfStrips (axis : Axis) (count : ℕ) (v : Var) : Type 0 where
  is_low : (i : ℕ) → i < count → v ≡ low axis i → IsOfStrips axis count v
  is_high : (i : ℕ) → i < count → v ≡ high axis i → IsOfStrips axis count v
  is_extent : v ≡ extent axis → IsOfStrips axis count v

-- a difference over such variables
pub data IsRowOf (axis : Axis) (count : ℕ) (row : Row) : Type 0 where
  bounds_below : (v : Var) (n : ℤ) → IsOfStrips axis count v → IsNear n → row ≡ at_least v n → IsRowOf axis count row
  bounds_above : (v : Var) (n : ℤ) → IsOfStrips axis count v → IsNear n → row ≡ at_most v n → IsRowOf axis count row
  keeps_beyond : (u v : Var) (n : ℤ) → IsOfStrips axis count u → IsOfStrips axis count v → IsNear n → row ≡ beyond u v n → IsRowOf axis count row

-- places with the same parts are one
abbrev place : ℕ → ℕ → ℕ → ℕ → Place
place kind first second third = record { kind = kind; first = first; second = second; third = third }

pub same_place : (p q : Place) → p.kind ≡ q.kind → p.first ≡ q.first → p.second ≡ q.second → p.third ≡ q.third → p ≡ q
same_place p q a b c d =
    ap (λ (n : ℕ). place n p.first p.second p.third) a ∙ ap (λ (n : ℕ). place q.kind n p.second p.third) b ∙ ap (λ (n : ℕ). place q.kind q.first n p.third) c
    ∙ ap (λ (n : ℕ). place q.kind q.first q.second n) d

-- what the templates have in common
pub record IsTemplate (axis : Axis) (count : ℕ) (template : Name → Row → Type 0) : Type 0 where
  pub each : (name : Name) (row : Row) → template name row → IsRowOf axis count row
  pub zero : (name : Name) × template name (at_least (extent axis) (pos 0))
  pub top : (name : Name) × template name (at_most (extent axis) EXTENT_LIMIT)
  pub begins : (i : ℕ) → i < count → (name : Name) × template name (at_least (low axis i) (pos 0))
  pub wide : (i : ℕ) → i < count → (width : ℤ) × (pos 1 ≤ℤ width) × (name : Name) × template name (beyond (low axis i) (high axis i) width)
  pub ends : (i : ℕ) → i < count → (name : Name) × template name (beyond (high axis i) (extent axis) (pos 0))

-- what holds of each that is listed holds of all
pub all_listed : {X : Type 0} → (P : X → Type 0) (xs : List X) → ((x : X) → Contains xs x → P x) → All P xs
all_listed P xs f i d h = f _ (All-contains_itself xs i d h)

-- the terms that a row mentions
same_term : (t u : Term) → Some t ≡ Some u → t ≡ u
same_term t u e = cc

no_term : (u : Term) → None ≡ Some u → ⊥
no_term u e = cc

one_mentioned : (t term : Term) → Contains (Some t ∷ None ∷ None ∷ []) (Some term) → t ≡ term
one_mentioned t term (zero, h, e) = same_term t term e
one_mentioned t term (suc zero, h, e) = absurd (no_term term e)
one_mentioned t term (suc (suc zero), h, e) = absurd (no_term term e)
one_mentioned t term (suc (suc (suc k)), h, e) = absurd (omega (arith, h))

two_mentioned : (t u term : Term) → Contains (Some t ∷ Some u ∷ None ∷ []) (Some term) → (t ≡ term) ⊎ (u ≡ term)
two_mentioned t u term (zero, h, e) = inl (same_term t term e)
two_mentioned t u term (suc zero, h, e) = inr (same_term u term e)
two_mentioned t u term (suc (suc zero), h, e) = absurd (no_term term e)
two_mentioned t u term (suc (suc (suc k)), h, e) = absurd (omega (arith, h))

-- the strip and the kind of a side
strip_of_low : (axis : Axis) (i : ℕ) → strip_of (low axis i) ≡ i
strip_of_low Across i = refl
strip_of_low Upwards i = refl

strip_of_high : (axis : Axis) (i : ℕ) → strip_of (high axis i) ≡ i
strip_of_high Across i = refl
strip_of_high Upwards i = refl

low_kind : (axis : Axis) (i : ℕ) → kind_of (low axis i) < 4
low_kind Across i = omega arith
low_kind Upwards i = omega arith

high_kind : (axis : Axis) (i : ℕ) → kind_of (high axis i) < 4
high_kind Across i = omega arith
high_kind Upwards i = omega arith

extent_kind : (axis : Axis) → 4 ≤ kind_of (extent axis)
extent_kind Across = omega arith
extent_kind Upwards = omega arith

below_four : (a b : ℕ) → 4 ≤ a → b < 4 → a ≡ b → ⊥
below_four a b h g e = omega (arith, h, g, e)

-- what holds of all pairs of a list holds of all pairs of its image
pub pairs_mapped : {X Y : Type 0} → (f : X → Y) (R : Y → Y → Type 0) (xs : List X) → AllPairs (λ a b. R (f a) (f b)) xs → AllPairs R (map f xs)
pairs_mapped f R [] pairs i j d h g = absurd (omega (arith, g))
pairs_mapped f R (x ∷ xs) pairs i j d h g =
    let l : j < length (x ∷ xs) = subst (λ n. j < n) (length-map (x ∷ xs) f) g in
    subst₂ R (sym (get_or-map f (x ∷ xs) i x d (omega (arith, h, l)))) (sym (get_or-map f (x ∷ xs) j x d l)) (pairs i j x h l)

module _ (axis : Axis) (count : ℕ) where
  of_axis : (v : Var) → IsOfStrips axis count v → IsOfAxis axis v
  of_axis v (IsOfStrips.is_low i h e) = IsOfAxis.is_low i e
  of_axis v (IsOfStrips.is_high i h e) = IsOfAxis.is_high i e
  of_axis v (IsOfStrips.is_extent e) = IsOfAxis.is_extent e

  difference : (row : Row) → IsRowOf axis count row → IsDifference axis row
  difference row (IsRowOf.bounds_below v n h near e) = IsDifference.bounds_below v n (of_axis v h) near e
  difference row (IsRowOf.bounds_above v n h near e) = IsDifference.bounds_above v n (of_axis v h) near e
  difference row (IsRowOf.keeps_beyond u v n g h near e) = IsDifference.keeps_beyond u v n (of_axis u g) (of_axis v h) near e

  -- a variable that is a side of strip i is of a strip below the count
  below_by : (v w : Var) (i : ℕ) → IsOfStrips axis count v → v ≡ w → strip_of w ≡ i → kind_of w < 4 → i < count
  below_by v w i (IsOfStrips.is_low j h e) same is side = subst (λ (n : ℕ). n < count) (sym (strip_of_low axis j) ∙ ap strip_of (sym e ∙ same) ∙ is) h
  below_by v w i (IsOfStrips.is_high j h e) same is side = subst (λ (n : ℕ). n < count) (sym (strip_of_high axis j) ∙ ap strip_of (sym e ∙ same) ∙ is) h
  below_by v w i (IsOfStrips.is_extent e) same is side = absurd (below_four _ _ (extent_kind axis) side (ap kind_of (sym e ∙ same)))

  below_in : (row : Row) (term : Term) (w : Var) (i : ℕ) → IsRowOf axis count row → Contains row.terms (Some term) → term.var ≡ w → strip_of w ≡ i → kind_of w < 4 → i < count
  below_in row term w i (IsRowOf.bounds_below v n h near e) c same is side =
      below_by v w i h (ap (λ (t : Term). t.var) (one_mentioned _ term (subst (λ (r : Row). Contains r.terms (Some term)) e c)) ∙ same) is side
  below_in row term w i (IsRowOf.bounds_above v n h near e) c same is side =
      below_by v w i h (ap (λ (t : Term). t.var) (one_mentioned _ term (subst (λ (r : Row). Contains r.terms (Some term)) e c)) ∙ same) is side
  below_in row term w i (IsRowOf.keeps_beyond u v n g h near e) c same is side =
      elim (two_mentioned _ _ term (subst (λ (r : Row). Contains r.terms (Some term)) e c)) [
        | inl f ↦ below_by v w i h (ap (λ (t : Term). t.var) f ∙ same) is side
        | inr f ↦ below_by u w i g (ap (λ (t : Term). t.var) f ∙ same) is side
      ]

  module _ (template : Name → Row → Type 0) (is : IsTemplate axis count template) (rows : List (Name × Row)) (holds : HoldsRows template rows) where
    listed : (named : Name × Row) → Contains rows named → template named.0 named.1
    listed named c = (holds.exact named.0 named.1).0 c

    has_row : (row : Row) → (name : Name) × template name row → HasRow rows row
    has_row row (name, t) = (name, (holds.exact name row).1 t)

    -- the strips that the rows name are those below the count
    mentioned_below : (w : Var) (i : ℕ) → Mentions rows w → strip_of w ≡ i → kind_of w < 4 → i < count
    mentioned_below w i (Mentions.mentions named term c t e) s k = below_in named.1 term w i (is.each named.0 named.1 (listed named c)) t e s k

    pub named_below : (i : ℕ) → NamesStrip axis rows i → i < count
    named_below i (NamesStrip.by_low m) = mentioned_below (low axis i) i m (strip_of_low axis i) (low_kind axis i)
    named_below i (NamesStrip.by_high m) = mentioned_below (high axis i) i m (strip_of_high axis i) (high_kind axis i)

    pub mentions_low : (i : ℕ) → i < count → Mentions rows (low axis i)
    mentions_low i h =
        let found = has_row _ (is.begins i h) in
        Mentions.mentions (found.0, at_least (low axis i) (pos 0)) (record { var = low axis i; times = pos 1 }) found.1 (0, omega arith, refl) refl

    pub mentions_high : (i : ℕ) → i < count → Mentions rows (high axis i)
    mentions_high i h =
        let found = has_row _ (is.ends i h) in
        Mentions.mentions (found.0, beyond (high axis i) (extent axis) (pos 0)) (record { var = high axis i; times = negsuc 0 }) found.1 (1, omega arith, refl) refl

    pub mentions_extent : Mentions rows (extent axis)
    mentions_extent =
        let found = has_row _ is.zero in
        Mentions.mentions (found.0, at_least (extent axis) (pos 0)) (record { var = extent axis; times = pos 1 }) found.1 (0, omega arith, refl) refl

    pub names_strip : (i : ℕ) → i < count → NamesStrip axis rows i
    names_strip i h = NamesStrip.by_low (mentions_low i h)

    -- values meet the rows exactly where they meet the template
    pub all_met : (at : Var → ℤ) → ((name : Name) (row : Row) → template name row → MeetsRow at row) → MeetsEachRow rows at
    all_met at f = all_listed (λ (named : Name × Row). MeetsRow at named.1) rows (λ named c. f named.0 named.1 (listed named c))

    pub met_all : (at : Var → ℤ) → MeetsEachRow rows at → (name : Name) (row : Row) → template name row → MeetsRow at row
    met_all at m name row t = All-contains (λ (named : Name × Row). MeetsRow at named.1) rows (name, row) m ((holds.exact name row).1 t)

    held : (i : ℕ) → NamesStrip axis rows i → IsHeld axis rows i
    held i n =
        let h = named_below i n in
        record {
          begins = has_row _ (is.begins i h);
          wide = ((is.wide i h).0, (is.wide i h).1, has_row _ ((is.wide i h).2, (is.wide i h).3));
          ends = has_row _ (is.ends i h);
        }

    -- so they are differences that have least positions
    pub differences : AreDifferences axis rows
    differences = record {
      names = holds.once;
      each = all_listed (λ (named : Name × Row). IsDifference axis named.1) rows (λ named c. difference named.1 (is.each named.0 named.1 (listed named c)));
      zero = has_row _ is.zero;
      top = has_row _ is.top;
      held = held;
    }
