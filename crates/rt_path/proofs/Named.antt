-- Which variables and strips the rows name.
use Rattle.std.proofs.Common.{◌≡◌, ℕ, zero, suc, ◌<◌, ◌≤◌, max, pos, negsuc, List, [], ◌∷◌, Option, Some, None, map, Contains, All, slice_get, slice_index_or, refl, sym, ap, subst, ◌∙◌, ◌⊎◌, inl, inr, arith}
use Rattle.std.proofs.lemmas.Option.{none-some, same_Some, slice_get_within, get_or_from_slice_get}
use Rattle.rt_cells.proofs.Entries.{contains_at, contained_at}
use Rattle.rt_base.specs.declared.plane.Axis.{Axis}
use Rattle.rt_rows.specs.declared.name.Name.{Name}
use Rattle.rt_rows.specs.declared.row.Var.{Var}
use Rattle.rt_rows.specs.declared.row.Term.{Term}
use Rattle.rt_rows.specs.declared.row.Row.{Row}
use Rattle.rt_rows.specs.Rows.{at_least, at_most, beyond}
use Rattle.rt_path.specs.Longest.{low, high, IsOfAxis, IsDifference, Mentions, NamesStrip, CountsStrips}
use Rattle.rt_path.specs.Longest.IsOfAxis.{is_low, is_high, is_extent}
use Rattle.rt_path.specs.Longest.IsDifference.{bounds_below, bounds_above, keeps_beyond}
use Rattle.rt_path.specs.Longest.Mentions.{mentions}
use Rattle.rt_path.specs.Longest.NamesStrip.{by_low, by_high}
use Rattle.rt_path.specs.Steps.{strips_for, strips_for_term, strips_for_terms, strips_for_rows, HasThreeTerms, place_of, step_for}
use Rattle.rt_path.proofs.Places.{strips_low, strips_high, strips_extent, strips_within, three_terms}

pub all_at : {X : Type 0} (P : X → Type 0) (xs : List X) (k : ℕ) (x : X) → All P xs → slice_get xs k ≡ Some x → P x
all_at P xs k x all e = subst (λ y. P y) (get_or_from_slice_get xs k x x e) (all k x (slice_get_within xs k x e))

pub from_map : {X Y : Type 0} (f : X → Y) (xs : List X) (k : ℕ) (y : Y) → slice_get (map f xs) k ≡ Some y → (x : X) × (slice_get xs k ≡ Some x) × (f x ≡ y)
from_map f [] k y e = absurd (none-some y e)
from_map f (x ∷ xs) zero y e = (x, refl, same_Some (f x) y e)
from_map f (x ∷ xs) (suc k) y e = from_map f xs k y e

pub into_map : {X Y : Type 0} (f : X → Y) (xs : List X) (k : ℕ) (x : X) → slice_get xs k ≡ Some x → slice_get (map f xs) k ≡ Some (f x)
into_map f [] k x e = absurd (none-some x e)
into_map f (y ∷ xs) zero x e = ap (λ z. Some (f z)) (same_Some y x e)
into_map f (y ∷ xs) (suc k) x e = into_map f xs k x e

-- a row speaks of a variable
pub record Uses (row : Row) (v : Var) : Type 0 where
  pub term : Term
  pub has : Contains row.terms (Some term)
  pub is : term.var ≡ v

pub first_term : (row : Row) (term : Term) (terms : List (Option Term)) (v : Var) → row.terms ≡ Some term ∷ terms → term.var ≡ v → Uses row v
first_term row term terms v e f = record {
  term = term;
  has = contains_at row.terms 0 (Some term) (ap (λ ts. slice_get ts 0) e);
  is = f;
}

pub second_term : (row : Row) (before : Option Term) (term : Term) (terms : List (Option Term)) (v : Var) → row.terms ≡ before ∷ Some term ∷ terms → term.var ≡ v → Uses row v
second_term row before term terms v e f = record {
  term = term;
  has = contains_at row.terms 1 (Some term) (ap (λ ts. slice_get ts 1) e);
  is = f;
}

pub mentioned : (rows : List (Name × Row)) (k : ℕ) (named : Name × Row) (v : Var) → slice_get rows k ≡ Some named → Uses named.1 v → Mentions rows v
mentioned rows k named v e uses = mentions named uses.term (contains_at rows k named e) uses.has uses.is

-- a place that a row of differences goes between is the origin, or that of a variable of the axis that the row speaks of
pub data IsEnd (axis : Axis) (count : ℕ) (row : Row) (place : ℕ) : Type 0 where
  at_origin : place ≡ 0 → IsEnd axis count row place
  at_var : (v : Var) → IsOfAxis axis v → Uses row v → place ≡ place_of count v → IsEnd axis count row place

pub record HasEnds (axis : Axis) (count : ℕ) (named : Name × Row) : Type 0 where
  pub tail : IsEnd axis count named.1 (step_for count named).tail
  pub head : IsEnd axis count named.1 (step_for count named).head

pub ends : (axis : Axis) (count : ℕ) (name : Name) (row : Row) → IsDifference axis row → HasEnds axis count (name, row)
ends axis count name row (bounds_below v n of near e) =
    subst (λ r. HasEnds axis count (name, r)) (sym e) (record {
      tail = at_origin refl;
      head = at_var v of (first_term (at_least v n) (record { var = v; times = pos 1 }) (None ∷ None ∷ []) v refl refl) refl;
    })
ends axis count name row (bounds_above v n of near e) =
    subst (λ r. HasEnds axis count (name, r)) (sym e) (record {
      tail = at_var v of (first_term (at_most v n) (record { var = v; times = negsuc 0 }) (None ∷ None ∷ []) v refl refl) refl;
      head = at_origin refl;
    })
ends axis count name row (keeps_beyond u v n of_u of_v near e) =
    subst (λ r. HasEnds axis count (name, r)) (sym e) (record {
      tail = at_var u of_u (second_term (beyond u v n) (Some (record { var = v; times = pos 1 })) (record { var = u; times = negsuc 0 }) (None ∷ []) u refl refl) refl;
      head = at_var v of_v (first_term (beyond u v n) (record { var = v; times = pos 1 }) (Some (record { var = u; times = negsuc 0 }) ∷ None ∷ []) v refl refl) refl;
    })

-- a variable that is named has its strip among those that are counted
term_within : (terms : List (Option Term)) (k : ℕ) (term : Term) → slice_get terms k ≡ Some (Some term) → strips_for term.var ≤ strips_for_terms terms
term_within [] k term e = absurd (none-some (Some term) e)
term_within (first ∷ terms) zero term e =
    let is : first ≡ Some term = same_Some first (Some term) e in
    omega (arith, ap strips_for_term is)
term_within (first ∷ terms) (suc k) term e = omega (arith, term_within terms k term e)

pub mention_within : (rows : List (Name × Row)) (v : Var) → Mentions rows v → strips_for v ≤ strips_for_rows rows
mention_within rows v (mentions named term has in_terms is) =
    let row = contained_at rows named has in
    let at = contained_at named.1.terms (Some term) in_terms in
    omega (arith, term_within named.1.terms at.0 term at.1, strips_within rows row.0 named row.1, ap strips_for is)

pub name_within : (axis : Axis) (rows : List (Name × Row)) (i : ℕ) → NamesStrip axis rows i → i < strips_for_rows rows
name_within axis rows i (by_low m) = omega (arith, mention_within rows (low axis i) m, strips_low axis i)
name_within axis rows i (by_high m) = omega (arith, mention_within rows (high axis i) m, strips_high axis i)

-- the last strip that is counted is named
names_by : (axis : Axis) (rows : List (Name × Row)) (i : ℕ) (v : Var) → IsOfAxis axis v → Mentions rows v → strips_for v ≡ suc i → NamesStrip axis rows i
names_by axis rows i v (is_low j e) m s =
    let same : j ≡ i = omega (arith, s, ap strips_for e, strips_low axis j) in
    by_low (subst (λ w. Mentions rows w) (e ∙ ap (λ k. low axis k) same) m)
names_by axis rows i v (is_high j e) m s =
    let same : j ≡ i = omega (arith, s, ap strips_for e, strips_high axis j) in
    by_high (subst (λ w. Mentions rows w) (e ∙ ap (λ k. high axis k) same) m)
names_by axis rows i v (is_extent e) m s = absurd (omega (arith, s, ap strips_for e, strips_extent axis))

either_max : (a b n : ℕ) → max a b ≡ n → (a ≡ n) ⊎ (b ≡ n)
either_max a b n e = grind (arith, e)

last_row : (rows : List (Name × Row)) (i : ℕ) → strips_for_rows rows ≡ suc i → (k : ℕ) × (named : Name × Row) × (slice_get rows k ≡ Some named) × (strips_for_terms named.1.terms ≡ suc i)
last_row [] i e = absurd (omega (arith, e))
last_row (first ∷ rows) i e = step (last_row rows i) (either_max (strips_for_terms first.1.terms) (strips_for_rows rows) (suc i) e)
  where
    step : (strips_for_rows rows ≡ suc i → (k : ℕ) × (named : Name × Row) × (slice_get rows k ≡ Some named) × (strips_for_terms named.1.terms ≡ suc i))
        → (strips_for_terms first.1.terms ≡ suc i) ⊎ (strips_for_rows rows ≡ suc i)
        → (k : ℕ) × (named : Name × Row) × (slice_get (first ∷ rows) k ≡ Some named) × (strips_for_terms named.1.terms ≡ suc i)
    step ih (inl h) = (0, first, refl, h)
    step ih (inr h) = let r = ih h in (suc r.0, r.1, r.2, r.3)

names_last : (axis : Axis) (rows : List (Name × Row)) (i k : ℕ) (named : Name × Row) → slice_get rows k ≡ Some named → IsDifference axis named.1 → strips_for_terms named.1.terms ≡ suc i → NamesStrip axis rows i
names_last axis rows i k named at (bounds_below v n of near e) s =
    names_by axis rows i v of (mentioned rows k named v at (first_term named.1 (record { var = v; times = pos 1 }) (None ∷ None ∷ []) v (ap (λ r. r.terms) e) refl))
    (omega (arith, s, ap (λ r. strips_for_terms r.terms) e))
names_last axis rows i k named at (bounds_above v n of near e) s =
    names_by axis rows i v of (mentioned rows k named v at (first_term named.1 (record { var = v; times = negsuc 0 }) (None ∷ None ∷ []) v (ap (λ r. r.terms) e) refl))
    (omega (arith, s, ap (λ r. strips_for_terms r.terms) e))
names_last axis rows i k named at (keeps_beyond u v n of_u of_v near e) s =
    by_which (either_max (strips_for v) (strips_for u) (suc i) (omega (arith, s, ap (λ r. strips_for_terms r.terms) e)))
  where
    by_which : (strips_for v ≡ suc i) ⊎ (strips_for u ≡ suc i) → NamesStrip axis rows i
    by_which (inl h) =
        names_by axis rows i v of_v
        (mentioned rows k named v at (first_term named.1 (record { var = v; times = pos 1 }) (Some (record { var = u; times = negsuc 0 }) ∷ None ∷ []) v (ap (λ r. r.terms) e) refl)) h
    by_which (inr h) =
        names_by axis rows i u of_u
        (mentioned rows k named u at (second_term named.1 (Some (record { var = v; times = pos 1 })) (record { var = u; times = negsuc 0 }) (None ∷ []) u (ap (λ r. r.terms) e) refl)) h

pub counts : (axis : Axis) (rows : List (Name × Row)) → All (λ named. IsDifference axis named.1) rows → CountsStrips axis rows (strips_for_rows rows)
counts axis rows all = record {
  within = λ i n. name_within axis rows i n;
  last = λ i e.
      let r = last_row rows i e in
      names_last axis rows i r.0 r.1 r.2 (all_at (λ named. IsDifference axis named.1) rows r.0 r.1 all r.2) r.3;
}

pub all_three : (axis : Axis) (rows : List (Name × Row)) → All (λ named. IsDifference axis named.1) rows → All HasThreeTerms rows
all_three axis rows all = λ k d within.
    three_terms axis (slice_index_or rows k d).0 (slice_index_or rows k d).1 (all k d within)
