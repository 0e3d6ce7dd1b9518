-- The rows of a template, listed with their names.
use Rattle.std.proofs.Common.{◌≡◌, ◌≢◌, ℕ, ◌+◌, ◌<◌, List, [], ◌∷◌, ◌++◌, length, map, take, get_or, AllPairs, Contains, sym, ap, subst, subst₂, ◌∙◌, arith}
use Rattle.std.proofs.lemmas.List.{get_or-map, length-map, map-append, take_more}
use Rattle.std.proofs.lemmas.List.Elements.{All-contains, All-push}
use Rattle.rt_cells.proofs.Lists.{mapped_from}
use Rattle.rt_rows.specs.declared.name.Name.{Name}
use Rattle.rt_rows.specs.declared.row.Row.{Row}
use Rattle.rt_rows.specs.Order.{ComesBefore, ListsNames, place_of}
use Rattle.rt_rows.proofs.PlacesOrder.{never_itself}
use Rattle.rt_view.specs.declared.job.Job.{Job}
use Rattle.rt_template.specs.Horizontal.{RowAcross, HasAcross}
use Rattle.rt_template.proofs.OneRow.{one_across}
use Rattle.rt_vtemplate.specs.Listing.{ListsRows}
use Rattle.rt_place.specs.Placing.{HoldsRows, AreRowsOf}

-- names that stand in order differ
differ : (a b : Name) → ComesBefore a b → a ≢ b
differ a b before same = never_itself (place_of b) (subst (λ (n : Name). ComesBefore n b) same before)

-- one row more
pub one_more : (template : Name → Row → Type 0) (names : List Name) (rows : List (Name × Row)) (i : ℕ) (name : Name) (row : Row) → i < length names
    → name ≡ get_or names i name → template name row → AreRowsOf template (take i names) rows → AreRowsOf template (take (i + 1) names) (rows ++ (name, row) ∷ [])
one_more template names rows i name row h is r rows_are = record {
  named = map-append (λ (named : Name × Row). named.0) rows ((name, row) ∷ []) ∙ ap (λ (l : List Name). l ++ name ∷ []) rows_are.named ∙ one_name_more;
  each = All-push (λ (named : Name × Row). template named.0 named.1) rows (name, row) rows_are.each r;
}
  where
    one_name_more : take i names ++ name ∷ [] ≡ take (i + 1) names
    one_name_more = ap (λ (n : Name). take i names ++ n ∷ []) is ∙ sym (take_more names i name h)

-- rows whose names stand in order have each name once
pub named_once : (rows : List (Name × Row)) → AllPairs (λ (a b : Name × Row). ComesBefore a.0 b.0) rows → AllPairs (λ (a b : Name × Row). a.0 ≢ b.0) rows
named_once rows pairs i j d h g = differ _ _ (pairs i j d h g)

-- what is said of the names of rows in order
by_names : (rows : List (Name × Row)) (names : List Name) → map (λ (named : Name × Row). named.0) rows ≡ names → AllPairs ComesBefore names
    → AllPairs (λ (a b : Name × Row). ComesBefore a.0 b.0) rows
by_names rows names e pairs i j d h g =
    let l : j < length names = subst (λ (n : List Name). j < length n) e (subst (λ (n : ℕ). j < n) (sym (length-map rows (λ (named : Name × Row). named.0))) g) in
    subst₂ ComesBefore (name_at i d (omega (arith, h, g))) (name_at j d g) (pairs i j d.0 h l)
  where
    name_at : (k : ℕ) (d : Name × Row) → k < length rows → get_or names k d.0 ≡ (get_or rows k d).0
    name_at k d h = subst (λ (n : List Name). get_or n k d.0 ≡ (get_or rows k d).0) e (get_or-map (λ (named : Name × Row). named.0) rows k d d.0 h)

-- a name of the list has its row
found_row : (rows : List (Name × Row)) (name : Name) → Contains (map (λ (named : Name × Row). named.0) rows) name → (row : Row) × Contains rows (name, row)
found_row rows name c =
    let k = mapped_from (λ (named : Name × Row). named.0) rows name c in
    (k.0.1, subst (Contains rows) (same_pair k.0 name k.2) k.1)
  where
    same_pair : (named : Name × Row) (name : Name) → named.0 ≡ name → named ≡ (name, named.1)
    same_pair named name e = ap (λ (n : Name). (n, named.1)) e

-- so the rows of all names are the template
pub across_held : (job : Job) (names : List Name) (rows : List (Name × Row)) → ListsNames (HasAcross job) names → AreRowsOf (RowAcross job) names rows
    → HoldsRows (RowAcross job) rows
across_held job names rows lists are = record {
  exact = λ name row. (
    λ c. All-contains (λ (named : Name × Row). RowAcross job named.0 named.1) rows (name, row) are.each c,
    λ r. listed name row r,
  );
  once = named_once rows (by_names rows names are.named lists.in_order);
}
  where
    listed : (name : Name) (row : Row) → RowAcross job name row → Contains rows (name, row)
    listed name row r =
        let found = found_row rows name (subst (λ (n : List Name). Contains n name) (sym are.named) (lists.every name (row, r))) in
        subst (λ (other : Row). Contains rows (name, other))
        (one_across job name found.0 row (All-contains (λ (named : Name × Row). RowAcross job named.0 named.1) rows (name, found.0) are.each found.1) r) found.1

-- rows that are listed are held
pub held : (template : Name → Row → Type 0) (rows : List (Name × Row)) → ListsRows template rows → HoldsRows template rows
held template rows lists = record {
  exact = λ name row. (λ c. All-contains (λ (named : Name × Row). template named.0 named.1) rows (name, row) lists.each c, λ r. lists.every name row r);
  once = named_once rows lists.in_order;
}
