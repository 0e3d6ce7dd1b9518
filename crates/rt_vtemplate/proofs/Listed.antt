-- The names of a template with their rows.
use Rattle.std.proofs.Common.{◌≡◌, ◌<◌, ℤ, pos, List, length, map, All, Contains, Option, Some, None, unwrap_or, refl, sym, ap, subst, subst₂, ◌∙◌, arith}
use Rattle.std.specs.Option.{MatchOption}
use Rattle.std.proofs.lemmas.List.{get_or-map, length-map}
use Rattle.std.proofs.lemmas.List.Elements.{All-map, All-weaker}
use Rattle.rt_cells.proofs.Lists.{mapped}
use Rattle.std.proofs.lemmas.Option.{same_Some}
use Rattle.rt_rows.specs.declared.name.Name.{Name}
use Rattle.rt_rows.specs.declared.name.Name.TheVariants.{Zero}
use Rattle.rt_rows.specs.declared.row.Var.{Var}
use Rattle.rt_rows.specs.declared.row.Var.TheVariants.{Height}
use Rattle.rt_rows.specs.declared.row.Row.{Row}
use Rattle.rt_rows.specs.Rows.{at_least}
use Rattle.rt_rows.specs.Order.{ComesBefore, ListsNames}
use Rattle.rt_view.specs.declared.job.Job.{Job}
use Rattle.rt_template.specs.Vertical.{RowUpwards, HasUpwards}
use Rattle.rt_vtemplate.specs.Listing.{ListsRows, row_of, with_row, IsKnown, HasNoRow, IsRowOf}

-- a row of the template is that of its name
pub its_row : (job : Job) (columns : Var → ℤ) (name : Name) (row : Row) → RowUpwards job columns name row → row_of job name ≡ Some row
its_row job columns name row (RowUpwards.lo i s) = refl
its_row job columns name row (RowUpwards.hi i s) = refl
its_row job columns name row RowUpwards.zero = refl
its_row job columns name row RowUpwards.top = refl
its_row job columns name row (RowUpwards.tall i s) = refl
its_row job columns name row (RowUpwards.size i c) = refl
its_row job columns name row (RowUpwards.on i j s) = refl
its_row job columns name row (RowUpwards.under i j s) = refl
its_row job columns name row (RowUpwards.gap i j k) = refl
its_row job columns name row (RowUpwards.run i j c) = refl
its_row job columns name row (RowUpwards.off q i j k) = refl
its_row job columns name row (RowUpwards.inb q i h k) = refl
its_row job columns name row (RowUpwards.int q i h k) = refl

pub not_none : {X : Type 0} (x : X) → None ≡ Some x → ⊥
not_none x e = cc

-- so the name's row is the template's, where it has one
pub row_told : (job : Job) (name : Name) (found : Option Row) → found ≡ row_of job name → MatchOption found (HasNoRow job name) (IsRowOf job name)
row_told job name None e = record { none = λ columns h. not_none h.0 (e ∙ its_row job columns name h.0 h.1) }
row_told job name (Some row) e = record {
  is_row = λ columns h. subst (RowUpwards job columns name) (sym (same_Some row h.0 (e ∙ its_row job columns name h.0 h.1))) h.1;
}

-- each name that the template has is of one of its kinds
pub all_known : (job : Job) (columns : Var → ℤ) (names : List Name) → All (HasUpwards job columns) names → All (IsKnown job) names
all_known job columns names all =
    All-weaker (HasUpwards job columns) (IsKnown job) (λ name h. record { row = h.0; is = its_row job columns name h.0 h.1 }) names all

module _ (job : Job) (columns : Var → ℤ) where
  with_its_row : (name : Name) (row : Row) → RowUpwards job columns name row → with_row job name ≡ (name, row)
  with_its_row name row r = ap (λ (found : Option Row). (name, unwrap_or found (at_least Height (pos 0)))) (its_row job columns name row r)

  has_its_row : (name : Name) → HasUpwards job columns name → RowUpwards job columns (with_row job name).0 (with_row job name).1
  has_its_row name h =
      subst (λ (named : Name × Row). RowUpwards job columns named.0 named.1) (sym (with_its_row name h.0 h.1)) h.1

  -- the names of the template, each with its row, are the listing of its rows
  pub rows_listed : (names : List Name) → ListsNames (HasUpwards job columns) names → ListsRows (RowUpwards job columns) (map (with_row job) names)
  rows_listed names lists = record {
    each =
        All-map (λ (named : Name × Row). RowUpwards job columns named.0 named.1) (with_row job) names
        (All-weaker (HasUpwards job columns) (λ name. RowUpwards job columns (with_row job name).0 (with_row job name).1) has_its_row names lists.each);
    every = λ name row r.
        subst (λ (named : Name × Row). Contains (map (with_row job) names) named) (with_its_row name row r)
        (mapped (with_row job) names name (lists.every name (row, r)));
    in_order = λ i j d h g.
        let l : j < length names = omega (arith, g, length-map names (with_row job)) in
        let k : i < length names = omega (arith, h, l) in
        subst₂ (λ (a b : Name × Row). ComesBefore a.0 b.0) (sym (get_or-map (with_row job) names i Zero d k)) (sym (get_or-map (with_row job) names j Zero d l))
        (lists.in_order i j Zero h l);
  }
