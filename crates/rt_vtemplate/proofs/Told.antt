-- Whether the template upwards has a row of a name, by the name's kind.
use Rattle.std.proofs.Common.{◌≡◌, ℕ, ℤ, Bool, true, false, Option, Some, None, sym, subst, ◌∙◌}
use Rattle.std.specs.Bool.{MatchBool}
use Rattle.std.specs.Option.{MatchOption}
use Rattle.std.proofs.lemmas.Option.{same_Some}
use Rattle.rt_rows.specs.declared.name.Name.{Name}
use Rattle.rt_rows.specs.declared.name.Name.TheVariants.{Lo, Hi, Zero, Top, Tall, Size, On, Under, Gap, Run, Off, Inb, Int}
use Rattle.rt_rows.specs.declared.row.Var.{Var}
use Rattle.rt_rows.specs.declared.row.Row.{Row}
use Rattle.rt_strips.specs.Standing.{IsStrip, StandsOn}
use Rattle.rt_view.specs.declared.job.Job.{Job}
use Rattle.rt_view.specs.Job.{strips_of}
use Rattle.rt_template.specs.Between.{IsCutStrip, IsLowestHost, IsHighestHost}
use Rattle.rt_template.specs.Vertical.{RowUpwards, HasUpwards, IsKeptAbove, IsOffAbove, IsWholeChain}
use Rattle.rt_vtemplate.specs.Listing.{row_of}
use Rattle.rt_vtemplate.specs.Open.{AreBothStrips}
use Rattle.rt_vtemplate.proofs.Listed.{its_row, not_none}
use Rattle.rt_vtemplate.proofs.Chained.{first_covers, last_covers}

decided : (v : Bool) (P Q : Type 0) → (P → Q) → (Q → P) → MatchBool v P (¬ P) → MatchBool v Q (¬ Q)
decided true P Q f g p = f p
decided false P Q f g none = λ q. none (g q)

module _ (job : Job) (columns : Var → ℤ) where
  lo_is : (i : ℕ) (row : Row) → RowUpwards job columns (Lo i) row → IsStrip (strips_of job) i
  lo_is i row (RowUpwards.lo _ s) = s

  hi_is : (i : ℕ) (row : Row) → RowUpwards job columns (Hi i) row → IsStrip (strips_of job) i
  hi_is i row (RowUpwards.hi _ s) = s

  tall_is : (i : ℕ) (row : Row) → RowUpwards job columns (Tall i) row → IsStrip (strips_of job) i
  tall_is i row (RowUpwards.tall _ s) = s

  on_is : (i j : ℕ) (row : Row) → RowUpwards job columns (On i j) row → StandsOn (strips_of job) i j
  on_is i j row (RowUpwards.on _ _ s) = s

  under_is : (i j : ℕ) (row : Row) → RowUpwards job columns (Under i j) row → StandsOn (strips_of job) i j
  under_is i j row (RowUpwards.under _ _ s) = s

  gap_is : (i j : ℕ) (row : Row) → RowUpwards job columns (Gap i j) row → IsKeptAbove job columns i j
  gap_is i j row (RowUpwards.gap _ _ k) = k

  run_is : (i j : ℕ) (row : Row) → RowUpwards job columns (Run i j) row → IsWholeChain job columns i j
  run_is i j row (RowUpwards.run _ _ c) = c

  size_is : (i : ℕ) (row : Row) → RowUpwards job columns (Size i) row → IsCutStrip job i
  size_is i row (RowUpwards.size _ c) = c

  off_is : (q i j : ℕ) (row : Row) → RowUpwards job columns (Off q i j) row → IsOffAbove job columns q i j
  off_is q i j row (RowUpwards.off _ _ _ k) = k

  inb_is : (q i h : ℕ) (row : Row) → RowUpwards job columns (Inb q i h) row → IsLowestHost job q i h
  inb_is q i h row (RowUpwards.inb _ _ _ k) = k

  int_is : (q i h : ℕ) (row : Row) → RowUpwards job columns (Int q i h) row → IsHighestHost job q i h
  int_is q i h row (RowUpwards.int _ _ _ k) = k

  at_name : (name other : Name) (v : Bool) → name ≡ other → MatchBool v (HasUpwards job columns other) (¬ HasUpwards job columns other)
      → MatchBool v (HasUpwards job columns name) (¬ HasUpwards job columns name)
  at_name name other v e m = subst (λ (n : Name). MatchBool v (HasUpwards job columns n) (¬ HasUpwards job columns n)) (sym e) m

  pub lo_told : (name : Name) (i : ℕ) (v : Bool) → name ≡ Lo i → MatchBool v (IsStrip (strips_of job) i) (¬ IsStrip (strips_of job) i)
      → MatchBool v (HasUpwards job columns name) (¬ HasUpwards job columns name)
  lo_told name i v e m =
      at_name name (Lo i) v e (decided v (IsStrip (strips_of job) i) (HasUpwards job columns (Lo i)) (λ s. (_, RowUpwards.lo i s)) (λ h. lo_is i h.0 h.1) m)

  pub hi_told : (name : Name) (i : ℕ) (v : Bool) → name ≡ Hi i → MatchBool v (IsStrip (strips_of job) i) (¬ IsStrip (strips_of job) i)
      → MatchBool v (HasUpwards job columns name) (¬ HasUpwards job columns name)
  hi_told name i v e m =
      at_name name (Hi i) v e (decided v (IsStrip (strips_of job) i) (HasUpwards job columns (Hi i)) (λ s. (_, RowUpwards.hi i s)) (λ h. hi_is i h.0 h.1) m)

  pub tall_told : (name : Name) (i : ℕ) (v : Bool) → name ≡ Tall i → MatchBool v (IsStrip (strips_of job) i) (¬ IsStrip (strips_of job) i)
      → MatchBool v (HasUpwards job columns name) (¬ HasUpwards job columns name)
  tall_told name i v e m =
      at_name name (Tall i) v e (decided v (IsStrip (strips_of job) i) (HasUpwards job columns (Tall i)) (λ s. (_, RowUpwards.tall i s)) (λ h. tall_is i h.0 h.1) m)

  pub zero_told : (name : Name) → name ≡ Zero → HasUpwards job columns name
  zero_told name e = subst (HasUpwards job columns) (sym e) (_, RowUpwards.zero)

  pub top_told : (name : Name) → name ≡ Top → HasUpwards job columns name
  top_told name e = subst (HasUpwards job columns) (sym e) (_, RowUpwards.top)

  pub on_told : (name : Name) (i j : ℕ) (v : Bool) → name ≡ On i j → MatchBool v (StandsOn (strips_of job) i j) (¬ StandsOn (strips_of job) i j)
      → MatchBool v (HasUpwards job columns name) (¬ HasUpwards job columns name)
  on_told name i j v e m =
      at_name name (On i j) v e (decided v (StandsOn (strips_of job) i j) (HasUpwards job columns (On i j)) (λ s. (_, RowUpwards.on i j s)) (λ h. on_is i j h.0 h.1) m)

  pub under_told : (name : Name) (i j : ℕ) (v : Bool) → name ≡ Under i j → MatchBool v (StandsOn (strips_of job) i j) (¬ StandsOn (strips_of job) i j)
      → MatchBool v (HasUpwards job columns name) (¬ HasUpwards job columns name)
  under_told name i j v e m =
      at_name name (Under i j) v e
      (decided v (StandsOn (strips_of job) i j) (HasUpwards job columns (Under i j)) (λ s. (_, RowUpwards.under i j s)) (λ h. under_is i j h.0 h.1) m)

  pub gap_told : (name : Name) (i j : ℕ) (v : Bool) → name ≡ Gap i j → MatchBool v (IsKeptAbove job columns i j) (¬ IsKeptAbove job columns i j)
      → MatchBool v (HasUpwards job columns name) (¬ HasUpwards job columns name)
  gap_told name i j v e m =
      at_name name (Gap i j) v e (decided v (IsKeptAbove job columns i j) (HasUpwards job columns (Gap i j)) (λ k. (_, RowUpwards.gap i j k)) (λ h. gap_is i j h.0 h.1) m)

  pub run_told : (name : Name) (i j : ℕ) (v : Bool) → name ≡ Run i j → MatchBool v (IsWholeChain job columns i j) (¬ IsWholeChain job columns i j)
      → MatchBool v (HasUpwards job columns name) (¬ HasUpwards job columns name)
  run_told name i j v e m =
      at_name name (Run i j) v e
      (decided v (IsWholeChain job columns i j) (HasUpwards job columns (Run i j)) (λ c. (_, RowUpwards.run i j c)) (λ h. run_is i j h.0 h.1) m)

  pub size_told : (name : Name) (i : ℕ) (v : Bool) → name ≡ Size i → MatchBool v (IsCutStrip job i) (¬ IsCutStrip job i)
      → MatchBool v (HasUpwards job columns name) (¬ HasUpwards job columns name)
  size_told name i v e m =
      at_name name (Size i) v e (decided v (IsCutStrip job i) (HasUpwards job columns (Size i)) (λ c. (_, RowUpwards.size i c)) (λ h. size_is i h.0 h.1) m)

  pub off_told : (name : Name) (q i j : ℕ) (v : Bool) → name ≡ Off q i j → MatchBool v (IsOffAbove job columns q i j) (¬ IsOffAbove job columns q i j)
      → MatchBool v (HasUpwards job columns name) (¬ HasUpwards job columns name)
  off_told name q i j v e m =
      at_name name (Off q i j) v e (decided v (IsOffAbove job columns q i j) (HasUpwards job columns (Off q i j)) (λ k. (_, RowUpwards.off q i j k)) (λ h. off_is q i j h.0 h.1) m)

  pub inb_told : (name : Name) (q i h : ℕ) (v : Bool) → name ≡ Inb q i h → MatchBool v (IsLowestHost job q i h) (¬ IsLowestHost job q i h)
      → MatchBool v (HasUpwards job columns name) (¬ HasUpwards job columns name)
  inb_told name q i h v e m =
      at_name name (Inb q i h) v e (decided v (IsLowestHost job q i h) (HasUpwards job columns (Inb q i h)) (λ k. (_, RowUpwards.inb q i h k)) (λ has. inb_is q i h has.0 has.1) m)

  pub int_told : (name : Name) (q i h : ℕ) (v : Bool) → name ≡ Int q i h → MatchBool v (IsHighestHost job q i h) (¬ IsHighestHost job q i h)
      → MatchBool v (HasUpwards job columns name) (¬ HasUpwards job columns name)
  int_told name q i h v e m =
      at_name name (Int q i h) v e (decided v (IsHighestHost job q i h) (HasUpwards job columns (Int q i h)) (λ k. (_, RowUpwards.int q i h k)) (λ has. int_is q i h has.0 has.1) m)

  -- a name of another kind has no row
  pub none_told : (name : Name) → row_of job name ≡ None → ¬ HasUpwards job columns name
  none_told name e h = not_none h.0 (sym e ∙ its_row job columns name h.0 h.1)

  -- the row of a name that the template has
  pub row_there : (name : Name) (found : Option Row) → found ≡ row_of job name → HasUpwards job columns name
      → MatchOption found ((row : Row) → RowUpwards job columns name row → ⊥) (RowUpwards job columns name)
  row_there name None e h = absurd (not_none h.0 (e ∙ its_row job columns name h.0 h.1))
  row_there name (Some row) e h = subst (RowUpwards job columns name) (sym (same_Some row h.0 (e ∙ its_row job columns name h.0 h.1))) h.1

  -- a whole chain is one of strips
  pub chain_strips : (i j : ℕ) → IsWholeChain job columns i j → AreBothStrips (strips_of job) i j
  chain_strips i j c = record {
    first = (first_covers job columns c.x c.u i j c.chain).strip;
    second = (last_covers job columns c.x c.u i j c.chain).strip;
  }
