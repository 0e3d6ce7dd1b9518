-- Which names the template has, and that it has no others.
use Rattle.std.proofs.Common.{◌≡◌, ℕ, ℤ, pos, neg_ℤ, ◌≤ℤ◌, ◌<ℤ◌, Bool, true, false, Option, Some, None, refl, sym, subst, subst₂, arith}
use Rattle.std.specs.Bool.{MatchBool}
use Rattle.std.proofs.lemmas.Int.{ints}
use Rattle.rt_tech.specs.Tech.{width_of, space_of}
use Rattle.rt_rows.specs.declared.row.Row.{Row}
use Rattle.rt_rows.specs.declared.row.Var.TheVariants.{L, R, Width}
use Rattle.rt_rows.specs.declared.name.Name.{Name}
use Rattle.rt_rows.specs.declared.name.Name.TheVariants.{Lo, Hi, Zero, Top, Wide, Size, Ll, Rr, Share, Gap, Off, Inl, Inr}
use Rattle.rt_rows.specs.Rows.{at_least, beyond}
use Rattle.rt_view.specs.declared.job.Job.{Job}
use Rattle.rt_view.specs.Job.{strips_of}
use Rattle.rt_strips.specs.Placed.{Placed, strip_at, left_of, right_of}
use Rattle.rt_strips.specs.Standing.{IsStrip, Touch}
use Rattle.rt_template.specs.Between.{enclose_number, apart_number, IsCutStrip, IsHostUnder, AreOnTwoSides, IsOffRight}
use Rattle.rt_template.specs.Horizontal.{RowAcross, IsKeptRightOf}
use Rattle.rt_htemplate.specs.Asked.{IsRowOf, IsLeftKept, IsRightKept, LeansRight, IsShared, StripsLieOff}

module _ (job : Job) where
  -- a name of no kind that the template has is none of its names
  pub no_other : (name : Name) (row : Row) → ((i : ℕ) → name ≡ Lo i → ⊥) → ((i : ℕ) → name ≡ Hi i → ⊥) → (name ≡ Zero → ⊥) → (name ≡ Top → ⊥)
      → ((i : ℕ) → name ≡ Wide i → ⊥) → ((i j : ℕ) → name ≡ Ll i j → ⊥) → ((i j : ℕ) → name ≡ Rr i j → ⊥) → ((i j : ℕ) → name ≡ Share i j → ⊥)
      → ((i j : ℕ) → name ≡ Gap i j → ⊥) → ((i : ℕ) → name ≡ Size i → ⊥) → ((q i j : ℕ) → name ≡ Off q i j → ⊥) → ((q i h : ℕ) → name ≡ Inl q i h → ⊥)
      → ((q i h : ℕ) → name ≡ Inr q i h → ⊥) → RowAcross job name row → ⊥
  no_other name row a b c d e f g h k l m n o (RowAcross.lo i _) = a i refl
  no_other name row a b c d e f g h k l m n o (RowAcross.hi i _) = b i refl
  no_other name row a b c d e f g h k l m n o RowAcross.zero = c refl
  no_other name row a b c d e f g h k l m n o RowAcross.top = d refl
  no_other name row a b c d e f g h k l m n o (RowAcross.wide i _) = e i refl
  no_other name row a b c d e f g h k l m n o (RowAcross.ll i j _ _) = f i j refl
  no_other name row a b c d e f g h k l m n o (RowAcross.rr i j _ _) = g i j refl
  no_other name row a b c d e f g h k l m n o (RowAcross.share i j _ _ _) = h i j refl
  no_other name row a b c d e f g h k l m n o (RowAcross.gap i j _) = k i j refl
  no_other name row a b c d e f g h k l m n o (RowAcross.size i _) = l i refl
  no_other name row a b c d e f g h k l m n o (RowAcross.off q i j _) = m q i j refl
  no_other name row a b c d e f g h k l m n o (RowAcross.inl q i j _) = n q i j refl
  no_other name row a b c d e f g h k l m n o (RowAcross.inr q i j _) = o q i j refl

  pub lo_there : (i : ℕ) (row : Row) → IsStrip (strips_of job) i → row ≡ at_least (L i) (pos 0) → RowAcross job (Lo i) row
  lo_there i row s e = subst (RowAcross job (Lo i)) (sym e) (RowAcross.lo i s)

  pub hi_there : (i : ℕ) (row : Row) → IsStrip (strips_of job) i → row ≡ beyond (R i) Width (pos 0) → RowAcross job (Hi i) row
  hi_there i row s e = subst (RowAcross job (Hi i)) (sym e) (RowAcross.hi i s)

  pub wide_there : (i : ℕ) (a : Placed) (row : Row) → IsStrip (strips_of job) i → strip_at (strips_of job) i ≡ a → row ≡ beyond (L i) (R i) (width_of job.target a.mask)
      → RowAcross job (Wide i) row
  wide_there i a row s e f =
      subst (RowAcross job (Wide i)) (sym (subst (λ (p : Placed). row ≡ beyond (L i) (R i) (width_of job.target p.mask)) (sym e) f)) (RowAcross.wide i s)

  pub no_ll : (i j : ℕ) (row : Row) → (¬ Touch (strips_of job) i j) → RowAcross job (Ll i j) row → ⊥
  no_ll i j row n (RowAcross.ll _ _ t _) = n t

  pub no_rr : (i j : ℕ) (row : Row) → (¬ Touch (strips_of job) i j) → RowAcross job (Rr i j) row → ⊥
  no_rr i j row n (RowAcross.rr _ _ t _) = n t

  pub no_share : (i j : ℕ) (row : Row) → (¬ Touch (strips_of job) i j) → RowAcross job (Share i j) row → ⊥
  no_share i j row n (RowAcross.share _ _ t _ _) = n t

  pub no_gap : (i j : ℕ) (row : Row) → (¬ IsKeptRightOf job i j) → RowAcross job (Gap i j) row → ⊥
  no_gap i j row n (RowAcross.gap _ _ k) = n k

  left_order : (i j : ℕ) (row : Row) → RowAcross job (Ll i j) row → left_of (strips_of job) i ≤ℤ left_of (strips_of job) j
  left_order i j row (RowAcross.ll _ _ _ h) = h

  right_order : (i j : ℕ) (row : Row) → RowAcross job (Rr i j) row → right_of (strips_of job) i ≤ℤ right_of (strips_of job) j
  right_order i j row (RowAcross.rr _ _ _ h) = h

  both_order : (i j : ℕ) (row : Row) → RowAcross job (Share i j) row → LeansRight (strip_at (strips_of job) i) (strip_at (strips_of job) j)
  both_order i j row (RowAcross.share _ _ _ h g) = record { lefts = h; rights = g }

  not_both : (x y : ℤ) → x ≤ℤ y → y <ℤ x → ⊥
  not_both x y h g = omega (arith, ints)

  ll_found : (i j : ℕ) (found : Option Row) → Touch (strips_of job) i j → IsLeftKept i j (strip_at (strips_of job) i) (strip_at (strips_of job) j) found → IsRowOf job (Ll i j) found
  ll_found i j None t h = λ row r. not_both (left_of (strips_of job) i) (left_of (strips_of job) j) (left_order i j row r) h
  ll_found i j (Some row) t k = subst (RowAcross job (Ll i j)) (sym k.row_is) (RowAcross.ll i j t k.order)

  pub ll_is : (i j : ℕ) (a b : Placed) (found : Option Row) → Touch (strips_of job) i j → strip_at (strips_of job) i ≡ a → strip_at (strips_of job) j ≡ b
      → IsLeftKept i j a b found → IsRowOf job (Ll i j) found
  ll_is i j a b found t e f kept = ll_found i j found t (subst₂ (λ (p q : Placed). IsLeftKept i j p q found) (sym e) (sym f) kept)

  rr_found : (i j : ℕ) (found : Option Row) → Touch (strips_of job) i j → IsRightKept i j (strip_at (strips_of job) i) (strip_at (strips_of job) j) found → IsRowOf job (Rr i j) found
  rr_found i j None t h = λ row r. not_both (right_of (strips_of job) i) (right_of (strips_of job) j) (right_order i j row r) h
  rr_found i j (Some row) t k = subst (RowAcross job (Rr i j)) (sym k.row_is) (RowAcross.rr i j t k.order)

  pub rr_is : (i j : ℕ) (a b : Placed) (found : Option Row) → Touch (strips_of job) i j → strip_at (strips_of job) i ≡ a → strip_at (strips_of job) j ≡ b
      → IsRightKept i j a b found → IsRowOf job (Rr i j) found
  rr_is i j a b found t e f kept = rr_found i j found t (subst₂ (λ (p q : Placed). IsRightKept i j p q found) (sym e) (sym f) kept)

  share_found : (i j : ℕ) (found : Option Row) → Touch (strips_of job) i j → IsShared job.target i j (strip_at (strips_of job) i) (strip_at (strips_of job) j) found
      → IsRowOf job (Share i j) found
  share_found i j None t n = λ row r. n (both_order i j row r)
  share_found i j (Some row) t k = subst (RowAcross job (Share i j)) (sym k.row_is) (RowAcross.share i j t k.leans.lefts k.leans.rights)

  pub share_is : (i j : ℕ) (a b : Placed) (found : Option Row) → Touch (strips_of job) i j → strip_at (strips_of job) i ≡ a → strip_at (strips_of job) j ≡ b
      → IsShared job.target i j a b found → IsRowOf job (Share i j) found
  share_is i j a b found t e f kept = share_found i j found t (subst₂ (λ (p q : Placed). IsShared job.target i j p q found) (sym e) (sym f) kept)

  pub gap_there : (i j : ℕ) (a : Placed) (row : Row) → IsKeptRightOf job i j → strip_at (strips_of job) i ≡ a → row ≡ beyond (R i) (L j) (space_of job.target a.mask)
      → RowAcross job (Gap i j) row
  gap_there i j a row k e f =
      subst (RowAcross job (Gap i j)) (sym (subst (λ (p : Placed). row ≡ beyond (R i) (L j) (space_of job.target p.mask)) (sym e) f)) (RowAcross.gap i j k)

  pub no_size : (i : ℕ) (row : Row) → (¬ IsCutStrip job i) → RowAcross job (Size i) row → ⊥
  no_size i row n (RowAcross.size _ s) = n s

  pub no_off : (q i j : ℕ) (row : Row) → (¬ IsOffRight job q i j) → RowAcross job (Off q i j) row → ⊥
  no_off q i j row n (RowAcross.off _ _ _ k) = n k

  pub no_inl : (q i h : ℕ) (row : Row) → (¬ IsHostUnder job q i h) → RowAcross job (Inl q i h) row → ⊥
  no_inl q i h row n (RowAcross.inl _ _ _ k) = n k

  pub no_inr : (q i h : ℕ) (row : Row) → (¬ IsHostUnder job q i h) → RowAcross job (Inr q i h) row → ⊥
  no_inr q i h row n (RowAcross.inr _ _ _ k) = n k

  pub size_there : (i : ℕ) (a : Placed) (row : Row) → IsCutStrip job i → strip_at (strips_of job) i ≡ a → row ≡ beyond (R i) (L i) (neg_ℤ (width_of job.target a.mask))
      → RowAcross job (Size i) row
  size_there i a row s e f =
      subst (RowAcross job (Size i)) (sym (subst (λ (p : Placed). row ≡ beyond (R i) (L i) (neg_ℤ (width_of job.target p.mask))) (sym e) f)) (RowAcross.size i s)

  pub off_there : (q i j : ℕ) (row : Row) → IsOffRight job q i j → row ≡ beyond (R i) (L j) (apart_number job.target q) → RowAcross job (Off q i j) row
  off_there q i j row k e = subst (RowAcross job (Off q i j)) (sym e) (RowAcross.off q i j k)

  pub inl_there : (q i h : ℕ) (row : Row) → IsHostUnder job q i h → row ≡ beyond (L h) (L i) (enclose_number job.target q) → RowAcross job (Inl q i h) row
  inl_there q i h row k e = subst (RowAcross job (Inl q i h)) (sym e) (RowAcross.inl q i h k)

  pub inr_there : (q i h : ℕ) (row : Row) → IsHostUnder job q i h → row ≡ beyond (R i) (R h) (enclose_number job.target q) → RowAcross job (Inr q i h) row
  inr_there q i h row k e = subst (RowAcross job (Inr q i h)) (sym e) (RowAcross.inr q i h k)

  -- of two on the sides of a distance, what the strips show tells whether the one is off the other
  pub off_told : (q i j : ℕ) (v : Bool) → AreOnTwoSides job q i j → MatchBool v (StripsLieOff job (apart_number job.source q) i j) (¬ StripsLieOff job (apart_number job.source q) i j)
      → MatchBool v (IsOffRight job q i j) (¬ IsOffRight job q i j)
  off_told q i j true s o = record { sides = s; beside = o.beside.beside; near = o.few }
  off_told q i j false s n = λ k. n (record { beside = record { beside = k.beside }; few = k.near })
