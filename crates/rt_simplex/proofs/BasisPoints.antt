-- The point of a basis.
use Rattle.std.proofs.Common.{◌≡◌, ℕ, zero, suc, ◌<◌, ◌≤◌, ℤ, pos, ◌+ℤ◌, ◌-ℤ◌, ◌*ℤ◌, ◌≤ℤ◌, ◌<ℤ◌, length, refl, sym, ap, subst, ◌∙◌, inl, inr, arith}
use Rattle.std.proofs.lemmas.Bool.{cases_lt}
use Rattle.std.proofs.lemmas.Int.{ints, by_lt_z}
use Rattle.rt_cells.proofs.Times.{times_sub, times_cancel_le, product_not_negative}
use Rattle.rt_proofs.proofs.Products.{times_comm, times_assoc}
use Rattle.rt_solved.specs.Lines.{total, worth}
use Rattle.rt_solved.specs.Systems.{columns_of, IsSolution}
use Rattle.rt_solved.specs.Tables.{IsSolvedFor, IsSolved, IsWhole, basic_of}
use Rattle.rt_solved.proofs.Totals.{lies_on, worth_swapped, worth_combined, unit, unit_elsewhere, worth_unit, worth_right}
use Rattle.rt_solved.proofs.Proportional.{positive_times}
use Rattle.rt_tableau.specs.States.{State}
use Rattle.rt_tableau.proofs.NewLines.{right_at}
use Rattle.rt_simplex.specs.Choices.{IsOptimum}
use Rattle.rt_simplex.specs.Points.{IsBasisPoint}
use Rattle.rt_simplex.proofs.Leasts.{basic_or_off}

first_none : (a b : ℤ) → a ≡ pos 0 → a *ℤ b ≡ pos 0
first_none a b e = let none : pos 0 *ℤ b ≡ pos 0 = omega (arith, ints) in ap (λ z. z *ℤ b) e ∙ none

second_none : (a b : ℤ) → b ≡ pos 0 → a *ℤ b ≡ pos 0
second_none a b e = times_comm a b ∙ first_none b a e

module _ (m count : ℕ) (solution : (ℕ → ℤ) → Type 0) (basis : ℕ → ℕ) (table : ℕ → ℕ → ℤ) (solved : IsSolvedFor m count solution basis table) where
  -- a point on the first lines, whose other columns are 0
  record Built (n : ℕ) : Type 0 where
    point : ℕ → ℤ
    positive : pos 0 <ℤ point 0
    on : (k : ℕ) → k < n → worth m (table k) point ≡ pos 0
    ahead : (k : ℕ) → n ≤ k → k < count → worth m (table k) point ≡ pos 0 -ℤ table k 0 *ℤ point 0
    off : (s : ℕ) → ((k : ℕ) → k < n → basis k ≡ s → ⊥) → point (suc s) ≡ pos 0

  begin : Built 0
  begin = record {
    point = unit 0;
    positive = omega (arith, ints);
    on = λ k h. absurd (omega (arith, h));
    ahead = λ k h g. worth_right m (table k) ∙ once (table k 0);
    off = λ s n. refl;
  }
    where
      once : (z : ℤ) → pos 0 -ℤ z ≡ pos 0 -ℤ z *ℤ pos 1
      once z = omega (arith, ints)

  module _ (n : ℕ) (more : n < count) (r : Built n) where
    d : ℤ
    d = table n (suc (basis n))

    f : ℤ
    f = table n 0 *ℤ r.point 0

    next : ℕ → ℤ
    next s = d *ℤ r.point s +ℤ f *ℤ unit (suc (basis n)) s

    worth_next : (line : ℕ → ℤ) → worth m line next ≡ d *ℤ worth m line r.point +ℤ f *ℤ line (suc (basis n))
    unfolding next
    worth_next line =
        worth_swapped m line next
        ∙ once _ _ (worth_combined m next r.point (unit (suc (basis n))) line d f (pos 1) (λ s h. one_of (d *ℤ r.point s +ℤ f *ℤ unit (suc (basis n)) s)))
        ∙ (λ i. d *ℤ worth_swapped m r.point line i +ℤ f *ℤ (worth_swapped m (unit (suc (basis n))) line ∙ worth_unit m (basis n) line (solved.there n more)) i)
      where
        one_of : (z : ℤ) → pos 1 *ℤ z ≡ z
        one_of z = omega (arith, ints)

        once : (a b : ℤ) → pos 1 *ℤ a ≡ b → a ≡ b
        once a b e = omega (arith, ints, e)

    next_first : next 0 ≡ d *ℤ r.point 0
    unfolding next
    next_first = none_more _ f
      where
        none_more : (a b : ℤ) → a +ℤ b *ℤ pos 0 ≡ a
        none_more a b = omega (arith, ints)

    on_next : (k : ℕ) → k < suc n → worth m (table k) next ≡ pos 0
    unfolding d f
    on_next k h =
        elim (cases_lt k n) [
          | inl l ↦ worth_next (table k) ∙ both_none d f _ _ (r.on k l) (solved.alone k n (omega (arith, l, more)) more (λ e. omega (arith, l, e)))
          | inr g ↦ subst (λ z. worth m (table z) next ≡ pos 0) (omega (arith, g, h)) (worth_next (table n) ∙ made (table n (suc (basis n))) (table n 0 *ℤ r.point 0) _ (r.ahead n (omega arith) more))
        ]
      where
        both_none : (a b p q : ℤ) → p ≡ pos 0 → q ≡ pos 0 → a *ℤ p +ℤ b *ℤ q ≡ pos 0
        both_none a b p q e g = omega (arith, ints, ap (λ z. a *ℤ z) e, ap (λ z. b *ℤ z) g)

        turned : (a b : ℤ) → a *ℤ (pos 0 -ℤ b) ≡ pos 0 -ℤ b *ℤ a
        turned a b = omega (arith, ints, times_sub a (pos 0) b, times_comm a b)

        made : (a b p : ℤ) → p ≡ pos 0 -ℤ b → a *ℤ p +ℤ b *ℤ a ≡ pos 0
        made a b p e = let t = turned a b in omega (arith, ints, ap (λ z. a *ℤ z) e, t)

    ahead_next : (k : ℕ) → suc n ≤ k → k < count → worth m (table k) next ≡ pos 0 -ℤ table k 0 *ℤ next 0
    ahead_next k h g =
        worth_next (table k) ∙ kept d f (table k 0) (r.point 0) _ _ (r.ahead k (omega (arith, h)) g) (solved.alone k n g more (λ e. omega (arith, h, e)))
        ∙ (λ i. pos 0 -ℤ table k 0 *ℤ sym next_first i)
      where
        kept : (a b t y p q : ℤ) → p ≡ pos 0 -ℤ t *ℤ y → q ≡ pos 0 → a *ℤ p +ℤ b *ℤ q ≡ pos 0 -ℤ t *ℤ (a *ℤ y)
        kept a b t y p q e g =
            let turn : a *ℤ (t *ℤ y) ≡ t *ℤ (a *ℤ y) = sym (times_assoc a t y) ∙ ap (λ z. z *ℤ y) (times_comm a t) ∙ times_assoc t a y in
            omega (arith, ints, ap (λ z. a *ℤ z) e, ap (λ z. b *ℤ z) g, times_sub a (pos 0) (t *ℤ y), turn)

    off_next : (s : ℕ) → ((k : ℕ) → k < suc n → basis k ≡ s → ⊥) → next (suc s) ≡ pos 0
    unfolding next
    off_next s none = both_none d f _ _ (r.off s (λ k h. none k (omega (arith, h)))) (unit_elsewhere (basis n) s (none n (omega arith)))
      where
        both_none : (a b p q : ℤ) → p ≡ pos 0 → q ≡ pos 0 → a *ℤ p +ℤ b *ℤ q ≡ pos 0
        both_none a b p q e g = omega (arith, ints, ap (λ z. a *ℤ z) e, ap (λ z. b *ℤ z) g)

    built_next : Built (suc n)
    unfolding d
    built_next = record {
      point = next;
      positive = subst (λ z. pos 0 <ℤ z) (sym next_first) (positive_times d (r.point 0) (solved.positive n more) r.positive);
      on = on_next;
      ahead = ahead_next;
      off = off_next;
    }

  build : (n : ℕ) → n ≤ count → Built n
  build zero h = begin
  build (suc n) h = built_next n (omega (arith, h)) (build n (omega (arith, h)))

-- a sum of which one number alone isn't 0
total_alone : (n t : ℕ) (f : ℕ → ℤ) → t < n → ((j : ℕ) → j < n → (j ≡ t → ⊥) → f j ≡ pos 0) → total n f ≡ f t
total_alone zero t f h none = absurd (omega (arith, h))
total_alone (suc n) t f h none =
    elim (cases_lt t n) [
      | inl l ↦ behind _ _ _ (total_alone n t f l (λ j k. none j (omega (arith, k)))) (none n (omega arith) (λ e. omega (arith, l, e)))
      | inr g ↦ last (omega (arith, g, h))
    ]
  where
    behind : (a b c : ℤ) → a ≡ c → b ≡ pos 0 → a +ℤ b ≡ c
    behind a b c e g = omega (arith, ints, e, g)

    zeros : (k : ℕ) → k ≤ n → k ≤ t → total k f ≡ pos 0
    zeros zero h g = refl
    zeros (suc k) h g = omega (arith, ints, zeros k (omega (arith, h)) (omega (arith, g)), none k (omega (arith, h)) (λ e. omega (arith, e, g)))

    before : (a b : ℤ) → a ≡ pos 0 → a +ℤ b ≡ b
    before a b e = omega (arith, ints, e)

    last : t ≡ n → total n f +ℤ f n ≡ f t
    last e = before _ _ (zeros n (omega arith) (omega (arith, e))) ∙ ap f (sym e)

-- a solution whose columns are 0 where they are basic in no row
pub record IsSpare (state : State) (point : ℕ → ℤ) : Type 0 where
  pub solution : IsSolution state.system point
  pub positive : pos 0 <ℤ point 0
  pub off : (j : ℕ) → ((i : ℕ) → i < length state.system.rows → basic_of state.basis i ≡ j → ⊥) → point (suc j) ≡ pos 0

pub spare_point : (state : State) (table : ℕ → ℕ → ℤ) → IsSolved state.system state.basis table → (point : ℕ → ℤ) × IsSpare state point
spare_point state table solved = made (build (columns_of state.system) (length state.system.rows) (IsSolution state.system) (basic_of state.basis) table solved (length state.system.rows) (omega arith))
  where
    made : Built (columns_of state.system) (length state.system.rows) (IsSolution state.system) (basic_of state.basis) table solved (length state.system.rows) → (point : ℕ → ℤ) × IsSpare state point
    made r = (r.point, record { solution = solved.enough r.point (λ k h. lies_on (columns_of state.system) (table k) r.point (r.on k h)); positive = r.positive; off = r.off })

-- there the denominator of a row times its basic column is the right side
pub basic_value : (state : State) (table : ℕ → ℕ → ℤ) (point : ℕ → ℤ) → IsSolved state.system state.basis table → IsSpare state point → (i : ℕ) → i < length state.system.rows
    → table i (suc (basic_of state.basis i)) *ℤ point (suc (basic_of state.basis i)) ≡ table i 0 *ℤ point 0
basic_value state table point solved spare i h =
    sym (total_alone (columns_of state.system) (basic_of state.basis i) (λ j. table i (suc j) *ℤ point (suc j)) (solved.there i h) each) ∙ (solved.holds point spare.solution i h).equal
  where
    each : (j : ℕ) → j < columns_of state.system → (j ≡ basic_of state.basis i → ⊥) → table i (suc j) *ℤ point (suc j) ≡ pos 0
    each j l n =
        elim (basic_or_off state.basis j (length state.system.rows)) [
          | inl at ↦
              first_none (table i (suc j)) (point (suc j))
              (subst (λ k. table i (suc k) ≡ pos 0) at.2 (solved.alone i at.0 h at.1 (λ e. n (sym (ap (basic_of state.basis) e ∙ at.2)))))
          | inr off ↦ second_none (table i (suc j)) (point (suc j)) (spare.off j off)
        ]

-- at an optimum it meets the rows
pub optimum_point : (state : State) (table : ℕ → ℕ → ℤ) (point : ℕ → ℤ) → IsWhole state.system state.basis table → IsOptimum state → IsSpare state point → IsBasisPoint state point
optimum_point state table point whole ended spare = record {
  meets = record { solution = spare.solution; positive = spare.positive; columns = columns };
  off = λ j h off. spare.off j off;
}
  where
    right : (i : ℕ) → i < length state.system.rows → pos 0 ≤ℤ table i 0
    right i h =
        by_lt_z (table i 0) (pos 0)
        (λ l. absurd (ended.none i h (record { entry = table i 0; is = record { table = table; whole = whole; is = λ k. table i (sym (right_at (columns_of state.system)) k) }; below = l }))) (λ l. l)

    divided : (d x f y : ℤ) → pos 0 <ℤ d → pos 0 ≤ℤ f → pos 0 <ℤ y → d *ℤ x ≡ f *ℤ y → pos 0 ≤ℤ x
    divided d x f y hd hf hy e = times_cancel_le d (pos 0) x (omega (arith, ints, hd)) (under _ _ _ (second_none d (pos 0) refl) e (product_not_negative f y hf (omega (arith, ints, hy))))
      where
        under : (a b c : ℤ) → a ≡ pos 0 → b ≡ c → pos 0 ≤ℤ c → a ≤ℤ b
        under a b c e f h = omega (arith, ints, e, f, h)

    columns : (j : ℕ) → j < columns_of state.system → pos 0 ≤ℤ point (suc j)
    columns j h =
        elim (basic_or_off state.basis j (length state.system.rows)) [
          | inl at ↦ subst (λ k. pos 0 ≤ℤ point (suc k)) at.2 (divided (table at.0 (suc (basic_of state.basis at.0))) (point (suc (basic_of state.basis at.0))) (table at.0 0) (point 0)
              (whole.solved.positive at.0 at.1) (right at.0 at.1) spare.positive (basic_value state table point whole.solved spare at.0 at.1))
          | inr off ↦ none _ (spare.off j off)
        ]
      where
        none : (z : ℤ) → z ≡ pos 0 → pos 0 ≤ℤ z
        none z e = omega (arith, ints, e)
