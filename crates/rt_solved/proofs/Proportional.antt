-- Two tables that are solved for one basis have proportional lines.
use Rattle.std.proofs.Common.{◌≡◌, ℕ, zero, suc, ◌<◌, ◌≤◌, ℤ, pos, ◌+ℤ◌, ◌-ℤ◌, ◌*ℤ◌, ◌≤ℤ◌, ◌<ℤ◌, ◌⊎◌, refl, sym, ap, subst, ◌∙◌, inl, inr, arith}
use Rattle.std.proofs.lemmas.Bool.{cases_lt}
use Rattle.std.proofs.lemmas.Int.{ints}
use Rattle.rt_cells.proofs.Lines.{antisymmetric}
use Rattle.rt_cells.proofs.Times.{times_sub, times_cancel_le}
pub use Rattle.rt_cells.proofs.Times.{positive_times}
use Rattle.rt_proofs.proofs.Products.{times_comm, times_assoc}
use Rattle.rt_proofs.proofs.Values.{sum_times}
use Rattle.rt_solved.specs.Lines.{worth}
use Rattle.rt_solved.specs.Tables.{IsSolvedFor}
use Rattle.rt_solved.proofs.Totals.{worth_none, lies_on, worth_combined, worth_swapped, unit, worth_unit, worth_right}

at_most : (p q : ℤ) → p ≡ q → p ≤ℤ q
at_most p q e = omega (arith, ints, e)

-- a positive factor of both sides of an equation may be left out
pub times_cancel : (c a b : ℤ) → pos 0 <ℤ c → c *ℤ a ≡ c *ℤ b → a ≡ b
times_cancel c a b h e =
    antisymmetric a b (times_cancel_le c a b (omega (arith, ints, h)) (at_most _ _ e)) (times_cancel_le c b a (omega (arith, ints, h)) (at_most _ _ (sym e)))

-- one number or another
pub same_or_not : (a b : ℕ) → (a ≡ b) ⊎ (a ≡ b → ⊥)
same_or_not a b =
    elim (cases_lt a b) [
      | inl l ↦ inr (λ e. omega (arith, l, e))
      | inr g ↦ second g (cases_lt b a)
    ]
  where
    second : b ≤ a → (b < a) ⊎ (a ≤ b) → (a ≡ b) ⊎ (a ≡ b → ⊥)
    second g (inl l) = inr (λ e. omega (arith, l, e))
    second g (inr k) = inl (omega (arith, g, k))

-- a point, and some of another taken off it
abbrev less : ℤ → ℤ → (ℕ → ℤ) → (ℕ → ℤ) → ℕ → ℤ
less d c x y s = d *ℤ x s -ℤ c *ℤ y s

taken_off : (d c p q : ℤ) → pos 1 *ℤ (d *ℤ p -ℤ c *ℤ q) ≡ d *ℤ p +ℤ (pos 0 -ℤ c) *ℤ q
taken_off d c p q = omega (arith, ints, times_comm (pos 0 -ℤ c) q, times_sub q (pos 0) c, times_comm q c)

taken_back : (r d c p q : ℤ) → pos 1 *ℤ r ≡ d *ℤ p +ℤ (pos 0 -ℤ c) *ℤ q → r ≡ d *ℤ p -ℤ c *ℤ q
taken_back r d c p q e = omega (arith, ints, e, times_comm (pos 0 -ℤ c) q, times_sub q (pos 0) c, times_comm q c)

-- what a line is worth there
worth_less : (m : ℕ) (line x y : ℕ → ℤ) (d c : ℤ) → worth m line (less d c x y) ≡ d *ℤ worth m line x -ℤ c *ℤ worth m line y
worth_less m line x y d c =
    taken_back _ d c _ _
    (ap (λ z. pos 1 *ℤ z) (worth_swapped m line (less d c x y))
    ∙ worth_combined m (less d c x y) x y line d (pos 0 -ℤ c) (pos 1) (λ s h. taken_off d c (x s) (y s))
    ∙ (λ i. d *ℤ worth_swapped m x line i +ℤ (pos 0 -ℤ c) *ℤ worth_swapped m y line i))

-- at this point each line is worth its number at one place
record Probe (m s : ℕ) : Type 0 where
  point : ℕ → ℤ
  worth_is : (line : ℕ → ℤ) → worth m line point ≡ line s

none_less : (p v : ℤ) → p ≡ pos 0 -ℤ v → pos 0 *ℤ p -ℤ pos 1 *ℤ p ≡ v
none_less p v e = omega (arith, ints, e)

probe : (m s : ℕ) → s ≤ m → Probe m s
probe m zero h = record {
  point = less (pos 0) (pos 1) (unit 0) (unit 0);
  worth_is = λ line. worth_less m line (unit 0) (unit 0) (pos 0) (pos 1) ∙ none_less _ (line 0) (worth_right m line);
}
probe m (suc t) h = record { point = unit (suc t); worth_is = λ line. worth_unit m t line (omega (arith, h)) }

module _ (m count : ℕ) (solution : (ℕ → ℤ) → Type 0) (basis : ℕ → ℕ) (table : ℕ → ℕ → ℤ) (solved : IsSolvedFor m count solution basis table) (i s : ℕ) (below : s ≤ m) where
  -- a point on the first n lines: it has a positive multiple of the place, and what the basic columns make up for it
  record Reached (n : ℕ) : Type 0 where
    by : ℤ
    off : ℤ
    point : ℕ → ℤ
    positive : pos 0 <ℤ by
    on : (k : ℕ) → k < n → worth m (table k) point ≡ pos 0
    ahead : (k : ℕ) → n ≤ k → k < count → worth m (table k) point ≡ by *ℤ table k s
    others : (line : ℕ → ℤ) → ((k : ℕ) → k < count → (k ≡ i → ⊥) → line (suc (basis k)) ≡ pos 0)
        → worth m line point ≡ by *ℤ line s -ℤ off *ℤ line (suc (basis i))
    unused : n ≤ i → off ≡ pos 0

  begin_at : Probe m s → Reached 0
  begin_at p = record {
    by = pos 1;
    off = pos 0;
    point = p.point;
    positive = omega (arith, ints);
    on = λ k h. absurd (omega (arith, h));
    ahead = λ k h g. one_time _ _ (p.worth_is (table k));
    others = λ line h. one_time_less _ _ (line (suc (basis i))) (p.worth_is line);
    unused = λ h. refl;
  }
    where
      one_time : (a b : ℤ) → a ≡ b → a ≡ pos 1 *ℤ b
      one_time a b e = omega (arith, ints, e)

      one_time_less : (a b c : ℤ) → a ≡ b → a ≡ pos 1 *ℤ b -ℤ pos 0 *ℤ c
      one_time_less a b c e = omega (arith, ints, e)

  module _ (n : ℕ) (more : n < count) (r : Reached n) where
    d : ℤ
    d = table n (suc (basis n))

    c : ℤ
    c = r.by *ℤ table n s

    next : ℕ → ℤ
    next = less d c r.point (unit (suc (basis n)))

    worth_next : (line : ℕ → ℤ) → worth m line next ≡ d *ℤ worth m line r.point -ℤ c *ℤ line (suc (basis n))
    unfolding next
    worth_next line = worth_less m line r.point (unit (suc (basis n))) d c ∙ ap (λ z. d *ℤ worth m line r.point -ℤ c *ℤ z) (worth_unit m (basis n) line (solved.there n more))

    on_next : (k : ℕ) → k < suc n → worth m (table k) next ≡ pos 0
    unfolding d c
    on_next k h =
        elim (cases_lt k n) [
          | inl l ↦ worth_next (table k) ∙ gone d c _ _ (r.on k l) (solved.alone k n (omega (arith, l, more)) more (λ e. omega (arith, l, e)))
          | inr g ↦ subst (λ z. worth m (table z) next ≡ pos 0) (omega (arith, g, h)) (worth_next (table n) ∙ made d r.by (table n s) _ (r.ahead n (omega arith) more))
        ]
      where
        gone : (a b p q : ℤ) → p ≡ pos 0 → q ≡ pos 0 → a *ℤ p -ℤ b *ℤ q ≡ pos 0
        gone a b p q e f = omega (arith, ints, ap (λ z. a *ℤ z) e, ap (λ z. b *ℤ z) f)

        made : (a b t p : ℤ) → p ≡ b *ℤ t → a *ℤ p -ℤ (b *ℤ t) *ℤ a ≡ pos 0
        made a b t p e = omega (arith, ints, ap (λ z. a *ℤ z) e, times_comm (b *ℤ t) a)

    ahead_next : (k : ℕ) → suc n ≤ k → k < count → worth m (table k) next ≡ (d *ℤ r.by) *ℤ table k s
    ahead_next k h g =
        worth_next (table k) ∙ kept d c r.by (table k s) _ _ (r.ahead k (omega (arith, h)) g) (solved.alone k n g more (λ e. omega (arith, h, e)))
      where
        kept : (a b y t p q : ℤ) → p ≡ y *ℤ t → q ≡ pos 0 → a *ℤ p -ℤ b *ℤ q ≡ (a *ℤ y) *ℤ t
        kept a b y t p q e f = omega (arith, ints, ap (λ z. a *ℤ z) e, ap (λ z. b *ℤ z) f, times_assoc a y t)

    step : (n ≡ i) ⊎ (n ≡ i → ⊥) → Reached (suc n)
    unfolding d
    step (inl e) = record {
      by = d *ℤ r.by;
      off = d *ℤ r.off +ℤ c;
      point = next;
      positive = positive_times d r.by (solved.positive n more) r.positive;
      on = on_next;
      ahead = ahead_next;
      others = λ line h. worth_next line ∙ taken d c r.by (line s) r.off (line (suc (basis i))) _ _ (r.others line h) (ap (λ k. line (suc (basis k))) e);
      unused = λ h. absurd (omega (arith, e, h));
    }
      where
        taken : (a b y t f u p q : ℤ) → p ≡ y *ℤ t -ℤ f *ℤ u → q ≡ u → a *ℤ p -ℤ b *ℤ q ≡ (a *ℤ y) *ℤ t -ℤ (a *ℤ f +ℤ b) *ℤ u
        taken a b y t f u p q e g =
            omega (arith, ints, ap (λ z. a *ℤ z) e, ap (λ z. b *ℤ z) g, times_sub a (y *ℤ t) (f *ℤ u), times_assoc a y t, times_assoc a f u, sum_times (a *ℤ f) b u)
    step (inr e) = record {
      by = d *ℤ r.by;
      off = d *ℤ r.off;
      point = next;
      positive = positive_times d r.by (solved.positive n more) r.positive;
      on = on_next;
      ahead = ahead_next;
      others = λ line h. worth_next line ∙ left d c r.by (line s) r.off (line (suc (basis i))) _ _ (r.others line h) (h n more e);
      unused = λ h. ap (λ z. d *ℤ z) (r.unused (omega (arith, h))) ∙ none d;
    }
      where
        none : (z : ℤ) → z *ℤ pos 0 ≡ pos 0
        none z = omega (arith, ints)

        left : (a b y t f u p q : ℤ) → p ≡ y *ℤ t -ℤ f *ℤ u → q ≡ pos 0 → a *ℤ p -ℤ b *ℤ q ≡ (a *ℤ y) *ℤ t -ℤ (a *ℤ f) *ℤ u
        left a b y t f u p q e g =
            omega (arith, ints, ap (λ z. a *ℤ z) e, ap (λ z. b *ℤ z) g, times_sub a (y *ℤ t) (f *ℤ u), times_assoc a y t, times_assoc a f u)

  reach : (n : ℕ) → n ≤ count → Reached n
  reach zero h = begin_at (probe m s below)
  reach (suc n) h = step n (omega (arith, h)) (reach n (omega (arith, h))) (same_or_not n i)

-- lines of one row, solved for one basis, have proportional numbers
pub proportional : (m count : ℕ) (solution : (ℕ → ℤ) → Type 0) (basis : ℕ → ℕ) (table other : ℕ → ℕ → ℤ) → IsSolvedFor m count solution basis table → IsSolvedFor m count solution basis other
    → (i s : ℕ) → i < count → s ≤ m → table i (suc (basis i)) *ℤ other i s ≡ other i (suc (basis i)) *ℤ table i s
proportional m count solution basis table other solved solved' i s h below = conclude (reach m count solution basis table solved i s below count (omega arith))
  where
    conclude : Reached m count solution basis table solved i s below count → table i (suc (basis i)) *ℤ other i s ≡ other i (suc (basis i)) *ℤ table i s
    conclude r =
        let first : r.by *ℤ table i s -ℤ r.off *ℤ table i (suc (basis i)) ≡ pos 0 =
        sym (r.others (table i) (λ k l n. solved.alone i k h l (λ e. n (sym e)))) ∙ r.on i h in
        let all = solved'.holds r.point (solved.enough r.point (λ k l. lies_on m (table k) r.point (r.on k l))) i h in
        let second : r.by *ℤ other i s -ℤ r.off *ℤ other i (suc (basis i)) ≡ pos 0 =
        sym (r.others (other i) (λ k l n. solved'.alone i k h l (λ e. n (sym e)))) ∙ worth_none m (other i) r.point all in
        times_cancel r.by _ _ r.positive (across r.by r.off (table i s) (table i (suc (basis i))) (other i s) (other i (suc (basis i))) first second)
      where
        across : (y f t d u e : ℤ) → y *ℤ t -ℤ f *ℤ d ≡ pos 0 → y *ℤ u -ℤ f *ℤ e ≡ pos 0 → y *ℤ (d *ℤ u) ≡ y *ℤ (e *ℤ t)
        across y f t d u e g h =
            let a : y *ℤ t ≡ f *ℤ d = omega (arith, ints, g) in
            let b : y *ℤ u ≡ f *ℤ e = omega (arith, ints, h) in
            ap (λ z. y *ℤ z) (times_comm d u) ∙ sym (times_assoc y u d) ∙ ap (λ z. z *ℤ d) b ∙ times_assoc f e d ∙ ap (λ z. f *ℤ z) (times_comm e d) ∙ sym (times_assoc f d e)
            ∙ ap (λ z. z *ℤ e) (sym a) ∙ times_assoc y t e ∙ ap (λ z. y *ℤ z) (times_comm t e)

no_more : (p y l o z : ℤ) → p ≡ y *ℤ l -ℤ o *ℤ z → o ≡ pos 0 → p ≡ pos 0 → y *ℤ l ≡ y *ℤ pos 0
no_more p y l o z e f g = omega (arith, ints, e, g, ap (λ t. t *ℤ z) f)

-- a line that holds at all solutions, with 0 at the basic columns, is 0
pub vanishes : (m count : ℕ) (solution : (ℕ → ℤ) → Type 0) (basis : ℕ → ℕ) (table : ℕ → ℕ → ℤ) → IsSolvedFor m count solution basis table → (line : ℕ → ℤ) → ((k : ℕ) → k < count → line (suc (basis k)) ≡ pos 0)
    → ((point : ℕ → ℤ) → solution point → worth m line point ≡ pos 0) → (s : ℕ) → s ≤ m → line s ≡ pos 0
vanishes m count solution basis table solved line none holds s below = conclude (reach m count solution basis table solved count s below count (omega arith))
  where
    conclude : Reached m count solution basis table solved count s below count → line s ≡ pos 0
    conclude r =
        times_cancel r.by (line s) (pos 0) r.positive
        (no_more _ r.by (line s) r.off (line (suc (basis count))) (r.others line (λ k l n. none k l)) (r.unused (omega arith))
        (holds r.point (solved.enough r.point (λ k l. lies_on m (table k) r.point (r.on k l)))))
