-- Where the same terminals are of one net, nets have the same numbers.
use Rattle.std.proofs.Common.{◌≡◌, ℕ, zero, suc, ◌+◌, ◌-◌, ◌<◌, ◌≤◌, ◌⊎◌, refl, sym, ap, subst, ◌∙◌, arith, inl, inr}
use Rattle.std.proofs.lemmas.Bool.{cases_order}
use Rattle.rt_links.specs.Numbers.{AreNumbered}

module _ (count : ℕ) (Same Same' : ℕ → ℕ → Type 0) (to : (a b : ℕ) → a < count → b < count → Same a b → Same' a b) (from : (a b : ℕ) → a < count → b < count → Same' a b → Same a b)
    (fresh net fresh' net' : ℕ → ℕ) (one : AreNumbered count Same fresh net) (two : AreNumbered count Same' fresh' net') where
  earlier_below : (a b : ℕ) → a < count → b < a → b < count
  earlier_below a b l m = omega (arith, l, m)

  -- as many nets have appeared
  fresh_same : (a : ℕ) → a ≤ count → fresh a ≡ fresh' a
  fresh_same zero l = one.start ∙ sym two.start
  fresh_same (suc a) l =
      let below : a < count = omega (arith, l) in
      let before = fresh_same a (omega (arith, l)) in
      elim (one.old_or_new a below) [
        | inl old ↦ elim (two.old_or_new a below) [
          | inl old' ↦ old.none_appears ∙ (before ∙ sym old'.none_appears)
          | inr new ↦ absurd (new.none_before old.earlier old.before (to old.earlier a (earlier_below a old.earlier below old.before) below old.one_net))
        ]
        | inr new ↦ elim (two.old_or_new a below) [
          | inl old ↦ absurd (new.none_before old.earlier old.before (from old.earlier a (earlier_below a old.earlier below old.before) below old.one_net))
          | inr new' ↦ new.one_appears ∙ (ap suc before ∙ sym new'.one_appears)
        ]
      ]

  same_up_to : (n a : ℕ) → a < n → a < count → net a ≡ net' a
  same_up_to zero a l below = absurd (omega (arith, l))
  same_up_to (suc n) a l below = elim (one.old_or_new a below) [
    | inl old ↦
        let b = old.earlier in
        let first = earlier_below a b below old.before in
        sym (one.one_number a b below old.before old.one_net)
        ∙ (same_up_to n b (omega (arith, l, old.before)) first ∙ two.one_number a b below old.before (to b a first below old.one_net))
    | inr new ↦ elim (two.old_or_new a below) [
      | inl old ↦ absurd (new.none_before old.earlier old.before (from old.earlier a (earlier_below a old.earlier below old.before) below old.one_net))
      | inr new' ↦ new.numbered ∙ (fresh_same a (omega (arith, below)) ∙ sym new'.numbered)
    ]
  ]

  -- the numbers of the nets are the same
  pub nets_numbered : (a : ℕ) → a < count → net a ≡ net' a
  nets_numbered a below = same_up_to (suc a) a (omega arith) below

-- terminals that are of one net alike have the same numbers
pub numbered_alike : (count : ℕ) (Same Same' : ℕ → ℕ → Type 0) → ((a b : ℕ) → a < count → b < count → Same a b → Same' a b)
    → ((a b : ℕ) → a < count → b < count → Same' a b → Same a b) → (fresh net : ℕ → ℕ) → AreNumbered count Same fresh net → AreNumbered count Same' fresh net
numbered_alike count Same Same' to from fresh net one = record {
  start = one.start;
  one_number = λ a b l m s. one.one_number a b l m (from b a (omega (arith, l, m)) l s);
  old_or_new = λ a l. elim (one.old_or_new a l) [
    | inl old ↦ inl (record {
      earlier = old.earlier;
      before = old.before;
      one_net = let m = old.before in to old.earlier a (omega (arith, l, m)) l old.one_net;
      none_appears = old.none_appears;
    })
    | inr new ↦ inr (record {
      none_before = λ b m s. new.none_before b m (from b a (omega (arith, l, m)) l s);
      numbered = new.numbered;
      one_appears = new.one_appears;
    })
  ];
}

-- where to be of one net is to be of one class, two terminals have one number exactly where they are of one net
module _ (count : ℕ) (Same : ℕ → ℕ → Type 0) (turned : (a b : ℕ) → Same a b → Same b a) (both : (a b c : ℕ) → Same a b → Same b c → Same a c)
    (fresh net : ℕ → ℕ) (one : AreNumbered count Same fresh net) where
  -- nets appear, and none is forgotten
  fresh_grows : (b d : ℕ) → b + d ≤ count → fresh b ≤ fresh (b + d)
  fresh_grows b zero l = let e : b + zero ≡ b = omega arith in subst (λ n. fresh b ≤ fresh n) (sym e) (omega arith)
  fresh_grows b (suc d) l =
      let e : b + suc d ≡ suc (b + d) = omega arith in
      let before = fresh_grows b d (omega (arith, l)) in
      subst (λ n. fresh b ≤ fresh n) (sym e)
      (elim (one.old_or_new (b + d) (omega (arith, l))) [
        | inl old ↦ let f = old.none_appears in omega (arith, f, before)
        | inr new ↦ let f = new.one_appears in omega (arith, f, before)
      ])

  -- the first terminal of the net of terminal a
  record IsFirst (a first : ℕ) : Type 0 where
    not_behind : first ≤ a
    one_net : (first ≡ a) ⊎ Same first a
    one_number : net first ≡ net a
    numbered : net first ≡ fresh first
    appears : fresh (suc first) ≡ suc (fresh first)

  first_of : (n a : ℕ) → a < n → a < count → (first : ℕ) × IsFirst a first
  first_of zero a l below = absurd (omega (arith, l))
  first_of (suc n) a l below = elim (one.old_or_new a below) [
    | inl old ↦
        let b = old.earlier in
        let m = old.before in
        let (first, is) = first_of n b (omega (arith, l, m)) (omega (arith, below, m)) in
        let back = is.not_behind in (
          first,
          record {
            not_behind = omega (arith, back, m);
            one_net = inr (elim (is.one_net) [ inl e ↦ subst (λ k. Same k a) (sym e) old.one_net | inr s ↦ both first b a s old.one_net ]);
            one_number = is.one_number ∙ one.one_number a b below m old.one_net;
            numbered = is.numbered;
            appears = is.appears;
          },
        )
    | inr new ↦ (a, record { not_behind = omega arith; one_net = inl refl; one_number = refl; numbered = new.numbered; appears = new.one_appears })
  ]

  -- a net that appears later has a greater number
  later : (a b first second : ℕ) → b < count → IsFirst a first → IsFirst b second → net a ≡ net b → first < second → ⊥
  later a b first second below h k e l =
      let d = second - suc first in
      let at : suc first + d ≡ second = omega (arith, l) in
      let back = k.not_behind in
      let grows = subst (λ n. fresh (suc first) ≤ fresh n) at (fresh_grows (suc first) d (subst (λ n. n ≤ count) (sym at) (omega (arith, back, below)))) in
      let low = sym h.numbered ∙ (h.one_number ∙ (e ∙ (sym k.one_number ∙ k.numbered))) in
      let up = h.appears in
      omega (arith, grows, low, up)

  to_first : (a first : ℕ) → Same a a → IsFirst a first → Same first a
  to_first a first own h = elim (h.one_net) [ inl e ↦ subst (λ k. Same k a) (sym e) own | inr s ↦ s ]

  -- terminals of one number are of one net
  pub one_number_one_net : (a b : ℕ) → a < count → b < count → Same a a → Same b b → net a ≡ net b → Same a b
  one_number_one_net a b l m own other e =
      let (first, h) = first_of (suc a) a (omega arith) l in
      let (second, k) = first_of (suc b) b (omega arith) m in
      elim (cases_order first second) [
        | inl same ↦ both a first b (turned first a (to_first a first own h)) (subst (λ n. Same n b) (sym same) (to_first b second other k))
        | inr (inl less) ↦ absurd (later a b first second m h k e less)
        | inr (inr more) ↦ absurd (later b a second first l k h (sym e) more)
      ]

  -- and the other way round
  pub one_net_one_number : (a b : ℕ) → a < count → b < count → Same a b → net a ≡ net b
  one_net_one_number a b l m s = elim (cases_order a b) [
    | inl same ↦ ap net same
    | inr (inl less) ↦ one.one_number b a m less s
    | inr (inr more) ↦ sym (one.one_number a b l more (turned a b s))
  ]
