-- Rows that are taken into a combination, one after another.
use Rattle.std.proofs.Common.{◌≡◌, ℕ, zero, suc, ◌+◌, ◌<◌, Bool, true, false, ◌==◌, ℤ, pos, negsuc, ◌+ℤ◌, ◌*ℤ◌, ◌≤ℤ◌, List, [], ◌∷◌, ◌++◌, length, map, refl, sym, ap, subst, ◌∙◌, arith}
use Rattle.std.proofs.lemmas.Int.{ints}
use Rattle.std.proofs.lemmas.Option.{slice_get-map, slice_get-get_or}
use Rattle.std.specs.Option.{option_map}
use Rattle.rt_cells.proofs.Times.{times_sum}
use Rattle.rt_rows.specs.declared.row.Term.{Term}
use Rattle.rt_rows.specs.declared.proof.Of.TheVariants.{Up}
use Rattle.rt_rows.specs.declared.proof.Share.{Share}
use Rattle.rt_proofs.specs.Forms.{Sum, only_if, scale}
use Rattle.rt_proofs.specs.Rows.{sum_of, terms_of}
use Rattle.rt_proofs.specs.Trees.{Named, Combined, nothing, joined}
use Rattle.rt_proofs.specs.Trees.Named.{of_above}
use Rattle.rt_proofs.specs.Trees.Combined.{none, more}
use Rattle.rt_solved.specs.Systems.{System, column_of, row_at, own_column, no_row}
use Rattle.rt_simplex.specs.Combinations.{times_of, HasNoName}
use Rattle.rt_simplex.specs.Shares.{with_share, AreTaken}

times_of-append : (strips j : ℕ) (ts us : List Term) → times_of strips j (ts ++ us) ≡ times_of strips j ts +ℤ times_of strips j us
times_of-append strips j [] us = omega (arith, ints)
times_of-append strips j (t ∷ ts) us = omega (arith, ints, times_of-append strips j ts us)

times_of-scale : (strips j : ℕ) (k : ℤ) (ts : List Term) → times_of strips j (scale k ts) ≡ k *ℤ times_of strips j ts
times_of-scale strips j k [] = omega (arith, ints)
times_of-scale strips j k (t ∷ ts) =
    omega (arith, ints, times_of-scale strips j k ts, only (column_of strips t.var == j), times_sum k (only_if (column_of strips t.var == j) t.times) (times_of strips j ts))
  where
    only : (b : Bool) → only_if b (k *ℤ t.times) ≡ k *ℤ only_if b t.times
    only true = refl
    only false = omega (arith, ints)

-- one share more
record OneMore (above : List Sum) (shares : List Share) (sum row : Sum) (share : Share) : Type 0 where
  new : Sum
  adds : Combined HasNoName above (shares ++ share ∷ []) new
  terms : (strips j : ℕ) → times_of strips j new.terms ≡ times_of strips j sum.terms +ℤ share.times *ℤ times_of strips j row.terms
  least : new.least ≡ sum.least +ℤ share.times *ℤ row.least

one_more : (above : List Sum) (row : Sum) (share : Share) → pos 0 ≤ℤ share.times → Named HasNoName above share.of row → (shares : List Share) (sum : Sum) → Combined HasNoName above shares sum
    → OneMore above shares sum row share
one_more above row share h named _ _ none = record {
  new = joined share.times row nothing;
  adds = more share [] row nothing h named none;
  terms = λ strips j. times_of-append strips j (scale share.times row.terms) [] ∙ swapped _ _ (times_of-scale strips j share.times row.terms);
  least = swapped (share.times *ℤ row.least) (share.times *ℤ row.least) refl;
}
  where
    swapped : (a b : ℤ) → a ≡ b → a +ℤ pos 0 ≡ pos 0 +ℤ b
    swapped a b e = omega (arith, ints, e)
one_more above row share h named _ _ (more first shares top rest k who combined) =
    let r = one_more above row share h named shares rest combined in
    record {
      new = joined first.times top r.new;
      adds = more first (shares ++ share ∷ []) top r.new k who r.adds;
      terms = λ strips j. regrouped _ _ _ _ _ (times_of-append strips j (scale first.times top.terms) r.new.terms) (r.terms strips j) (times_of-append strips j (scale first.times top.terms) rest.terms);
      least = moved _ _ _ _ r.least;
    }
  where
    regrouped : {a : ℤ} (b c d e f : ℤ) → a ≡ b +ℤ c → c ≡ d +ℤ e → f ≡ b +ℤ d → a ≡ f +ℤ e
    regrouped b c d e f g h k = omega (arith, ints, g, h, k)

    moved : (a b c d : ℤ) → b ≡ c +ℤ d → a +ℤ b ≡ (a +ℤ c) +ℤ d
    moved a b c d e = omega (arith, ints, e)

-- a row is there under its number
named_row : (system : System) (d : ℕ) → d < length system.rows → Named HasNoName (map sum_of system.rows) (Up d) (sum_of (row_at system d))
named_row system d h = of_above d (sum_of (row_at system d)) (slice_get-map sum_of system.rows d ∙ ap (option_map sum_of) (slice_get-get_or system.rows d no_row h))

pub none_taken : (system : System) (line : ℕ → ℤ) → AreTaken system line 0 []
none_taken system line = record { sum = nothing; adds = none; terms = λ j. refl; least = refl }

module _ (system : System) (line : ℕ → ℤ) (d : ℕ) (there : d < length system.rows) where
  row_taken : (shares : List Share) (n : ℕ) → line (suc (own_column system d)) ≡ pos n → AreTaken system line d shares → AreTaken system line (suc d) (shares ++ record { times = pos n; of = Up d } ∷ [])
  row_taken shares n e so = by_more (one_more (map sum_of system.rows) (sum_of (row_at system d)) (record { times = pos n; of = Up d }) (omega (arith, ints)) (named_row system d there) shares so.sum so.adds)
    where
      by_more : OneMore (map sum_of system.rows) shares so.sum (sum_of (row_at system d)) (record { times = pos n; of = Up d }) → AreTaken system line (suc d) (shares ++ record { times = pos n; of = Up d } ∷ [])
      by_more r = record {
        sum = r.new;
        adds = r.adds;
        terms = λ j. r.terms system.strips j ∙ (λ i. so.terms j i +ℤ sym e i *ℤ times_of system.strips j (terms_of (row_at system d).terms));
        least = r.least ∙ (λ i. so.least i +ℤ sym e i *ℤ (row_at system d).least);
      }

  row_passed : (shares : List Share) → line (suc (own_column system d)) ≡ pos 0 → AreTaken system line d shares → AreTaken system line (suc d) shares
  row_passed shares e so = record {
    sum = so.sum;
    adds = so.adds;
    terms = λ j. so.terms j ∙ as_before _ _ (times_of system.strips j (terms_of (row_at system d).terms)) e;
    least = so.least ∙ as_before _ _ (row_at system d).least e;
  }
    where
      as_before : (a m b : ℤ) → m ≡ pos 0 → a ≡ a +ℤ m *ℤ b
      as_before a m b e = let gone : pos 0 *ℤ b ≡ pos 0 = omega (arith, ints) in omega (arith, ints, ap (λ z. z *ℤ b) e, gone)

  -- one row more
  pub taken_further : (shares : List Share) (times : ℤ) → line (suc (own_column system d)) ≡ times → pos 0 ≤ℤ times → AreTaken system line d shares → AreTaken system line (d + 1) (with_share shares d times)
  taken_further shares times e h so = subst (λ n. AreTaken system line n (with_share shares d times)) (omega arith) (step times e h)
    where
      step : (times : ℤ) → line (suc (own_column system d)) ≡ times → pos 0 ≤ℤ times → AreTaken system line (suc d) (with_share shares d times)
      step (pos zero) e h = row_passed shares e so
      step (pos (suc n)) e h = row_taken shares (suc n) e so
      step (negsuc n) e h = absurd (omega (arith, ints, h))
