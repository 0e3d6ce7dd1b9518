-- Bytes are one stream or stop being one at one place, for one cause.
use Rattle.std.proofs.Common.{◌≡◌, ℕ, zero, suc, ◌+◌, ◌<◌, inl, inr, List, [], ◌∷◌, ◌++◌, length, get_or, drop, replicate, refl, sym, ap, ◌∙◌, subst, append_assoc, arith}
use Rattle.std.proofs.lemmas.List.{append-nil, length-append, length-replicate}
use Rattle.gds_records.specs.Records.{Item, spelled, flat}
use Rattle.gds_records.proofs.Deciding.{spelled_nonzero}
use Rattle.gds_grammar.specs.declared.cause.Cause.{Cause}
use Rattle.gds_grammar.specs.declared.cause.Cause.TheVariants.{Unexpected}
use Rattle.gds_grammar.specs.Conditions.{AreStream}
use Rattle.gds_grammar.specs.Stops.{GoesOn, Stops}
use Rattle.gds_grammar.specs.Longest.{BeginStream, EndsLongest}
use Rattle.gds_grammar.proofs.Aligned.{FramedFrom, framed_from, framed_front, framed_behind, GoesOnAs, align}
use Rattle.gds_grammar.proofs.Last.{no_longer_stream}
use Rattle.gds_grammar.proofs.Reasons.{Reasoned, reasoned, one_reason, no_reason}

-- ---- zeros

same_zeros : (m n : ℕ) → replicate {A = ℕ} m 0 ≡ replicate {A = ℕ} n 0 → m ≡ n
same_zeros m n e = sym (length-replicate m 0) ∙ ap length e ∙ length-replicate n 0

head_of : {x y : ℕ} (xs ys : List ℕ) → x ∷ xs ≡ y ∷ ys → x ≡ y
head_of xs ys e = ap (λ (l : List ℕ). get_or l 0 0) e

-- the first byte behind zeros that is none is one
first_other : (m n x y : ℕ) (xs ys : List ℕ) → 0 < x → 0 < y → replicate m 0 ++ x ∷ xs ≡ replicate n 0 ++ y ∷ ys → (m ≡ n) × (x ≡ y)
first_other zero zero x y xs ys p q e = (refl, head_of xs ys e)
first_other zero (suc n) x y xs ys p q e = absurd (omega (arith, head_of xs (replicate n 0 ++ y ∷ ys) e))
first_other (suc m) zero x y xs ys p q e = absurd (omega (arith, head_of (replicate m 0 ++ x ∷ xs) ys e))
first_other (suc m) (suc n) x y xs ys p q e =
    let further = first_other m n x y xs ys p q (ap (drop 1) e) in
    (ap suc further.0, further.1)

-- zeros hold no other byte
no_other : (n m x : ℕ) (xs : List ℕ) → 0 < x → replicate n 0 ≡ replicate m 0 ++ x ∷ xs → ⊥
no_other zero m x xs p e = omega (arith, ap length e, length-append (replicate m 0) (x ∷ xs))
no_other (suc n) zero x xs p e = omega (arith, head_of (replicate n 0) xs e)
no_other (suc n) (suc m) x xs p e = no_other n m x xs p (ap (drop 1) e)

-- ---- what begins a stream

stream_framed : (items : List Item) → AreStream items → FramedFrom 0 items
stream_framed items s = framed_from 0 _ items s.placed s.each

pub begin_framed : (items : List Item) → BeginStream items → FramedFrom 0 items
begin_framed items (inl g) = framed_front 0 items (g.next ∷ g.more) (stream_framed (items ++ g.next ∷ g.more) g.stream)
begin_framed items (inr s) = stream_framed items s

begin_more : (items : List Item) (i : Item) (more : List Item) → BeginStream (items ++ i ∷ more) → (others : List Item) × AreStream (items ++ i ∷ others)
begin_more items i more (inl g) = (more ++ g.next ∷ g.more, subst AreStream (append_assoc items (i ∷ more) (g.next ∷ g.more)) g.stream)
begin_more items i more (inr s) = (more, s)

pub begun : (c : Cause) (items : List Item) (rest : List ℕ) (place : ℕ) → Reasoned c items rest place → BeginStream items
begun c items rest place (inl w) = inl w.0.goes_on
begun c items rest place (inr w) = inr w.2.stream

-- a whole stream doesn't go on
no_both : (items : List Item) → GoesOn items → AreStream items → ⊥
no_both items g s = no_longer_stream items g.next g.more s g.stream

-- ---- no records behind those of a fault

no_step : (c : Cause) (items : List Item) (rest : List ℕ) (place : ℕ) → Reasoned c items rest place → (i : Item) (more : List Item) (tail : List ℕ) → BeginStream (items ++ i ∷ more) → rest ≡ spelled i ++ tail → ⊥
no_step c items rest place (inl w) i more tail b e =
    let on = begin_more items i more b in
    no_reason items rest c i on.0 tail w.1 on.1 e
no_step c items rest place (inr w) i more tail b e =
    let on = begin_more items i more b in
    no_longer_stream items i on.0 w.2.stream on.1

-- a list of records that begins a stream is no longer than a fault's
no_more : (c : Cause) (items : List Item) (rest : List ℕ) (place : ℕ) → Reasoned c items rest place → (more : List Item) (behind : List ℕ) → BeginStream (items ++ more) → rest ≡ flat more ++ behind → more ≡ []
no_more c items rest place w [] behind b e = refl
no_more c items rest place w (i ∷ more) behind b e = absurd (no_step c items rest place w i more (flat more ++ behind) b (e ∙ append_assoc (spelled i) (flat more) behind))

-- the same records and rest
pub record Same (items others : List Item) (rest behind : List ℕ) : Type 0 where
  pub items_same : others ≡ items
  pub rest_same : behind ≡ rest

same_from_nil : (items others : List Item) (rest behind : List ℕ) (g : GoesOnAs items others rest behind) → g.more ≡ [] → Same items others rest behind
same_from_nil items others rest behind g none = record {
  items_same = g.longer ∙ ap (λ (l : List Item). items ++ l) none ∙ append-nil items;
  rest_same = sym (g.rest ∙ ap (λ (l : List Item). flat l ++ behind) none);
}

no_further : (c : Cause) (items : List Item) (rest : List ℕ) (place : ℕ) → Reasoned c items rest place → (others : List Item) (behind : List ℕ) → BeginStream others → GoesOnAs items others rest behind → Same items others rest behind
no_further c items rest place w others behind b g =
    same_from_nil items others rest behind g (no_more c items rest place w g.more behind (subst BeginStream g.longer b) g.rest)

-- ---- one fault

same_fault : (c d : Cause) (items : List Item) (rest : List ℕ) (p q : ℕ) → Reasoned c items rest p → Reasoned d items rest q → (p ≡ q) × (c ≡ d)
same_fault c d items rest p q (inl w) (inl v) = (w.0.here ∙ sym v.0.here, one_reason items rest c d w.1 v.1)
same_fault c d items rest p q (inl w) (inr v) = absurd (no_both items w.0.goes_on v.2.stream)
same_fault c d items rest p q (inr w) (inl v) = absurd (no_both items v.0.goes_on w.2.stream)
same_fault c d items rest p q (inr w) (inr v) =
    let first = first_other w.2.zeros v.2.zeros w.0 v.0 w.2.more v.2.more w.2.no_zero v.2.no_zero (sym w.2.stands ∙ v.2.stands) in
    (w.2.here ∙ ap (λ (n : ℕ). length (flat items) + n) first.0 ∙ sym v.2.here, w.1 ∙ ap Unexpected first.1 ∙ sym v.1)

moved : (c : Cause) (items others : List Item) (rest behind : List ℕ) (place : ℕ) → Same items others rest behind → Reasoned c others behind place → Reasoned c items rest place
moved c items others rest behind place s w = subst (λ (r : List ℕ). Reasoned c items r place) s.rest_same (subst (λ (l : List Item). Reasoned c l behind place) s.items_same w)

pub one_fault : (bytes : List ℕ) (p q : ℕ) (c d : Cause) → Stops bytes p c → Stops bytes q d → (p ≡ q) × (c ≡ d)
one_fault bytes p q c d a b =
    let w = reasoned c a.items a.rest p a.why in
    let v = reasoned d b.items b.rest q b.why in
    let x = begun c a.items a.rest p w in
    let y = begun d b.items b.rest q v in
    elim (align 0 a.items b.items a.rest b.rest (begin_framed a.items x) (begin_framed b.items y) (sym a.front ∙ b.front)) [
      | inl g ↦ same_fault c d a.items a.rest p q w (moved d a.items b.items a.rest b.rest q (no_further c a.items a.rest p w b.items b.rest y g) v)
      | inr g ↦
          let back = same_fault d c b.items b.rest q p v (moved c b.items a.items b.rest a.rest p (no_further d b.items b.rest q v a.items a.rest x g) w) in
          (sym back.0, sym back.1)
    ]

-- ---- the longest list

pub ends_longest : (bytes : List ℕ) (place : ℕ) (cause : Cause) → Stops bytes place cause → EndsLongest bytes place
ends_longest bytes place cause a =
    let w = reasoned cause a.items a.rest place a.why in
    let x = begun cause a.items a.rest place w in
    record {
      items = a.items;
      rest = a.rest;
      front = a.front;
      begin = x;
      longest = λ others behind e y. elim (align 0 a.items others a.rest behind (begin_framed a.items x) (begin_framed others y) (sym a.front ∙ e)) [
        | inl g ↦ omega (arith, ap length (no_further cause a.items a.rest place w others behind y g).items_same)
        | inr g ↦ omega (arith, ap length g.longer, length-append others g.more)
      ];
      here = elim w [
        | inl v ↦ inl v.0.here
        | inr v ↦ inr (v.0, v.2)
      ];
    }

-- ---- one stream

-- records with zeros behind them don't go on
no_item_of_zeros : (items more : List Item) (n : ℕ) (behind : List ℕ) → FramedFrom 0 (items ++ more) → replicate n 0 ≡ flat more ++ behind → more ≡ []
no_item_of_zeros items [] n behind f e = refl
no_item_of_zeros items (i ∷ more) n behind f e =
    absurd (spelled_nonzero i (flat more ++ behind) n (framed_behind 0 items i more f) (sym (append_assoc (spelled i) (flat more) behind) ∙ sym e))

zeros_same : (items others : List Item) (n : ℕ) (behind : List ℕ) → FramedFrom 0 others → GoesOnAs items others (replicate n 0) behind → Same items others (replicate n 0) behind
zeros_same items others n behind f g =
    same_from_nil items others (replicate n 0) behind g (no_item_of_zeros items g.more n behind (subst (FramedFrom 0) g.longer f) g.rest)

pub one_stream : (bytes : List ℕ) (a b : List Item) (m n : ℕ) → AreStream a → AreStream b → bytes ≡ flat a ++ replicate m 0 → bytes ≡ flat b ++ replicate n 0 → (a ≡ b) × (m ≡ n)
one_stream bytes a b m n s t d e =
    elim (align 0 a b (replicate m 0) (replicate n 0) (stream_framed a s) (stream_framed b t) (sym d ∙ e)) [
      | inl g ↦ let same = zeros_same a b m (replicate n 0) (stream_framed b t) g in (sym same.items_same, same_zeros m n (sym same.rest_same))
      | inr g ↦ let same = zeros_same b a n (replicate m 0) (stream_framed a s) g in (same.items_same, same_zeros m n same.rest_same)
    ]

-- ---- no stream stops

zeros_stand : (c : Cause) (items : List Item) (n place : ℕ) → AreStream items → Reasoned c items (replicate n 0) place → ⊥
zeros_stand c items n place s (inl w) = no_both items w.0.goes_on s
zeros_stand c items n place s (inr w) = no_other n w.2.zeros w.0 w.2.more w.2.no_zero w.2.stands

pub no_stream_stops : (bytes : List ℕ) (items : List Item) (n place : ℕ) (cause : Cause) → AreStream items → bytes ≡ flat items ++ replicate n 0 → Stops bytes place cause → ⊥
no_stream_stops bytes items n place cause s e a =
    let w = reasoned cause a.items a.rest place a.why in
    let x = begun cause a.items a.rest place w in
    elim (align 0 items a.items (replicate n 0) a.rest (stream_framed items s) (begin_framed a.items x) (sym e ∙ a.front)) [
      | inl g ↦ zeros_stand cause items n place s (moved cause items a.items (replicate n 0) a.rest place (zeros_same items a.items n a.rest (begin_framed a.items x) g) w)
      | inr g ↦
          let same = no_further cause a.items a.rest place w items (replicate n 0) (inr s) g in
          zeros_stand cause items n place s (moved cause items a.items (replicate n 0) a.rest place (record { items_same = sym same.items_same; rest_same = sym same.rest_same }) w)
    ]
