-- Two lists of records that the same bytes begin with: one begins with the other.
use Rattle.std.proofs.Common.{◌≡◌, ℕ, ◌+◌, ◌⊎◌, inl, inr, List, [], ◌∷◌, ◌++◌, length, Option, refl, sym, ap₂, ◌∙◌, subst, append_assoc}
use Rattle.gds_records.specs.Records.{Item, spelled, flat, Framed}
use Rattle.gds_records.proofs.Deciding.{prefix_code}
use Rattle.gds_grammar.specs.Conditions.{kind_after, InContext, Placed}

-- each record is framed, and stands where the ones before it end
abbrev pub FramedFrom : ℕ → List Item → Type 0
FramedFrom place [] = Unit {0}
FramedFrom place (i ∷ items) = Framed i × (i.at ≡ place) × FramedFrom (place + length (spelled i)) items

pub framed_from : (place : ℕ) (kind : Option ℕ) (items : List Item) → Placed place items → InContext kind items → FramedFrom place items
framed_from place kind [] placed each = tt
framed_from place kind (i ∷ items) placed each = (each.0, placed.0, framed_from (place + length (spelled i)) (kind_after kind i) items placed.1 each.3)

pub framed_front : (place : ℕ) (items more : List Item) → FramedFrom place (items ++ more) → FramedFrom place items
framed_front place [] more f = tt
framed_front place (i ∷ items) more f = (f.0, f.1, framed_front (place + length (spelled i)) items more f.2)

pub framed_behind : (place : ℕ) (items : List Item) (i : Item) (more : List Item) → FramedFrom place (items ++ i ∷ more) → Framed i
framed_behind place [] i more f = f.0
framed_behind place (j ∷ items) i more f = framed_behind (place + length (spelled j)) items i more f.2

-- the first list goes on as the second
pub record GoesOnAs (is js : List Item) (r s : List ℕ) : Type 0 where
  pub more : List Item
  pub longer : js ≡ is ++ more
  pub rest : r ≡ flat more ++ s

-- framed items of the same code, form, body and place are one
same_item : (i j : Item) (place : ℕ) → i.at ≡ place → j.at ≡ place → i.code ≡ j.code → i.form ≡ j.form → i.body ≡ j.body → i ≡ j
same_item i j place p q code form body =
    let at : i.at ≡ j.at = p ∙ sym q in
    λ k. record { at = at k; code = code k; form = form k; body = body k }

further : (i j : Item) (is js : List Item) (r s : List ℕ) → i ≡ j → GoesOnAs is js r s → GoesOnAs (i ∷ is) (j ∷ js) r s
further i j is js r s same g = record { more = g.more; longer = ap₂ (λ (x : Item) (xs : List Item). x ∷ xs) (sym same) g.longer; rest = g.rest }

-- one of two lists of framed records at a place, spelled by the same bytes, goes on as the other
pub align : (place : ℕ) (is js : List Item) (r s : List ℕ) → FramedFrom place is → FramedFrom place js → flat is ++ r ≡ flat js ++ s → GoesOnAs is js r s ⊎ GoesOnAs js is s r
align place [] js r s f g e = inl (record { more = js; longer = refl; rest = e })
align place (i ∷ is) [] r s f g e = inr (record { more = i ∷ is; longer = refl; rest = sym e })
align place (i ∷ is) (j ∷ js) r s f g e =
    let same = prefix_code i j (flat is ++ r) (flat js ++ s) f.0 g.0 (sym (append_assoc (spelled i) (flat is) r) ∙ e ∙ append_assoc (spelled j) (flat js) s) in
    let one : i ≡ j = same_item i j place f.1 g.1 same.0 same.1 same.2 in
    elim (align (place + length (spelled i)) is js r s f.2 (subst (λ (x : Item). FramedFrom (place + length (spelled x)) js) (sym one) g.2) same.3) [
      | inl on ↦ inl (further i j is js r s one on)
      | inr on ↦ inr (further j i js is s r (sym one) on)
    ]
