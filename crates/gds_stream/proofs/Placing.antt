-- Records at their places: what holds of them before they are placed holds of them there.
use Rattle.std.proofs.Common.{◌≡◌, ℕ, ◌+◌, List, [], ◌∷◌, ◌++◌, length, map, Option, refl, ap}
use Rattle.std.specs.List.{cons_option}
use Rattle.gds_records.specs.Records.{Item, spelled, flat, Framed}
use Rattle.gds_grammar.specs.Conditions.{kind_after, Counted, InContext, Placed, name_in, names_in}

-- the record at a place
abbrev pub at_place : ℕ → Item → Item
at_place n i = record { at = n; code = i.code; form = i.form; body = i.body }

-- the records, one behind the other, the first one at a place
abbrev pub placed : ℕ → List Item → List Item
placed n [] = []
placed n (i ∷ items) = at_place n i ∷ placed (n + length (spelled i)) items

-- where they end
abbrev pub end_of : ℕ → List Item → ℕ
end_of n [] = n
end_of n (i ∷ items) = end_of (n + length (spelled i)) items

pub placed-append : (n : ℕ) (a b : List Item) → placed n (a ++ b) ≡ placed n a ++ placed (end_of n a) b
placed-append n [] b = refl
placed-append n (i ∷ a) b = ap (λ (items : List Item). at_place n i ∷ items) (placed-append (n + length (spelled i)) a b)

pub flat_placed : (n : ℕ) (items : List Item) → flat (placed n items) ≡ flat items
flat_placed n [] = refl
flat_placed n (i ∷ items) = ap (λ (bytes : List ℕ). spelled i ++ bytes) (flat_placed (n + length (spelled i)) items)

pub Placed_there : (n : ℕ) (items : List Item) → Placed n (placed n items)
Placed_there n [] = tt
Placed_there n (i ∷ items) = (refl, Placed_there (n + length (spelled i)) items)

pub codes_placed : (n : ℕ) (items : List Item) → map (λ i. i.code) (placed n items) ≡ map (λ i. i.code) items
codes_placed n [] = refl
codes_placed n (i ∷ items) = ap (λ (codes : List ℕ). i.code ∷ codes) (codes_placed (n + length (spelled i)) items)

pub names_placed : (n : ℕ) (items : List Item) → names_in (placed n items) ≡ names_in items
names_placed n [] = refl
names_placed n (i ∷ items) = ap (λ (names : List (List ℕ)). cons_option (name_in i) names) (names_placed (n + length (spelled i)) items)

Framed_there : (n : ℕ) (i : Item) → Framed i → Framed (at_place n i)
Framed_there n i f = record {
  even = f.even;
  short = f.short;
  type_is_known = f.type_is_known;
  items = f.items;
  code_is_byte = f.code_is_byte;
  form_is_byte = f.form_is_byte;
  body_is_bytes = f.body_is_bytes;
}

Counted_there : (n : ℕ) (kind : Option ℕ) (i : Item) → Counted kind i → Counted kind (at_place n i)
Counted_there n kind i c = record { numbers = c.numbers; points = c.points; names = c.names }

pub InContext_there : (n : ℕ) (kind : Option ℕ) (items : List Item) → InContext kind items → InContext kind (placed n items)
InContext_there n kind [] all = tt
InContext_there n kind (i ∷ items) all =
    (Framed_there n i all.0, Counted_there n kind i all.1, all.2, InContext_there (n + length (spelled i)) (kind_after kind i) items all.3)
