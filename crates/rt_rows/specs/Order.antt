-- The order in which a template lists its names.
use Rattle.std.specs.Prelude.{◌≡◌, ℕ, ◌<◌, ◌↔◌, List, All, AllPairs, Contains}
use Rattle.rt_rows.specs.declared.name.Name.{Name}
use Rattle.rt_rows.specs.declared.name.Name.TheVariants.{Lo, Hi, Zero, Top, Wide, Tall, Size, Ll, Rr, Share, On, Under, Gap, Run, Off, Inl, Inr, Inb, Int, Chl, Chr, Chb, Cht, Eql, Eqr, Eqb, Eqt, MirLo, MirHi, SameB, SameT}

-- where a name stands: its kind's place in the list of kinds, then its numbers from the left
pub record Place : Type 0 where
  pub kind : ℕ
  pub first : ℕ
  pub second : ℕ
  pub third : ℕ

abbrev pub place_of : Name → Place
place_of (Lo i) = record { kind = 0; first = i; second = 0; third = 0 }
place_of (Hi i) = record { kind = 1; first = i; second = 0; third = 0 }
place_of Zero = record { kind = 2; first = 0; second = 0; third = 0 }
place_of Top = record { kind = 3; first = 0; second = 0; third = 0 }
place_of (Wide i) = record { kind = 4; first = i; second = 0; third = 0 }
place_of (Tall i) = record { kind = 5; first = i; second = 0; third = 0 }
place_of (Size i) = record { kind = 6; first = i; second = 0; third = 0 }
place_of (Ll i j) = record { kind = 7; first = i; second = j; third = 0 }
place_of (Rr i j) = record { kind = 8; first = i; second = j; third = 0 }
place_of (Share i j) = record { kind = 9; first = i; second = j; third = 0 }
place_of (On i j) = record { kind = 10; first = i; second = j; third = 0 }
place_of (Under i j) = record { kind = 11; first = i; second = j; third = 0 }
place_of (Gap i j) = record { kind = 12; first = i; second = j; third = 0 }
place_of (Run i j) = record { kind = 13; first = i; second = j; third = 0 }
place_of (Off i j k) = record { kind = 14; first = i; second = j; third = k }
place_of (Inl i j k) = record { kind = 15; first = i; second = j; third = k }
place_of (Inr i j k) = record { kind = 16; first = i; second = j; third = k }
place_of (Inb i j k) = record { kind = 17; first = i; second = j; third = k }
place_of (Int i j k) = record { kind = 18; first = i; second = j; third = k }
place_of (Chl i j) = record { kind = 19; first = i; second = j; third = 0 }
place_of (Chr i j) = record { kind = 20; first = i; second = j; third = 0 }
place_of (Chb i j) = record { kind = 21; first = i; second = j; third = 0 }
place_of (Cht i j) = record { kind = 22; first = i; second = j; third = 0 }
place_of (Eql i j) = record { kind = 23; first = i; second = j; third = 0 }
place_of (Eqr i j) = record { kind = 24; first = i; second = j; third = 0 }
place_of (Eqb i j) = record { kind = 25; first = i; second = j; third = 0 }
place_of (Eqt i j) = record { kind = 26; first = i; second = j; third = 0 }
place_of (MirLo i j) = record { kind = 27; first = i; second = j; third = 0 }
place_of (MirHi i j) = record { kind = 28; first = i; second = j; third = 0 }
place_of (SameB i j) = record { kind = 29; first = i; second = j; third = 0 }
place_of (SameT i j) = record { kind = 30; first = i; second = j; third = 0 }

-- the first place stands before the second
pub data IsEarlier (a b : Place) : Type 0 where
  by_kind : a.kind < b.kind → IsEarlier a b
  by_first : a.kind ≡ b.kind → a.first < b.first → IsEarlier a b
  by_second : a.kind ≡ b.kind → a.first ≡ b.first → a.second < b.second → IsEarlier a b
  by_third : a.kind ≡ b.kind → a.first ≡ b.first → a.second ≡ b.second → a.third < b.third → IsEarlier a b

-- the first name stands before the second
abbrev pub ComesBefore : Name → Name → Type 0
ComesBefore first second = IsEarlier (place_of first) (place_of second)

-- the names of a template: each of the list is in it, every name that is in it is in the list, and they stand in order, so each once
pub record ListsNames (in_template : Name → Type 0) (names : List Name) : Type 0 where
  pub each : All in_template names
  pub every : (name : Name) → in_template name → Contains names name
  pub in_order : AllPairs ComesBefore names

-- the same names, each once, in order
pub record ArePutInOrder (names sorted : List Name) : Type 0 where
  pub in_order : AllPairs ComesBefore sorted
  pub same : (name : Name) → Contains sorted name ↔ Contains names name
