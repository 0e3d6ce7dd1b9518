-- The form of a rule table: all that it says of masks, rules and kinds but for the numbers.
use Rattle.std.specs.Prelude.{◌≡◌, ℕ, ◌+◌, Bool, true, false, List, [], ◌∷◌, map, Option, Some, None, is_some, option_map, slice_get, bytes_eq, if◌then◌else◌, codes}
use Rattle.std.specs.Fmt.{decimal}
use Rattle.rt_tech.specs.declared.table.Apart.{Apart}
use Rattle.rt_tech.specs.declared.table.Enclose.{Enclose}
use Rattle.rt_tech.specs.declared.table.Kind.{Kind}
use Rattle.rt_tech.specs.declared.table.Mask.{Mask}
use Rattle.rt_tech.specs.declared.table.Near.{Near}
use Rattle.rt_tech.specs.declared.table.Role.{Role}
use Rattle.rt_tech.specs.declared.table.Role.TheVariants.{Cut}
use Rattle.rt_tech.specs.declared.table.TableCause.TheVariants.{Clash}
use Rattle.rt_tech.specs.declared.table.Tech.{Tech}
use Rattle.rt_keys.specs.declared.error.TableError.{TableError}
use Rattle.rt_keys.specs.declared.error.TableError.TheVariants.{BadToml, BadTable, TablesDiffer, BadSizes, OutOfMemory}
use Rattle.rt_keys.specs.declared.stop.Fault.{Fault}
use Rattle.rt_keys.specs.declared.stop.Stop.{Stop}
use Rattle.rt_keys.specs.declared.stop.Stop.TheVariants.{At}
use Rattle.rt_keys.specs.declared.stop.Stop.TheVariants as stop
use Rattle.rt_keys.specs.Faults.{◌or_else◌, test, test_here, within, written}
use Rattle.rt_keys.specs.Words.{same_role}

-- the name of mask number m, where there is such a mask
abbrev pub name_at : Tech → ℕ → Option (List ℕ)
name_at tech m = option_map (λ mask. mask.name) (slice_get tech.masks m)

-- the name of a cut's upper mask, which no other mask has
abbrev pub upper_at : Tech → Mask → Option (List ℕ)
upper_at tech mask = if same_role mask.role Cut then name_at tech mask.upper else None

-- the form of a mask
pub record MaskForm : Type 0 where
  pub name : List ℕ
  pub role : Role
  pub has_text : Bool
  pub upper : Option (List ℕ)
  pub lowers : List (Option (List ℕ))

abbrev pub mask_form : Tech → Mask → MaskForm
mask_form tech mask = record {
  name = mask.name;
  role = mask.role;
  has_text = is_some mask.note;
  upper = upper_at tech mask;
  lowers = map (name_at tech) mask.lowers;
}

-- the form of an enclosure
pub record EncloseForm : Type 0 where
  pub cut : Option (List ℕ)
  pub mask : Option (List ℕ)

abbrev pub enclose_form : Tech → Enclose → EncloseForm
enclose_form tech enclose = record { cut = name_at tech enclose.cut; mask = name_at tech enclose.mask }

-- the form of a distance
pub record ApartForm : Type 0 where
  pub a : Option (List ℕ)
  pub b : Option (List ℕ)
  pub on : Option (Option (List ℕ))

abbrev pub apart_form : Tech → Apart → ApartForm
apart_form tech apart = record { a = name_at tech apart.a; b = name_at tech apart.b; on = option_map (name_at tech) apart.on }

-- the form of a kind
pub record KindForm : Type 0 where
  pub name : List ℕ
  pub device : Bool
  pub inside : List (Option (List ℕ))
  pub outside : List (Option (List ℕ))

abbrev pub near_form : Tech → Near → Option (List ℕ)
near_form tech near = name_at tech near.mask

abbrev pub kind_form : Tech → Kind → KindForm
kind_form tech kind = record {
  name = kind.name;
  device = kind.device;
  inside = map (near_form tech) kind.inside;
  outside = map (near_form tech) kind.outside;
}

-- the form of a table
pub record Form : Type 0 where
  pub masks : List MaskForm
  pub encloses : List EncloseForm
  pub has_channel : Bool
  pub aparts : List ApartForm
  pub kinds : List KindForm

abbrev pub form_of : Tech → Form
form_of tech = record {
  masks = map (mask_form tech) tech.masks;
  encloses = map (enclose_form tech) tech.encloses;
  has_channel = is_some tech.gates;
  aparts = map (apart_form tech) tech.aparts;
  kinds = map (kind_form tech) tech.kinds;
}

-- the two tables say the same but for their numbers
pub record HaveSameForm (source target : Tech) : Type 0 where
  pub same : form_of source ≡ form_of target

-- the two truth values, and the two names, are the same
abbrev pub same_flag : Bool → Bool → Bool
same_flag true b = b
same_flag false true = false
same_flag false false = true

abbrev pub same_name : Option (List ℕ) → Option (List ℕ) → Bool
same_name None None = true
same_name (Some a) (Some b) = bytes_eq a b
same_name None (Some b) = false
same_name (Some a) None = false

-- the names are both there or both not, and the same
abbrev pub same_on : Option (Option (List ℕ)) → Option (Option (List ℕ)) → Bool
same_on None None = true
same_on (Some a) (Some b) = same_name a b
same_on None (Some b) = false
same_on (Some a) None = false

-- A difference is a fault by Clash at its key.
abbrev pub differs : List ℕ → Bool → Option Fault
differs key same = test key Clash same

-- two lists differ entry by entry, from number i on. Where one is longer, they differ at its first further entry
abbrev pub list_difference : {A : Type 0} → (A → A → Option Fault) → ℕ → List A → List A → Option Fault
list_difference difference i [] [] = None
list_difference difference i (x ∷ xs) [] = differs (decimal i) false
list_difference difference i [] (y ∷ ys) = differs (decimal i) false
list_difference difference i (x ∷ xs) (y ∷ ys) = within (decimal i) (difference x y) or_else list_difference difference (i + 1) xs ys

-- two lower masks of cuts differ
unfoldable pub lower_difference : Tech → Tech → ℕ → ℕ → Option Fault
lower_difference s t a b = test_here Clash (same_name (name_at s a) (name_at t b))

-- the first difference of two masks
unfoldable pub mask_difference : Tech → Tech → Mask → Mask → Option Fault
mask_difference s t a b =
    differs (codes "name") (bytes_eq a.name b.name)
    or_else differs (codes "role") (same_role a.role b.role)
    or_else differs (codes "text") (same_flag (is_some a.note) (is_some b.note))
    or_else differs (codes "upper") (same_name (upper_at s a) (upper_at t b))
    or_else within (codes "lower") (list_difference (lower_difference s t) 0 a.lowers b.lowers)

-- of two enclosures
unfoldable pub enclose_difference : Tech → Tech → Enclose → Enclose → Option Fault
enclose_difference s t a b =
    differs (codes "cut") (same_name (name_at s a.cut) (name_at t b.cut))
    or_else differs (codes "mask") (same_name (name_at s a.mask) (name_at t b.mask))

-- of two distances
unfoldable pub apart_difference : Tech → Tech → Apart → Apart → Option Fault
apart_difference s t a b =
    differs (codes "a") (same_name (name_at s a.a) (name_at t b.a))
    or_else differs (codes "b") (same_name (name_at s a.b) (name_at t b.b))
    or_else differs (codes "on") (same_on (option_map (name_at s) a.on) (option_map (name_at t) b.on))

-- of two backgrounds of kinds
unfoldable pub near_difference : Tech → Tech → Near → Near → Option Fault
near_difference s t a b = differs (codes "mask") (same_name (name_at s a.mask) (name_at t b.mask))

-- of two kinds
unfoldable pub kind_difference : Tech → Tech → Kind → Kind → Option Fault
kind_difference s t a b =
    differs (codes "name") (bytes_eq a.name b.name)
    or_else differs (codes "device") (same_flag a.device b.device)
    or_else within (codes "inside") (list_difference (near_difference s t) 0 a.inside b.inside)
    or_else within (codes "outside") (list_difference (near_difference s t) 0 a.outside b.outside)

-- the first difference of two tables, key by key
unfoldable pub difference : Tech → Tech → Option Fault
difference s t =
    within (codes "mask") (list_difference (mask_difference s t) 0 s.masks t.masks)
    or_else within (codes "enclose") (list_difference (enclose_difference s t) 0 s.encloses t.encloses)
    or_else differs (codes "channel") (same_flag (is_some s.gates) (is_some t.gates))
    or_else within (codes "apart") (list_difference (apart_difference s t) 0 s.aparts t.aparts)
    or_else within (codes "kind") (list_difference (kind_difference s t) 0 s.kinds t.kinds)

-- the refusal of two tables: they don't have the same form, and the key is that of their first difference
pub record AreParted (source target : Tech) (key : List ℕ) : Type 0 where
  pub apart : HaveSameForm source target → ⊥
  pub first : option_map (λ fault. written fault.path) (difference source target) ≡ Some key

abbrev pub RefusesTables : Tech → Tech → TableError → Type 0
RefusesTables source target (TablesDiffer key) = AreParted source target key
RefusesTables source target OutOfMemory = Unit {0}
RefusesTables source target BadToml = ⊥
RefusesTables source target (BadTable key cause) = ⊥
RefusesTables source target (BadSizes key cause) = ⊥

-- a difference as an answer
abbrev pub IsTablesDiffer : Stop → TableError → Type 0
IsTablesDiffer (At fault) (TablesDiffer key) = key ≡ written fault.path
IsTablesDiffer (At fault) OutOfMemory = Unit {0}
IsTablesDiffer (At fault) BadToml = ⊥
IsTablesDiffer (At fault) (BadTable key cause) = ⊥
IsTablesDiffer (At fault) (BadSizes key cause) = ⊥
IsTablesDiffer stop.OutOfMemory error = error ≡ OutOfMemory
