-- What a rule table says of its masks, which go by their numbers from 0, and which tables are valid.
use Rattle.std.specs.Prelude.{◌≡◌, ◌≢◌, ℕ, ◌<◌, ◌≤◌, ℤ, pos, negsuc, ◌≤ℤ◌, ◌⊎◌, Bool, true, false, ◌||◌, List, [], ◌∷◌, length, All, AllPairs, Option, Some, None, IfSome, IsSomeAnd, is_some, IsTrue, IsFalse, slice_get, codes}
use Rattle.std.specs.List.{list_all}
use Rattle.std.specs.Option.{option_map_or}
use Rattle.rt_tech.specs.declared.table.Apart.{Apart}
use Rattle.rt_tech.specs.declared.table.Enclose.{Enclose}
use Rattle.rt_tech.specs.declared.table.Gates.{Gates}
use Rattle.rt_tech.specs.declared.table.Kind.{Kind}
use Rattle.rt_tech.specs.declared.table.Near.{Near}
use Rattle.rt_tech.specs.declared.table.Role.{Role as MaskRole}
use Rattle.rt_tech.specs.declared.table.Role.TheVariants.{Metal, Active, Cut, Background}
use Rattle.rt_tech.specs.declared.limits.TheConstants.{GRID_LIMIT, MASK_LIMIT, KIND_LIMIT, NAME_LIMIT, LAYER_LIMIT, LEAST_LAYER, LENGTH_LIMIT}
use Rattle.rt_tech.specs.Rules.{is_role_at, has_upper, has_lower, are_enclosed, may_be_apart, are_kept_apart, are_parted}
use Rattle.rt_tech.specs.Words.{has_role, come_together, is_single, may_have_text, may_be_lower, are_different, is_ignored}
use Rattle.rt_tech.specs.declared.table.Mask.{Mask}
use Rattle.rt_tech.specs.declared.table.Tech.{Tech}

-- how many masks the table has
abbrev pub mask_count : Tech → ℕ
mask_count tech = length tech.masks

-- the mask of that number
abbrev pub mask_at : Tech → ℕ → Option Mask
mask_at tech m = slice_get tech.masks m

-- a mask's width and space, and 1 where there is no mask
abbrev pub width_of_mask : Option Mask → ℤ
width_of_mask (Some mask) = mask.width
width_of_mask None = pos 1

abbrev pub space_of_mask : Option Mask → ℤ
space_of_mask (Some mask) = mask.space
space_of_mask None = pos 1

-- the least width of the shapes of mask number m, and 1 where there is none
abbrev pub width_of : Tech → ℕ → ℤ
width_of tech m = width_of_mask (mask_at tech m)

-- the least space between the shapes of mask number m, and 1 where there is none
abbrev pub space_of : Tech → ℕ → ℤ
space_of tech m = space_of_mask (mask_at tech m)

-- the layer and the data type of a mask's shapes in a stream
abbrev pub pair_of : Mask → ℤ × ℤ
pair_of mask = (mask.layer, mask.datatype)

-- the byte is one of a to z, 0 to 9 and _
abbrev pub IsNameByte : ℕ → Type 0
IsNameByte byte = ((97 ≤ byte) × (byte ≤ 122)) ⊎ ((48 ≤ byte) × (byte ≤ 57)) ⊎ (byte ≡ 95)

-- 1 to 32 bytes of a to z, 0 to 9 and _
pub record IsName (bytes : List ℕ) : Type 0 where
  pub some : 1 ≤ length bytes
  pub few : length bytes ≤ NAME_LIMIT
  pub plain : All IsNameByte bytes

-- a layer or a data type that a table may name
pub record IsLayer (number : ℤ) : Type 0 where
  pub low : pos 0 ≤ℤ number
  pub high : number ≤ℤ LAYER_LIMIT

-- a width or a space that a table can ask for
pub record IsLength (number : ℤ) : Type 0 where
  pub low : pos 1 ≤ℤ number
  pub high : number ≤ℤ LENGTH_LIMIT

-- how many database units a step may be
pub record IsGrid (grid : ℤ) : Type 0 where
  pub low : pos 1 ≤ℤ grid
  pub high : grid ≤ℤ GRID_LIMIT

-- the layer pair of a mask's labels
pub record IsNote (note : ℤ × ℤ) : Type 0 where
  pub layer : IsLayer note.0
  pub texttype : IsLayer note.1

-- the mask by itself is in order
pub record IsValidMask (mask : Mask) : Type 0 where
  pub name : IsName mask.name
  pub no_channel : mask.name ≢ codes "channel"
  pub layer : IsLayer mask.layer
  pub datatype : IsLayer mask.datatype
  pub note : IfSome mask.note IsNote
  pub labelled : IfSome mask.note (λ note. IsTrue (may_have_text mask.role))
  pub width : IsLength mask.width
  pub space : IsLength mask.space

-- the two masks have different names, layer pairs and label pairs, and aren't both the gate or both the active
pub record DoNotClash (a b : Mask) : Type 0 where
  pub names : a.name ≢ b.name
  pub pairs : pair_of a ≢ pair_of b
  pub notes : IfSome b.note (λ note. a.note ≢ Some note)
  pub roles : IsTrue (is_single b.role) → a.role ≢ b.role

-- a cut has a metal above it and one or more different masks below it, metals, the gate or the active, none of them the
-- one above; another mask has none
abbrev pub may_be_lower_at : List Mask → ℕ → Bool
may_be_lower_at masks n = option_map_or (λ mask. may_be_lower mask.role) (slice_get masks n) false

pub record HasSides (masks : List Mask) (cut : Mask) : Type 0 where
  pub upper : IsTrue (is_role_at Metal masks cut.upper)
  pub some_lowers : 1 ≤ length cut.lowers
  pub lowers : IsTrue (list_all (may_be_lower_at masks) cut.lowers)
  pub different : IsTrue (are_different (cut.upper ∷ cut.lowers))

pub record HasNoSides (mask : Mask) : Type 0 where
  pub upper : mask.upper ≡ 0
  pub lowers : mask.lowers ≡ []

abbrev pub HasSidesOf : List Mask → Mask → MaskRole → Type 0
HasSidesOf masks mask Cut = HasSides masks mask
HasSidesOf masks mask _ = HasNoSides mask

-- neither the mask's shapes nor its labels are passed over
pub record IsKept (ignored : List (ℤ × ℤ)) (mask : Mask) : Type 0 where
  pub shapes : IsFalse (is_ignored ignored (pair_of mask))
  pub labels : IfSome mask.note (λ note. IsFalse (is_ignored ignored note))

-- a layer pair that is passed over: -1 as its second number is every number
pub record IsIgnorable (pair : ℤ × ℤ) : Type 0 where
  pub layer : (LEAST_LAYER ≤ℤ pair.0) × (pair.0 ≤ℤ LAYER_LIMIT)
  pub number : (negsuc 0 ≤ℤ pair.1) × (pair.1 ≤ℤ LAYER_LIMIT)

-- the masks of a table, together
pub record AreValidMasks (ignored : List (ℤ × ℤ)) (masks : List Mask) : Type 0 where
  pub together : IsTrue (come_together masks)
  pub sides : All (λ mask. HasSidesOf masks mask mask.role) masks
  pub kept : All (IsKept ignored) masks

-- a number that may be 0
pub record IsReach (number : ℤ) : Type 0 where
  pub low : pos 0 ≤ℤ number
  pub high : number ≤ℤ LENGTH_LIMIT

-- an enclosure is of a cut, in its upper mask or one of its lower masks
pub record IsValidEnclose (masks : List Mask) (enclose : Enclose) : Type 0 where
  pub cut : IsTrue (is_role_at Cut masks enclose.cut)
  pub mask : IsTrue (has_upper masks enclose.cut enclose.mask || has_lower masks enclose.cut enclose.mask)
  pub number : IsReach enclose.number

-- two enclosures of the same masks
pub record AreOneEnclose (a b : Enclose) : Type 0 where
  pub cuts : a.cut ≡ b.cut
  pub masks : a.mask ≡ b.mask

-- the enclosures of a table: each allowed, none twice, and each that a cut demands
pub record AreValidEncloses (masks : List Mask) (encloses : List Enclose) : Type 0 where
  pub allowed : All (IsValidEnclose masks) encloses
  pub different : AllPairs (λ a b. ¬ AreOneEnclose a b) encloses
  pub demanded : IsTrue (are_enclosed encloses 0 masks)

-- the rules of channels
pub record AreValidGates (gates : Gates) : Type 0 where
  pub cap : IsLength gates.cap
  pub ext : IsLength gates.ext
  pub cross : IsLength gates.cross

-- a distance between masks that may have one. It names a lower mask to stand on exactly where a is a cut and b one of its
-- lower masks
pub record IsValidApart (masks : List Mask) (apart : Apart) : Type 0 where
  pub first : apart.a < length masks
  pub second : apart.b < length masks
  pub on : is_some apart.on ≡ has_lower masks apart.a apart.b
  pub stands : IsTrue (may_be_apart masks apart.a apart.on apart.b)
  pub number : IsLength apart.number

-- two distances of the same masks
pub record AreOneApart (a b : Apart) : Type 0 where
  pub firsts : a.a ≡ b.a
  pub lowers : a.on ≡ b.on
  pub seconds : a.b ≡ b.b

-- the distances of a table: each allowed, none twice, and each that a cut demands
pub record AreValidAparts (masks : List Mask) (aparts : List Apart) : Type 0 where
  pub allowed : All (IsValidApart masks) aparts
  pub different : AllPairs (λ a b. ¬ AreOneApart a b) aparts
  pub demanded : IsTrue (are_kept_apart masks aparts 0 masks)

-- a background with its number, of a list of a kind
pub record IsValidNear (Number : ℤ → Type 0) (masks : List Mask) (near : Near) : Type 0 where
  pub mask : IsTrue (is_role_at Background masks near.mask)
  pub number : Number near.number

pub record AreValidNears (Number : ℤ → Type 0) (masks : List Mask) (nears : List Near) : Type 0 where
  pub allowed : All (IsValidNear Number masks) nears
  pub different : AllPairs (λ a b. a.mask ≢ b.mask) nears

-- a kind by itself is in order
pub record IsValidKind (masks : List Mask) (kind : Kind) : Type 0 where
  pub name : IsName kind.name
  pub inside : AreValidNears IsReach masks kind.inside
  pub outside : AreValidNears IsLength masks kind.outside

-- the kinds of a table with an active: 1 to 64, with different names, and each two parted by a mask
pub record AreValidKinds (masks : List Mask) (kinds : List Kind) : Type 0 where
  pub some_kinds : 1 ≤ length kinds
  pub few_kinds : length kinds ≤ KIND_LIMIT
  pub allowed : All (IsValidKind masks) kinds
  pub different : AllPairs (λ a b. a.name ≢ b.name) kinds
  pub parted : AllPairs (λ a b. IsTrue (are_parted b a)) kinds

-- a table with an active has rules of channels and kinds, and another table has neither
abbrev pub HasChannels : List Mask → Option Gates → List Kind → Bool → Type 0
HasChannels masks gates kinds true = IsSomeAnd gates AreValidGates × AreValidKinds masks kinds
HasChannels masks gates kinds false = (gates ≡ None) × (kinds ≡ [])

-- the table is in order
pub record IsValidTech (tech : Tech) : Type 0 where
  pub grid : IsGrid tech.grid
  pub some_masks : 1 ≤ mask_count tech
  pub few_masks : mask_count tech ≤ MASK_LIMIT
  pub masks : All IsValidMask tech.masks
  pub apart : AllPairs DoNotClash tech.masks
  pub ignored : All IsIgnorable tech.ignored
  pub together : AreValidMasks tech.ignored tech.masks
  pub encloses : AreValidEncloses tech.masks tech.encloses
  pub channels : HasChannels tech.masks tech.gates tech.kinds (has_role Active tech.masks)
  pub aparts : AreValidAparts tech.masks tech.aparts

-- what the rules of width and space need of a mask: its name, its layer pair and its numbers are in range
pub record IsMeasuredMask (mask : Mask) : Type 0 where
  pub name : IsName mask.name
  pub no_channel : mask.name ≢ codes "channel"
  pub layer : IsLayer mask.layer
  pub datatype : IsLayer mask.datatype
  pub width : IsLength mask.width
  pub space : IsLength mask.space

-- two masks have different names and layer pairs
pub record AreDistinct (a b : Mask) : Type 0 where
  pub names : a.name ≢ b.name
  pub pairs : pair_of a ≢ pair_of b

-- what the rules of width and space need of a table. Every valid table is so
pub record IsMeasured (tech : Tech) : Type 0 where
  pub grid : IsGrid tech.grid
  pub some_masks : 1 ≤ mask_count tech
  pub few_masks : mask_count tech ≤ MASK_LIMIT
  pub masks : All IsMeasuredMask tech.masks
  pub apart : AllPairs AreDistinct tech.masks
