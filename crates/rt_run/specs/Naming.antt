-- The names of the masks that a rule is of.
use Rattle.std.specs.Prelude.{ℕ, List, [], ◌∷◌, ◌++◌, Option, Some, None, slice_get}
use Rattle.rt_tech.specs.declared.rules.RuleName.{RuleName}
use Rattle.rt_tech.specs.declared.rules.RuleName.TheVariants.{Width, Space, Size, Enclose, Cap, Ext, Cross, Apart}
use Rattle.rt_tech.specs.declared.table.Apart.{Apart as Distance}
use Rattle.rt_tech.specs.declared.table.Enclose.{Enclose as Enclosure}
use Rattle.rt_tech.specs.declared.table.Mask.{Mask}
use Rattle.rt_tech.specs.declared.table.Tech.{Tech}

-- the name of a mask that is there
abbrev pub name_in : Option Mask → List (List ℕ)
name_in (Some mask) = mask.name ∷ []
name_in None = []

-- the name of mask number m
abbrev pub mask_name : Tech → ℕ → List (List ℕ)
mask_name table m = name_in (slice_get table.masks m)

-- of an enclosure the cut's and the mask's, of a distance those of both masks
abbrev pub enclosure_names : Tech → Option Enclosure → List (List ℕ)
enclosure_names table (Some enclose) = mask_name table enclose.cut ++ mask_name table enclose.mask
enclosure_names table None = []

abbrev pub distance_names : Tech → Option Distance → List (List ℕ)
distance_names table (Some apart) = mask_name table apart.a ++ mask_name table apart.b
distance_names table None = []

-- the names of the masks of a rule, in the order in which its line says them
abbrev pub rule_names : Tech → RuleName → List (List ℕ)
rule_names table (Width m) = mask_name table m
rule_names table (Space m) = mask_name table m
rule_names table (Size m) = mask_name table m
rule_names table (Enclose place) = enclosure_names table (slice_get table.encloses place)
rule_names table Cap = []
rule_names table Ext = []
rule_names table Cross = []
rule_names table (Apart place) = distance_names table (slice_get table.aparts place)
