-- The words of roles.
use Rattle.std.specs.Prelude.{ℕ, if◌then◌else◌, List, Option, Some, None, codes, bytes_eq}
use Rattle.rt_tech.specs.declared.table.Role.{Role}
use Rattle.rt_tech.specs.declared.table.Role.TheVariants.{Metal, Gate, Active, Cut, Background}
pub use Rattle.rt_tech.specs.Words.{same_role}

-- the role that a word names
abbrev pub role_named : List ℕ → Option Role
role_named word =
    if bytes_eq word (codes "metal") then Some Metal
    else if bytes_eq word (codes "gate") then Some Gate
    else if bytes_eq word (codes "active") then Some Active
    else if bytes_eq word (codes "cut") then Some Cut
    else if bytes_eq word (codes "background") then Some Background
    else None
