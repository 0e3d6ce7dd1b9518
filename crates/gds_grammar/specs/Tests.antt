-- What a record owes where it stands, as tests.
use Rattle.std.specs.Prelude.{ℕ, ◌*◌, ◌-◌, ◌/◌, ◌%◌, Bool, true, ◌&&◌, ◌==◌, nat_le, nat_lt, nat_eq, if◌then◌else◌, List, [], ◌∷◌, length, take, drop, Option, Some, None}
use Rattle.std.specs.List.{list_any, list_all}
use Rattle.std.specs.Cmp.Lexicographic.{pointwise}
use Rattle.gds_records.specs.declared.types.TheConstants.{BOUNDARY, XY, LIBNAME, STRNAME, SNAME, STRING}
use Rattle.gds_records.specs.Records.{Item, unit}
use Rattle.gds_grammar.specs.Conditions.{is_in, trim, form_of, is_number, number_count, point_counts}

-- whether a number is at most another, where there is another
abbrev pub at_most : ℕ → Option ℕ → Bool
at_most n None = true
at_most n (Some most) = nat_le n most

-- whether there are as many points as the table says
abbrev pub enough_points : List (ℕ × ℕ × Option ℕ) → ℕ → ℕ → Bool
enough_points [] code n = true
enough_points (row ∷ rows) code n = if row.0 == code then nat_le row.1 n && at_most n row.2 else enough_points rows code n

-- whether the last eight bytes are the first eight
abbrev pub is_closed : List ℕ → Bool
is_closed body = pointwise nat_eq (take 8 body) (drop (length body - 8) body)

-- whether the points are as many as the element wants, and a polygon's last one is its first
abbrev pub has_points : Option ℕ → List ℕ → Bool
has_points None body = true
has_points (Some code) body = enough_points point_counts code (length body / 8) && (if code == BOUNDARY then is_closed body else true)

-- whether a record has as many numbers or points as its type and its element want, and its name isn't empty
unfoldable pub counted : Option ℕ → Item → Bool
counted kind i =
    (if is_number i.code then length i.body == number_count i.code * unit (form_of i.code) else true) &&
    (if i.code == XY then (length i.body % 8 == 0) && has_points kind i.body else true) &&
    (if is_in (STRNAME ∷ SNAME ∷ []) i.code then nat_lt 0 (length (trim i.body)) else true)

-- whether a byte is printable
abbrev pub is_printable : ℕ → Bool
is_printable byte = nat_le 32 byte && nat_le byte 126

-- whether a text that is looked at is printable
unfoldable pub readable : Item → Bool
readable i = if is_in (LIBNAME ∷ STRNAME ∷ SNAME ∷ STRING ∷ []) i.code then list_all is_printable (trim i.body) else true

-- whether a record names a structure by one of the names
unfoldable pub is_repeated : List (List ℕ) → Item → Bool
is_repeated names i = (i.code == STRNAME) && list_any (pointwise nat_eq (trim i.body)) names
