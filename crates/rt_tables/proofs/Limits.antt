-- Numbers and names that pass their tests are within the limits.
use Rattle.std.proofs.Common.{◌≡◌, ℕ, zero, suc, ◌+◌, ◌*◌, ◌/◌, ◌%◌, ◌≤◌, ℤ, pos, negsuc, ◌≤ℤ◌, true, ◌&&◌, nat_le, List, [], ◌∷◌, All, length, None, refl, arith}
use Rattle.std.specs.Prelude.{int_div, int_rem, nat_abs}
use Rattle.std.specs.List.{list_all}
use Rattle.std.proofs.lemmas.Bool.{and_parts}
use Rattle.std.proofs.lemmas.Bool.Decides.{nat_tests}
use Rattle.std.proofs.lemmas.Int.{ints}
use Rattle.std.proofs.lemmas.List.Elements.{All-nil, All-cons}
use Rattle.toml.specs.Data.{Members, as_integer}
use Rattle.rt_tech.specs.declared.limits.TheConstants.{NAME_LIMIT, LAYER_LIMIT, LENGTH_LIMIT}
use Rattle.rt_tech.specs.declared.table.Which.{Which}
use Rattle.rt_tech.specs.declared.table.Which.TheVariants.{Source, Target}
use Rattle.rt_tech.specs.Tech.{IsGrid, IsLayer, IsLength, IsReach, IsName, IsNameByte}
use Rattle.rt_keys.specs.Document.{number}
use Rattle.rt_keys.specs.Faults.{wanted}
use Rattle.rt_tables.specs.Masks.{is_name, is_name_byte}
use Rattle.rt_keys.specs.Numbers.{Measure, is_within, is_on_grid, may_be, kept_in, number_fault, length_fault, length_of}
use Rattle.rt_tables.proofs.Clear.{test_holds, or_parts}

-- between the limits
pub within_limits : (low high z : ℤ) → is_within low high z ≡ true → (low ≤ℤ z) × (z ≤ℤ high)
within_limits low high z h = (grind (arith, ints), grind (arith, ints))

pub number_limits : (low high : ℤ) (key : List ℕ) (doc : Members) → number_fault low high key doc ≡ None → (low ≤ℤ number key doc) × (number key doc ≤ℤ high)
number_limits low high key doc h =
    let (there, range) = or_parts (wanted as_integer key doc) _ h in
    within_limits low high (number key doc) (test_holds key _ (is_within low high (number key doc)) range)

pub layer_limits : (key : List ℕ) (doc : Members) → number_fault (pos 0) LAYER_LIMIT key doc ≡ None → IsLayer (number key doc)
layer_limits key doc h = let limits = number_limits (pos 0) LAYER_LIMIT key doc h in record { low = limits.0; high = limits.1 }

at_least_one : (n g : ℕ) → 1 ≤ g → 1 ≤ n → n % g ≡ 0 → 1 ≤ n / g
at_least_one n g some low rest = by_steps (n / g) refl
  where
    by_steps : (q : ℕ) → q ≡ n / g → 1 ≤ q
    by_steps zero e = let whole : g * zero + n % g ≡ n = grind arith in absurd (omega arith)
    by_steps (suc q) e = omega arith

at_most_all : (n g : ℕ) → 1 ≤ g → n / g ≤ n
at_most_all n g some = grind arith

steps_of_length : (grid z : ℤ) → IsGrid grid → pos 1 ≤ℤ z → z ≤ℤ LENGTH_LIMIT → nat_abs (int_rem z grid) ≡ 0 → (pos 1 ≤ℤ int_div z grid) × (int_div z grid ≤ℤ LENGTH_LIMIT)
steps_of_length (pos g) (pos n) some low high rest =
    let grid : 1 ≤ g = omega (arith, ints, some.low) in
    let one = at_least_one n g grid (omega (arith, ints)) rest in
    let all = at_most_all n g grid in
    (omega (arith, ints), omega (arith, ints))
steps_of_length (pos g) (negsuc n) some low high rest = absurd (omega (arith, ints))
steps_of_length (negsuc g) z some low high rest = absurd (omega (arith, ints, some.low))

steps_of_reach : (grid z : ℤ) → IsGrid grid → pos 0 ≤ℤ z → z ≤ℤ LENGTH_LIMIT → (pos 0 ≤ℤ int_div z grid) × (int_div z grid ≤ℤ LENGTH_LIMIT)
steps_of_reach (pos g) (pos n) some low high =
    let grid : 1 ≤ g = omega (arith, ints, some.low) in
    let all = at_most_all n g grid in
    (omega (arith, ints), omega (arith, ints))
steps_of_reach (pos g) (negsuc n) some low high = absurd (omega (arith, ints))
steps_of_reach (negsuc g) z some low high = absurd (omega (arith, ints, some.low))

kept_length : (which : Which) (grid z : ℤ) → IsGrid grid → is_within (pos 1) LENGTH_LIMIT z ≡ true → is_on_grid which grid z ≡ true → IsLength (kept_in which grid z)
kept_length Source grid z some range on = let limits = within_limits _ _ z range in record { low = limits.0; high = limits.1 }
kept_length Target grid z some range on =
    let limits = within_limits (pos 1) LENGTH_LIMIT z range in
    let rest : nat_abs (int_rem z grid) ≡ 0 = grind (arith, nat_tests) in
    let steps = steps_of_length grid z some limits.0 limits.1 rest in
    record { low = steps.0; high = steps.1 }

kept_reach : (which : Which) (grid z : ℤ) → IsGrid grid → is_within (pos 0) LENGTH_LIMIT z ≡ true → IsReach (kept_in which grid z)
kept_reach Source grid z some range = let limits = within_limits _ _ z range in record { low = limits.0; high = limits.1 }
kept_reach Target grid z some range =
    let limits = within_limits _ _ z range in
    let steps = steps_of_reach grid z some limits.0 limits.1 in
    record { low = steps.0; high = steps.1 }

pub length_limits : (measure : Measure) (key : List ℕ) (doc : Members) → IsGrid measure.grid → length_fault measure (pos 1) key doc ≡ None → IsLength (length_of measure key doc)
length_limits measure key doc some h =
    let (there, range) = or_parts (wanted as_integer key doc) _ h in
    let may = test_holds key _ (may_be measure (pos 1) (number key doc)) range in
    let (limits, on) = and_parts (is_within (pos 1) LENGTH_LIMIT (number key doc)) (is_on_grid measure.which measure.grid (number key doc)) may in
    kept_length measure.which measure.grid (number key doc) some limits on

pub reach_limits : (measure : Measure) (key : List ℕ) (doc : Members) → IsGrid measure.grid → length_fault measure (pos 0) key doc ≡ None → IsReach (length_of measure key doc)
reach_limits measure key doc some h =
    let (there, range) = or_parts (wanted as_integer key doc) _ h in
    let may = test_holds key _ (may_be measure (pos 0) (number key doc)) range in
    let (limits, on) = and_parts (is_within (pos 0) LENGTH_LIMIT (number key doc)) (is_on_grid measure.which measure.grid (number key doc)) may in
    kept_reach measure.which measure.grid (number key doc) some limits

name_byte : (byte : ℕ) → is_name_byte byte ≡ true → IsNameByte byte
name_byte byte h = grind (arith, nat_tests)

name_bytes : (bytes : List ℕ) → list_all is_name_byte bytes ≡ true → All IsNameByte bytes
name_bytes [] h = All-nil IsNameByte
name_bytes (byte ∷ bytes) h =
    let (first, more) = and_parts (is_name_byte byte) (list_all is_name_byte bytes) h in
    All-cons IsNameByte byte bytes (name_byte byte first) (name_bytes bytes more)

pub name_limits : (bytes : List ℕ) → is_name bytes ≡ true → IsName bytes
name_limits bytes h =
    let (short, plain) = and_parts (nat_le 1 (length bytes) && nat_le (length bytes) NAME_LIMIT) (list_all is_name_byte bytes) h in
    let (some, few) = and_parts (nat_le 1 (length bytes)) (nat_le (length bytes) NAME_LIMIT) short in
    record { some = grind (arith, nat_tests); few = grind (arith, nat_tests); plain = name_bytes bytes plain }
