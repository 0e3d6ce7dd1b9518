-- The rules between the masks of a table without a fault are in order.
use Rattle.std.proofs.Common.{◌≡◌, ℕ, pos, Bool, true, false, not, ◌&&◌, ◌==◌, List, [], All, length, get_or, is_some, cond, Option, Some, None, codes, refl, arith}
use Rattle.std.proofs.lemmas.Bool.Decides.{nat_tests}
use Rattle.toml.specs.Data.{Data, Members, Items, as_str, as_table}
use Rattle.rt_tech.specs.declared.table.Apart.{Apart}
use Rattle.rt_tech.specs.declared.table.Enclose.{Enclose}
use Rattle.rt_tech.specs.declared.table.Mask.{Mask}
use Rattle.rt_tech.specs.declared.table.TableCause.TheVariants.{Missing, Form, Duplicate, Name, Role, Clash}
use Rattle.rt_tech.specs.Rules.{same_on, has_apart}
use Rattle.rt_tech.specs.Tech.{IsGrid, AreOneEnclose, IsValidEnclose, AreValidEncloses, AreValidGates, AreOneApart, IsValidApart, AreValidAparts}
use Rattle.rt_keys.specs.Document.{list, inner, as_members, count}
use Rattle.rt_keys.specs.Faults.{test_here, wanted, others}
use Rattle.rt_tables.specs.Masks.{named_fault, numbered}
use Rattle.rt_keys.specs.Numbers.{Measure, length_fault}
use Rattle.rt_tables.specs.Rules.{cut_fault, enclose_table_fault, enclose_end_fault, enclose_fault, enclose_of, encloses_of, encloses_fault, channel_table_fault, channel_there, gates_at, has_on, on_at, on_fault, apart_keys, apart_table_fault, apart_end_fault, apart_fault, apart_of, aparts_of, aparts_fault}
use Rattle.rt_tables.proofs.Clear.{test_holds, here_holds, or_parts, within_clear, Follows, each_follows, all_follow, pairs_follow, none_pass, not_so, never_both}
use Rattle.rt_keys.proofs.Naming.{found_below}
use Rattle.rt_tables.proofs.Limits.{length_limits, reach_limits}

-- an enclosure that was read, with those before it
record IsReadEnclose (masks : List Mask) (before : List Enclose) (enclose : Enclose) : Type 0 where
  valid : IsValidEnclose masks enclose
  fresh : All (λ other. ¬ AreOneEnclose other enclose) before

one_enclose : (other : Enclose) (cut mask : ℕ) → other.cut ≡ cut → other.mask ≡ mask → ((other.cut == cut) && (other.mask == mask)) ≡ true
one_enclose other cut mask c m = grind (arith, nat_tests)

read_enclose : (measure : Measure) (names : Items) (masks : List Mask) → IsGrid measure.grid → (before : List Enclose) (value : Data)
    → enclose_fault measure names masks before value ≡ None → IsReadEnclose masks before (enclose_of measure names value)
unfolding enclose_fault enclose_table_fault enclose_end_fault enclose_of cut_fault
read_enclose measure names masks some before value h =
    let entry = as_members value in
    let cut_number = numbered (codes "cut") names entry in
    let mask_number = numbered (codes "mask") names entry in
    let (form, a) = or_parts _ _ h in
    let (cut, b) = or_parts _ _ a in
    let (mask, c) = or_parts _ _ b in
    let (number, d) = or_parts _ _ c in
    let (foreign, e) = or_parts _ _ d in
    let (once, clash) = or_parts _ _ e in
    let (named, role) = or_parts _ _ cut in
    let none = none_pass (λ (x : Enclose). (x.cut == cut_number) && (x.mask == mask_number)) before (not_so _ (here_holds Duplicate _ once)) in
    record {
      valid = record {
        cut = test_holds (codes "cut") Role _ role;
        mask = here_holds Clash _ clash;
        number = reach_limits measure (codes "number") entry some number;
      };
      fresh = λ k d below same. absurd (never_both _ (one_enclose (get_or before k d) cut_number mask_number same.cuts same.masks) (none k d below));
    }

pub encloses_facts : (measure : Measure) (names : Items) (masks : List Mask) (doc : Members) → IsGrid measure.grid
    → encloses_fault measure names masks doc ≡ None → AreValidEncloses masks (encloses_of measure names doc)
unfolding encloses_fault
encloses_facts measure names masks doc some h =
    let (there, a) = or_parts _ _ h in
    let (each_one, demanded) = or_parts _ _ a in
    let P = IsReadEnclose masks in
    let follow : Follows P [] (encloses_of measure names doc) = each_follows (enclose_fault measure names masks) (enclose_of measure names) P (read_enclose measure names masks some) [] (list (codes "enclose") doc) (within_clear (codes "enclose") _ each_one) in
    record {
      allowed = all_follow P (IsValidEnclose masks) _ follow (λ before e facts. facts.valid);
      different = pairs_follow P (λ a b. ¬ AreOneEnclose a b) _ follow (λ before e facts. facts.fresh);
      demanded = test_holds (codes "enclose") Missing _ demanded;
    }

-- the rules of channels
pub gates_facts : (measure : Measure) (doc : Members) → IsGrid measure.grid → channel_there measure doc ≡ None → AreValidGates (gates_at measure (inner (codes "channel") doc))
unfolding channel_there channel_table_fault
gates_facts measure doc some h =
    let (there, table) = or_parts _ _ h in
    let (cap, a) = or_parts _ _ (within_clear (codes "channel") _ table) in
    let (ext, b) = or_parts _ _ a in
    let (cross, foreign) = or_parts _ _ b in
    let channel = inner (codes "channel") doc in
    record { cap = length_limits measure (codes "cap") channel some cap; ext = length_limits measure (codes "ext") channel some ext; cross = length_limits measure (codes "cross") channel some cross }

-- a distance that was read, with those before it
record IsReadApart (masks : List Mask) (before : List Apart) (apart : Apart) : Type 0 where
  valid : IsValidApart masks apart
  fresh : All (λ other. ¬ AreOneApart other apart) before

self_on : (on : Option ℕ) → same_on on on ≡ true
self_on None = refl
self_on (Some n) = grind (arith, nat_tests)

one_apart : (other : Apart) (a b : ℕ) (on : Option ℕ) → other.a ≡ a → other.on ≡ on → other.b ≡ b → ((other.a == a) && same_on other.on on && (other.b == b)) ≡ true
one_apart other a b on x y z =
    let here : same_on other.on on ≡ true = rw y (self_on on) in
    rw here (grind (arith, nat_tests))

-- 'on' is there exactly where it is asked for
on_there : (asked : Bool) (n : ℕ) → is_some (cond asked (Some n) None) ≡ asked
on_there true n = refl
on_there false n = refl

read_apart : (measure : Measure) (names : Items) (masks : List Mask) → length masks ≡ count names → IsGrid measure.grid → (before : List Apart) (value : Data)
    → apart_fault measure names masks before value ≡ None → IsReadApart masks before (apart_of measure names masks value)
unfolding apart_fault apart_table_fault apart_end_fault apart_of
read_apart measure names masks whole some before value h =
    let entry = as_members value in
    let a_number = numbered (codes "a") names entry in
    let b_number = numbered (codes "b") names entry in
    let on_number = on_at names masks entry in
    let (form, a) = or_parts (test_here Form (is_some (as_table value))) _ h in
    let (first, b) = or_parts (named_fault (codes "a") names entry) _ a in
    let (second, c) = or_parts (named_fault (codes "b") names entry) _ b in
    let (number, d) = or_parts (length_fault measure (pos 1) (codes "number") entry) _ c in
    let (on, e) = or_parts (on_fault names masks entry) _ d in
    let (foreign, f) = or_parts (others apart_keys entry) _ e in
    let (once, clash) = or_parts (test_here Duplicate (not (has_apart before a_number on_number b_number))) _ f in
    let (first_there, first_named) = or_parts (wanted as_str (codes "a") entry) _ first in
    let (second_there, second_named) = or_parts (wanted as_str (codes "b") entry) _ second in
    let none = none_pass (λ (x : Apart). (x.a == a_number) && same_on x.on on_number && (x.b == b_number)) before (not_so _ (here_holds Duplicate _ once)) in
    record {
      valid = record { first = rw whole (found_below _ names (test_holds (codes "a") Name _ first_named)); second = rw whole (found_below _ names (test_holds (codes "b") Name _ second_named)); on = on_there (has_on names masks entry) (numbered (codes "on") names entry); stands = here_holds Clash _ clash; number = length_limits measure (codes "number") entry some number };
      fresh = λ k d below same. absurd (never_both _ (one_apart (get_or before k d) a_number b_number on_number same.firsts same.lowers same.seconds) (none k d below));
    }

pub aparts_facts : (measure : Measure) (names : Items) (masks : List Mask) (doc : Members) → length masks ≡ count names → IsGrid measure.grid
    → aparts_fault measure names masks doc ≡ None → AreValidAparts masks (aparts_of measure names masks doc)
unfolding aparts_fault
aparts_facts measure names masks doc whole some h =
    let (there, a) = or_parts _ _ h in
    let (each_one, demanded) = or_parts _ _ a in
    let P = IsReadApart masks in
    let follow : Follows P [] (aparts_of measure names masks doc) = each_follows (apart_fault measure names masks) (apart_of measure names masks) P (read_apart measure names masks whole some) [] (list (codes "apart") doc) (within_clear (codes "apart") _ each_one) in
    record {
      allowed = all_follow P (IsValidApart masks) _ follow (λ before e facts. facts.valid);
      different = pairs_follow P (λ a b. ¬ AreOneApart a b) _ follow (λ before e facts. facts.fresh);
      demanded = test_holds (codes "apart") Missing _ demanded;
    }
