-- What a walk and the tests of its elements say together.
use Rattle.std.proofs.Common.{◌≡◌, ℕ, ◌<◌, ◌≤◌, Bool, true, false, MatchBool, nat_lt, List, [], ◌∷◌, ◌++◌, length, get_or, take, drop, Some, All, Contains, slice_get, sym, subst, arith, rules}
use Rattle.std.proofs.lemmas.List.{take_all, take-append-drop, length-take-le}
use Rattle.std.proofs.lemmas.List.Elements.{All-contains, Contains-append_left, Contains-push}
use Rattle.std.proofs.lemmas.Option.{slice_get-get_or}
use Rattle.rt_tech.specs.declared.table.Tech.{Tech}
use Rattle.gds_stream.specs.declared.library.Structure.{Structure}
use Rattle.gds_flat.specs.declared.walk.Walk.{Walk}
use Rattle.gds_flat.specs.declared.walk.Mark.{Mark}
use Rattle.gds_flat.specs.declared.walk.Mark.TheVariants.{Unseen, Open, Done}
use Rattle.gds_flat.specs.declared.error.ElementFault.{ElementFault}
use Rattle.gds_flat.specs.declared.error.ElementFault.TheVariants.{Unmapped, Oddity, Steps}
use Rattle.gds_flat.specs.declared.error.Stop.{Stop}
use Rattle.gds_flat.specs.declared.error.Stop.TheVariants.{Unnamed, NoMemory}
use Rattle.gds_flat.specs.Reach.Order.{done, known, new}
use Rattle.gds_flat.specs.Reach.{Name, Order, Chain, Acyclic, Shallow, Deep}
use Rattle.gds_flat.specs.Elements.{FirstFault}
use Rattle.gds_flat.specs.Walking.{name_at, names_at, IsFirst, AreMarked, IsCircle, HasWalked, StopsWith}
use Rattle.gds_flat.specs.Depths.{IsTree, IsDepthOf}
use Rattle.gds_flat.specs.Drawings.{IsAcceptedWalk}
use Rattle.gds_flat.specs.Refused.{elements_along, IsSound, Accepted, HasCycle, IsTooDeep, FlatRefused, refusal_of, refusal_to}
use Rattle.rt_cells.proofs.Lists.{mapped, mapped_from}
use Rattle.gds_flat.proofs.Going.{chain_ends}
use Rattle.std.proofs.Common.{tests}
use Rattle.rt_cells.proofs.Entries.{contains_at, contained_at}
use Rattle.gds_flat.proofs.Coming.{first_within, all_entries}

-- what is seen is in the order, and so is what is to be taken first
seen_in : (library : List Structure) {seen names o : List Name} (x : Name) → Order library seen names o → Contains seen x → Contains o x
seen_in library x done at = at
seen_in library x (known a r) at = seen_in library x r at
seen_in library x (new {seen = seen} {n = n} a e r) at = seen_in library x r (Contains-append_left seen (n ∷ []) x at)

pub first_in : (library : List Structure) {seen names o : List Name} {n : Name} → Order library seen (n ∷ names) o → Contains o n
first_in library {n = n} (known a r) = seen_in library n r a
first_in library {n = n} (new {seen = seen} a e r) = seen_in library n r (Contains-push seen n)

-- in a walk that is over, what is reached is done, and the other way round
mark_over : (library : List Structure) (marks : List Mark) (order finish : List ℕ) (k : ℕ) (m : Mark) → AreMarked library [] marks order finish
    → slice_get marks k ≡ Some m → Contains order k → Contains finish k
mark_over library marks order finish k Unseen h at among = absurd (h.unseen k at among)
mark_over library marks order finish k (Open d) h at among = let nowhere = h.open_at k d at in cc
mark_over library marks order finish k (Done d) h at among = contains_at finish d k (h.done_at k d at)

order_over : (library : List Structure) (marks : List Mark) (order finish : List ℕ) (k : ℕ) → AreMarked library [] marks order finish
    → Contains order k → Contains finish k
order_over library marks order finish k h among =
    let low = first_within library k (All-contains (IsFirst library) order k h.first among) in
    let below : k < length marks = omega (arith, h.enough) in
    mark_over library marks order finish k (get_or marks k Unseen) h (slice_get-get_or marks k Unseen below) among

over_order : (library : List Structure) (marks : List Mark) (order finish : List ℕ) (k : ℕ) → AreMarked library [] marks order finish
    → Contains finish k → Contains order k
over_order library marks order finish k h among =
    let r = contained_at finish k among in h.done_seen k r.0 (h.at_done k r.0 r.1)

names_over : (library : List Structure) (from to : List ℕ) → ((k : ℕ) → Contains from k → Contains to k)
    → All (Contains (names_at library to)) (names_at library from)
names_over library from to h =
    all_entries (Contains (names_at library to)) (names_at library from)
    (λ i n e. let r = mapped_from (name_at library) from n (contains_at (names_at library from) i n e) in
    let P : Name → Type 0 = λ x. Contains (names_at library to) x in
    subst P r.2 (mapped (name_at library) to r.0 (h r.0 r.1)))

-- a walk without a circle is acyclic
pub tree_acyclic : (library : List Structure) (top : Name) (walk : Walk) → IsTree library top walk → Acyclic library (names_at library walk.order.items)
tree_acyclic library top walk t = record {
  finish = names_at library walk.finish.items;
  ranked = t.ranked;
  all = names_over library walk.order.items walk.finish.items (λ k at. order_over library walk.marks.items walk.order.items walk.finish.items k t.marked at);
  only = names_over library walk.finish.items walk.order.items (λ k at. over_order library walk.marks.items walk.order.items walk.finish.items k t.marked at);
}

-- the top is in the finish
pub top_finished : (library : List Structure) (top : Name) (walk : Walk) (count : ℕ) → IsTree library top walk → count ≡ length walk.finish.items
    → Contains (names_at library (take count walk.finish.items)) top
top_finished library top walk count t is =
    let r = mapped_from (name_at library) walk.order.items top (first_in library t.order) in
    let over : length walk.finish.items ≤ count = omega arith in
    let P : Name → Type 0 = λ x. Contains (names_at library walk.finish.items) x in
    let Q : List ℕ → Type 0 = λ ps. Contains (names_at library ps) top in
    subst Q (sym (take_all count walk.finish.items over))
    (subst P r.2 (mapped (name_at library) walk.finish.items r.0 (order_over library walk.marks.items walk.order.items walk.finish.items r.0 t.marked r.1)))

-- the depth of the top tells whether it is deep
pub deep_or_shallow : (library : List Structure) (top : Name) (depth : ℕ) (b : Bool) → IsDepthOf library top depth → nat_lt 64 depth ≡ b
    → MatchBool b (Deep library top) (Shallow library top)
deep_or_shallow library top depth true d test =
    let many : 64 < depth = search (rules, tests) in
    let enough : 64 ≤ length d.others = omega (arith, d.reaches) in
    let split : d.others ≡ take 64 d.others ++ drop 64 d.others = sym (take-append-drop 64 d.others) in
    let P : List Name → Type 0 = λ ns. Chain library top ns in
    record { others = take 64 d.others; many = length-take-le 64 d.others enough; chain = chain_ends library top (take 64 d.others) (drop 64 d.others) (subst P split d.chain) }
deep_or_shallow library top depth false d test =
    let few : depth ≤ 64 = search (rules, tests) in
    λ names chain. omega (arith, d.most names chain)

-- a library that is sound, by a walk
pub tree_sound : (library : List Structure) (top : Name) (walk : Walk) → IsTree library top walk → Shallow library top → IsSound library top
tree_sound library top walk t shallow =
    record { order = names_at library walk.order.items; reached = t.order; acyclic = tree_acyclic library top walk t; shallow = shallow }

pub tree_deep : (library : List Structure) (top : Name) (walk : Walk) → IsTree library top walk → Deep library top → IsTooDeep library top
tree_deep library top walk t deep =
    record { order = names_at library walk.order.items; reached = t.order; acyclic = tree_acyclic library top walk t; deep = deep }

-- the first fault is a refusal
fault_refused : (library : List Structure) (top : Name) (tech : Tech) (fault : ElementFault) (sound : IsSound library top)
    → FirstFault tech (elements_along library sound.order) fault → FlatRefused library top tech (refusal_of fault)
fault_refused library top tech (Unmapped layer number) sound f = record { sound = sound; first = f }
fault_refused library top tech (Oddity offset odd) sound f = record { sound = sound; first = f }
fault_refused library top tech (Steps offset) sound f = record { sound = sound; first = f }

pub tested_refused : (library : List Structure) (top : Name) (tech : Tech) (walk : Walk) (fault : ElementFault) → IsTree library top walk → Shallow library top
    → FirstFault tech (elements_along library (names_at library walk.order.items)) fault → FlatRefused library top tech (refusal_of fault)
unfolding tree_sound
tested_refused library top tech walk fault t shallow f = fault_refused library top tech fault (tree_sound library top walk t shallow) f

-- what a walk that is accepted reaches is accepted
pub walk_accepted : (library : List Structure) (top : Name) (tech : Tech) (walk : Walk) → IsAcceptedWalk library top tech walk → Accepted library top tech
unfolding tree_sound
walk_accepted library top tech walk h = record { sound = tree_sound library top walk h.tree h.shallow; fine = h.fine }

-- a walk that stopped is a refusal
pub stop_refused : (library : List Structure) (top : Name) (tech : Tech) (stop : Stop) → StopsWith library top stop → FlatRefused library top tech (refusal_to stop)
stop_refused library top tech (Unnamed name) h = h
stop_refused library top tech NoMemory h = tt

-- the circle of a walk by its names
pub has_cycle : (library : List Structure) (top : Name) (walk : Walk) (places : List ℕ) (names : List Name) → HasWalked library top walk
    → IsCircle library walk.order.items places → names ≡ names_at library places → HasCycle library top names
has_cycle library top walk places names h c is =
    let P : List Name → Type 0 = λ ns. HasCycle library top ns in
    subst P (sym is) (record { order = names_at library walk.order.items; reached = h.order; cycle = c.cycle; on = c.on })
