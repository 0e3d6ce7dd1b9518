-- Two tables have no difference exactly where they have the same form.
use Rattle.std.proofs.Common.{◌≡◌, ℕ, ◌+◌, Bool, true, false, List, [], ◌∷◌, map, Option, Some, None, Err, refl, sym, ap, ◌∙◌, bytes_eq, is_some, option_map, codes}
use Rattle.std.specs.Fmt.{decimal}
use Rattle.std.proofs.lemmas.Slice.Eq.{bytes_eq-Decides}
use Rattle.rt_tech.specs.declared.table.Apart.{Apart}
use Rattle.rt_tech.specs.declared.table.Enclose.{Enclose}
use Rattle.rt_tech.specs.declared.table.Kind.{Kind}
use Rattle.rt_tech.specs.declared.table.Mask.{Mask}
use Rattle.rt_tech.specs.declared.table.Near.{Near}
use Rattle.rt_tech.specs.declared.table.Role.{Role}
use Rattle.rt_tech.specs.declared.table.Role.TheVariants.{Metal, Gate, Active, Cut, Background}
use Rattle.rt_tech.specs.declared.table.TableCause.TheVariants.{Clash}
use Rattle.rt_tech.specs.declared.table.Tech.{Tech}
use Rattle.rt_keys.specs.declared.stop.Fault.{Fault}
use Rattle.rt_keys.specs.declared.error.TableError.{TableError}
use Rattle.rt_keys.specs.declared.error.TableError.TheVariants.{BadToml, BadTable, TablesDiffer, BadSizes}
use Rattle.rt_keys.specs.declared.error.TableError.TheVariants as refusal
use Rattle.rt_keys.specs.declared.stop.Stop.{Stop}
use Rattle.rt_keys.specs.declared.stop.Stop.TheVariants.{At, OutOfMemory}
use Rattle.rt_keys.specs.Faults.{◌or_else◌, test_here, within, Reads}
use Rattle.rt_tables.specs.Forms.{MaskForm, name_at, upper_at, mask_form, enclose_form, apart_form, kind_form, near_form, form_of, HaveSameForm, same_flag, same_name, same_on, differs, list_difference, lower_difference, mask_difference, enclose_difference, apart_difference, near_difference, kind_difference, difference, IsTablesDiffer, RefusesTables}
use Rattle.rt_keys.specs.Words.{same_role}

-- there is no difference exactly where the fact holds
pub record Tells (found : Option Fault) (P : Type 0) : Type 0 where
  pub to : found ≡ None → P
  pub from : P → found ≡ None

-- the test tells the fact
pub record Decides (holds : Bool) (P : Type 0) : Type 0 where
  pub to : holds ≡ true → P
  pub from : P → holds ≡ true

some_none : {A : Type 0} {a : A} → Some a ≡ None → ⊥
some_none e = cc

false_true : false ≡ true → ⊥
false_true e = cc

tells_test : (key : List ℕ) (holds : Bool) {P : Type 0} → Decides holds P → Tells (differs key holds) P
tells_test key true h = record { to = λ _. h.to refl; from = λ _. refl }
tells_test key false h = record { to = λ e. absurd (some_none e); from = λ p. absurd (false_true (h.from p)) }

tells_here : (holds : Bool) {P : Type 0} → Decides holds P → Tells (test_here Clash holds) P
tells_here true h = record { to = λ _. h.to refl; from = λ _. refl }
tells_here false h = record { to = λ e. absurd (some_none e); from = λ p. absurd (false_true (h.from p)) }

tells_or : {d e : Option Fault} {P Q : Type 0} → Tells d P → Tells e Q → Tells (d or_else e) (P × Q)
tells_or {d = None} h k = record { to = λ e. (h.to refl, k.to e); from = λ p. k.from p.1 }
tells_or {d = Some fault} h k = record { to = λ e. absurd (some_none e); from = λ p. h.from p.0 }

tells_within : (key : List ℕ) {d : Option Fault} {P : Type 0} → Tells d P → Tells (within key d) P
tells_within key {d = None} h = h
tells_within key {d = Some fault} h = record { to = λ e. absurd (some_none e); from = λ p. absurd (some_none (h.from p)) }

tells_as : {d : Option Fault} {P Q : Type 0} → (P → Q) → (Q → P) → Tells d P → Tells d Q
tells_as to from h = record { to = λ e. to (h.to e); from = λ q. h.from (from q) }

-- what the tests tell
decides_bytes : (a b : List ℕ) → Decides (bytes_eq a b) (a ≡ b)
decides_bytes a b = record { to = (bytes_eq-Decides a b).0; from = (bytes_eq-Decides a b).1 }

decides_flag : (a b : Bool) → Decides (same_flag a b) (a ≡ b)
decides_flag true true = record { to = λ _. refl; from = λ _. refl }
decides_flag true false = record { to = λ e. cc; from = λ e. cc }
decides_flag false true = record { to = λ e. cc; from = λ e. cc }
decides_flag false false = record { to = λ _. refl; from = λ _. refl }

decides_name : (a b : Option (List ℕ)) → Decides (same_name a b) (a ≡ b)
decides_name None None = record { to = λ _. refl; from = λ _. refl }
decides_name None (Some b) = record { to = λ e. cc; from = λ e. cc }
decides_name (Some a) None = record { to = λ e. cc; from = λ e. cc }
decides_name (Some a) (Some b) = record { to = λ e. ap (λ x. Some x) ((decides_bytes a b).to e); from = λ e. (decides_bytes a b).from cc }

decides_on : (a b : Option (Option (List ℕ))) → Decides (same_on a b) (a ≡ b)
decides_on None None = record { to = λ _. refl; from = λ _. refl }
decides_on None (Some b) = record { to = λ e. cc; from = λ e. cc }
decides_on (Some a) None = record { to = λ e. cc; from = λ e. cc }
decides_on (Some a) (Some b) = record { to = λ e. ap (λ x. Some x) ((decides_name a b).to e); from = λ e. (decides_name a b).from cc }

no : {P : Type 0} → (P → ⊥) → Decides false P
no never = record { to = λ e. absurd (false_true e); from = λ p. absurd (never p) }

yes : {A : Type 0} {a : A} → Decides true (a ≡ a)
yes = record { to = λ _. refl; from = λ _. refl }

decides_role : (a b : Role) → Decides (same_role a b) (a ≡ b)
decides_role Metal Metal = yes
decides_role Metal Gate = no (λ e. cc)
decides_role Metal Active = no (λ e. cc)
decides_role Metal Cut = no (λ e. cc)
decides_role Metal Background = no (λ e. cc)
decides_role Gate Metal = no (λ e. cc)
decides_role Gate Gate = yes
decides_role Gate Active = no (λ e. cc)
decides_role Gate Cut = no (λ e. cc)
decides_role Gate Background = no (λ e. cc)
decides_role Active Metal = no (λ e. cc)
decides_role Active Gate = no (λ e. cc)
decides_role Active Active = yes
decides_role Active Cut = no (λ e. cc)
decides_role Active Background = no (λ e. cc)
decides_role Cut Metal = no (λ e. cc)
decides_role Cut Gate = no (λ e. cc)
decides_role Cut Active = no (λ e. cc)
decides_role Cut Cut = yes
decides_role Cut Background = no (λ e. cc)
decides_role Background Metal = no (λ e. cc)
decides_role Background Gate = no (λ e. cc)
decides_role Background Active = no (λ e. cc)
decides_role Background Cut = no (λ e. cc)
decides_role Background Background = yes

-- two lists
tells_list : {A F : Type 0} (d : A → A → Option Fault) (f g : A → F) → ((x y : A) → Tells (d x y) (f x ≡ g y))
    → (i : ℕ) (xs ys : List A) → Tells (list_difference d i xs ys) (map f xs ≡ map g ys)
tells_list d f g h i [] [] = record { to = λ _. refl; from = λ _. refl }
tells_list d f g h i (x ∷ xs) [] = record { to = λ e. absurd (some_none e); from = λ e. cc }
tells_list d f g h i [] (y ∷ ys) = record { to = λ e. absurd (some_none e); from = λ e. cc }
tells_list d f g h i (x ∷ xs) (y ∷ ys) =
    tells_as (λ p. let head : f x ≡ g y = p.0 in let tail : map f xs ≡ map g ys = p.1 in cc) (λ e. (cc, cc))
    (tells_or (tells_within (decimal i) (h x y)) (tells_list d f g h (i + 1) xs ys))

tells_lower : (s t : Tech) (a b : ℕ) → Tells (lower_difference s t a b) (name_at s a ≡ name_at t b)
unfolding lower_difference
tells_lower s t a b = tells_here _ (decides_name (name_at s a) (name_at t b))

tells_lowers : (s t : Tech) (xs ys : List ℕ) → Tells (list_difference (lower_difference s t) 0 xs ys) (map (name_at s) xs ≡ map (name_at t) ys)
tells_lowers s t xs ys = tells_list (lower_difference s t) (name_at s) (name_at t) (tells_lower s t) 0 xs ys

abbrev made_of : List ℕ → Role → Bool → Option (List ℕ) → List (Option (List ℕ)) → MaskForm
made_of name role has_text upper lowers = record { name = name; role = role; has_text = has_text; upper = upper; lowers = lowers }

mask_forms : (n n' : List ℕ) (r r' : Role) (f f' : Bool) (u u' : Option (List ℕ)) (l l' : List (Option (List ℕ)))
    → n ≡ n' → r ≡ r' → f ≡ f' → u ≡ u' → l ≡ l' → made_of n r f u l ≡ made_of n' r' f' u' l'
mask_forms n n' r r' f f' u u' l l' names roles texts uppers lowers = rw (names, roles, texts, uppers, lowers) refl

tells_mask : (s t : Tech) (a b : Mask) → Tells (mask_difference s t a b) (mask_form s a ≡ mask_form t b)
unfolding mask_difference
tells_mask s t a b =
    tells_as (λ p. mask_forms _ _ _ _ _ _ _ _ _ _ p.0 p.1.0 p.1.1.0 p.1.1.1.0 p.1.1.1.1) (λ e. (ap (λ m. m.name) e, (ap (λ m. m.role) e, (ap (λ m. m.has_text) e, (ap (λ m. m.upper) e, ap (λ m. m.lowers) e)))))
    (tells_or (tells_test (codes "name") _ (decides_bytes a.name b.name))
    (tells_or (tells_test (codes "role") _ (decides_role a.role b.role))
    (tells_or (tells_test (codes "text") _ (decides_flag (is_some a.note) (is_some b.note)))
    (tells_or (tells_test (codes "upper") _ (decides_name (upper_at s a) (upper_at t b)))
    (tells_within (codes "lower") (tells_lowers s t a.lowers b.lowers))))))

tells_enclose : (s t : Tech) (a b : Enclose) → Tells (enclose_difference s t a b) (enclose_form s a ≡ enclose_form t b)
unfolding enclose_difference
tells_enclose s t a b =
    tells_as (λ p. encloses p.0 p.1) (λ e. (ap (λ m. m.cut) e, ap (λ m. m.mask) e))
    (tells_or (tells_test (codes "cut") _ (decides_name (name_at s a.cut) (name_at t b.cut))) (tells_test (codes "mask") _ (decides_name (name_at s a.mask) (name_at t b.mask))))
  where
    encloses : name_at s a.cut ≡ name_at t b.cut → name_at s a.mask ≡ name_at t b.mask → enclose_form s a ≡ enclose_form t b
    encloses cuts masks = rw (cuts, masks) refl

tells_apart : (s t : Tech) (a b : Apart) → Tells (apart_difference s t a b) (apart_form s a ≡ apart_form t b)
unfolding apart_difference
tells_apart s t a b =
    tells_as (λ p. aparts p.0 p.1.0 p.1.1) (λ e. (ap (λ m. m.a) e, (ap (λ m. m.b) e, ap (λ m. m.on) e)))
    (tells_or (tells_test (codes "a") _ (decides_name (name_at s a.a) (name_at t b.a)))
    (tells_or (tells_test (codes "b") _ (decides_name (name_at s a.b) (name_at t b.b)))
    (tells_test (codes "on") _ (decides_on (option_map (name_at s) a.on) (option_map (name_at t) b.on)))))
  where
    aparts : name_at s a.a ≡ name_at t b.a → name_at s a.b ≡ name_at t b.b → option_map (name_at s) a.on ≡ option_map (name_at t) b.on → apart_form s a ≡ apart_form t b
    aparts firsts seconds ons = rw (firsts, seconds, ons) refl

tells_near : (s t : Tech) (a b : Near) → Tells (near_difference s t a b) (near_form s a ≡ near_form t b)
unfolding near_difference
tells_near s t a b = tells_test (codes "mask") _ (decides_name (name_at s a.mask) (name_at t b.mask))

tells_nears : (s t : Tech) (xs ys : List Near) → Tells (list_difference (near_difference s t) 0 xs ys) (map (near_form s) xs ≡ map (near_form t) ys)
tells_nears s t xs ys = tells_list (near_difference s t) (near_form s) (near_form t) (tells_near s t) 0 xs ys

tells_kind : (s t : Tech) (a b : Kind) → Tells (kind_difference s t a b) (kind_form s a ≡ kind_form t b)
unfolding kind_difference
tells_kind s t a b =
    tells_as (λ p. kinds p.0 p.1.0 p.1.1.0 p.1.1.1) (λ e. (ap (λ m. m.name) e, (ap (λ m. m.device) e, (ap (λ m. m.inside) e, ap (λ m. m.outside) e))))
    (tells_or (tells_test (codes "name") _ (decides_bytes a.name b.name))
    (tells_or (tells_test (codes "device") _ (decides_flag a.device b.device))
    (tells_or (tells_within (codes "inside") (tells_nears s t a.inside b.inside))
    (tells_within (codes "outside") (tells_nears s t a.outside b.outside)))))
  where
    kinds : a.name ≡ b.name → a.device ≡ b.device → map (near_form s) a.inside ≡ map (near_form t) b.inside
        → map (near_form s) a.outside ≡ map (near_form t) b.outside → kind_form s a ≡ kind_form t b
    kinds names devices insides outsides = rw (names, devices, insides, outsides) refl

tells_forms : (s t : Tech) → Tells (difference s t) (form_of s ≡ form_of t)
unfolding difference
tells_forms s t =
    tells_as (λ p. forms p.0 p.1.0 p.1.1.0 p.1.1.1.0 p.1.1.1.1) (λ e. (ap (λ m. m.masks) e, (ap (λ m. m.encloses) e, (ap (λ m. m.has_channel) e, (ap (λ m. m.aparts) e, ap (λ m. m.kinds) e)))))
    (tells_or (tells_within (codes "mask") (tells_list (mask_difference s t) (mask_form s) (mask_form t) (tells_mask s t) 0 s.masks t.masks))
    (tells_or (tells_within (codes "enclose") (tells_list (enclose_difference s t) (enclose_form s) (enclose_form t) (tells_enclose s t) 0 s.encloses t.encloses))
    (tells_or (tells_test (codes "channel") _ (decides_flag (is_some s.gates) (is_some t.gates)))
    (tells_or (tells_within (codes "apart") (tells_list (apart_difference s t) (apart_form s) (apart_form t) (tells_apart s t) 0 s.aparts t.aparts))
    (tells_within (codes "kind") (tells_list (kind_difference s t) (kind_form s) (kind_form t) (tells_kind s t) 0 s.kinds t.kinds))))))
  where
    forms : map (mask_form s) s.masks ≡ map (mask_form t) t.masks → map (enclose_form s) s.encloses ≡ map (enclose_form t) t.encloses
        → is_some s.gates ≡ is_some t.gates → map (apart_form s) s.aparts ≡ map (apart_form t) t.aparts
        → map (kind_form s) s.kinds ≡ map (kind_form t) t.kinds → form_of s ≡ form_of t
    forms masks encloses gates aparts kinds = rw (masks, encloses, gates, aparts, kinds) refl

-- without a difference the form is the same
pub same_form_from_none : (s t : Tech) → difference s t ≡ None → HaveSameForm s t
same_form_from_none s t e = record { same = (tells_forms s t).to e }

-- a difference is told by a refusal
pub refuses_tables : {A : Type 0} (Good : A → Type 0) (s t : Tech) (stop : Stop) (error : TableError) → Reads (Err stop) (difference s t) Good → IsTablesDiffer stop error → RefusesTables s t error
refuses_tables Good s t (At found) (TablesDiffer key) reads named =
    record { apart = λ h. absurd (some_none (sym reads ∙ (tells_forms s t).from h.same)); first = rw (reads, named) refl }
refuses_tables Good s t (At found) refusal.OutOfMemory reads named = tt
refuses_tables Good s t (At found) BadToml reads named = absurd named
refuses_tables Good s t (At found) (BadTable key cause) reads named = absurd named
refuses_tables Good s t (At found) (BadSizes key cause) reads named = absurd named
refuses_tables Good s t OutOfMemory (TablesDiffer key) reads named = cc
refuses_tables Good s t OutOfMemory refusal.OutOfMemory reads named = tt
refuses_tables Good s t OutOfMemory BadToml reads named = cc
refuses_tables Good s t OutOfMemory (BadTable key cause) reads named = cc
refuses_tables Good s t OutOfMemory (BadSizes key cause) reads named = cc
