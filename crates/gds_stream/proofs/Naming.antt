-- The names of the structures before, behind a record.
use Rattle.std.proofs.Common.{◌≡◌, ◌≢◌, ℕ, Bool, true, false, not, List, [], ◌∷◌, ◌++◌, refl, sym, ap, ap₂, ◌∙◌, subst, if◌then◌else◌, eqb, nat_eq, eq-eqb, append-nil, arith}
use Rattle.std.specs.Bool.{MatchBool, OnTrue}
use Rattle.std.specs.List.{list_any}
use Rattle.std.specs.Cmp.Lexicographic.{pointwise}
use Rattle.indexmap.specs.IndexSet.{insert_key}
use Rattle.rt_base.specs.Text.{IsText}
use Rattle.gds_records.specs.declared.types.TheConstants.{LIBNAME, STRNAME, SNAME, STRING}
use Rattle.gds_records.specs.Records.{Item}
use Rattle.gds_grammar.specs.Conditions.{is_in, trim, names_in, Readable}
use Rattle.gds_grammar.specs.Tests.{is_repeated}
use Rattle.gds_grammar.specs.Reading.{Cursor}

-- a record of another type has no name
pub other_type : (old : Cursor) (i : Item) → i.code ≢ STRNAME → (is_repeated old.names i ≡ false) × (old ≡ record old { names = old.names ++ names_in (i ∷ []) })
unfolding is_repeated
other_type old i other =
    let no : eqb i.code STRNAME ≡ false = grind arith in
    (rw no refl, ap (λ (ns : List (List ℕ)). let d : Cursor = record old { names = ns } in d) (sym (rw no (append-nil old.names))))

-- the name that a record has is printable
pub name_readable : (i : Item) → i.code ≡ STRNAME → Readable i → IsText (trim i.body)
name_readable i is reads = let IsTextOf : ℕ → Type 0 = λ code. OnTrue (is_in (LIBNAME ∷ STRNAME ∷ SNAME ∷ STRING ∷ []) code) (IsText (trim i.body)) in subst IsTextOf is reads

-- whether the name is new
named_at : (old new : Cursor) (i : Item) (b : Bool) → i.code ≡ STRNAME → list_any (pointwise nat_eq (trim i.body)) old.names ≡ b
    → new ≡ record old { names = (if b then old.names else old.names ++ trim i.body ∷ []) }
    → MatchBool (not b) ((is_repeated old.names i ≡ false) × (new ≡ record old { names = old.names ++ names_in (i ∷ []) })) ((is_repeated old.names i ≡ true) × (new ≡ old))
unfolding is_repeated
named_at old new i true is there same = let yes : eqb i.code STRNAME ≡ true = eq-eqb i.code STRNAME is in (rw yes there, same)
named_at old new i false is there same = let yes : eqb i.code STRNAME ≡ true = eq-eqb i.code STRNAME is in (rw yes there, rw yes same)

-- whether the name that is put among the names is new
pub named : (old new : Cursor) (i : Item) (added : Bool) (name : List ℕ) (keys later : List (List ℕ)) → i.code ≡ STRNAME → name ≡ trim i.body → keys ≡ old.names
    → added ≡ not (list_any (pointwise nat_eq name) keys) → later ≡ insert_key (pointwise nat_eq) keys name → new ≡ record old { names = later }
    → MatchBool added ((is_repeated old.names i ≡ false) × (new ≡ record old { names = old.names ++ names_in (i ∷ []) })) ((is_repeated old.names i ≡ true) × (new ≡ old))
named old new i added name keys later is is_name are_keys is_added are_later same =
    let Says : Bool → Type 0 = λ b. MatchBool b ((is_repeated old.names i ≡ false) × (new ≡ record old { names = old.names ++ names_in (i ∷ []) })) ((is_repeated old.names i ≡ true) × (new ≡ old)) in
    let with_these : added ≡ not (list_any (pointwise nat_eq (trim i.body)) old.names) = is_added ∙ ap₂ (λ (n : List ℕ) (ks : List (List ℕ)). not (list_any (pointwise nat_eq n) ks)) is_name are_keys in
    subst Says (sym with_these)
    (named_at old new i (list_any (pointwise nat_eq (trim i.body)) old.names) is refl
    (same ∙ ap (λ (ns : List (List ℕ)). let d : Cursor = record old { names = ns } in d) (are_later ∙ ap₂ (λ (ks : List (List ℕ)) (n : List ℕ). insert_key (pointwise nat_eq) ks n) are_keys is_name)))
