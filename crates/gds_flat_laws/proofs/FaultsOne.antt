-- The first element that isn't fine has one fault.
use Rattle.std.proofs.Common.{◌≡◌, ℕ, zero, suc, ◌<◌, ◌⊎◌, ℤ, inl, inr, List, [], ◌∷◌, ◌++◌, All, refl, sym, ap, subst, ◌∙◌}
use Rattle.std.proofs.Math.Path.{ap₂}
use Rattle.std.proofs.lemmas.Bool.{cases_order}
use Rattle.std.proofs.lemmas.List.Elements.{All-head, All-tail}
use Rattle.rt_tech.specs.declared.table.Tech.{Tech}
use Rattle.gds_stream.specs.declared.library.Element.{Element}
use Rattle.gds_flat.specs.declared.error.Odd.{Odd}
use Rattle.gds_flat.specs.declared.error.Odd.TheVariants.{PathType, PathWidth, BoxElement, Magnification, Angle, Absolute, Slanted}
use Rattle.gds_flat.specs.declared.error.ElementFault.{ElementFault}
use Rattle.gds_flat.specs.declared.error.ElementFault.TheVariants.{Unmapped, Oddity, Steps}
use Rattle.gds_flat.specs.Elements.{rank, FirstOdd, IsUnmapped, IsOddAt, FailsAt, Fine, FaultOf, FirstFault}
use Rattle.gds_flat_laws.proofs.Faults.{lacks_and_has, pairs_one, unmapped_and_tested, fine_and_fault}

-- ---- the first odd

-- the odd at a place in the order of the tests
odd_at : ℕ → Odd
odd_at zero = PathType
odd_at (suc zero) = PathWidth
odd_at (suc (suc zero)) = BoxElement
odd_at (suc (suc (suc zero))) = Magnification
odd_at (suc (suc (suc (suc zero)))) = Angle
odd_at (suc (suc (suc (suc (suc zero))))) = Absolute
odd_at (suc (suc (suc (suc (suc (suc n)))))) = Slanted

at_rank : (odd : Odd) → odd_at (rank odd) ≡ odd
unfolding odd_at
at_rank PathType = refl
at_rank PathWidth = refl
at_rank BoxElement = refl
at_rank Magnification = refl
at_rank Angle = refl
at_rank Absolute = refl
at_rank Slanted = refl

odd_by : (element : Element) (a b : Odd) → FirstOdd element a → FirstOdd element b → (rank a ≡ rank b) ⊎ ((rank a < rank b) ⊎ (rank b < rank a)) → a ≡ b
odd_by element a b f g (inl same) = sym (at_rank a) ∙ ap odd_at same ∙ at_rank b
odd_by element a b f g (inr (inl before)) = absurd (lacks_and_has element a (g.earlier a before) f.here)
odd_by element a b f g (inr (inr behind)) = absurd (lacks_and_has element b (f.earlier b behind) g.here)

odds_one : (element : Element) (a b : Odd) → FirstOdd element a → FirstOdd element b → a ≡ b
odds_one element a b f g = odd_by element a b f g (cases_order (rank a) (rank b))

-- ---- the fault of an element

beside_odd : (tech : Tech) (element : Element) (offset : ℕ) (odd : Odd) (fault : ElementFault) → IsOddAt tech element offset odd → FaultOf tech element fault
    → Oddity offset odd ≡ fault
beside_odd tech element offset odd (Unmapped layer number) f g = absurd (unmapped_and_tested tech element (layer, number) g f.tested)
beside_odd tech element offset odd (Oddity offset' odd') f g =
    ap₂ (λ o d. Oddity o d) (f.at ∙ sym g.at) (odds_one element odd odd' f.first g.first)
beside_odd tech element offset odd (Steps offset') f g = absurd (lacks_and_has element odd (g.plain odd) f.first.here)

beside_unmapped : (tech : Tech) (element : Element) (pair : ℤ × ℤ) (fault : ElementFault) → IsUnmapped tech pair element → FaultOf tech element fault
    → Unmapped pair.0 pair.1 ≡ fault
beside_unmapped tech element pair (Unmapped layer number) f g =
    ap (λ (p : ℤ × ℤ). Unmapped p.0 p.1) (pairs_one element pair (layer, number) f.has g.has)
beside_unmapped tech element pair (Oddity offset odd) f g = absurd (unmapped_and_tested tech element pair f g.tested)
beside_unmapped tech element pair (Steps offset) f g = absurd (unmapped_and_tested tech element pair f g.tested)

beside_steps : (tech : Tech) (element : Element) (offset : ℕ) (fault : ElementFault) → FailsAt tech element offset → FaultOf tech element fault
    → Steps offset ≡ fault
beside_steps tech element offset (Unmapped layer number) f g = absurd (unmapped_and_tested tech element (layer, number) g f.tested)
beside_steps tech element offset (Oddity offset' odd) f g = absurd (lacks_and_has element odd (f.plain odd) g.first.here)
beside_steps tech element offset (Steps offset') f g = ap (λ o. Steps o) (f.at ∙ sym g.at)

fault_one : (tech : Tech) (element : Element) (a b : ElementFault) → FaultOf tech element a → FaultOf tech element b → a ≡ b
fault_one tech element (Unmapped layer number) b f g = beside_unmapped tech element (layer, number) b f g
fault_one tech element (Oddity offset odd) b f g = beside_odd tech element offset odd b f g
fault_one tech element (Steps offset) b f g = beside_steps tech element offset b f g

-- ---- the first of a list for which something doesn't hold

pub first_one : {X : Type 0} (P : X → Type 0) (before behind before' behind' : List X) (x y : X) → before ++ x ∷ behind ≡ before' ++ y ∷ behind'
    → All P before → All P before' → (P x → ⊥) → (P y → ⊥) → x ≡ y
first_one P [] behind [] behind' x y e all all' fails fails' = cc
first_one P [] behind (b ∷ before') behind' x y e all all' fails fails' =
    let same : b ≡ x = cc in absurd (fails (subst P same (All-head P b before' all')))
first_one P (b ∷ before) behind [] behind' x y e all all' fails fails' =
    let same : b ≡ y = cc in absurd (fails' (subst P same (All-head P b before all)))
first_one P (b ∷ before) behind (b' ∷ before') behind' x y e all all' fails fails' =
    let rest : before ++ x ∷ behind ≡ before' ++ y ∷ behind' = cc in
    first_one P before behind before' behind' x y rest (All-tail P b before all) (All-tail P b' before' all') fails fails'

pub first_fault_one : (tech : Tech) (elements : List Element) (a b : ElementFault) → FirstFault tech elements a → FirstFault tech elements b → a ≡ b
first_fault_one tech elements a b f g =
    let same : g.element ≡ f.element = first_one (Fine tech) g.before g.behind f.before f.behind g.element f.element (sym g.split ∙ f.split) g.fine f.fine
    (λ fine. fine_and_fault tech g.element b fine g.at) (λ fine. fine_and_fault tech f.element a fine f.at) in
    fault_one tech f.element a b f.at (subst (λ (e : Element). FaultOf tech e b) same g.at)
