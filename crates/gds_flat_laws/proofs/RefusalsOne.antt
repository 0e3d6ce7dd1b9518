-- A structure has one refusal at most, or is refused for circles.
use Rattle.std.proofs.Common.{◌≡◌, ◌≢◌, ℕ, ◌-◌, ◌^◌, min, inl, inr, List, [], ◌∷◌, length, refl, sym, ap, subst, ◌∙◌}
use Rattle.rt_tech.specs.declared.table.Tech.{Tech}
use Rattle.gds_stream.specs.declared.library.Structure.{Structure}
use Rattle.gds_flat.specs.declared.error.ElementFault.{ElementFault}
use Rattle.gds_flat.specs.declared.error.ElementFault.TheVariants.{Unmapped, Oddity, Steps}
use Rattle.gds_flat.specs.declared.error.FlatError.{FlatError}
use Rattle.gds_flat.specs.declared.error.FlatError.TheVariants.{Unsupported, NoSuchStructure, Cyclic, UnmappedLayer, ArrayStep, CoordinateRange, TooMany, TooDeep, OutOfMemory}
use Rattle.gds_flat.specs.Reach.{Name, Missing}
use Rattle.gds_flat.specs.Elements.{FirstFault}
use Rattle.gds_flat.specs.Items.{Piece, DrawingIsNear, FirstFar}
use Rattle.gds_flat.specs.Refused.{elements_along, HasCycle, IsTooDeep, IsFaulty, IsTooMany, IsTooFar, FlatRefused, refusal_of}
use Rattle.gds_flat.proofs.Sequences.{one_order, no_order_and_missing, one_missing}
use Rattle.gds_flat.proofs.PiecesOne.{pieces_one}
use Rattle.gds_flat_laws.specs.Agreement.{IsCyclic, AreOneRefusal}
use Rattle.gds_flat_laws.proofs.Refusals.{sound_and_cycle, shallow_and_deep, accepted_and_faulty, flattened_and_many}
use Rattle.gds_flat_laws.proofs.FaultsOne.{first_one, first_fault_one}

-- why a structure is refused
data Cause (library : List Structure) (top : Name) (tech : Tech) (error : FlatError) : Type 0 where
  missing : (name : Name) → error ≡ NoSuchStructure name → Missing library [] (top ∷ []) name → Cause library top tech error
  circle : (names : List Name) → error ≡ Cyclic names → HasCycle library top names → Cause library top tech error
  deep : error ≡ TooDeep → IsTooDeep library top → Cause library top tech error
  faulty : (fault : ElementFault) → error ≡ refusal_of fault → IsFaulty library top tech fault → Cause library top tech error
  many : (count : ℕ) → error ≡ TooMany count → IsTooMany library top tech count → Cause library top tech error
  far : (offset : ℕ) → error ≡ CoordinateRange offset → IsTooFar library top tech offset → Cause library top tech error

cause_of : (library : List Structure) (top : Name) (tech : Tech) (error : FlatError) → FlatRefused library top tech error → error ≢ OutOfMemory
    → Cause library top tech error
cause_of library top tech (Unsupported offset odd) h other = faulty (Oddity offset odd) refl h
cause_of library top tech (NoSuchStructure name) h other = missing name refl h
cause_of library top tech (Cyclic names) h other = circle names refl h
cause_of library top tech (UnmappedLayer layer number) h other = faulty (Unmapped layer number) refl h
cause_of library top tech (ArrayStep offset) h other = faulty (Steps offset) refl h
cause_of library top tech (CoordinateRange offset) h other = far offset refl h
cause_of library top tech (TooMany count) h other = many count refl h
cause_of library top tech TooDeep h other = deep refl h
cause_of library top tech OutOfMemory h other = absurd (other refl)

-- ---- two of one kind

faulty_one : (library : List Structure) (top : Name) (tech : Tech) (a b : ElementFault) → IsFaulty library top tech a → IsFaulty library top tech b → a ≡ b
faulty_one library top tech a b f g =
    let same : g.sound.order ≡ f.sound.order = one_order library g.sound.reached f.sound.reached in
    first_fault_one tech (elements_along library f.sound.order) a b f.first
    (subst (λ (o : List Name). FirstFault tech (elements_along library o) b) same g.first)

many_one : (library : List Structure) (top : Name) (tech : Tech) (m n : ℕ) → IsTooMany library top tech m → IsTooMany library top tech n → m ≡ n
many_one library top tech m n f g =
    f.counted ∙ ap (λ (ps : List Piece). min (length ps) (2 ^ 64 - 1)) (pieces_one library tech top f.pieces g.pieces f.are g.are) ∙ sym g.counted

first_far_one : (pieces : List Piece) (m n : ℕ) → FirstFar pieces m → FirstFar pieces n → m ≡ n
first_far_one pieces m n f g =
    let same : f.piece ≡ g.piece = first_one (λ p. DrawingIsNear p.drawing) f.before f.behind g.before g.behind f.piece g.piece (sym f.split ∙ g.split)
    f.near g.near f.far g.far in
    f.at ∙ ap (λ (p : Piece). p.offset) same ∙ sym g.at

far_one : (library : List Structure) (top : Name) (tech : Tech) (m n : ℕ) → IsTooFar library top tech m → IsTooFar library top tech n → m ≡ n
far_one library top tech m n f g =
    let same : g.pieces ≡ f.pieces = pieces_one library tech top g.pieces f.pieces g.are f.are in
    first_far_one f.pieces m n f.far (subst (λ (ps : List Piece). FirstFar ps n) same g.far)

-- ---- each kind beside any other

beside_missing : (library : List Structure) (top : Name) (tech : Tech) (name : Name) (error : FlatError) → Missing library [] (top ∷ []) name
    → Cause library top tech error → NoSuchStructure name ≡ error
beside_missing library top tech name error h (missing other e g) = ap (λ n. NoSuchStructure n) (one_missing library h g) ∙ sym e
beside_missing library top tech name error h (circle names e g) = absurd (no_order_and_missing library g.reached h)
beside_missing library top tech name error h (deep e g) = absurd (no_order_and_missing library g.reached h)
beside_missing library top tech name error h (faulty fault e g) = absurd (no_order_and_missing library g.sound.reached h)
beside_missing library top tech name error h (many count e g) = absurd (no_order_and_missing library g.accepted.sound.reached h)
beside_missing library top tech name error h (far offset e g) = absurd (no_order_and_missing library g.accepted.sound.reached h)

beside_circle : (library : List Structure) (top : Name) (tech : Tech) (names : List Name) (error : FlatError) → HasCycle library top names
    → Cause library top tech error → IsCyclic error
beside_circle library top tech names error h (missing name e g) = absurd (no_order_and_missing library h.reached g)
beside_circle library top tech names error h (circle others e g) = (others, e)
beside_circle library top tech names error h (deep e g) = absurd (sound_and_cycle library top names g.order g.reached g.acyclic h)
beside_circle library top tech names error h (faulty fault e g) = absurd (sound_and_cycle library top names g.sound.order g.sound.reached g.sound.acyclic h)
beside_circle library top tech names error h (many count e g) =
    let s = g.accepted.sound in absurd (sound_and_cycle library top names s.order s.reached s.acyclic h)
beside_circle library top tech names error h (far offset e g) =
    let s = g.accepted.sound in absurd (sound_and_cycle library top names s.order s.reached s.acyclic h)

beside_deep : (library : List Structure) (top : Name) (tech : Tech) (error : FlatError) → IsTooDeep library top → Cause library top tech error → TooDeep ≡ error
beside_deep library top tech error h (missing name e g) = absurd (no_order_and_missing library h.reached g)
beside_deep library top tech error h (circle names e g) = absurd (sound_and_cycle library top names h.order h.reached h.acyclic g)
beside_deep library top tech error h (deep e g) = sym e
beside_deep library top tech error h (faulty fault e g) = absurd (shallow_and_deep library top g.sound.shallow h.deep)
beside_deep library top tech error h (many count e g) = absurd (shallow_and_deep library top g.accepted.sound.shallow h.deep)
beside_deep library top tech error h (far offset e g) = absurd (shallow_and_deep library top g.accepted.sound.shallow h.deep)

beside_faulty : (library : List Structure) (top : Name) (tech : Tech) (a : ElementFault) (b : FlatError) → IsFaulty library top tech a
    → Cause library top tech b → refusal_of a ≡ b
beside_faulty library top tech a b h (missing name e g) = absurd (no_order_and_missing library h.sound.reached g)
beside_faulty library top tech a b h (circle names e g) = absurd (sound_and_cycle library top names h.sound.order h.sound.reached h.sound.acyclic g)
beside_faulty library top tech a b h (deep e g) = absurd (shallow_and_deep library top h.sound.shallow g.deep)
beside_faulty library top tech a b h (faulty fault e g) = ap refusal_of (faulty_one library top tech a fault h g) ∙ sym e
beside_faulty library top tech a b h (many count e g) = absurd (accepted_and_faulty library top tech a g.accepted h)
beside_faulty library top tech a b h (far offset e g) = absurd (accepted_and_faulty library top tech a g.accepted h)

beside_many : (library : List Structure) (top : Name) (tech : Tech) (count : ℕ) (error : FlatError) → IsTooMany library top tech count
    → Cause library top tech error → TooMany count ≡ error
beside_many library top tech count error h (missing name e g) = absurd (no_order_and_missing library h.accepted.sound.reached g)
beside_many library top tech count error h (circle names e g) =
    let s = h.accepted.sound in absurd (sound_and_cycle library top names s.order s.reached s.acyclic g)
beside_many library top tech count error h (deep e g) = absurd (shallow_and_deep library top h.accepted.sound.shallow g.deep)
beside_many library top tech count error h (faulty fault e g) = absurd (accepted_and_faulty library top tech fault h.accepted g)
beside_many library top tech count error h (many other e g) = ap (λ n. TooMany n) (many_one library top tech count other h g) ∙ sym e
beside_many library top tech count error h (far offset e g) = absurd (flattened_and_many library top tech g.pieces count g.are g.few h)

beside_far : (library : List Structure) (top : Name) (tech : Tech) (offset : ℕ) (error : FlatError) → IsTooFar library top tech offset
    → Cause library top tech error → CoordinateRange offset ≡ error
beside_far library top tech offset error h (missing name e g) = absurd (no_order_and_missing library h.accepted.sound.reached g)
beside_far library top tech offset error h (circle names e g) =
    let s = h.accepted.sound in absurd (sound_and_cycle library top names s.order s.reached s.acyclic g)
beside_far library top tech offset error h (deep e g) = absurd (shallow_and_deep library top h.accepted.sound.shallow g.deep)
beside_far library top tech offset error h (faulty fault e g) = absurd (accepted_and_faulty library top tech fault h.accepted g)
beside_far library top tech offset error h (many count e g) = absurd (flattened_and_many library top tech h.pieces count h.are h.few g)
beside_far library top tech offset error h (far other e g) = ap (λ n. CoordinateRange n) (far_one library top tech offset other h g) ∙ sym e

one_cause : (library : List Structure) (top : Name) (tech : Tech) (a b : FlatError) → Cause library top tech a → Cause library top tech b → AreOneRefusal a b
one_cause library top tech a b (missing name e h) d = inl (e ∙ beside_missing library top tech name b h d)
one_cause library top tech a b (circle names e h) d = inr ((names, e), beside_circle library top tech names b h d)
one_cause library top tech a b (deep e h) d = inl (e ∙ beside_deep library top tech b h d)
one_cause library top tech a b (faulty fault e h) d = inl (e ∙ beside_faulty library top tech fault b h d)
one_cause library top tech a b (many count e h) d = inl (e ∙ beside_many library top tech count b h d)
one_cause library top tech a b (far offset e h) d = inl (e ∙ beside_far library top tech offset b h d)

pub one_refusal : (library : List Structure) (top : Name) (tech : Tech) (a b : FlatError) → FlatRefused library top tech a → FlatRefused library top tech b
    → a ≢ OutOfMemory → b ≢ OutOfMemory → AreOneRefusal a b
one_refusal library top tech a b f g other other' = one_cause library top tech a b (cause_of library top tech a f other) (cause_of library top tech b g other')
