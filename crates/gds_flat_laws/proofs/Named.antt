-- The structure of a name is one of the library's, and has the name.
use Rattle.std.proofs.Common.{◌≡◌, ◌<◌, List, [], ◌∷◌, length, Some, Option, Bool, true, false, cond, suc, refl, ap, ◌∙◌, sym, subst, arith}
use Rattle.std.specs.Prelude.{All}
use Rattle.std.proofs.lemmas.Slice.Eq.{bytes_eq-Decides}
use Rattle.gds_stream.specs.declared.library.Structure.{Structure as Part}
use Rattle.gds_stream_laws.specs.Lawful.{IsLawfulStructure}
use Rattle.gds_flat.specs.Reach.{Name, is_named, structure_named}

by_name : (first : Part) (name : Name) (s : Part) (rest : Option Part) → IsLawfulStructure first
    → (rest ≡ Some s → IsLawfulStructure s × (s.name ≡ name)) → (b : Bool) → is_named name first ≡ b → cond b (Some first) rest ≡ Some s
    → IsLawfulStructure s × (s.name ≡ name)
by_name first name s rest lawful later true same e =
    let here : first ≡ s = cc in
    (subst IsLawfulStructure here lawful, ap (λ (z : Part). z.name) (sym here) ∙ (bytes_eq-Decides first.name name).0 same)
by_name first name s rest lawful later false same e = later e

-- the first structure of a name is one of the library's, and has it
pub found_named : (structures : List Part) (name : Name) (s : Part) → All IsLawfulStructure structures → structure_named structures name ≡ Some s
    → IsLawfulStructure s × (s.name ≡ name)
found_named [] name s lawful found = absurd cc
found_named (first ∷ structures) name s lawful found =
    by_name first name s (structure_named structures name) (lawful 0 first (omega arith))
    (λ e. found_named structures name s (λ i x below. lawful (suc i) x (omega arith)) e) (is_named name first) refl found
