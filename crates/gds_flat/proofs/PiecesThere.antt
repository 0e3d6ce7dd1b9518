-- The steps of references, and the items of elements, one after another.
use Rattle.std.proofs.Common.{◌≡◌, ℕ, ◌-◌, ◌%◌, ◌^◌, ◌<◌, nat_le, ℤ, pos, negsuc, List, [], ◌∷◌, ◌++◌, Option, Some, None, MatchOption, unsigned_abs, refl, sym, ap, subst, ◌∙◌, ⊎_elim, append_assoc, arith}
use Rattle.std.specs.Int.{int_rem_euclid}
use Rattle.std.proofs.lemmas.List.{append-nil}
use Rattle.std.proofs.lemmas.List.Elements.{All-nil, All-cons}
use Rattle.rt_tech.specs.declared.table.Tech.{Tech}
use Rattle.gds_records.specs.Reals.{IsQuarterTurns}
use Rattle.gds_stream.specs.declared.library.Element.{Element}
use Rattle.gds_stream.specs.declared.library.Element.TheVariants.{Boundary, Path, Sref, Aref, Label, BoxShape}
use Rattle.gds_stream.specs.declared.library.Structure.{Structure}
use Rattle.gds_stream.specs.declared.library.Place.{Place}
use Rattle.gds_slabs.specs.declared.step.Step.{Step}
use Rattle.gds_flat.specs.declared.error.Odd.TheVariants.{Angle}
use Rattle.gds_flat.specs.Reach.{Name, target}
use Rattle.gds_flat.specs.Elements.{pair_of, mask_of, IsWhole, Fine, point_at}
use Rattle.gds_flat.specs.Placing.{IsTurnOf, AreStepsTo, array_shifts, StepsOf}
use Rattle.gds_flat.specs.Items.PiecesOf.{none, own, placed}
use Rattle.gds_flat.specs.Items.{Piece, GivesOn, Own, all_moved, PiecesOf, Pieces}

-- ---- what an element gives by itself

-- one with a mask gives what it gives on it
pub own_some : (tech : Tech) (e : Element) (mask : ℕ) (a : List Piece) → mask_of tech e ≡ Some mask → GivesOn e mask a → Own tech e a
own_some tech e mask a mapped gives =
    let P : Option ℕ → Type 0 = λ m. MatchOption m (a ≡ []) (λ n. GivesOn e n a) in
    subst P (sym mapped) gives

-- ---- steps

low_rest : (z : ℤ) (q : ℕ) → pos q ≡ int_rem_euclid z (pos 4) → q < 4
low_rest (pos n) q e = let same : q ≡ n % 4 = cc in omega arith
low_rest (negsuc n) q e = let same : q ≡ 4 - 1 - n % 4 = cc in omega arith

-- fewer quarters than a turn has
pub quarters_low : (bytes : List ℕ) (q : ℕ) → IsQuarterTurns bytes q → q < 4
quarters_low bytes q turns = low_rest turns.quarters q turns.beside

-- the step that turns as the place says, with a shift
abbrev pub step_at : Place → (q : ℕ) → q < 4 → ℤ × ℤ → Step
step_at place q low s = record {
  orient = record { reflect = nat_le (2 ^ 15) place.flags; quarters = q; below_a_turn = low };
  dx = s.0;
  dy = s.1;
}

pub steps_to_there : (place : Place) (q : ℕ) → IsQuarterTurns place.angle q → (shifts : List (ℤ × ℤ)) → (steps : List Step) × AreStepsTo place shifts steps
steps_to_there place q turns [] = ([], record { turns = All-nil (IsTurnOf place); follow = refl })
steps_to_there place q turns (s ∷ shifts) =
    let low = quarters_low place.angle q turns in
    let r = steps_to_there place q turns shifts in
    let h : AreStepsTo place shifts r.0 = r.1 in (
      step_at place q low s ∷ r.0,
      record {
        turns = All-cons (IsTurnOf place) (step_at place q low s) r.0 (record { reflect = refl; quarters = turns }) h.turns;
        follow = ap (λ ss. s ∷ ss) h.follow;
      },
    )

-- a reference that is whole has its steps
pub steps_there : (e : Element) (to : Name) → target e ≡ Some to → IsWhole e → (steps : List Step) × StepsOf e steps
steps_there (Boundary offset layer datatype points) to t w = cc
steps_there (Path offset layer datatype pathtype width points) to t w = cc
steps_there (Sref offset name place at) to t w = let q = w.plain Angle in steps_to_there place q.0 q.1 ((at.x, at.y) ∷ [])
steps_there (Aref offset name place columns rows points) to t w =
    let q = w.plain Angle in
    let h = w.steps in
    let r = steps_to_there place q.0 q.1 (array_shifts (point_at points 0) h.0 h.1 (unsigned_abs columns) (unsigned_abs rows)) in
    (r.0, record { across = h.0; up = h.1; whole = h.2; are = r.1 })
steps_there (Label offset layer texttype at text) to t w = cc
steps_there (BoxShape offset layer boxtype) to t w = cc

no_pair : (e : Element) (to : Name) → target e ≡ Some to → pair_of e ≡ None
no_pair (Boundary offset layer datatype points) to t = cc
no_pair (Path offset layer datatype pathtype width points) to t = cc
no_pair (Sref offset name place at) to t = refl
no_pair (Aref offset name place columns rows points) to t = refl
no_pair (Label offset layer texttype at text) to t = cc
no_pair (BoxShape offset layer boxtype) to t = cc

-- a reference isn't passed over
pub whole_reference : (tech : Tech) (e : Element) (to : Name) → target e ≡ Some to → Fine tech e → IsWhole e
whole_reference tech e to t fine =
    ⊎_elim (λ dropped. let h = no_pair e to t in let g = dropped.has in cc) (λ tested. tested.1) fine

-- ---- items

-- elements and more elements
pub pieces_of_join : (library : List Structure) (tech : Tech) {es fs : List Element} {a b : List Piece} → PiecesOf library tech es a → PiecesOf library tech fs b
    → PiecesOf library tech (es ++ fs) (a ++ b)
pieces_of_join library tech none q = q
pieces_of_join library tech {b = b} (own e mine others t o r i) q =
    own e mine (others ++ b) t o (pieces_of_join library tech r q) (ap (λ x. x ++ b) i ∙ append_assoc mine others b)
pieces_of_join library tech {b = b} (placed e to s inner others steps t found p of r i) q =
    placed e to s inner (others ++ b) steps t found p of (pieces_of_join library tech r q)
    (ap (λ x. x ++ b) i ∙ append_assoc (all_moved steps inner) others b)

-- one element
pub pieces_of_own : (library : List Structure) (tech : Tech) (e : Element) (a : List Piece) → target e ≡ None → Own tech e a → PiecesOf library tech (e ∷ []) a
pieces_of_own library tech e a t o = own e a [] t o none (sym (append-nil a))

pub pieces_of_placed : (library : List Structure) (tech : Tech) (e : Element) (to : Name) (inner : List Piece) (steps : List Step) → target e ≡ Some to
    → Pieces library tech to inner → StepsOf e steps → PiecesOf library tech (e ∷ []) (all_moved steps inner)
pieces_of_placed library tech e to inner steps t p of =
    placed e to p.structure inner [] steps t p.found p.are of none (sym (append-nil (all_moved steps inner)))
